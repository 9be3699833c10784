-- The numbers so far are one text that was taken whole.
use Rattle.std.proofs.Common.{Ok, take}
use Rattle.std.specs.List.{flat_map}
use Rattle.outputs.specs.Out.{Puts}
use Rattle.key_commands.specs.Prepared.{number_after_space}
use Rattle.key_commands.proofs.prepared_list.put_each_object.Given as goal

abbrev pub invariant-loop-x : goal.invariant-loop-x
invariant-loop-x g l = Puts (g.W.Out.taken l.fn.out) (g.W.Out.taken l.out) (g.W.Out.fault l.out) (flat_map number_after_space (take l.x-index l.objects)) (Ok tt)
