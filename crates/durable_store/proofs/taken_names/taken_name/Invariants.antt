-- The names so far, which are new.
use Rattle.std.proofs.Common.{◌++◌, take}
use Rattle.durable_store.specs.Names.{HaveNewNames, SayNames}
use Rattle.durable_store.proofs.taken_names.taken_name.Given as goal

abbrev pub invariant-loop-x : goal.invariant-loop-x
invariant-loop-x l = record {
  say : SayNames (l.known ++ take l.x l.lines) l.names.keys;
  new : HaveNewNames l.known (take l.x l.lines);
}
