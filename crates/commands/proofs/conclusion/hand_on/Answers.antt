use Rattle.std.proofs.Common.{Result, Ok, Err}
use Rattle.std.specs.Prelude.{OnErr}
use Rattle.std.proofs.KnownBytes.{Keeps-refl}
use Rattle.outputs.specs.Gathered.{waiting}
use Rattle.commands.proofs.conclusion.hand_on.Goals as goal

-- what is known at any error is known at this one
on_err : {T E : Type 0} (r : Result T E) (P : Type 0) → P → OnErr r P
on_err (Ok x) P known = tt
on_err (Err e) P known = known

pub returns-in-Some-clause-part : goal.returns-in-Some-clause-part
returns-in-Some-clause-part g c = (waiting c.args.out.now, Keeps-refl _)

pub returns-in-None-clause-part : goal.returns-in-None-clause-part
returns-in-None-clause-part g c = on_err c.flush.result _ (waiting c.flush.new.self, c.flush.ensures.bytes)
