use Rattle.std.proofs.Common.{ap, ◌∙◌}
use Rattle.object_trait.specs.declared.event.EventKind.TheVariants.{Abort}
use Rattle.store_laws.specs.Stored.{Stored}
use Rattle.script_run.specs.Turns.{by_script, event_turn}
use Rattle.script_run.proofs.Aborts.{aborted, was_open, abort-appends}
use Rattle.script_run.proofs.KeptEvents.{still-within}
use Rattle.script_run.proofs.Turns.{one_turn}
use Rattle.script_run.proofs.last_aborts.abort_open.Goals as goal

pub returns-in-Ok : goal.returns-in-Ok
returns-in-Ok g c =
    let s = c.args.store.now in
    let new = c.abort.new.self in
    let going = was_open s c.args.t c.in-Ok.ensures.0 in
    let is = c.in-Ok.ensures.1 ∙ abort-appends s c.args.t going in
    aborted s new c.args.t going
    (one_turn s new (event_turn s.history (Abort c.args.t)) is
    (c.write_last.ensures s.history (by_script (Abort c.args.t)) (ap (λ (z : Stored). z.history) is) (still-within s new _ c.known.ensures.within is)))
