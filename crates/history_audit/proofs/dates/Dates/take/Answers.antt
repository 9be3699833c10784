use Rattle.std.proofs.Common.{length, refl, ap}
use Rattle.std.proofs.lemmas.Option.{slice_get_read}
use Rattle.object_trait.specs.declared.event.Event.{Event}
use Rattle.serial_order.specs.History.{committed_by}
use Rattle.history_audit.proofs.DatesKept.{dates-op}
use Rattle.history_audit.proofs.dates.Dates.take.Goals as goal

pub returns-in-Op-clause-taken : goal.returns-in-Op-clause-taken
returns-in-Op-clause-taken c =
    let events = c.args.events.now in
    let e : Event = c.index-events-at.result in
    let here = slice_get_read events (length events) c.args.at e refl c.requires.inside c.index-events-at.is in
    dates-op events c.args.at e here c.args.self.now c.requires.so_far c.op.new.self (ap committed_by c.in-Op.is) c.op.ensures.committed
    c.in-Op.t _ _ c.in-Op.is c.op.ensures.taken_back c.op.ensures.dates
