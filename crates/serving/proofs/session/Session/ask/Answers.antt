use Rattle.std.proofs.Common.{◌∙◌}
use Rattle.journal.specs.Journal.{written}
use Rattle.serving.specs.Server.{begins_until}
use Rattle.serving.proofs.Attempts.{call-asked, under-asked}
use Rattle.serving.proofs.Results.{on-any}
use Rattle.serving.proofs.Staying.{stays-still}
use Rattle.serving.proofs.session.Session.ask.Goals as goal

pub returns-in-Would-clause-stays_in_epoch : goal.returns-in-Would-clause-stays_in_epoch
returns-in-Would-clause-stays_in_epoch g c = stays-still g.S.Store c.args.self.now c.requires

pub returns-in-Kept-clause-stays_in_epoch : goal.returns-in-Kept-clause-stays_in_epoch
returns-in-Kept-clause-stays_in_epoch g c = stays-still g.S.Store c.args.self.now c.requires

pub returns-in-Find-clause-stays_in_epoch : goal.returns-in-Find-clause-stays_in_epoch
returns-in-Find-clause-stays_in_epoch g c = stays-still g.S.Store c.args.self.now c.requires

pub returns-in-Stats-clause-stays_in_epoch : goal.returns-in-Stats-clause-stays_in_epoch
returns-in-Stats-clause-stays_in_epoch g c = stays-still g.S.Store c.args.self.now c.requires

pub returns-in-Extend-clause-stays_in_epoch : goal.returns-in-Extend-clause-stays_in_epoch
returns-in-Extend-clause-stays_in_epoch g c = stays-still g.S.Store c.args.self.now c.requires

pub returns-in-End-clause-stays_in_epoch : goal.returns-in-End-clause-stays_in_epoch
returns-in-End-clause-stays_in_epoch g c = stays-still g.S.Store c.args.self.now c.requires

pub returns-in_ok-calls-in-Peek-clause-stays_in_epoch : goal.returns-in_ok-calls-in-Peek-clause-stays_in_epoch
returns-in_ok-calls-in-Peek-clause-stays_in_epoch g c = on-any c.peek.result (stays-still g.S.Store c.args.self.now c.requires)

pub returns-in_ok-objects-in-Committed-clause-stays_in_epoch : goal.returns-in_ok-objects-in-Committed-clause-stays_in_epoch
returns-in_ok-objects-in-Committed-clause-stays_in_epoch g c = on-any c.committed.result (stays-still g.S.Store c.args.self.now c.requires)

pub returns-in-Prepared-clause-stays_in_epoch : goal.returns-in-Prepared-clause-stays_in_epoch
returns-in-Prepared-clause-stays_in_epoch g c = on-any c.held.result (stays-still g.S.Store c.args.self.now c.requires)

pub returns-in-Call-clause-does : goal.returns-in-Call-clause-does
returns-in-Call-clause-does g c =
    let s = c.args.self.now in
    call-asked c.call.ensures.clean (begins_until s) s.names (written g.S.Store s.store.journal) s.store.prepared.items c.args.line.now s.store.store c.in-Call.x c.in-Call.t c.in-Call.call c.number_of-x.result c.call.result c.call.new.self.store.store
    c.args.request c.in-Call.is c.number_of-x.ensures c.call.ensures.does

pub returns-in_ok-calls-in-DoUnder-clause-does : goal.returns-in_ok-calls-in-DoUnder-clause-does
returns-in_ok-calls-in-DoUnder-clause-does g c =
    let s = c.args.self.now in
    under-asked _ (begins_until s) s.names (written g.S.Store s.store.journal) s.store.prepared.items c.args.line.now s.store.store c.in-DoUnder.key c.deref-in-DoUnder.result.now c.attempt_under.result c.attempt_under.new.self.store.store c.args.request
    c.in-DoUnder.is (c.deref-in-DoUnder.ensures.value ∙ c.in_ok-calls-in-DoUnder.ensures) c.attempt_under.ensures.does
