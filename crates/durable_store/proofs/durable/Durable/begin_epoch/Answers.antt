use Rattle.std.proofs.Common.{◌∙◌}
use Rattle.journal.specs.Journal.{written}
use Rattle.durable_store.specs.Epochs.{firsts}
use Rattle.durable_store.proofs.EpochWrites.{begun-behind, renewed-is}
use Rattle.durable_store.proofs.durable.Durable.begin_epoch.Goals as goal

pub returns-clause-behind : goal.returns-clause-behind
returns-clause-behind g c =
    begun-behind g.S.Store c.args.self.now c.begin_epoch.new.self c.deref.result.now c.in_ok-begin_epoch.field-0 c.requires (c.deref.ensures.value ∙ c.in_ok-states.ensures)
    c.in_ok-begin_epoch.ensures.kept c.in_ok-begin_epoch.ensures.written c.in_ok-begin_epoch.ensures.durable c.begin_epoch.ensures.clean c.begin_epoch.ensures.crash

pub returns-clause-written : goal.returns-clause-written
returns-clause-written g c = λ clean.
    renewed-is (written g.S.Store c.args.self.now.journal) (written g.S.Store c.begin_epoch.new.self) c.deref.result.now c.args.self.now.journal.header c.in_ok-begin_epoch.field-0
    (firsts c.args.self.now.store.types) (c.in_ok-begin_epoch.ensures.written clean) (c.deref.ensures.value ∙ c.in_ok-states.ensures) c.in_ok-begin_epoch.ensures.raised
    (c.in_ok-begin_epoch.ensures.last clean)
