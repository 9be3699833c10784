use Rattle.std.proofs.Common.{◌∙◌}
use Rattle.journal.specs.Journal.{written}
use Rattle.durable_store.specs.Epochs.{firsts}
use Rattle.durable_store.proofs.EpochWrites.{grown-behind, grown-is}
use Rattle.durable_store.proofs.durable.Durable.begin_growth.Goals as goal

pub returns-clause-behind : goal.returns-clause-behind
returns-clause-behind g c =
    grown-behind g.S.Store c.args.self.now c.extend_epoch.new.self c.args.texts.now c.args.lines.now c.deref.result.now c.in_ok-extend_epoch.field-0 c.requires.ahead (c.deref.ensures.value ∙ c.in_ok-states.ensures)
    c.in_ok-extend_epoch.ensures.kept c.in_ok-extend_epoch.ensures.written c.in_ok-extend_epoch.ensures.durable c.extend_epoch.ensures.clean c.extend_epoch.ensures.crash

pub returns-clause-written : goal.returns-clause-written
returns-clause-written g c = λ clean.
    grown-is (written g.S.Store c.args.self.now.journal) (written g.S.Store c.extend_epoch.new.self) c.args.texts.now c.args.lines.now c.deref.result.now c.args.self.now.journal.header c.in_ok-extend_epoch.field-0
    (firsts c.args.self.now.store.types) (c.in_ok-extend_epoch.ensures.written clean) (c.deref.ensures.value ∙ c.in_ok-states.ensures) c.in_ok-extend_epoch.ensures.raised
    (c.in_ok-extend_epoch.ensures.last clean)
