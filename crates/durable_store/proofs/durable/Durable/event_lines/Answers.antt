use Rattle.std.proofs.Common.{◌≡◌, ◌∙◌, ap, sym}
use Rattle.std.proofs.lemmas.Result.{IfOk-weaker}
use Rattle.event_text.specs.EventText.{event_lines}
use Rattle.journal.specs.Journal.{Clean, written}
use Rattle.durable_store.specs.Durable.{kinds}
use Rattle.durable_store.proofs.CatchUp.{read-again}
use Rattle.durable_store.proofs.Stepped.{kinds-back}
use Rattle.durable_store.proofs.durable.Durable.event_lines.Goals as goal

pub returns-clause-sound : goal.returns-clause-sound
returns-clause-sound g c =
    read-again g.S.Store c.args.self.now c.event_lines.new.self c.event_lines.result c.requires.sound c.event_lines.ensures.kept c.event_lines.ensures.written c.event_lines.ensures.durable c.event_lines.ensures.clean c.event_lines.ensures.crash

-- the journal has the events of the store's history
pub returns-clause-happened : goal.returns-clause-happened
returns-clause-happened g c = IfOk-weaker c.event_lines.result _ _ (λ lines said clean.
    let was : Clean g.S.Store c.args.self.now.journal = c.event_lines.ensures.clean clean in
    let happened = (written g.S.Store c.args.self.now.journal).events in
    let same : happened ≡ kinds c.args.self.now.store.history = sym (ap kinds (c.requires.sound.history was) ∙ kinds-back happened) in
    said clean ∙ ap event_lines same) c.event_lines.ensures.said
