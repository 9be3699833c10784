use Rattle.std.proofs.Common.{◌≡◌, ◌∙◌, List, [], ◌∷◌, ap, drop, refl, sym, take}
use Rattle.std.proofs.lemmas.Result.{IfOk-weaker}
use Rattle.object_trait.specs.declared.event.EventKind.{EventKind}
use Rattle.event_text.specs.EventText.{events_of_kinds}
use Rattle.journal.specs.Journal.{Clean, written}
use Rattle.durable_store.specs.Durable.{kinds}
use Rattle.durable_store.proofs.CatchUp.{read-again}
use Rattle.durable_store.proofs.Stepped.{kinds-back}
use Rattle.durable_store.proofs.durable.Durable.events.Goals as goal

pub returns-clause-sound : goal.returns-clause-sound
returns-clause-sound g c =
    read-again g.S.Store c.args.self.now c.events.new.self c.events.result c.requires.sound c.events.ensures.kept c.events.ensures.written c.events.ensures.durable c.events.ensures.clean c.events.ensures.crash

-- the journal has the events of the store's history
pub returns-clause-happened : goal.returns-clause-happened
returns-clause-happened g c = IfOk-weaker c.events.result _ _ (λ found said clean.
    let was : Clean g.S.Store c.args.self.now.journal = c.events.ensures.clean clean in
    let happened = (written g.S.Store c.args.self.now.journal).events in
    let same : happened ≡ kinds c.args.self.now.store.history = sym (ap kinds (c.requires.sound.history was) ∙ kinds-back happened) in
    said clean ∙ ap (λ es. take c.args.count (drop c.args.from es)) same) c.events.ensures.said
