use Rattle.std.proofs.Common.{◌≡◌, ◌∙◌, ap, inl, inr, refl}
use Rattle.std.proofs.lemmas.Result.{on_ok_weaker}
use Rattle.store_laws.specs.Stored.{Stored}
use Rattle.journal.specs.Journal.{Clean, written}
use Rattle.journal.proofs.StaysKnown.{let-go-none}
use Rattle.durable_store.specs.Durable.{kinds, with_all}
use Rattle.durable_store.specs.Epochs.{renewed, renewed_with, with_all_prepared}
use Rattle.durable_store.proofs.EpochWrites.{first-prepared, first-written}
use Rattle.durable_store.proofs.durable.Durable.write_epoch.Given.{Over}
use Rattle.durable_store.proofs.durable.Durable.write_epoch.Goals as goal

pub write_first-requires-clause-prepared : goal.write_first-requires-clause-prepared
write_first-requires-clause-prepared g c = λ clean.
    let old = c.args.self.now in
    let begun = c.begin_epoch.new.self in
    first-prepared old.store.history begun.store.history (written g.S.Store old.journal) (written g.S.Store begun.journal) (renewed (written g.S.Store old.journal) old.store.types) old.prepared.items begun.prepared.items
    (ap (λ (s : Stored). s.history) c.in_ok-begin_epoch.ensures.store) (ap (λ ps. ps.items) c.in_ok-begin_epoch.ensures.prepared) (c.in_ok-begin_epoch.ensures.written clean) refl (let-go-none (written g.S.Store old.journal).outcomes)
    (c.requires.prepared (c.begin_epoch.ensures.clean clean))

-- all of it is written by the one commit
all : (g : Over) (c : goal.After-write_first g) → Clean g.S.Store c.begin_epoch.new.self.journal
    → with_all (with_all_prepared (written g.S.Store c.begin_epoch.new.self.journal) c.begin_epoch.new.self.prepared.items) c.begin_epoch.new.self.store.history
    ≡ renewed_with (written g.S.Store c.args.self.now.journal) c.args.self.now.store.types (kinds c.args.self.now.store.history) c.args.self.now.prepared.items
all g c clean =
    let old = c.args.self.now in
    let begun = c.begin_epoch.new.self in
    first-written (written g.S.Store begun.journal) (renewed (written g.S.Store old.journal) old.store.types) old.store.history begun.store.history old.prepared.items begun.prepared.items
    (c.in_ok-begin_epoch.ensures.written clean) (ap (λ (s : Stored). s.history) c.in_ok-begin_epoch.ensures.store) (ap (λ ps. ps.items) c.in_ok-begin_epoch.ensures.prepared)

pub returns-clause-durable : goal.returns-clause-durable
returns-clause-durable g c = on_ok_weaker c.write_first.result (λ is clean. is clean ∙ all g c (c.write_first.ensures.clean clean)) c.write_first.ensures.durable

pub returns-clause-crash : goal.returns-clause-crash
returns-clause-crash g c = λ db left. elim (c.write_first.ensures.crash db left) [
  | inl is ↦ inl (c.begin_epoch.ensures.clean is.0, is.1, is.2 ∙ all g c is.0, c.in_ok-begin_epoch.ensures.last is.0)
  | inr before ↦ inr (c.begin_epoch.ensures.crash db before)
]
