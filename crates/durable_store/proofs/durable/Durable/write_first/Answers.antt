use Rattle.std.proofs.Common.{◌≡◌, ◌∙◌, ap, inl, inr, subst, sym}
use Rattle.std.proofs.lemmas.Result.{on_ok_weaker}
use Rattle.journal.specs.Contents.{Contents}
use Rattle.journal.specs.Journal.{Clean, written}
use Rattle.durable_store.specs.Durable.{with_all}
use Rattle.durable_store.specs.Epochs.{with_all_prepared}
use Rattle.durable_store.specs.Held.{ArePrepared}
use Rattle.durable_store.proofs.EpochWrites.{epoch-written, prepared-behind}
use Rattle.durable_store.proofs.durable.Durable.write_first.Given.{Over}
use Rattle.durable_store.proofs.durable.Durable.write_first.Goals as goal

pub write_since-requires-clause-behind : goal.write_since-requires-clause-behind
write_since-requires-clause-behind g c =
    prepared-behind g.S.Store c.args.self.now 0 c.prepare_all.new.journal c.deref.result.now c.requires.behind
    c.in_ok-prepare_all.ensures.kept c.in_ok-prepare_all.ensures.written c.in_ok-prepare_all.ensures.durable c.prepare_all.ensures.clean c.prepare_all.ensures.crash

pub write_since-requires-clause-prepared : goal.write_since-requires-clause-prepared
write_since-requires-clause-prepared g c = λ clean.
    let d = c.args.self.now in
    let is = c.in_ok-prepare_all.ensures.written clean ∙ ap (with_all_prepared (written g.S.Store d.journal)) c.deref.ensures.value in
    subst (λ (now : Contents). ArePrepared d.store.history now d.prepared.items) (sym is) (c.requires.prepared (c.prepare_all.ensures.clean clean))

-- all of it is written before the one commit
all : (g : Over) (c : goal.After-settle g) → Clean g.S.Store c.write_since.new.self.journal
    → written g.S.Store c.write_since.new.self.journal ≡ with_all (with_all_prepared (written g.S.Store c.args.self.now.journal) c.args.self.now.prepared.items) c.args.self.now.store.history
all g c clean =
    let rows = c.write_since.ensures.clean clean in
    epoch-written (written g.S.Store c.args.self.now.journal) (written g.S.Store c.prepare_all.new.journal) (written g.S.Store c.write_since.new.self.journal) c.args.self.now.store.history
    c.args.self.now.prepared.items (c.in_ok-prepare_all.ensures.written rows ∙ ap (with_all_prepared (written g.S.Store c.args.self.now.journal)) c.deref.ensures.value) (c.in_ok-write_since.ensures.written clean)

pub returns-clause-durable : goal.returns-clause-durable
returns-clause-durable g c = on_ok_weaker c.settle.result (λ is clean. is clean ∙ all g c (c.settle.ensures.clean clean)) c.settle.ensures.durable

pub returns-clause-crash : goal.returns-clause-crash
returns-clause-crash g c = λ db left. elim (c.settle.ensures.crash db left) [
  | inl is ↦ inl (c.prepare_all.ensures.clean (c.write_since.ensures.clean is.0), is.1, is.2 ∙ all g c is.0)
  | inr before ↦ inr (c.prepare_all.ensures.crash db (c.write_since.ensures.crash db before))
]
