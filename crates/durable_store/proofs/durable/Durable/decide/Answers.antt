use Rattle.std.proofs.Common.{◌≡◌, ◌∙◌, None, inl, inr, ap, sym, subst}
use Rattle.std.proofs.lemmas.Result.{IfOk-weaker}
use Rattle.store_laws.specs.Stored.{Stored}
use Rattle.journal.specs.Contents.{Contents}
use Rattle.journal.specs.Journal.{written}
use Rattle.durable_store.specs.Held.{first_passing, has_key}
use Rattle.durable_store.specs.Keys.{IsFree, IsInState}
use Rattle.durable_store.specs.Votes.{Decides}
use Rattle.durable_store.proofs.HeldKeys.{nobody-under}
use Rattle.durable_store.proofs.durable.Durable.decide.Goals as goal

pub returns-in-Prepared-clause-decides : goal.returns-in-Prepared-clause-decides
returns-in-Prepared-clause-decides g c = λ clean.
    let d = c.args.self.now in
    let key = c.args.key in
    let was = c.state_of.ensures.clean clean in
    let knows = c.in_ok-outcome.ensures.knows clean in
    let none : first_passing (has_key key) d.prepared.items ≡ None = ap (first_passing (has_key key)) (sym c.deref.ensures.value) ∙ sym c.in_default.ensures in
    elim c.in-Prepared.is [
      | inl is ↦ absurd (nobody-under g.S.Store d key c.requires was none (subst (IsInState (written g.S.Store d.journal) key) is knows))
      | inr is ↦ (subst (IsInState (written g.S.Store d.journal) key) is knows, c.in_ok-outcome.ensures.store, c.in_ok-outcome.ensures.written clean)
    ]

pub returns-then-agrees-clause-decides : goal.returns-then-agrees-clause-decides
returns-then-agrees-clause-decides g c = λ clean.
    let key = c.args.key in
    let c' = written g.S.Store c.args.self.now.journal in
    let kept = subst (IsInState c' key) c.in-Known.is (c.in_ok-outcome.ensures.knows clean) in
    inr (inl (c.in-Known.outcome, kept, sym c.agrees.ensures ∙ c.if-agrees.true, c.in_ok-outcome.ensures.written clean), c.in_ok-outcome.ensures.store)

pub decide_unknown-requires-clause-free : goal.decide_unknown-requires-clause-free
decide_unknown-requires-clause-free g c = λ clean.
    let key = c.args.key in
    let free : IsFree (written g.S.Store c.args.self.now.journal) key = subst (IsInState (written g.S.Store c.args.self.now.journal) key) c.in-Free.is (c.in_ok-outcome.ensures.knows clean) in
    subst (λ (f : Contents). IsFree f key) (sym (c.in_ok-outcome.ensures.written clean)) free

pub returns-in-Free-clause-decides : goal.returns-in-Free-clause-decides
returns-in-Free-clause-decides g c =
    let mid = c.state_of.new.self in
    let new = c.decide_unknown.new.self in
    let now = written g.S.Store new.journal in
    IfOk-weaker c.decide_unknown.result _ _
    (λ verdict does clean.
    subst (λ (s : Stored). Decides s new.store (written g.S.Store c.args.self.now.journal) now c.args.key c.args.decision verdict) c.in_ok-outcome.ensures.store
    (subst (λ (f : Contents). Decides mid.store new.store f now c.args.key c.args.decision verdict) (c.in_ok-outcome.ensures.written (c.decide_unknown.ensures.clean clean)) (does clean)))
    c.decide_unknown.ensures.decides
