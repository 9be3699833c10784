-- As many marks as open transactions.
use Rattle.std.proofs.Common.{◌≡◌, ℕ, ◌<◌, ◌≤◌, true, eqb, ltb, List, [], ◌∷◌, length, refl, sym, ap, ◌∙◌, inl, inr, arith}
use Rattle.std.specs.List.{list_any, AllByRecursion}
use Rattle.std.proofs.lemmas.Bool.{cases_Bool, false≢true, eqb-true, lt-ltb}
use Rattle.std.proofs.lemmas.List.{length-map}
use Rattle.escrow_laws.specs.declared.bounded.Bounded.{Bounded}
use Rattle.escrow_laws.specs.declared.mark.OpenMark.{OpenMark}
use Rattle.object_trait.specs.Laws.{OpensAreCounted}
use Rattle.object_trait.specs.Meaning.{open_of, own_of}
use Rattle.object_trait.specs.Steps.{open_transactions}
use Rattle.object_trait.specs.declared.log_entry.LogEntry.{LogEntry}
use Rattle.object_trait.proofs.Rows.{ordered-differ}
use Rattle.escrow_manager.specs.Marks.{mark_owners}
use Rattle.escrow_manager.specs.Kept.{AreMarksOf}

-- whose marks they are
owner-any : (u : ℕ) (marks : List OpenMark) → list_any (λ t. eqb t u) (mark_owners marks) ≡ list_any (λ (o : OpenMark). eqb o.by u) marks
owner-any u [] = refl
owner-any u (o ∷ marks) = elim (cases_Bool (eqb o.by u)) [
  | inl is ↦ rw is refl
  | inr isnt ↦ rw isnt (owner-any u marks)
]

-- who is listed did something
listed-did : (own : ℕ → List ℕ) (u : ℕ) (marks : List OpenMark) → AllByRecursion (λ (o : OpenMark). own o.by ≡ [] → ⊥) marks → list_any (λ (o : OpenMark). eqb o.by u) marks ≡ true → own u ≡ [] → ⊥
listed-did own u [] some any none = false≢true any
listed-did own u (o ∷ marks) some any none = elim (cases_Bool (eqb o.by u)) [
  | inl is ↦ some.0 (ap own (eqb-true o.by u is) ∙ none)
  | inr isnt ↦ listed-did own u marks some.1 (rw isnt at any) none
]

-- what isn't empty has some
some-long : (ks : List ℕ) → (ks ≡ [] → ⊥) → 0 < length ks
some-long [] some = absurd (some refl)
some-long (k ∷ ks) some = omega arith

-- who did something has a mark, and nobody else
owner-did : (top : ℕ) (ops : List Bounded) (log : List LogEntry) (marks : List OpenMark) → AreMarksOf top ops (own_of log) marks → (u : ℕ) → list_any (λ t. eqb t u) (mark_owners marks) ≡ ltb 0 (length (open_of u log))
owner-did top ops log marks h u =
    owner-any u marks
    ∙ elim (cases_Bool (list_any (λ (o : OpenMark). eqb o.by u) marks)) [
      | inl any ↦
          let many = some-long (own_of log u) (listed-did (own_of log) u marks h.some any) in
          let long = length-map (open_of u log) (λ (e : LogEntry). e.op) in
          any ∙ sym (lt-ltb 0 (length (open_of u log)) (omega (arith, many, long)))
      | inr none ↦
          let long = length-map (open_of u log) (λ (e : LogEntry). e.op) in
          let nothing = ap length (h.all u none) in
          let empty : length (open_of u log) ≡ 0 = omega (arith, long, nothing) in
          none ∙ sym (ap (ltb 0) empty)
    ]

-- one mark for each open transaction, and no more than entries
pub count-marks : OpensAreCounted → (top : ℕ) (ops : List Bounded) (log : List LogEntry) (marks : List OpenMark) → AreMarksOf top ops (own_of log) marks →
    (length marks ≡ length (open_transactions log)) × (length marks ≤ length log)
count-marks count top ops log marks h =
    rw (length-map marks (λ (o : OpenMark). o.by)) at (count log (mark_owners marks) (ordered-differ (mark_owners marks) h.ordered) (owner-did top ops log marks h))
