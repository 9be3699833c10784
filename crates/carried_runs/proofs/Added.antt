-- An epoch at whose end objects are added, as one in which they were there from the first on.
use Rattle.std.proofs.Common.{◌≡◌, ℕ, zero, suc, ◌≤◌, ◌⊎◌, inl, inr, true, List, [], ◌∷◌, ◌++◌, map, length, Option, Some, None, option_map, slice_get, refl, sym, ap, subst, ◌∙◌, length-append, arith}
use Rattle.std.proofs.lemmas.List.{length-map, map-append}
use Rattle.std.proofs.lemmas.Option.{none-some, same_Some, slice_get-map, slice_get_past}
use Rattle.type_table.specs.Run.{run, AreEqui}
use Rattle.type_table.specs.declared.kind.Kind.{Kind}
use Rattle.type_table.specs.declared.kind.Kind.TheVariants.{Undo, Intentions, Escrow}
use Rattle.type_table.proofs.Elements.{found-front, found-map}
use Rattle.table_checker.specs.At.{checked_at}
use Rattle.table_checker.specs.Checked.{Checked}
use Rattle.object_trait.specs.Object.{Object, CoversBy, object_of}
use Rattle.object_trait.specs.Laws.{CheckedIsCovered}
use Rattle.object_trait.specs.declared.event.Event.{Event}
use Rattle.object_trait.specs.declared.event.EventKind.{EventKind}
use Rattle.object_trait.specs.declared.event.EventKind.TheVariants as kind
use Rattle.object_trait.specs.declared.event.EventKind.TheVariants.{Begin, Op, Busy, Commit, Abort, Rollback}
use Rattle.serial_order.specs.Operations.{at_object, ops, serial}
use Rattle.serial_order.specs.History.{Summary, summary, commits, surviving}
use Rattle.serial_order.specs.Machine.{May, MayDo, MayBeBusy, MayHaveNone, RunsOn}
use Rattle.serial_order.specs.Laws.{AreChecked}
use Rattle.serial_order.specs.Epochs.{Epoch, types_at}
use Rattle.serial_order.proofs.EpochTypes.{found-parts}
use Rattle.committed_states.specs.Committed.{IsCommitted, IsCommittedBy}
use Rattle.carried_runs.specs.OpenEpochs.{IsOpenEpoch}
use Rattle.carried_runs.proofs.Types.{none-there, type-there}

-- ---- a run of some objects is one of more

-- what is said of what is at a place, and isn't where nothing is, is said where more come behind
at-more : {A : Type 0} (xs more : List A) (x : ℕ) (Q : Option A → Type 0) → (Q None → ⊥) → Q (slice_get xs x) → Q (slice_get (xs ++ more) x)
at-more {A} xs more x Q none said = found (slice_get xs x) refl said
  where
    found : (r : Option A) → slice_get xs x ≡ r → Q r → Q (slice_get (xs ++ more) x)
    found None is fact = absurd (none fact)
    found (Some a) is fact = subst Q (sym (found-front xs more x a is)) fact

may-more : (objects more : List Object) (s : Summary) (happened : EventKind) → May objects s happened → May (objects ++ more) s happened
may-more objects more s (Begin t) may = may
may-more objects more s (Op k t x) may = (may.0, at-more objects more x (λ r. MayDo r s x t k) (λ none. none) may.1)
may-more objects more s (Busy c t x u) may = (may.0, at-more objects more x (λ r. MayBeBusy r s x t c u) (λ none. none) may.1)
may-more objects more s (kind.None t x c) may = (may.0, at-more objects more x (λ r. MayHaveNone r s x t c) (λ none. none) may.1)
may-more objects more s (Commit t) may = may
may-more objects more s (Abort t) may = may
may-more objects more s (Rollback t n) may = may

runs-more : (objects more : List Object) (before V : List Event) → RunsOn objects before V → RunsOn (objects ++ more) before V
runs-more objects more before [] on = tt
runs-more objects more before (e ∷ V) on = (may-more objects more (summary before) e.kind on.0, runs-more objects more (before ++ e ∷ []) V on.1)

-- ---- where nothing was done, the first state is a committed one

serial-nothing : (ts : List ℕ) → serial ts [] ≡ []
serial-nothing [] = refl
serial-nothing (t ∷ ts) = serial-nothing ts

first-inside : (kind : Kind) (o : Object) → CoversBy kind o → o.set o.table.initial ≡ true
first-inside Undo o covers = covers.begins_inside
first-inside Intentions o covers = covers.begins_inside
first-inside Escrow o covers = covers.begins_inside

first-reached : (kind : Kind) (o : Object) (C : List ℕ) → IsCommittedBy kind o o.table.initial C []
first-reached Undo o C = refl
first-reached Intentions o C =
    subst (λ W. AreEqui o.table (Some o.table.initial) (run o.table (Some o.table.initial) (ops W))) (sym (serial-nothing C)) ((λ ks legal. legal), λ ks legal. legal)
first-reached Escrow o C = ap (λ W. run o.table (Some o.table.initial) (ops W)) (serial-nothing C)

-- ---- the states at which they begin

abbrev pub firsts : List Checked → List ℕ
firsts types = map (λ (c : Checked). c.file.table.initial) types

types-at-firsts : (types : List Checked) → types_at types (firsts types) ≡ types
types-at-firsts [] = refl
types-at-firsts (c ∷ types) = ap (λ ts. c ∷ ts) (types-at-firsts types)

pub types-at-more : (types added : List Checked) (kept : List ℕ) → length kept ≡ length types → types_at (types ++ added) (kept ++ firsts added) ≡ types_at types kept ++ added
types-at-more [] added [] as_many = types-at-firsts added
types-at-more [] added (s ∷ kept) as_many = absurd (omega (arith, as_many))
types-at-more (c ∷ types) added [] as_many = absurd (omega (arith, as_many))
types-at-more (c ∷ types) added (s ∷ kept) as_many = ap (λ ts. checked_at c s ∷ ts) (types-at-more types added kept (omega (arith, as_many)))

-- a type and a state that are at one place were there, or the type is added and the state is its first
at-either : (types added : List Checked) (kept : List ℕ) (x : ℕ) (c : Checked) (s : ℕ) → length kept ≡ length types → slice_get (types ++ added) x ≡ Some c → slice_get (kept ++ firsts added) x ≡ Some s
    → ((slice_get types x ≡ Some c) × (slice_get kept x ≡ Some s)) ⊎ ((length types ≤ x) × (c.file.table.initial ≡ s))
at-either [] added [] x c s as_many there here =
    inr (omega arith, same_Some c.file.table.initial s (sym (slice_get-map (λ (c : Checked). c.file.table.initial) added x ∙ ap (option_map (λ (c : Checked). c.file.table.initial)) there) ∙ here))
at-either [] added (r ∷ kept) x c s as_many there here = absurd (omega (arith, as_many))
at-either (d ∷ types) added [] x c s as_many there here = absurd (omega (arith, as_many))
at-either (d ∷ types) added (r ∷ kept) zero c s as_many there here = inl (there, here)
at-either (d ∷ types) added (r ∷ kept) (suc x) c s as_many there here =
    elim (at-either types added kept x c s (omega (arith, as_many)) there here) [
      | inl before ↦ inl before
      | inr behind ↦ inr (omega (arith, behind.0), behind.1)
    ]

-- ---- the epoch

-- with the objects that are added, each at its first state
abbrev pub widened : Epoch → Epoch
widened e = record { history = e.history; kept = e.kept ++ firsts e.added; added = [] }

module _ (types : List Checked) (e : Epoch) (checked : AreChecked types) (ended : IsOpenEpoch types e) where
  pub all-checked : AreChecked (types ++ e.added)
  all-checked x c there =
      elim (found-parts types e.added x c there) [
        | inl before ↦ checked x c before
        | inr behind ↦ ended.added behind.0 c behind.1
      ]

  module _ (covers : CheckedIsCovered) where
    -- at what is added nothing was done
    untouched : (x : ℕ) (c : Checked) → slice_get (types ++ e.added) x ≡ Some c → length types ≤ x → IsCommitted (object_of c) c.file.table.initial x e.history
    untouched x c there past =
        let none : slice_get (map object_of types) x ≡ None = slice_get_past (map object_of types) x (omega (arith, past, length-map types object_of)) in
        let nothing : at_object x (surviving e.history) ≡ [] = none-there (map object_of types) e.history x ended.run none in
        record {
          inside = first-inside c.kind (object_of c) (covers c (all-checked x c there)).0;
          reached = subst (λ V. IsCommittedBy c.kind (object_of c) c.file.table.initial (commits e.history) V) (sym nothing) (first-reached c.kind (object_of c) (commits e.history));
        }

    states : (x : ℕ) (c : Checked) (s : ℕ) → slice_get (types ++ e.added) x ≡ Some c → slice_get (e.kept ++ firsts e.added) x ≡ Some s → IsCommitted (object_of c) s x e.history
    states x c s there here =
        elim (at-either types e.added e.kept x c s ended.as_many there here) [
          | inl before ↦ ended.kept x (object_of c) s (type-there types x c before.0) before.1
          | inr behind ↦ subst (λ r. IsCommitted (object_of c) r x e.history) behind.1 (untouched x c there behind.0)
        ]

    pub wider : IsOpenEpoch (types ++ e.added) (widened e)
    wider = record {
      run = subst (λ os. RunsOn os [] e.history) (sym (map-append object_of types e.added)) (runs-more (map object_of types) (map object_of e.added) [] e.history ended.run);
      as_many = omega (arith, length-append e.kept (firsts e.added), length-append types e.added, length-map e.added (λ (c : Checked). c.file.table.initial), ended.as_many);
      added = λ x c there. absurd (none-some c there);
      kept = λ x o s there here.
          let type = found-map object_of (types ++ e.added) x o there in
          subst (λ (p : Object). IsCommitted p s x e.history) type.2 (states x type.0 s type.1 here);
    }
