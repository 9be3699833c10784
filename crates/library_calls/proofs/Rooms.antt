-- A room that is filled place by place.
use Rattle.std.proofs.Common.{◌≡◌, ℕ, zero, suc, ◌+◌, ◌-◌, ◌<◌, ◌≤◌, List, [], ◌∷◌, length, set, drop, Option, Some, None, slice_get, refl, sym, ap, ◌∙◌, inl, inr, arith}
use Rattle.std.proofs.lemmas.Bool.{cases_eq, cases_lt}
use Rattle.std.proofs.lemmas.Option.{slice_get_past}
use Rattle.type_table.proofs.Elements.{element_at, found-set, found-set_other}
use Rattle.object_trait.specs.declared.event.Event.{Event}
use Rattle.library_calls.specs.Histories.{cell_after, IsFilled}
use Rattle.library_calls.specs.EventWords.{event_words}
use Rattle.library_calls.specs.declared.event_words.ColockEvent.{ColockEvent}

-- the first n places are filled
pub record FilledTo (H : List Event) (from n : ℕ) (old new : List ColockEvent) : Type 0 where
  pub done : (j : ℕ) → j < n → slice_get new j ≡ cell_after (slice_get old j) (slice_get H (from + j))
  pub rest : (j : ℕ) → n ≤ j → slice_get new j ≡ slice_get old j

pub filled_none : (H : List Event) (from : ℕ) (old : List ColockEvent) → FilledTo H from 0 old old
filled_none H from old = record { done = λ j j_in. absurd (omega (arith, j_in)); rest = λ j _. refl }

-- what a place that has something gets, where there is an event
given : (o : Option ColockEvent) (x : ColockEvent) (e : Event) → o ≡ Some x → cell_after o (Some e) ≡ Some (event_words e)
given o x e is = ap (λ p. cell_after p (Some e)) is

pub filled_more : (H : List Event) (from i : ℕ) (old new : List ColockEvent) (e : Event) → i < length old → length new ≡ length old → slice_get H (from + i) ≡ Some e
    → FilledTo H from i old new → FilledTo H from (i + 1) old (set new i (event_words e))
filled_more H from i old new e inside long is to = record {
  done = λ j j_in. elim (cases_eq j i) [
    | inl same ↦
        let x = element_at old i inside in
        ap (λ k. slice_get (set new i (event_words e)) k) same ∙ found-set new i (event_words e) (omega (arith, inside, long))
        ∙ sym (ap (λ k. cell_after (slice_get old k) (slice_get H (from + k))) same ∙ ap (cell_after (slice_get old i)) is ∙ given (slice_get old i) (x.0) e (x.1))
    | inr other ↦ let below : j < i = omega (arith, other, j_in) in found-set_other new i j (event_words e) other ∙ to.done j below
  ];
  rest = λ j past. let apart : j ≡ i → ⊥ = λ same. omega (arith, same, past) in found-set_other new i j (event_words e) apart ∙ to.rest j (omega (arith, past));
}

untold : (o : Option ColockEvent) (p : Option Event) → (o ≡ None) → cell_after o p ≡ o
untold o p is = ap (λ q. cell_after q p) is ∙ sym is

unfilled : (o : Option ColockEvent) → cell_after o None ≡ o
unfilled None = refl
unfilled (Some x) = refl

pub filled_all : (H : List Event) (from n : ℕ) (old new : List ColockEvent) → FilledTo H from n old new
    → ((j : ℕ) → n ≤ j → (length old ≤ j → ⊥) → length H ≤ from + j) → IsFilled H from old new
filled_all H from n old new to past i = elim (cases_lt i n) [
  | inl below ↦ to.done i below
  | inr above ↦ to.rest i above ∙ elim (cases_lt i (length old)) [
    | inl inside ↦ sym (ap (cell_after (slice_get old i)) (slice_get_past H (from + i) (past i above (λ far. omega (arith, far, inside)))) ∙ unfilled (slice_get old i))
    | inr outside ↦ sym (untold (slice_get old i) (slice_get H (from + i)) (slice_get_past old i outside))
  ]
]

-- ---- a history whose front was forgotten

-- what comes after this many elements
got_behind : {X : Type 0} (xs : List X) (f k : ℕ) → slice_get (drop f xs) k ≡ slice_get xs (f + k)
got_behind xs zero k = let same : k ≡ 0 + k = omega arith in ap (slice_get xs) same
got_behind [] (suc f) k = refl
got_behind (x ∷ xs) (suc f) k = let same : suc (f + k) ≡ suc f + k = omega arith in got_behind xs f k ∙ ap (slice_get (x ∷ xs)) same

-- a room that is filled from what is in memory is filled from the whole history
pub filled_behind : (H : List Event) (f from : ℕ) (old new : List ColockEvent) → f ≤ from → IsFilled (drop f H) (from - f) old new → IsFilled H from old new
filled_behind H f from old new le filled i =
    let place : f + ((from - f) + i) ≡ from + i = omega (arith, le) in
    filled i ∙ ap (cell_after (slice_get old i)) (got_behind H f ((from - f) + i) ∙ ap (slice_get H) place)
