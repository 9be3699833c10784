-- Committed states that are put into a room.
use Rattle.std.proofs.Common.{◌≡◌, ℕ, ◌+◌, ◌<◌, ◌≤◌, List, ◌++◌, length, take, drop, set, Some, slice_get, refl, sym, ap, subst, ◌∙◌, inl, inr, arith}
use Rattle.std.proofs.lemmas.Bool.{cases_eq}
use Rattle.std.proofs.lemmas.List.{take-append-drop, length-take-le}
use Rattle.std.proofs.lemmas.Option.{same_Some, slice_get_within}
use Rattle.type_table.proofs.Elements.{found-set, found-set_other, slice_get-front}
use Rattle.store_laws.specs.Stored.{Stored, objects}
use Rattle.store.specs.CommittedStates.{IsCommittedState}
use Rattle.library_calls.specs.Reads.{HasSnapshot}
use Rattle.library_calls.proofs.AttemptRooms.{left-behind}

-- the first n places of the room have committed states of their objects, and the others what they had
pub record StatesUpTo (s : Stored) (old room : List ℕ) (n : ℕ) : Type 0 where
  pub each : (x state : ℕ) → x < n → slice_get room x ≡ Some state → IsCommittedState s x state
  pub rest : drop n room ≡ drop n old

pub none-yet : (s : Stored) (room : List ℕ) → StatesUpTo s room room 0
none-yet s room = record { each = λ x state inside there. absurd (omega (arith, inside)); rest = refl }

pub one-more : (s : Stored) (old room : List ℕ) (n state : ℕ) → n < length room → IsCommittedState s n state → StatesUpTo s old room n → StatesUpTo s old (set room n state) (n + 1)
one-more s old room n state inside is so_far = record { each = each; rest = left-behind room old n state so_far.rest }
  where
    each : (x found : ℕ) → x < n + 1 → slice_get (set room n state) x ≡ Some found → IsCommittedState s x found
    each x found within there = elim (cases_eq x n) [
      | inl same ↦
          let here : slice_get (set room n state) n ≡ Some found = ap (λ k. slice_get (set room n state) k) (sym same) ∙ there in
          let its : state ≡ found = same_Some state found (sym (found-set room n state inside) ∙ here) in
          subst (λ (k : ℕ). IsCommittedState s k found) (sym same) (subst (λ (v : ℕ). IsCommittedState s n v) its is)
      | inr other ↦ so_far.each x found (omega (arith, other, within)) (sym (found-set_other room n x state other) ∙ there)
    ]

-- so when all objects have theirs
pub all-taken : (s : Stored) (old room : List ℕ) (n : ℕ) → n ≡ length (objects s) → n ≤ length room → StatesUpTo s old room n → HasSnapshot s old room
all-taken s old room n all fits so_far = record {
  states = take n room;
  snapshot = record {
    as_many = long ∙ all;
    each = each;
    read = λ x o state there is.
        let its = each x state is in
        let same = same_Some its.o o (sym its.there ∙ there) in
        rw same at its.committed;
  };
  room = sym (take-append-drop n room) ∙ ap (λ l. take n room ++ l) (so_far.rest ∙ ap (λ k. drop k old) (sym long));
}
  where
    long : length (take n room) ≡ n
    long = length-take-le n room fits

    each : (x state : ℕ) → slice_get (take n room) x ≡ Some state → IsCommittedState s x state
    each x state is =
        let within : x < length (take n room) = slice_get_within (take n room) x state is in
        let there : slice_get room x ≡ Some state =
        ap (λ l. slice_get l x) (sym (take-append-drop n room)) ∙ slice_get-front (take n room) (drop n room) x within ∙ is
        in
        so_far.each x state (omega (arith, within, long)) there
