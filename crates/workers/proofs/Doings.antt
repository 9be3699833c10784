-- What a turn leaves of the others, how many turns are left, and who is still going.
use Rattle.std.proofs.Common.{◌≡◌, ℕ, zero, suc, ◌+◌, ◌-◌, ◌<◌, ◌≤◌, Bool, true, false, List, [], ◌∷◌, length, set, Some, slice_get, slice_index_or, refl, sym, ap, ◌∙◌, subst, inl, inr, arith}
use Rattle.std.specs.List.{Contains, sum_by, remove}
use Rattle.std.proofs.lemmas.Bool.{cases_eq, cases_lt}
use Rattle.std.proofs.lemmas.List.{length-set, get_or_default}
use Rattle.std.proofs.lemmas.List.Edits.{length-remove, get_or-remove_below, get_or-remove_above}
use Rattle.std.proofs.lemmas.List.Sums.{sum-map, sum_by-cons}
use Rattle.std.proofs.lemmas.Option.{none-some, same_Some}
use Rattle.worker_turns.specs.Progress.{Progress}
use Rattle.worker_turns.specs.Turns.{turns_left}
use Rattle.workers.specs.SharedState.{SharedState, TakesTurn, HasEnded}
use Rattle.workers.specs.SharedCalls.{TakesTurnIfAny, AreGoing, LeavesOthers, left_at, left_in}
use Rattle.workers.proofs.Lists.{found-others}

-- ---- the others

-- a turn leaves the others as they were
pub turn-leaves : (s : SharedState) (w : ℕ) (new : SharedState) → TakesTurn s w new → LeavesOthers s w new
turn-leaves s w new turn = record {
  let_in = ap (λ (z : SharedState). z.let_in) turn.is;
  as_many = ap (λ (z : SharedState). length z.workers) turn.is ∙ length-set s.workers w turn.q;
  others = λ v other. ap (λ (z : SharedState). slice_get z.workers v) turn.is ∙ found-others s.workers w turn.q v other;
}

pub steps-leave : (s : SharedState) (w : ℕ) (ended : Bool) (new : SharedState) → TakesTurnIfAny s w ended new → LeavesOthers s w new
steps-leave s w ended new stepped =
    elim stepped.turn [
      | inl turn ↦ turn-leaves s w new turn
      | inr none ↦ subst (LeavesOthers s w) (sym none.1) (record { let_in = refl; as_many = refl; others = λ v other. refl })
    ]

pub leaves-on : (s : SharedState) (w : ℕ) (mid new : SharedState) → LeavesOthers s w mid → LeavesOthers mid w new → LeavesOthers s w new
leaves-on s w mid new first second = record {
  let_in = second.let_in ∙ first.let_in;
  as_many = second.as_many ∙ first.as_many;
  others = λ v other. second.others v other ∙ first.others v other;
}

-- who was at its end is at its end where only another changed
pub ended-stays : (s : SharedState) (w : ℕ) (new : SharedState) → LeavesOthers s w new → (v : ℕ) → (v ≡ w → ⊥) → HasEnded s v → HasEnded new v
ended-stays s w new leaves v other ended = λ p early there. ended p (rw (← leaves.let_in) early) (sym (leaves.others v other) ∙ there)

-- ---- how many turns are left

left-fewer : (workers : List Progress) (w : ℕ) (p q : Progress) → slice_get workers w ≡ Some p → turns_left q < turns_left p → left_at (set workers w q) w < left_at workers w
left-fewer [] w p q there fewer = absurd (none-some p there)
left-fewer (z ∷ workers) zero p q there fewer = let is : turns_left z ≡ turns_left p = ap turns_left (same_Some z p there) in omega (arith, is, fewer)
left-fewer (z ∷ workers) (suc w) p q there fewer = left-fewer workers w p q there fewer

sum-fewer : (workers : List Progress) (w : ℕ) (p q : Progress) → slice_get workers w ≡ Some p → turns_left q < turns_left p → sum_by turns_left (set workers w q) < sum_by turns_left workers
sum-fewer [] w p q there fewer = absurd (none-some p there)
sum-fewer (z ∷ workers) zero p q there fewer =
    let is : turns_left z ≡ turns_left p = ap turns_left (same_Some z p there) in
    rw (sum_by-cons turns_left q workers, sum_by-cons turns_left z workers) (omega (arith, is, fewer))
sum-fewer (z ∷ workers) (suc w) p q there fewer =
    let rest = sum-fewer workers w p q there fewer in
    rw (sum_by-cons turns_left z (set workers w q), sum_by-cons turns_left z workers) (omega (arith, rest))

-- a turn takes one from those that its worker has left
pub turn-fewer_at : (s : SharedState) (w : ℕ) (new : SharedState) (turn : TakesTurn s w new) → turns_left turn.q < turns_left turn.p → left_at new.workers w < left_at s.workers w
turn-fewer_at s w new turn fewer = rw (turn.is) (left-fewer s.workers w turn.p turn.q turn.there fewer)

-- and from those that all have left
pub turn-fewer : (s : SharedState) (w : ℕ) (new : SharedState) (turn : TakesTurn s w new) → turns_left turn.q < turns_left turn.p → left_in new.workers < left_in s.workers
turn-fewer s w new turn fewer =
    rw (sum-map turns_left s.workers, turn.is) (rw (sum-map turns_left (set s.workers w turn.q)) (sum-fewer s.workers w turn.p turn.q turn.there fewer))

-- no more are left than before
pub steps-no_more : (s : SharedState) (w : ℕ) (ended : Bool) (new : SharedState) → TakesTurnIfAny s w ended new → left_in new.workers ≤ left_in s.workers
steps-no_more s w ended new stepped =
    elim stepped.turn [
      | inl turn ↦ let fewer = turn-fewer s w new turn (stepped.fewer turn) in omega (arith, fewer)
      | inr none ↦ let same : left_in new.workers ≡ left_in s.workers = ap (λ (z : SharedState). left_in z.workers) none.1 in omega (arith, same)
    ]

-- ---- who is going

-- none of an empty list is going
pub going-none : (s : SharedState) → AreGoing s [] → (w : ℕ) → HasEnded s w
going-none s going w = elim (going w) [ inl ended ↦ ended | inr inside ↦ absurd (omega (arith, inside.1)) ]

-- what a list has it has without this place, where that is another
contains-removed : (xs : List ℕ) (i w x : ℕ) → i < length xs → w ≡ slice_index_or xs i w → (x ≡ w → ⊥) → Contains xs x → Contains (remove xs i) x
contains-removed xs i w x low at other inside =
    let k = inside.0 in
    let within = inside.1 in
    let read = inside.2 in
    let size = length-remove xs i low in
    elim (cases_lt k i) [
      | inl below ↦ (k, omega (arith, size, below, low), get_or-remove_below xs i x k below low ∙ read)
      | inr above ↦ elim (cases_eq k i) [
        | inl same ↦ absurd (other (sym read ∙ ap (λ n. slice_index_or xs n x) same ∙ get_or_default xs i x w low ∙ sym at))
        | inr apart ↦
            let back : k - 1 + 1 ≡ k = omega (arith, above, apart) in (
              k - 1,
              omega (arith, size, above, apart, within),
              get_or-remove_above xs i x (k - 1) (omega (arith, above, apart)) low ∙ ap (λ n. slice_index_or xs n x) back ∙ read,
            )
      ]
    ]

-- those that aren't at their ends are in the list after a turn of one in it, and without it where that is at its end
pub going-after : (s : SharedState) (w : ℕ) (new : SharedState) (going : List ℕ) → TakesTurnIfAny s w false new → Contains going w → AreGoing s going → AreGoing new going
going-after s w new going stepped inside are =
    let leaves = steps-leave s w false new stepped in
    λ v.
    elim (cases_eq v w) [
      | inl same ↦ inr (subst (Contains going) (sym same) inside)
      | inr other ↦ elim (are v) [ inl ended ↦ inl (ended-stays s w new leaves v other ended) | inr found ↦ inr found ]
    ]

pub going-without : (s : SharedState) (w : ℕ) (new : SharedState) (going : List ℕ) (i : ℕ) → TakesTurnIfAny s w true new → i < length going → w ≡ slice_index_or going i w → AreGoing s going
    → AreGoing new (remove going i)
going-without s w new going i stepped low at are =
    let leaves = steps-leave s w true new stepped in
    λ v.
    elim (cases_eq v w) [
      | inl same ↦ inl (subst (HasEnded new) (sym same) (stepped.at_end refl))
      | inr other ↦ elim (are v) [
        | inl ended ↦ inl (ended-stays s w new leaves v other ended)
        | inr found ↦ inr (contains-removed going i w v low at other found)
      ]
    ]
