-- With an exact relation a pair passes at each state of a set exactly where it commutes there, over all lists of operations.
use Rattle.std.proofs.Common.{◌≡◌, ◌↔◌, ℕ, ◌<◌, Bool, true, not, ◌&&◌, ◌||◌, [], ◌∷◌, Option, Some, None, IsSome, is_some, refl, inl, inr}
use Rattle.std.proofs.lemmas.Bool.{false≢true, cases_Bool, and_parts, and_from, or_right, or_left, not_from_false}
use Rattle.type_table.specs.Table.{Table, IsTable, next}
use Rattle.type_table.specs.Run.{Looks}
use Rattle.type_table.specs.Laws.{StepsWithin}
use Rattle.type_table.specs.Commute.{CommuteForward, CommutesBackward, CommutesBackwardBothWays}
use Rattle.type_table.proofs.Legal.{from_state}
use Rattle.table_checker.specs.Condition.{ends_relate, end_of_two, passes_forward, passes_backward, passes_both_ways}
use Rattle.exact_tables.specs.Exact.{IsExact}

-- the rest of a test whose premise holds
forced : (premise rest : Bool) → premise ≡ true → (not premise || rest) ≡ true → rest ≡ true
forced premise rest e h = rw e at h

-- a test whose rest holds where its premise does
guarded : (premise rest : Bool) → (premise ≡ true → rest ≡ true) → (not premise || rest) ≡ true
guarded premise rest leads =
    elim (cases_Bool premise) [
      | inl holds ↦ or_right (not premise) rest (leads holds)
      | inr fails ↦ or_left (not premise) rest (not_from_false premise fails)
    ]

-- ---- ends

-- both ends are there, and the first looks like the second
pub record AreEndsLike (T : Table) (x y : Option ℕ) : Type 0 where
  pub first : IsSome x
  pub second : IsSome y
  pub looks : Looks T x y

-- related ends are like each other
related_like : (T : Table) (related : ℕ → ℕ → Bool) → IsExact T related → (x y : Option ℕ) → ends_relate related x y ≡ true → AreEndsLike T x y
related_like T related exact (Some a) (Some b) h = record { first = refl; second = refl; looks = ((exact a b).0 h).2 }
related_like T related exact (Some a) None h = absurd (false≢true h)
related_like T related exact None y h = absurd (false≢true h)

-- where there is a state, it is one of the table
abbrev IsWithin : Table → Option ℕ → Type 0
IsWithin T x = (e : ℕ) → x ≡ Some e → e < T.states

-- and the converse
like_related : (T : Table) (related : ℕ → ℕ → Bool) → IsExact T related → (x y : Option ℕ) → IsWithin T x → IsWithin T y → AreEndsLike T x y → ends_relate related x y ≡ true
like_related T related exact (Some a) (Some b) x_in y_in like = (exact a b).1 (x_in a refl, y_in b refl, like.looks)
like_related T related exact (Some a) None x_in y_in like = absurd (false≢true like.second)
like_related T related exact None y x_in y_in like = absurd (false≢true like.first)

-- the end of two operations is a state of the table
end-within : StepsWithin → (T : Table) (s p q : ℕ) → IsTable T → IsWithin T (end_of_two T s p q)
end-within within T s p q table = λ e ended.
    let middle = from_state T (next T s p) (q ∷ []) (rw ended refl) in
    (within T middle.0 q e table (rw middle.1 at ended)).2

-- two orders of p and q from s
pub record Orders (T : Table) (related : ℕ → ℕ → Bool) (s p q : ℕ) : Type 0 where
  pub like : ends_relate related (end_of_two T s p q) (end_of_two T s q p) ≡ true → AreEndsLike T (end_of_two T s p q) (end_of_two T s q p)
  pub back : AreEndsLike T (end_of_two T s p q) (end_of_two T s q p) → ends_relate related (end_of_two T s p q) (end_of_two T s q p) ≡ true

orders : StepsWithin → (T : Table) (related : ℕ → ℕ → Bool) → IsTable T → IsExact T related → (s p q : ℕ) → Orders T related s p q
orders within T related table exact s p q = record {
  like = related_like T related exact (end_of_two T s p q) (end_of_two T s q p);
  back = like_related T related exact (end_of_two T s p q) (end_of_two T s q p) (end-within within T s p q table) (end-within within T s q p table);
}

-- ---- conditions

-- forward
pub forward-exactly : StepsWithin → (T : Table) (related : ℕ → ℕ → Bool) → IsTable T → IsExact T related → (set : ℕ → Bool) (p q : ℕ) →
    ((s : ℕ) → set s ≡ true → passes_forward T related p q s ≡ true) ↔ CommuteForward T set p q
unfolding passes_forward
forward-exactly within T related table exact set p q = (
  λ all s member p_legal q_legal.
      let ways = and_parts _ _ (forced (is_some (next T s p) && is_some (next T s q)) _ (and_from _ _ p_legal q_legal) (all s member)) in
      let like = (orders within T related table exact s p q).like ways.0 in
      let turned = (orders within T related table exact s q p).like ways.1 in
      (like.first, like.second, (like.looks, turned.looks)),
  λ commute s member. guarded (is_some (next T s p) && is_some (next T s q)) _ (λ both.
      let legal = and_parts (is_some (next T s p)) (is_some (next T s q)) both in
      let ends = commute s member legal.0 legal.1 in
      and_from _ _
      ((orders within T related table exact s p q).back (record { first = ends.0; second = ends.1; looks = (ends.2).0 }))
      ((orders within T related table exact s q p).back (record { first = ends.1; second = ends.0; looks = (ends.2).1 }))),
)

-- backward
pub backward-exactly : StepsWithin → (T : Table) (related : ℕ → ℕ → Bool) → IsTable T → IsExact T related → (set : ℕ → Bool) (p q : ℕ) →
    ((s : ℕ) → set s ≡ true → passes_backward T related p q s ≡ true) ↔ CommutesBackward T set p q
unfolding passes_backward
backward-exactly within T related table exact set p q = (
  λ all s member legal.
      let like = (orders within T related table exact s q p).like (forced (is_some (end_of_two T s q p)) _ legal (all s member)) in
      (like.second, like.looks),
  λ commute s member. guarded (is_some (end_of_two T s q p)) _ (λ legal.
      let ends = commute s member legal in
      (orders within T related table exact s q p).back (record { first = legal; second = ends.0; looks = ends.1 })),
)

-- backward both ways
pub both_ways-exactly : StepsWithin → (T : Table) (related : ℕ → ℕ → Bool) → IsTable T → IsExact T related → (set : ℕ → Bool) (p q : ℕ) →
    ((s : ℕ) → set s ≡ true → passes_both_ways T related p q s ≡ true) ↔ CommutesBackwardBothWays T set p q
unfolding passes_both_ways
both_ways-exactly within T related table exact set p q = (
  λ all s member legal.
      let ways = and_parts _ _ (forced (is_some (end_of_two T s q p)) _ legal (all s member)) in
      let like = (orders within T related table exact s q p).like ways.0 in
      let turned = (orders within T related table exact s p q).like ways.1 in
      (like.second, (like.looks, turned.looks)),
  λ commute s member. guarded (is_some (end_of_two T s q p)) _ (λ legal.
      let ends = commute s member legal in
      and_from _ _
      ((orders within T related table exact s q p).back (record { first = legal; second = ends.0; looks = (ends.1).0 }))
      ((orders within T related table exact s p q).back (record { first = ends.0; second = legal; looks = (ends.1).1 }))),
)
