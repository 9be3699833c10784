-- What the events of a worked history do to what a store keeps.
use Rattle.std.proofs.Common.{◌≡◌, ℕ, zero, suc, [], ◌∷◌, Some, slice_get, refl, subst, arith}
use Rattle.std.specs.Prelude.{take}
use Rattle.std.proofs.lemmas.Bool.{false≢true}
use Rattle.std.proofs.lemmas.Option.{none-some, same_Some}
use Rattle.type_table.specs.declared.kind.Kind.TheVariants.{Intentions}
use Rattle.object_trait.specs.Examples as object
use Rattle.type_table.specs.Table.{next}
use Rattle.object_trait.specs.Meaning.{Meaning}
use Rattle.object_trait.specs.declared.event.EventKind.{EventKind}
use Rattle.object_trait.specs.declared.event.EventKind.TheVariants.{Begin, Op, Commit, Rollback}
use Rattle.serial_order.specs.History.{Summary, summary}
use Rattle.serial_order.specs.Represent.{Changes}
use Rattle.object_calls.specs.Ends.{is_at, ChangesAt}
use Rattle.object_calls.specs.declared.end.End.TheVariants as end
use Rattle.store_laws.specs.Kept.{IsKept}
use Rattle.store_laws.specs.Moves.{Moves, StaysKept}
use Rattle.store_laws.specs.Events.{OpMoves, EndMoves, RollbackMoves}
use Rattle.store_laws.specs.Examples.{by_seven, one_up, new_counters, counters_begun, counted, committed}

-- ---- two objects

-- what happens to each of two objects happens at each place
both-change : (s : Summary) (happened : EventKind) (a b c d : Meaning) → Changes 0 s happened a c → Changes 1 s happened b d
    → (x : ℕ) (m n : Meaning) → slice_get (a ∷ b ∷ []) x ≡ Some m → slice_get (c ∷ d ∷ []) x ≡ Some n → Changes x s happened m n
both-change s happened a b c d first second zero m n was is =
    subst (λ k. Changes 0 s happened k n) (same_Some a m was) (subst (λ k. Changes 0 s happened a k) (same_Some c n is) first)
both-change s happened a b c d first second (suc zero) m n was is =
    subst (λ k. Changes 1 s happened k n) (same_Some b m was) (subst (λ k. Changes 1 s happened b k) (same_Some d n is) second)
both-change s happened a b c d first second (suc (suc x)) m n was is = absurd (none-some m was)

-- ---- each event

-- the transaction begins
begins : Moves new_counters counters_begun [] (record { worker = 7; kind = Begin 0 })
begins = record {
  as_many = refl;
  objects = both-change (summary []) (Begin 0) _ _ _ _ refl refl;
  rows = refl;
}

-- counts up at the second object
counts : Moves counters_begun counted (take 1 one_up) (record { worker = 7; kind = Op 0 0 1 })
counts = record {
  as_many = refl;
  objects = both-change (summary (take 1 one_up)) (Op 0 0 1) _ _ _ _ refl refl;
  rows = record { row = by_seven []; was = refl; becomes = refl };
}

-- it has an entry
has_entry : object.held 0 0 ∷ [] ≡ [] → ⊥
has_entry none = cc

-- and commits
commits : Moves counted committed (take 2 one_up) (record { worker = 7; kind = Commit 0 })
unfolding next
commits = record {
  as_many = refl;
  objects =
      both-change (summary (take 2 one_up)) (Commit 0) _ _ _ _
      (record { checked = refl; commit = record { moved = []; front = refl; done = tt; reached = refl } })
      (record { checked = refl; commit = record { rest = refl; inside = refl; reached = (λ ks legal. legal, λ ks legal. legal); still = λ none. absurd (has_entry none) } });
  rows = record { row = by_seven (1 ∷ []); was = refl; becomes = refl };
}

-- ---- the same, by the laws

-- of two, the second is changed, and the first is as it was
changes-second : {A : Type 0} (change : ℕ → A → A → Type 0) (a b c : A) → change 1 b c → ChangesAt (1 ∷ []) change (a ∷ b ∷ []) (a ∷ c ∷ [])
changes-second change a b c second = record { as_many = refl; changed = at-second change a b c second; others = first change a b c }
  where
    at-second : {A : Type 0} (change : ℕ → A → A → Type 0) (a b c : A) → change 1 b c → (x : ℕ) (m n : A) → slice_get (a ∷ b ∷ []) x ≡ Some m
        → slice_get (a ∷ c ∷ []) x ≡ Some n → is_at (1 ∷ []) x → change x m n
    at-second change a b c second zero m n was is inside = absurd (false≢true inside)
    at-second change a b c second (suc zero) m n was is inside =
        subst (λ k. change 1 k n) (same_Some b m was) (subst (λ k. change 1 b k) (same_Some c n is) second)
    at-second change a b c second (suc (suc x)) m n was is inside = absurd (none-some m was)

    first : {A : Type 0} (change : ℕ → A → A → Type 0) (a b c : A) → (x : ℕ) → (is_at (1 ∷ []) x → ⊥) → slice_get (a ∷ c ∷ []) x ≡ slice_get (a ∷ b ∷ []) x
    first change a b c zero outside = refl
    first change a b c (suc zero) outside = absurd (outside refl)
    first change a b c (suc (suc x)) outside = refl

-- the transaction counts up
pub counts-by_law : OpMoves → IsKept counters_begun (take 1 one_up) → Moves counters_begun counted (take 1 one_up) (record { worker = 7; kind = Op 0 0 1 })
counts-by_law moves kept =
    moves counters_begun counted (take 1 one_up) 7 0 1 0 (by_seven []) (object.counter_at Intentions 0 []) kept refl refl refl refl

-- takes it back
pub takes_back-by_law : RollbackMoves → IsKept counted (take 2 one_up) → Moves counted counters_begun (take 2 one_up) (record { worker = 7; kind = Rollback 0 1 })
takes_back-by_law moves kept =
    moves counted counters_begun (take 2 one_up) 7 0 1 (by_seven (1 ∷ [])) kept refl
    (changes-second _ _ _ _ (record { checked = refl; strike = record { same_base = refl; rest = refl } }))
    refl

-- or commits
pub commits-by_law : EndMoves → IsKept counted (take 2 one_up) → Moves counted committed (take 2 one_up) (record { worker = 7; kind = Commit 0 })
unfolding next
commits-by_law moves kept =
    moves end.Commit counted committed (take 2 one_up) 7 0 (by_seven (1 ∷ [])) kept refl
    (changes-second _ _ _ _
    (record { checked = refl; commit = record { rest = refl; inside = refl; reached = (λ ks legal. legal, λ ks legal. legal); still = λ none. absurd (has_entry none) } }))
    refl

-- ---- what is kept after each

module _ (stays : StaysKept) (new : IsKept new_counters []) where
  pub begun-kept : IsKept counters_begun (take 1 one_up)
  begun-kept = stays new_counters counters_begun [] (record { worker = 7; kind = Begin 0 }) new refl begins (omega arith)

  pub counted-kept : IsKept counted (take 2 one_up)
  unfolding next
  counted-kept = stays counters_begun counted (take 1 one_up) (record { worker = 7; kind = Op 0 0 1 }) begun-kept (refl, (refl, refl, tt)) counts (omega arith)

  pub committed-kept : IsKept committed one_up
  committed-kept = stays counted committed (take 2 one_up) (record { worker = 7; kind = Commit 0 }) counted-kept refl commits (omega arith)
