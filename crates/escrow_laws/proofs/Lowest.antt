-- The fall and the rise of a list are how low and how high its fronts end.
use Rattle.std.proofs.Common.{◌≡◌, ℕ, suc, ◌+◌, ◌≤◌, List, [], ◌∷◌, take, drop, Some, sym, inl, inr, arith}
use Rattle.std.proofs.lemmas.Bool.{cases_lt}
use Rattle.std.proofs.lemmas.List.{take-append-drop}
use Rattle.type_table.specs.Table.{Table}
use Rattle.type_table.specs.Run.{run, IsLegal}
use Rattle.type_table.proofs.Legal.{some_state, legal-front}
use Rattle.escrow_laws.specs.Amounts.{Amounts, IsNumeric, fall, rise}
use Rattle.escrow_laws.specs.Laws.{FallIsLowest, RiseIsHighest}
use Rattle.escrow_laws.proofs.Runs.{run-step, run-moved, front-falls, front-rises}

-- a front at whose end the number is at the lowest: how many operations, and that it ends so far below its start
pub record Falls (T : Table) (a : Amounts) (ks : List ℕ) : Type 0 where
  pub count : ℕ
  pub ends : (s e : ℕ) → run T (Some s) (take count ks) ≡ Some e → s ≡ e + fall a ks

-- and one at whose end it is at the highest
pub record Rises (T : Table) (a : Amounts) (ks : List ℕ) : Type 0 where
  pub count : ℕ
  pub ends : (s e : ℕ) → run T (Some s) (take count ks) ≡ Some e → e ≡ s + rise a ks

pub falls-somewhere : (T : Table) (a : Amounts) → IsNumeric T a → (ks : List ℕ) → Falls T a ks
falls-somewhere T a numeric [] = record { count = 0; ends = λ s e is. (let same : s ≡ e = cc in omega (arith, same)) }
falls-somewhere T a numeric (k ∷ ks) =
    let rest = falls-somewhere T a numeric ks in
    elim (cases_lt (fall a ks + a.takes k) (a.gives k)) [
      | inl up ↦ record { count = 0; ends = λ s e is. (let same : s ≡ e = cc in omega (arith, same, up)) }
      | inr down ↦ record {
        count = suc rest.count;
        ends = λ s e is.
            let step = run-step T s k e (take rest.count ks) is in
            let ends = rest.ends step.0 e step.2 in
            let by = numeric.moves s k step.0 step.1 in
            omega (arith, ends, by, down);
      }
    ]

pub rises-somewhere : (T : Table) (a : Amounts) → IsNumeric T a → (ks : List ℕ) → Rises T a ks
rises-somewhere T a numeric [] = record { count = 0; ends = λ s e is. (let same : s ≡ e = cc in omega (arith, same)) }
rises-somewhere T a numeric (k ∷ ks) =
    let rest = rises-somewhere T a numeric ks in
    elim (cases_lt (rise a ks + a.gives k) (a.takes k)) [
      | inl down ↦ record { count = 0; ends = λ s e is. (let same : s ≡ e = cc in omega (arith, same, down)) }
      | inr up ↦ record {
        count = suc rest.count;
        ends = λ s e is.
            let step = run-step T s k e (take rest.count ks) is in
            let ends = rest.ends step.0 e step.2 in
            let by = numeric.moves s k step.0 step.1 in
            omega (arith, ends, by, up);
      }
    ]

-- where a front of a legal list ends
front-end : (T : Table) (s : ℕ) (ks : List ℕ) (count : ℕ) → IsLegal T (Some s) ks → (e : ℕ) × (run T (Some s) (take count ks) ≡ Some e)
front-end T s ks count legal =
    some_state (run T (Some s) (take count ks)) (legal-front T (Some s) (take count ks) (drop count ks) (rw (take-append-drop count ks) legal))

pub fall_lowest : FallIsLowest
fall_lowest = λ T a s ks numeric legal.
    let low = falls-somewhere T a numeric ks in
    let end = front-end T s ks low.count legal in
    record {
      no_lower = λ count e is.
          let moved = run-moved T a numeric s e (take count ks) is in
          let less : fall a (take count ks) ≤ fall a ks = rw (take-append-drop count ks) at (front-falls a (take count ks) (drop count ks)) in
          omega (arith, moved.0, less);
      count = low.count;
      end = end.0;
      leads = end.1;
      lowest = sym (low.ends s end.0 end.1);
    }

pub rise_highest : RiseIsHighest
rise_highest = λ T a s ks numeric legal.
    let high = rises-somewhere T a numeric ks in
    let end = front-end T s ks high.count legal in
    record {
      no_higher = λ count e is.
          let moved = run-moved T a numeric s e (take count ks) is in
          let less : rise a (take count ks) ≤ rise a ks = rw (take-append-drop count ks) at (front-rises a (take count ks) (drop count ks)) in
          omega (arith, moved.1, less);
      count = high.count;
      end = end.0;
      leads = end.1;
      highest = high.ends s end.0 end.1;
    }
