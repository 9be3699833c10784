-- What open transactions did at a number is safe, or there are others that commit in parts after which it isn't legal.
use Rattle.std.proofs.Common.{◌≡◌, ℕ, zero, suc, ◌+◌, ◌<◌, ◌≤◌, ◌⊎◌, false, ◌==◌, List, [], ◌∷◌, ◌++◌, take, Some, is_some, refl, sym, ◌∙◌, subst, inl, inr, arith}
use Rattle.std.specs.List.{AllByRecursion}
use Rattle.std.proofs.lemmas.Bool.{cases_Bool, cases_lt, false≢true, ne_eqb}
use Rattle.type_table.specs.Table.{Table}
use Rattle.type_table.specs.Run.{run, IsLegal}
use Rattle.type_table.specs.Laws.{RunsAlong}
use Rattle.type_table.proofs.Elements.{each-weaker}
use Rattle.type_table.proofs.Legal.{some_state, is_there, legal-front, legal-behind}
use Rattle.escrow_laws.specs.Amounts.{Amounts, IsNumeric, fall, rise}
use Rattle.escrow_laws.specs.Firm.{sum_below, except, IsIdleFrom, IsFirm}
use Rattle.escrow_laws.specs.Safe.{Part, done_in_parts, AreOthers, IsSafe}
use Rattle.escrow_laws.specs.Laws.{FirmIsSafe}
use Rattle.escrow_laws.proofs.Lowest.{falls-somewhere, rises-somewhere}
use Rattle.escrow_laws.proofs.Runs.{legal-between}
use Rattle.escrow_laws.proofs.Sums.{sum-all}

-- ---- as far as the others may take the number

-- how far a number is taken, down or up
record IsWay (R : ℕ → ℕ → ℕ → Type 0) : Type 0 where
  pub stays : (s : ℕ) → R 0 s s
  pub joins : (m n s between e : ℕ) → R n s between → R m between e → R (m + n) s e

-- others than t below m that take it as far as they may
record Furthest (T : Table) (R : ℕ → ℕ → ℕ → Type 0) (amount : ℕ → ℕ) (own : ℕ → List ℕ) (t m : ℕ) : Type 0 where
  pub parts : List Part
  pub others : AreOthers t parts
  pub inside : AllByRecursion (λ (p : Part). p.by < m) parts
  pub ends : (s e : ℕ) → run T (Some s) (done_in_parts own parts) ≡ Some e → R (sum_below m (except t amount)) s e

-- one transaction does by some front of what it did
abbrev TakesFurthest : Table → (ℕ → ℕ → ℕ → Type 0) → (ℕ → ℕ) → (ℕ → List ℕ) → Type 0
TakesFurthest T R amount own = (u : ℕ) → (count : ℕ) × ((s e : ℕ) → run T (Some s) (take count (own u)) ≡ Some e → R (amount u) s e)

module _ (along : RunsAlong) (T : Table) (R : ℕ → ℕ → ℕ → Type 0) (amount : ℕ → ℕ) (own : ℕ → List ℕ) (way : IsWay R) (takes : TakesFurthest T R amount own) (t : ℕ) where
  more-inside : (m : ℕ) (ps : List Part) → AllByRecursion (λ (p : Part). p.by < m) ps → AllByRecursion (λ (p : Part). p.by < suc m) ps
  more-inside m ps inside = each-weaker (λ p below. omega (arith, below)) ps inside

  none-last : (m : ℕ) (ps : List Part) → AllByRecursion (λ (p : Part). p.by < m) ps → AllByRecursion (λ (p : Part). (p.by == m) ≡ false) ps
  none-last m ps inside = each-weaker (λ p below. ne_eqb p.by m (λ same. omega (arith, below, same))) ps inside

  two : (m s e : ℕ) (v w : List ℕ) → ((c : ℕ) → run T (Some s) v ≡ Some c → R (amount m) s c) → ((c : ℕ) → run T (Some c) w ≡ Some e → R (sum_below m (except t amount)) c e)
      → run T (Some s) (v ++ w) ≡ Some e → R (sum_below m (except t amount) + amount m) s e
  two m s e v w first second is =
      let between = some_state (run T (Some s) v) (legal-front T (Some s) v w (is_there (run T (Some s) (v ++ w)) e is)) in
      way.joins (sum_below m (except t amount)) (amount m) s between.0 e (first between.0 between.1) (second between.0 (rw (along T (Some s) v w, between.1) at is))

  furthest : (m : ℕ) → Furthest T R amount own t m
  furthest zero = record { parts = []; others = tt; inside = tt; ends = λ s e is. (let same : s ≡ e = cc in subst (R 0 s) same (way.stays s)) }
  furthest (suc m) =
      let rest = furthest m in
      elim (cases_Bool (m == t)) [
        | inl is ↦ record {
          parts = rest.parts;
          others = rest.others;
          inside = more-inside m rest.parts rest.inside;
          ends = λ s e run_is. rw is (rest_ends m s e (rest.ends s e run_is));
        }
        | inr other ↦ record {
          parts = (record { by = m; count = (takes m).0 }) ∷ rest.parts;
          others = (other, none-last m rest.parts rest.inside, rest.others);
          inside = (omega arith, more-inside m rest.parts rest.inside);
          ends = λ s e run_is. rw other
              (two m s e (take (takes m).0 (own m)) (done_in_parts own rest.parts) (λ c first. (takes m).1 s c first) (λ c second. rest.ends c e second) run_is);
        }
      ]
    where
      rest_ends : (m s e : ℕ) → R (sum_below m (except t amount)) s e → R (sum_below m (except t amount) + 0) s e
      rest_ends m s e h = let same : sum_below m (except t amount) ≡ sum_below m (except t amount) + 0 = omega arith in rw same at h

-- ---- safe, or broken

-- others that commit in parts, after which what a transaction did isn't legal
pub record IsBroken (T : Table) (base : ℕ) (own : ℕ → List ℕ) : Type 0 where
  pub by : ℕ
  pub parts : List Part
  pub others : AreOthers by parts
  pub illegal : IsLegal T (Some base) (done_in_parts own parts ++ own by) → ⊥

abbrev IsDown : ℕ → ℕ → ℕ → Type 0
IsDown d s e = s ≡ e + d

abbrev IsUp : ℕ → ℕ → ℕ → Type 0
IsUp d s e = e ≡ s + d

down_way : IsWay IsDown
down_way = record { stays = λ s. omega arith; joins = λ m n s between e first second. omega (arith, first, second) }

up_way : IsWay IsUp
up_way = record { stays = λ s. omega arith; joins = λ m n s between e first second. omega (arith, first, second) }

module _ (along : RunsAlong) (T : Table) (a : Amounts) (numeric : IsNumeric T a) (base m : ℕ) (own : ℕ → List ℕ) (idle : IsIdleFrom m own) where
  lowest : (t : ℕ) → Furthest T IsDown (λ u. fall a (own u)) own t m
  lowest t = furthest along T IsDown (λ u. fall a (own u)) own down_way (λ u. let one = falls-somewhere T a numeric (own u) in (one.count, one.ends)) t m

  highest : (t : ℕ) → Furthest T IsUp (λ u. rise a (own u)) own t m
  highest t = furthest along T IsUp (λ u. rise a (own u)) own up_way (λ u. let one = rises-somewhere T a numeric (own u) in (one.count, one.ends)) t m

  -- what t did is legal after the others took the number down as far as they may, and up
  abbrev IsLegalBoth : ℕ → Type 0
  IsLegalBoth t = IsLegal T (Some base) (done_in_parts own (lowest t).parts ++ own t) × IsLegal T (Some base) (done_in_parts own (highest t).parts ++ own t)

  both-or : (t : ℕ) → IsLegalBoth t ⊎ IsBroken T base own
  both-or t =
      elim (cases_Bool (is_some (run T (Some base) (done_in_parts own (lowest t).parts ++ own t)))) [
        | inl low ↦ elim (cases_Bool (is_some (run T (Some base) (done_in_parts own (highest t).parts ++ own t)))) [
          | inl high ↦ inl (low, high)
          | inr bad ↦ inr (record { by = t; parts = (highest t).parts; others = (highest t).others; illegal = λ legal. false≢true (sym bad ∙ legal) })
        ]
        | inr bad ↦ inr (record { by = t; parts = (lowest t).parts; others = (lowest t).others; illegal = λ legal. false≢true (sym bad ∙ legal) })
      ]

  one-more : (n : ℕ) → ((t : ℕ) → t < n → IsLegalBoth t) ⊎ IsBroken T base own → IsLegalBoth n ⊎ IsBroken T base own → ((t : ℕ) → t < suc n → IsLegalBoth t) ⊎ IsBroken T base own
  one-more n (inl all) (inl both) =
      inl (λ t below. elim (cases_lt t n) [
        | inl less ↦ all t less
        | inr far ↦ let same : n ≡ t = omega (arith, below, far) in subst IsLegalBoth same both
      ])
  one-more n (inl all) (inr broken) = inr broken
  one-more n (inr broken) here = inr broken

  all-or : (n : ℕ) → ((t : ℕ) → t < n → IsLegalBoth t) ⊎ IsBroken T base own
  all-or zero = inl (λ t below. absurd (omega (arith, below)))
  all-or (suc n) = one-more n (all-or n) (both-or n)

  -- none that did nothing counts
  nothing : (amount : List ℕ → ℕ) → amount [] ≡ 0 → (t u : ℕ) → m ≤ u → except t (λ v. amount (own v)) u ≡ 0
  nothing amount none t u far =
      elim (cases_Bool (u == t)) [
        | inl is ↦ rw is refl
        | inr other ↦ rw (other, idle u far) none
      ]

  firm : ((t : ℕ) → t < m → IsLegalBoth t) → IsFirm T a base own
  firm all t n s low high =
      elim (cases_lt t m) [
        | inl inside ↦
            let both = all t inside in
            let v : List ℕ = done_in_parts own (lowest t).parts in
            let w : List ℕ = done_in_parts own (highest t).parts in
            let bottom = some_state (run T (Some base) v) (legal-front T (Some base) v (own t) both.0) in
            let top = some_state (run T (Some base) w) (legal-front T (Some base) w (own t) both.1) in
            let far_down = (lowest t).ends base bottom.0 bottom.1 in
            let far_up = (highest t).ends base top.0 top.1 in
            let few_down = sum-all n m (except t (λ u. fall a (own u))) (nothing (fall a) refl t) in
            let few_up = sum-all n m (except t (λ u. rise a (own u))) (nothing (rise a) refl t) in
            legal-between T a numeric bottom.0 s top.0 (own t) (omega (arith, low, far_down, few_down)) (omega (arith, high, far_up, few_up))
            (legal-behind along T (Some base) v (own t) bottom.0 bottom.1 both.0) (legal-behind along T (Some base) w (own t) top.0 top.1 both.1)
        | inr far ↦ rw (idle t far) refl
      ]

  pub safe_or_broken : FirmIsSafe → IsSafe T base own ⊎ IsBroken T base own
  safe_or_broken safe =
      elim (all-or m) [
        | inl all ↦ inl (safe T a base own numeric (firm all))
        | inr broken ↦ inr broken
      ]
