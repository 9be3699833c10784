-- The list that is read off the distances, one operation after another: it is a shortest one, and the first of these.
use Rattle.std.proofs.Common.{◌≡◌, ℕ, zero, suc, ◌+◌, ◌<◌, ◌≤◌, ◌==◌, false, ltb, List, [], ◌∷◌, ◌++◌, append_assoc, length, Option, Some, None, refl, sym, ap, ◌∙◌, subst, inl, inr, arith}
use Rattle.std.proofs.lemmas.Bool.{false≢true, cases_lt, cases_eq, le-ltb, ne_eqb, and_left, and_right, or_from}
use Rattle.std.proofs.lemmas.Option.{none-some, same_Some}
use Rattle.type_table.specs.Table.{Table, IsTable, next}
use Rattle.type_table.specs.Laws.{StepsWithin}
use Rattle.type_table.proofs.Legal.{from_state, legal_here, legal_there}
use Rattle.exact_tables.specs.Tell.{Tells, IsLeastLength, IsDistance, comes_before, IsDistinguishing}
use Rattle.exact_tables.specs.Distances.{Cells, number_at, from_number, distance, distance_to, AreDistances}
use Rattle.exact_tables.specs.Nearer.{LeadsNearer, IsFirstNearer}
use Rattle.exact_tables.specs.declared.telling.Step.{Step}

-- ---- distances

-- where there is a state, it is one of the table
abbrev IsWithin : Table → Option ℕ → Type 0
IsWithin T b = (e : ℕ) → b ≡ Some e → e < T.states

-- a distance is the number of operations that distinguish, and no fewer do
pub far-least : (T : Table) (d : Cells) (s n : ℕ) (b : Option ℕ) → AreDistances T d → s < T.states → IsWithin T b → distance_to d s b ≡ Some n → IsLeastLength T (Some s) b n
far-least T d s n None h s_in b_in far =
    let none : 0 ≡ n = same_Some 0 n far in
    record { list = []; tells = (refl, λ legal. absurd (false≢true legal)); long = none; least = λ v tells. omega (arith, none) }
far-least T d s n (Some t) h s_in b_in far = subst (λ o. IsDistance T s t o) far (h.each s t s_in (b_in t refl))

-- a distance is what two such numbers have in common
same-least : (T : Table) (a b : Option ℕ) (m n : ℕ) → IsLeastLength T a b m → IsLeastLength T a b n → m ≡ n
same-least T a b m n one two =
    let below : m ≤ length two.list = one.least two.list two.tells in
    let above : n ≤ length one.list = two.least one.list one.tells in
    let first : length one.list ≡ m = one.long in
    let second : length two.list ≡ n = two.long in
    omega (arith, below, above, first, second)

-- and the converse
least-far : (T : Table) (d : Cells) (s n : ℕ) (b : Option ℕ) → AreDistances T d → s < T.states → IsWithin T b → IsLeastLength T (Some s) b n → distance_to d s b ≡ Some n
least-far T d s n None h s_in b_in least =
    let low : n ≤ 0 = least.least [] (refl, λ legal. absurd (false≢true legal)) in
    let zero_is : 0 ≡ n = omega (arith, low) in
    ap (λ (m : ℕ). Some m) zero_is
least-far T d s n (Some t) h s_in b_in least = by_case (distance d s t) (h.each s t s_in (b_in t refl))
  where
    by_case : (o : Option ℕ) → IsDistance T s t o → o ≡ Some n
    by_case None looks = absurd ((least.tells).1 (looks least.list (least.tells).0))
    by_case (Some m) is = ap (λ (j : ℕ). Some j) (same-least T (Some s) (Some t) m n is least)

-- ---- an operation in front

-- where a list begins with an operation, the rest distinguishes the states after it
tells-rest : (T : Table) (s t k a : ℕ) (w : List ℕ) → next T s k ≡ Some a → Tells T (Some s) (Some t) (k ∷ w) → Tells T (Some a) (next T t k) w
tells-rest T s t k a w step tells = (legal_there T (next T s k) a w step tells.0, tells.1)

tells-front : (T : Table) (s t k a : ℕ) (w : List ℕ) → next T s k ≡ Some a → Tells T (Some a) (next T t k) w → Tells T (Some s) (Some t) (k ∷ w)
tells-front T s t k a w step tells = (legal_here T (next T s k) a w step tells.0, tells.1)

-- a step leads to a state of the table
next-in : StepsWithin → (T : Table) (t k : ℕ) → IsTable T → IsWithin T (next T t k)
next-in within T t k table = λ e step. (within T t k e table step).2

-- the first operation of a shortest list leads nearer
pub front-nearer : StepsWithin → (T : Table) (d : Cells) (s t far k : ℕ) (w : List ℕ) → IsTable T → AreDistances T d → s < T.states → t < T.states →
    distance d s t ≡ Some far → Tells T (Some s) (Some t) (k ∷ w) → length (k ∷ w) ≡ far → LeadsNearer T d far s t k
front-nearer within T d s t far k w table h s_in t_in is_far tells long =
    let there = from_state T (next T s k) w tells.0 in
    let least = far-least T d s far (Some t) h s_in (λ e same. subst (λ b. b < T.states) (same_Some t e same) t_in) is_far in
    record {
      after = there.0;
      near = length w;
      step = there.1;
      is_near = least-far T d there.0 (length w) (next T t k) h (within T s k there.0 table there.1).2 (next-in within T t k table) (record {
        list = w;
        tells = tells-rest T s t k there.0 w there.1 tells;
        long = refl;
        least = λ v told.
            let low : far ≤ length (k ∷ v) = least.least (k ∷ v) (tells-front T s t k there.0 v there.1 told) in
            omega (arith, low, long);
      });
      by_one = omega (arith, long);
    }

-- so some operation of the table does
pub some-nearer : StepsWithin → (T : Table) (d : Cells) (s t far : ℕ) → IsTable T → AreDistances T d → s < T.states → t < T.states → distance d s t ≡ Some far →
    ((k : ℕ) → k < length T.ops → LeadsNearer T d far s t k → ⊥) → ⊥
some-nearer within T d s t far table h s_in t_in is_far none =
    let least = far-least T d s far (Some t) h s_in (λ e same. subst (λ b. b < T.states) (same_Some t e same) t_in) is_far in
    by_list least.list least.tells least.long
  where
    by_list : (v : List ℕ) → Tells T (Some s) (Some t) v → length v ≡ far → ⊥
    by_list [] tells long = absurd (tells.1 refl)
    by_list (k ∷ w) tells long =
        let nearer = front-nearer within T d s t far k w table h s_in t_in is_far tells long in
        none k (within T s k nearer.after table nearer.step).1 nearer

-- ---- the first list

-- with the first operation that leads nearer before it, what distinguishes the next states distinguishes the states
pub step-distinguishes : StepsWithin → (T : Table) (d : Cells) (s t far : ℕ) (step : Step) (w : List ℕ) → IsTable T → AreDistances T d → s < T.states → t < T.states →
    distance d s t ≡ Some far → IsFirstNearer T d far s t step → IsDistinguishing T (Some step.first) step.second w → IsDistinguishing T (Some s) (Some t) (step.op ∷ w)
step-distinguishes within T d s t far step w table h s_in t_in is_far first is =
    let nearer = first.nearer in
    let near = nearer.near in
    let least = far-least T d s far (Some t) h s_in (λ e same. subst (λ b. b < T.states) (same_Some t e same) t_in) is_far in
    let first_in : step.first < T.states = (within T s step.op step.first table nearer.first).2 in
    let rest = far-least T d step.first near step.second h first_in (λ e same. next-in within T t step.op table e (nearer.second ∙ same)) nearer.is_near in
    let rest_low : length w ≤ length rest.list = is.shortest rest.list rest.tells in
    let rest_long : length rest.list ≡ near = rest.long in
    let by_one : far ≡ near + 1 = nearer.by_one in
    let told = subst (λ b. Tells T (Some step.first) b w) (sym nearer.second) is.tells in
    let low : far ≤ length (step.op ∷ w) = least.least (step.op ∷ w) (tells-front T s t step.op step.first w nearer.first told) in
    let long : length (step.op ∷ w) ≡ far = omega (arith, rest_low, rest_long, by_one, low) in
    record {
      tells = tells-front T s t step.op step.first w nearer.first told;
      shortest = λ v tells. let above : far ≤ length v = least.least v tells in omega (arith, above, long);
      first = λ v tells same. in_order v tells same long;
    }
  where
    in_order : (v : List ℕ) → Tells T (Some s) (Some t) v → length v ≡ length (step.op ∷ w) → length (step.op ∷ w) ≡ far → comes_before v (step.op ∷ w) ≡ false
    in_order [] tells same long = absurd (tells.1 refl)
    in_order (j ∷ v) tells same long =
        let leads = front-nearer within T d s t far j v table h s_in t_in is_far tells (same ∙ long) in
        let not_below : step.op ≤ j = elim (cases_lt j step.op) [
          | inl below ↦ absurd (first.least j below leads)
          | inr above ↦ above
        ] in
        or_from (ltb j step.op) _ (le-ltb j step.op not_below) (elim (cases_eq j step.op) [
          | inl here ↦ and_right (j == step.op) _ (is.first v (rest_tells j v here tells) (omega (arith, same)))
          | inr other ↦ and_left (j == step.op) _ (ne_eqb j step.op other)
        ])
      where
        rest_tells : (j : ℕ) (v : List ℕ) → j ≡ step.op → Tells T (Some s) (Some t) (j ∷ v) → Tells T (Some step.first) step.second v
        rest_tells j v here tells =
            subst (λ b. Tells T (Some step.first) b v) (first.nearer).second
            (tells-rest T s t step.op step.first v (first.nearer).first (subst (λ k. Tells T (Some s) (Some t) (k ∷ v)) here tells))

-- nothing has to be added where there is no second state
pub nothing-distinguishes : (T : Table) (a : ℕ) (b : Option ℕ) → b ≡ None → IsDistinguishing T (Some a) b []
nothing-distinguishes T a b none = rw none (record {
  tells = (refl, λ legal. absurd (false≢true legal));
  shortest = λ v tells. omega arith;
  first = λ v tells same. refl;
})

-- ---- the front of the list

-- what was read off leads s and t to states that are so far apart; what distinguishes these distinguishes s and t, with it in front
pub record IsFront (T : Table) (d : Cells) (s t : ℕ) (u : List ℕ) (a b far : ℕ) : Type 0 where
  pub first_in : a < T.states
  pub second_in : b < T.states
  pub far_is : distance d a b ≡ Some far
  pub front : (w : List ℕ) → IsDistinguishing T (Some a) (Some b) w → IsDistinguishing T (Some s) (Some t) (u ++ w)

pub front-none : (T : Table) (d : Cells) (s t far : ℕ) → s < T.states → t < T.states → distance d s t ≡ Some far → IsFront T d s t [] s t far
front-none T d s t far s_in t_in is_far = record { first_in = s_in; second_in = t_in; far_is = is_far; front = λ w is. is }

-- one operation more
pub front-more : StepsWithin → (T : Table) (d : Cells) (s t : ℕ) (u : List ℕ) (a b far left b2 : ℕ) (step : Step) → IsTable T → AreDistances T d → IsFront T d s t u a b far →
    IsFirstNearer T d far a b step → step.second ≡ Some b2 → far ≡ left + 1 → IsFront T d s t (u ++ step.op ∷ []) step.first b2 left
front-more within T d s t u a b far left b2 step table h front first second more =
    let nearer = first.nearer in
    let by_one : far ≡ nearer.near + 1 = nearer.by_one in
    let same : nearer.near ≡ left = omega (arith, by_one, more) in
    record {
      first_in = (within T a step.op step.first table nearer.first).2;
      second_in = (within T b step.op b2 table (nearer.second ∙ second)).2;
      far_is = sym (ap (distance_to d step.first) second) ∙ nearer.is_near ∙ ap (λ (m : ℕ). Some m) same;
      front = λ w is. rw (append_assoc u (step.op ∷ []) w)
          (front.front (step.op ∷ w) (step-distinguishes within T d a b far step w table h front.first_in front.second_in front.far_is first
          (subst (λ o. IsDistinguishing T (Some step.first) o w) (sym second) is)));
    }

-- and the last one
pub front-last : StepsWithin → (T : Table) (d : Cells) (s t : ℕ) (u : List ℕ) (a b far : ℕ) (step : Step) → IsTable T → AreDistances T d → IsFront T d s t u a b far →
    IsFirstNearer T d far a b step → step.second ≡ None → IsDistinguishing T (Some s) (Some t) (u ++ step.op ∷ [])
front-last within T d s t u a b far step table h front first none =
    front.front (step.op ∷ []) (step-distinguishes within T d a b far step [] table h front.first_in front.second_in front.far_is first (nothing-distinguishes T step.first step.second none))

-- a distance is never 0
never-zero : (n : ℕ) → from_number n ≡ Some 0 → ⊥
never-zero zero is = none-some 0 is
never-zero (suc n) is = let same : suc n ≡ 0 = same_Some (suc n) 0 is in omega (arith, same)

pub front-some : (T : Table) (d : Cells) (s t : ℕ) (u : List ℕ) (a b far : ℕ) → IsFront T d s t u a b far → 0 < far
front-some T d s t u a b far front =
    elim (cases_lt 0 far) [
      | inl some ↦ some
      | inr none ↦
          let zero_is : far ≡ 0 = omega (arith, none) in
          absurd (never-zero (number_at d a b) (front.far_is ∙ ap (λ (m : ℕ). Some m) zero_is))
    ]
