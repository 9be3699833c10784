-- Rounds: after n of them exactly the pairs that at most n operations distinguish have a number.
use Rattle.std.proofs.Common.{◌≡◌, ◌⊎◌, ℕ, zero, suc, ◌+◌, ◌*◌, ◌<◌, ◌≤◌, ◌==◌, cond, List, [], ◌∷◌, length, replicate, Option, Some, None, refl, sym, ap, ◌∙◌, subst, inl, inr, arith}
use Rattle.std.specs.List.{slice_get}
use Rattle.std.proofs.lemmas.Bool.{cases_lt}
use Rattle.std.proofs.lemmas.Option.{none-some, slice_get_within}
use Rattle.std.proofs.lemmas.List.{get_or-replicate, get_or_past, length-replicate}
use Rattle.std.proofs.lemmas.List.Folds.{sum_by-replicate}
use Rattle.type_table.specs.Table.{Table, IsTable, next}
use Rattle.type_table.specs.Run.{IsLegal}
use Rattle.type_table.specs.Laws.{StepsWithin}
use Rattle.type_table.proofs.Legal.{from_state, legal_here, legal_there}
use Rattle.exact_tables.specs.Tell.{Tells, IsLeastLength, IsDistance}
use Rattle.exact_tables.specs.Distances.{from_number, AreDistances}
use Rattle.exact_tables.specs.Search.{Marked, pair_number, none_marked, taken, unknown, IsStruck, Strikes, IsToldAtOnce, LeadsAmong, AfterRounds, IsOver}
use Rattle.exact_tables.proofs.Beginnings.{tells-some, tells-cons, tells-one, tells-begins}

-- nothing is found in an empty list
none-found : (pairs : List (ℕ × ℕ)) (place s t : ℕ) → pairs ≡ [] → slice_get pairs place ≡ Some (s, t) → ⊥
none-found pairs place s t none there = none-some (s, t) (rw none at there)

-- ---- one more round

-- with the numbers of n rounds, a pair from which an operation leads to a pair with a number is distinguished by at most one more
least-after : (T : Table) (n : ℕ) (m : Marked) (s t k s2 t2 : ℕ) → AfterRounds T n m → s < T.states → t < T.states → s2 < T.states → t2 < T.states →
    pair_number m s t ≡ 0 → next T s k ≡ Some s2 → next T t k ≡ Some t2 → 0 < pair_number m s2 t2 → (pair_number m s2 t2 ≡ n) × IsLeastLength T (Some s) (Some t) (n + 1)
least-after T n m s t k s2 t2 h s_in t_in s2_in t2_in none first second known =
    let after = h.told s2 t2 s2_in t2_in known in
    let tells = tells-cons T s t k s2 t2 after.list first second after.tells in
    let more : n < length (k ∷ after.list) = h.untold s t s_in t_in none (k ∷ after.list) tells in
    let low : pair_number m s2 t2 ≤ n = h.within s2 t2 s2_in t2_in in
    let long : length after.list ≡ pair_number m s2 t2 = after.long in
    let same : pair_number m s2 t2 ≡ n = omega (arith, more, low, long) in (
      same,
      record {
        list = k ∷ after.list;
        tells = tells;
        long = omega (arith, same, long);
        least = λ v told. let above : n < length v = h.untold s t s_in t_in none v told in omega (arith, above);
      },
    )

-- what has no number after the round can't be distinguished by n + 1 operations
untold-more : StepsWithin → (T : Table) (n : ℕ) (m : Marked) (s t : ℕ) → IsTable T → 0 < n → AfterRounds T n m → s < T.states → t < T.states →
    pair_number m s t ≡ 0 → (LeadsAmong T m.found (length m.found) s t → ⊥) → (v : List ℕ) → Tells T (Some s) (Some t) v → n + 1 < length v
untold-more within T n m s t table some h s_in t_in none apart v tells =
    let begins = tells-begins T s t v tells in
    let long : length v ≡ length (begins.op ∷ begins.rest) = ap length begins.is in
    let step = within T s begins.op begins.after_s table begins.first in
    elim begins.second [
      | inl stuck ↦
          let one : n < 1 = h.untold s t s_in t_in none (begins.op ∷ []) (tells-one T s t begins.op begins.after_s begins.first stuck) in
          absurd (omega (arith, one, some))
      | inr on ↦
          let after_in = (within T t begins.op on.0 table on.1).2 in
          elim (cases_lt 0 (pair_number m begins.after_s on.0)) [
            | inl known ↦
                let same = (least-after T n m s t begins.op begins.after_s on.0 h s_in t_in step.2 after_in none begins.first on.1 known).0 in
                let listed = h.listed begins.after_s on.0 step.2 after_in same in
                absurd (apart (record {
                  place = listed.0;
                  below = slice_get_within m.found listed.0 (begins.after_s, on.0) listed.1;
                  after_s = begins.after_s;
                  after_t = on.0;
                  is = listed.1;
                  leads = record { op = begins.op; below = step.1; first = begins.first; second = on.1 };
                }))
            | inr unknown ↦
                let zero : pair_number m begins.after_s on.0 ≡ 0 = omega (arith, unknown) in
                let more : n < length begins.rest = h.untold begins.after_s on.0 step.2 after_in zero begins.rest on.2 in
                omega (arith, more, long)
          ]
    ]

-- what had no number and has one now was struck
struck-now : (n : ℕ) (P : ℕ → ℕ → Type 0) (old new : Marked) (s t : ℕ) → Strikes n P old new → s < old.states → t < old.states → pair_number old s t ≡ 0 → 0 < pair_number new s t → IsStruck n P new s t
struck-now n P old new s t strikes s_in t_in none known =
    elim (strikes.only s t s_in t_in known) [
      | inl before ↦ absurd (omega (arith, before, none))
      | inr struck ↦ struck
    ]

-- one more round
pub next-round : StepsWithin → (T : Table) (n : ℕ) (m new : Marked) → IsTable T → 0 < n → AfterRounds T n m →
    Strikes (n + 1) (LeadsAmong T m.found (length m.found)) (taken m) new → AfterRounds T (n + 1) new
next-round within T n m new table some h strikes = record {
  states = strikes.states ∙ h.states;
  told = λ s t s_in t_in known. elim (cases_lt 0 (pair_number m s t)) [
    | inl before ↦ subst (λ d. IsLeastLength T (Some s) (Some t) d) (sym (strikes.kept s t (first s s_in) (first t t_in) before)) (h.told s t s_in t_in before)
    | inr unknown ↦
        let none : pair_number m s t ≡ 0 = omega (arith, unknown) in
        let struck = struck-now (n + 1) _ (taken m) new s t strikes (first s s_in) (first t t_in) none known in
        let why = struck.because in
        let pair = h.found why.after_s why.after_t (why.place, why.is) in
        let after = least-after T n m s t why.leads.op why.after_s why.after_t h s_in t_in (states_in why.after_s pair.first) (states_in why.after_t pair.second) none why.leads.first why.leads.second pair.known in
        subst (λ d. IsLeastLength T (Some s) (Some t) d) (sym struck.at) after.1
  ];
  within = λ s t s_in t_in. elim (cases_lt 0 (pair_number m s t)) [
    | inl before ↦
        let same : pair_number new s t ≡ pair_number m s t = strikes.kept s t (first s s_in) (first t t_in) before in
        let low : pair_number m s t ≤ n = h.within s t s_in t_in in
        omega (arith, same, low)
    | inr unknown ↦
        let none : pair_number m s t ≡ 0 = omega (arith, unknown) in
        elim (cases_lt 0 (pair_number new s t)) [
          | inl known ↦ let at : pair_number new s t ≡ n + 1 = (struck-now (n + 1) _ (taken m) new s t strikes (first s s_in) (first t t_in) none known).at in omega (arith, at)
          | inr still ↦ omega (arith, still)
        ]
  ];
  untold = λ s t s_in t_in none v tells. untold-more within T n m s t table some h s_in t_in (none_before s t s_in t_in none)
      (λ leads. let known : 0 < pair_number new s t = strikes.all s t (first s s_in) (first t t_in) leads in omega (arith, known, none)) v tells;
  listed = λ s t s_in t_in at. elim (cases_lt 0 (pair_number m s t)) [
    | inl before ↦
        let same : pair_number new s t ≡ pair_number m s t = strikes.kept s t (first s s_in) (first t t_in) before in
        let low : pair_number m s t ≤ n = h.within s t s_in t_in in
        absurd (omega (arith, same, low, at))
    | inr unknown ↦
        let none : pair_number m s t ≡ 0 = omega (arith, unknown) in
        let known : 0 < pair_number new s t = omega (arith, at) in
        (struck-now (n + 1) _ (taken m) new s t strikes (first s s_in) (first t t_in) none known).listed
  ];
  found = λ s t there. elim (strikes.found s t there) [
    | inl before ↦ absurd (none-found [] before.0 s t refl before.1)
    | inr known ↦ known
  ];
}
  where
    first : (s : ℕ) → s < T.states → s < m.states
    first s s_in = omega (arith, s_in, h.states)

    states_in : (s : ℕ) → s < m.states → s < T.states
    states_in s s_in = omega (arith, s_in, h.states)

    none_before : (s t : ℕ) → s < T.states → t < T.states → pair_number new s t ≡ 0 → pair_number m s t ≡ 0
    none_before s t s_in t_in none =
        elim (cases_lt 0 (pair_number m s t)) [
          | inl before ↦ let same : pair_number new s t ≡ pair_number m s t = strikes.kept s t (first s s_in) (first t t_in) before in absurd (omega (arith, before, same, none))
          | inr unknown ↦ omega (arith, unknown)
        ]

-- ---- the first round

pub first-round : StepsWithin → (T : Table) (none new : Marked) → IsTable T → none.states ≡ T.states → ((s t : ℕ) → pair_number none s t ≡ 0) → none.found ≡ [] →
    Strikes 1 (IsToldAtOnce T) none new → AfterRounds T 1 new
first-round within T none new table states blank empty strikes = record {
  states = strikes.states ∙ states;
  told = λ s t s_in t_in known.
      let struck = now s t s_in t_in known in
      let one = struck.because in
      subst (λ d. IsLeastLength T (Some s) (Some t) d) (sym struck.at) (record { list = one.0 ∷ []; tells = one.1; long = refl; least = λ v tells. tells-some T s t v tells });
  within = λ s t s_in t_in. elim (cases_lt 0 (pair_number new s t)) [
    | inl known ↦ let at : pair_number new s t ≡ 1 = (now s t s_in t_in known).at in omega (arith, at)
    | inr still ↦ omega (arith, still)
  ];
  untold = λ s t s_in t_in unknown v tells.
      let begins = tells-begins T s t v tells in
      let long : length v ≡ length (begins.op ∷ begins.rest) = ap length begins.is in
      elim begins.second [
        | inl stuck ↦
            let known : 0 < pair_number new s t = strikes.all s t (first s s_in) (first t t_in) (begins.op, tells-one T s t begins.op begins.after_s begins.first stuck) in
            absurd (omega (arith, known, unknown))
        | inr on ↦ let some : 0 < length begins.rest = tells-some T begins.after_s on.0 begins.rest on.2 in omega (arith, some, long)
      ];
  listed = λ s t s_in t_in at. let known : 0 < pair_number new s t = omega (arith, at) in (now s t s_in t_in known).listed;
  found = λ s t there. elim (strikes.found s t there) [
    | inl before ↦ absurd (none-found none.found before.0 s t empty before.1)
    | inr known ↦ known
  ];
}
  where
    first : (s : ℕ) → s < T.states → s < none.states
    first s s_in = omega (arith, s_in, states)

    now : (s t : ℕ) → s < T.states → t < T.states → 0 < pair_number new s t → IsStruck 1 (IsToldAtOnce T) new s t
    now s t s_in t_in known = struck-now 1 (IsToldAtOnce T) none new s t strikes (first s s_in) (first t t_in) (blank s t) known

-- ---- the end

-- where no pair was found in the last round, a pair with no number looks alike
pub alike : StepsWithin → (T : Table) (m : Marked) → IsTable T → IsOver T m → (w : List ℕ) (s t : ℕ) → s < T.states → t < T.states → pair_number m s t ≡ 0 → IsLegal T (Some s) w → IsLegal T (Some t) w
alike within T m table over [] s t s_in t_in none legal = refl
alike within T m table over (k ∷ w) s t s_in t_in none legal =
    let h = over.after in
    let there = from_state T (next T s k) w legal in
    let step = within T s k there.0 table there.1 in
    elim (stuck_or_on (next T t k)) [
      | inl stuck ↦
          let one : over.rounds < 1 = h.untold s t s_in t_in none (k ∷ []) (tells-one T s t k there.0 there.1 stuck) in
          absurd (omega (arith, one, over.some))
      | inr on ↦
          let after_in = (within T t k on.0 table on.1).2 in
          elim (cases_lt 0 (pair_number m there.0 on.0)) [
            | inl known ↦
                let same = (least-after T over.rounds m s t k there.0 on.0 h s_in t_in step.2 after_in none there.1 on.1 known).0 in
                let listed = h.listed there.0 on.0 step.2 after_in same in
                absurd (none-found m.found listed.0 there.0 on.0 over.none listed.1)
            | inr unknown ↦
                let zero : pair_number m there.0 on.0 ≡ 0 = omega (arith, unknown) in
                legal_here T (next T t k) on.0 w on.1 (alike within T m table over w there.0 on.0 step.2 after_in zero (legal_there T (next T s k) there.0 w there.1 legal))
          ]
    ]
  where
    stuck_or_on : (o : Option ℕ) → (o ≡ None) ⊎ ((e : ℕ) × (o ≡ Some e))
    stuck_or_on None = inl refl
    stuck_or_on (Some e) = inr (e, refl)

-- ---- how many there can be

-- at first each number is 0
start-zero : (states s t : ℕ) → pair_number (none_marked states) s t ≡ 0
start-zero states s t =
    elim (cases_lt (s * states + t) (states * states)) [
      | inl inside ↦ get_or-replicate (states * states) (s * states + t) 0 0 inside
      | inr past ↦ get_or_past (replicate (states * states) 0) (s * states + t) 0 (omega (arith, past, length-replicate {A = ℕ} (states * states) 0))
    ]

-- and so each pair is unknown
start-unknown : (states : ℕ) → unknown (none_marked states) ≡ states * states
start-unknown states = sum_by-replicate (λ (x : ℕ). cond (x == 0) 1 0) (states * states) 0 ∙ mul-one (states * states)
  where
    mul-one : (n : ℕ) → n * 1 ≡ n
    mul-one n = omega arith

-- the first round
pub after-first : StepsWithin → (T : Table) (states : ℕ) (m new : Marked) → IsTable T → states ≡ T.states → m ≡ none_marked states → Strikes 1 (IsToldAtOnce T) m new →
    AfterRounds T 1 new × (length new.found + unknown new ≡ states * states)
after-first within T states m new table states_is none strikes = (
  first-round within T (none_marked states) new table states_is (start-zero states) refl (begun none strikes),
  let counted = (begun none strikes).counted in let all = start-unknown states in omega (arith, counted, all),
)
  where
    begun : m ≡ none_marked states → Strikes 1 (IsToldAtOnce T) m new → Strikes 1 (IsToldAtOnce T) (none_marked states) new
    begun same h = subst (λ a. Strikes 1 (IsToldAtOnce T) a new) same h

-- a list that isn't empty has something
pub some_in : (pairs : List (ℕ × ℕ)) → (pairs ≡ [] → ⊥) → 0 < length pairs
some_in [] none = absurd (none refl)
some_in (p ∷ pairs) none = omega arith

-- ---- distances

-- when the rounds are over the numbers are distances
pub distances-of : StepsWithin → (T : Table) (m : Marked) → IsTable T → IsOver T m → AreDistances T (record { states = m.states; cells = m.cells })
distances-of within T m table over = record {
  table = table;
  states = (over.after).states;
  each = λ s t s_in t_in. by_number s t s_in t_in (pair_number m s t) refl;
}
  where
    by_number : (s t : ℕ) → s < T.states → t < T.states → (n : ℕ) → pair_number m s t ≡ n → IsDistance T s t (from_number n)
    by_number s t s_in t_in zero is = λ w legal. alike within T m table over w s t s_in t_in is legal
    by_number s t s_in t_in (suc n) is =
        let known : 0 < pair_number m s t = omega (arith, is) in
        subst (λ j. IsLeastLength T (Some s) (Some t) j) is ((over.after).told s t s_in t_in known)

-- whatever shows the same numbers
pub distances-shown : StepsWithin → (T : Table) (m : Marked) (states : ℕ) (cells : List ℕ) → IsTable T → IsOver T m → states ≡ T.states → cells ≡ m.cells → AreDistances T (record { states = states; cells = cells })
distances-shown within T m states cells table over states_is cells_is =
    subst (λ (shown : List ℕ). AreDistances T (record { states = states; cells = shown })) (sym cells_is)
    (subst (λ (n : ℕ). AreDistances T (record { states = n; cells = m.cells })) ((over.after).states ∙ sym states_is) (distances-of within T m table over))
