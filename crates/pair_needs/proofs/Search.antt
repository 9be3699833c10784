-- The search for the states to which lists lead: what is found next is found by the first list that leads there.
use Rattle.std.proofs.Common.{◌≡◌, ◌⊎◌, ◌↔◌, ℕ, zero, suc, ◌+◌, ◌-◌, ◌<◌, ◌≤◌, Bool, true, false, List, [], ◌∷◌, ◌++◌, append_assoc, length, set, replicate, Option, Some, None, refl, sym, ap, ◌∙◌, subst, inl, inr, arith}
use Rattle.std.specs.List.{slice_get}
use Rattle.std.proofs.lemmas.Bool.{false≢true, cases_order, cases_lt, cases_eq}
use Rattle.std.proofs.lemmas.Option.{none-some, same_Some}
use Rattle.std.proofs.lemmas.List.{get_or-set_same, get_or-set_other, length-set, length-replicate}
use Rattle.type_table.specs.StateSet.{has}
use Rattle.type_table.specs.Table.{Table, IsTable, next}
use Rattle.type_table.specs.Run.{run}
use Rattle.type_table.specs.Laws.{RunsAlong, StepsWithin}
use Rattle.type_table.proofs.Elements.{cases-more, found-front, found-last}
use Rattle.type_table.proofs.Legal.{run_from_none}
use Rattle.pair_needs.specs.Leads.{Leads as LeadsTo, IsLedTo, AreLeads, IsLedSet}
use Rattle.pair_needs.specs.Search.{IsSooner, IsNoLater, IsIn, IsDone, GoesOn, AreFound, IsSearched}
use Rattle.pair_needs.specs.declared.leads.Leads.{Leads}
use Rattle.pair_needs.specs.declared.leads.Lead.{Lead}
use Rattle.pair_needs.proofs.Order.{sooner_trans, no_later_sooner, sooner_never, sooner_cases, sooner_more, sooner_last, sooner_front, sooner_part, empty_first, empty_no_later, no_later_shorter, no_later_first}

-- ---- runs, with an operation more

run-more : RunsAlong → (T : Table) (v : List ℕ) (k s t : ℕ) → LeadsTo T s v → next T s k ≡ Some t → LeadsTo T t (v ++ k ∷ [])
run-more along T v k s t leads step = rw (along T (Some T.initial) v (k ∷ []), leads) step

-- a run that ends goes by a step
pub first_step : (T : Table) (r k s : ℕ) (w : List ℕ) → run T (Some r) (k ∷ w) ≡ Some s → (t : ℕ) × (next T r k ≡ Some t) × (run T (Some t) w ≡ Some s)
first_step T r k s w ends = by_next (next T r k) refl
  where
    by_next : (o : Option ℕ) → next T r k ≡ o → (t : ℕ) × (next T r k ≡ Some t) × (run T (Some t) w ≡ Some s)
    by_next None none = absurd (none-some s (sym (run_from_none T w) ∙ ap (λ (o : Option ℕ). run T o w) (sym none) ∙ ends))
    by_next (Some t) is = (t, is, ap (λ (o : Option ℕ). run T o w) (sym is) ∙ ends)

module _ (T : Table) (found : List Lead) (i k : ℕ) (h : AreFound T found i k) where
  -- ---- what was found

  initial_in : IsIn found T.initial
  initial_in = (0, h.begun.0, h.begun.1, h.begun.2)

  -- the list m goes on by k where a list that comes sooner goes on from a state that was found: so it goes where what was looked at goes
  step_in : (m : Lead) (pre : List ℕ) (r j t : ℕ) → slice_get found i ≡ Some m → LeadsTo T r pre → IsIn found r → IsSooner (pre ++ j ∷ []) (m.list.items ++ k ∷ []) → next T r j ≡ Some t → IsIn found t
  step_in m pre r j t at leads known sooner step =
      elim (sooner_front pre m.list.items j k sooner) [
        | inl before ↦
            let l = known.1 in
            let l_at = known.2 in
            let l_is : l.state ≡ r = known.3 in
            let l_first : IsNoLater l.list.items pre = h.first known.0 l pre l_at (subst (λ s. LeadsTo T s pre) (sym l_is) leads) in
            let l_before : IsSooner l.list.items m.list.items = no_later_sooner l.list.items pre m.list.items l_first before in
            let l_step : next T l.state j ≡ Some t = rw l_is step in
            elim (cases_order known.0 i) [
              | inl same ↦
                  let here : l ≡ m = same_Some l m (sym l_at ∙ ap (slice_get found) same ∙ at) in
                  absurd (sooner_never m.list.items (subst (λ (x : Lead). IsSooner x.list.items m.list.items) here l_before))
              | inr other ↦ elim other [
                | inl low ↦ h.followed known.0 j t l l_at (inl low) l_step
                | inr high ↦ absurd (sooner_never l.list.items (sooner_trans l.list.items m.list.items l.list.items l_before (h.sorted i known.0 m l high at l_at)))
              ]
            ]
        | inr last ↦
            let m_leads : LeadsTo T m.state m.list.items = h.leads i m at in
            let m_is : m.state ≡ r = same_Some m.state r (sym m_leads ∙ ap (run T (Some T.initial)) (sym last.0) ∙ leads) in
            h.followed i j t m at (inr (refl, last.1)) (rw m_is step)
      ]

  walk : RunsAlong → (m : Lead) (pre rest : List ℕ) (r s : ℕ) → slice_get found i ≡ Some m → LeadsTo T r pre → IsIn found r → IsSooner (pre ++ rest) (m.list.items ++ k ∷ []) →
      run T (Some r) rest ≡ Some s → IsIn found s
  walk along m pre [] r s at leads known sooner ends = subst (λ t. IsIn found t) (same_Some r s ends) known
  walk along m pre (j ∷ rest) r s at leads known sooner ends =
      let step = first_step T r j s rest ends in
      let whole : IsSooner ((pre ++ j ∷ []) ++ rest) (m.list.items ++ k ∷ []) = rw (append_assoc pre (j ∷ []) rest) sooner in
      let there = step_in m pre r j step.0 at leads known (sooner_part (pre ++ j ∷ []) rest (m.list.items ++ k ∷ []) whole) step.1 in
      walk along m (pre ++ j ∷ []) rest step.0 s at (run-more along T pre j r step.0 leads step.1) there whole step.2

  -- each state to which a list leads that comes before m and k was found
  sooner_in : RunsAlong → (m : Lead) (u : List ℕ) (s : ℕ) → slice_get found i ≡ Some m → IsSooner u (m.list.items ++ k ∷ []) → LeadsTo T s u → IsIn found s
  sooner_in along m u s at sooner leads = walk along m [] u T.initial s at refl initial_in sooner leads

  -- each list that was found comes before m and k
  bound_sooner : (m l : Lead) (b : ℕ) → slice_get found i ≡ Some m → slice_get found b ≡ Some l → IsSooner l.list.items (m.list.items ++ k ∷ [])
  bound_sooner m l b at l_at =
      elim (h.bound b l l_at) [
        | inl empty ↦ rw empty (empty_first m.list.items k)
        | inr on ↦
            rw on.by (elim on.done [
              | inl low ↦ sooner_more on.from.list.items m.list.items on.op k (h.sorted on.place i on.from m low on.there at)
              | inr here ↦
                  let same : on.from ≡ m = same_Some on.from m (sym on.there ∙ ap (slice_get found) here.0 ∙ at) in
                  subst (λ (x : Lead). IsSooner (x.list.items ++ on.op ∷ []) (m.list.items ++ k ∷ [])) (sym same) (sooner_last m.list.items on.op k here.1)
            ])
      ]

  -- ---- one operation more was looked at

  done_more : (a j : ℕ) → IsDone i k a j → IsDone i (k + 1) a j
  done_more a j done =
      elim done [
        | inl low ↦ inl low
        | inr here ↦ inr (here.0, omega (arith, here.1))
      ]

  cases_done : (a j : ℕ) → IsDone i (k + 1) a j → IsDone i k a j ⊎ ((a ≡ i) × (j ≡ k))
  cases_done a j done =
      elim done [
        | inl low ↦ inl (inl low)
        | inr here ↦ elim (cases_lt j k) [
          | inl below ↦ inl (inr (here.0, below))
          | inr past ↦ inr (here.0, omega (arith, past, here.1))
        ]
      ]

  goes_more : (w : List ℕ) → GoesOn found i k w → GoesOn found i (k + 1) w
  goes_more w on = record { place = on.place; op = on.op; from = on.from; there = on.there; done = done_more on.place on.op on.done; by = on.by }

  -- where it leads nowhere, or to a state that was found
  pub found-same : (m : Lead) → slice_get found i ≡ Some m → ((t : ℕ) → next T m.state k ≡ Some t → IsIn found t) → AreFound T found i (k + 1)
  found-same m at known = record {
    begun = h.begun;
    inside = h.inside;
    leads = h.leads;
    first = h.first;
    sorted = h.sorted;
    followed = λ a j t l l_at done step. elim (cases_done a j done) [
      | inl before ↦ h.followed a j t l l_at before step
      | inr here ↦
          let same : l ≡ m = same_Some l m (sym l_at ∙ ap (slice_get found) here.0 ∙ at) in
          known t (subst (λ (x : Lead). next T x.state k ≡ Some t) same (subst (λ c. next T l.state c ≡ Some t) here.1 step))
    ];
    bound = λ b l l_at. elim (h.bound b l l_at) [
      | inl empty ↦ inl empty
      | inr on ↦ inr (goes_more l.list.items on)
    ];
  }

  -- where it leads to another state
  module _ (along : RunsAlong) (m last : Lead) (at : slice_get found i ≡ Some m) (step : next T m.state k ≡ Some last.state) (inside : last.state < T.states) (fresh : IsIn found last.state → ⊥)
      (by : last.list.items ≡ m.list.items ++ k ∷ []) where
    abbrev more : List Lead
    more = found ++ last ∷ []

    in-more : (s : ℕ) → IsIn found s → IsIn more s
    in-more s known = (known.0, known.1, found-front found (last ∷ []) known.0 known.1 known.2, known.3)

    last_in : IsIn more last.state
    last_in = (length found, last, found-last found last, refl)

    goes_on : (w : List ℕ) → GoesOn found i k w → GoesOn more i (k + 1) w
    goes_on w on = record {
      place = on.place;
      op = on.op;
      from = on.from;
      there = found-front found (last ∷ []) on.place on.from on.there;
      done = done_more on.place on.op on.done;
      by = on.by;
    }

    last_first : (v : List ℕ) → LeadsTo T last.state v → IsNoLater last.list.items v
    last_first v leads = rw by (elim (sooner_cases (m.list.items ++ k ∷ []) v) [
      | inl same ↦ inl same
      | inr other ↦ elim other [
        | inl sooner ↦ inr sooner
        | inr later ↦ absurd (fresh (sooner_in along m v last.state at later leads))
      ]
    ])

    last_leads : LeadsTo T last.state last.list.items
    last_leads = rw by (run-more along T m.list.items k m.state last.state (h.leads i m at) step)

    pub found-more : AreFound T more i (k + 1)
    found-more = record {
      begun = (h.begun.0, found-front found (last ∷ []) 0 h.begun.0 h.begun.1, h.begun.2);
      inside = λ b l there. elim (cases-more found last b l there) [
        | inl old ↦ h.inside b l old
        | inr new ↦ subst (λ (x : Lead). x.state < T.states) new.1 inside
      ];
      leads = λ b l there. elim (cases-more found last b l there) [
        | inl old ↦ h.leads b l old
        | inr new ↦ subst (λ (x : Lead). LeadsTo T x.state x.list.items) new.1 last_leads
      ];
      first = λ b l v there leads. elim (cases-more found last b l there) [
        | inl old ↦ h.first b l v old leads
        | inr new ↦
            subst (λ (x : Lead). IsNoLater x.list.items v) new.1 (last_first v (subst (λ (x : Lead). LeadsTo T x.state v) (sym new.1) leads))
      ];
      sorted = λ a b l n low l_there n_there. elim (cases-more found last b n n_there) [
        | inl n_old ↦ elim (cases-more found last a l l_there) [
          | inl l_old ↦ h.sorted a b l n low l_old n_old
          | inr l_new ↦ let past = below_length found b n n_old in absurd (omega (arith, low, l_new.0, past))
        ]
        | inr n_new ↦ elim (cases-more found last a l l_there) [
          | inl l_old ↦ subst (λ (x : Lead). IsSooner l.list.items x.list.items) n_new.1 (rw by (bound_sooner m l a at l_old))
          | inr l_new ↦ absurd (omega (arith, low, l_new.0, n_new.0))
        ]
      ];
      followed = λ a j t l there done step_t. elim (cases-more found last a l there) [
        | inl old ↦ elim (cases_done a j done) [
          | inl before ↦ in-more t (h.followed a j t l old before step_t)
          | inr here ↦
              let same : l ≡ m = same_Some l m (sym old ∙ ap (slice_get found) here.0 ∙ at) in
              let here_step : next T m.state k ≡ Some t = subst (λ (x : Lead). next T x.state k ≡ Some t) same (subst (λ c. next T l.state c ≡ Some t) here.1 step_t) in
              subst (λ s. IsIn more s) (same_Some last.state t (sym step ∙ here_step)) last_in
        ]
        | inr new ↦ let below = below_length found i m at in absurd (past_done a j (omega (arith, new.0, below)) done)
      ];
      bound = λ b l there. elim (cases-more found last b l there) [
        | inl old ↦ elim (h.bound b l old) [
          | inl empty ↦ inl empty
          | inr on ↦ inr (goes_on l.list.items on)
        ]
        | inr new ↦ inr (subst (λ (x : Lead). GoesOn more i (k + 1) x.list.items) new.1 (record {
          place = i;
          op = k;
          from = m;
          there = found-front found (last ∷ []) i m at;
          done = inr (refl, omega arith);
          by = by;
        }))
      ];
    }
      where
        below_length : (V : List Lead) (b : ℕ) (l : Lead) → slice_get V b ≡ Some l → b < length V
        below_length [] b l there = absurd (none-some l there)
        below_length (x ∷ V) zero l there = omega arith
        below_length (x ∷ V) (suc b) l there = let below = below_length V b l there in omega (arith, below)

        past_done : (a j : ℕ) → i < a → IsDone i (k + 1) a j → ⊥
        past_done a j past done =
            elim done [
              | inl low ↦ omega (arith, past, low)
              | inr here ↦ omega (arith, past, here.0)
            ]

    pub in_more-cases : (s : ℕ) → IsIn more s → IsIn found s ⊎ (last.state ≡ s)
    in_more-cases s known =
        elim (cases-more found last known.0 known.1 known.2) [
          | inl old ↦ inl (known.0, known.1, old, known.3)
          | inr new ↦ inr (ap (λ (x : Lead). x.state) new.1 ∙ known.3)
        ]

-- ---- the next place, the start and the end

-- all operations were looked at from a place
pub found-next : StepsWithin → (T : Table) (found : List Lead) (i k : ℕ) → IsTable T → length T.ops ≤ k → AreFound T found i k → AreFound T found (i + 1) 0
found-next within T found i k table all h = record {
  begun = h.begun;
  inside = h.inside;
  leads = h.leads;
  first = h.first;
  sorted = h.sorted;
  followed = λ a j t l there done step.
      let op : j < length T.ops = (within T l.state j t table step).1 in
      h.followed a j t l there (elim done [
        | inl low ↦ elim (cases_lt a i) [
          | inl below ↦ inl below
          | inr past ↦ inr (omega (arith, past, low), omega (arith, op, all))
        ]
        | inr here ↦ absurd (omega (arith, here.1))
      ]) step;
  bound = λ b l there. elim (h.bound b l there) [
    | inl empty ↦ inl empty
    | inr on ↦ inr (record {
      place = on.place;
      op = on.op;
      from = on.from;
      there = on.there;
      done = elim on.done [
        | inl low ↦ inl (omega (arith, low))
        | inr here ↦ inl (omega (arith, here.0))
      ];
      by = on.by;
    })
  ];
}

-- the initial state alone
pub found-first : (T : Table) (l : Lead) → l.state ≡ T.initial → l.list.items ≡ [] → T.initial < T.states → AreFound T (l ∷ []) 0 0
found-first T l is empty inside = record {
  begun = (l, refl, is);
  inside = λ b m there. subst (λ (x : Lead). x.state < T.states) (only b m there) (rw is inside);
  leads = λ b m there. subst (λ (x : Lead). LeadsTo T x.state x.list.items) (only b m there) (rw (empty, is) refl);
  first = λ b m v there leads. subst (λ (x : Lead). IsNoLater x.list.items v) (only b m there) (rw empty (empty_no_later v));
  sorted = λ a b m n low m_there n_there. absurd (at_most b n n_there (omega (arith, low)));
  followed = λ a j t m there done step. elim done [
    | inl low ↦ absurd (omega (arith, low))
    | inr here ↦ absurd (omega (arith, here.1))
  ];
  bound = λ b m there. inl (subst (λ (x : Lead). x.list.items ≡ []) (only b m there) empty);
}
  where
    at_most : (b : ℕ) (m : Lead) → slice_get (l ∷ []) b ≡ Some m → 0 < b → ⊥
    at_most zero m there past = omega (arith, past)
    at_most (suc b) m there past = none-some m there

    only : (b : ℕ) (m : Lead) → slice_get (l ∷ []) b ≡ Some m → l ≡ m
    only zero m there = same_Some l m there
    only (suc b) m there = absurd (none-some m there)

pub in_first : (T : Table) (l : Lead) (s : ℕ) → IsIn (l ∷ []) s → l.state ≡ s
in_first T l s known = by_place known.0 known.1 known.2 known.3
  where
    by_place : (b : ℕ) (m : Lead) → slice_get (l ∷ []) b ≡ Some m → m.state ≡ s → l.state ≡ s
    by_place zero m there is = ap (λ (x : Lead). x.state) (same_Some l m there) ∙ is
    by_place (suc b) m there is = absurd (none-some m there)

-- all places were looked at
module _ (T : Table) (found : List Lead) (i : ℕ) (h : AreFound T found i 0) (all : length found ≤ i) where
  closed : (r j t : ℕ) → IsIn found r → next T r j ≡ Some t → IsIn found t
  closed r j t known step =
      h.followed known.0 j t known.1 known.2 (inl (below_end found known.0 known.1 known.2 i all)) (rw known.3 step)
    where
      below_end : (V : List Lead) (b : ℕ) (l : Lead) → slice_get V b ≡ Some l → (n : ℕ) → length V ≤ n → b < n
      below_end [] b l there n long = absurd (none-some l there)
      below_end (x ∷ V) zero l there n long = omega (arith, long)
      below_end (x ∷ V) (suc b) l there n long = let below = below_end V b l there (n - 1) (omega (arith, long)) in omega (arith, below)

  led-from : (rest : List ℕ) (r s : ℕ) → IsIn found r → run T (Some r) rest ≡ Some s → IsIn found s
  led-from [] r s known ends = subst (λ t. IsIn found t) (same_Some r s ends) known
  led-from (j ∷ rest) r s known ends =
      let step = first_step T r j s rest ends in
      led-from rest step.0 s (closed r j step.0 known step.1) step.2

  pub led_in : (s : ℕ) → IsLedTo T s → IsIn found s
  led_in s led = led-from led.0 T.initial s (0, h.begun.0, h.begun.1, h.begun.2) led.1

  pub found-all : IsTable T → AreLeads T found
  found-all table = record {
    table = table;
    each = λ b l there. record {
      leads = h.leads b l there;
      shortest = λ v leads. no_later_shorter l.list.items v (h.first b l v there leads);
      first = λ v leads long. no_later_first l.list.items v (h.first b l v there leads) long;
    };
    all = led_in;
  }

-- ---- the set beside

has-more : (members : List Bool) (s a : ℕ) → s < length members → (has (set members s true) a ≡ true) ↔ ((has members a ≡ true) ⊎ (s ≡ a))
has-more members s a inside = (
  (λ h. elim (cases_eq a s) [
    | inl same ↦ inr (sym same)
    | inr other ↦ inl (sym (get_or-set_other members s a true false other) ∙ h)
  ]),
  (λ either. elim (cases_eq a s) [
    | inl same ↦ rw same (get_or-set_same members s true false inside)
    | inr other ↦ elim either [
      | inl was ↦ get_or-set_other members s a true false other ∙ was
      | inr here ↦ absurd (other (sym here))
    ]
  ]),
)

pub searched-same : (T : Table) (i k : ℕ) (l : Leads) (m : Lead) → IsSearched T i k l → slice_get l.found.items i ≡ Some m → ((t : ℕ) → next T m.state k ≡ Some t → has l.set t ≡ true) → IsSearched T i (k + 1) l
searched-same T i k l m h at known = record {
  table = h.table;
  so_far = found-same T l.found.items i k h.so_far m at (λ t step. (h.same t).0 (known t step));
  whole = h.whole;
  same = h.same;
}

pub searched-more : RunsAlong → (T : Table) (i k : ℕ) (old new : Leads) (m last : Lead) → IsSearched T i k old → slice_get old.found.items i ≡ Some m → next T m.state k ≡ Some last.state →
    last.state < T.states → has old.set last.state ≡ false → last.list.items ≡ m.list.items ++ k ∷ [] → new.found.items ≡ old.found.items ++ last ∷ [] → new.set ≡ set old.set last.state true →
    IsSearched T i (k + 1) new
searched-more along T i k old new m last h at step inside fresh by found_is set_is =
    let not_there : IsIn old.found.items last.state → ⊥ = λ known. false≢true (sym fresh ∙ (h.same last.state).1 known) in
    let room : last.state < length old.set = rw (h.whole) inside in
    record {
      table = h.table;
      so_far = rw found_is (found-more T old.found.items i k h.so_far along m last at step inside not_there by);
      whole = rw set_is (length-set old.set last.state true ∙ h.whole);
      same = λ s. (
        (λ there. elim ((has-more old.set last.state s room).0 (rw set_is at there)) [
          | inl was ↦ rw found_is (in-more T old.found.items i k h.so_far along m last at step inside not_there by s ((h.same s).0 was))
          | inr here ↦ rw found_is (subst (λ t. IsIn (old.found.items ++ last ∷ []) t) here (last_in T old.found.items i k h.so_far along m last at step inside not_there by))
        ]),
        (λ known. rw set_is ((has-more old.set last.state s room).1 (elim (in_more-cases T old.found.items i k h.so_far along m last at step inside not_there by s (rw found_is at known)) [
          | inl was ↦ inl ((h.same s).1 was)
          | inr here ↦ inr here
        ]))),
      );
    }

pub searched-next : StepsWithin → (T : Table) (i k : ℕ) (l : Leads) → length T.ops ≤ k → IsSearched T i k l → IsSearched T (i + 1) 0 l
searched-next within T i k l all h = record { table = h.table; so_far = found-next within T l.found.items i k h.table all h.so_far; whole = h.whole; same = h.same }

pub searched-all : (T : Table) (i : ℕ) (l : Leads) → length l.found.items ≤ i → IsSearched T i 0 l → AreLeads T l.found.items × IsLedSet T l.set
searched-all T i l all h = (
  found-all T l.found.items i h.so_far all h.table,
  record {
    whole = h.whole;
    each = λ s. (
      (λ there. let known = (h.same s).0 there in let at = h.so_far.leads known.0 known.1 known.2 in (known.1.list.items, subst (λ t. LeadsTo T t known.1.list.items) known.3 at)),
      (λ led. (h.same s).1 (led_in T l.found.items i h.so_far all s led)),
    );
  },
)

-- the search begins
has-none : (n a : ℕ) → has (replicate n false) a ≡ true → ⊥
has-none zero a h = false≢true h
has-none (suc n) zero h = false≢true h
has-none (suc n) (suc a) h = has-none n a h

pub searched-first : (T : Table) (new : Leads) (l : Lead) → IsTable T → l.state ≡ T.initial → l.list.items ≡ [] → new.found.items ≡ l ∷ [] → new.set ≡ set (replicate T.states false) l.state true →
    IsSearched T 0 0 new
searched-first T new l table is empty found_is set_is =
    let long : length (replicate T.states false) ≡ T.states = length-replicate T.states false in
    let room : l.state < length (replicate T.states false) = rw (long, is) table.initial_inside in
    record {
      table = table;
      so_far = rw found_is (found-first T l is empty table.initial_inside);
      whole = rw set_is (length-set (replicate T.states false) l.state true ∙ long);
      same = λ s. (
        (λ there. elim ((has-more (replicate T.states false) l.state s room).0 (rw set_is at there)) [
          | inl was ↦ absurd (has-none T.states s was)
          | inr here ↦ rw found_is (0, l, refl, here)
        ]),
        (λ known. rw set_is ((has-more (replicate T.states false) l.state s room).1 (inr (in_first T l s (rw found_is at known))))),
      );
    }
