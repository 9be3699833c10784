-- The least witness: of the shortest lists to each state and of those that show there that the pair fails.
use Rattle.std.proofs.Common.{◌≡◌, ◌↔◌, ℕ, ◌+◌, ◌<◌, ◌≤◌, ◌==◌, Bool, true, false, ltb, cond, is_some, List, length, Option, Some, None, MatchOption, refl, sym, ap, ◌∙◌, subst, inl, inr, arith}
use Rattle.std.specs.List.{slice_get}
use Rattle.std.proofs.lemmas.Bool.{false≢true, cases_lt, ltb-true, ltb-false, eqb-true, eqb-false, or_cases, or_parts, and_parts, and_cases}
use Rattle.std.proofs.lemmas.Option.{same_Some, slice_get_within}
use Rattle.type_table.specs.Table.{Table}
use Rattle.type_table.specs.Commute.{Commutes}
use Rattle.type_table.specs.Laws.{EndsWithin}
use Rattle.type_table.specs.declared.table_kind.TableKind.{TableKind}
use Rattle.pair_needs.specs.Ends.{IsFirstShown}
use Rattle.pair_needs.specs.Leads.{Leads as LeadsTo, IsLead, AreLeads}
use Rattle.pair_needs.specs.Needs.{only, FailsInRun}
use Rattle.pair_needs.specs.Places.{IsNoWorse, IsPlace, IsLeastPlace, NoneFails, is_better, better_of}
use Rattle.pair_needs.specs.Witnesses.{Shows, IsWitness, IsLeastWitness, IsLeastWitnessOf, lead_of, tell_of, size}
use Rattle.pair_needs.specs.declared.ends.Shown.{Shown}
use Rattle.pair_needs.specs.declared.leads.Lead.{Lead}
use Rattle.pair_needs.specs.declared.witness.Least.{Least}
use Rattle.pair_needs.specs.declared.witness.Witness.{Witness}
use Rattle.pair_needs.proofs.Parting.{shows-fails}

-- a list leads to a state of the table
pub lead_inside : EndsWithin → (T : Table) (leads : List Lead) (i : ℕ) (l : Lead) → AreLeads T leads → slice_get leads i ≡ Some l → l.state < T.states
lead_inside within T leads i l h there = within T T.initial l.state l.list.items h.table (h.table).initial_inside (h.each i l there).leads

worse_trans : (a s b t c u : ℕ) → IsNoWorse a s b t → IsNoWorse b t c u → IsNoWorse a s c u
worse_trans a s b t c u first second =
    elim first [
      | inl low ↦ elim second [
        | inl below ↦ inl (omega (arith, low, below))
        | inr same ↦ inl (omega (arith, low, same.0))
      ]
      | inr like ↦ elim second [
        | inl below ↦ inl (omega (arith, like.0, below))
        | inr same ↦ inr (omega (arith, like.0, same.0), omega (arith, like.1, same.1))
      ]
    ]

-- the better of two
better_first : (f l : Least) → is_better f l ≡ true → IsNoWorse f.size f.state l.size l.state
better_first f l h =
    elim (or_cases (ltb f.size l.size) _ h) [
      | inl low ↦ inl (ltb-true f.size l.size low)
      | inr like ↦
          let both = and_parts (f.size == l.size) (ltb f.state l.state) like in
          let below = ltb-true f.state l.state both.1 in
          inr (eqb-true f.size l.size both.0, omega (arith, below))
    ]

better_second : (f l : Least) → is_better f l ≡ false → IsNoWorse l.size l.state f.size f.state
better_second f l h =
    let parts = or_parts (ltb f.size l.size) _ h in
    let low : l.size ≤ f.size = ltb-false f.size l.size parts.0 in
    elim (cases_lt l.size f.size) [
      | inl less ↦ inl less
      | inr past ↦
          let same : l.size ≡ f.size = omega (arith, low, past) in
          inr (
            same,
            elim (and_cases (f.size == l.size) (ltb f.state l.state) parts.1) [
              | inl other ↦ absurd (eqb-false f.size l.size other (sym same))
              | inr above ↦ ltb-false f.state l.state above
            ],
          )
    ]

module _ (kind : TableKind) (T : Table) (p q : ℕ) (leads : List Lead) where
  -- one more place
  abbrev IsFound : ℕ → Option Least → Type 0
  IsFound n found = MatchOption found ((m : Lead) → slice_get leads n ≡ Some m → Commutes kind T (only m.state) p q) (IsPlace kind T p q leads)

  abbrev IsLeastOf : ℕ → Option Least → Type 0
  IsLeastOf n least = MatchOption least (NoneFails kind T p q leads n) (IsLeastPlace kind T p q leads n)

  pub place-none : IsLeastOf 0 None
  place-none = λ i m low there. absurd (omega (arith, low))

  -- what shows that the pair fails at a place has at least as many operations as are found there
  found-least : (l : Least) → IsPlace kind T p q leads l → (m : Lead) (h : Bool) (r : List ℕ) → slice_get leads l.place ≡ Some m → Shows kind T p q m.state h r →
      IsNoWorse l.size l.state (length m.list.items + length r) m.state
  found-least l is m h r there shows =
      let same : is.lead ≡ m = same_Some is.lead m (sym is.there ∙ there) in
      let low : is.shown ≤ length r = (is.least_shown).least h r (subst (λ (x : Lead). Shows kind T p q x.state h r) (sym same) shows) in
      let long : length is.lead.list.items ≡ length m.list.items = ap (λ (x : Lead). length x.list.items) same in
      let state : l.state ≡ m.state = sym is.state_is ∙ ap (λ (x : Lead). x.state) same in
      let whole : l.size ≡ length is.lead.list.items + is.shown = is.together in
      elim (cases_lt l.size (length m.list.items + length r)) [
        | inl less ↦ inl less
        | inr past ↦ inr (omega (arith, past, low, long, whole), omega (arith, state))
      ]

  pub place-more : (n : ℕ) (least found : Option Least) → IsLeastOf n least → IsFound n found → ((f : Least) → found ≡ Some f → f.place ≡ n) → IsLeastOf (n + 1) (better_of least found)
  place-more n None None none here at = λ i m low there. elim (cases_lt i n) [
    | inl below ↦ none i m below there
    | inr past ↦ let at_n : i ≡ n = omega (arith, past, low) in here m (subst (λ j. slice_get leads j ≡ Some m) at_n there)
  ]
  place-more n None (Some f) none is at = record {
    is_place = is;
    least = λ i m h r low there shows. elim (cases_lt i n) [
      | inl below ↦ absurd (shows-fails T p q m.state kind h r shows (none i m below there))
      | inr past ↦
          let here : i ≡ f.place = omega (arith, past, low, at f refl) in
          found-least f is m h r (subst (λ j. slice_get leads j ≡ Some m) here there) shows
    ];
  }
  place-more n (Some l) None is here at = record {
    is_place = is.is_place;
    least = λ i m h r low there shows. elim (cases_lt i n) [
      | inl below ↦ is.least i m h r below there shows
      | inr past ↦
          let at_n : i ≡ n = omega (arith, past, low) in
          absurd (shows-fails T p q m.state kind h r shows (here m (subst (λ j. slice_get leads j ≡ Some m) at_n there)))
    ];
  }
  place-more n (Some l) (Some f) old new at = by_test (is_better f l) refl
    where
      at_new : (i : ℕ) (m : Lead) (h : Bool) (r : List ℕ) → n ≤ i → i < n + 1 → slice_get leads i ≡ Some m → Shows kind T p q m.state h r → IsNoWorse f.size f.state (length m.list.items + length r) m.state
      at_new i m h r past low there shows =
          let here : i ≡ f.place = omega (arith, past, low, at f refl) in
          found-least f new m h r (subst (λ j. slice_get leads j ≡ Some m) here there) shows

      by_test : (t : Bool) → is_better f l ≡ t → IsLeastPlace kind T p q leads (n + 1) (cond t f l)
      by_test true is = record {
        is_place = new;
        least = λ i m h r low there shows. elim (cases_lt i n) [
          | inl below ↦ worse_trans f.size f.state l.size l.state (length m.list.items + length r) m.state (better_first f l is) (old.least i m h r below there shows)
          | inr past ↦ at_new i m h r past low there shows
        ];
      }
      by_test false is = record {
        is_place = old.is_place;
        least = λ i m h r low there shows. elim (cases_lt i n) [
          | inl below ↦ old.least i m h r below there shows
          | inr past ↦ worse_trans l.size l.state f.size f.state (length m.list.items + length r) m.state (better_second f l is) (at_new i m h r past low there shows)
        ];
      }

  -- a place is one of the list
  pub place_within : (l : Least) → IsPlace kind T p q leads l → l.place < length leads
  place_within l is = slice_get_within leads l.place is.lead is.there

  -- the pair doesn't commute at its state
  pub place-fails : (l : Least) (m : Lead) → IsPlace kind T p q leads l → slice_get leads l.place ≡ Some m → Commutes kind T (only m.state) p q → ⊥
  place-fails l m is there commutes =
      let same : m ≡ is.lead = same_Some m is.lead (sym there ∙ is.there) in
      let least = is.least_shown in
      shows-fails T p q is.lead.state kind least.held_first least.list least.shows (subst (λ (x : Lead). Commutes kind T (only x.state) p q) same commutes)

  -- ---- all places

  pub place-all : (n : ℕ) (least : Option Least) → length leads ≤ n → IsLeastOf n least → IsLeastOf (length leads) least
  place-all n None all none = λ i m low there. none i m (omega (arith, low, all)) there
  place-all n (Some l) all is = record { is_place = is.is_place; least = λ i m h r low there shows. is.least i m h r (omega (arith, low, all)) there shows }

  module _ (h : AreLeads T leads) where
    below_all : (i : ℕ) (l : Lead) → slice_get leads i ≡ Some l → i < length leads
    below_all i l there = slice_get_within leads i l there

    pub none-fails : NoneFails kind T p q leads (length leads) → FailsInRun kind T p q → ⊥
    none-fails none fails =
        let known = h.all fails.0 fails.1 in
        fails.2 (subst (λ s. Commutes kind T (only s) p q) known.3 (none known.0 known.1 (below_all known.0 known.1 known.2) known.2))

    pub least-witness : (l : Least) (lead : Lead) (shown : Shown) (w : Witness) → IsLeastPlace kind T p q leads (length leads) l → slice_get leads l.place ≡ Some lead →
        IsFirstShown kind T p q lead.state shown → w.state ≡ lead.state → w.held_first ≡ shown.held_first → lead_of w ≡ lead.list.items → tell_of w ≡ shown.tell.items →
        IsLeastWitness kind T p q w
    least-witness l lead shown w is there first state_is held_is lead_is tell_is = record {
      is_witness = record { leads = rw (state_is, lead_is) is_lead.leads; shows = rw (state_is, held_is, tell_is) first.shows };
      shortest = λ c is_c. not_longer c is_c;
      least_state = λ c is_c same. elim (no_worse c is_c) [
        | inl low ↦ absurd (omega (arith, low, same, size_is, lead_low c is_c))
        | inr like ↦ omega (arith, like.1, l_state, known_state c is_c)
      ];
      first_lead = λ c is_c same state. rw lead_is (is_lead.first (lead_of c) (leads_here c is_c state) (long_lead c is_c same state));
      first_tell = λ c is_c same state like. rw tell_is (first.first c.held_first (tell_of c) (shows_here c is_c state) (long_tell c is_c same state));
      prefers = λ shows. held_is ∙ first.prefers (rw (state_is, tell_is) at shows);
    }
      where
        place : IsPlace kind T p q leads l
        place = is.is_place

        same_lead : place.lead ≡ lead
        same_lead = same_Some place.lead lead (sym place.there ∙ there)

        is_lead : IsLead T lead.state lead.list.items
        is_lead = h.each l.place lead there

        l_state : l.state ≡ w.state
        l_state = sym place.state_is ∙ ap (λ (x : Lead). x.state) same_lead ∙ sym state_is

        -- both say how many operations show it
        shown_long : length (tell_of w) ≡ place.shown
        shown_long =
            let one : place.shown ≤ length shown.tell.items = (place.least_shown).least shown.held_first shown.tell.items (subst (λ (x : Lead). Shows kind T p q x.state shown.held_first shown.tell.items) (sym same_lead) first.shows) in
            let other : length shown.tell.items ≤ length (place.least_shown).list =
            first.shortest (place.least_shown).held_first (place.least_shown).list (subst (λ (x : Lead). Shows kind T p q x.state (place.least_shown).held_first (place.least_shown).list) same_lead (place.least_shown).shows) in
            let long : length (place.least_shown).list ≡ place.shown = (place.least_shown).long in
            let told : length (tell_of w) ≡ length shown.tell.items = ap (λ (v : List ℕ). length v) tell_is in
            omega (arith, one, other, long, told)

        lead_long : length (lead_of w) ≡ length lead.list.items
        lead_long = ap (λ (v : List ℕ). length v) lead_is

        size_is : l.size ≡ length (lead_of w) + length (tell_of w)
        size_is =
            let whole : l.size ≡ length place.lead.list.items + place.shown = place.together in
            let same : length place.lead.list.items ≡ length lead.list.items = ap (λ (x : Lead). length x.list.items) same_lead in
            omega (arith, whole, same, lead_long, shown_long)

        -- another witness is at a place too
        known : (c : Witness) → IsWitness kind T p q c → (i : ℕ) × (m : Lead) × (slice_get leads i ≡ Some m) × (m.state ≡ c.state)
        known c is_c = h.all c.state (lead_of c, is_c.leads)

        known_state : (c : Witness) (is_c : IsWitness kind T p q c) → (known c is_c).1.state ≡ c.state
        known_state c is_c = (known c is_c).3

        lead_low : (c : Witness) (is_c : IsWitness kind T p q c) → length (known c is_c).1.list.items ≤ length (lead_of c)
        lead_low c is_c =
            (h.each (known c is_c).0 (known c is_c).1 (known c is_c).2).shortest (lead_of c) (subst (λ s. LeadsTo T s (lead_of c)) (sym (known_state c is_c)) is_c.leads)

        no_worse : (c : Witness) (is_c : IsWitness kind T p q c) → IsNoWorse l.size l.state (length (known c is_c).1.list.items + length (tell_of c)) (known c is_c).1.state
        no_worse c is_c =
            is.least (known c is_c).0 (known c is_c).1 c.held_first (tell_of c) (below_all (known c is_c).0 (known c is_c).1 (known c is_c).2) (known c is_c).2
            (subst (λ s. Shows kind T p q s c.held_first (tell_of c)) (sym (known_state c is_c)) is_c.shows)

        not_longer : (c : Witness) → IsWitness kind T p q c → size w ≤ size c
        not_longer c is_c = elim (no_worse c is_c) [
          | inl low ↦ omega (arith, low, size_is, lead_low c is_c)
          | inr like ↦ omega (arith, like.0, size_is, lead_low c is_c)
        ]

        -- and one at the same state has lists to compare
        leads_here : (c : Witness) → IsWitness kind T p q c → c.state ≡ w.state → LeadsTo T lead.state (lead_of c)
        leads_here c is_c state = subst (λ s. LeadsTo T s (lead_of c)) (state ∙ state_is) is_c.leads

        shows_here : (c : Witness) → IsWitness kind T p q c → c.state ≡ w.state → Shows kind T p q lead.state c.held_first (tell_of c)
        shows_here c is_c state = subst (λ s. Shows kind T p q s c.held_first (tell_of c)) (state ∙ state_is) is_c.shows

        tell_low : (c : Witness) → IsWitness kind T p q c → c.state ≡ w.state → length (tell_of w) ≤ length (tell_of c)
        tell_low c is_c state =
            let low : length shown.tell.items ≤ length (tell_of c) = first.shortest c.held_first (tell_of c) (shows_here c is_c state) in
            let told : length (tell_of w) ≡ length shown.tell.items = ap (λ (v : List ℕ). length v) tell_is in
            omega (arith, low, told)

        lead_here : (c : Witness) → IsWitness kind T p q c → c.state ≡ w.state → length lead.list.items ≤ length (lead_of c)
        lead_here c is_c state = is_lead.shortest (lead_of c) (leads_here c is_c state)

        long_lead : (c : Witness) → IsWitness kind T p q c → size c ≡ size w → c.state ≡ w.state → length (lead_of c) ≡ length lead.list.items
        long_lead c is_c same state = omega (arith, same, tell_low c is_c state, lead_here c is_c state, lead_long)

        long_tell : (c : Witness) → IsWitness kind T p q c → size c ≡ size w → c.state ≡ w.state → length (tell_of c) ≡ length shown.tell.items
        long_tell c is_c same state =
            let told : length (tell_of w) ≡ length shown.tell.items = ap (λ (v : List ℕ). length v) tell_is in
            omega (arith, same, tell_low c is_c state, lead_here c is_c state, lead_long, told)

-- what shows that a pair fails at a state to which a list leads is a failing in a run
pub witness-fails : (kind : TableKind) (T : Table) (p q : ℕ) (w : Witness) → IsWitness kind T p q w → FailsInRun kind T p q
witness-fails kind T p q w is = (w.state, (lead_of w, is.leads), λ commutes. shows-fails T p q w.state kind w.held_first (tell_of w) is.shows commutes)

-- whether there is a least witness tells whether the pair fails in a run
pub run-known : (kind : TableKind) (T : Table) (p q : ℕ) (found : Option Witness) → IsLeastWitnessOf kind T p q found → (is_some found ≡ true) ↔ FailsInRun kind T p q
run-known kind T p q None none = ((λ some. absurd (false≢true some)), (λ fails. absurd (none fails)))
run-known kind T p q (Some w) is = ((λ some. witness-fails kind T p q w is.is_witness), (λ fails. refl))
