-- Who keeps a transaction from one operation where it is known who keeps it from another.
use Rattle.std.proofs.Common.{◌≡◌, ℕ, ◌+◌, ◌<◌, ◌≤◌, Bool, true, false, not, ◌&&◌, ◌==◌, List, [], ◌∷◌, Option, Some, None, eqb, refl, sym, ap, subst, ◌∙◌, inl, inr, arith}
use Rattle.std.specs.Prelude.{slice_get}
use Rattle.std.specs.List.{find}
use Rattle.std.specs.Option.{option_map, option_or}
use Rattle.std.proofs.Math.Path.{fun_ext}
use Rattle.std.proofs.lemmas.Bool.{cases_Bool, false≢true, and_from, and_parts, and_right, not-true, false_from_ne_true}
use Rattle.type_table.proofs.Elements.{differ_turned}
use Rattle.escrow_laws.specs.Marks.{mark_after, most_needed, least_limit}
use Rattle.escrow_laws.specs.Laws.{ExtremesTellFirm, FirmIsLegal, MarksAreExact, MarksFit, MarksTell}
use Rattle.escrow_laws.specs.declared.bounded.Bounded.{Bounded}
use Rattle.escrow_laws.specs.declared.mark.Mark.{Mark}
use Rattle.escrow_laws.specs.declared.mark.OpenMark.{OpenMark}
use Rattle.object_trait.specs.Meaning.{Meaning, object, own_of, state_by, state_of}
use Rattle.object_trait.specs.Steps.{above, stopper}
use Rattle.object_trait.specs.declared.log_entry.LogEntry.{LogEntry}
use Rattle.escrow_manager.specs.Numeric.{bounds_in, greatest}
use Rattle.escrow_manager.specs.Marks.{mark_in}
use Rattle.escrow_manager.specs.Kept.{IsKeptInEscrow}
use Rattle.escrow_manager.specs.declared.totals.Totals.{Totals}
use Rattle.escrow_manager.proofs.Summing.{limit-least}
use Rattle.escrow_manager.proofs.Telling.{sums-told}
use Rattle.escrow_manager.proofs.Summing.{counted, counted-both, needed-counted, limit-counted}
use Rattle.escrow_manager.proofs.Keeping.{mark_at, idle-above, firm-of, inside-of}
use Rattle.escrow_manager.proofs.Blocking.{named_of, stopper-marks}
use Rattle.escrow_manager.proofs.KeptMarks.{keeps_from, alone_from, lone-keeps}
use Rattle.escrow_manager.proofs.KeptWays.{IsFirmBy, IsBesideBy, IsOther, LoneAlike, KeepsAlike}

-- ---- the first entry that passes a test

abbrev by_of : Option LogEntry → Option ℕ
by_of found = option_map (λ (e : LogEntry). e.by) found

-- whose it is has an entry that passes
found-passes : (test : LogEntry → Bool) (log : List LogEntry) (u : ℕ) → by_of (find test log) ≡ Some u → (e : LogEntry) × (e.by ≡ u) × (test e ≡ true)
found-passes test [] u is = cc
found-passes test (e ∷ log) u is = elim (cases_Bool (test e)) [
  | inl passes ↦ let here : Some e.by ≡ Some u = rw passes at is in let same : e.by ≡ u = cc in (e, same, passes)
  | inr fails ↦ found-passes test log u (rw fails at is)
]

-- and it is the first by a stricter test too, that passes all those entries of his
found-stays : (test strict : LogEntry → Bool) (log : List LogEntry) (u : ℕ) → ((e : LogEntry) → strict e ≡ true → test e ≡ true) → ((e : LogEntry) → e.by ≡ u → test e ≡ true → strict e ≡ true) →
    by_of (find test log) ≡ Some u → by_of (find strict log) ≡ Some u
found-stays test strict [] u weaker stays is = cc
found-stays test strict (e ∷ log) u weaker stays is = elim (cases_Bool (test e)) [
  | inl passes ↦ let here : Some e.by ≡ Some u = rw passes at is in let same : e.by ≡ u = cc in rw (stays e same passes) here
  | inr fails ↦
      let none : strict e ≡ false = false_from_ne_true (strict e) (λ so. let both = sym fails ∙ weaker e so in cc) in
      rw none (found-stays test strict log u weaker stays (rw fails at is))
]

-- where none passes, none passes a stricter test
none-stays : (test strict : LogEntry → Bool) (log : List LogEntry) → ((e : LogEntry) → strict e ≡ true → test e ≡ true) → find test log ≡ None → find strict log ≡ None
none-stays test strict [] weaker none = refl
none-stays test strict (e ∷ log) weaker none = elim (cases_Bool (test e)) [
  | inl passes ↦ absurd (let some : Some e ≡ None = rw passes at none in cc)
  | inr fails ↦
      let here : strict e ≡ false = false_from_ne_true (strict e) (λ so. let both = sym fails ∙ weaker e so in cc) in
      rw here (none-stays test strict log weaker (rw fails at none))
]

-- ---- who is named of those that pass

module _ (rather test : LogEntry → Bool) (log : List LogEntry) (u : ℕ) where
  abbrev both : LogEntry → Bool
  both e = rather e && test e

  -- whose first entry passes, and whose entries are named first, is named first
  none-both : (es : List LogEntry) → find both es ≡ None → by_of (find test es) ≡ Some u → ((e : LogEntry) → e.by ≡ u → rather e ≡ true) → ⊥
  none-both [] none is first = cc
  none-both (e ∷ es) none is first = elim (cases_Bool (test e)) [
    | inl passes ↦
        let here : Some e.by ≡ Some u = rw passes at is in
        let same : e.by ≡ u = cc in
        let some : Some e ≡ None = rw (first e same, passes) at none in
        cc
    | inr fails ↦ none-both es (rw (and_right (rather e) (test e) fails) at none) (rw fails at is) first
  ]

  abbrev IsNamedBy : Option LogEntry → Type 0
  IsNamedBy first = option_or (by_of first) (by_of (find test log)) ≡ Some u

  -- whoever is named passes
  pub named-passes : named_of rather test log ≡ Some u → (e : LogEntry) × (e.by ≡ u) × (test e ≡ true)
  named-passes is = go (find both log) refl is
    where
      go : (first : Option LogEntry) → find both log ≡ first → IsNamedBy first → (e : LogEntry) × (e.by ≡ u) × (test e ≡ true)
      go None found named = found-passes test log u named
      go (Some x) found named =
          let one = found-passes both log u (ap by_of found ∙ named) in
          (one.0, one.1, (and_parts (rather one.0) (test one.0) one.2).1)

  -- who is named first is the first that passes both
  pub named-first : ((e : LogEntry) → e.by ≡ u → rather e ≡ true) → named_of rather test log ≡ Some u → by_of (find both log) ≡ Some u
  named-first first is = go (find both log) refl is
    where
      go : (found : Option LogEntry) → find both log ≡ found → IsNamedBy found → by_of (find both log) ≡ Some u
      go None found named = absurd (none-both log found named first)
      go (Some x) found named = ap by_of found ∙ named

  -- where another is named, none passes both
  pub named-last : ((e : LogEntry) → e.by ≡ u → rather e ≡ false) → named_of rather test log ≡ Some u → (find both log ≡ None) × (by_of (find test log) ≡ Some u)
  named-last last is = go (find both log) refl is
    where
      go : (found : Option LogEntry) → find both log ≡ found → IsNamedBy found → (find both log ≡ None) × (by_of (find test log) ≡ Some u)
      go None found named = (found, named)
      go (Some x) found named =
          let one = found-passes both log u (ap by_of found ∙ named) in
          absurd (false≢true (sym (last one.0 one.1) ∙ (and_parts (rather one.0) (test one.0) one.2).0))

-- ---- an operation that is legal for t

-- with an operation of these bounds, what t did is legal from base
abbrev pub IsLegalWith : ℕ → Mark → Bounded → Type 0
IsLegalWith base t b = ((mark_after t b).floor ≤ base) × (base < (mark_after t b).ceiling)

-- it is, where the operation is legal at the number that t sees
pub legal-with : (base s : ℕ) (totals : Totals) (t : Mark) (b : Bounded) → IsFirmBy base totals t → s + t.fall ≡ base + t.above → b.low ≤ s → s ≤ b.high → IsLegalWith base t b
legal-with base s totals t b firm sees low high =
    let needed = firm.needed in
    let limit = firm.limit in
    let fall = firm.fall in
    let rise = firm.rise in
    (omega (arith, needed, fall, sees, low), omega (arith, limit, rise, sees, high))

-- ---- of an object

module _ {m : Meaning} {marks : List OpenMark} {totals : Totals} (h : IsKeptInEscrow m marks totals) where
  -- together they take no more than there is, and give no more than there is room for
  sums : ExtremesTellFirm → (totals.fallen + most_needed marks ≤ m.base) × (m.base + totals.risen < least_limit (greatest m.checked) marks)
  sums tell =
      let told = sums-told tell m.checked.file.table (greatest m.checked) m.base (above 0 m.log) (bounds_in m.checked) (own_of m.log) marks h.numeric.bounds (inside-of h) h.listed (idle-above 0 m.log) (firm-of h) in
      subst (λ (x : Totals). (x.fallen + most_needed marks ≤ m.base) × (m.base + x.risen < least_limit (greatest m.checked) marks)) (sym h.summed) told

  -- what is committed
  pub base-seen : (s : ℕ) → state_of m ≡ Some s → s ≡ m.base
  base-seen s is =
      let both : Some s ≡ Some m.base = sym is ∙ ap (λ way. state_by way (object m) m.base m.log) h.numeric.escrow in
      cc

  pub room-of : ExtremesTellFirm → (totals.fallen ≤ m.base) × (m.base + totals.risen ≤ greatest m.checked)
  room-of tell = let both = sums tell in let least = limit-least (greatest m.checked) marks in (omega (arith, both.0), omega (arith, both.1, least))

  -- and so for each of them
  pub firm-by : ExtremesTellFirm → (u : ℕ) → IsFirmBy m.base totals (mark_at m u)
  firm-by tell u = subst (λ (x : Mark). IsFirmBy m.base totals x) (h.listed.exact u) here
    where
      x : Mark
      x = mark_in (greatest m.checked) u marks

      here : IsFirmBy m.base totals (mark_in (greatest m.checked) u marks)
      here =
          let both = sums tell in
          let needed = needed-counted (greatest m.checked) u marks in
          let limit = limit-counted (greatest m.checked) u marks in
          let fall = counted (greatest m.checked) (λ y. y.fall) refl u marks in
          let rise = counted (greatest m.checked) (λ y. y.rise) refl u marks in
          let fallen = ap (λ (y : Totals). y.fallen) h.summed in
          let risen = ap (λ (y : Totals). y.risen) h.summed in
          record { needed = omega (arith, both.0, needed); limit = omega (arith, both.1, limit); fall = omega (arith, fall, fallen); rise = omega (arith, rise, risen) }

  -- together two of them fall and rise no further than all do
  pub other-by : ExtremesTellFirm → (t u : ℕ) → eqb t u ≡ false → IsOther m.base totals (mark_at m t) (mark_at m u)
  other-by tell t u other =
      let top = greatest m.checked in
      let fall = counted-both top (λ y. y.fall) refl t u marks other in
      let rise = counted-both top (λ y. y.rise) refl t u marks other in
      let fallen = ap (λ (y : Totals). y.fallen) h.summed in
      let risen = ap (λ (y : Totals). y.risen) h.summed in
      let one = h.listed.exact t in
      let two = h.listed.exact u in
      record {
        firm = firm-by tell u;
        beside = subst (λ (x : Mark). IsBesideBy totals x (mark_at m u)) one
            (subst (λ (x : Mark). IsBesideBy totals (mark_in top t marks) x) two (record { fall = omega (arith, fall, fallen); rise = omega (arith, rise, risen) }));
      }

  module _ (exact : MarksAreExact) (fit : MarksFit) (legal : FirmIsLegal) (tell : MarksTell) (extremes : ExtremesTellFirm) (t : ℕ) where
    -- who keeps t from an operation of these bounds, by his mark
    abbrev keeper : Bounded → LogEntry → Bool
    keeper b e = not (e.by == t) && keeps_from m.base totals.fallen totals.risen (mark_at m t) b (mark_at m e.by)

    -- and who does so alone
    abbrev lone : Bounded → LogEntry → Bool
    lone b e = alone_from m.base (mark_at m t) b (mark_at m e.by)

    stopper-at : (k : ℕ) (b : Bounded) → slice_get (bounds_in m.checked) k ≡ Some b → stopper m t k ≡ named_of (lone b) (keeper b) m.log
    stopper-at k b found =
        stopper-marks h t k b found exact fit legal tell
        ∙ ap (λ (shown : ℕ → Mark). named_of (λ e. alone_from m.base (mark_at m t) b (shown e.by)) (λ e. not (e.by == t) && keeps_from m.base totals.fallen totals.risen (mark_at m t) b (shown e.by)) m.log)
        (fun_ext (λ u. h.listed.exact u))

    -- an entry that passes is another's
    others-entry : (b : Bounded) (e : LogEntry) → keeper b e ≡ true → IsOther m.base totals (mark_at m t) (mark_at m e.by)
    others-entry b e passes =
        let parts = and_parts (not (e.by == t)) (keeps_from m.base totals.fallen totals.risen (mark_at m t) b (mark_at m e.by)) passes in
        other-by extremes t e.by (differ_turned t e.by (not-true (e.by == t) parts.0))

    module _ (u k : ℕ) (b : Bounded) (found : slice_get (bounds_in m.checked) k ≡ Some b) (is : stopper m t k ≡ Some u) where
      named : named_of (lone b) (keeper b) m.log ≡ Some u
      named = sym (stopper-at k b found) ∙ is

      -- who keeps t from k is another, and does so by his mark
      pub keeper-keeps : IsOther m.base totals (mark_at m t) (mark_at m u) × (keeps_from m.base totals.fallen totals.risen (mark_at m t) b (mark_at m u) ≡ true)
      keeper-keeps =
          let entry = named-passes (lone b) (keeper b) m.log u named in
          let parts = and_parts (not (entry.0.by == t)) (keeps_from m.base totals.fallen totals.risen (mark_at m t) b (mark_at m entry.0.by)) entry.2 in (
            subst (λ v. IsOther m.base totals (mark_at m t) (mark_at m v)) entry.1 (others-entry b entry.0 entry.2),
            subst (λ v. keeps_from m.base totals.fallen totals.risen (mark_at m t) b (mark_at m v) ≡ true) entry.1 parts.1,
          )

      module _ (j : ℕ) (d : Bounded) (there : slice_get (bounds_in m.checked) j ≡ Some d) where
        -- where no other keeps t from j, but he does, he keeps t from j
        pub keeper-stays : alone_from m.base (mark_at m t) b (mark_at m u) ≡ false → KeepsAlike m.base totals (mark_at m t) (mark_at m u) b d → stopper m t j ≡ Some u
        keeper-stays not_alone alike =
            let weaker : (e : LogEntry) → keeper d e ≡ true → keeper b e ≡ true = λ e strict.
            let parts = and_parts (not (e.by == t)) (keeps_from m.base totals.fallen totals.risen (mark_at m t) d (mark_at m e.by)) strict in
            and_from (not (e.by == t)) (keeps_from m.base totals.fallen totals.risen (mark_at m t) b (mark_at m e.by)) parts.0 (alike.each (mark_at m e.by) (others-entry d e strict) parts.1) in
            let last = named-last (lone b) (keeper b) m.log u (λ e same. subst (λ v. alone_from m.base (mark_at m t) b (mark_at m v) ≡ false) (sym same) not_alone) named in
            let none : find (λ e. lone d e && keeper d e) m.log ≡ None =
            none-stays (λ e. lone b e && keeper b e) (λ e. lone d e && keeper d e) m.log
            (λ e strict.
            let parts = and_parts (lone d e) (keeper d e) strict in
            and_from (lone b e) (keeper b e) (alike.fewer (mark_at m e.by) (others-entry d e parts.1) parts.0) (weaker e parts.1)) last.0 in
            let first : by_of (find (keeper d) m.log) ≡ Some u =
            found-stays (keeper b) (keeper d) m.log u weaker
            (λ e same passes.
            let parts = and_parts (not (e.by == t)) (keeps_from m.base totals.fallen totals.risen (mark_at m t) b (mark_at m e.by)) passes in
            and_from (not (e.by == t)) (keeps_from m.base totals.fallen totals.risen (mark_at m t) d (mark_at m e.by)) parts.0
            (subst (λ v. keeps_from m.base totals.fallen totals.risen (mark_at m t) d (mark_at m v) ≡ true) (sym same) alike.still))
            last.1 in
            stopper-at j d there ∙ ap (λ one. option_or (by_of one) (by_of (find (keeper d) m.log))) none ∙ first

        -- and so it is of those who do so alone, where both operations are legal for t
        pub lone-stays : IsLegalWith m.base (mark_at m t) b → IsLegalWith m.base (mark_at m t) d → alone_from m.base (mark_at m t) b (mark_at m u) ≡ true →
            LoneAlike m.base totals (mark_at m t) (mark_at m u) b d → stopper m t j ≡ Some u
        lone-stays legal_b legal_d alone alike =
            let keeps = λ (e : LogEntry) (c : Bounded) (lawful : IsLegalWith m.base (mark_at m t) c) (sure : IsOther m.base totals (mark_at m t) (mark_at m e.by)) (so : lone c e ≡ true).
            lone-keeps m.base totals.fallen totals.risen (mark_at m t) (mark_at m e.by) c sure.beside (room-of extremes).0 lawful.0 lawful.1 so in
            let apart = λ (e : LogEntry) (c : Bounded) (passes : keeper c e ≡ true).
            (and_parts (not (e.by == t)) (keeps_from m.base totals.fallen totals.risen (mark_at m t) c (mark_at m e.by)) passes).0 in
            let first : by_of (find (λ e. lone d e && keeper d e) m.log) ≡ Some u =
            found-stays (λ e. lone b e && keeper b e) (λ e. lone d e && keeper d e) m.log u
            (λ e strict.
            let parts = and_parts (lone d e) (keeper d e) strict in
            let sure = others-entry d e parts.1 in
            let so = alike.fewer (mark_at m e.by) sure parts.0 in
            and_from (lone b e) (keeper b e) so
            (and_from (not (e.by == t)) (keeps_from m.base totals.fallen totals.risen (mark_at m t) b (mark_at m e.by)) (apart e d parts.1) (keeps e b legal_b sure so)))
            (λ e same passes.
            let parts = and_parts (lone b e) (keeper b e) passes in
            let sure = others-entry b e parts.1 in
            let so : lone d e ≡ true = subst (λ v. alone_from m.base (mark_at m t) d (mark_at m v) ≡ true) (sym same) alike.still in
            and_from (lone d e) (keeper d e) so
            (and_from (not (e.by == t)) (keeps_from m.base totals.fallen totals.risen (mark_at m t) d (mark_at m e.by)) (apart e b parts.1) (keeps e d legal_d sure so)))
            (named-first (lone b) (keeper b) m.log u (λ e same. subst (λ v. alone_from m.base (mark_at m t) b (mark_at m v) ≡ true) (sym same) alone) named) in
            stopper-at j d there ∙ ap (λ one. option_or one (by_of (find (keeper d) m.log))) first
