-- Marks and totals say who keeps a transaction from an operation.
use Rattle.std.proofs.Common.{◌≡◌, ℕ, ◌+◌, ◌-◌, ◌<◌, ◌≤◌, ◌↔◌, Bool, true, false, not, cond, eqb, ◌&&◌, ◌==◌, List, [], ◌∷◌, ◌++◌, Contains, get_or, Option, Some, None, is_some, refl, sym, ap, subst, ◌∙◌, inl, inr, arith}
use Rattle.std.specs.Prelude.{slice_get, nat_le, nat_lt}
use Rattle.std.specs.Cmp.{both_ways}
use Rattle.std.specs.List.{filter, find, AllByRecursion}
use Rattle.std.specs.Option.{option_map, option_or}
use Rattle.std.proofs.lemmas.Bool.{cases_Bool, eq-eqb, ne_eqb, and_from, and_parts, and_right, le-leb, leb-true, lt-ltb, ltb-true}
use Rattle.std.proofs.lemmas.List.Elements.{recursion_from_All}
use Rattle.type_table.proofs.Elements.{differ_turned, each-weaker, find_none, find_same}
use Rattle.type_table.specs.Run.{run, IsLegal}
use Rattle.escrow_laws.specs.Amounts.{fall, rise}
use Rattle.escrow_laws.specs.Bounds.{amounts_of}
use Rattle.escrow_laws.specs.Firm.{with_op, IsIdleFrom, IsFirm, keeps}
use Rattle.escrow_laws.specs.Marks.{mark_after, mark_of, AreMarks, FitsIn, fallen_of, risen_of, is_legal_from, mark_keeps}
use Rattle.escrow_laws.specs.Laws.{ExtremesTellFirm, FirmKeepsNobody, FirmIsLegal, MarksAreExact, MarksFit, MarksTell}
use Rattle.escrow_laws.specs.declared.bounded.Bounded.{Bounded}
use Rattle.escrow_laws.specs.declared.mark.Mark.{Mark}
use Rattle.escrow_laws.specs.declared.mark.OpenMark.{OpenMark}
use Rattle.type_table.specs.declared.kind.Kind.TheVariants.{Escrow}
use Rattle.object_trait.specs.Meaning.{Meaning, object, is_open_of, own_of}
use Rattle.object_trait.specs.Steps.{above, alone_by, stops_by, stopper}
use Rattle.object_trait.specs.Alone.{keeps_alone}
use Rattle.object_trait.specs.declared.log_entry.LogEntry.{LogEntry}
use Rattle.object_trait.proofs.Escrow.{above-t}
use Rattle.object_trait.proofs.Runs.{open-all}
use Rattle.escrow_manager.specs.Numeric.{bounds_in, greatest}
use Rattle.escrow_manager.specs.Marks.{mark_in, with_mark, mark_keeps_alone}
use Rattle.escrow_manager.specs.Totals.{totals_with, AreFirm}
use Rattle.escrow_manager.specs.Kept.{AreMarksOf, IsKeptInEscrow}
use Rattle.escrow_manager.specs.declared.totals.Totals.{Totals}
use Rattle.escrow_manager.proofs.Seeing.{seen-put, seen-put_other}
use Rattle.escrow_manager.proofs.Summing.{sum-put, needed-put, limit-put}
use Rattle.escrow_manager.proofs.Marking.{mark-more, marks-all, mark-contained, marks-put}
use Rattle.escrow_manager.proofs.Keeping.{mark_at, idle-above, inside-of, all-open, fits-of}

-- ---- what was done

-- who has one more entry did something
did-more : (e : LogEntry) (log : List LogEntry) (u : ℕ) → (own_of log u ≡ [] → ⊥) → own_of (e ∷ log) u ≡ [] → ⊥
did-more e log u did none = elim (cases_Bool (is_open_of u e)) [
  | inl is ↦ absurd (cons-some e.op (own_of log u) (rw is at none))
  | inr isnt ↦ did (rw isnt at none)
]
  where
    cons-some : (k : ℕ) (ks : List ℕ) → (k ∷ ks) ≡ [] → ⊥
    cons-some k ks is = cc

-- who has an entry did something
each-did : (log : List LogEntry) → AllByRecursion (λ e. e.done ≡ false) log → AllByRecursion (λ e. own_of log e.by ≡ [] → ⊥) log
each-did [] flags = tt
each-did (e ∷ log) flags = (here, each-weaker (λ (x : LogEntry) did. did-more e log x.by did) log (each-did log flags.1))
  where
    here : own_of (e ∷ log) e.by ≡ [] → ⊥
    here none = let is = eq-eqb e.by e.by refl in let fresh = flags.0 in let some = rw (is, fresh) at none in cc

-- two tests of others are alike
unless : (mine p q : Bool) → (mine ≡ false → p ≡ q) → (not mine && p) ≡ (not mine && q)
unless true p q same = refl
unless false p q same = same refl

-- two tests of others that pass another one too are alike
both-told : (mine p q a b : Bool) → (mine ≡ false → p ≡ q) → (not mine && a) ≡ (not mine && b) → (p && (not mine && a)) ≡ (q && (not mine && b))
both-told true p q a b same rest = and_right p false refl ∙ sym (and_right q false refl)
both-told false p q a b same rest = rw (same refl, rest) refl

-- ---- the stopper

-- who is named of those that pass: whose entry is the first of those that pass another test too; where none does, whose is the first
abbrev pub named_of : (LogEntry → Bool) → (LogEntry → Bool) → List LogEntry → Option ℕ
named_of rather test log =
    option_or (option_map (λ (e : LogEntry). e.by) (find (λ e. rather e && test e) log)) (option_map (λ (e : LogEntry). e.by) (find test log))

stopper-told : (m : Meaning) (t k : ℕ) → m.checked.kind ≡ Escrow → AllByRecursion (λ (e : LogEntry). e.done ≡ false) m.log →
    stopper m t k ≡ named_of (λ e. keeps_alone m.checked.file.table (amounts_of (bounds_in m.checked)) m.base (with_op (own_of m.log) t k) t e.by) (λ e. not (e.by == t) && keeps m.checked.file.table (amounts_of (bounds_in m.checked)) m.base (with_op (own_of m.log) t k) (above t m.log) t e.by) m.log
stopper-told m t k escrow open_all =
    ap (λ way. named_of (λ e. alone_by way (object m) m.base m.log t k e) (λ e. not (e.by == t) && stops_by way (object m) m.base m.log t k e) (filter (λ e. not e.done) m.log)) escrow
    ∙ ap (named_of (λ e. keeps_alone m.checked.file.table (amounts_of (bounds_in m.checked)) m.base (with_op (own_of m.log) t k) t e.by) (λ e. not (e.by == t) && keeps m.checked.file.table (amounts_of (bounds_in m.checked)) m.base (with_op (own_of m.log) t k) (above t m.log) t e.by)) (open-all m.log open_all)

-- by marks and totals
abbrev pub first_of : List LogEntry → List OpenMark → ℕ → Totals → Mark → ℕ → ℕ → Option ℕ
first_of log marks base totals mark top t =
    named_of (λ (e : LogEntry). mark_keeps_alone base mark (mark_in top e.by marks)) (λ (e : LogEntry). not (e.by == t) && mark_keeps base totals.fallen totals.risen mark (mark_in top e.by marks)) log

-- ---- with k

-- t's mark with an operation of these bounds, and the totals with it
abbrev pub mark_with : Meaning → ℕ → Bounded → Mark
mark_with m t b = mark_after (mark_at m t) b

abbrev pub totals_after : Meaning → Totals → ℕ → Bounded → Totals
totals_after m totals t b = totals_with totals (mark_at m t) (mark_with m t b)

module _ {m : Meaning} {marks : List OpenMark} {totals : Totals} (h : IsKeptInEscrow m marks totals) (t k : ℕ) (b : Bounded) (found : slice_get (bounds_in m.checked) k ≡ Some b) where
  abbrev own_with : ℕ → List ℕ
  own_with = with_op (own_of m.log) t k

  abbrev put : OpenMark
  put = record { by = t; mark = mark_with m t b }

  own_t : own_with t ≡ own_of m.log t ++ k ∷ []
  own_t = ap (λ x. cond x (own_of m.log t ++ k ∷ []) (own_of m.log t)) (eq-eqb t t refl)

  own_other : (u : ℕ) → eqb t u ≡ false → own_with u ≡ own_of m.log u
  own_other u other = ap (λ x. cond x (own_of m.log u ++ k ∷ []) (own_of m.log u)) (differ_turned u t other)

  did_with : own_with t ≡ [] → ⊥
  did_with none = push-some (own_of m.log t) k (sym own_t ∙ none)
    where
      push-some : (ks : List ℕ) (j : ℕ) → ks ++ j ∷ [] ≡ [] → ⊥
      push-some [] j is = cc
      push-some (x ∷ ks) j is = cc

  -- the marks with t's new one
  pub listed-with : AreMarksOf (greatest m.checked) (bounds_in m.checked) own_with (with_mark put marks)
  listed-with =
      marks-put (greatest m.checked) (bounds_in m.checked) (own_of m.log) own_with marks put h.listed
      (sym (ap (mark_of (greatest m.checked) (bounds_in m.checked)) own_t ∙ mark-more (greatest m.checked) (bounds_in m.checked) (own_of m.log t) k b found)) did_with own_other

  idle-with : IsIdleFrom (above t m.log) own_with
  idle-with u far =
      let more = above-t t m.log in
      let other : eqb t u ≡ false = ne_eqb t u (λ same. omega (arith, far, more, same)) in
      own_other u other ∙ idle-above t m.log u far

  marks-with : AreMarks (greatest m.checked) (bounds_in m.checked) own_with (above t m.log) (with_mark put marks)
  marks-with = marks-all (greatest m.checked) (bounds_in m.checked) own_with (above t m.log) (with_mark put marks) listed-with idle-with

  -- the totals have their sums
  fallen-with : fallen_of (with_mark put marks) ≡ (totals_after m totals t b).fallen
  fallen-with =
      sum-put (greatest m.checked) (λ x. x.fall) refl put marks h.listed.ordered
      ∙ ap (λ x. (fallen_of marks - x.fall) + (mark_with m t b).fall) (h.listed.exact t) ∙ ap (λ x. (x.fallen - (mark_at m t).fall) + (mark_with m t b).fall) (sym h.summed)

  risen-with : risen_of (with_mark put marks) ≡ (totals_after m totals t b).risen
  risen-with =
      sum-put (greatest m.checked) (λ x. x.rise) refl put marks h.listed.ordered
      ∙ ap (λ x. (risen_of marks - x.rise) + (mark_with m t b).rise) (h.listed.exact t) ∙ ap (λ x. (x.risen - (mark_at m t).rise) + (mark_with m t b).rise) (sym h.summed)

  -- where these say so, all is firm
  firm-with : ExtremesTellFirm → AreFirm m.base (totals_after m totals t b) → IsFirm m.checked.file.table (amounts_of (bounds_in m.checked)) m.base own_with
  firm-with tell firm =
      let low = firm.0 in
      let high = firm.1 in
      let down = fallen-with in
      let up = risen-with in
      let needed = needed-put put marks in
      let limit = limit-put (greatest m.checked) put marks in
      let kept_needed = ap (λ (x : Totals). x.needed) h.summed in
      let kept_limit = ap (λ (x : Totals). x.limit) h.summed in
      (tell m.checked.file.table (greatest m.checked) m.base (above t m.log) (bounds_in m.checked) own_with (with_mark put marks) h.numeric.bounds (inside-of h) marks-with).0
      (omega (arith, low, down, needed, kept_needed), omega (arith, high, up, limit, kept_limit))

  -- so nobody keeps t from k
  pub stopper-none : ExtremesTellFirm → FirmKeepsNobody → AreFirm m.base (totals_after m totals t b) → stopper m t k ≡ None
  stopper-none tell nobody firm =
      let T = m.checked.file.table in
      let stops : LogEntry → Bool = λ e. not (e.by == t) && keeps m.checked.file.table (amounts_of (bounds_in m.checked)) m.base own_with (above t m.log) t e.by in
      let alone : LogEntry → Bool = λ e. keeps_alone T (amounts_of (bounds_in m.checked)) m.base own_with t e.by in
      let none : (e : LogEntry) → stops e ≡ false = λ e.
      and_right (not (e.by == t)) (keeps m.checked.file.table (amounts_of (bounds_in m.checked)) m.base own_with (above t m.log) t e.by) (nobody T (amounts_of (bounds_in m.checked)) m.base (above t m.log) own_with t e.by (firm-with tell firm)) in
      stopper-told m t k h.numeric.escrow (recursion_from_All (λ (e : LogEntry). e.done ≡ false) m.log (all-open h))
      ∙ ap (λ found. option_or (option_map (λ (e : LogEntry). e.by) found) (option_map (λ (e : LogEntry). e.by) (find stops m.log)))
      (find_none (λ e. alone e && stops e) m.log (λ i d i_in. and_right (alone (get_or m.log i d)) (stops (get_or m.log i d)) (none (get_or m.log i d))))
      ∙ ap (option_map (λ (e : LogEntry). e.by)) (find_none stops m.log (λ i d i_in. none (get_or m.log i d)))

  -- else the marks say who does
  keeps-told : MarksTell → (e : LogEntry) → (own_of m.log e.by ≡ [] → ⊥) →
      (not (e.by == t) && keeps m.checked.file.table (amounts_of (bounds_in m.checked)) m.base own_with (above t m.log) t e.by)
      ≡ (not (e.by == t) && mark_keeps m.base (totals_after m totals t b).fallen (totals_after m totals t b).risen (mark_with m t b) (mark_in (greatest m.checked) e.by marks))
  keeps-told tell e did =
      unless (e.by == t) (keeps m.checked.file.table (amounts_of (bounds_in m.checked)) m.base own_with (above t m.log) t e.by)
      (mark_keeps m.base (totals_after m totals t b).fallen (totals_after m totals t b).risen (mark_with m t b) (mark_in (greatest m.checked) e.by marks))
      (λ isnt.
      let top = greatest m.checked in
      let other : eqb t e.by ≡ false = differ_turned t e.by isnt in
      let now = with_mark put marks in
      let did_now : own_with e.by ≡ [] → ⊥ = λ nothing. did (sym (own_other e.by other) ∙ nothing) in
      let mine : Contains now put = subst (λ x. Contains now (record { by = t; mark = x })) (seen-put put top marks) (mark-contained top (bounds_in m.checked) own_with now listed-with t did_with) in
      let theirs : Contains now (record { by = e.by; mark = mark_in top e.by marks }) =
      subst (λ x. Contains now (record { by = e.by; mark = x })) (seen-put_other put e.by top marks other) (mark-contained top (bounds_in m.checked) own_with now listed-with e.by did_now) in
      let told : mark_keeps m.base (fallen_of now) (risen_of now) (mark_with m t b) (mark_in top e.by marks) ≡ keeps m.checked.file.table (amounts_of (bounds_in m.checked)) m.base own_with (above t m.log) t e.by =
      tell m.checked.file.table top m.base (above t m.log) (bounds_in m.checked) own_with now put (record { by = e.by; mark = mark_in top e.by marks }) h.numeric.bounds marks-with mine theirs in
      sym told ∙ ap (λ n. mark_keeps m.base n (risen_of now) (mark_with m t b) (mark_in top e.by marks)) fallen-with
      ∙ ap (λ n. mark_keeps m.base (totals_after m totals t b).fallen n (mark_with m t b) (mark_in top e.by marks)) risen-with)

  -- and who does so alone
  module _ (exact : MarksAreExact) (fit : MarksFit) (legal : FirmIsLegal) where
    -- t's mark says from where what it did is legal
    legal-from : (s : ℕ) → s ≤ greatest m.checked → is_some (run m.checked.file.table (Some s) (own_with t)) ≡ is_legal_from (mark_with m t b) s
    legal-from s inside =
        let top = greatest m.checked in
        let ops = bounds_in m.checked in
        let x : Mark = mark_with m t b in
        let is : mark_of top ops (own_with t) ≡ x = ap (mark_of top ops) own_t ∙ mark-more top ops (own_of m.log t) k b found in
        let told = subst (λ (y : Mark). ((y.floor ≤ s) × (s < y.ceiling)) ↔ IsLegal m.checked.file.table (Some s) (own_with t)) is ((exact m.checked.file.table top ops (own_with t) h.numeric.bounds).legal s inside) in
        both_ways (is_some (run m.checked.file.table (Some s) (own_with t))) (is_legal_from x s)
        (λ here. let between = told.1 here in and_from (nat_le x.floor s) (nat_lt s x.ceiling) (le-leb x.floor s between.0) (lt-ltb s x.ceiling between.1))
        (λ says. let parts = and_parts (nat_le x.floor s) (nat_lt s x.ceiling) says in told.0 (leb-true x.floor s parts.0, ltb-true s x.ceiling parts.1))

    alone-told : (u : ℕ) → eqb u t ≡ false →
        keeps_alone m.checked.file.table (amounts_of (bounds_in m.checked)) m.base own_with t u ≡ mark_keeps_alone m.base (mark_with m t b) (mark_in (greatest m.checked) u marks)
    alone-told u isnt =
        let top = greatest m.checked in
        let ops = bounds_in m.checked in
        let other : own_with u ≡ own_of m.log u = own_other u (differ_turned t u isnt) in
        let marked : mark_of top ops (own_of m.log u) ≡ mark_in top u marks = sym (h.listed.exact u) in
        let its = exact m.checked.file.table top ops (own_of m.log u) h.numeric.bounds in
        let falls : fall (amounts_of ops) (own_with u) ≡ (mark_in top u marks).fall = ap (fall (amounts_of ops)) other ∙ sym its.down ∙ ap (λ (x : Mark). x.fall) marked in
        let rises : rise (amounts_of ops) (own_with u) ≡ (mark_in top u marks).rise = ap (rise (amounts_of ops)) other ∙ sym its.up ∙ ap (λ (x : Mark). x.rise) marked in
        let fits : FitsIn top m.base (mark_in top u marks) = subst (FitsIn top m.base) marked (fits-of h fit legal u) in
        let up = fits.up in
        let inside = inside-of h in
        rw (falls, rises, legal-from (m.base - (mark_in top u marks).fall) (omega (arith, inside)), legal-from (m.base + (mark_in top u marks).rise) up) refl

    pub stopper-marks : MarksTell → stopper m t k ≡ first_of m.log marks m.base (totals_after m totals t b) (mark_with m t b) (greatest m.checked) t
    stopper-marks tell =
        let flags = recursion_from_All (λ (e : LogEntry). e.done ≡ false) m.log (all-open h) in
        let stops : LogEntry → Bool = λ e. not (e.by == t) && keeps m.checked.file.table (amounts_of (bounds_in m.checked)) m.base own_with (above t m.log) t e.by in
        let alone : LogEntry → Bool = λ e. keeps_alone m.checked.file.table (amounts_of (bounds_in m.checked)) m.base own_with t e.by in
        let marked : LogEntry → Bool = λ e.
        not (e.by == t) && mark_keeps m.base (totals_after m totals t b).fallen (totals_after m totals t b).risen (mark_with m t b) (mark_in (greatest m.checked) e.by marks) in
        let lone : LogEntry → Bool = λ e. mark_keeps_alone m.base (mark_with m t b) (mark_in (greatest m.checked) e.by marks) in
        let same : AllByRecursion (λ e. stops e ≡ marked e) m.log = each-weaker (λ (e : LogEntry) did. keeps-told tell e did) m.log (each-did m.log flags) in
        let both : AllByRecursion (λ e. (alone e && stops e) ≡ (lone e && marked e)) m.log =
        each-weaker (λ (e : LogEntry) is. both-told (e.by == t) (alone e) (lone e) (keeps m.checked.file.table (amounts_of (bounds_in m.checked)) m.base own_with (above t m.log) t e.by)
        (mark_keeps m.base (totals_after m totals t b).fallen (totals_after m totals t b).risen (mark_with m t b) (mark_in (greatest m.checked) e.by marks)) (alone-told e.by) is) m.log same in
        stopper-told m t k h.numeric.escrow flags
        ∙ ap (λ found. option_or (option_map (λ (e : LogEntry). e.by) found) (option_map (λ (e : LogEntry). e.by) (find stops m.log))) (find_same (λ e. alone e && stops e) (λ e. lone e && marked e) m.log both)
        ∙ ap (λ found. option_or (option_map (λ (e : LogEntry). e.by) (find (λ e. lone e && marked e) m.log)) (option_map (λ (e : LogEntry). e.by) found)) (find_same stops marked m.log same)
