-- What a manager keeps, and what it knows by that.
use Rattle.std.proofs.Common.{◌≡◌, ◌↔◌, ℕ, ◌+◌, ◌-◌, ◌<◌, ◌≤◌, true, false, All, List, [], ◌∷◌, length, Some, refl, sym, ap, subst, ◌∙◌, arith}
use Rattle.std.specs.Prelude.{slice_get, nat_le, nat_lt}
use Rattle.std.proofs.lemmas.Bool.{and_from, le-leb, lt-ltb}
use Rattle.std.proofs.lemmas.List.Elements.{All-from_recursion}
use Rattle.type_table.specs.Table.{Table}
use Rattle.type_table.proofs.Elements.{each-weaker}
use Rattle.type_table.specs.Run.{IsLegal}
use Rattle.escrow_laws.specs.Bounds.{amounts_of}
use Rattle.escrow_laws.specs.Firm.{IsIdleFrom, IsFirm}
use Rattle.escrow_laws.specs.Marks.{mark_after, mark_of, FitsIn, is_legal_from}
use Rattle.escrow_laws.specs.Laws.{MarksAreExact, MarksFit, FirmIsLegal, ExtremesTellFirm}
use Rattle.escrow_laws.specs.declared.bounded.Bounded.{Bounded}
use Rattle.escrow_laws.specs.declared.mark.Mark.{Mark}
use Rattle.escrow_laws.specs.declared.mark.OpenMark.{OpenMark}
use Rattle.table_checker.specs.Checked.{Checked, IsChecked, IsCheckedBy}
use Rattle.object_trait.specs.Meaning.{Meaning, object, log_ops, open_of, own_of, run_log, view_by, view_of, AreOpen}
use Rattle.object_trait.specs.Sound.{IsSound, IsSoundBy, IsSoundEscrow}
use Rattle.object_trait.specs.Steps.{above, IsLegalFor}
use Rattle.object_trait.specs.Laws.{CheckedIsCovered, FreshIsSound}
use Rattle.object_trait.specs.declared.log_entry.LogEntry.{LogEntry}
use Rattle.object_trait.proofs.Escrow.{above-none}
use Rattle.escrow_manager.specs.Numeric.{bounds_in, greatest, IsInEscrow}
use Rattle.escrow_manager.specs.Marks.{IsSmall}
use Rattle.escrow_manager.specs.Totals.{totals_of, HasShortSums}
use Rattle.escrow_manager.specs.Kept.{IsKeptInEscrow}
use Rattle.escrow_manager.specs.declared.totals.Totals.{Totals}
use Rattle.escrow_manager.specs.declared.manager.EscrowManager.TheInside.{Inside}
use Rattle.escrow_manager.proofs.Telling.{end-told, step-told, more-small, fits-short, AreSmall, sums-small}
use Rattle.escrow_manager.proofs.Marking.{marks-all}

-- what a manager of these fields means
abbrev pub meant : Inside → Meaning
meant a = record { checked = a.checked.value; base = a.base; log = a.log.items }

-- the mark of what t did
abbrev pub mark_at : Meaning → ℕ → Mark
mark_at m t = mark_of (greatest m.checked) (bounds_in m.checked) (own_of m.log t)

-- the number that t sees
abbrev pub number_at : Meaning → ℕ → ℕ
number_at m t = m.base + (mark_at m t).above - (mark_at m t).fall

-- above t and each transaction of a log nobody did anything
pub idle-above : (t : ℕ) (log : List LogEntry) → IsIdleFrom (above t log) (own_of log)
idle-above t log u far = ap log_ops (above-none t u log far)

-- ---- escrow

-- each state is at most the greatest
pub inside-greatest : (T : Table) (s : ℕ) → s < T.states → s ≤ T.states - 1
inside-greatest T s below = omega (arith, below)

-- what was tested of a type in escrow
checked-of : (c : Checked) → IsInEscrow c → IsChecked c
checked-of c numeric = subst (λ kind. IsCheckedBy kind c.file) (sym numeric.escrow) numeric.numeric

module _ (m : Meaning) (numeric : IsInEscrow m.checked) where
  pub escrow-sound : IsSound m → IsSoundEscrow (object m) m.base m.log
  escrow-sound sound = subst (λ way. IsSoundBy way (object m) m.base m.log) numeric.escrow sound

  pub sound-escrow : IsSoundEscrow (object m) m.base m.log → IsSound m
  sound-escrow sound = subst (λ way. IsSoundBy way (object m) m.base m.log) (sym numeric.escrow) sound

  pub escrow-view : (t : ℕ) → view_of m t ≡ run_log (object m) m.base (open_of t m.log)
  escrow-view t = ap (λ way. view_by way (object m) m.base m.log t) numeric.escrow

-- ---- what is known of a manager

module _ {m : Meaning} {marks : List OpenMark} {totals : Totals} (h : IsKeptInEscrow m marks totals) where
  pub firm-of : IsFirm m.checked.file.table (amounts_of (bounds_in m.checked)) m.base (own_of m.log)
  firm-of = (escrow-sound m h.numeric h.sound).firm

  pub inside-of : m.base ≤ greatest m.checked
  inside-of = inside-greatest m.checked.file.table m.base h.base_fits

  pub all-open : AreOpen m.log
  all-open = All-from_recursion (λ (e : LogEntry). e.done ≡ false) m.log (escrow-sound m h.numeric h.sound).all_open

  -- the greatest number has 32 bits
  pub top-small : greatest m.checked ≤ 4294967295
  top-small = let fit = h.numeric.numeric.states_fit in omega (arith, fit)

  pub legal-of : FirmIsLegal → (t : ℕ) → IsLegal m.checked.file.table (Some m.base) (own_of m.log t)
  legal-of legal t = legal m.checked.file.table (amounts_of (bounds_in m.checked)) m.base (own_of m.log) t firm-of

  pub fits-of : MarksFit → FirmIsLegal → (t : ℕ) → FitsIn (greatest m.checked) m.base (mark_at m t)
  fits-of fit legal t = fit m.checked.file.table (greatest m.checked) m.base (bounds_in m.checked) (own_of m.log t) h.numeric.bounds inside-of (legal-of legal t)

  -- on the numbers of 32 bits
  pub fits-32 : MarksFit → FirmIsLegal → (t : ℕ) → FitsIn 4294967295 m.base (mark_at m t)
  fits-32 fit legal t =
      let one = fits-of fit legal t in
      let most = top-small in
      let up = one.up in
      let last = one.most in
      record { down = one.down; up = omega (arith, up, most); end = one.end; least = one.least; most = omega (arith, last, most) }

  -- what t sees
  pub view-told : MarksAreExact → FirmIsLegal → (t : ℕ) → view_of m t ≡ Some (number_at m t)
  view-told exact legal t =
      escrow-view m h.numeric t ∙ end-told m.checked.file.table (greatest m.checked) m.base (bounds_in m.checked) h.numeric.bounds exact (own_of m.log t) (legal-of legal t)

  -- and what is legal for it
  pub legal-told : (t k s : ℕ) (b : Bounded) → slice_get (bounds_in m.checked) k ≡ Some b → view_of m t ≡ Some s → ((b.low ≤ s) × (s ≤ b.high)) ↔ IsLegalFor m t k
  legal-told t k s b found seen =
      subst (λ x. ((b.low ≤ s) × (s ≤ b.high)) ↔ IsLegal m.checked.file.table x (k ∷ [])) (sym seen)
      (step-told m.checked.file.table (greatest m.checked) m.base (bounds_in m.checked) h.numeric.bounds s k b found)

  -- so the mark with it stays small
  pub small-of : MarksAreExact → MarksFit → FirmIsLegal → (t k : ℕ) (b : Bounded) → slice_get (bounds_in m.checked) k ≡ Some b → IsLegalFor m t k → IsSmall (greatest m.checked) (mark_at m t) b
  small-of exact fit legal t k b found here =
      let between = (legal-told t k (number_at m t) b found (view-told exact legal t)).1 here in
      more-small (greatest m.checked) m.base (number_at m t) (mark_at m t) b inside-of (fits-of fit legal t) (h.numeric.bounds.within k b found) between.0 between.1

  -- and what it is of is legal from base
  pub legal-with : MarksAreExact → MarksFit → FirmIsLegal → (t k : ℕ) (b : Bounded) → slice_get (bounds_in m.checked) k ≡ Some b → IsLegalFor m t k → is_legal_from (mark_after (mark_at m t) b) m.base ≡ true
  legal-with exact fit legal t k b found here =
      let x = mark_at m t in
      let y = mark_after x b in
      let between = (legal-told t k (number_at m t) b found (view-told exact legal t)).1 here in
      let low = between.0 in
      let high = between.1 in
      let own = ((exact m.checked.file.table (greatest m.checked) (bounds_in m.checked) (own_of m.log t) h.numeric.bounds).legal m.base inside-of).1 (legal-of legal t) in
      let least = own.0 in
      let most = own.1 in
      let fits = fits-of fit legal t in
      let down = fits.down in
      and_from (nat_le y.floor m.base) (nat_lt m.base y.ceiling) (le-leb y.floor m.base (omega (arith, low, high, least, most, down))) (lt-ltb m.base y.ceiling (omega (arith, low, high, least, most, down)))

  -- and the sums and extremes are
  pub sums-of : ExtremesTellFirm → AreSmall (greatest m.checked) marks
  sums-of tell =
      sums-small tell m.checked.file.table (greatest m.checked) m.base (above 0 m.log) (bounds_in m.checked) (own_of m.log) marks h.numeric.bounds inside-of h.listed (idle-above 0 m.log) firm-of

  -- each mark is short
  pub short-of : MarksFit → FirmIsLegal → All (λ (o : OpenMark). HasShortSums o.mark) marks
  short-of fit legal =
      All-from_recursion (λ (o : OpenMark). HasShortSums o.mark) marks
      (each-weaker (λ (o : OpenMark) is. subst HasShortSums (sym is) (fits-short (greatest m.checked) m.base (mark_at m o.by) top-small inside-of (fits-of fit legal o.by))) marks
      (marks-all (greatest m.checked) (bounds_in m.checked) (own_of m.log) (above 0 m.log) marks h.listed (idle-above 0 m.log)).exact)

-- ---- an operation

-- the bounds that were read are those of the operation of the type
pub op-found : (c d : Checked) (k : ℕ) (b : Bounded) → d ≡ c → slice_get (bounds_in d) k ≡ Some b → slice_get (bounds_in c) k ≡ Some b
op-found c d k b same found = ap (λ x. slice_get (bounds_in x) k) (sym same) ∙ found

-- ---- a new manager

pub fresh-kept : CheckedIsCovered → FreshIsSound → (c : Checked) → IsInEscrow c → IsKeptInEscrow (record { checked = c; base = c.file.table.initial; log = [] }) [] (totals_of (greatest c) [])
fresh-kept covers fresh c numeric =
    let m : Meaning = record { checked = c; base = c.file.table.initial; log = [] } in
    record {
      numeric = numeric;
      covered = (covers c (checked-of c numeric)).0;
      base_fits = numeric.numeric.initial_inside;
      ops_fit = All-from_recursion (λ (e : LogEntry). e.op < length c.file.table.ops) [] tt;
      room = omega arith;
      sound = fresh m (covers c (checked-of c numeric)).0 (record { base = refl; log = refl });
      listed = record { exact = λ t. refl; all = λ t none. refl; some = tt; ordered = tt };
      summed = refl;
    }
