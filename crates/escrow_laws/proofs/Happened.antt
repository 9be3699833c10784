-- Whatever happens to a number, of which each operation is admitted: it stays firm, and base is the serial state.
use Rattle.std.proofs.Common.{◌≡◌, ℕ, zero, suc, ◌<◌, false, ◌==◌, List, [], ◌∷◌, ◌++◌, take, drop, Some, unwrap_or, refl, ap, ◌∙◌, inl, inr, arith}
use Rattle.std.proofs.lemmas.Bool.{cases_Bool, eq-eqb, ne_eqb}
use Rattle.std.proofs.lemmas.List.{take-append-drop, append-nil}
use Rattle.type_table.specs.Table.{Table}
use Rattle.type_table.specs.Run.{run, IsLegal}
use Rattle.type_table.specs.Laws.{RunsAlong}
use Rattle.type_table.proofs.Legal.{some_state}
use Rattle.escrow_laws.specs.Amounts.{Amounts, IsNumeric}
use Rattle.escrow_laws.specs.Firm.{IsIdleFrom, IsFirm, with_op, IsAdmitted}
use Rattle.escrow_laws.specs.Escrow.{Escrow, Happening, Does, Commits, Strikes, escrow_begun, without, struck, escrow_after, IsAllowed, left_by, AreAllowed, IsSoundWork}
use Rattle.escrow_laws.specs.Laws.{FirmIsSafe, SafeIsFirm, AdmittedWhereSafe, BaseIsSerial}
use Rattle.escrow_laws.proofs.Staying.{fresh_firm, firm_legal, firm_applied, firm_committed, firm_struck}
use Rattle.escrow_laws.proofs.Fits.{firm_keeps}

-- ---- one more operation

-- what t did with it
own-with : (own : ℕ → List ℕ) (t k : ℕ) → with_op own t k t ≡ own t ++ k ∷ []
own-with own t k = rw (eq-eqb t t refl) refl

-- nobody from m on did anything by it
idle-with : (own : ℕ → List ℕ) (m t k : ℕ) → t < m → IsIdleFrom m own → IsIdleFrom m (with_op own t k)
idle-with own m t k inside idle u far =
    let apart : (u == t) ≡ false = ne_eqb u t (λ same. omega (arith, inside, far, same)) in
    rw apart (idle u far)

admitted-firm : (T : Table) (a : Amounts) (base m : ℕ) (own : ℕ → List ℕ) (t k : ℕ) → IsNumeric T a → IsIdleFrom m own → IsAdmitted T a base own m t k → IsFirm T a base (with_op own t k)
admitted-firm T a base m own t k numeric idle admitted =
    let legal : IsLegal T (Some base) (with_op own t k t) = rw (own-with own t k) admitted.legal in
    firm_applied T a base m (with_op own t k) t numeric (idle-with own m t k admitted.inside idle) legal admitted.free

firm-admitted : (T : Table) (a : Amounts) (base m : ℕ) (own : ℕ → List ℕ) (t k : ℕ) → t < m → IsFirm T a base (with_op own t k) → IsAdmitted T a base own m t k
firm-admitted T a base m own t k inside firm = record {
  inside = inside;
  legal = rw (own-with own t k) at (firm_legal T a base (with_op own t k) t firm);
  free = λ u other. firm_keeps T a base m (with_op own t k) t u firm;
}

pub admitted_safe : FirmIsSafe → SafeIsFirm → AdmittedWhereSafe
admitted_safe safe firm = λ T a base m own t k numeric idle inside. (
  λ admitted. safe T a base (with_op own t k) numeric (admitted-firm T a base m own t k numeric idle admitted),
  λ harmless. firm-admitted T a base m own t k inside (firm T a base (with_op own t k) numeric harmless),
)

-- ---- one thing after another

-- what is left out isn't done
idle-without : (own : ℕ → List ℕ) (m t : ℕ) → IsIdleFrom m own → IsIdleFrom m (without own t)
idle-without own m t idle u far = elim (cases_Bool (u == t)) [
  | inl is ↦ rw is refl
  | inr other ↦ rw other (idle u far)
]

-- the front of nothing is nothing
take-none : (n : ℕ) (ks : List ℕ) → ks ≡ [] → take n ks ≡ []
take-none zero ks none = refl
take-none (suc n) ks none = rw none refl

idle-struck : (own : ℕ → List ℕ) (m t n : ℕ) → IsIdleFrom m own → IsIdleFrom m (struck own t n)
idle-struck own m t n idle u far = elim (cases_Bool (u == t)) [
  | inl is ↦ rw is (take-none n (own u) (idle u far))
  | inr other ↦ rw other (idle u far)
]

-- a front of what each did is left by a strike
front-struck : (own : ℕ → List ℕ) (t n u : ℕ) → (rest : List ℕ) × (own u ≡ struck own t n u ++ rest)
front-struck own t n u = elim (cases_Bool (u == t)) [
  | inl is ↦ (drop n (own u), rw (is, take-append-drop n (own u)) refl)
  | inr other ↦ ([], rw (other, append-nil (own u)) refl)
]

-- a commit moves base on in the serial order
serial-on : RunsAlong → (T : Table) (initial base now : ℕ) (serial own : List ℕ) → run T (Some initial) serial ≡ Some base → run T (Some base) own ≡ Some now → run T (Some initial) (serial ++ own) ≡ Some now
serial-on along T initial base now serial own before step = along T (Some initial) serial own ∙ ap (λ o. run T o own) before ∙ step

committed-sound : RunsAlong → (T : Table) (a : Amounts) (initial m : ℕ) → IsNumeric T a → (x : Escrow) (t now moved : ℕ) → IsSoundWork T a initial m x → run T (Some x.base) (x.own t) ≡ Some now → moved ≡ now →
    IsSoundWork T a initial m (record { base = moved; own = without x.own t; serial = x.serial ++ x.own t })
committed-sound along T a initial m numeric x t now moved sound reached is = record {
  firm = rw is (firm_committed T a x.base now x.own (without x.own t) t numeric sound.firm reached (rw (eq-eqb t t refl) refl) (λ u other. rw other refl));
  is_serial = rw is (serial-on along T initial x.base now x.serial (x.own t) sound.is_serial reached);
  idle = idle-without x.own m t sound.idle;
}

stays-sound : RunsAlong → (T : Table) (a : Amounts) (initial m : ℕ) → IsNumeric T a → (x : Escrow) (h : Happening) → IsSoundWork T a initial m x → IsAllowed T a m x h → IsSoundWork T a initial m (escrow_after T x h)
stays-sound along T a initial m numeric x (Does t k) sound admitted = record {
  firm = admitted-firm T a x.base m x.own t k numeric sound.idle admitted;
  is_serial = sound.is_serial;
  idle = idle-with x.own m t k admitted.inside sound.idle;
}
stays-sound along T a initial m numeric x (Commits t) sound allowed =
    let reached = some_state (run T (Some x.base) (x.own t)) (firm_legal T a x.base x.own t sound.firm) in
    committed-sound along T a initial m numeric x t reached.0 (unwrap_or (run T (Some x.base) (x.own t)) x.base) sound reached.1 (ap (λ o. unwrap_or o x.base) reached.1)
stays-sound along T a initial m numeric x (Strikes t n) sound allowed = record {
  firm = firm_struck T a x.base x.own (struck x.own t n) sound.firm (front-struck x.own t n);
  is_serial = sound.is_serial;
  idle = idle-struck x.own m t n sound.idle;
}

all-sound : RunsAlong → (T : Table) (a : Amounts) (initial m : ℕ) → IsNumeric T a → (x : Escrow) (hs : List Happening) → IsSoundWork T a initial m x → AreAllowed T a m x hs → IsSoundWork T a initial m (left_by T x hs)
all-sound along T a initial m numeric x [] sound allowed = sound
all-sound along T a initial m numeric x (h ∷ hs) sound allowed =
    all-sound along T a initial m numeric (escrow_after T x h) hs (stays-sound along T a initial m numeric x h sound allowed.0) allowed.1

pub serial_base : RunsAlong → BaseIsSerial
serial_base along = λ T a initial m hs numeric allowed. all-sound along T a initial m numeric (escrow_begun initial) hs (record {
  firm = fresh_firm T a initial (λ _. []) (λ u. refl);
  is_serial = refl;
  idle = λ u far. refl;
}) allowed
