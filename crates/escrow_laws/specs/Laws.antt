-- Statements of the laws of numbers in escrow.
use Rattle.std.specs.Prelude.{◌≡◌, ◌↔◌, ℕ, ◌+◌, ◌-◌, ◌≤◌, ◌<◌, true, false, ◌==◌, List, [], ◌++◌, length, Some, Contains}
use Rattle.type_table.specs.Table.{Table}
use Rattle.type_table.specs.Run.{run, IsLegal}
use Rattle.escrow_laws.specs.Amounts.{Amounts, IsNumeric, fall, rise}
use Rattle.escrow_laws.specs.Fronts.{IsLowest, IsHighest}
use Rattle.escrow_laws.specs.Bounds.{amounts_of, AreWithin, AreBounds, steps_of, ArePlain, bounds_of}
use Rattle.escrow_laws.specs.Faults.{IsFaultless}
use Rattle.escrow_laws.specs.Firm.{sum_below, IsIdleFrom, IsFirm, with_op, keeps, IsAdmitted}
use Rattle.escrow_laws.specs.Safe.{IsSafe}
use Rattle.escrow_laws.specs.Escrow.{Happening, escrow_begun, left_by, AreAllowed, IsSoundWork}
use Rattle.escrow_laws.specs.Marks.{mark_of, IsExactMark, FitsIn, AreMarks, fallen_of, risen_of, mark_keeps, are_firm, most_needed, least_limit}
use Rattle.escrow_laws.specs.declared.bounded.Bounded.{Bounded}
use Rattle.escrow_laws.specs.declared.mark.OpenMark.{OpenMark}

-- ---- types of numbers

-- where an operation is at fault somewhere, the type isn't numeric, whatever one takes the operations to give and to take
abbrev pub NumericIsFaultless : Type 0
NumericIsFaultless = (T : Table) (a : Amounts) → IsNumeric T a → IsFaultless T

-- operations with bounds are numeric
abbrev pub BoundsAreNumeric : Type 0
BoundsAreNumeric = (T : Table) (top : ℕ) (ops : List Bounded) → AreBounds T top ops → IsNumeric T (amounts_of ops)

-- numbers from 0 to any top have a table
abbrev pub NumbersHaveTables : Type 0
NumbersHaveTables =
    (T : Table) (top : ℕ) (ops : List Bounded) → T.steps ≡ steps_of top ops → length T.ops ≡ length ops → AreWithin top ops → AreBounds T top ops

-- plain bounds of a type are those that its steps tell
abbrev pub BoundsAreTold : Type 0
BoundsAreTold = (T : Table) (ops : List Bounded) → 0 < T.states → length T.ops ≡ length ops → ArePlain ops → AreBounds T (T.states - 1) ops → bounds_of T ≡ ops

-- ---- falls and rises

-- the fall of what is legal says how low its fronts end
abbrev pub FallIsLowest : Type 0
FallIsLowest = (T : Table) (a : Amounts) (s : ℕ) (ks : List ℕ) → IsNumeric T a → IsLegal T (Some s) ks → IsLowest T s ks (fall a ks)

-- and the rise how high
abbrev pub RiseIsHighest : Type 0
RiseIsHighest = (T : Table) (a : Amounts) (s : ℕ) (ks : List ℕ) → IsNumeric T a → IsLegal T (Some s) ks → IsHighest T s ks (rise a ks)

-- ---- what is firm

-- where nothing was done it is firm
abbrev pub FreshIsFirm : Type 0
FreshIsFirm = (T : Table) (a : Amounts) (base : ℕ) (own : ℕ → List ℕ) → ((u : ℕ) → own u ≡ []) → IsFirm T a base own

-- it is, where what t sees is legal, and nobody keeps t from what it did last; `own` has that, and no transaction from m on did anything
abbrev pub FirmAfterApply : Type 0
FirmAfterApply =
    (T : Table) (a : Amounts) (base m : ℕ) (own : ℕ → List ℕ) (t : ℕ) → IsNumeric T a → IsIdleFrom m own
    → IsLegal T (Some base) (own t) → ((u : ℕ) → (u == t) ≡ false → keeps T a base own m t u ≡ false) → IsFirm T a base own

-- it stays so by a commit of t
abbrev pub FirmAfterCommit : Type 0
FirmAfterCommit =
    (T : Table) (a : Amounts) (base now : ℕ) (own rest : ℕ → List ℕ) (t : ℕ) → IsNumeric T a → IsFirm T a base own
    → run T (Some base) (own t) ≡ Some now → rest t ≡ [] → ((u : ℕ) → (u == t) ≡ false → rest u ≡ own u) → IsFirm T a now rest

-- by a strike: a front of what each did is left
abbrev pub FirmAfterStrike : Type 0
FirmAfterStrike =
    (T : Table) (a : Amounts) (base : ℕ) (own left : ℕ → List ℕ) → IsFirm T a base own
    → ((u : ℕ) → (struck : List ℕ) × (own u ≡ left u ++ struck)) → IsFirm T a base left

-- what each sees is legal
abbrev pub FirmIsLegal : Type 0
FirmIsLegal = (T : Table) (a : Amounts) (base : ℕ) (own : ℕ → List ℕ) (t : ℕ) → IsFirm T a base own → IsLegal T (Some base) (own t)

-- what is firm is safe: whatever happens before a transaction commits, what it did is legal
abbrev pub FirmIsSafe : Type 0
FirmIsSafe = (T : Table) (a : Amounts) (base : ℕ) (own : ℕ → List ℕ) → IsNumeric T a → IsFirm T a base own → IsSafe T base own

-- and what is safe is firm
abbrev pub SafeIsFirm : Type 0
SafeIsFirm = (T : Table) (a : Amounts) (base : ℕ) (own : ℕ → List ℕ) → IsNumeric T a → IsSafe T base own → IsFirm T a base own

-- ---- who keeps whom

-- who did nothing keeps nobody from anything
abbrev pub NothingKeeps : Type 0
NothingKeeps = (T : Table) (a : Amounts) (base m : ℕ) (own : ℕ → List ℕ) (t u : ℕ) → own u ≡ [] → keeps T a base own m t u ≡ false

-- where it is firm with what t did last, nobody keeps t from that
abbrev pub FirmKeepsNobody : Type 0
FirmKeepsNobody =
    (T : Table) (a : Amounts) (base m : ℕ) (own : ℕ → List ℕ) (t u : ℕ) → IsFirm T a base own → keeps T a base own m t u ≡ false

-- an operation is admitted exactly where it is safe with it: nothing harmless is refused
abbrev pub AdmittedWhereSafe : Type 0
AdmittedWhereSafe =
    (T : Table) (a : Amounts) (base m : ℕ) (own : ℕ → List ℕ) (t k : ℕ) → IsNumeric T a → IsIdleFrom m own → t < m
    → IsAdmitted T a base own m t k ↔ IsSafe T base (with_op own t k)

-- ---- one thing after another

-- whatever happens to a number, of which each operation is admitted: it stays firm, and base is the serial state itself
abbrev pub BaseIsSerial : Type 0
BaseIsSerial =
    (T : Table) (a : Amounts) (initial m : ℕ) (hs : List Happening) → IsNumeric T a → AreAllowed T a m (escrow_begun initial) hs
    → IsSoundWork T a initial m (left_by T (escrow_begun initial) hs)

-- ---- marks

-- what is kept of operations is exact
abbrev pub MarksAreExact : Type 0
MarksAreExact = (T : Table) (top : ℕ) (ops : List Bounded) (ks : List ℕ) → AreBounds T top ops → IsExactMark T top ops ks (mark_of top ops ks)

-- and its numbers stay as small as base and the room above it, however many operations there are
abbrev pub MarksFit : Type 0
MarksFit =
    (T : Table) (top base : ℕ) (ops : List Bounded) (ks : List ℕ) → AreBounds T top ops → base ≤ top → IsLegal T (Some base) ks
    → FitsIn top base (mark_of top ops ks)

-- together the open transactions take no more than there is, and give no more than there is room for
abbrev pub SumsFit : Type 0
SumsFit =
    (T : Table) (top base m : ℕ) (ops : List Bounded) (own : ℕ → List ℕ) → AreBounds T top ops → base ≤ top → IsFirm T (amounts_of ops) base own
    → (sum_below m (λ u. fall (amounts_of ops) (own u)) ≤ base) × (base + sum_below m (λ u. rise (amounts_of ops) (own u)) ≤ top)

-- marks and two sums say who keeps t, and need nothing else
abbrev pub MarksTell : Type 0
MarksTell =
    (T : Table) (top base m : ℕ) (ops : List Bounded) (own : ℕ → List ℕ) (marks : List OpenMark) (t u : OpenMark) → AreBounds T top ops
    → AreMarks top ops own m marks → Contains marks t → Contains marks u
    → mark_keeps base (fallen_of marks) (risen_of marks) t.mark u.mark ≡ keeps T (amounts_of ops) base own m t.by u.by

-- and so is whether it is firm
abbrev pub MarksTellFirm : Type 0
MarksTellFirm =
    (T : Table) (top base m : ℕ) (ops : List Bounded) (own : ℕ → List ℕ) (marks : List OpenMark) → AreBounds T top ops
    → AreMarks top ops own m marks → (are_firm base marks ≡ true) ↔ IsFirm T (amounts_of ops) base own

-- so two sums and two extremes say whether it is firm
abbrev pub ExtremesTellFirm : Type 0
ExtremesTellFirm =
    (T : Table) (top base m : ℕ) (ops : List Bounded) (own : ℕ → List ℕ) (marks : List OpenMark) → AreBounds T top ops → base ≤ top
    → AreMarks top ops own m marks
    → ((fallen_of marks + most_needed marks ≤ base) × (base + risen_of marks < least_limit top marks)) ↔ IsFirm T (amounts_of ops) base own
