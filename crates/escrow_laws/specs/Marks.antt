-- What is kept of an open transaction's operations at a number, so that nobody goes through them at a call.
use Rattle.std.specs.Prelude.{◌≡◌, ◌↔◌, ℕ, ◌+◌, ◌-◌, ◌<◌, ◌≤◌, max, min, ◌==◌, nat_le, nat_lt, Bool, false, not, ◌&&◌, ◌||◌, cond, List, [], ◌∷◌, fold, Option, Some, None, slice_get}
use Rattle.std.specs.List.{list_all, list_any, sum_by, AllByRecursion}
use Rattle.type_table.specs.Table.{Table}
use Rattle.type_table.specs.Run.{run, IsLegal}
use Rattle.escrow_laws.specs.Amounts.{fall, rise}
use Rattle.escrow_laws.specs.Bounds.{amounts_of}
use Rattle.escrow_laws.specs.declared.bounded.Bounded.{Bounded}
use Rattle.escrow_laws.specs.declared.mark.Mark.{Mark}
use Rattle.escrow_laws.specs.declared.mark.OpenMark.{OpenMark}

-- of no operations, on numbers from 0 to top
abbrev pub unmarked : ℕ → Mark
unmarked top = record { fall = 0; rise = 0; above = 0; floor = 0; ceiling = top + 1 }

-- how far it falls with one more, and how far above its lowest it then is
abbrev pub fall_with : Mark → Bounded → ℕ
fall_with m b = m.fall + (b.takes - (m.above + b.gives))

abbrev pub above_with : Mark → Bounded → ℕ
above_with m b = (m.above + b.gives) - b.takes

-- with one more
abbrev pub mark_after : Mark → Bounded → Mark
mark_after m b = record {
  fall = fall_with m b;
  rise = max m.rise (above_with m b - fall_with m b);
  above = above_with m b;
  floor = max m.floor ((b.low + m.fall) - m.above);
  ceiling = min m.ceiling ((b.high + 1 + m.fall) - m.above);
}

-- an operation that there isn't is legal nowhere
abbrev pub marked_by : Mark → Option Bounded → Mark
marked_by m None = record { fall = m.fall; rise = m.rise; above = m.above; floor = m.floor; ceiling = 0 }
marked_by m (Some b) = mark_after m b

-- with more of them, and of these alone
abbrev pub marked_on : List Bounded → Mark → List ℕ → Mark
marked_on ops m ks = fold (λ n k. marked_by n (slice_get ops k)) m ks

abbrev pub mark_of : ℕ → List Bounded → List ℕ → Mark
mark_of top ops ks = marked_on ops (unmarked top) ks

-- what it says: how far they fall and rise; that they end so far above their lowest; and that they are legal from `floor` on and below `ceiling`
pub record IsExactMark (T : Table) (top : ℕ) (ops : List Bounded) (ks : List ℕ) (m : Mark) : Type 0 where
  pub down : m.fall ≡ fall (amounts_of ops) ks
  pub up : m.rise ≡ rise (amounts_of ops) ks
  pub ends : (s e : ℕ) → run T (Some s) ks ≡ Some e → e + m.fall ≡ s + m.above
  pub legal : (s : ℕ) → s ≤ top → ((m.floor ≤ s) × (s < m.ceiling)) ↔ IsLegal T (Some s) ks

-- its numbers, where the operations are legal from base
pub record FitsIn (top base : ℕ) (m : Mark) : Type 0 where
  pub down : m.fall ≤ base
  pub up : base + m.rise ≤ top
  pub end : m.above ≤ m.fall + m.rise
  pub least : m.floor ≤ base
  pub most : m.ceiling ≤ top + 1

-- ---- the marks of all open transactions

-- no two are of one transaction
abbrev pub HaveOneMarkEach : List OpenMark → Type 0
HaveOneMarkEach [] = Unit {0}
HaveOneMarkEach (o ∷ os) = AllByRecursion (λ q. (q.by == o.by) ≡ false) os × HaveOneMarkEach os

-- these are the marks of what each transaction below m did, and who isn't listed did nothing
pub record AreMarks (top : ℕ) (ops : List Bounded) (own : ℕ → List ℕ) (m : ℕ) (marks : List OpenMark) : Type 0 where
  pub exact : AllByRecursion (λ o. o.mark ≡ mark_of top ops (own o.by)) marks
  pub inside : AllByRecursion (λ o. o.by < m) marks
  pub some : AllByRecursion (λ o. own o.by ≡ [] → ⊥) marks
  pub once : HaveOneMarkEach marks
  pub all : (u : ℕ) → list_any (λ o. o.by == u) marks ≡ false → own u ≡ []

-- how far all fall, and rise, together
abbrev pub fallen_of : List OpenMark → ℕ
fallen_of marks = sum_by (λ o. o.mark.fall) marks

abbrev pub risen_of : List OpenMark → ℕ
risen_of marks = sum_by (λ o. o.mark.rise) marks

-- what has this mark is legal from a number
abbrev pub is_legal_from : Mark → ℕ → Bool
is_legal_from x s = nat_le x.floor s && nat_lt s x.ceiling

-- and from the lowest and from the highest number that the others may leave, where all together fall and rise so far
abbrev pub is_low : ℕ → ℕ → Mark → Bool
is_low base fallen x = is_legal_from x (base - (fallen - x.fall))

abbrev pub is_high : ℕ → ℕ → Mark → Bool
is_high base risen x = is_legal_from x (base + (risen - x.rise))

-- who has the mark u keeps who has the mark t
abbrev pub mark_keeps : ℕ → ℕ → ℕ → Mark → Mark → Bool
mark_keeps base fallen risen t u =
    cond (is_low base fallen t && is_high base risen t)
    (not (is_low base fallen u && is_high base risen u))
    ((not (is_low base fallen t) && nat_lt 0 u.fall) || (not (is_high base risen t) && nat_lt 0 u.rise))

-- what has these marks is legal from both
abbrev pub are_firm : ℕ → List OpenMark → Bool
are_firm base marks = list_all (λ o. is_low base (fallen_of marks) o.mark && is_high base (risen_of marks) o.mark) marks

-- ---- two extremes

-- the most that one needs beside what it falls itself: that much has to be there where all have fallen
abbrev pub most_needed : List OpenMark → ℕ
most_needed [] = 0
most_needed (o ∷ os) = max (o.mark.floor - o.mark.fall) (most_needed os)

-- the least limit of one and of what it rises itself: all together have to stay below it
abbrev pub least_limit : ℕ → List OpenMark → ℕ
least_limit top [] = top + 1
least_limit top (o ∷ os) = min (o.mark.ceiling + o.mark.rise) (least_limit top os)
