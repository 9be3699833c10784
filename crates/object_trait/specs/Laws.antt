-- Statements of laws: exchanges of neighbours, and meanings that stay sound.
use Rattle.std.specs.Prelude.{◌≡◌, ℕ, ◌-◌, ◌≤◌, Bool, true, false, not, ◌==◌, nat_lt, List, [], ◌++◌, map, filter, take, drop, length, Some}
use Rattle.std.specs.List.{list_any, AllByRecursion}
use Rattle.type_table.specs.Table.{Table}
use Rattle.type_table.specs.Run.{run, IsLegal, Looks, AreEqui}
use Rattle.type_table.specs.StateSet.{IsClosed}
use Rattle.type_table.specs.Commute.{CommutesBackward, CommutesBackwardBothWays}
use Rattle.type_table.specs.declared.kind.Kind.TheVariants.{Undo, Intentions}
use Rattle.table_checker.specs.Checked.{Checked, IsChecked, IsStrong}
use Rattle.object_trait.specs.Object.{IsCovered, IsCoveredStrongly, object_of}
use Rattle.object_trait.specs.Orders.{Pairs, Sorts, SplitsInto}
use Rattle.object_trait.specs.Strike.{keep_first}
use Rattle.object_trait.specs.Meaning.{Meaning, object, log_ops, is_open_of, open_of, state_of}
use Rattle.object_trait.specs.Committed.{committed_of}
use Rattle.object_trait.specs.Sound.{IsSound}
use Rattle.object_trait.specs.Steps.{IsFresh, open_transactions, MayApply, applied, IsCommit, Keeps, ShowsTheSame}
use Rattle.object_trait.specs.declared.log_entry.LogEntry.{LogEntry}

-- ---- exchanges of neighbours

-- in two parts of which one may move after the other, it can be moved to the end, neighbour by neighbour
abbrev pub PartsSort : Type 0 → Type 0
PartsSort E = (free : E → E → Bool) (V A B : List E) → SplitsInto free V A B → Sorts free V (A ++ B)

-- what `keep_first` keeps: the first n of mine, and all others, in their order
abbrev pub KeepsFirst : Type 0 → Type 0
KeepsFirst E =
    (mine : E → Bool) (n : ℕ) (V : List E)
    → (filter mine (keep_first mine n V) ≡ take n (filter mine V)) × (filter (λ e. not (mine e)) (keep_first mine n V) ≡ filter (λ e. not (mine e)) V)

-- where none of mine is kept, all others are left, in their order
abbrev pub KeepsNone : Type 0 → Type 0
KeepsNone E = (mine : E → Bool) (V : List E) → keep_first mine 0 V ≡ filter (λ e. not (mine e)) V

-- of a list put together: the first n of mine of its front, and of its rest as many as the front left
abbrev pub KeepsParts : Type 0 → Type 0
KeepsParts E = (mine : E → Bool) (n : ℕ) (V W : List E) → keep_first mine n (V ++ W) ≡ keep_first mine n V ++ keep_first mine (n - length (filter mine V)) W

-- those of another, of which none is mine, are all kept, in their order
abbrev pub KeepsOthers : Type 0 → Type 0
KeepsOthers E =
    (mine other : E → Bool) (n : ℕ) (V : List E) → ((e : E) → other e ≡ true → mine e ≡ false)
    → filter other (keep_first mine n V) ≡ filter other V

-- where each of mine may move after each later one that isn't mine, those that `keep_first` strikes can be moved to the end
abbrev pub StruckPart : Type 0 → Type 0
StruckPart E =
    (free : E → E → Bool) (mine : E → Bool) (n : ℕ) (V : List E) → Pairs (λ a b. mine a ≡ true → mine b ≡ false → free a b ≡ true) V
    → SplitsInto free V (keep_first mine n V) (drop n (filter mine V))

-- where neighbours that are exchanged commute backward (b, the later one, is requested and moves before a), what a list sorts
-- into is legal where the list is, and the list's end looks like the other's
abbrev pub SortsLook : Type 0 → Type 0
SortsLook E =
    (T : Table) (set : ℕ → Bool) (op : E → ℕ) (free : E → E → Bool) (s : ℕ) (V W : List E) → IsClosed T set → set s ≡ true
    → ((a b : E) → free a b ≡ true → CommutesBackward T set (op b) (op a))
    → Sorts free V W → IsLegal T (Some s) (map op V)
    → IsLegal T (Some s) (map op W) × Looks T (run T (Some s) (map op V)) (run T (Some s) (map op W))

-- and so in the two-way form, where the ends are equieffective
abbrev pub SortsEqui : Type 0 → Type 0
SortsEqui E =
    (T : Table) (set : ℕ → Bool) (op : E → ℕ) (free : E → E → Bool) (s : ℕ) (V W : List E) → IsClosed T set → set s ≡ true
    → ((a b : E) → free a b ≡ true → CommutesBackwardBothWays T set (op b) (op a))
    → Sorts free V W → IsLegal T (Some s) (map op V)
    → IsLegal T (Some s) (map op W) × AreEqui T (run T (Some s) (map op V)) (run T (Some s) (map op W))

-- ---- objects

-- a yes of the checker gives a covered object, and a strong yes one that is covered strongly
abbrev pub CheckedIsCovered : Type 0
CheckedIsCovered = (c : Checked) → IsChecked c → IsCovered (object_of c) × (IsStrong c → IsCoveredStrongly (object_of c))

-- ---- meanings

-- strike and abort: the log of update in place without the last m open entries of a transaction is legal from base
abbrev pub StruckLogIsLegal : Type 0
StruckLogIsLegal =
    (m : Meaning) (t n : ℕ) → IsCovered (object m) → m.checked.kind ≡ Undo → IsSound m
    → IsLegal (object m).table (Some m.base) (map (λ (e : LogEntry). e.op) (keep_first (is_open_of t) (length (open_of t m.log) - n) m.log))

-- from s two lists are legal in either order, and end equieffective
abbrev pub CommuteFrom : Table → ℕ → List ℕ → List ℕ → Type 0
CommuteFrom T s v w = IsLegal T (Some s) (v ++ w) × IsLegal T (Some s) (w ++ v) × AreEqui T (run T (Some s) (v ++ w)) (run T (Some s) (w ++ v))

-- deferred update: so are the open operations of two transactions, from base
abbrev pub OpensCommute : Type 0
OpensCommute =
    (m : Meaning) (t u : ℕ) → IsCovered (object m) → m.checked.kind ≡ Intentions → IsSound m → (t == u) ≡ false
    → CommuteFrom (object m).table m.base (log_ops (open_of t m.log)) (log_ops (open_of u m.log))

-- a new object's meaning is sound
abbrev pub FreshIsSound : Type 0
FreshIsSound = (m : Meaning) → IsCovered (object m) → IsFresh m → IsSound m

-- a meaning stays sound by a further operation
abbrev pub SoundAfterApply : Type 0
SoundAfterApply = (m : Meaning) (t k : ℕ) → IsCovered (object m) → IsSound m → MayApply m t k → IsSound (applied m t k)

-- by a commit
abbrev pub SoundAfterCommit : Type 0
SoundAfterCommit = (old new : Meaning) (t : ℕ) → IsCovered (object old) → IsSound old → IsCommit old t new → IsSound new

-- and by a strike or an abort, of which only the first n open entries of t are left
abbrev pub SoundAfterStrike : Type 0
SoundAfterStrike = (old new : Meaning) (t n : ℕ) → IsCovered (object old) → IsSound old → Keeps old t n new → IsSound new

-- a commit, a strike and an abort of a transaction without open entries may leave a meaning as it is
abbrev pub UntouchedStays : Type 0
UntouchedStays = (m : Meaning) (t : ℕ) → IsSound m → open_of t m.log ≡ [] → IsCommit m t m × ((n : ℕ) → Keeps m t n m)

-- whatever they leave, it shows the same: with update in place done entries may have moved into base
abbrev pub UntouchedShowsTheSame : Type 0
UntouchedShowsTheSame =
    (old new : Meaning) (t : ℕ) → open_of t old.log ≡ []
    → (IsCommit old t new → ShowsTheSame old new) × ((n : ℕ) → Keeps old t n new → ShowsTheSame old new)

-- numbers of which none is listed twice, and that are those of the transactions with an open entry, are as many as the open transactions, and no more than the log has entries
abbrev pub OpensAreCounted : Type 0
OpensAreCounted =
    (log : List LogEntry) (ts : List ℕ) → Pairs (λ a b. (b == a) ≡ false) ts → ((t : ℕ) → list_any (λ u. u == t) ts ≡ nat_lt 0 (length (open_of t log)))
    → (length ts ≡ length (open_transactions log)) × (length ts ≤ length log)

-- ---- committed states

-- a sound object has a committed state, which is of its type's set
abbrev pub SoundHasCommitted : Type 0
SoundHasCommitted = (m : Meaning) → IsCovered (object m) → IsSound m → (s : ℕ) × (committed_of m ≡ Some s) × ((object m).set s ≡ true)

-- an operation leaves it, and so do a rollback and an abort
abbrev pub CommittedIsLeft : Type 0
CommittedIsLeft =
    ((m : Meaning) (t k : ℕ) → committed_of (applied m t k) ≡ committed_of m)
    × ((old new : Meaning) (t n : ℕ) → Keeps old t n new → committed_of new ≡ committed_of old)

-- where all entries are done, it is the state
abbrev pub AllDoneIsCommitted : Type 0
AllDoneIsCommitted = (m : Meaning) → AllByRecursion (λ e. e.done ≡ true) m.log → committed_of m ≡ state_of m
