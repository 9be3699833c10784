-- The machine: which event the locks admit after a history, and its runs (Weihl's commutativity-based locking).
use Rattle.std.specs.Prelude.{◌≡◌, ℕ, ◌<◌, ◌≤◌, List, [], ◌∷◌, ◌++◌, length, true, false, Option, Some, None, slice_get, Contains}
use Rattle.std.specs.List.{AllByRecursion}
use Rattle.type_table.specs.Operation.{place_of}
use Rattle.type_table.specs.Table.{has_op}
use Rattle.object_trait.specs.Object.{Object, IsCovered}
use Rattle.object_trait.specs.declared.event.Event.{Event}
use Rattle.object_trait.specs.declared.event.EventKind.{EventKind}
use Rattle.object_trait.specs.declared.event.EventKind.TheVariants as kind
use Rattle.object_trait.specs.declared.event.EventKind.TheVariants.{Begin, Op, Busy, Commit, Abort, Rollback}
use Rattle.serial_order.specs.Operations.{at_object, of}
use Rattle.serial_order.specs.History.{Summary, summary, is_open}
use Rattle.serial_order.specs.View.{is_legal_for, conflicts_with, is_of_call}
use Rattle.serial_order.specs.declared.entry.Entry.{Entry}

-- c is the least operation of its call
abbrev pub IsFirstOfCall : Object → ℕ → Type 0
IsFirstOfCall o c = (has_op o.table c ≡ true) × ((k : ℕ) → k < c → is_of_call o c k ≡ false)

-- an operation of another open transaction at x conflicts with k
abbrev pub IsBlocked : Object → Summary → ℕ → ℕ → ℕ → Type 0
IsBlocked o s x t k = (e : Entry) × Contains (at_object x s.survives) e × (conflicts_with o s x t k e ≡ true)

-- the first legal operation of a call
pub record IsFirstLegal (o : Object) (s : Summary) (x t c k : ℕ) : Type 0 where
  pub of_call : is_of_call o c k ≡ true
  pub legal : is_legal_for o s x t k ≡ true
  pub first : (j : ℕ) → j < k → is_of_call o c j ≡ true → is_legal_for o s x t j ≡ false

-- `Op`: legal after the view, and no other open transaction holds an operation that conflicts
abbrev pub MayDo : Option Object → Summary → ℕ → ℕ → ℕ → Type 0
MayDo None s x t k = ⊥
MayDo (Some o) s x t k =
    (has_op o.table k ≡ true) × (is_legal_for o s x t k ≡ true) × AllByRecursion (λ e. conflicts_with o s x t k e ≡ false) (at_object x s.survives)

-- `None`: no operation of the call is legal. An answer without a reply tells of its call the place of the first operation, and no amount:
-- it may be told where there is such a call
abbrev pub MayHaveNone : Option Object → Summary → ℕ → ℕ → ℕ → Type 0
MayHaveNone None s x t c = ⊥
MayHaveNone (Some o) s x t place =
    (c : ℕ) × (place_of c ≡ place) × IsFirstOfCall o c × ((k : ℕ) → is_of_call o c k ≡ true → is_legal_for o s x t k ≡ false)

-- `Busy`: each legal operation of the call is blocked, and u holds one that blocks the first legal one
pub record IsBusyWith (o : Object) (s : Summary) (x t c u : ℕ) : Type 0 where
  pub least : IsFirstOfCall o c
  pub all_blocked : (k : ℕ) → is_of_call o c k ≡ true → is_legal_for o s x t k ≡ true → IsBlocked o s x t k
  pub k : ℕ
  pub first : IsFirstLegal o s x t c k
  pub held : Entry
  pub survives : Contains (at_object x s.survives) held
  pub conflicts : conflicts_with o s x t k held ≡ true
  pub holder : held.by ≡ u

abbrev pub MayBeBusy : Option Object → Summary → ℕ → ℕ → ℕ → ℕ → Type 0
MayBeBusy None s x t c u = ⊥
MayBeBusy (Some o) s x t place u = (c : ℕ) × (place_of c ≡ place) × IsBusyWith o s x t c u

-- the event may come next
abbrev pub May : List Object → Summary → EventKind → Type 0
May objects s (Begin t) = t ≡ s.begun
May objects s (Op k t x) = (is_open s t ≡ true) × MayDo (slice_get objects x) s x t k
May objects s (Busy c t x u) = (is_open s t ≡ true) × MayBeBusy (slice_get objects x) s x t c u
May objects s (kind.None t x c) = (is_open s t ≡ true) × MayHaveNone (slice_get objects x) s x t c
May objects s (Commit t) = is_open s t ≡ true
May objects s (Abort t) = is_open s t ≡ true
May objects s (Rollback t n) = (is_open s t ≡ true) × (0 < n) × (n ≤ length (of t s.survives))

-- the event may follow the history
abbrev pub MayFollow : List Object → List Event → Event → Type 0
MayFollow objects H e = May objects (summary H) e.kind

-- each event may follow those before it
abbrev pub RunsOn : List Object → List Event → List Event → Type 0
RunsOn objects before [] = Unit {0}
RunsOn objects before (e ∷ es) = MayFollow objects before e × RunsOn objects (before ++ e ∷ []) es

-- a run of the machine
abbrev pub IsRun : List Object → List Event → Type 0
IsRun objects H = RunsOn objects [] H

-- each object's conflict table is enough for its kind
abbrev pub AreCovered : List Object → Type 0
AreCovered objects = (x : ℕ) (o : Object) → slice_get objects x ≡ Some o → IsCovered o
