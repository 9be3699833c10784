-- What survives, for each operation by counts of the events after it.
use Rattle.std.specs.Prelude.{ℕ, suc, List, [], ◌∷◌, ◌++◌, take, length, Bool, false, not, ◌&&◌, ◌==◌, nat_lt, if◌then◌else◌}
use Rattle.std.specs.List.{list_any, count_by, sum_by, range_with_len}
use Rattle.object_trait.specs.declared.event.Event.{Event}
use Rattle.object_trait.specs.declared.event.EventKind.{EventKind}
use Rattle.object_trait.specs.declared.event.EventKind.TheVariants.{Op, Rollback}
use Rattle.serial_order.specs.Operations.{is_among}
use Rattle.serial_order.specs.History.{aborts}
use Rattle.serial_order.specs.declared.entry.Entry.{Entry}

-- the event is an operation of t
abbrev pub is_op_of : ℕ → EventKind → Bool
is_op_of t (Op k u x) = u == t
is_op_of t _ = false

-- how many operations of t the event takes back, where it is a rollback
abbrev pub taken_back : ℕ → EventKind → ℕ
taken_back t (Rollback u n) = if u == t then n else 0
taken_back t _ = 0

-- how many operations t executed in some events
abbrev pub executed : ℕ → List Event → ℕ
executed t K = count_by (λ e. is_op_of t e.kind) K

-- how many it took back in them
abbrev pub rolled_back : ℕ → List Event → ℕ
rolled_back t K = sum_by (λ e. taken_back t e.kind) K

-- an operation of t with the events K after it is struck by a rollback: up to one of these t took back more than it executed since
abbrev pub is_rolled_back : ℕ → List Event → Bool
is_rolled_back t K = list_any (λ n. nat_lt (executed t (take n K)) (rolled_back t (take n K))) (range_with_len 0 (suc (length K)))

-- it survives: in K t doesn't abort, and no rollback strikes it
abbrev pub stays : ℕ → List Event → Bool
stays t K = not (is_among (aborts K) t) && not (is_rolled_back t K)

-- the operation of the event, where it survives with the events K after it
abbrev pub survivor_op : EventKind → List Event → List Entry
survivor_op (Op k t x) K = if stays t K then (record { by = t; at = x; op = k }) ∷ [] else []
survivor_op _ K = []

-- each operation that survives by the events after it, in their order
abbrev pub survivors : List Event → List Entry
survivors [] = []
survivors (e ∷ K) = survivor_op e.kind K ++ survivors K
