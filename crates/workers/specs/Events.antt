-- What a history says of one worker, and of one of its transactions.
use Rattle.std.specs.Prelude.{◌≡◌, ℕ, suc, ◌==◌, List, [], ◌∷◌, if◌then◌else◌, Contains}
use Rattle.std.specs.List.{flat_map}
use Rattle.object_trait.specs.declared.event.Event.{Event}
use Rattle.object_trait.specs.declared.event.EventKind.{EventKind}
use Rattle.object_trait.specs.declared.event.EventKind.TheVariants.{Op}
use Rattle.serial_order.specs.Operations.{of}
use Rattle.serial_order.specs.History.{commits, surviving}
use Rattle.serial_order.specs.declared.entry.Entry.{Entry}
use Rattle.worker_turns.specs.declared.outcome.Receipt.{Receipt}

-- the events of worker w among these, the first of which has this position in the history, each with its position
abbrev pub receipts_of : ℕ → ℕ → List Event → List Receipt
receipts_of w position [] = []
receipts_of w position (e ∷ es) = if e.worker == w then (record { position = position; event = e }) ∷ receipts_of w (suc position) es else receipts_of w (suc position) es

-- the operation that t executed by this
abbrev pub done_for : ℕ → EventKind → List Entry
done_for t (Op k u x) = if u == t then (record { by = u; at = x; op = k }) ∷ [] else []
done_for t _ = []

-- the operations that t executed by these
abbrev pub done_by : ℕ → List EventKind → List Entry
done_by t es = flat_map (done_for t) es

-- t committed, and the operations that the serial order replays for it are those that it executed by these
pub record IsReplayed (H : List Event) (t : ℕ) (es : List EventKind) : Type 0 where
  pub committed : Contains (commits H) t
  pub operations : of t (surviving H) ≡ done_by t es
