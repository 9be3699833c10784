-- Small runs with carried transactions, worked by hand.
use Rattle.std.specs.Prelude.{ℕ, List, [], ◌∷◌, take}
use Rattle.type_table.specs.Table.{table_at}
use Rattle.object_trait.specs.Object.{Object}
use Rattle.object_trait.specs.declared.event.Event.{Event}
use Rattle.object_trait.specs.declared.event.EventKind.TheVariants.{Begin, Op, Commit}
use Rattle.serial_order.specs.Examples.{events, one_way_history, half_history}
use Rattle.serial_order.specs.Epochs.{Epoch}

-- an object, as it begins at a state
abbrev pub beginning_at : Object → ℕ → Object
beginning_at o s = record o { table = table_at o.table s }

-- 0 puts an a and a b; 1 takes the a, and 2 the b
abbrev pub two_takers : List Event
two_takers = events (Begin 0 ∷ Op 0 0 0 ∷ Op 1 0 0 ∷ Commit 0 ∷ Begin 1 ∷ Begin 2 ∷ Op 2 1 0 ∷ Op 3 2 0 ∷ [])

-- 2 alone is carried
abbrev pub one_taker : List Event
one_taker = events (Begin 0 ∷ Op 3 0 0 ∷ [])

-- ---- an epoch after another

-- of the one-way type, 0 does q, and 1 does p and commits
abbrev pub q_is_open : List Event
q_is_open = take 5 one_way_history

-- q is carried
abbrev pub q_again : List Event
q_again = events (Begin 0 ∷ Op 1 0 0 ∷ [])

-- r, by the transaction that did q
abbrev pub then_r : List Event
then_r = events (Op 2 0 0 ∷ [])

-- of a counter, 0 and 1 count up, and 0 commits; 1 is carried, and commits
abbrev pub half_epochs : List Epoch
half_epochs = (record { history = half_history; kept = 1 ∷ []; added = [] }) ∷ (record { history = events (Begin 0 ∷ Op 0 0 0 ∷ Commit 0 ∷ []); kept = 2 ∷ []; added = [] }) ∷ []
