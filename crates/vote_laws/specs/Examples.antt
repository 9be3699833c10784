-- Transactions that are prepared, worked by hand.
use Rattle.std.specs.Prelude.{ℕ, List, [], ◌∷◌, codes}
use Rattle.object_trait.specs.declared.event.Event.{Event}
use Rattle.object_trait.specs.declared.event.EventKind.TheVariants.{Begin, Commit}
use Rattle.serial_order.specs.Examples.{events}
use Rattle.journal.specs.declared.prepared_row.Prepared.{Prepared}

-- 0, 1 and 2 begin, and 1 commits
abbrev pub one_ended : List Event
one_ended = events (Begin 0 ∷ Begin 1 ∷ Begin 2 ∷ Commit 1 ∷ [])

-- the row of a transaction that began in life 3, until 60
abbrev pub guest_row : ℕ → List ℕ → Prepared
guest_row t key = record { key = key; given = record { life = 3; number = t }; number = t; until = 60 }

-- all three were prepared, each for a guest
abbrev pub ann : Prepared
ann = guest_row 0 (codes "ann")

abbrev pub bob : Prepared
bob = guest_row 1 (codes "bob")

abbrev pub eve : Prepared
eve = guest_row 2 (codes "eve")

abbrev pub guests : List Prepared
guests = ann ∷ bob ∷ eve ∷ []
