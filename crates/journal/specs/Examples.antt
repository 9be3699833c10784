-- Small files, by hand: no object, no event, and the second life.
use Rattle.std.specs.Prelude.{ℕ, ◌+◌, ◌==◌, List, [], ◌∷◌, Option, Some, None, codes, replicate, if◌then◌else◌}
use Rattle.sqlite_value.specs.Order.{Row}
use Rattle.sqlite_trees.specs.Tree.{Trees}
use Rattle.journal.specs.declared.header.Header.{Header}
use Rattle.journal.specs.declared.prepared_row.Prepared.{Prepared}
use Rattle.journal.specs.declared.outcome_row.KeptOutcome.{KeptOutcome}
use Rattle.journal.specs.declared.outcome_row.Outcome.TheVariants.{Aborted, Committed}
use Rattle.journal.specs.HeaderRow.{header_row}
use Rattle.journal.specs.Numbers.{numbers_row}
use Rattle.journal.specs.OutcomeIndex.{numbered_from}
use Rattle.journal.specs.OutcomeRow.{outcome_row}
use Rattle.journal.specs.PlaceRow.{pointer_row}

-- what a file of this format says of itself
abbrev pub header_of_format : ℕ → Header
header_of_format format = record { format = format; id = replicate 16 7; life = 2 }

-- it has one row in its table of the header, these in that of prepared transactions, and none elsewhere
abbrev pub small_file : ℕ → List Row → Trees
small_file format prepared t = if t == 1 then header_row 0 (header_of_format format) ∷ [] else (if t == 5 then prepared else [])

-- an order that its client has as 1.3 is prepared; it is transaction 4 of the history
abbrev pub prepared_order : Prepared
prepared_order = record { key = codes "order:7"; given = record { life = 1; number = 3 }; number = 4; until = 60 }

-- an order is committed, as the fifth outcome of a file, and another one aborted, by a program that numbered none
abbrev pub order_committed : KeptOutcome
order_committed = record { kept = record { key = codes "order:7"; outcome = Committed [] }; number = 5 }

abbrev pub order_aborted : KeptOutcome
order_aborted = record { kept = record { key = codes "order:9"; outcome = Aborted }; number = 0 }

-- at the places 7 and 9, as programs of the formats 6 to 8 write them
abbrev pub two_outcomes : List Row
two_outcomes = outcome_row 7 order_committed ∷ outcome_row 9 order_aborted ∷ []

abbrev pub seven_and_nine : ℕ → Option KeptOutcome
seven_and_nine n = if n == 7 then Some order_committed else (if n == 9 then Some order_aborted else None)

-- the first 62 bits of the SHA-256 of `abc`, which is among the examples of FIPS 180-4
abbrev pub place_of_abc : ℕ
place_of_abc = 3359128625063425018

abbrev pub first_outcome : KeptOutcome
first_outcome = record { kept = record { key = codes "abc"; outcome = Committed (codes "ok") }; number = 1 }

abbrev pub second_outcome : KeptOutcome
second_outcome = record { kept = record { key = codes "abc"; outcome = Aborted }; number = 2 }

-- of these two so many await the index; there is a pointer at the key's place to the first of them, another one to it at a place that isn't its own, and the row
-- of an older program
abbrev pub rows_awaiting : ℕ → List Row
rows_awaiting count =
    numbers_row (record { next = 3; first = 0; least = 2; awaiting = count }) ∷ outcome_row 7 order_committed ∷ pointer_row 8 1 ∷ pointer_row place_of_abc 1
    ∷ outcome_row (numbered_from + 1) first_outcome ∷ outcome_row (numbered_from + 2) second_outcome ∷ []
