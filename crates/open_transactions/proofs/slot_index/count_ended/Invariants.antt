use Rattle.std.proofs.Common.{◌≡◌, take, replicate}
use Rattle.open_transactions.specs.Index.{ended}
use Rattle.open_transactions.proofs.slot_index.count_ended.Given as goal

-- all so far ended
abbrev pub invariant-loop-slot : goal.invariant-loop-slot
invariant-loop-slot l = record { counted : l.count ≡ l.slot-index; front : take l.count l.slots ≡ replicate l.count ended }
