-- Room that a store makes for events.
use Rattle.std.specs.Prelude.{◌≡◌, ℕ, true, false, ◌⊎◌, Result, Ok, Err}
use Rattle.serial_order.specs.Replay.{is_history_full}
use Rattle.serial_order.specs.declared.refusal.Refusal.{Refusal}
use Rattle.serial_order.specs.declared.refusal.Refusal.TheVariants.{HistoryFull, NoMemory}
use Rattle.store_laws.specs.Stored.{Stored}

-- the limit leaves room for this many further events and the end of each open transaction, and it is made; or why it isn't
abbrev pub MakesRoom : Stored → ℕ → Result (Unit {0}) Refusal → Type 0
MakesRoom s further (Ok x) = is_history_full s.limits s.history further ≡ false
MakesRoom s further (Err r) =
    ((is_history_full s.limits s.history further ≡ true) × (r ≡ HistoryFull)) ⊎ ((is_history_full s.limits s.history further ≡ false) × (r ≡ NoMemory))
