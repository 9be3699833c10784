-- What a list of held operations means, and who of its transactions keeps another from an operation.
use Rattle.std.specs.Prelude.{◌≡◌, ℕ, ◌<◌, List, filter, length, Bool, not, ◌&&◌, ◌||◌, ◌==◌, nat_lt, Option, All}
use Rattle.std.specs.Int.{bit_at}
use Rattle.std.specs.List.{find}
use Rattle.std.specs.Option.{option_map}
use Rattle.type_table.specs.ConflictTable.{conflicts}
use Rattle.op_locks.specs.declared.held.Held.{Held}

-- what is held, in order of holding, and for how many more there is room
pub record Locks : Type 0 where
  pub held : List Held
  pub room : ℕ

-- t holds it
abbrev pub is_held_by : ℕ → Held → Bool
is_held_by t e = e.by == t

-- another than t holds it, and k, requested, conflicts with it
abbrev pub blocks : List (List Bool) → ℕ → ℕ → Held → Bool
blocks rows t k e = not (is_held_by t e) && conflicts rows k e.op

-- the holder of the earliest that does
abbrev pub blocking_holder : List (List Bool) → ℕ → ℕ → List Held → Option ℕ
blocking_holder rows t k held = option_map (λ e. e.by) (find (blocks rows t k) held)

-- how many operations t holds
abbrev pub held_count : ℕ → List Held → ℕ
held_count t held = length (filter (is_held_by t) held)

-- what others than t hold
abbrev pub held_without : ℕ → List Held → List Held
held_without t held = filter (λ e. not (is_held_by t e)) held

-- an entry stays where this many of t's may
abbrev pub stays_held : ℕ → ℕ → Held → Bool
stays_held t left e = not (is_held_by t e) || nat_lt 0 left

-- ---- as a word of 64 bits

-- each held operation has a bit in the word, which is set
abbrev pub HasBits : ℕ → List Held → Type 0
HasBits word held = All (λ e. (e.op < 64) × (bit_at word e.op ≡ 1)) held
