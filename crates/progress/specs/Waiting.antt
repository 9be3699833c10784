-- Who may be in the way of a transaction.
use Rattle.std.specs.Prelude.{◌≡◌, ℕ, List, ◌++◌, false, true, ◌==◌, Option, Some, None, Contains}
use Rattle.std.specs.List.{AllByRecursion}
use Rattle.type_table.specs.Operation.{place_of}
use Rattle.object_trait.specs.declared.event.Event.{Event}
use Rattle.object_trait.specs.declared.event.EventKind.{EventKind}
use Rattle.object_trait.specs.declared.event.EventKind.TheVariants as kind
use Rattle.object_trait.specs.declared.event.EventKind.TheVariants.{Op}
use Rattle.serial_order.specs.Operations.{at_object}
use Rattle.serial_order.specs.History.{Summary, summary, is_open}
use Rattle.serial_order.specs.declared.entry.Entry.{Entry}

-- u is open, isn't t, and has an operation at x
pub record IsInTheWay (s : Summary) (x t u : ℕ) : Type 0 where
  pub open_now : is_open s u ≡ true
  pub other : (u == t) ≡ false
  pub held : Entry
  pub survives : Contains (at_object x s.survives) held
  pub by : held.by ≡ u

-- no other open transaction than t has an operation at x
abbrev pub IsAloneAt : Summary → ℕ → ℕ → Type 0
IsAloneAt s x t = AllByRecursion (λ e. is_open s e.by ≡ true → e.by ≡ t) (at_object x s.survives)

-- no other is open
abbrev pub IsAlone : Summary → ℕ → Type 0
IsAlone s t = (u : ℕ) → is_open s u ≡ true → u ≡ t

-- after K, all others that were open at the end of H have ended, and who wasn't open there holds nothing at x
pub record OthersHaveEnded (H K : List Event) (x t : ℕ) : Type 0 where
  pub earlier : (u : ℕ) → is_open (summary H) u ≡ true → (u == t) ≡ false → is_open (summary (H ++ K)) u ≡ false
  pub later : AllByRecursion (λ e. is_open (summary H) e.by ≡ false → is_open (summary (H ++ K)) e.by ≡ false) (at_object x (summary (H ++ K)).survives)

-- an operation that was found, else `None`
abbrev pub done_or_none : ℕ → ℕ → ℕ → Option ℕ → EventKind
done_or_none t x c (Some k) = Op k t x
done_or_none t x c None = kind.None t x (place_of c)
