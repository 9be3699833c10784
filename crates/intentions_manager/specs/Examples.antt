-- The counter of two under deferred update, at 1: one transaction has counted up and another down.
use Rattle.std.specs.Prelude.{ℕ, List, [], ◌∷◌}
use Rattle.object_trait.specs.Examples.{held}
use Rattle.object_trait.specs.declared.log_entry.LogEntry.{LogEntry}
use Rattle.intentions_manager.specs.declared.views.View.{View}

-- what t sees after this many entries
abbrev pub seen_view : ℕ → ℕ → ℕ → View
seen_view t state count = record { by = t; state = state; count = count }

abbrev pub two_views : List View
two_views = seen_view 1 2 1 ∷ seen_view 2 0 1 ∷ []

abbrev pub up_and_down_log : List LogEntry
up_and_down_log = held 1 0 ∷ held 2 1 ∷ []
