-- Walks along a transaction's open entries.
use Rattle.std.specs.Prelude.{ℕ, ◌<◌, List, [], ◌∷◌, map, if◌then◌else◌}
use Rattle.std.specs.Option.{unwrap_or}
use Rattle.type_table.specs.Table.{Table, next}
use Rattle.object_trait.specs.Meaning.{is_open_of}
use Rattle.object_trait.specs.declared.log_entry.LogEntry.{LogEntry}
use Rattle.intentions_manager.specs.declared.views.View.{View}

-- the state after operation k, which is s where k isn't legal in s
abbrev pub stepped : Table → ℕ → ℕ → ℕ
stepped T s k = unwrap_or (next T s k) s

-- the state after an entry, if that is an open one of t
abbrev pub entered : Table → ℕ → ℕ → LogEntry → ℕ
entered T t s e = if is_open_of t e then stepped T s e.op else s

-- the state after t's open entries
abbrev pub walked : Table → ℕ → ℕ → List LogEntry → ℕ
walked T t s [] = s
walked T t s (e ∷ log) = walked T t (entered T t s e) log

-- a view after operation k
abbrev pub view_moved : Table → ℕ → View → View
view_moved T k v = record v { state = stepped T v.state k }

-- a view after an entry, if that is an open one of t
abbrev pub step_view : Table → ℕ → LogEntry → View → View
step_view T t e v = record v { state = entered T t v.state e }

-- views after t's open entries
abbrev pub carried : Table → ℕ → List LogEntry → List View → List View
carried T t [] views = views
carried T t (e ∷ log) views = carried T t log (map (step_view T t e) views)

-- the view's state is one of the table's
abbrev pub FitsTable : Table → View → Type 0
FitsTable T v = v.state < T.states
