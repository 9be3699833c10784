-- The lines that are kept of a text about a store's objects.
use Rattle.std.specs.Prelude.{ℕ, Bool, true, false, List, [], ◌∷◌, ◌++◌, map, Option, Some, None}
use Rattle.store_text.specs.declared.line.Line.{Line}
use Rattle.store_text.specs.declared.line.Line.TheVariants.{Objects, Max, Object, Entry, End}
use Rattle.store_text.specs.declared.line.ObjectLine.{ObjectLine}
use Rattle.store_text.specs.declared.kept.KeptParts.{KeptParts}

-- the `objects` line, where there is one
abbrev pub size_lines : {A : Type 0} → Option ℕ → List (Line A)
size_lines None = []
size_lines (Some n) = Objects n ∷ []

-- the `max` line, where there is one
abbrev pub limit_lines : {A : Type 0} → Option ℕ → List (Line A)
limit_lines None = []
limit_lines (Some most) = Max most ∷ []

-- the line of an object
abbrev pub line_of_object : {A : Type 0} → ObjectLine → Line A
line_of_object o = Object o.kind o.file o.name

-- the line of an entry
abbrev pub entry_line : {A : Type 0} → A → Line A
entry_line x = Entry x

-- `end`, once it has come
abbrev pub end_lines : {A : Type 0} → Bool → List (Line A)
end_lines false = []
end_lines true = End ∷ []

-- the lines of these parts, section by section
abbrev pub lines_of_parts : {A : Type 0} → Option ℕ → Option ℕ → List ObjectLine → List A → Bool → List (Line A)
lines_of_parts size max objects entries has_ended = size_lines size ++ (limit_lines max ++ (map line_of_object objects ++ (map entry_line entries ++ end_lines has_ended)))

-- those of which parts were kept, where what is kept of the entries says them
abbrev pub kept_store_lines : {K A : Type 0} → (K → List A) → KeptParts K → List (Line A)
kept_store_lines said kept = lines_of_parts kept.size kept.max kept.objects.lines.items (said kept.entries) kept.has_ended

-- the limit, which is 0 where no line says it
abbrev pub limit_of : Option ℕ → ℕ
limit_of None = 0
limit_of (Some most) = most
