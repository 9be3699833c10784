-- What the lines of a text about a store's objects say, section by section.
use Rattle.std.specs.Prelude.{ℕ, List, Option, Some, None}
use Rattle.std.specs.List.{filter_map}
use Rattle.store_text.specs.declared.line.Line.{Line}
use Rattle.store_text.specs.declared.line.Line.TheVariants.{Objects, Max, Object, Entry}
use Rattle.store_text.specs.declared.line.ObjectLine.{ObjectLine}

-- the number of an `objects` line
abbrev pub size_in_line : {A : Type 0} → Line A → Option ℕ
size_in_line (Objects n) = Some n
size_in_line _ = None

-- the numbers of the `objects` lines, of which a text has one at most
abbrev pub said_sizes : {A : Type 0} → List (Line A) → List ℕ
said_sizes lines = filter_map size_in_line lines

-- the number of a `max` line
abbrev pub limit_in_line : {A : Type 0} → Line A → Option ℕ
limit_in_line (Max most) = Some most
limit_in_line _ = None

-- the numbers of the `max` lines, of which a text has one at most
abbrev pub said_limits : {A : Type 0} → List (Line A) → List ℕ
said_limits lines = filter_map limit_in_line lines

-- the object of an `object` line
abbrev pub object_in : {A : Type 0} → Line A → Option ObjectLine
object_in (Object kind file name) = Some (record { kind = kind; file = file; name = name })
object_in _ = None

-- the objects, numbered from 0 in the order of their lines
abbrev pub said_objects : {A : Type 0} → List (Line A) → List ObjectLine
said_objects lines = filter_map object_in lines

-- the entry of a line
abbrev pub entry_in : {A : Type 0} → Line A → Option A
entry_in (Entry x) = Some x
entry_in _ = None

-- the entries in order
abbrev pub entries_of : {A : Type 0} → List (Line A) → List A
entries_of lines = filter_map entry_in lines
