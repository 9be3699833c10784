-- The lines that are kept of a type file.
use Rattle.std.specs.Prelude.{List, ◌++◌}
use Rattle.type_text.specs.Rows.{lines_of_rows}
use Rattle.type_text.specs.declared.type_line.TypeLine.{TypeLine}
use Rattle.type_text.specs.declared.type_lines.TypeLines.{TypeLines}

-- those of the head, and the rows after them
abbrev pub kept_lines : TypeLines → List TypeLine
kept_lines lines = lines.head.items ++ lines_of_rows lines.rows.items
