-- The canonical text of a file is read as that file.
use Rattle.std.proofs.Common.{◌≡◌, ℕ, ◌<◌, ◌^◌, true, List, Contains, arith}
use Rattle.std.specs.List.{AllByRecursion}
use Rattle.std.proofs.lemmas.List.Elements.{All-push, All-contains, recursion_from_All}
use Rattle.type_table.specs.Name.{is_name}
use Rattle.type_table.specs.declared.op.Op.{Op}
use Rattle.type_table.specs.Laws.{StepsWithin}
use Rattle.line_text.specs.Rules.{Rules}
use Rattle.line_text.specs.Spelling.{Spells, IsReadAgain, NumberIsReadAgain, NameIsWord}
use Rattle.declared_types.specs.declared.type_file.TypeFile.{TypeFile}
use Rattle.type_text.specs.declared.type_line.TypeLine.{TypeLine}
use Rattle.type_text.specs.declared.type_line.TypeLine.TheVariants.{TypeName, States, Initial, Operation, End}
use Rattle.type_text.specs.TypeLines.{type_rules}
use Rattle.type_text.specs.Canonical.{words_of, canonical_lines, IsTypeFile, HasNames, CanonicalIsRead}
use Rattle.type_text.proofs.CanonicalFollows.{All-from_members}
use Rattle.type_text.proofs.CanonicalEntries.{entry_at}
use Rattle.type_text.proofs.CanonicalMembers.{cell_of_line, body, each_in_body}
use Rattle.type_text.proofs.CanonicalAccepted.{canonical_accepted}
use Rattle.type_text.proofs.CanonicalSpelled.{line_spells}
use Rattle.type_text.proofs.CanonicalFile.{canonical_described}

module _ (again : (g : Rules TypeLine) (words : TypeLine → List (List ℕ)) (items : List TypeLine) → IsReadAgain g words items)
    (numbers : (n : ℕ) → n < 10 ^ 7 → NumberIsReadAgain n) (names : (w : List ℕ) → NameIsWord w) (within : StepsWithin) where
  -- a line is said by its words
  abbrev IsSpelled : TypeLine → Type 0
  IsSpelled x = Spells type_rules x (words_of x)

  -- each line of a canonical text is
  body_spelled : (file : TypeFile) → IsTypeFile file → HasNames file.table → (x : TypeLine) → Contains (body file) x → IsSpelled x
  body_spelled file known named = each_in_body file IsSpelled
      (line_spells numbers names (TypeName file.table.name) tt named.name)
      (line_spells numbers names (States file.table.states) (omega (arith, known.table.states_fit)) tt)
      (line_spells numbers names (Initial file.table.initial) (omega (arith, known.table.states_fit, known.table.initial_inside)) tt)
      (λ op h. line_spells numbers names (Operation op) tt (All-contains (λ (o : Op). (is_name o.call ≡ true) × (is_name o.reply ≡ true)) file.table.ops op named.ops h))
      (λ entries x h.
      let cell = cell_of_line file entries x h in
      let entry = entry_at file known within entries cell.row cell.column x cell.row_in cell.column_in cell.is in
      line_spells numbers names x entry.small entry.named)

  -- and so is `end`
  lines_spelled : (file : TypeFile) → IsTypeFile file → HasNames file.table → AllByRecursion IsSpelled (canonical_lines file)
  lines_spelled file known named =
      recursion_from_All IsSpelled (canonical_lines file)
      (All-push IsSpelled (body file) End (All-from_members IsSpelled (body file) (body_spelled file known named)) (line_spells numbers names End tt tt))

  -- the text is read as its lines, and they describe the file
  pub canonical_read : CanonicalIsRead
  canonical_read file known named = record {
    read = again type_rules words_of (canonical_lines file) (lines_spelled file known named) (canonical_accepted within file known);
    described = canonical_described within file known;
  }
