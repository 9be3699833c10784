use Rattle.std.proofs.Common.{◌≡◌, false, refl, sym, ◌∙◌}
use Rattle.std.specs.Fmt.{digits}
use Rattle.type_table.specs.Table.{next}
use Rattle.line_text.specs.Shapes.{is_key}
use Rattle.declared_text.specs.Declared.{is_of_number}
use Rattle.type_text.specs.Canonical.{canonical_lines, IsReadBack}
use Rattle.table_checker.specs.Examples.{counter_file}
use Rattle.command_files.specs.Files.{Describes}
use Rattle.command_files.specs.Examples.{counter_bytes}
use Rattle.command_files.proofs.CounterText.{counter-is_file, counter-names}
use Rattle.command_files.proofs.worked.a_text_describes_its_file.Goals as goal

-- its first word is `type`
of_counter : is_of_number counter_bytes ≡ false
unfolding is_key
of_counter = refl

-- the text is the canonical one
pub returns : goal.returns
unfolding digits next
returns c =
    let back : IsReadBack counter_file = c.canonical_is_read.ensures counter_file counter-is_file counter-names in
    let described : Describes counter_bytes counter_file = record { lines = canonical_lines counter_file; accepted = back.read; described = back.described } in
    record { described = described; declared = (of_counter, (described.lines, described.accepted, described.described)); faultless = λ fault. let clash = sym described.accepted ∙ fault.1 in cc }
