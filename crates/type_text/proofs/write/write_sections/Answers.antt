use Rattle.type_text.specs.Canonical.{lines_of_entries}
use Rattle.type_text.proofs.Writing.{all_sections, group_exit}
use Rattle.type_text.proofs.write.write_sections.Goals as goal

pub returns-in_err-write_entries : goal.returns-in_err-write_entries
returns-in_err-write_entries g c = group_exit c.items_in_turn.ensures (lines_of_entries c.args.file.now) all_sections c.loop-entries.entries-index _ c.loop-entries-test.true c.loop-entries.invariant c.in_err-write_entries.ensures c.from_residual.ensures.1
