-- The lines of a canonical text are accepted.
use Rattle.std.proofs.Common.{◌≡◌, ℕ, ◌<◌, ◌≤◌, List, [], ◌∷◌, ◌++◌, map, Contains, ap, ◌∙◌, arith}
use Rattle.line_text.specs.Accepted.{IsAccepted}
use Rattle.type_table.specs.Laws.{StepsWithin}
use Rattle.type_table.specs.declared.table_kind.TableKind.TheVariants.{Undo, Intentions}
use Rattle.declared_types.specs.declared.type_file.TypeFile.{TypeFile}
use Rattle.type_text.specs.declared.type_line.TypeLine.{TypeLine}
use Rattle.type_text.specs.declared.type_line.TypeLine.TheVariants.{Operation, End}
use Rattle.type_text.specs.declared.entries.Entries.{Entries}
use Rattle.type_text.specs.declared.entries.Entries.TheVariants.{Steps, Members, Pairs, Conflicts}
use Rattle.type_text.specs.TypeLines.{rank_of, ops_of, type_rules}
use Rattle.type_text.specs.Canonical.{lines_of_entries, canonical_lines, IsTypeFile}
use Rattle.type_text.proofs.CanonicalFollows.{Follow, follow_append, All-from_members, accepted_with_end}
use Rattle.type_text.proofs.CanonicalFront.{front}
use Rattle.type_text.proofs.CanonicalEntries.{entry_rank, entry_at}
use Rattle.type_text.proofs.CanonicalGrid.{IsUpTo, entries_follow}
use Rattle.type_text.proofs.CanonicalOps.{front_follows, all_ops_follow, ops_up_to, end_passes}
use Rattle.type_text.proofs.CanonicalMembers.{cell_of_line, up_to_ops, up_to_steps, up_to_members, up_to_pairs, up_to_undo, body, each_in_body}

-- the rank of an entry is below that of `end`
low_rank : (entries : Entries) → entry_rank entries ≤ 8
low_rank Steps = omega arith
low_rank Members = omega arith
low_rank Pairs = omega arith
low_rank (Conflicts Undo) = omega arith
low_rank (Conflicts Intentions) = omega arith

module _ (within : StepsWithin) (file : TypeFile) (known : IsTypeFile file) where
  -- lines that follow one another and end at most with this rank
  abbrev IsStage : ℕ → List TypeLine → Type 0
  IsStage rank lines = Follow [] lines × IsUpTo file rank lines

  -- one more section
  stage_more : (rank : ℕ) (lines : List TypeLine) (entries : Entries) → rank < entry_rank entries → IsStage rank lines → IsStage (entry_rank entries) (lines ++ lines_of_entries file entries)
  stage_more rank lines entries above h =
      let more = entries_follow within file known entries rank lines above h.1 in
      (follow_append [] lines (lines_of_entries file entries) h.0 more.0, more.1)

  -- all but `end`
  body_stage : IsStage 8 (body file)
  body_stage =
      let ops : IsStage 3 (up_to_ops file) = (follow_append [] (front file []) (map Operation file.table.ops) (front_follows file known) (all_ops_follow file known), ops_up_to file known) in
      let steps = stage_more 3 (up_to_ops file) Steps (omega arith) ops in
      let members = stage_more 4 (up_to_steps file) Members (omega arith) steps in
      let pairs = stage_more 5 (up_to_members file) Pairs (omega arith) members in
      let undo = stage_more 6 (up_to_pairs file) (Conflicts Undo) (omega arith) pairs in
      stage_more 7 (up_to_undo file) (Conflicts Intentions) (omega arith) undo

  -- their operations
  pub body_ops : ops_of (body file) ≡ file.table.ops
  body_ops = let stage = body_stage in ap ops_of stage.1.front_is ∙ stage.1.ops

  -- each of them is of a rank below that of `end`
  low_line : (x : TypeLine) → Contains (body file) x → rank_of x < 9
  low_line = each_in_body file (λ x. rank_of x < 9) (omega arith) (omega arith) (omega arith) (λ op h. omega arith)
      (λ entries x h.
      let cell = cell_of_line file entries x h in
      let entry = entry_at file known within entries cell.row cell.column x cell.row_in cell.column_in cell.is in
      omega (arith, entry.ranked, low_rank entries))

  -- all lines, with `end` after the others
  pub canonical_accepted : IsAccepted type_rules (canonical_lines file)
  canonical_accepted =
      let stage = body_stage in
      accepted_with_end (body file) (All-from_members (λ x. rank_of x < 9) (body file) low_line) (follow_append [] (body file) (End ∷ []) stage.0 (end_passes file known (body file) stage.1, tt))
