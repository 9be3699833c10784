use Rattle.std.proofs.Common.{◌≡◌, ℕ, ◌<◌, eqb, length, sym, ap, ◌∙◌}
use Rattle.std.specs.Int.{bit_at}
use Rattle.std.specs.Option.{option_map}
use Rattle.type_table.specs.ConflictTable.{conflicts}
use Rattle.object_trait.specs.declared.log_entry.LogEntry.{LogEntry}
use Rattle.intentions_manager.proofs.Bits.{no-conflict}
use Rattle.intentions_manager.proofs.entries.first_conflict.Goals as goal

pub returns-then-row-word-eq0 : goal.returns-then-row-word-eq0
returns-then-row-word-eq0 c =
    let shows : (q : ℕ) → q < length c.args.table.now → eqb (bit_at c.row.result q) 1 ≡ conflicts c.args.table.now c.args.k q = λ q low. c.row.ensures q low ∙ ap (λ p. conflicts c.args.table.now p q) c.column.ensures in
    sym (ap (option_map (λ (e : LogEntry). e.by))
    (no-conflict c.args.table.now c.args.t c.args.k c.row.result c.args.word c.args.log.now.items shows c.requires.few c.if-row-word-eq0.true c.requires.held c.requires.bits))
