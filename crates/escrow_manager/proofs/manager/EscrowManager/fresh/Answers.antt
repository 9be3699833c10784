use Rattle.std.proofs.Common.{ℕ, ◌≡◌, List, [], ap, subst, ◌∙◌}
use Rattle.escrow_laws.specs.declared.mark.OpenMark.{OpenMark}
use Rattle.table_checker.specs.Checked.{Checked}
use Rattle.object_trait.specs.declared.log_entry.LogEntry.{LogEntry}
use Rattle.escrow_manager.specs.Numeric.{greatest, IsInEscrow}
use Rattle.escrow_manager.specs.Totals.{totals_of}
use Rattle.escrow_manager.specs.Kept.{IsKeptInEscrow}
use Rattle.escrow_manager.specs.declared.totals.Totals.{Totals}
use Rattle.escrow_manager.proofs.Keeping.{fresh-kept}
use Rattle.escrow_manager.proofs.manager.EscrowManager.fresh.Goals as goal

-- kept, under other names
renamed : (checked : Checked) (a b : ℕ) (log V : List LogEntry) (marks W : List OpenMark) (x y : Totals) → a ≡ b → log ≡ V → marks ≡ W → x ≡ y →
    IsKeptInEscrow (record { checked = checked; base = b; log = V }) W y → IsKeptInEscrow (record { checked = checked; base = a; log = log }) marks x
renamed checked a b log V marks W x y p q r s h = rw (p, q, r, s) h

pub invariant_of-result : goal.invariant_of-result
invariant_of-result c =
    let checked = c.args.checked.value in
    let numeric : IsInEscrow checked = subst IsInEscrow c.deref.ensures (c.initial-base.ensures.numeric (ap (λ (x : Checked). x.kind) c.deref.ensures ∙ c.requires)) in
    renamed checked c.initial-base.result checked.file.table.initial c.new.result.items [] c.new-2.result.items [] c.none-totals.result (totals_of (greatest checked) [])
    (c.initial-base.ensures.exact ∙ ap (λ (x : Checked). x.file.table.initial) c.deref.ensures) c.new.ensures.items c.new-2.ensures.items
    (c.none-totals.ensures ∙ ap (λ top. totals_of top []) (c.greatest.ensures.exact ∙ ap greatest c.deref-2.ensures))
    (fresh-kept c.checked_is_covered.ensures c.fresh_is_sound.ensures checked numeric)
