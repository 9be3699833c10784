use Rattle.std.proofs.Common.{length, subst}
use Rattle.std.proofs.lemmas.List.FromFn.{length-map-range_with_len}
use Rattle.type_table.specs.declared.kind.Kind.{Kind}
use Rattle.escrow_laws.specs.Bounds.{bounded_at}
use Rattle.table_checker.specs.Checked.{IsCheckedBy, IsNumericType}
use Rattle.escrow_manager.proofs.numeric.initial.Goals as goal

pub returns-clause-numeric : goal.returns-clause-numeric
returns-clause-numeric c =
    let file = c.args.checked.now.file in
    λ escrow.
    let tested : IsNumericType file.table = subst (λ (kind : Kind). IsCheckedBy kind file) escrow c.initial.ensures.checked in
    record {
      escrow = escrow;
      numeric = tested;
      count = length-map-range_with_len (bounded_at file.table) 0 (length file.table.ops);
      bounds = tested.bounds;
    }
