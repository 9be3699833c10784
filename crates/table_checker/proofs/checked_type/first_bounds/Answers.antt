use Rattle.std.proofs.Common.{List, [], ◌∷◌, length, slice_get, sym, ap, ◌∙◌, arith}
use Rattle.std.proofs.lemmas.List.{length-append}
use Rattle.std.proofs.lemmas.List.FromFn.{length-map-range_with_len}
use Rattle.escrow_laws.specs.Bounds.{bounds_of}
use Rattle.escrow_laws.specs.declared.bounded.Bounded.{Bounded}
use Rattle.number_types.specs.Operations.{names_or_none, op_at, op_count, number_table}
use Rattle.table_checker.proofs.Declared.{holds_more}
use Rattle.table_checker.proofs.checked_type.first_bounds.Goals as goal

pub bounded_of-requires : goal.bounded_of-requires
bounded_of-requires c =
    let v = c.args.number.now in
    let place = c.listed.ensures in
    let below = c.loop-place-test.true in
    omega (arith, place, below, length-map-range_with_len (λ q. names_or_none (op_at v q)) 0 (op_count v))

pub loop-place-preserved : goal.loop-place-preserved
loop-place-preserved c =
    let all : List Bounded = bounds_of (number_table c.args.number.now) in
    let old : List Bounded = c.loop-place.bounds in
    let many = c.loop-place.invariant.0 in
    let more = ap (λ (bs : List Bounded). length bs) c.push.ensures in (
      omega (arith, more, length-append old (c.bounded_of.result ∷ []), many),
      λ k d at.
          holds_more all old c.bounded_of.result c.loop-place.invariant.1 (ap (slice_get all) (many ∙ sym c.listed.ensures) ∙ c.bounded_of.ensures) k d
          (ap (λ (bs : List Bounded). slice_get bs k) (sym c.push.ensures) ∙ at),
    )
