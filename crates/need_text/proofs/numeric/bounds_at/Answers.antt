use Rattle.std.proofs.Common.{◌<◌, length, sym, ◌∙◌, zero-add}
use Rattle.std.proofs.lemmas.List.FromFn.{get_or-map-range_with_len}
use Rattle.std.proofs.lemmas.Option.{get_or_from_slice_get}
use Rattle.escrow_laws.specs.Bounds.{bounded_at, bounds_of}
use Rattle.declared_types.proofs.TableOps.{op_below}
use Rattle.need_text.proofs.numeric.bounds_at.Goals as goal

pub bounded-requires-clause-operation : goal.bounded-requires-clause-operation
bounded-requires-clause-operation c = op_below c.args.checked.now.file.table c.args.k c.requires.operation

pub returns : goal.returns
returns c =
    let T = c.args.checked.now.file.table in
    let k = c.args.k in
    let below : k < length T.ops = op_below T k c.requires.operation in
    sym (get_or_from_slice_get (bounds_of T) k c.bounded.result c.bounded.result c.bounded.ensures.exact)
    ∙ get_or-map-range_with_len (bounded_at T) 0 (length T.ops) k k c.bounded.result below (zero-add k)
