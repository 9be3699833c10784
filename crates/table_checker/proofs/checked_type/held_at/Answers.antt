use Rattle.std.proofs.Common.{◌≡◌, ◌<◌, ◌≤◌, ℕ, List, length, Some, get_or, sym, ap, ◌∙◌, arith}
use Rattle.std.proofs.lemmas.Option.{slice_get-get_or}
use Rattle.std.proofs.lemmas.List.FromFn.{length-map-range_with_len}
use Rattle.type_table.specs.Operation.{place_of}
use Rattle.type_table.specs.Table.{Table}
use Rattle.escrow_laws.specs.Bounds.{bounds_of, bounded_at}
use Rattle.escrow_laws.specs.declared.bounded.Bounded.{Bounded}
use Rattle.table_checker.proofs.checked_type.held_at.Goals as goal

-- the place is the operation's number
place_is : (k place from ops : ℕ) → from ≡ place → place ≡ place_of k → ops ≤ 64 → k < ops → from ≡ k
place_is k place from ops is at fits below = omega (arith, is, at, fits, below)

-- and there are bounds for it
inside : (T : Table) (k : ℕ) → k < length T.ops → k < length (bounds_of T)
inside T k below = omega (arith, below, length-map-range_with_len (bounded_at T) 0 (length T.ops))

pub bounds-as_slice-from : goal.bounds-as_slice-from
bounds-as_slice-from c =
    let T = c.args.table.now in
    let bounds = ap (λ (bs : List Bounded). length bs) (c.as_slice.ensures ∙ c.requires.bounds) in
    omega (arith, place_is c.args.k c.place.result c.from.result (length T.ops) c.from.ensures c.place.ensures.exact c.states-states.ensures.table.ops_fit c.requires.operation, inside T c.args.k c.requires.operation, bounds)

pub returns : goal.returns
returns c =
    let T = c.args.table.now in
    let none : Bounded = record { low = 0; high = 0; gives = 0; takes = 0 } in
    let place = place_is c.args.k c.place.result c.from.result (length T.ops) c.from.ensures c.place.ensures.exact c.states-states.ensures.table.ops_fit c.requires.operation in
    slice_get-get_or (bounds_of T) c.args.k none (omega (arith, inside T c.args.k c.requires.operation))
    ∙ ap Some (ap (λ (bs : List Bounded). get_or bs c.args.k none) (sym (c.as_slice.ensures ∙ c.requires.bounds)) ∙ ap (λ n. get_or c.as_slice.result.now n none) (sym place))
