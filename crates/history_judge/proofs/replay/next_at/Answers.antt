use Rattle.std.proofs.Common.{◌<◌, map, length, slice_get, refl, sym, subst, ◌∙◌}
use Rattle.std.proofs.lemmas.Option.{IfSome_then, same_Some, slice_get_read}
use Rattle.type_table.specs.Table.{Table}
use Rattle.declared_types.specs.Declarations.{table_of}
use Rattle.history_judge.proofs.Replayed.{operation-below, state-below, table-read, next-there}
use Rattle.history_judge.proofs.replay.next_at.Goals as goal

pub next-requires-clause-operation : goal.next-requires-clause-operation
next-requires-clause-operation c =
    let x = c.args.operation.now.x in
    let k = c.args.operation.now.k in
    let declared = c.index-types-x.result in
    operation-below (slice_get (map (λ t. table_of t.now) c.args.types.now) x) (table_of declared.now) k
    (table-read (λ t. table_of t.now) c.args.types.now x k declared c.requires.operation c.index-types-x.is) c.requires.operation

pub returns-clause-exact : goal.returns-clause-exact
returns-clause-exact c =
    let types = c.args.types.now in
    let states = c.args.states.now.items in
    let x = c.args.operation.now.x in
    let k = c.args.operation.now.k in
    let declared = c.index-types-x.result in
    let state = c.index.result.now in
    let below = state-below (λ t. table_of t.now) types states x k c.requires.states c.requires.operation in
    c.next.ensures.exact
    ∙ sym (next-there (slice_get (map (λ t. table_of t.now) types) x) (slice_get states x) (table_of declared.now) state k
    (table-read (λ t. table_of t.now) types x k declared c.requires.operation c.index-types-x.is) (slice_get_read states (length states) x state refl below c.index.ensures))

pub returns-clause-there : goal.returns-clause-there
returns-clause-there c = state-below (λ t. table_of t.now) c.args.types.now c.args.states.now.items c.args.operation.now.x c.args.operation.now.k c.requires.states c.requires.operation

pub returns-clause-inside : goal.returns-clause-inside
returns-clause-inside c =
    let types = c.args.types.now in
    let x = c.args.operation.now.x in
    let declared = c.index-types-x.result in
    let at = table-read (λ t. table_of t.now) types x c.args.operation.now.k declared c.requires.operation c.index-types-x.is in
    IfSome_then c.next.result c.next.ensures.inside (λ s below T there. subst (λ (U : Table). s < U.states) (same_Some (table_of declared.now) T (sym at ∙ there)) below)
