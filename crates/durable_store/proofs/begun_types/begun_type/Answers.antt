use Rattle.std.proofs.Common.{◌∙◌, length, map, refl, arith}
use Rattle.std.proofs.lemmas.List.{length-map}
use Rattle.std.proofs.lemmas.Option.{slice_get-get_or, slice_get_read}
use Rattle.std.proofs.lemmas.Result.{IfOk-weaker}
use Rattle.object_types.specs.Types.{value_of}
use Rattle.durable_store.proofs.Begun.{fresh-at, shared-at}
use Rattle.durable_store.proofs.begun_types.begun_type.Goals as goal

pub returns-in_ok-clone-in-Some-clause-at : goal.returns-in_ok-clone-in-Some-clause-at
returns-in_ok-clone-in-Some-clause-at c =
    let lines = c.args.lines.now in
    let o = c.index-lines-x.result in
    shared-at (map value_of c.args.types.now) lines c.args.states.now c.args.begun.now.items c.args.x c.in-Some.other o _ c.index.result.now c.in_ok-clone-in-Some.field-0
    (length-map c.args.types.now value_of ∙ c.requires.types) c.requires.before c.requires.inside c.requires.alike c.requires.known
    (slice_get_read lines (length lines) c.args.x o refl c.requires.inside c.index-lines-x.is) (slice_get-get_or c.args.states.now c.args.x _ (omega (arith, c.requires.inside, c.requires.states)))
    c.in-Some.ensures.0 c.in-Some.ensures.1 c.index.ensures c.in_ok-clone-in-Some.ensures.cases

pub returns-in-None-clause-at : goal.returns-in-None-clause-at
returns-in-None-clause-at c =
    IfOk-weaker c.type_at.result _ _
    (λ at given.
    fresh-at c.args.types.now c.args.states.now c.args.x c.index-types-x.result c.deref.result.now _ (value_of at) (omega (arith, c.requires.inside, c.requires.types))
    c.index-types-x.is c.deref.ensures (slice_get-get_or c.args.states.now c.args.x _ (omega (arith, c.requires.inside, c.requires.states))) given)
    c.type_at.ensures.at
