use Rattle.std.proofs.Common.{◌≡◌, ◌∙◌, ap, length, map, subst, sym}
use Rattle.std.proofs.lemmas.List.{length-map}
use Rattle.object_types.specs.Types.{AreTypesOf, value_of}
use Rattle.journal.specs.Said.{contents}
use Rattle.durable_store.specs.Begun.{HaveOneType, BeginAt, AreRead}
use Rattle.durable_store.proofs.Begun.{alike, are-types}
use Rattle.durable_store.proofs.begun_types.file_types.Goals as goal

pub types_at-requires-clause-alike : goal.types_at-requires-clause-alike
types_at-requires-clause-alike c =
    subst (λ ts. HaveOneType c.deref-lines.result.now (map value_of ts)) (sym c.deref-3.ensures.value)
    (alike c.deref-2.result.now c.deref-lines.result.now (map value_of c.in_ok-types.types.items) c.in_ok-types.ensures.accepted)

pub returns-clause-types : goal.returns-clause-types
returns-clause-types c =
    let said = contents c.args.said.now in
    let declared = c.in_ok-declared.declared.items in
    let types = map value_of c.in_ok-types.types.items in
    let begun = map value_of c.in_ok-begun.begun.items in
    let lines : c.deref-lines.result.now ≡ said.objects = c.deref-lines.ensures.value in
    let states : c.deref-4.result.now ≡ said.states = c.deref-4.ensures.value in
    let read : AreRead said.types declared = subst (λ ts. AreRead ts declared) c.deref.ensures.value c.in_ok-declared.ensures.read in
    let of : AreTypesOf declared said.objects types =
    subst (λ ls. AreTypesOf declared ls types) lines (subst (λ fs. AreTypesOf fs c.deref-lines.result.now types) c.deref-2.ensures.value c.in_ok-types.ensures.accepted) in
    let at : BeginAt types said.states begun =
    subst (λ ss. BeginAt types ss begun) states (subst (λ ts. BeginAt (map value_of ts) c.deref-4.result.now begun) c.deref-3.ensures.value c.in_ok-begun.ensures.at) in
    let as-many : length said.states ≡ length said.objects = sym (ap length states) ∙ c.in_ok-begun.ensures.states ∙ ap length lines in
    let long : length begun ≡ length said.objects = length-map c.in_ok-begun.begun.items value_of ∙ c.in_ok-begun.ensures.as_many ∙ ap length lines in
    are-types said declared types begun read of as-many long at
