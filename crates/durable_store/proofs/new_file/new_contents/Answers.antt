use Rattle.std.proofs.Common.{◌≡◌, ◌∙◌, [], ◌∷◌, ap, length, map, refl, subst, sym}
use Rattle.std.proofs.lemmas.List.{length-map}
use Rattle.object_types.specs.Types.{AreTypesOf, value_of}
use Rattle.journal.specs.Contents.{Contents}
use Rattle.journal.specs.Outcomes.{no_outcomes}
use Rattle.durable_store.specs.Begun.{BeginAt, AreRead}
use Rattle.durable_store.specs.Created.{first_header}
use Rattle.durable_store.specs.Epochs.{firsts}
use Rattle.durable_store.proofs.Begun.{are-types}
use Rattle.object_types.proofs.CheckedTypes.{types_checked}
use Rattle.durable_store.proofs.New.{at-own, first-of}
use Rattle.durable_store.proofs.new_file.new_contents.Goals as goal

pub returns : goal.returns
returns c =
    let texts = c.args.texts.items in
    let lines = c.args.lines.items in
    let declared = c.in_ok-declared.declared.items in
    let types = map value_of c.in_ok-types.types.items in
    let states = c.in_ok-states.states.items in
    let read : AreRead texts declared = subst (λ ts. AreRead ts declared) c.deref.ensures.value c.in_ok-declared.ensures.read in
    let of : AreTypesOf declared lines types =
    subst (λ ls. AreTypesOf declared ls types) c.deref-3.ensures.value (subst (λ fs. AreTypesOf fs c.deref-3.result.now types) c.deref-2.ensures.value c.in_ok-types.ensures.accepted) in
    let are : states ≡ firsts types = c.in_ok-states.ensures ∙ ap (λ ts. firsts (map value_of ts)) c.deref-4.ensures.value in
    let at : BeginAt types states types = subst (λ ss. BeginAt types ss types) (sym are) (at-own types (types_checked declared lines types of)) in
    let as-many : length states ≡ length lines = ap length are ∙ length-map types first-of ∙ of.as_many in
    let said : Contents = record { events = c.new.result.items; headers = first_header c.args.id ∷ []; types = texts; objects = lines; states = states; prepared = c.new-2.result.items; outcomes = no_outcomes } in
    record {
      headers = refl;
      texts = refl;
      objects = refl;
      none = c.new.ensures.items;
      unprepared = c.new-2.ensures.items;
      keyless = λ n. refl;
      types = types;
      are = are-types said declared types types read of as-many of.as_many at;
      states = are;
    }
