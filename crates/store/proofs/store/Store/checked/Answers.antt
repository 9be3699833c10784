use Rattle.std.proofs.Common.{◌≡◌, ◌<◌, map, length, Some, slice_get, sym, ap, subst, ◌∙◌, arith}
use Rattle.std.proofs.lemmas.Bool.Decides.{nat_tests}
use Rattle.std.proofs.lemmas.Option.{slice_get-map}
use Rattle.std.specs.Option.{option_map}
use Rattle.object_trait.specs.Meaning.{Meaning}
use Rattle.store_laws.specs.Stored.{Stored}
use Rattle.store.proofs.Beginnings.{image-in}
use Rattle.store.proofs.store.Store.checked.Goals as goal

pub returns-clause-checked : goal.returns-clause-checked
returns-clause-checked g c =
    let inside = c.self.inside in
    let meaning = g.R.Recovery.meaning in
    let object = c.in_ok-object.object.now in
    let lookup = c.in_ok-object.ensures.lookup in
    let low : c.args.x < length c.deref.result.now = grind (arith, nat_tests, lookup.0) in
    let there = image-in meaning inside.objects.items c.deref.result.now c.args.x object c.deref.ensures.value low lookup.1 in
    subst (λ (s : Stored). slice_get s.types c.args.x ≡ Some (c.checked.result.now)) c.self.view_is
    (slice_get-map (λ (m : Meaning). m.checked) (map meaning inside.objects.items) c.args.x ∙ ap (option_map (λ (m : Meaning). m.checked)) there ∙ ap Some (sym c.checked.ensures))
