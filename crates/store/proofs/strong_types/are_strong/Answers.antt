use Rattle.std.proofs.Common.{map, refl, sym, ◌∙◌, arith}
use Rattle.std.proofs.lemmas.Bool.{false≢true}
use Rattle.std.proofs.lemmas.List.{length-map}
use Rattle.std.proofs.lemmas.Option.{slice_get_within}
use Rattle.type_table.proofs.Elements.{element_at}
use Rattle.object_trait.specs.Meaning.{Meaning}
use Rattle.store_laws.specs.Stored.{types_of}
use Rattle.store.proofs.strong_types.are_strong.Goals as goal

pub returns-then-not-is_strong_at : goal.returns-then-not-is_strong_at
returns-then-not-is_strong_at g c =
    let ms = map g.R.Recovery.meaning c.args.objects.now in
    let its = element_at (types_of ms) c.loop-x.x
    (omega (arith, length-map c.args.objects.now g.R.Recovery.meaning, length-map ms (λ (m : Meaning). m.checked), c.loop-x-test.true, c.loop-x.auto.x-end)) in
    (λ f. absurd (false≢true f), λ all. sym c.if-not-is_strong_at.true ∙ (c.is_strong_at.ensures its.0 its.1).1 (all c.loop-x.x its.0 its.1))

pub returns : goal.returns
returns g c =
    let ms = map g.R.Recovery.meaning c.args.objects.now in (
      λ yes x d there.
          let low = slice_get_within (types_of ms) x d there in
          c.loop-x.invariant x d
          (omega (arith, low, length-map c.args.objects.now g.R.Recovery.meaning, length-map ms (λ (m : Meaning). m.checked), c.loop-x-test.false, c.loop-x.auto.x-end)) there,
      λ all. refl,
    )
