use Rattle.std.proofs.Common.{◌≡◌, ◌∙◌, ◌<◌, ap, length, refl, sym, Some, arith}
use Rattle.std.proofs.lemmas.Bool.{false≢true}
use Rattle.std.proofs.lemmas.Option.{slice_get_read, slice_get_within}
use Rattle.std.proofs.lemmas.Slice.Eq.{bytes_eq-Decides}
use Rattle.type_table.proofs.Elements.{first-more}
use Rattle.durable_store.proofs.growth.place_of.Goals as goal

pub loop-place-init : goal.loop-place-init
loop-place-init c = λ i x low there. absurd (omega (arith, low))

pub returns-then-eq-clause-there : goal.returns-then-eq-clause-there
returns-then-eq-clause-there c =
    let texts = c.args.texts.now in
    let same = (bytes_eq-Decides c.as_bytes.result.now c.as_bytes-in-loop-place.result.now).0 (sym c.eq.ensures ∙ c.if-eq.true) in
    slice_get_read texts (length texts) c.loop-place.place c.index-texts-place.result refl c.loop-place-test.true c.index-texts-place.is
    ∙ ap Some (sym c.as_bytes.ensures ∙ same ∙ c.as_bytes-in-loop-place.ensures)

pub loop-place-preserved : goal.loop-place-preserved
loop-place-preserved c =
    let texts = c.args.texts.now in
    let there = slice_get_read texts (length texts) c.loop-place.place c.index-texts-place.result refl c.loop-place-test.true c.index-texts-place.is in
    let other = bytes_eq-Decides c.as_bytes.result.now c.as_bytes-in-loop-place.result.now in
    first-more (λ text. text ≡ c.args.text.now → ⊥) texts c.loop-place.place c.index-texts-place.result c.loop-place.invariant there
    (λ same. false≢true (sym c.if-eq.false ∙ c.eq.ensures ∙ other.1 (c.as_bytes.ensures ∙ same ∙ sym c.as_bytes-in-loop-place.ensures)))

pub returns-clause-none : goal.returns-clause-none
returns-clause-none c = λ k there.
    let low : k < length c.args.texts.now = slice_get_within c.args.texts.now k c.args.text.now there in
    c.loop-place.invariant k c.args.text.now (omega (arith, low, c.loop-place-test.false)) there refl
