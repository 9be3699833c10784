use Rattle.std.proofs.Common.{◌≡◌, ◌+◌, length, Some, arith, refl, subst, sym}
use Rattle.std.specs.Prelude.{slice_get}
use Rattle.std.proofs.lemmas.List.Elements.{All-set}
use Rattle.script_text.specs.Fronts.{FindsName}
use Rattle.script_text.proofs.FrontWords.{FindsName-front}
use Rattle.script_text.proofs.names.Names.note.Goals as goal
use Rattle.script_text.proofs.names.Names.note.Goals.{then-bytes-le-MOST_IN_FRONT, else-bytes-le-MOST_IN_FRONT}

pub invariant_of-self : goal.invariant_of-self
invariant_of-self c =
    let names = c.self.inside.names.items in
    let bytes = c.args.bytes.now in
    let its = c.in-Some-place_of in
    let there : slice_get names its.position ≡ Some bytes = rw c.self.view_is its.ensures.there in
    let finds : FindsName names c.if-bytes-le-MOST_IN_FRONT.front = elim c.if-bytes-le-MOST_IN_FRONT.branch [
      | then-bytes-le-MOST_IN_FRONT w ↦
          subst (FindsName names) (sym w.front-is)
          (FindsName-front names c.args.text.now bytes c.requires.behind c.in-Some.words its.position (length bytes + 1) w.of-front.result
          c.in-Some.ensures c.requires.is refl (omega (arith, w.if-bytes-le-MOST_IN_FRONT.true)) there its.ensures.name w.of-front.ensures)
      | else-bytes-le-MOST_IN_FRONT w ↦ subst (FindsName names) (sym w.front-is) (w.nowhere-front.ensures names)
    ] in
    All-set (FindsName names) c.self.inside.fronts c.from.result c.if-bytes-le-MOST_IN_FRONT.front finds c.self.invariant
