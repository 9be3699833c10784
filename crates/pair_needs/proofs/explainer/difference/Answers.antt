use Rattle.std.proofs.Common.{◌+◌, Bool, true, List, sym, subst, ◌∙◌, arith}
use Rattle.std.proofs.lemmas.Bool.{false≢true}
use Rattle.pair_needs.proofs.Outside.{IsPart, part-add, part-skip}
use Rattle.pair_needs.proofs.explainer.difference.Goals as goal
use Rattle.pair_needs.proofs.explainer.difference.Goals.{then-has+then-not-has, else-has, else-has-via-then-has+else-not-has, else-has-via-else-has}

pub loop-s-preserved : goal.loop-s-preserved
loop-s-preserved c =
    let first = c.args.first.now in
    let second = c.args.second.now in
    let s = c.loop-s.s in
    elim c.if-has.branch [
      | then-has+then-not-has w ↦
          subst (λ (some : Bool). IsPart first second (s + 1) c.if-has.set some) (sym w.some-is)
          (subst (λ (members : List Bool). IsPart first second (s + 1) members true) (sym (w.set-is ∙ w.add.ensures))
          (part-add first second s c.loop-s.set c.loop-s.some (omega (arith, c.loop-s-test.true, c.requires.first)) (sym c.has.ensures ∙ w.if-has.true) (sym w.has-then-has.ensures ∙ w.if-not-has.true)
          c.loop-s.invariant))
      | else-has w ↦
          subst (λ (some : Bool). IsPart first second (s + 1) c.if-has.set some) (sym w.some-is)
          (subst (λ (members : List Bool). IsPart first second (s + 1) members c.loop-s.some) (sym w.set-is)
          (part-skip first second s c.loop-s.set c.loop-s.some
          (λ member. elim w.else-has.branch [
            | else-has-via-then-has+else-not-has v ↦ sym v.has-then-has.ensures ∙ v.if-not-has.false
            | else-has-via-else-has v ↦ absurd (false≢true (sym (sym c.has.ensures ∙ v.if-has.false) ∙ member))
          ])
          c.loop-s.invariant))
    ]
