use Rattle.std.proofs.Common.{◌≡◌, ℕ, ◌+◌, true, List, length, sym, subst, ◌∙◌, arith}
use Rattle.std.specs.Prelude.{Vec}
use Rattle.std.specs.declared.alloc.Global.{Global}
use Rattle.std.proofs.lemmas.Bool.{and_from, and_left, and_right, not_from_false, not_from_true}
use Rattle.equi_cert.specs.Relation.{relates}
use Rattle.pair_needs.specs.LedPairs.{AreListed, is_lacking}
use Rattle.pair_needs.proofs.Gathered.{listed-add, listed-skip, listed-row}
use Rattle.pair_needs.proofs.mends.list_row.Goals as goal
use Rattle.pair_needs.proofs.mends.list_row.Goals.{then-has+then-not-has+in_ok-push, else-has, else-has-via-then-has+else-not-has, else-has-via-else-has}

pub loop-b-preserved : goal.loop-b-preserved
loop-b-preserved c =
    let test = is_lacking c.args.led.now.seen c.args.relation.now in
    let states = length c.args.relation.now in
    let a = c.args.a in
    let b = c.loop-b.b in
    elim c.if-has.branch [
      | then-has+then-not-has+in_ok-push w ↦
          let led = sym c.has.ensures ∙ w.if-has.true in
          let absent = sym w.has-then-has.ensures ∙ w.if-not-has.true in
          let passes : test a b ≡ true = and_from (relates c.args.led.now.seen a b) _ led (not_from_false (relates c.args.relation.now a b) absent) in
          subst (λ (v : Vec (ℕ × ℕ) Global). AreListed test states a (b + 1) v.items) (sym w.lacking-is)
          (subst (λ (V : List (ℕ × ℕ)). AreListed test states a (b + 1) V) (sym w.in_ok-push.ensures.items)
          (listed-add test states a b c.loop-b.lacking.items c.requires.state (omega (arith, c.loop-b-test.true, c.states-b-end.ensures.exact)) passes c.loop-b.invariant))
      | else-has w ↦
          subst (λ (v : Vec (ℕ × ℕ) Global). AreListed test states a (b + 1) v.items) (sym w.lacking-is)
          (listed-skip test states a b c.loop-b.lacking.items
          (elim w.else-has.branch [
            | else-has-via-then-has+else-not-has v ↦ and_right (relates c.args.led.now.seen a b) _ (not_from_true (relates c.args.relation.now a b) (sym v.has-then-has.ensures ∙ v.if-not-has.false))
            | else-has-via-else-has v ↦ and_left (relates c.args.led.now.seen a b) _ (sym c.has.ensures ∙ v.if-has.false)
          ])
          c.loop-b.invariant)
    ]

pub returns : goal.returns
returns c =
    listed-row (is_lacking c.args.led.now.seen c.args.relation.now) (length c.args.relation.now) c.args.a c.loop-b.b c.loop-b.lacking.items
    (omega (arith, c.loop-b-test.false, c.states-b-end.ensures.exact)) c.loop-b.invariant
