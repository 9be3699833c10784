-- A turn takes one from those that are left, or its worker out of the list.
use Rattle.std.proofs.Common.{◌≡◌, ℕ, ◌%◌, ◌<◌, ◌==◌, false, List, length, sym, ◌∙◌, subst, vec_len, arith}
use Rattle.std.proofs.lemmas.Bool.{eqb-false, eqb-true}
use Rattle.std.proofs.lemmas.List.{nil_from_length}
use Rattle.workers.specs.SharedCalls.{AreGoing, TakesTurnIfAny}
use Rattle.workers.proofs.Doings.{steps-leave, steps-no_more, turn-fewer, going-none, going-after, going-without}
use Rattle.workers.proofs.drawn.draw_turns.Goals as goal

-- what is left of a division by the length of a list that isn't empty is a position of it
position-inside : (xs : List ℕ) (position word n len : ℕ) → position ≡ word % n → n ≡ len → (len == 0) ≡ false → len ≡ length xs → position < length xs
position-inside xs position word n len is same some size = let more = eqb-false len 0 some in omega (arith, is, same, more, size)

pub loop-words-smaller-then-step : goal.loop-words-smaller-then-step
loop-words-smaller-then-step g c =
    let no_more = steps-no_more c.loop-words.shared c.index.result.now c.step.result c.step.new.self c.step.ensures in
    let one = c.remove.ensures.len in
    omega (arith, no_more, one)

pub loop-words-preserved-then-step : goal.loop-words-preserved-then-step
loop-words-preserved-then-step g c =
    let kept = c.loop-words.invariant in
    let w = c.index.result.now in
    let drawn = c.loop-words.going in
    let low = position-inside drawn.items c.pick-position.result _ _ (vec_len drawn) c.pick-position.ensures.word c.len.ensures (sym c.is_empty.ensures ∙ c.loop-words-test.true) drawn.ok.0 in
    let leaves = steps-leave c.loop-words.shared w c.step.result c.step.new.self c.step.ensures in
    record {
      going =
          rw c.remove.ensures.items
          (going-without c.loop-words.shared w c.step.new.self drawn.items c.pick-position.result
          (subst (λ b. TakesTurnIfAny c.loop-words.shared w b c.step.new.self) c.if-step.true c.step.ensures) low c.index.ensures kept.going);
      few = let one = c.remove.ensures.len in omega (arith, one, kept.few);
      let_in = leaves.let_in ∙ kept.let_in;
    }

pub loop-words-smaller : goal.loop-words-smaller
loop-words-smaller g c =
    let stepped = c.step.ensures in
    let turn = stepped.going c.if-step.false in
    let fewer = turn-fewer c.loop-words.shared c.index.result.now c.step.new.self turn (stepped.fewer turn) in
    omega (arith, fewer)

pub loop-words-preserved : goal.loop-words-preserved
loop-words-preserved g c =
    let kept = c.loop-words.invariant in
    let w = c.index.result.now in
    let drawn = c.loop-words.going in
    let low = position-inside drawn.items c.pick-position.result _ _ (vec_len drawn) c.pick-position.ensures.word c.len.ensures (sym c.is_empty.ensures ∙ c.loop-words-test.true) drawn.ok.0 in
    let leaves = steps-leave c.loop-words.shared w c.step.result c.step.new.self c.step.ensures in
    record {
      going =
          going-after c.loop-words.shared w c.step.new.self drawn.items
          (subst (λ b. TakesTurnIfAny c.loop-words.shared w b c.step.new.self) c.if-step.false c.step.ensures) (c.pick-position.result, low, sym c.index.ensures) kept.going;
      few = kept.few;
      let_in = leaves.let_in ∙ kept.let_in;
    }

pub returns-clause-ended : goal.returns-clause-ended
returns-clause-ended g c =
    let kept = c.loop-words.invariant in
    let drawn = c.loop-words.going in
    let none : length drawn.items ≡ 0 = let empty = eqb-true _ 0 (sym c.is_empty.ensures ∙ c.loop-words-test.false) in omega (arith, empty, drawn.ok.0) in
    going-none c.loop-words.shared (subst (AreGoing c.loop-words.shared) (nil_from_length drawn.items none) kept.going)
