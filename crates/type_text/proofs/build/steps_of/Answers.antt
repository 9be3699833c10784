use Rattle.std.proofs.Common.{◌≡◌, ℕ, List, ◌++◌, ◌*◌, length, take, drop, Option, None, replicate, rules, arith}
use Rattle.type_text.proofs.Steps.{none_at}
use Rattle.std.proofs.lemmas.Nat.{mul-add-lt}
use Rattle.std.proofs.Math.Seq.{take-append_seam}
use Rattle.type_text.proofs.build.steps_of.Goals as goal

-- a slice of a whole list that was written is the list
written : (len : ℕ) (new items : List (Option ℕ)) → length new ≡ len → take len (new ++ drop (length new) items) ≡ new
written len new items e = rw (← e) (take-append_seam new (drop (length new) items))

pub returns-clause-exact : goal.returns-clause-exact
returns-clause-exact c =
    rw (written c.in_ok-steps.steps.len c.put_steps.new.steps c.in_ok-steps.steps.items (omega (arith, c.put_steps.auto.steps, c.deref_mut.ensures.len))) c.put_steps.ensures

pub put_steps-requires-clause-inside : goal.put_steps-requires-clause-inside
put_steps-requires-clause-inside c = λ s k t h.
    let inside = c.requires.inside s k t h in
    let long : length c.deref_mut.result.now ≡ c.args.states * c.args.ops = omega (arith, c.deref_mut.ensures.len, c.in_ok-steps.ensures.len) in
    (omega (arith, inside.0, c.requires.fit), inside.1, omega (arith, inside.2, c.requires.fit), omega (arith, long, mul-add-lt s c.args.ops k c.args.states inside.0 inside.1))

pub put_steps-requires-clause-empty : goal.put_steps-requires-clause-empty
put_steps-requires-clause-empty c =
    let none : c.deref_mut.result.now ≡ replicate (c.args.states * c.args.ops) None = search rules in
    λ i. rw none (none_at (c.args.states * c.args.ops) i)
