-- One worker more, with the next list of jobs.
use Rattle.std.proofs.Common.{◌≡◌, [], ◌∷◌, ◌++◌, take, drop, refl, sym, ap, ◌∙◌, inl, inr, add-one, arith, vec_len}
use Rattle.std.proofs.lemmas.List.{map_push}
use Rattle.type_table.proofs.Elements.{cases-more}
use Rattle.jobs_text.specs.Jobs.{calls_in}
use Rattle.worker_turns.specs.Progress.{Progress}
use Rattle.workers.proofs.Lists.{next-behind, next-rest}
use Rattle.workers.proofs.team.workers_of.Goals as goal

pub loop-list-preserved : goal.loop-list-preserved
loop-list-preserved c =
    let kept = c.loop-list.invariant in
    let steps = c.in-Some.ensures.steps in
    let list = c.in-Some.list in
    let p = c.in_ok-new.field-0 in
    let n = vec_len c.loop-list.workers in
    let jobs = c.args.jobs.items in
    let coming = sym kept.coming ∙ steps.0 in
    let one = c.push_reserved.ensures.len in
    let behind : take (vec_len c.push_reserved.new.self) jobs ≡ take n jobs ++ list ∷ [] = ap (λ k. take k jobs) (one ∙ add-one n) ∙ next-behind jobs n list _ coming in
    record {
      coming = sym (ap (λ k. drop k jobs) (one ∙ add-one n) ∙ next-rest jobs n list _ coming);
      left = let left = kept.left in let fewer = steps.1 in omega (arith, left, fewer, one);
      jobs =
          rw (c.push_reserved.ensures.items, behind, map_push (λ (z : Progress). z.jobs) c.loop-list.workers.items p, map_push calls_in (take n jobs) list, kept.jobs, c.in_ok-new.ensures.jobs) refl;
      fresh = λ w q there.
          elim (cases-more c.loop-list.workers.items p w q (rw c.push_reserved.ensures.items at there)) [
            | inl before ↦ kept.fresh w q before
            | inr last ↦ rw (← last.1) (c.in_ok-new.ensures.fresh, c.in_ok-new.ensures.tries)
          ];
      room = let room = kept.room in rw c.push_reserved.ensures.capacity room;
    }
