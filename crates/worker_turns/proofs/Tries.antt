-- The tries of a job, and the parts of jobs: one more.
use Rattle.std.proofs.Common.{ℕ, ◌+◌, ◌<◌, List, [], ◌∷◌, ◌++◌, length, refl, sym, ap, ◌∙◌, arith, add-one, append_assoc}
use Rattle.std.specs.Prelude.{slice_index_or}
use Rattle.std.proofs.lemmas.List.{append-nil}
use Rattle.object_trait.specs.Object.{Object}
use Rattle.object_trait.specs.declared.event.EventKind.{EventKind}
use Rattle.jobs_text.specs.Jobs.{Call}
use Rattle.worker_turns.specs.Parts.{AreBroken, IsBrokenTry, IsPart, AreParts}
use Rattle.worker_turns.specs.declared.outcome.Outcome.{Outcome}

-- one more broken try
pub broken-more : (objects : List Object) (calls : List Call) (count : ℕ) (before last : List EventKind)
    → AreBroken objects calls count before → IsBrokenTry objects calls last → AreBroken objects calls (count + 1) (before ++ last)
broken-more objects calls count before last broken one = rw (add-one count) (before, last, refl, broken, one)

-- the part of one more job
pub parts-more : (objects : List Object) (tries : ℕ) (jobs : List (List Call)) (outcomes : List Outcome) (o : Outcome) (ended part : List EventKind)
    → length outcomes < length jobs → AreParts objects tries jobs outcomes ended → IsPart objects tries (slice_index_or jobs (length outcomes) []) o part
    → AreParts objects tries jobs (outcomes ++ o ∷ []) (ended ++ part)
parts-more objects tries [] outcomes o ended part some parts last = absurd (omega (arith, some))
parts-more objects tries (job ∷ jobs) [] o ended part some parts last =
    (part, [], ap (λ es. es ++ part) parts ∙ sym (append-nil part), last, refl)
parts-more objects tries (job ∷ jobs) (first ∷ outcomes) o ended part some parts last =
    let (its, rest, is, is_part, others) = parts in (
      its,
      rest ++ part,
      ap (λ es. es ++ part) is ∙ append_assoc its rest part,
      is_part,
      parts-more objects tries jobs outcomes o rest part (omega (arith, some)) others last,
    )
