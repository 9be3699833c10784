-- Each turn takes at least one from those that a worker has left.
use Rattle.std.proofs.Common.{◌≡◌, ℕ, ◌+◌, ◌-◌, ◌*◌, ◌<◌, ◌≤◌, List, [], ◌∷◌, ◌++◌, length, drop, Option, Some, None, inl, inr, refl, sym, ap, subst, arith, length-append}
use Rattle.std.specs.Prelude.{slice_get}
use Rattle.std.proofs.lemmas.List.{drop_more}
use Rattle.std.proofs.lemmas.Nat.{mul-add-lt}
use Rattle.std.proofs.lemmas.Option.{slice_get_within}
use Rattle.object_trait.specs.Object.{Object}
use Rattle.object_trait.specs.declared.event.EventKind.{EventKind}
use Rattle.serial_order.specs.declared.refusal.Refusal.TheVariants.{NoMemory}
use Rattle.store_laws.specs.Stored.{Stored, objects}
use Rattle.jobs_text.specs.Jobs.{Call}
use Rattle.worker_turns.specs.Progress.{Progress, current_job, IsAtEnd, IsSoFar, IsTold}
use Rattle.worker_turns.specs.Turns.{goes_to, ends, breaks, CallsOrCommits, TurnsIn, turns_of, turns_in, turns_for, turns_left, TurnsAreCounted}
use Rattle.worker_turns.specs.declared.outcome.Outcome.{Outcome}
use Rattle.worker_turns.specs.declared.outcome.Outcome.TheVariants.{GaveUp, Refused}
use Rattle.worker_turns.specs.declared.outcome.Receipt.{Receipt}
use Rattle.worker_turns.specs.declared.phase.Phase.{Phase}
use Rattle.worker_turns.specs.declared.phase.Phase.TheVariants.{Idle, Going, Breaking, Refusing}

-- a try takes no more turns than its job allows
within-try : (o : List Object) (calls : List Call) (phase : Phase) (now : List EventKind) → IsSoFar o calls phase now → turns_in phase < turns_of calls
within-try o calls Idle now so_far = omega arith
within-try o calls (Going t done) now (replies, begun, is) = omega (arith, begun.within)
within-try o calls (Breaking t done) now (replies, begun, call, next, answer, no_reply, is) = omega (arith, slice_get_within calls done call next)
within-try o calls (Refusing t done r) now (replies, begun, call, next, refused, is) = omega (arith, slice_get_within calls done call next)

-- what is left falls, as long as there was some
falls : (all used more : ℕ) → used < all → used < more → all - more < all - used
falls all used more some less = omega arith

module _ (o : List Object) (p : Progress) (told : IsTold o p) (going : IsAtEnd p → ⊥) where
  -- the turns that it may take for one try, for the jobs after this one, and for all that are left
  abbrev each : ℕ
  each = turns_of (current_job p)

  abbrev behind : ℕ
  behind = turns_for p.tries (drop (length p.outcomes + 1) p.jobs)

  abbrev all : ℕ
  all = turns_for p.tries (drop (length p.outcomes) p.jobs)

  abbrev used : ℕ
  used = p.broken * each + turns_in p.phase

  -- a job is left
  some-left : length p.outcomes < length p.jobs
  some-left = omega (arith, told.within, going)

  split : all ≡ p.tries * each + behind
  split = ap (turns_for p.tries) (drop_more p.jobs (length p.outcomes) [] some-left)

  -- fewer were taken than it may have for its tries
  below : used < p.tries * each
  below = omega (arith, mul-add-lt p.broken each (turns_in p.phase) p.tries told.left (within-try o (current_job p) p.phase told.now told.so_far))

  some : behind < all - used
  some = omega (arith, below, split)

  -- its try goes on
  goes-counted : (phase : Phase) (receipts : List Receipt) → turns_in p.phase < turns_in phase
      → turns_left (goes_to phase (record p { receipts = receipts })) < turns_left p
  goes-counted phase receipts further =
      falls all used (p.broken * each + turns_in phase) (omega (arith, below, split)) (omega (arith, further))

  -- one more try was broken
  breaks-counted : (receipts : List Receipt) → turns_left (breaks (record p { receipts = receipts })) < turns_left p
  breaks-counted receipts =
      let further : turns_in p.phase < each = within-try o (current_job p) p.phase told.now told.so_far in
      falls all used ((p.broken + 1) * each + 0) (omega (arith, below, split)) (omega (arith, further))

  -- its job is done
  ends-counted : (outcome : Outcome) (receipts : List Receipt) → turns_left (ends outcome (record p { receipts = receipts })) < turns_left p
  ends-counted outcome receipts =
      let next : length (p.outcomes ++ outcome ∷ []) ≡ length p.outcomes + 1 = length-append p.outcomes (outcome ∷ []) in
      let least : turns_left (ends outcome (record p { receipts = receipts })) ≤ turns_for p.tries (drop (length (p.outcomes ++ outcome ∷ [])) p.jobs) = omega arith in
      omega (arith, least, ap (λ n. turns_for p.tries (drop n p.jobs)) next, some)

-- a turn of worker w
module _ (old : Stored) (w : ℕ) (p : Progress) (told : IsTold (objects old) p) (going : IsAtEnd p → ⊥) (new : Stored) (q : Progress) where
  -- what it makes of its worker is one of these
  fewer : (r : Progress) → q ≡ r → turns_left r < turns_left p → turns_left q < turns_left p
  fewer r is less = subst (λ z. turns_left z < turns_left p) (sym is) less

  ending : (outcome : Outcome) (receipts : List Receipt) → q ≡ ends outcome (record p { receipts = receipts }) → turns_left q < turns_left p
  ending outcome receipts is = fewer _ is (ends-counted (objects old) p told going outcome receipts)

  going-on : (phase : Phase) (receipts : List Receipt) → turns_in p.phase < turns_in phase → q ≡ goes_to phase (record p { receipts = receipts })
      → turns_left q < turns_left p
  going-on phase receipts further is = fewer _ is (goes-counted (objects old) p told going phase receipts further)

  breaking : (receipts : List Receipt) → q ≡ breaks (record p { receipts = receipts }) → turns_left q < turns_left p
  breaking receipts is = fewer _ is (breaks-counted (objects old) p told going receipts)

  counted-going : (t done : ℕ) (next : Option Call) → turns_in p.phase ≡ done + 1 → CallsOrCommits t done next old w p new q → turns_left q < turns_left p
  counted-going t done None at (makes, is) = ending _ _ is
  counted-going t done (Some call) at (inl (e, reply, makes, is)) = going-on (Going t (done + 1)) _ (omega (arith, at)) is
  counted-going t done (Some call) at (inr (inl (e, no_reply, makes, is))) = going-on (Breaking t done) _ (omega (arith, at)) is
  counted-going t done (Some call) at (inr (inr (inl (r, refuses, is)))) = going-on (Refusing t done r) p.receipts (omega (arith, at)) is
  counted-going t done (Some call) at (inr (inr (inr (makes, is)))) = ending _ _ is

  counted-in : (phase : Phase) → turns_in p.phase ≡ turns_in phase → TurnsIn phase old w p new q → turns_left q < turns_left p
  counted-in Idle at (inl (makes, is)) = going-on (Going _ 0) _ (omega (arith, at)) is
  counted-in Idle at (inr (inl (r, refuses, is))) = ending (Refused r) p.receipts is
  counted-in Idle at (inr (inr (same, is))) = ending (Refused NoMemory) p.receipts is
  counted-in (Going t done) at turns = counted-going t done (slice_get (current_job p) done) at turns
  counted-in (Breaking t done) at (makes, inl (others, is)) = breaking _ is
  counted-in (Breaking t done) at (makes, inr (last, is)) = ending GaveUp _ is
  counted-in (Refusing t done r) at (makes, is) = ending (Refused r) _ is

pub turns_are_counted : TurnsAreCounted
turns_are_counted = λ old w p new q told going turns. counted-in old w p told going new q p.phase refl turns
