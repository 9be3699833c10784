-- How many commits events are.
use Rattle.std.proofs.Common.{◌≡◌, ◌∙◌, ℕ, ◌+◌, ◌≤◌, List, [], ◌∷◌, ◌++◌, length, refl, ap, arith}
use Rattle.std.proofs.lemmas.List.{length-append}
use Rattle.std.proofs.lemmas.Grind.{flat_map-append}
use Rattle.object_trait.specs.declared.event.Event.{Event}
use Rattle.object_trait.specs.declared.event.EventKind.{EventKind}
use Rattle.object_trait.specs.declared.event.EventKind.TheVariants as kind
use Rattle.object_calls.specs.declared.answer.Answer.{Answer}
use Rattle.object_calls.specs.declared.answer.Answer.TheVariants.{Reply, Busy, None}
use Rattle.store_laws.specs.Words.{as_event}
use Rattle.serial_order.specs.History.{commits, committed_by}

-- of events one after another
pub commits-append : (H K : List Event) → length (commits (H ++ K)) ≡ length (commits H) + length (commits K)
commits-append H K = ap length (flat_map-append (λ (e : Event). committed_by e.kind) H K) ∙ length-append (commits H) (commits K)

one-at-most : (k : EventKind) → length (committed_by k) ≤ 1
one-at-most (kind.Begin t) = omega arith
one-at-most (kind.Op k t x) = omega arith
one-at-most (kind.Busy c t x u) = omega arith
one-at-most (kind.None t x c) = omega arith
one-at-most (kind.Commit t) = omega arith
one-at-most (kind.Abort t) = omega arith
one-at-most (kind.Rollback t n) = omega arith

-- no more than the events
pub commits-within : (H : List Event) → length (commits H) ≤ length H
commits-within [] = omega arith
commits-within (e ∷ H) = omega (arith, one-at-most e.kind, commits-within H, length-append (committed_by e.kind) (commits H))

-- one event more
pub counted-on : (H after : List Event) (e : Event) (n : ℕ) → after ≡ H ++ e ∷ [] → n ≡ length (commits H) → n + length (committed_by e.kind) ≡ length (commits after)
counted-on H after e n appended counted =
    omega (arith, counted, ap (λ K. length (commits K)) appended, commits-append H (e ∷ []), length-append (committed_by e.kind) [])

-- that is no commit
pub not-counted : (H after : List Event) (e : Event) (n : ℕ) → after ≡ H ++ e ∷ [] → n ≡ length (commits H) → committed_by e.kind ≡ [] → n ≡ length (commits after)
not-counted H after e n appended counted none = omega (arith, counted-on H after e n appended counted, ap length none)

-- the event of an answer is none
pub answers-commit-none : (t x c : ℕ) (a : Answer) → committed_by (as_event t x c a) ≡ []
answers-commit-none t x c (Reply k) = refl
answers-commit-none t x c (Busy u) = refl
answers-commit-none t x c None = refl
