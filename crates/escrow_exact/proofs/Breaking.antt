-- Where an operation that isn't safe is let in, ends follow that break.
use Rattle.std.proofs.Common.{◌≡◌, ℕ, false, nat_lt, List, [], ◌∷◌, ◌++◌, Some, refl, sym, ap, ◌∙◌, subst, inl, inr, arith}
use Rattle.std.proofs.lemmas.Bool.Decides.{nat_tests}
use Rattle.type_table.specs.Table.{Table}
use Rattle.type_table.specs.Run.{run, IsLegal}
use Rattle.type_table.specs.Laws.{RunsAlong}
use Rattle.type_table.proofs.Legal.{legal-behind}
use Rattle.escrow_laws.specs.Firm.{IsIdleFrom, with_op}
use Rattle.escrow_laws.specs.Laws.{FirmIsSafe}
use Rattle.escrow_laws.specs.Safe.{done_in_parts}
use Rattle.object_trait.specs.declared.event.Event.{Event}
use Rattle.object_trait.specs.declared.event.EventKind.TheVariants.{Op}
use Rattle.serial_order.specs.Operations.{ops}
use Rattle.serial_order.specs.History.{Summary, summary}
use Rattle.serial_order.specs.Serial.{serial_at}
use Rattle.escrow_exact.specs.Ends.{own_in, open_own}
use Rattle.escrow_exact.specs.Laws.{BreaksByEnds, UnsafeBreaks}
use Rattle.escrow_exact.proofs.Reaching.{reach_last}
use Rattle.escrow_exact.proofs.Stores.{same_order, own_more, safe-same}
use Rattle.escrow_exact.proofs.Searching.{IsBroken, safe_or_broken}

-- who didn't begin did nothing
idle-from : (x : ℕ) (s : Summary) → IsIdleFrom s.begun (own_in x s)
idle-from x s u far =
    let fresh : nat_lt u s.begun ≡ false = grind (arith, nat_tests, far) in
    rw fresh refl

-- what is broken is broken by ends
broken-ends : RunsAlong → (T : Table) (x : ℕ) (H : List Event) (base : ℕ) → run T (Some T.initial) (ops (serial_at x H)) ≡ Some base → IsBroken T base (open_own x H) → BreaksByEnds T x H
broken-ends along T x H base committed broken =
    let last = reach_last x H broken.parts broken.by broken.others in
    let w : List ℕ = done_in_parts (open_own x H) broken.parts ++ open_own x H broken.by in
    record {
      ends = last.events;
      are_ends = last.ends;
      illegal = λ legal.
          broken.illegal (legal-behind along T (Some T.initial) (ops (serial_at x H)) w base committed (subst (IsLegal T (Some T.initial)) last.order legal));
    }

pub unsafe_breaks : RunsAlong → FirmIsSafe → UnsafeBreaks
unsafe_breaks along safe = λ T a x H base w t k numeric open_now committed not_safe.
    let e : Event = record { worker = w; kind = Op k t x } in
    let G : List Event = H ++ e ∷ [] in
    let order : serial_at x G ≡ serial_at x H = same_order x H w t k open_now in
    elim (safe_or_broken along T a numeric base (summary G).begun (open_own x G) (idle-from x (summary G)) safe) [
      | inl is ↦ absurd (not_safe (safe-same T base (open_own x G) (with_op (open_own x H) t k) (λ u. sym (own_more x H w t k open_now u)) is))
      | inr broken ↦ broken-ends along T x G base (ap (λ V. run T (Some T.initial) (ops V)) order ∙ committed) broken
    ]
