-- No more operations survive than there are events.
use Rattle.std.proofs.Common.{ℕ, ◌+◌, ◌-◌, ◌≤◌, ◌==◌, List, [], ◌∷◌, length, fold, length-append, arith}
use Rattle.type_table.proofs.Elements.{filter-length}
use Rattle.object_trait.specs.declared.event.Event.{Event}
use Rattle.object_trait.specs.declared.event.EventKind.{EventKind}
use Rattle.object_trait.specs.declared.event.EventKind.TheVariants as kind
use Rattle.object_trait.proofs.Striking.{keep_first-length}
use Rattle.serial_order.specs.Operations.{is_by, of}
use Rattle.serial_order.specs.History.{survive_after, surviving}
use Rattle.serial_order.specs.Serial.{surviving_at}
use Rattle.serial_order.specs.declared.entry.Entry.{Entry}

-- an event adds one operation at most
pub after-length : (V : List Entry) (happened : EventKind) → length (survive_after V happened) ≤ length V + 1
after-length V (kind.Begin t) = omega arith
after-length V (kind.Op k t x) = omega (arith, length-append V ((record { by = t; at = x; op = k }) ∷ []))
after-length V (kind.Busy c t x u) = omega arith
after-length V (kind.None t x c) = omega arith
after-length V (kind.Commit t) = omega arith
after-length V (kind.Abort t) = let kept = keep_first-length (is_by t) 0 V in omega (arith, kept)
after-length V (kind.Rollback t n) = let kept = keep_first-length (is_by t) (length (of t V) - n) V in omega (arith, kept)

-- so no more survive than there are events
living-length : (V : List Entry) (H : List Event) → length (fold (λ W (e : Event). survive_after W e.kind) V H) ≤ length V + length H
living-length V [] = omega arith
living-length V (e ∷ H) =
    let rest = living-length (survive_after V e.kind) H in
    let one = after-length V e.kind in
    omega (arith, rest, one)

-- at one object neither
pub living_at-length : (x : ℕ) (H : List Event) → length (surviving_at x H) ≤ length H
living_at-length x H =
    let here = filter-length (λ (e : Entry). e.at == x) (surviving H) in
    let all = living-length [] H in
    omega (arith, here, all)

-- nor of one transaction
pub living_of-length : (t : ℕ) (H : List Event) → length (of t (surviving H)) ≤ length H
living_of-length t H =
    let own = filter-length (is_by t) (surviving H) in
    let all = living-length [] H in
    omega (arith, own, all)
