-- An object that isn't there has no operation.
use Rattle.std.proofs.Common.{◌≡◌, ℕ, ◌==◌, ◌-◌, Bool, true, false, List, [], ◌∷◌, ◌++◌, length, None, slice_get, append-nil, append_assoc, refl, sym, ap, ◌∙◌}
use Rattle.std.specs.List.{AllByRecursion}
use Rattle.std.proofs.lemmas.Bool.{eqb-true}
use Rattle.type_table.specs.Table.{Table}
use Rattle.type_table.proofs.Elements.{each-push}
use Rattle.object_trait.specs.declared.event.Event.{Event}
use Rattle.object_trait.specs.declared.event.EventKind.{EventKind}
use Rattle.object_trait.specs.declared.event.EventKind.TheVariants as kind
use Rattle.object_trait.specs.declared.event.EventKind.TheVariants.{Begin, Op, Busy, Commit, Abort, Rollback}
use Rattle.object_trait.proofs.Striking.{each-keep_first}
use Rattle.serial_order.specs.Operations.{at_object, is_by, of, ops, serial}
use Rattle.serial_order.specs.History.{Summary, commits, summary, surviving, survive_after, IsOperation, ContinuesHistory, AllContinue, IsHistory}
use Rattle.serial_order.specs.Serial.{serial_at}
use Rattle.serial_order.specs.declared.entry.Entry.{Entry}
use Rattle.serial_order.proofs.Events.{surviving-snoc}

-- an operation of another object
abbrev Elsewhere : ℕ → Entry → Type 0
Elsewhere x e = (e.at == x) ≡ false

-- the object of an operation is there
other : (tables : List Table) (x y k : ℕ) → slice_get tables x ≡ None → IsOperation (slice_get tables y) k → (b : Bool) → (y == x) ≡ b → b ≡ false
other tables x y k none is false same = refl
other tables x y k none is true same = absurd (rw (eqb-true y x same, none) at is)

-- what survives one more event
elsewhere-after : (tables : List Table) (x : ℕ) (s : Summary) (e : EventKind) → slice_get tables x ≡ None → ContinuesHistory tables s e
    → AllByRecursion (Elsewhere x) s.survives → AllByRecursion (Elsewhere x) (survive_after s.survives e)
elsewhere-after tables x s (Begin t) none may all = all
elsewhere-after tables x s (Op k t y) none may all = each-push (Elsewhere x) s.survives (record { by = t; at = y; op = k }) all (other tables x y k none may.1 (y == x) refl)
elsewhere-after tables x s (Busy c t y u) none may all = all
elsewhere-after tables x s (kind.None t y c) none may all = all
elsewhere-after tables x s (Commit t) none may all = all
elsewhere-after tables x s (Abort t) none may all = each-keep_first (Elsewhere x) (is_by t) 0 s.survives all
elsewhere-after tables x s (Rollback t n) none may all = each-keep_first (Elsewhere x) (is_by t) (length (of t s.survives) - n) s.survives all

-- and all of them
elsewhere : (tables : List Table) (x : ℕ) (before H : List Event) → slice_get tables x ≡ None → AllContinue tables before H
    → AllByRecursion (Elsewhere x) (surviving before) → AllByRecursion (Elsewhere x) (surviving (before ++ H))
elsewhere tables x before [] none goes all = rw (append-nil before) all
elsewhere tables x before (e ∷ H) none goes all =
    let next = rw (sym (surviving-snoc before e)) at (elsewhere-after tables x (summary before) e.kind none goes.0 all) in
    rw (append_assoc before (e ∷ []) H) at (elsewhere tables x (before ++ e ∷ []) H none goes.1 next)

none-at : (x : ℕ) (V : List Entry) → AllByRecursion (Elsewhere x) V → at_object x V ≡ []
none-at x [] all = refl
none-at x (e ∷ V) all = rw (all.0) (none-at x V all.1)

none-serial : (ts : List ℕ) → serial ts [] ≡ []
none-serial [] = refl
none-serial (t ∷ ts) = none-serial ts

-- so it has none in the serial order
pub not_there : (tables : List Table) (H : List Event) (x : ℕ) → IsHistory tables H → slice_get tables x ≡ None → ops (serial_at x H) ≡ []
not_there tables H x history none =
    ap (λ V. ops (serial (commits H) V)) (none-at x (surviving H) (elsewhere tables x [] H none history tt)) ∙ ap ops (none-serial (commits H))
