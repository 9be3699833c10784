-- Events that aren't forgotten.
use Rattle.std.proofs.Common.{◌≡◌, ◌≤◌, List, length, ap, sym, subst}
use Rattle.object_trait.specs.declared.event.Event.{Event}
use Rattle.store_laws.specs.Stored.{Stored}

-- a command forgets none: what was forgotten before it are events before its own
pub still-within : (s new : Stored) (H : List Event) → s.forgotten ≤ length s.history → new ≡ record s { history = H } → new.forgotten ≤ length s.history
still-within s new H within made = subst (λ n. n ≤ length s.history) (sym (ap (λ (z : Stored). z.forgotten) made)) within
