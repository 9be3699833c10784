-- Events one after another.
use Rattle.std.proofs.Common.{◌≡◌, ℕ, List, [], ◌∷◌, ◌++◌, length, map, refl, sym, ap, ◌∙◌, append_assoc, arith}
use Rattle.std.proofs.lemmas.List.{map-append}
use Rattle.object_trait.specs.declared.event.Event.{Event}
use Rattle.object_trait.specs.declared.event.EventKind.{EventKind}
use Rattle.object_trait.specs.declared.event.EventKind.TheVariants.{Op}
use Rattle.store_laws.specs.Stored.{Stored}
use Rattle.attempts.specs.Commands.{CallAt, with_kinds}
use Rattle.attempts.specs.Answers.{operation_events}

-- a worker's event
abbrev event_by : ℕ → EventKind → Event
event_by w kind = record { worker = w; kind = kind }

-- events after others
pub events-more : (s mid now : Stored) (w : ℕ) (a b : List EventKind) → mid ≡ with_kinds s w a → now ≡ with_kinds mid w b → now ≡ with_kinds s w (a ++ b)
events-more s mid now w a b before behind =
    behind ∙ ap (λ (m : Stored). with_kinds m w b) before
    ∙ ap (λ H. record s { history = H })
    (append_assoc s.history (map (event_by w) a) (map (event_by w) b) ∙ ap (λ es. s.history ++ es) (sym (map-append (event_by w) a b)))

-- operations after others
pub operations-more : (t : ℕ) (a b : List CallAt) (ks js : List ℕ) → length ks ≡ length a → operation_events t (a ++ b) (ks ++ js) ≡ operation_events t a ks ++ operation_events t b js
operations-more t [] b [] js same = refl
operations-more t [] b (k ∷ ks) js same = absurd (omega (arith, same))
operations-more t (c ∷ a) b [] js same = absurd (omega (arith, same))
operations-more t (c ∷ a) b (k ∷ ks) js same = ap (λ l. Op k t (c.0) ∷ l) (operations-more t a b ks js (omega (arith, same)))
