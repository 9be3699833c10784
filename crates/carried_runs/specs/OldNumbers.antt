-- What an epoch does after what was carried, by the numbers of the epoch before it.
use Rattle.std.specs.Prelude.{ℕ, suc, ◌+◌, zero, List, [], ◌∷◌, map}
use Rattle.std.specs.List.{flat_map}
use Rattle.object_trait.specs.declared.event.Event.{Event}
use Rattle.object_trait.specs.declared.event.EventKind.{EventKind}
use Rattle.object_trait.specs.declared.event.EventKind.TheVariants as kind
use Rattle.object_trait.specs.declared.event.EventKind.TheVariants.{Begin, Op, Busy, Commit, Abort, Rollback}

-- whose new number j is: a carried transaction, or one of those from n on
abbrev pub owner_of : List ℕ → ℕ → ℕ → ℕ
owner_of [] n j = n + j
owner_of (u ∷ P) n zero = u
owner_of (u ∷ P) n (suc j) = owner_of P n j

-- an event, by other numbers. An answer without a reply changes nothing, and is left out
abbrev pub named_kind : (ℕ → ℕ) → EventKind → List EventKind
named_kind g (Begin t) = Begin (g t) ∷ []
named_kind g (Op k t x) = Op k (g t) x ∷ []
named_kind g (Busy c t x u) = []
named_kind g (kind.None t x c) = []
named_kind g (Commit t) = Commit (g t) ∷ []
named_kind g (Abort t) = Abort (g t) ∷ []
named_kind g (Rollback t n) = Rollback (g t) n ∷ []

abbrev pub named_event : (ℕ → ℕ) → Event → List Event
named_event g e = map (λ k. record { worker = e.worker; kind = k }) (named_kind g e.kind)

abbrev pub named_events : (ℕ → ℕ) → List Event → List Event
named_events g K = flat_map (named_event g) K
