-- A store follows a list of events.
use Rattle.std.specs.Prelude.{◌≡◌, ◌<◌, List, [], ◌∷◌, ◌++◌, length, take, Some, slice_get, Result, Ok, Err}
use Rattle.object_trait.specs.declared.event.Event.{Event}
use Rattle.store_laws.specs.Stored.{Stored}
use Rattle.store.specs.Follows.{IsMade, with_event}
use Rattle.store.specs.declared.event_replay.ReplayFault.{ReplayFault}
use Rattle.store.specs.declared.event_replay.Stray.TheVariants.{NotMade}

-- with these events
abbrev pub with_events : Stored → List Event → Stored
with_events s es = record s { history = s.history ++ es }

-- each is made after those before it
abbrev pub AreMade : Stored → List Event → Type 0
AreMade s [] = Unit {0}
AreMade s (e ∷ es) = IsMade s e × AreMade (with_event s e) es

-- the first event that isn't made, or at which memory was refused
pub record StopsReplay (old : Stored) (es : List Event) (f : ReplayFault) (new : Stored) : Type 0 where
  pub inside : f.at < length es
  pub before : AreMade old (take f.at es)
  pub new_is : new ≡ with_events old (take f.at es)
  pub strays : (e : Event) → slice_get es f.at ≡ Some e → f.why ≡ NotMade → IsMade new e → ⊥

abbrev pub Replays : Stored → List Event → Result (Unit {0}) ReplayFault → Stored → Type 0
Replays old es (Ok x) new = AreMade old es × (new ≡ with_events old es)
Replays old es (Err f) new = StopsReplay old es f new
