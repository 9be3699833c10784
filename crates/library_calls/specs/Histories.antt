-- The events of a store, in a room of the caller.
use Rattle.std.specs.Prelude.{◌≡◌, ℕ, ◌+◌, ◌-◌, ◌<◌, ◌≤◌, List, [], ◌∷◌, ◌++◌, length, min, take, ◌⊎◌, Option, Some, None, Result, Ok, Err, slice_get}
use Rattle.object_trait.specs.declared.event.Event.{Event}
use Rattle.store_laws.specs.Stored.{Stored}
use Rattle.store.specs.Follows.{IsMade, with_event}
use Rattle.library_calls.specs.Codes.{number}
use Rattle.library_calls.specs.EventWords.{event_at, event_words}
use Rattle.library_calls.specs.declared.code.Code.{Code}
use Rattle.library_calls.specs.declared.code.Code.TheVariants.{Done, Forgotten, NotMade, NoMemory}
use Rattle.library_calls.specs.declared.event_words.ColockEvent.{ColockEvent}

-- ---- events that are copied

-- a place of a room gets its event where there is one, and else has what it had
abbrev pub cell_after : Option ColockEvent → Option Event → Option ColockEvent
cell_after None e = None
cell_after (Some old) None = Some old
cell_after (Some old) (Some e) = Some (event_words e)

-- the room after the events from a place on were put into it
abbrev pub IsFilled : List Event → ℕ → List ColockEvent → List ColockEvent → Type 0
IsFilled H from old new = (i : ℕ) → slice_get new i ≡ cell_after (slice_get old i) (slice_get H (from + i))

-- the events from a place on are in the room, as far as there are any and it reaches, and how many they are is given; or those at this
-- place were forgotten
pub data IsCopied (s : Stored) (from : ℕ) (old : List ColockEvent) (n : ℕ) (new : List ColockEvent) (count : ℕ) : Type 0 where
  copied : n ≡ number Done → s.forgotten ≤ from → IsFilled s.history from old new → count ≡ min (length old) (length s.history - from)
      → IsCopied s from old n new count
  gone : n ≡ number Forgotten → from < s.forgotten → IsCopied s from old n new count

-- ---- events that are made again

-- by the events of these words, each of which is made after those before it, the store becomes another
pub data AreMadeOfWords (s : Stored) : List ColockEvent → Stored → Type 0 where
  none : AreMadeOfWords s [] s
  more : (ws : List ColockEvent) (now : Stored) (w : ColockEvent) (e : Event) → AreMadeOfWords s ws now → event_at w ≡ Some e → IsMade now e
      → AreMadeOfWords s (ws ++ w ∷ []) (with_event now e)

-- the event of the words is made, or none is, or memory was refused
abbrev pub MakesOne : Stored → ColockEvent → Result (Unit {0}) Code → Stored → Type 0
MakesOne old w (Ok done) new = (e : Event) × (event_at w ≡ Some e) × IsMade old e × (new ≡ with_event old e)
MakesOne old w (Err code) new = (new ≡ old) × (((code ≡ NotMade) × ((e : Event) → event_at w ≡ Some e → IsMade old e → ⊥)) ⊎ (code ≡ NoMemory))

-- the words at this place are of no event that is made after those before it
abbrev pub IsStray : Stored → List ColockEvent → ℕ → Type 0
IsStray s ws place = (w : ColockEvent) (e : Event) → slice_get ws place ≡ Some w → event_at w ≡ Some e → IsMade s e → ⊥

-- all are made; or the first of them, as many as is said, and the next isn't, or memory was refused
pub data IsFollowed (s : Stored) (ws : List ColockEvent) (n made : ℕ) (new : Stored) : Type 0 where
  all : n ≡ number Done → made ≡ length ws → AreMadeOfWords s ws new → IsFollowed s ws n made new
  strays : n ≡ number NotMade → made < length ws → AreMadeOfWords s (take made ws) new → IsStray new ws made → IsFollowed s ws n made new
  memory_refused : n ≡ number NoMemory → made < length ws → AreMadeOfWords s (take made ws) new → IsFollowed s ws n made new
