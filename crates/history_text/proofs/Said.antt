-- What the lines of a canonical text say.
use Rattle.std.proofs.Common.{◌≡◌, ℕ, List, [], ◌∷◌, ◌++◌, map, Option, Some, None, refl, ap, ◌∙◌}
use Rattle.type_table.specs.Operation.{operation_at, place_of, amount_of, operation-again}
use Rattle.object_trait.specs.declared.event.Event.{Event}
use Rattle.object_trait.specs.declared.event.EventKind.{EventKind}
use Rattle.object_trait.specs.declared.event.EventKind.TheVariants as kind
use Rattle.std.specs.Option.{option_to_list}
use Rattle.store_text.specs.Kept.{size_lines}
use Rattle.store_text.specs.Said.{said_sizes, said_objects, entries_of}
use Rattle.store_text.specs.declared.line.Line.TheVariants.{End}
use Rattle.store_text.specs.declared.line.ObjectLine.{ObjectLine}
use Rattle.history_text.specs.Events.{event_in_line, event_line_at, op_event_line}
use Rattle.history_text.specs.Canonical.{object_line, event_line, canonical_lines, canonical_size}

-- the lines of events say no object
no_object : (happened : List Event) → said_objects (map event_line happened ++ End ∷ []) ≡ []
no_object [] = refl
no_object (e ∷ happened) = no_object happened

objects_again : (objects : List ObjectLine) (happened : List Event) → said_objects (map object_line objects ++ (map event_line happened ++ End ∷ [])) ≡ objects
objects_again [] happened = no_object happened
objects_again (o ∷ objects) happened = ap (λ rest. o ∷ rest) (objects_again objects happened)

-- the lines of a history say its objects
pub objects_said : (objects : List ObjectLine) (happened : List Event) → said_objects (canonical_lines objects happened) ≡ objects
objects_said objects happened = go (canonical_size objects)
  where
    go : (size : Option ℕ) → said_objects (size_lines size ++ (map object_line objects ++ (map event_line happened ++ End ∷ []))) ≡ objects
    go None = objects_again objects happened
    go (Some n) = objects_again objects happened

-- no other line says a size
no_size : (happened : List Event) → said_sizes (map event_line happened ++ End ∷ []) ≡ []
no_size [] = refl
no_size (e ∷ happened) = no_size happened

no_size_again : (objects : List ObjectLine) (happened : List Event) → said_sizes (map object_line objects ++ (map event_line happened ++ End ∷ [])) ≡ []
no_size_again [] happened = no_size happened
no_size_again (o ∷ objects) happened = no_size_again objects happened

-- they say its size, where it has to be said
pub size_said : (objects : List ObjectLine) (happened : List Event) → said_sizes (canonical_lines objects happened) ≡ option_to_list (canonical_size objects)
size_said objects happened = go (canonical_size objects)
  where
    go : (size : Option ℕ) → said_sizes (size_lines size ++ (map object_line objects ++ (map event_line happened ++ End ∷ []))) ≡ option_to_list size
    go None = no_size_again objects happened
    go (Some n) = ap (λ ns. n ∷ ns) (no_size_again objects happened)

-- the line of an operation says its place and its amount
op_again : (w t x k : ℕ) (amount : Option ℕ) → event_in_line (op_event_line w t x k amount) ≡ record { worker = w; kind = kind.Op (operation_at k amount) t x }
op_again w t x k None = refl
op_again w t x k (Some n) = refl

-- the line of an event says it
pub event_again : (w : ℕ) (k : EventKind) → event_in_line (event_line_at w k) ≡ record { worker = w; kind = k }
event_again w (kind.Begin t) = refl
event_again w (kind.Op k t x) = op_again w t x (place_of k) (amount_of k) ∙ ap (λ p. record { worker = w; kind = kind.Op p t x }) (operation-again k)
event_again w (kind.Busy c t x u) = refl
event_again w (kind.None t x c) = refl
event_again w (kind.Commit t) = refl
event_again w (kind.Abort t) = refl
event_again w (kind.Rollback t n) = refl

-- the lines of the events say them
events_again : (happened : List Event) → map event_in_line (entries_of (map event_line happened ++ End ∷ [])) ≡ happened
events_again [] = refl
events_again (e ∷ happened) = ap (λ f. f ∷ map event_in_line (entries_of (map event_line happened ++ End ∷ []))) (event_again e.worker e.kind) ∙ ap (λ rest. e ∷ rest) (events_again happened)

events_behind : (objects : List ObjectLine) (happened : List Event) → map event_in_line (entries_of (map object_line objects ++ (map event_line happened ++ End ∷ []))) ≡ happened
events_behind [] happened = events_again happened
events_behind (o ∷ objects) happened = events_behind objects happened

-- and those of a history its events
pub events_said : (objects : List ObjectLine) (happened : List Event) → map event_in_line (entries_of (canonical_lines objects happened)) ≡ happened
events_said objects happened = go (canonical_size objects)
  where
    go : (size : Option ℕ) → map event_in_line (entries_of (size_lines size ++ (map object_line objects ++ (map event_line happened ++ End ∷ [])))) ≡ happened
    go None = events_behind objects happened
    go (Some n) = events_behind objects happened
