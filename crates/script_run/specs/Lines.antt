-- The words of the lines that a running script writes.
use Rattle.std.specs.Prelude.{ℕ, List, [], ◌∷◌, codes}
use Rattle.std.specs.Fmt.{decimal}
use Rattle.object_trait.specs.declared.event.Event.{Event}
use Rattle.serial_order.specs.declared.refusal.Refusal.{Refusal}
use Rattle.serial_order.specs.declared.refusal.Refusal.TheVariants.{NotOpen, NoObject, NoCall, TooManyOpen, HistoryFull, NoMemory, BadRollback}
use Rattle.store_text.specs.declared.line.ObjectLine.{ObjectLine}
use Rattle.store_text.specs.declared.line.Line.TheVariants.{End}
use Rattle.history_text.specs.Canonical.{words_of, object_line, event_line}

-- ---- lines of the history

abbrev pub object_words : ObjectLine → List (List ℕ)
object_words o = words_of (object_line o)

abbrev pub event_turn_words : Event → List (List ℕ)
event_turn_words e = words_of (event_line e)

abbrev pub end_words : List (List ℕ)
end_words = words_of End

-- ---- comments

-- the number of a refusal
abbrev pub refusal_number : Refusal → ℕ
refusal_number NotOpen = 1
refusal_number NoObject = 2
refusal_number NoCall = 3
refusal_number TooManyOpen = 4
refusal_number HistoryFull = 5
refusal_number NoMemory = 6
refusal_number BadRollback = 7

-- its name
abbrev pub refusal_name : Refusal → List ℕ
refusal_name NotOpen = codes "NotOpen"
refusal_name NoObject = codes "NoObject"
refusal_name NoCall = codes "NoCall"
refusal_name TooManyOpen = codes "TooManyOpen"
refusal_name HistoryFull = codes "HistoryFull"
refusal_name NoMemory = codes "NoMemory"
refusal_name BadRollback = codes "BadRollback"

-- `# refused N Kind`
abbrev pub refused_words : Refusal → List (List ℕ)
refused_words r = codes "#" ∷ codes "refused" ∷ decimal (refusal_number r) ∷ refusal_name r ∷ []

-- `# kept X S`
abbrev pub kept_words : ℕ → ℕ → List (List ℕ)
kept_words x state = codes "#" ∷ codes "kept" ∷ decimal x ∷ decimal state ∷ []
