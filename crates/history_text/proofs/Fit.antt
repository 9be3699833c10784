-- The numbers and counts of a history that was read.
use Rattle.std.proofs.Common.{◌≡◌, ℕ, ◌<◌, true, List, [], ◌∷◌, map, Some, None, refl, sym, ap, ◌∙◌, arith}
use Rattle.std.specs.Prelude.{Vec}
use Rattle.std.proofs.lemmas.Bool.{leb-true, and_parts}
use Rattle.std.proofs.lemmas.List.{length-map}
use Rattle.std.specs.List.{AllByRecursion}
use Rattle.std.specs.declared.alloc.Global.{Global}
use Rattle.type_table.specs.Operation.{place-of-operation, amount-of-operation}
use Rattle.object_trait.specs.declared.event.Event.{Event}
use Rattle.store_text.specs.Parts.{IsPartsOf, AreFit}
use Rattle.store_text.specs.Size.{may_have}
use Rattle.store_text.specs.declared.line.Line.{Line}
use Rattle.store_text.specs.declared.parts.Parts.{Parts}
use Rattle.history_text.specs.declared.event_line.EventLine.{EventLine}
use Rattle.history_text.specs.declared.event_line.EventLine.TheVariants.{Begin, Op, OpOf, Busy, Nothing, Commit, Abort, Rollback}
use Rattle.history_text.specs.Events.{history_body, event_in_line, line_of, is_operation, is_in_range}
use Rattle.history_text.specs.History.{IsFitHistory, IsHistoryOf}
use Rattle.history_text.proofs.Said.{event_again}

-- an operation's place is a byte
is_place : (k : ℕ) → is_operation k ≡ true → k < 256
is_place k h = omega (arith, leb-true k 63 h)

-- the event of a line whose numbers are in range is said by that line
pub line_again : (objects : ℕ) (x : EventLine) → is_in_range objects x ≡ true → line_of (event_in_line x) ≡ x
line_again objects (Begin w t) h = refl
line_again objects (Op w t x k) h =
    let small : k < 256 = is_place k (and_parts _ _ h).1 in
    rw (place-of-operation k None small, amount-of-operation k None small) refl
line_again objects (OpOf w t x k n) h =
    let small : k < 256 = is_place k (and_parts _ _ (and_parts _ _ h).0).1 in
    rw (place-of-operation k (Some n) small, amount-of-operation k (Some n) small) refl
line_again objects (Busy w t x c u) h = refl
line_again objects (Nothing w t x c) h = refl
line_again objects (Commit w t) h = refl
line_again objects (Abort w t) h = refl
line_again objects (Rollback w t n) h = refl

-- the lines of events say them
pub lines_again : (happened : List Event) → happened ≡ map event_in_line (map line_of happened)
lines_again [] = refl
lines_again (e ∷ happened) = ap (λ rest. e ∷ rest) (lines_again happened) ∙ ap (λ f. f ∷ map event_in_line (map line_of happened)) (sym (event_again e.worker e.kind))

-- what the events that are kept say
abbrev said : Vec Event Global → List EventLine
said happened = map line_of happened.items

-- the events that were kept are those of the lines
pub is_history : (lines : List (Line EventLine)) (parts : Parts (Vec Event Global)) (happened : Vec Event Global) → happened.items ≡ parts.entries.items → IsPartsOf history_body said lines parts
    → IsHistoryOf lines (record { size = parts.size; objects = parts.objects; events = happened })
is_history lines parts happened same are = record {
  size = are.size;
  objects = are.objects;
  events = same ∙ lines_again parts.entries.items ∙ ap (map event_in_line) are.entries;
}

-- the lines of events have their numbers in range where the events do
events_in_range : (objects : ℕ) (happened : List Event) → AllByRecursion (λ x. is_in_range objects x ≡ true) (map line_of happened) → AllByRecursion (λ e. is_in_range objects (line_of e) ≡ true) happened
events_in_range objects [] h = tt
events_in_range objects (e ∷ happened) h = (h.0, events_in_range objects happened h.1)

-- the numbers and counts are those of its parts
pub is_fit : (parts : Parts (Vec Event Global)) (happened : Vec Event Global) → happened.items ≡ parts.entries.items → AreFit history_body said parts
    → IsFitHistory (record { size = parts.size; objects = parts.objects; events = happened })
is_fit parts happened same fit = record {
  size = fit.size;
  some_object = fit.some_object;
  objects_fit = fit.objects;
  files_fit = fit.files;
  named = fit.named;
  events_fit = rw (same, ← length-map parts.entries.items line_of) fit.entries;
  numbers_fit = rw same (events_in_range (may_have parts.size) parts.entries.items fit.in_range);
}
