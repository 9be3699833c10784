-- Events in numbers.
use Rattle.std.specs.Prelude.{ℕ, ◌<◌, ◌≤◌, Bool, ◌&&◌, Option, Some, None, option_map, nat_le, nat_lt, ◌==◌, if◌then◌else◌}
use Rattle.object_trait.specs.declared.event.Event.{Event}
use Rattle.object_trait.specs.declared.event.EventKind.{EventKind}
use Rattle.object_trait.specs.declared.event.EventKind.TheVariants as kind
use Rattle.type_table.specs.Operation.{places}
use Rattle.library_calls.specs.Operations.{operation_count, operation_by_number}
use Rattle.library_calls.specs.declared.event_words.ColockEvent.{ColockEvent}

-- what happened by a worker. What a kind doesn't have is 0. Of a call without a reply the number is the place of its first operation
abbrev pub words_by : ℕ → EventKind → ColockEvent
words_by w (kind.Begin t) = record { transaction = t; other = 0; op = 0; object = 0; kind = 0; worker = w; reserved = 0 }
words_by w (kind.Op k t x) = record { transaction = t; other = 0; op = k; object = x; kind = 1; worker = w; reserved = 0 }
words_by w (kind.Busy c t x u) = record { transaction = t; other = u; op = c; object = x; kind = 2; worker = w; reserved = 0 }
words_by w (kind.None t x c) = record { transaction = t; other = 0; op = c; object = x; kind = 3; worker = w; reserved = 0 }
words_by w (kind.Commit t) = record { transaction = t; other = 0; op = 0; object = 0; kind = 4; worker = w; reserved = 0 }
words_by w (kind.Abort t) = record { transaction = t; other = 0; op = 0; object = 0; kind = 5; worker = w; reserved = 0 }
words_by w (kind.Rollback t n) = record { transaction = t; other = n; op = 0; object = 0; kind = 6; worker = w; reserved = 0 }

abbrev pub event_words : Event → ColockEvent
event_words e = words_by e.worker e.kind

-- ---- the other way round

-- the numbers are as small as those of events: numbers of 32 bits, and a byte
abbrev pub are_numbers : ColockEvent → Bool
are_numbers w = nat_le w.transaction 4294967295 && nat_le w.other 4294967295 && nat_le w.worker 255

-- the place with a number
abbrev pub place_at : ℕ → Option ℕ
place_at c = if nat_lt c places then Some c else None

-- what happened. What a kind doesn't have isn't read
abbrev pub happened_at : ColockEvent → Option EventKind
happened_at w =
    if w.kind == 0 then Some (kind.Begin w.transaction)
    else (if w.kind == 1 then option_map (λ operation. kind.Op operation w.transaction w.object) (operation_by_number w.op)
    else (if w.kind == 2 then option_map (λ c. kind.Busy c w.transaction w.object w.other) (place_at w.op)
    else (if w.kind == 3 then option_map (kind.None w.transaction w.object) (place_at w.op)
    else (if w.kind == 4 then Some (kind.Commit w.transaction)
    else (if w.kind == 5 then Some (kind.Abort w.transaction)
    else (if w.kind == 6 then Some (kind.Rollback w.transaction w.other) else None))))))

-- the event with these words; none where a number is too large, or no kind or operation has it
abbrev pub event_at : ColockEvent → Option Event
event_at w = if are_numbers w then option_map (λ happened. record { worker = w.worker; kind = happened }) (happened_at w) else None

-- an event whose numbers are such
abbrev pub AreSmall : EventKind → Type 0
AreSmall (kind.Begin t) = t ≤ 4294967295
AreSmall (kind.Op k t x) = (t ≤ 4294967295) × (k < operation_count)
AreSmall (kind.Busy c t x u) = (t ≤ 4294967295) × (c < places) × (u ≤ 4294967295)
AreSmall (kind.None t x c) = (t ≤ 4294967295) × (c < places)
AreSmall (kind.Commit t) = t ≤ 4294967295
AreSmall (kind.Abort t) = t ≤ 4294967295
AreSmall (kind.Rollback t n) = (t ≤ 4294967295) × (n ≤ 4294967295)

abbrev pub HasNumbers : Event → Type 0
HasNumbers e = (e.worker ≤ 255) × AreSmall e.kind
