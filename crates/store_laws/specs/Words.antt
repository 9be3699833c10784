-- What a store's objects answer, in the words of its history. Statement of its law.
use Rattle.std.specs.Prelude.{◌≡◌, ℕ, List, true}
use Rattle.type_table.specs.Operation.{place_of}
use Rattle.object_trait.specs.Object.{Object}
use Rattle.object_trait.specs.Meaning.{Meaning, object}
use Rattle.object_trait.specs.declared.event.Event.{Event}
use Rattle.object_trait.specs.declared.event.EventKind.{EventKind}
use Rattle.object_trait.specs.declared.event.EventKind.TheVariants as kind
use Rattle.serial_order.specs.History.{summary, is_open}
use Rattle.serial_order.specs.Represent.{Represents}
use Rattle.serial_order.specs.Machine.{IsRun}
use Rattle.serial_order.specs.Answer.{event_of_call}
use Rattle.object_calls.specs.Answers.{answer_of}
use Rattle.object_calls.specs.declared.answer.Answer.{Answer}
use Rattle.object_calls.specs.declared.answer.Answer.TheVariants.{Reply, Busy, None}

-- the event of an answer of t's call c at x: one without a reply tells of the call the place of its first operation
abbrev pub as_event : ℕ → ℕ → ℕ → Answer → EventKind
as_event t x c (Reply k) = kind.Op k t x
as_event t x c (Busy u) = kind.Busy (place_of c) t x u
as_event t x c None = kind.None t x (place_of c)

-- at an object that represents the history a call is answered as the history defines it
abbrev pub AnswersAsDefined : Type 0
AnswersAsDefined =
    (objects : List Object) (m : Meaning) (x : ℕ) (H : List Event) (t c : ℕ) → IsRun objects H → Represents m x H → is_open (summary H) t ≡ true
    → as_event t x c (answer_of m t c) ≡ event_of_call (object m) (summary H) x t c
