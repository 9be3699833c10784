-- Statements of laws: when a call isn't `Busy`.
use Rattle.std.specs.Prelude.{◌≡◌, ℕ, List, ◌++◌, length}
use Rattle.type_table.specs.Least.{first_below}
use Rattle.object_trait.specs.Object.{Object}
use Rattle.object_trait.specs.declared.event.Event.{Event}
use Rattle.object_trait.specs.declared.event.EventKind.TheVariants.{Busy}
use Rattle.serial_order.specs.History.{Summary, summary}
use Rattle.serial_order.specs.Machine.{May}
use Rattle.serial_order.specs.Answer.{is_reply, event_of_call}
use Rattle.progress.specs.Waiting.{IsInTheWay, IsAloneAt, IsAlone, OthersHaveEnded, done_or_none}

-- who is told by `Busy` is in the way
abbrev pub BusyTellsWho : Type 0
BusyTellsWho = (objects : List Object) (s : Summary) (c t x u : ℕ) → May objects s (Busy c t x u) → IsInTheWay s x t u

-- where no other open transaction has an operation at x, no call there is `Busy`
abbrev pub AloneThereIsNotBusy : Type 0
AloneThereIsNotBusy = (objects : List Object) (s : Summary) (c t x u : ℕ) → IsAloneAt s x t → May objects s (Busy c t x u) → ⊥

-- and the answer is the first operation of the call that is legal, or `None` where none is
abbrev pub AloneThereIsAnswered : Type 0
AloneThereIsAnswered =
    (o : Object) (s : Summary) (x t c : ℕ) → IsAloneAt s x t
    → event_of_call o s x t c ≡ done_or_none t x c (first_below (length o.table.ops) (is_reply o s x t c))

-- so it is everywhere, where no other is open
abbrev pub AloneIsAloneThere : Type 0
AloneIsAloneThere = (s : Summary) (t x : ℕ) → IsAlone s t → IsAloneAt s x t

-- then no call at all is `Busy`
abbrev pub AloneIsNotBusy : Type 0
AloneIsNotBusy = (objects : List Object) (s : Summary) (c t x u : ℕ) → IsAlone s t → May objects s (Busy c t x u) → ⊥

-- and at x, once all others that were open have ended, if who came later holds nothing there
abbrev pub WaitingEnds : Type 0
WaitingEnds = (H K : List Event) (x t : ℕ) → OthersHaveEnded H K x t → IsAloneAt (summary (H ++ K)) x t
