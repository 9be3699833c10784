-- What two workers did at one counter, worked by hand.
use Rattle.std.specs.Prelude.{◌≡◌, ℕ, List, [], ◌∷◌, ◌++◌, None}
use Rattle.std.specs.List.{flat_map}
use Rattle.type_table.specs.declared.kind.Kind.TheVariants.{Undo}
use Rattle.object_trait.specs.declared.event.Event.{Event}
use Rattle.object_trait.specs.declared.event.EventKind.TheVariants.{Begin, Op, Commit}
use Rattle.store_text.specs.declared.line.ObjectLine.{ObjectLine}
use Rattle.history_judge.specs.declared.outcome.Audit.{Audit}
use Rattle.worker_turns.specs.declared.outcome.Outcome.{Outcome}
use Rattle.worker_turns.specs.declared.outcome.Report.{Report}

-- the counter, update in place
abbrev pub one_object_line : List ObjectLine
one_object_line = record { kind = Undo; file = 0; name = None } ∷ []

-- worker 1 counts up once
abbrev pub one_up_by_one : List Event
one_up_by_one = record { worker = 1; kind = Begin 0 } ∷ record { worker = 1; kind = Op 0 0 0 } ∷ record { worker = 1; kind = Commit 0 } ∷ []

-- the report has these outcomes
abbrev pub HasOutcomes : List Outcome → Report → Type 0
HasOutcomes outcomes report = report.outcomes.items ≡ outcomes

-- a yes with this commit order and these serial states
pub record IsYesWith (order finals : List ℕ) (audit : Audit) : Type 0 where
  pub order_is : audit.order.items ≡ order
  pub finals_are : audit.finals.items ≡ finals

-- the bytes of lines, each ended by a LF
abbrev pub ended : List (List ℕ) → List ℕ
ended lines = flat_map (λ l. l ++ 10 ∷ []) lines
