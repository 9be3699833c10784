-- Answers, faults and types in numbers.
use Rattle.std.specs.Prelude.{ℕ, length, Option, Some, None, ◌==◌, if◌then◌else◌}
use Rattle.type_table.specs.declared.kind.Kind.{Kind}
use Rattle.type_table.specs.declared.kind.Kind.TheVariants.{Undo, Intentions, Escrow}
use Rattle.line_text.specs.declared.fault.TextFault.{TextFault}
use Rattle.line_text.specs.declared.fault.FaultKind.{FaultKind}
use Rattle.line_text.specs.declared.fault.FaultKind.TheVariants as fault
use Rattle.declared_types.specs.Declarations.{rows_of, table_of}
use Rattle.declared_types.specs.declared.declared_type.Declaration.{Declaration}
use Rattle.table_checker.specs.declared.refusal.CheckRefusal.{CheckRefusal}
use Rattle.table_checker.specs.declared.refusal.CheckRefusal.TheVariants.{InitialOutside, NotClosed, NotSimulation, NotCommuting, NotNumeric}
use Rattle.object_calls.specs.declared.answer.Answer.{Answer}
use Rattle.object_calls.specs.declared.answer.Answer.TheVariants as answer
use Rattle.library_calls.specs.declared.words.ColockAnswer.{ColockAnswer}
use Rattle.library_calls.specs.declared.words.ColockFault.{ColockFault}
use Rattle.library_calls.specs.declared.words.ColockShape.{ColockShape}

-- what a call is answered
abbrev pub answer_words : Answer → ColockAnswer
answer_words (answer.Reply k) = record { kind = 0; number = k }
answer_words (answer.Busy u) = record { kind = 1; number = u }
answer_words answer.None = record { kind = 2; number = 0 }

-- the number that the formats give a fault
abbrev pub fault_number : FaultKind → ℕ
fault_number fault.NotAscii = 1
fault_number fault.LineTooLong = 2
fault_number fault.Unterminated = 3
fault_number fault.UnknownWord = 4
fault_number fault.BadNumber = 5
fault_number fault.OutOfRange = 6
fault_number fault.OutOfOrder = 7
fault_number fault.Missing = 8
fault_number fault.AfterEnd = 9
fault_number fault.TwiceOp = 10
fault_number fault.NoMemory = 11
fault_number fault.TwiceName = 12

-- a text's fault
abbrev pub fault_words : TextFault → ColockFault
fault_words f = record { line = f.line; kind = fault_number f.kind; first = 0; second = 0; third = 0 }

-- a refusal of the checker, in the order of its reasons, with the numbers that it names
abbrev pub refusal_words : CheckRefusal → ColockFault
refusal_words InitialOutside = record { line = 0; kind = 1; first = 0; second = 0; third = 0 }
refusal_words (NotClosed s k) = record { line = 0; kind = 2; first = s; second = k; third = 0 }
refusal_words (NotSimulation s t k) = record { line = 0; kind = 3; first = s; second = t; third = k }
refusal_words (NotCommuting p q s) = record { line = 0; kind = 4; first = p; second = q; third = s }
refusal_words (NotNumeric k s) = record { line = 0; kind = 5; first = k; second = s; third = 0 }

-- the kind of recovery with this number
abbrev pub kind_by_number : ℕ → Option Kind
kind_by_number n = if n == 0 then Some Undo else (if n == 1 then Some Intentions else (if n == 2 then Some Escrow else None))

-- the number of a kind
abbrev pub kind_number : Kind → ℕ
kind_number Undo = 0
kind_number Intentions = 1
kind_number Escrow = 2

-- what is said of a type at once: its operations are as many as it lists
abbrev pub shape_of : Kind → Declaration → ColockShape
shape_of kind declaration = record {
  states = (table_of declaration).states;
  initial = (table_of declaration).initial;
  ops = length (rows_of declaration);
  kind = kind_number kind;
}
