-- The value or the fault of a text.
use Rattle.std.specs.Prelude.{◌≡◌, ◌↔◌, ◌⊎◌, ℕ, ◌+◌, ◌<◌, ◌≤◌, Bool, true, false, List, [], ◌∷◌, ◌++◌, length, take, slice_get, if◌then◌else◌, option_and_then, Option, Some, None, Result, Ok, Err}
use Rattle.line_text.specs.Text.{TextLine, lines_of}
use Rattle.line_text.specs.Rules.{Rules, items_of, was_read, end_rank}
use Rattle.line_text.specs.LineTests.{fault_of}
use Rattle.line_text.specs.declared.fault.FaultKind.{FaultKind}
use Rattle.line_text.specs.declared.fault.FaultKind.TheVariants.{Missing, NoMemory}
use Rattle.line_text.specs.declared.fault.TextFault.{TextFault}

-- a fault of a line
abbrev pub fault_on : ℕ → FaultKind → TextFault
fault_on line kind = record { line = line; kind = kind }

-- the fault of a line, or where it has none what comes next
abbrev pub or_next : ℕ → Option FaultKind → Option TextFault → Option TextFault
or_next line (Some kind) next = Some (fault_on line kind)
or_next line None next = next

-- whether `end` is among the lines
abbrev pub has_ended : {Item : Type 0} → Rules Item → List TextLine → Bool
has_ended g lines = was_read g (items_of g lines) (end_rank g)

-- the first refused line of those that follow, or that `end` hasn't come
unfoldable pub first_fault : {Item : Type 0} → Rules Item → List TextLine → List TextLine → Option TextFault
first_fault g before [] = if has_ended g before then None else Some (fault_on (length before + 1) Missing)
first_fault g before (l ∷ after) = or_next (length before + 1) (fault_of g before l) (first_fault g (before ++ l ∷ []) after)

-- the fault, or where there is none the value
abbrev pub or_fault : {A : Type 0} → Option TextFault → A → Result A TextFault
or_fault None x = Ok x
or_fault (Some f) x = Err f

-- the items of a text of which no line is refused, else its first fault
unfoldable pub outcome_of : {Item : Type 0} → Rules Item → List ℕ → Result (List Item) TextFault
outcome_of g text = or_fault (first_fault g [] (lines_of text)) (items_of g (lines_of text))

-- ---- by places

-- the first test that refuses the line at a place, counted from 0, where there is a line
abbrev pub refusal_at : {Item : Type 0} → Rules Item → List TextLine → ℕ → Option FaultKind
refusal_at g lines n = option_and_then (fault_of g (take n lines)) (slice_get lines n)

-- no line before a place is refused
abbrev pub ArePassed : {Item : Type 0} → Rules Item → List TextLine → ℕ → Type 0
ArePassed g lines n = (k : ℕ) → k < n → refusal_at g lines k ≡ None

-- the first refused line, by the first test that refuses it
pub record IsRefused {Item : Type 0} (g : Rules Item) (lines : List TextLine) (f : TextFault) : Type 0 where
  pub place : ℕ
  pub line : f.line ≡ place + 1
  pub before : ArePassed g lines place
  pub kind : refusal_at g lines place ≡ Some f.kind

-- no line is refused and `end` isn't there: the fault is after the last line
pub record IsUnfinished {Item : Type 0} (g : Rules Item) (lines : List TextLine) (f : TextFault) : Type 0 where
  pub passed : ArePassed g lines (length lines)
  pub no_end : has_ended g lines ≡ false
  pub fault : f ≡ fault_on (length lines + 1) Missing

-- no line is refused, `end` is there, and the items are those of the lines
pub record IsValue {Item : Type 0} (g : Rules Item) (lines : List TextLine) (items : List Item) : Type 0 where
  pub passed : ArePassed g lines (length lines)
  pub ended : has_ended g lines ≡ true
  pub value : items ≡ items_of g lines

-- when a text has a fault and when a value, line by line
pub record IsOutcome {Item : Type 0} (g : Rules Item) (text : List ℕ) : Type 0 where
  pub fault : (f : TextFault) → (outcome_of g text ≡ Err f) ↔ (IsRefused g (lines_of text) f ⊎ IsUnfinished g (lines_of text) f)
  pub value : (items : List Item) → (outcome_of g text ≡ Ok items) ↔ IsValue g (lines_of text) items

-- ---- what a reader answers

-- the lines before this one have passed, so that it may be the one that was being read
pub record IsReached {Item : Type 0} (g : Rules Item) (lines : List TextLine) (line : ℕ) : Type 0 where
  pub from_one : 0 < line
  pub within : line ≤ length lines + 1
  pub passed : (k : ℕ) → k + 1 < line → refusal_at g lines k ≡ None

-- the text's outcome, or that memory was refused at the line that was being read
abbrev pub Gives : {X Item : Type 0} → (X → List Item) → Result X TextFault → Rules Item → List ℕ → Type 0
Gives view (Ok x) g text = outcome_of g text ≡ Ok (view x)
Gives view (Err f) g text = (outcome_of g text ≡ Err f) ⊎ ((f.kind ≡ NoMemory) × IsReached g (lines_of text) f.line)
