-- Answers at the places of their lines.
use Rattle.std.specs.Prelude.{◌⊎◌, ℕ, Bool, true, false, List, [], ◌∷◌, MatchBool}
use Rattle.serving.specs.declared.answer_line.AnswerLine.{AnswerLine}
use Rattle.serving.specs.declared.answer_line.AnswerLine.TheVariants.{Extended}
use Rattle.serving.specs.declared.answer_line.Answered.{Answered}

-- an extension is answered once it is durable, after later lines
abbrev pub comes_late : AnswerLine → Bool
comes_late (Extended first) = true
comes_late answer = false

-- one of these lines, with the answer at its place among those that aren't late, is such
abbrev pub TellsSuch : List (List ℕ) → List Answered → (List ℕ → Answered → Type 0) → Type 0
TellsSuch [] answers P = ⊥
TellsSuch (line ∷ lines) [] P = ⊥
TellsSuch (line ∷ lines) (a ∷ answers) P = MatchBool (comes_late a.answer) (TellsSuch (line ∷ lines) answers P) (P line a ⊎ TellsSuch lines answers P)
