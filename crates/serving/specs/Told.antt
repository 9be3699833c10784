-- What a client gets.
use Rattle.std.specs.Prelude.{ℕ, ◌≤◌, Bool, true, false, List, [], ◌∷◌, length, take, codes, Option}
use Rattle.std.specs.Fmt.{decimal}
use Rattle.std.specs.List.{flat_map, list_any}
use Rattle.std.specs.Io.KnownBytes.{Appends}
use Rattle.serving.specs.declared.answer_line.AnswerLine.{AnswerLine}
use Rattle.serving.specs.declared.answer_line.AnswerLine.TheVariants.{Committed, Decided, Extended, Held, Seen, SeenStates, NothingSeen, Completed, CompletedOne, Replied, KeyRefused, OutcomeIs, OutcomePrepared, Voted, VotedBefore}
use Rattle.serving.specs.declared.answer_line.Answered.{Answered}
use Rattle.serving.specs.AnswerText.{answer_text, pieces_text}

-- it says that something is done which no crash takes away: a commit, a vote, a decision, or that objects were added; or what was seen of committed states, or
-- of keys
abbrev pub is_lasting : AnswerLine → Bool
is_lasting Committed = true
is_lasting (Extended first) = true
is_lasting (Seen moment replies) = true
is_lasting (SeenStates moment states) = true
is_lasting (NothingSeen at) = true
is_lasting (Completed replies) = true
is_lasting (CompletedOne reply) = true
is_lasting (Replied replies) = true
is_lasting (KeyRefused why) = true
is_lasting (OutcomeIs found) = true
is_lasting OutcomePrepared = true
is_lasting Voted = true
is_lasting VotedBefore = true
is_lasting Decided = true
is_lasting (Held prepared) = true
is_lasting answer = false

abbrev pub has_lasting : List Answered → Bool
has_lasting answers = list_any (λ (a : Answered). is_lasting a.answer) answers

-- the lines of answers
abbrev pub answers_text : List Answered → List ℕ
answers_text answers = flat_map (λ (a : Answered). answer_text a.tag a.answer) answers

-- the first line: the version of what is spoken, and the number of the store's life
abbrev pub greeting : ℕ → List ℕ
greeting life = pieces_text (codes "colock 5 " ∷ decimal life ∷ (10 ∷ []) ∷ [])

-- known bytes grow by a beginning of a text, which may be all of it
abbrev pub AppendsPart : Option (List ℕ) → Option (List ℕ) → List ℕ → Type 0
AppendsPart old new text = (n : ℕ) × (n ≤ length text) × Appends old new (take n text)
