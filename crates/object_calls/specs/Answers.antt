-- The answer of a call at one object: of the call's operations the first that is legal and that nobody blocks.
use Rattle.std.specs.Prelude.{ℕ, Bool, not, ◌&&◌, [], ◌∷◌, length, Option, Some, None, is_some}
use Rattle.type_table.specs.Table.{is_same_call}
use Rattle.type_table.specs.Run.{run}
use Rattle.object_trait.specs.Meaning.{Meaning, view_of}
use Rattle.type_table.specs.Least.{first_below}
use Rattle.object_trait.specs.Steps.{stopper}
use Rattle.object_calls.specs.declared.answer.Answer.{Answer}
use Rattle.object_calls.specs.declared.answer.Answer.TheVariants as answer

-- operation k is of the call whose first operation is c, and legal for t
abbrev pub is_call_reply : Meaning → ℕ → ℕ → ℕ → Bool
is_call_reply m t c k = is_same_call m.checked.file.table k c && is_some (run m.checked.file.table (view_of m t) (k ∷ []))

-- and nobody keeps t from it
abbrev pub is_free_answer : Meaning → ℕ → ℕ → ℕ → Bool
is_free_answer m t c k = is_call_reply m t c k && not (is_some (stopper m t k))

-- `Busy` with who blocks
abbrev pub busy_answer : Option ℕ → Answer
busy_answer None = answer.None
busy_answer (Some u) = answer.Busy u

-- where no reply is free: `Busy` with who blocks the first legal one, else `None`
abbrev pub refused_answer : Meaning → ℕ → ℕ → Option ℕ → Answer
refused_answer m t c None = answer.None
refused_answer m t c (Some k) = busy_answer (stopper m t k)

abbrev pub answer_of_first : Meaning → ℕ → ℕ → Option ℕ → Answer
answer_of_first m t c (Some k) = answer.Reply k
answer_of_first m t c None = refused_answer m t c (first_below (length m.checked.file.table.ops) (is_call_reply m t c))

-- the answer of the call c of t: the first of its operations, in table order, that is legal and free
abbrev pub answer_of : Meaning → ℕ → ℕ → Answer
answer_of m t c = answer_of_first m t c (first_below (length m.checked.file.table.ops) (is_free_answer m t c))
