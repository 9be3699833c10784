-- Reads of what is committed, in words.
use Rattle.std.specs.Prelude.{◌≡◌, ℕ, ◌<◌, ◌≤◌, List, ◌++◌, length, drop, Option, Some, None, Ok, Err}
use Rattle.serial_order.specs.History.{commits}
use Rattle.object_calls.specs.declared.answer.Answer.{Answer}
use Rattle.object_calls.specs.declared.answer.Answer.TheVariants as answer
use Rattle.store_laws.specs.Stored.{Stored, objects}
use Rattle.store.specs.CommittedStates.{IsCommittedState, IsSnapshot}
use Rattle.store.specs.Peeks.{ComesOfPeek}
use Rattle.store.specs.declared.refusals.PeekRefusal.{PeekRefusal}
use Rattle.library_calls.specs.Codes.{number, peek_code}
use Rattle.library_calls.specs.Words.{answer_words}
use Rattle.library_calls.specs.declared.code.Code.TheVariants.{Done, NoObject, NoRoom}
use Rattle.library_calls.specs.declared.words.ColockAnswer.{ColockAnswer}

-- so many transactions have committed
abbrev pub HasCommits : Stored → ℕ → Type 0
HasCommits s count = count ≡ length (commits s.history)

-- what a read found, as an answer
abbrev pub peek_answer : Option ℕ → Answer
peek_answer (Some k) = answer.Reply k
peek_answer None = answer.None

-- what the call with this name at x is answered to a transaction that only reads, with how many had committed; or why it isn't answered
pub data IsPeekOf (s : Stored) (x : ℕ) (name : List ℕ) (n : ℕ) (words : ColockAnswer) (count : ℕ) : Type 0 where
  peeked : (found : Option ℕ) → n ≡ number Done → ComesOfPeek s x name (Ok found) → words ≡ answer_words (peek_answer found) → HasCommits s count
      → IsPeekOf s x name n words count
  refused : (r : PeekRefusal) → n ≡ number (peek_code r) → ComesOfPeek s x name (Err r) → IsPeekOf s x name n words count

-- the committed state of the object at x, where there is one, with how many had committed
pub data IsCommittedStateOf (s : Stored) (x n state count : ℕ) : Type 0 where
  committed : n ≡ number Done → IsCommittedState s x state → HasCommits s count → IsCommittedStateOf s x n state count
  no_object : n ≡ number NoObject → length (objects s) ≤ x → IsCommittedStateOf s x n state count

-- the first places of the room have the committed states of all objects, and the others what they had
pub record HasSnapshot (s : Stored) (old new : List ℕ) : Type 0 where
  pub states : List ℕ
  pub snapshot : IsSnapshot s states
  pub room : new ≡ states ++ drop (length states) old

-- so it is, with how many had committed; or the room has fewer places than there are objects
pub data IsSnapshotOf (s : Stored) (old : List ℕ) (n : ℕ) (new : List ℕ) (count : ℕ) : Type 0 where
  taken : n ≡ number Done → HasSnapshot s old new → HasCommits s count → IsSnapshotOf s old n new count
  no_room : n ≡ number NoRoom → length old < length (objects s) → IsSnapshotOf s old n new count
