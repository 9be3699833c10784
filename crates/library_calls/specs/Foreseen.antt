-- What a call would be answered.
use Rattle.std.specs.Prelude.{◌≡◌, ℕ, List, Some, Ok, Err, slice_get}
use Rattle.serial_order.specs.Replay.{call_at}
use Rattle.serial_order.specs.declared.refusal.Refusal.{Refusal}
use Rattle.object_calls.specs.declared.answer.Answer.{Answer}
use Rattle.store_laws.specs.Stored.{Stored, objects}
use Rattle.store.specs.Calls.{Would, unnumbered}
use Rattle.library_calls.specs.Calls.{NumbersNone}
use Rattle.library_calls.specs.Codes.{number, code_of}
use Rattle.library_calls.specs.Words.{answer_words}
use Rattle.library_calls.specs.declared.code.Code.TheVariants.{Done}
use Rattle.library_calls.specs.declared.words.ColockAnswer.{ColockAnswer}

-- t's call with this name at x would be answered so, or refused
pub data IsForeseen (s : Stored) (t x : ℕ) (name : List ℕ) (n : ℕ) (words : ColockAnswer) : Type 0 where
  answered : (a : Answer) → n ≡ number Done → words ≡ answer_words a → Would s t x name (Ok a) → IsForeseen s t x name n words
  refused : (r : Refusal) → n ≡ number (code_of (Some r)) → Would s t x name (Err r) → IsForeseen s t x name n words

-- and so of t's call c there: that of a call with this number, or of none
pub record IsForeseenAt (s : Stored) (t x c n : ℕ) (words : ColockAnswer) : Type 0 where
  pub numbered : (name : List ℕ) → call_at (slice_get (objects s) x) name ≡ Some c → IsForeseen s t x name n words
  pub other : NumbersNone s x c → n ≡ number (code_of (Some (unnumbered s t x)))
