-- The requests that prepare a transaction and that decide how it ends.
use Rattle.std.specs.Prelude.{ℕ, List, if◌then◌else◌, Result, Ok, Err, codes}
use Rattle.std.specs.Str.{bytes_eq}
use Rattle.request_text.specs.Shapes.{◌>>=◌, has_words, key_at, number_at, transaction_at, word_at}
use Rattle.request_text.specs.declared.fault.RequestFault.{RequestFault}
use Rattle.request_text.specs.declared.fault.RequestFault.TheVariants.{BadWords}
use Rattle.request_text.specs.declared.request.Decision.{Decision}
use Rattle.request_text.specs.declared.request.Decision.TheVariants as decision
use Rattle.request_text.specs.declared.request.Request.{Request}
use Rattle.request_text.specs.declared.request.Request.TheVariants.{Prepare, Decide}

-- the decision that a word says
abbrev pub decision_word : List ℕ → Result Decision RequestFault
decision_word w =
    if bytes_eq w (codes "commit") then Ok decision.Commit
    else if bytes_eq w (codes "abort") then Ok decision.Abort
    else Err BadWords

-- the decision at a position
unfoldable pub decision_at : List (List ℕ) → ℕ → Result Decision RequestFault
decision_at words position = decision_word (word_at words position)

-- a transaction, its key, and until when it waits
unfoldable pub prepare_request_of : List (List ℕ) → Result Request RequestFault
prepare_request_of words = do
  done ← has_words words 4
  key ← key_at words 2
  t ← transaction_at words 1
  until ← number_at words 3
  Ok (Prepare t key until)

-- a key, and how its transaction is to end
unfoldable pub decide_request_of : List (List ℕ) → Result Request RequestFault
decide_request_of words = do
  done ← has_words words 3
  key ← key_at words 1
  how ← decision_at words 2
  Ok (Decide key how)
