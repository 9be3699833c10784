-- What a line asks.
use Rattle.std.specs.Prelude.{ℕ, Bool, ◌&&◌, nat_le, List, [], ◌∷◌, drop, length, ◌==◌, if◌then◌else◌, Some, None, Result, Ok, Err, codes}
use Rattle.std.specs.List.{list_all, slice_split}
use Rattle.type_table.specs.Name.{is_name}
use Rattle.request_text.specs.Shapes.{◌>>=◌, has_words, has_words_from, request_name_at, number_at, object_at, asked_name_at, transaction_at, is_keyed, is_verb, key_at, key_in_front, word_at}
use Rattle.request_text.specs.Calls.{calls_said, has_calls, has_objects, objects_said}
use Rattle.request_text.specs.Preparing.{decide_request_of, prepare_request_of}
use Rattle.request_text.specs.declared.fault.RequestFault.{RequestFault}
use Rattle.request_text.specs.declared.fault.RequestFault.TheVariants.{TooLong, NotAscii, BadTag, UnknownVerb}
use Rattle.request_text.specs.declared.request.Asked.{Asked}
use Rattle.request_text.specs.declared.request.AskedCall.{AskedCall}
use Rattle.request_text.specs.declared.request.ObjectWord.{ObjectWord}
use Rattle.request_text.specs.declared.request.Request.{Request}
use Rattle.request_text.specs.declared.request.Request.TheVariants.{Begin, Call, Would, Commit, CommitUnder, Abort, Rollback, Kept, Peek, Committed, Do, DoUnder, Outcome, Prepared, Find, Objects, Types, Events, Stats, Extend, End}

-- ---- a request

-- a request of its verb alone
unfoldable pub alone : List (List ℕ) → Request → Result Request RequestFault
alone words request = do
  done ← has_words words 1
  Ok request

unfoldable pub call_request_of : List (List ℕ) → Result Request RequestFault
call_request_of words = do
  done ← has_words words 4
  call ← request_name_at words 3
  t ← transaction_at words 1
  x ← object_at words 2
  Ok (Call t x call)

unfoldable pub would_of : List (List ℕ) → Result Request RequestFault
would_of words = do
  done ← has_words words 4
  call ← request_name_at words 3
  t ← transaction_at words 1
  x ← object_at words 2
  Ok (Would t x call)

-- with a key behind the transaction
unfoldable pub keyed_commit_of : List (List ℕ) → Result Request RequestFault
keyed_commit_of words = do
  key ← key_at words 2
  t ← transaction_at words 1
  Ok (CommitUnder t key)

-- alone
unfoldable pub plain_commit_of : List (List ℕ) → Result Request RequestFault
plain_commit_of words = do
  done ← has_words words 2
  t ← transaction_at words 1
  Ok (Commit t)

unfoldable pub commit_request_of : List (List ℕ) → Result Request RequestFault
commit_request_of words = if length words == 3 then keyed_commit_of words else plain_commit_of words

unfoldable pub abort_request_of : List (List ℕ) → Result Request RequestFault
abort_request_of words = do
  done ← has_words words 2
  t ← transaction_at words 1
  Ok (Abort t)

unfoldable pub rollback_request_of : List (List ℕ) → Result Request RequestFault
rollback_request_of words = do
  done ← has_words words 3
  t ← transaction_at words 1
  count ← number_at words 2
  Ok (Rollback t count)

unfoldable pub kept_of : List (List ℕ) → Result Request RequestFault
kept_of words = do
  done ← has_words words 2
  x ← object_at words 1
  Ok (Kept x)

unfoldable pub find_of : List (List ℕ) → Result Request RequestFault
find_of words = do
  done ← has_words words 2
  name ← asked_name_at words 1
  Ok (Find name)

unfoldable pub events_request_of : List (List ℕ) → Result Request RequestFault
events_request_of words = do
  done ← has_words words 3
  from ← number_at words 1
  count ← number_at words 2
  Ok (Events from count)

-- a path of object lines, and one or more of types
unfoldable pub extend_request_of : List (List ℕ) → Result Request RequestFault
extend_request_of words = do
  done ← has_words_from words 3
  Ok Extend

-- one to 64 calls, each an object and a name
unfoldable pub calls_request_of : List (List ℕ) → Request → Result Request RequestFault
calls_request_of words request = do
  done ← has_calls words
  Ok request

-- the same, behind a key
unfoldable pub keyed_do_of : List (List ℕ) → Result Request RequestFault
keyed_do_of words = do
  key ← key_in_front words
  done ← has_calls (drop 1 words)
  Ok (DoUnder key)

unfoldable pub do_request_of : List (List ℕ) → Result Request RequestFault
do_request_of words = if is_keyed (word_at words 1) then keyed_do_of words else calls_request_of words Do

unfoldable pub outcome_request_of : List (List ℕ) → Result Request RequestFault
outcome_request_of words = do
  done ← has_words words 2
  key ← key_at words 1
  Ok (Outcome key)

-- one to 64 objects
unfoldable pub objects_request_of : List (List ℕ) → Result Request RequestFault
objects_request_of words = do
  done ← has_objects words
  Ok Committed

-- by the verb, of those that change nothing
unfoldable pub question_of : List (List ℕ) → Result Request RequestFault
question_of words =
    if is_verb words (codes "kept") then kept_of words
    else (if is_verb words (codes "peek") then calls_request_of words Peek
    else (if is_verb words (codes "committed") then objects_request_of words
    else (if is_verb words (codes "outcome") then outcome_request_of words
    else (if is_verb words (codes "prepared") then alone words Prepared
    else (if is_verb words (codes "find") then find_of words
    else (if is_verb words (codes "objects") then alone words Objects
    else (if is_verb words (codes "types") then alone words Types
    else (if is_verb words (codes "events") then events_request_of words
    else (if is_verb words (codes "stats") then alone words Stats
    else (if is_verb words (codes "end") then alone words End
    else Err UnknownVerb))))))))))

-- by the verb
unfoldable pub request_of : List (List ℕ) → Result Request RequestFault
request_of words =
    if is_verb words (codes "begin") then alone words Begin
    else (if is_verb words (codes "call") then call_request_of words
    else (if is_verb words (codes "would") then would_of words
    else (if is_verb words (codes "commit") then commit_request_of words
    else (if is_verb words (codes "abort") then abort_request_of words
    else (if is_verb words (codes "rollback") then rollback_request_of words
    else (if is_verb words (codes "extend") then extend_request_of words
    else (if is_verb words (codes "do") then do_request_of words
    else (if is_verb words (codes "prepare") then prepare_request_of words
    else (if is_verb words (codes "decide") then decide_request_of words
    else question_of words)))))))))

-- ---- a line

-- a line without a tag
abbrev pub untagged : RequestFault → Asked
untagged fault = record { tag = None; request = Err fault }

-- the words of a line, with one space between two
abbrev pub words_between : List ℕ → List (List ℕ)
words_between line = slice_split (λ b. b == 32) line

-- those behind the tag and the verb
abbrev pub file_words : List ℕ → List (List ℕ)
file_words line = drop 2 (words_between line)

-- those behind a key, where one stands in front
abbrev pub behind_key : List (List ℕ) → List (List ℕ)
behind_key [] = []
behind_key (w ∷ words) = if is_keyed w then words else w ∷ words

-- the calls behind the verb, or behind the key
abbrev pub calls_asked : List ℕ → List AskedCall
calls_asked line = calls_said (behind_key (file_words line))

-- the objects behind the verb
abbrev pub objects_asked : List ℕ → List ObjectWord
objects_asked line = objects_said (file_words line)

-- 32 to 126
abbrev pub is_ascii : ℕ → Bool
is_ascii b = nat_le 32 b && nat_le b 126

-- the first word is the tag, and the others are the request
abbrev pub tagged_of : List (List ℕ) → Asked
tagged_of [] = untagged BadTag
tagged_of (tag ∷ words) = if is_name tag then record { tag = Some tag; request = request_of words } else untagged BadTag

-- what a line without its LF asks
abbrev pub asked_by : List ℕ → Asked
asked_by line = if nat_le (length line) 4095 then (if list_all is_ascii line then tagged_of (words_between line) else untagged NotAscii) else untagged TooLong
