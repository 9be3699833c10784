-- What the words of a request are to be.
use Rattle.std.specs.Prelude.{ℕ, Bool, false, nat_le, List, [], length, ◌∷◌, ◌==◌, if◌then◌else◌, slice_index_or, Option, Some, None, Result, Ok, Err}
use Rattle.std.specs.Str.{bytes_eq}
use Rattle.type_table.specs.Name.{is_name}
use Rattle.object_name.specs.ObjectName.{is_object_name}
use Rattle.transaction_key.specs.TransactionKey.{is_transaction_key}
use Rattle.request_text.specs.Numbers.{request_number, transaction_of}
use Rattle.request_text.specs.declared.fault.RequestFault.{RequestFault}
use Rattle.request_text.specs.declared.fault.RequestFault.TheVariants.{BadWords, BadNumber}
use Rattle.request_text.specs.declared.request.TransactionName.{TransactionName}
use Rattle.request_text.specs.declared.request.ObjectWord.{ObjectWord}
use Rattle.request_text.specs.declared.request.ObjectWord.TheVariants.{Number, Name}

infixl 10 ◌>>=◌
-- a step after one that may fail, as `?` makes it
abbrev pub ◌>>=◌ : {A B : Type 0} → Result A RequestFault → (A → Result B RequestFault) → Result B RequestFault
(Ok x) >>= f = f x
(Err e) >>= f = Err e

-- the word at a position, where there is one
abbrev pub word_at : List (List ℕ) → ℕ → List ℕ
word_at words position = slice_index_or words position []

-- there are `count` words, the verb among them
unfoldable pub has_words : List (List ℕ) → ℕ → Result (Unit {0}) RequestFault
has_words words count = if length words == count then Ok tt else Err BadWords

-- there are at least `count` words, the verb among them
unfoldable pub has_words_from : List (List ℕ) → ℕ → Result (Unit {0}) RequestFault
has_words_from words count = if nat_le count (length words) then Ok tt else Err BadWords

-- the value, or a fault where there is none
abbrev pub or_request_fault : {A : Type 0} → RequestFault → Option A → Result A RequestFault
or_request_fault fault None = Err fault
or_request_fault fault (Some x) = Ok x

-- the name at a position
unfoldable pub request_name_at : List (List ℕ) → ℕ → Result (List ℕ) RequestFault
request_name_at words position = if is_name (word_at words position) then Ok (word_at words position) else Err BadWords

-- the name of an object at a position
unfoldable pub asked_name_at : List (List ℕ) → ℕ → Result (List ℕ) RequestFault
asked_name_at words position = if is_object_name (word_at words position) then Ok (word_at words position) else Err BadWords

-- the key that a word is
abbrev pub key_word : List ℕ → Result (List ℕ) RequestFault
key_word w = if is_transaction_key w then Ok w else Err BadWords

-- the key at a position
unfoldable pub key_at : List (List ℕ) → ℕ → Result (List ℕ) RequestFault
key_at words position = key_word (word_at words position)

-- the word begins with `=`
abbrev pub is_keyed : List ℕ → Bool
is_keyed [] = false
is_keyed (b ∷ w) = b == 61

-- the key behind it
abbrev pub key_behind : List ℕ → Result (List ℕ) RequestFault
key_behind [] = Err BadWords
key_behind (b ∷ w) = if b == 61 then key_word w else Err BadWords

-- that of the second word
unfoldable pub key_in_front : List (List ℕ) → Result (List ℕ) RequestFault
key_in_front words = key_behind (word_at words 1)

-- an object by its number
abbrev pub number_word : Option ℕ → Result ObjectWord RequestFault
number_word None = Err BadNumber
number_word (Some x) = Ok (Number x)

-- an object by its name
abbrev pub name_word : List ℕ → Result ObjectWord RequestFault
name_word w = if is_object_name w then Ok (Name w) else Err BadNumber

-- the object that a word says: `@` and a name, or a number
abbrev pub object_word : List ℕ → Result ObjectWord RequestFault
object_word [] = number_word (request_number [])
object_word (b ∷ w) = if b == 64 then name_word w else number_word (request_number (b ∷ w))

-- the object at a position
unfoldable pub object_at : List (List ℕ) → ℕ → Result ObjectWord RequestFault
object_at words position = object_word (word_at words position)

-- the number at a position
unfoldable pub number_at : List (List ℕ) → ℕ → Result ℕ RequestFault
number_at words position = or_request_fault BadNumber (request_number (word_at words position))

-- the transaction at a position
unfoldable pub transaction_at : List (List ℕ) → ℕ → Result TransactionName RequestFault
transaction_at words position = or_request_fault BadNumber (transaction_of (word_at words position))

-- whether the first word is this verb
unfoldable pub is_verb : List (List ℕ) → List ℕ → Bool
is_verb words verb = bytes_eq (word_at words 0) verb
