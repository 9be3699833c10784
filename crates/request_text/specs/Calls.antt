-- The calls and the objects of a request that asks for several.
use Rattle.std.specs.Prelude.{ℕ, Bool, true, false, ◌&&◌, nat_le, List, [], ◌∷◌, ◌++◌, drop, length, if◌then◌else◌, Result, Ok, Err}
use Rattle.std.specs.List.{list_all}
use Rattle.type_table.specs.Name.{is_name}
use Rattle.request_text.specs.Shapes.{object_word}
use Rattle.request_text.specs.declared.fault.RequestFault.{RequestFault}
use Rattle.request_text.specs.declared.fault.RequestFault.TheVariants.{BadWords, BadNumber}
use Rattle.request_text.specs.declared.request.AskedCall.{AskedCall}
use Rattle.request_text.specs.declared.request.ObjectWord.{ObjectWord}

-- the most calls or objects of one request
abbrev pub most_asked : ℕ
most_asked = 64

-- ---- objects

abbrev pub is_said : Result ObjectWord RequestFault → Bool
is_said (Ok x) = true
is_said (Err fault) = false

-- the word says an object
abbrev pub says_object : List ℕ → Bool
says_object w = is_said (object_word w)

-- an object that a word says, before others
abbrev pub with_object : Result ObjectWord RequestFault → List ObjectWord → List ObjectWord
with_object (Ok x) xs = x ∷ xs
with_object (Err fault) xs = xs

-- the objects that words say
abbrev pub objects_said : List (List ℕ) → List ObjectWord
objects_said [] = []
objects_said (w ∷ words) = with_object (object_word w) (objects_said words)

-- ---- calls, each an object and a name

-- behind each object stands a name
abbrev pub are_named : List (List ℕ) → Bool
are_named [] = true
are_named (x ∷ []) = false
are_named (x ∷ name ∷ words) = is_name name && are_named words

-- before each name stands an object
abbrev pub say_objects : List (List ℕ) → Bool
say_objects [] = true
say_objects (x ∷ []) = true
say_objects (x ∷ name ∷ words) = says_object x && say_objects words

-- the call that an object and a word say, or none
abbrev pub said_call : Result ObjectWord RequestFault → List ℕ → List AskedCall
said_call (Ok x) name = if is_name name then record { x = x; call = name } ∷ [] else []
said_call (Err fault) name = []

-- the calls that words say, two of them each
abbrev pub calls_said : List (List ℕ) → List AskedCall
calls_said [] = []
calls_said (x ∷ []) = []
calls_said (x ∷ name ∷ words) = said_call (object_word x) name ++ calls_said words

-- ---- what the words behind a verb are to be

-- so many that this is no wrong number of calls, with two words each, and each has a name
abbrev pub are_calls : List (List ℕ) → Bool
are_calls words = nat_le 2 (length words) && nat_le (length words) 128 && are_named words

-- the first word is the verb, and the others are one to 64 calls
unfoldable pub has_calls : List (List ℕ) → Result (Unit {0}) RequestFault
has_calls words =
    if are_calls (drop 1 words) then (if say_objects (drop 1 words) then Ok tt else Err BadNumber)
    else Err BadWords

-- they are one to 64 objects
unfoldable pub has_objects : List (List ℕ) → Result (Unit {0}) RequestFault
has_objects words =
    if nat_le 2 (length words) && nat_le (length words) 65 then (if list_all says_object (drop 1 words) then Ok tt else Err BadNumber)
    else Err BadWords
