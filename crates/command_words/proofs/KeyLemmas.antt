-- The commands over a store's file and a key: where the walk is after their operands, and which operands they take.
use Rattle.std.proofs.Common.{◌≡◌, ◌++◌, refl, true, false, Bool, List, [], ◌∷◌, Bor}
use Rattle.std.specs.Prelude.{codes}
use Rattle.clap.specs.Walk.{Row, arg_by_index, finished, idle, to_positional}
use Rattle.clap.specs.Simple.{Shape}
use Rattle.clap.specs.declared.builder.value_parser.ValueParser.TheVariants as parser
use Rattle.clap.specs.declared.error.kind.ErrorKind.TheVariants.{MissingRequiredArgument, UnknownArgument}
use Rattle.clap.proofs.OnLiterals.{clap_on_literals}
use Rattle.command_words.specs.Program.{key_app, argument_row}
use Rattle.command_words.specs.Words.{Text}
use Rattle.command_words.proofs.Leaves.{leaf_of, waits}
use Rattle.command_words.proofs.OptionLemmas.{never, refuses}
use Rattle.command_words.proofs.LeafLemmas.{IsBetween, Passes, Place, Takes, at, ends, held_at, operand_fault, start}

-- such a command as it is built
abbrev pub key_leaf : Bor (List (Bor Text)) → Text → Shape
key_leaf listed name = leaf_of (parser.Names listed) (key_app name)

-- the rows of DATABASE and KEY
abbrev pub key_rows : Text → Text → List Row
key_rows path key = argument_row (codes "path") path ∷ argument_row (codes "key") key ∷ []

-- where its walk is after these operands
abbrev pub key_place : List Text → Place
key_place [] = start
key_place (path ∷ []) = record { rows = []; pending = waits (codes "path") path; position = 2; waiting = idle }
key_place (path ∷ key ∷ rest) = record { rows = argument_row (codes "path") path ∷ []; pending = waits (codes "key") key; position = 3; waiting = idle }

-- at most two operands
abbrev pub KeyTook : List Text → Type 0
KeyTook [] = Unit {0}
KeyTook (path ∷ []) = Unit {0}
KeyTook (path ∷ key ∷ []) = Unit {0}
KeyTook (path ∷ key ∷ more ∷ rest) = ⊥

-- between two operands nothing waits for a value
key_between : (listed : Bor (List (Bor Text))) (name : Text) (operands : List Text) → IsBetween (key_leaf listed name) (key_place operands)
key_between listed name [] = record { free = λ _ _. refl; nameless = λ _. refl }
key_between listed name (path ∷ []) = record { free = λ _ _. refl; nameless = λ _. refl }
key_between listed name (path ∷ key ∷ rest) = record { free = λ _ _. refl; nameless = λ _. refl }

-- an operand that comes to no fault is taken
key_next : (listed : Bor (List (Bor Text))) (name : Text) (operands : List Text) (word : Text) → KeyTook operands
    → operand_fault (key_leaf listed name) (key_place operands) ≡ [] → KeyTook (operands ++ word ∷ [])
key_next listed name [] word took none = tt
key_next listed name (path ∷ []) word took none = tt
key_next listed name (path ∷ key ∷ []) word took none = never UnknownArgument [] none
key_next listed name (path ∷ key ∷ more ∷ rest) word took none = took

-- and moves the walk to the place after it
key_moves : (listed : Bor (List (Bor Text))) (name : Text) (operands : List Text) (word : Text) (t : Bool) → KeyTook operands
    → operand_fault (key_leaf listed name) (key_place operands) ≡ []
    → to_positional (key_leaf listed name).rules (arg_by_index (key_leaf listed name).rules (key_place operands).position) word (at t (key_place operands)) (held_at (key_place operands))
    ≡ at t (key_place (operands ++ word ∷ []))
key_moves listed name [] word true took none = refl
key_moves listed name [] word false took none = refl
key_moves listed name (path ∷ []) word true took none = refl
key_moves listed name (path ∷ []) word false took none = refl
key_moves listed name (path ∷ key ∷ []) word t took none = absurd (never UnknownArgument [] none)
key_moves listed name (path ∷ key ∷ more ∷ rest) word t took none = absurd took

-- the command by its operands
pub key_takes : (listed : Bor (List (Bor Text))) (name : Text) → Takes (key_leaf listed name) key_place KeyTook
key_takes listed name = record {
  refuses = refuses _ _ (record { long = λ _. refl; short = λ _. refl });
  between = key_between listed name;
  first = tt;
  next = key_next listed name;
  moves = key_moves listed name;
}

-- no fault comes of a path and a key
pub key_passes : (listed : Bor (List (Bor Text))) (name path key : Text)
    → Passes (key_leaf listed name) key_place KeyTook (key_takes listed name) [] (path ∷ key ∷ [])
unfolding clap_on_literals
key_passes listed name path key = (refl, (refl, refl))

-- operands that come to no fault are a path and a key
pub record AreKeyWords (rows : List Row) (operands : List Text) : Type 0 where
  pub path : Text
  pub key : Text
  pub words : operands ≡ path ∷ key ∷ []
  pub entry : rows ≡ key_rows path key

pub key_answers : (listed : Bor (List (Bor Text))) (name : Text) (operands : List Text) → KeyTook operands
    → ends (key_leaf listed name) (held_at (key_place operands)) ≡ []
    → AreKeyWords (finished (key_leaf listed name).rules (held_at (key_place operands))) operands
unfolding clap_on_literals
key_answers listed name [] took none = absurd (never MissingRequiredArgument [] none)
key_answers listed name (path ∷ []) took none = absurd (never MissingRequiredArgument [] none)
key_answers listed name (path ∷ key ∷ []) took none = record { path = path; key = key; words = refl; entry = refl }
key_answers listed name (path ∷ key ∷ more ∷ rest) took none = absurd took
