-- The commands over one file: where the walk is after their operands, and which operands they take.
use Rattle.std.proofs.Common.{◌≡◌, ◌++◌, refl, true, false, Bool, List, [], ◌∷◌, Bor}
use Rattle.std.specs.Prelude.{codes}
use Rattle.clap.specs.Walk.{Row, arg_by_index, finished, idle, to_positional}
use Rattle.clap.specs.Simple.{Shape}
use Rattle.clap.specs.declared.builder.value_parser.ValueParser.TheVariants as parser
use Rattle.clap.specs.declared.error.kind.ErrorKind.TheVariants.{MissingRequiredArgument, UnknownArgument}
use Rattle.clap.proofs.OnLiterals.{clap_on_literals}
use Rattle.command_words.specs.Program.{file_app, argument_row}
use Rattle.command_words.specs.Words.{Text}
use Rattle.command_words.proofs.Leaves.{leaf_of, waits}
use Rattle.command_words.proofs.OptionLemmas.{never, refuses}
use Rattle.command_words.proofs.LeafLemmas.{IsBetween, Passes, Place, Takes, at, ends, held_at, operand_fault, start}

-- such a command as it is built
abbrev pub file_leaf : Bor (List (Bor Text)) → Text → Shape
file_leaf listed name = leaf_of (parser.Names listed) (file_app name)

-- where its walk is after these operands
abbrev pub file_place : List Text → Place
file_place [] = start
file_place (path ∷ rest) = record { rows = []; pending = waits (codes "path") path; position = 2; waiting = idle }

-- at most one operand
abbrev pub FileTook : List Text → Type 0
FileTook [] = Unit {0}
FileTook (path ∷ []) = Unit {0}
FileTook (path ∷ more ∷ rest) = ⊥

-- between two operands nothing waits for a value
file_between : (listed : Bor (List (Bor Text))) (name : Text) (operands : List Text) → IsBetween (file_leaf listed name) (file_place operands)
file_between listed name [] = record { free = λ _ _. refl; nameless = λ _. refl }
file_between listed name (path ∷ rest) = record { free = λ _ _. refl; nameless = λ _. refl }

-- an operand that comes to no fault is taken
file_next : (listed : Bor (List (Bor Text))) (name : Text) (operands : List Text) (word : Text) → FileTook operands
    → operand_fault (file_leaf listed name) (file_place operands) ≡ [] → FileTook (operands ++ word ∷ [])
file_next listed name [] word took none = tt
file_next listed name (path ∷ []) word took none = never UnknownArgument [] none
file_next listed name (path ∷ more ∷ rest) word took none = took

-- and moves the walk to the place after it
file_moves : (listed : Bor (List (Bor Text))) (name : Text) (operands : List Text) (word : Text) (t : Bool) → FileTook operands
    → operand_fault (file_leaf listed name) (file_place operands) ≡ []
    → to_positional (file_leaf listed name).rules (arg_by_index (file_leaf listed name).rules (file_place operands).position) word (at t (file_place operands)) (held_at (file_place operands))
    ≡ at t (file_place (operands ++ word ∷ []))
file_moves listed name [] word true took none = refl
file_moves listed name [] word false took none = refl
file_moves listed name (path ∷ []) word t took none = absurd (never UnknownArgument [] none)
file_moves listed name (path ∷ more ∷ rest) word t took none = absurd took

-- the command by its operands
pub file_takes : (listed : Bor (List (Bor Text))) (name : Text) → Takes (file_leaf listed name) file_place FileTook
file_takes listed name = record {
  refuses = refuses _ _ (record { long = λ _. refl; short = λ _. refl });
  between = file_between listed name;
  first = tt;
  next = file_next listed name;
  moves = file_moves listed name;
}

-- no fault comes of one file
pub file_passes : (listed : Bor (List (Bor Text))) (name path : Text)
    → Passes (file_leaf listed name) file_place FileTook (file_takes listed name) [] (path ∷ [])
unfolding clap_on_literals
file_passes listed name path = (refl, refl)

-- operands that come to no fault are a path
pub record AreFileWords (rows : List Row) (operands : List Text) : Type 0 where
  pub path : Text
  pub words : operands ≡ path ∷ []
  pub entry : rows ≡ argument_row (codes "path") path ∷ []

pub file_answers : (listed : Bor (List (Bor Text))) (name : Text) (operands : List Text) → FileTook operands
    → ends (file_leaf listed name) (held_at (file_place operands)) ≡ []
    → AreFileWords (finished (file_leaf listed name).rules (held_at (file_place operands))) operands
unfolding clap_on_literals
file_answers listed name [] took none = absurd (never MissingRequiredArgument [] none)
file_answers listed name (path ∷ []) took none = record { path = path; words = refl; entry = refl }
file_answers listed name (path ∷ more ∷ rest) took none = absurd took
