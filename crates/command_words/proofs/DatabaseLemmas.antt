-- The commands over a store's file and its objects: where the walk is after their operands, and which operands they take.
use Rattle.std.proofs.Common.{◌≡◌, ◌∙◌, ◌++◌, ap, refl, sym, true, false, Bool, List, [], ◌∷◌, Bor}
use Rattle.std.specs.Prelude.{codes, fold}
use Rattle.clap.specs.Walk.{Row, Walk, arg_by_index, finished, idle, positional, settled, to_positional, with_default}
use Rattle.clap.specs.Kinds.{Kinds, or_else}
use Rattle.clap.specs.Faults.{check_fault, defaults_fault}
use Rattle.clap.specs.Simple.{Shape}
use Rattle.clap.specs.declared.builder.value_parser.ValueParser.TheVariants as parser
use Rattle.clap.specs.declared.error.kind.ErrorKind.TheVariants.{MissingRequiredArgument}
use Rattle.clap.proofs.OnLiterals.{clap_on_literals}
use Rattle.command_words.specs.Program.{database_app, argument_row, store_rows}
use Rattle.command_words.specs.Words.{Text}
use Rattle.command_words.proofs.Leaves.{last_added, last_joined, last_of, leaf_of, waits}
use Rattle.command_words.proofs.OptionLemmas.{holding, never, refuses}
use Rattle.command_words.proofs.LeafLemmas.{IsBetween, Passes, Place, Takes, at, ends, held_at, operand_fault, start}

-- such a command as it is built
abbrev pub database_leaf : Bor (List (Bor Text)) → Text → Shape
database_leaf listed name = leaf_of (parser.Names listed) (database_app name)

-- the rows of DATABASE, OBJECTS and types that were settled
abbrev pub database_rows : Text → Text → List Text → List Row
database_rows database objects types = argument_row (codes "database") database ∷ store_rows objects types

-- the last type waits to be settled
abbrev type_place : Text → Text → List Text × Text → Place
type_place database objects p =
    record { rows = database_rows database objects p.0; pending = waits (codes "types") p.1; position = 3; waiting = positional }

-- where its walk is after these operands
abbrev pub database_place : List Text → Place
database_place [] = start
database_place (database ∷ []) = record { rows = []; pending = waits (codes "database") database; position = 2; waiting = idle }
database_place (database ∷ objects ∷ []) =
    record { rows = argument_row (codes "database") database ∷ []; pending = waits (codes "path") objects; position = 3; waiting = idle }
database_place (database ∷ objects ∷ type ∷ types) = type_place database objects (last_of type types)

-- any operands are taken
abbrev pub DatabaseTook : List Text → Type 0
DatabaseTook operands = Unit {0}

-- between two operands nothing waits for a value
database_between : (listed : Bor (List (Bor Text))) (name : Text) (operands : List Text) → IsBetween (database_leaf listed name) (database_place operands)
database_between listed name [] = record { free = λ _ _. refl; nameless = λ _. refl }
database_between listed name (database ∷ []) = record { free = λ _ _. refl; nameless = λ _. refl }
database_between listed name (database ∷ objects ∷ []) = record { free = λ _ _. refl; nameless = λ _. refl }
database_between listed name (database ∷ objects ∷ type ∷ types) = record { free = λ _ _. refl; nameless = λ _. refl }

-- a type that waited joins those before it
type_settled : (listed : Bor (List (Bor Text))) (name : Text) (database objects : Text) (before : List Text) (word : Text)
    → (settled (database_leaf listed name).rules (holding (database_rows database objects before) (waits (codes "types") word))).rows
    ≡ database_rows database objects (before ++ word ∷ [])
type_settled listed name database objects [] word = refl
type_settled listed name database objects (type ∷ before) word = refl

-- so the rows are those of all types
types_settled : (listed : Bor (List (Bor Text))) (name : Text) (database objects type : Text) (types : List Text)
    → (settled (database_leaf listed name).rules (held_at (type_place database objects (last_of type types)))).rows ≡ database_rows database objects (type ∷ types)
types_settled listed name database objects type types =
    type_settled listed name database objects (last_of type types).0 (last_of type types).1 ∙ ap (database_rows database objects) (last_joined type types)

-- the walk with these rows, where the word waits
abbrev type_walk : Bool → Text → List Row → Walk
type_walk t word rows = at t (record { rows = rows; pending = waits (codes "types") word; position = 3; waiting = positional })

-- a further type moves the walk to the place after it
type_moves : (listed : Bor (List (Bor Text))) (name : Text) (database objects type : Text) (types : List Text) (word : Text) (t : Bool)
    → type_walk t word (settled (database_leaf listed name).rules (held_at (type_place database objects (last_of type types)))).rows
    ≡ at t (type_place database objects (last_of type (types ++ word ∷ [])))
type_moves listed name database objects type types word t =
    ap (type_walk t word) (types_settled listed name database objects type types)
    ∙ ap (λ (p : List Text × Text). at t (type_place database objects p)) (sym (last_added type types word))

-- and so does each operand
database_moves : (listed : Bor (List (Bor Text))) (name : Text) (operands : List Text) (word : Text) (t : Bool) → DatabaseTook operands
    → operand_fault (database_leaf listed name) (database_place operands) ≡ []
    → to_positional (database_leaf listed name).rules (arg_by_index (database_leaf listed name).rules (database_place operands).position) word (at t (database_place operands)) (held_at (database_place operands))
    ≡ at t (database_place (operands ++ word ∷ []))
database_moves listed name [] word true took none = refl
database_moves listed name [] word false took none = refl
database_moves listed name (database ∷ []) word true took none = refl
database_moves listed name (database ∷ []) word false took none = refl
database_moves listed name (database ∷ objects ∷ []) word true took none = refl
database_moves listed name (database ∷ objects ∷ []) word false took none = refl
database_moves listed name (database ∷ objects ∷ type ∷ types) word true took none = type_moves listed name database objects type types word true
database_moves listed name (database ∷ objects ∷ type ∷ types) word false took none = type_moves listed name database objects type types word false

-- the command by its operands
pub database_takes : (listed : Bor (List (Bor Text))) (name : Text) → Takes (database_leaf listed name) database_place DatabaseTook
database_takes listed name = record {
  refuses = refuses _ _ (record { long = λ _. refl; short = λ _. refl });
  between = database_between listed name;
  first = tt;
  next = λ _ _ _ _. tt;
  moves = database_moves listed name;
}

-- no operand comes to a fault
database_clear : (listed : Bor (List (Bor Text))) (name : Text) (operands : List Text) → operand_fault (database_leaf listed name) (database_place operands) ≡ []
database_clear listed name [] = refl
database_clear listed name (database ∷ []) = refl
database_clear listed name (database ∷ objects ∷ []) = refl
database_clear listed name (database ∷ objects ∷ type ∷ types) = refl

-- the faults at the end, by the rows that are settled
abbrev row_faults : Bor (List (Bor Text)) → Text → List Row → Kinds
row_faults listed name rows = or_else (defaults_fault rows (database_leaf listed name).rules)
    (check_fault (database_leaf listed name) (fold with_default rows (database_leaf listed name).rules) false)

-- nor does their end, where there is a type
database_ends : (listed : Bor (List (Bor Text))) (name : Text) (database objects type : Text) (types : List Text)
    → ends (database_leaf listed name) (held_at (database_place (database ∷ objects ∷ type ∷ types))) ≡ []
unfolding clap_on_literals
database_ends listed name database objects type types = ap (row_faults listed name) (types_settled listed name database objects type types)

-- no fault comes of types after DATABASE, OBJECTS and a type
types_pass : (listed : Bor (List (Bor Text))) (name : Text) (database objects type : Text) (before rest : List Text)
    → Passes (database_leaf listed name) database_place DatabaseTook (database_takes listed name) (database ∷ objects ∷ type ∷ before) rest
types_pass listed name database objects type before [] = database_ends listed name database objects type before
types_pass listed name database objects type before (word ∷ rest) =
    (database_clear listed name (database ∷ objects ∷ type ∷ before), types_pass listed name database objects type (before ++ word ∷ []) rest)

-- nor of DATABASE, OBJECTS and types
pub database_passes : (listed : Bor (List (Bor Text))) (name : Text) (database objects type : Text) (types : List Text)
    → Passes (database_leaf listed name) database_place DatabaseTook (database_takes listed name) [] (database ∷ objects ∷ type ∷ types)
database_passes listed name database objects type types = (refl, (refl, (refl, types_pass listed name database objects type [] types)))

-- operands that come to no fault are DATABASE, OBJECTS and types, of which there are some
pub record AreDatabaseWords (rows : List Row) (operands : List Text) : Type 0 where
  pub database : Text
  pub objects : Text
  pub type : Text
  pub types : List Text
  pub words : operands ≡ database ∷ objects ∷ type ∷ types
  pub entry : rows ≡ database_rows database objects (type ∷ types)

pub database_answers : (listed : Bor (List (Bor Text))) (name : Text) (operands : List Text) → ends (database_leaf listed name) (held_at (database_place operands)) ≡ []
    → AreDatabaseWords (finished (database_leaf listed name).rules (held_at (database_place operands))) operands
unfolding clap_on_literals
database_answers listed name [] none = absurd (never MissingRequiredArgument [] none)
database_answers listed name (database ∷ []) none = absurd (never MissingRequiredArgument [] none)
database_answers listed name (database ∷ objects ∷ []) none = absurd (never MissingRequiredArgument [] none)
database_answers listed name (database ∷ objects ∷ type ∷ types) none = record {
  database = database;
  objects = objects;
  type = type;
  types = types;
  words = refl;
  entry = ap (λ (rows : List Row). fold with_default rows (database_leaf listed name).rules) (types_settled listed name database objects type types);
}
