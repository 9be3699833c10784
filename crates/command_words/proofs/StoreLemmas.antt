-- The commands over a store's objects that take a first file and the files of types, and no options: where the walk is after
-- their operands, and which operands they take.
use Rattle.std.proofs.Common.{◌≡◌, ◌∙◌, ◌++◌, ap, refl, sym, true, false, Bool, List, [], ◌∷◌, Bor}
use Rattle.std.specs.Prelude.{codes, fold}
use Rattle.clap.specs.Walk.{Row, Walk, arg_by_index, idle, positional, settled, to_positional, with_default}
use Rattle.clap.specs.Kinds.{Kinds, or_else}
use Rattle.clap.specs.Faults.{check_fault, defaults_fault}
use Rattle.clap.specs.Simple.{Shape}
use Rattle.clap.specs.declared.builder.value_parser.ValueParser.TheVariants as parser
use Rattle.clap.specs.declared.error.kind.ErrorKind.TheVariants.{MissingRequiredArgument}
use Rattle.clap.proofs.OnLiterals.{clap_on_literals}
use Rattle.command_words.specs.Program.{store_app, store_rows}
use Rattle.command_words.specs.Words.{Text}
use Rattle.command_words.proofs.Leaves.{last_added, last_joined, last_of, leaf_of, waits}
use Rattle.command_words.proofs.OptionLemmas.{holding, never, refuses}
use Rattle.command_words.proofs.LeafLemmas.{IsBetween, Passes, Place, Takes, at, ends, held_at, operand_fault, start}

-- such a command as it is built
abbrev pub store_leaf : Bor (List (Bor Text)) → Text → Shape
store_leaf listed name = leaf_of (parser.Names listed) (store_app name)

-- the last type waits to be settled
abbrev type_place : Text → List Text × Text → Place
type_place path p = record { rows = store_rows path p.0; pending = waits (codes "types") p.1; position = 2; waiting = positional }

-- where its walk is after these operands
abbrev pub store_place : List Text → Place
store_place [] = start
store_place (path ∷ []) = record { rows = []; pending = waits (codes "path") path; position = 2; waiting = idle }
store_place (path ∷ type ∷ types) = type_place path (last_of type types)

-- any operands are taken
abbrev pub StoreTook : List Text → Type 0
StoreTook operands = Unit {0}

-- between two operands nothing waits for a value
store_between : (listed : Bor (List (Bor Text))) (name : Text) (operands : List Text) → IsBetween (store_leaf listed name) (store_place operands)
store_between listed name [] = record { free = λ _ _. refl; nameless = λ _. refl }
store_between listed name (path ∷ []) = record { free = λ _ _. refl; nameless = λ _. refl }
store_between listed name (path ∷ type ∷ types) = record { free = λ _ _. refl; nameless = λ _. refl }

-- a type that waited joins those before it
type_settled : (listed : Bor (List (Bor Text))) (name path : Text) (before : List Text) (word : Text)
    → (settled (store_leaf listed name).rules (holding (store_rows path before) (waits (codes "types") word))).rows ≡ store_rows path (before ++ word ∷ [])
type_settled listed name path [] word = refl
type_settled listed name path (type ∷ before) word = refl

-- so the rows are those of all types
types_settled : (listed : Bor (List (Bor Text))) (name path type : Text) (types : List Text)
    → (settled (store_leaf listed name).rules (held_at (type_place path (last_of type types)))).rows ≡ store_rows path (type ∷ types)
types_settled listed name path type types =
    type_settled listed name path (last_of type types).0 (last_of type types).1 ∙ ap (store_rows path) (last_joined type types)

-- the walk with these rows, where the word waits
abbrev type_walk : Bool → Text → List Row → Walk
type_walk t word rows = at t (record { rows = rows; pending = waits (codes "types") word; position = 2; waiting = positional })

-- a further type moves the walk to the place after it
type_moves : (listed : Bor (List (Bor Text))) (name path type : Text) (types : List Text) (word : Text) (t : Bool)
    → type_walk t word (settled (store_leaf listed name).rules (held_at (type_place path (last_of type types)))).rows
    ≡ at t (type_place path (last_of type (types ++ word ∷ [])))
type_moves listed name path type types word t =
    ap (type_walk t word) (types_settled listed name path type types)
    ∙ ap (λ (p : List Text × Text). at t (type_place path p)) (sym (last_added type types word))

-- and so does each operand
store_moves : (listed : Bor (List (Bor Text))) (name : Text) (operands : List Text) (word : Text) (t : Bool) → StoreTook operands
    → operand_fault (store_leaf listed name) (store_place operands) ≡ []
    → to_positional (store_leaf listed name).rules (arg_by_index (store_leaf listed name).rules (store_place operands).position) word (at t (store_place operands)) (held_at (store_place operands))
    ≡ at t (store_place (operands ++ word ∷ []))
store_moves listed name [] word true took none = refl
store_moves listed name [] word false took none = refl
store_moves listed name (path ∷ []) word true took none = refl
store_moves listed name (path ∷ []) word false took none = refl
store_moves listed name (path ∷ type ∷ types) word true took none = type_moves listed name path type types word true
store_moves listed name (path ∷ type ∷ types) word false took none = type_moves listed name path type types word false

-- the command by its operands
pub store_takes : (listed : Bor (List (Bor Text))) (name : Text) → Takes (store_leaf listed name) store_place StoreTook
store_takes listed name = record {
  refuses = refuses _ _ (record { long = λ _. refl; short = λ _. refl });
  between = store_between listed name;
  first = tt;
  next = λ _ _ _ _. tt;
  moves = store_moves listed name;
}

-- no operand comes to a fault
store_clear : (listed : Bor (List (Bor Text))) (name : Text) (operands : List Text) → operand_fault (store_leaf listed name) (store_place operands) ≡ []
store_clear listed name [] = refl
store_clear listed name (path ∷ []) = refl
store_clear listed name (path ∷ type ∷ types) = refl

-- the faults at the end, by the rows that are settled
abbrev row_faults : Bor (List (Bor Text)) → Text → List Row → Kinds
row_faults listed name rows = or_else (defaults_fault rows (store_leaf listed name).rules)
    (check_fault (store_leaf listed name) (fold with_default rows (store_leaf listed name).rules) false)

-- nor does their end, where there is a type
pub store_ends : (listed : Bor (List (Bor Text))) (name path type : Text) (types : List Text)
    → ends (store_leaf listed name) (held_at (store_place (path ∷ type ∷ types))) ≡ []
unfolding clap_on_literals
store_ends listed name path type types = ap (row_faults listed name) (types_settled listed name path type types)

-- no fault comes of types after the first file and a type
types_pass : (listed : Bor (List (Bor Text))) (name path type : Text) (before rest : List Text)
    → Passes (store_leaf listed name) store_place StoreTook (store_takes listed name) (path ∷ type ∷ before) rest
types_pass listed name path type before [] = store_ends listed name path type before
types_pass listed name path type before (word ∷ rest) =
    (store_clear listed name (path ∷ type ∷ before), types_pass listed name path type (before ++ word ∷ []) rest)

-- nor of a first file and types
pub store_passes : (listed : Bor (List (Bor Text))) (name path type : Text) (types : List Text)
    → Passes (store_leaf listed name) store_place StoreTook (store_takes listed name) [] (path ∷ type ∷ types)
store_passes listed name path type types = (refl, (refl, types_pass listed name path type [] types))

-- operands that come to no fault are a first file and types, of which there are some
pub record AreStoreWords (s : Shape) (rows : List Row) (operands : List Text) : Type 0 where
  pub path : Text
  pub type : Text
  pub types : List Text
  pub words : operands ≡ path ∷ type ∷ types
  pub entry : rows ≡ store_rows path (type ∷ types)

-- the rows at the end, by those that are settled
abbrev pub end_rows : Bor (List (Bor Text)) → Text → List Row → List Row
end_rows listed name rows = fold with_default rows (store_leaf listed name).rules

pub store_answers : (listed : Bor (List (Bor Text))) (name : Text) (operands : List Text) → ends (store_leaf listed name) (held_at (store_place operands)) ≡ []
    → AreStoreWords (store_leaf listed name) (end_rows listed name (settled (store_leaf listed name).rules (held_at (store_place operands))).rows) operands
unfolding clap_on_literals
store_answers listed name [] none = absurd (never MissingRequiredArgument [] none)
store_answers listed name (path ∷ []) none = absurd (never MissingRequiredArgument [] none)
store_answers listed name (path ∷ type ∷ types) none = record {
  path = path;
  type = type;
  types = types;
  words = refl;
  entry = ap (end_rows listed name) (types_settled listed name path type types);
}
