-- `explain`: where the walk is after its operands, and which operands it takes.
use Rattle.std.proofs.Common.{◌≡◌, ◌++◌, ◌==◌, arith, refl, true, false, Bool, List, [], ◌∷◌, Bor}
use Rattle.std.proofs.lemmas.Bool.{ne_eqb}
use Rattle.std.specs.Prelude.{codes, length, Some}
use Rattle.clap.specs.Walk.{Row, arg_by_index, finished, idle, positional, to_positional}
use Rattle.clap.specs.Kinds.{or_else, range_kinds, value_kinds}
use Rattle.clap.specs.Simple.{Shape}
use Rattle.clap.specs.declared.builder.value_parser.ValueParser.TheVariants as parser
use Rattle.clap.specs.declared.error.kind.ErrorKind.TheVariants.{MissingRequiredArgument, WrongNumberOfValues}
use Rattle.clap.proofs.OnLiterals.{clap_on_literals}
use Rattle.command_words.specs.Program.{explain_app, list_rows, argument_row}
use Rattle.command_words.specs.Words.{Text}
use Rattle.command_words.proofs.Leaves.{leaf_of, waits}
use Rattle.command_words.proofs.OptionLemmas.{never, or_else_none, refuses}
use Rattle.command_words.proofs.LeafLemmas.{IsBetween, Passes, Place, Takes, at, both_none, ends, held_at, operand_fault, start}

-- `explain` as it is built
abbrev pub explain_leaf : Bor (List (Bor Text)) → Shape
explain_leaf listed = leaf_of (parser.Names listed) (explain_app (parser.Names listed))

-- the rows of KIND and FILE that were settled, and of the operations
abbrev pub explain_rows : Text → Text → List Text → List Row
explain_rows kind path words = argument_row (codes "kind") kind ∷ argument_row (codes "path") path ∷ list_rows (codes "pair") words

-- where its walk is after these operands: the operations wait together
abbrev pub explain_place : List Text → Place
explain_place [] = start
explain_place (kind ∷ []) = record { rows = []; pending = waits (codes "kind") kind; position = 2; waiting = idle }
explain_place (kind ∷ path ∷ []) =
    record { rows = argument_row (codes "kind") kind ∷ []; pending = waits (codes "path") path; position = 3; waiting = idle }
explain_place (kind ∷ path ∷ p ∷ more) =
    record { rows = explain_rows kind path []; pending = Some (codes "pair", p ∷ more); position = 3; waiting = positional }

-- the first is a kind once the second was taken
abbrev pub ExplainTook : Bor (List (Bor Text)) → List Text → Type 0
ExplainTook listed [] = Unit {0}
ExplainTook listed (kind ∷ []) = Unit {0}
ExplainTook listed (kind ∷ path ∷ more) = value_kinds false (parser.Names listed) kind ≡ []

-- between two operands nothing waits for a value
explain_between : (listed : Bor (List (Bor Text))) (operands : List Text) → IsBetween (explain_leaf listed) (explain_place operands)
explain_between listed [] = record { free = λ _ _. refl; nameless = λ _. refl }
explain_between listed (kind ∷ []) = record { free = λ _ _. refl; nameless = λ _. refl }
explain_between listed (kind ∷ path ∷ []) = record { free = λ _ _. refl; nameless = λ _. refl }
explain_between listed (kind ∷ path ∷ p ∷ more) = record { free = λ _ _. refl; nameless = λ _. refl }

-- an operand that comes to no fault is taken
explain_next : (listed : Bor (List (Bor Text))) (operands : List Text) (word : Text) → ExplainTook listed operands
    → operand_fault (explain_leaf listed) (explain_place operands) ≡ [] → ExplainTook listed (operands ++ word ∷ [])
explain_next listed [] word took none = tt
explain_next listed (kind ∷ []) word took none = (or_else_none (value_kinds false (parser.Names listed) kind) [] none).0
explain_next listed (kind ∷ path ∷ more) word took none = took

-- and moves the walk to the place after it
explain_moves : (listed : Bor (List (Bor Text))) (operands : List Text) (word : Text) (t : Bool) → ExplainTook listed operands
    → operand_fault (explain_leaf listed) (explain_place operands) ≡ []
    → to_positional (explain_leaf listed).rules (arg_by_index (explain_leaf listed).rules (explain_place operands).position) word (at t (explain_place operands)) (held_at (explain_place operands))
    ≡ at t (explain_place (operands ++ word ∷ []))
explain_moves listed [] word true took none = refl
explain_moves listed [] word false took none = refl
explain_moves listed (kind ∷ []) word true took none = refl
explain_moves listed (kind ∷ []) word false took none = refl
explain_moves listed (kind ∷ path ∷ []) word true took none = refl
explain_moves listed (kind ∷ path ∷ []) word false took none = refl
explain_moves listed (kind ∷ path ∷ p ∷ more) word true took none = refl
explain_moves listed (kind ∷ path ∷ p ∷ more) word false took none = refl

-- `explain` by its operands
pub explain_takes : (listed : Bor (List (Bor Text))) → Takes (explain_leaf listed) explain_place (ExplainTook listed)
explain_takes listed = record {
  refuses = refuses _ _ (record { long = λ _. refl; short = λ _. refl });
  between = explain_between listed;
  first = tt;
  next = explain_next listed;
  moves = explain_moves listed;
}

-- ---- both operations or neither

-- two values are two
two_values : (p : Text) (more : List Text) → range_kinds 2 2 (length (p ∷ more)) ≡ [] → (q : Text) × (more ≡ q ∷ [])
two_values p [] none = absurd (never WrongNumberOfValues [] none)
two_values p (q ∷ []) none = (q, refl)
two_values p (q ∷ r ∷ rest) none =
    let many : (length (p ∷ q ∷ r ∷ rest) == 0) ≡ false = ne_eqb (length (p ∷ q ∷ r ∷ rest)) 0 (λ same. omega (arith, same)) in
    let wrong : (2 == length (p ∷ q ∷ r ∷ rest)) ≡ false = ne_eqb 2 (length (p ∷ q ∷ r ∷ rest)) (λ same. omega (arith, same)) in
    absurd (never WrongNumberOfValues [] (simp (many, wrong) at none))

-- operands that come to no fault are a kind, a path, and two operations or none
pub data AreExplainWords (listed : Bor (List (Bor Text))) (rows : List Row) : List Text → Type 0 where
  all : (kind path : Text) → value_kinds false (parser.Names listed) kind ≡ [] → rows ≡ explain_rows kind path [] → AreExplainWords listed rows (kind ∷ path ∷ [])
  pair : (kind path p q : Text) → value_kinds false (parser.Names listed) kind ≡ [] → rows ≡ explain_rows kind path (p ∷ q ∷ [])
      → AreExplainWords listed rows (kind ∷ path ∷ p ∷ q ∷ [])

-- where operations come to no fault, they are two
pair_answers : (listed : Bor (List (Bor Text))) (kind path p : Text) (more : List Text) → value_kinds false (parser.Names listed) kind ≡ [] → (q : Text) × (more ≡ q ∷ [])
    → AreExplainWords listed (finished (explain_leaf listed).rules (held_at (explain_place (kind ∷ path ∷ p ∷ more)))) (kind ∷ path ∷ p ∷ more)
unfolding clap_on_literals
pair_answers listed kind path p [] took two = absurd cc
pair_answers listed kind path p (q ∷ []) took two = pair kind path p q took refl
pair_answers listed kind path p (q ∷ r ∷ rest) took two = absurd cc

pub explain_answers : (listed : Bor (List (Bor Text))) (operands : List Text) → ExplainTook listed operands
    → ends (explain_leaf listed) (held_at (explain_place operands)) ≡ []
    → AreExplainWords listed (finished (explain_leaf listed).rules (held_at (explain_place operands))) operands
unfolding clap_on_literals
explain_answers listed [] took none = absurd (never MissingRequiredArgument [] none)
explain_answers listed (kind ∷ []) took none =
    absurd (never MissingRequiredArgument [] (or_else_none (or_else (value_kinds false (parser.Names listed) kind) []) (MissingRequiredArgument ∷ []) none).1)
explain_answers listed (kind ∷ path ∷ []) took none = all kind path took refl
explain_answers listed (kind ∷ path ∷ p ∷ more) took none =
    pair_answers listed kind path p more took (two_values p more (or_else_none _ _ (or_else_none _ _ none).0).0)

-- no fault comes of the word of a kind and a path
pub explain_passes : (listed : Bor (List (Bor Text))) (kind path : Text) → value_kinds false (parser.Names listed) kind ≡ []
    → Passes (explain_leaf listed) explain_place (ExplainTook listed) (explain_takes listed) [] (kind ∷ path ∷ [])
unfolding clap_on_literals
explain_passes listed kind path offered = (refl, (both_none (value_kinds false (parser.Names listed) kind) [] offered refl, refl))

-- nor of two operations after them
pub pair_passes : (listed : Bor (List (Bor Text))) (kind path p q : Text) → value_kinds false (parser.Names listed) kind ≡ []
    → Passes (explain_leaf listed) explain_place (ExplainTook listed) (explain_takes listed) [] (kind ∷ path ∷ p ∷ q ∷ [])
unfolding clap_on_literals
pair_passes listed kind path p q offered =
    (refl, (both_none (value_kinds false (parser.Names listed) kind) [] offered refl, (refl, (refl, refl))))
