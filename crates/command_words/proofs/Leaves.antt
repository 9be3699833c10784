-- Subcommands as they are built, values that wait to be settled, and lists that grow at their end.
use Rattle.std.proofs.Common.{◌≡◌, ◌++◌, ap, refl, List, [], ◌∷◌}
use Rattle.std.specs.Prelude.{Some, Option}
use Rattle.clap.specs.Simple.{App, Shape, built_leaf, inherited, marked_built, on_top}
use Rattle.clap.specs.declared.builder.value_parser.ValueParser.{ValueParser}
use Rattle.command_words.specs.Program.{program}
use Rattle.command_words.specs.Words.{Text}

-- a subcommand as it is built
abbrev pub leaf_of : ValueParser → App → Shape
leaf_of kinds app = built_leaf (inherited (on_top marked_built (program kinds)).top app.top)

-- the value of an argument that waits to be settled
abbrev pub waits : Text → Text → Option (Text × List Text)
waits id word = Some (id, word ∷ [])

-- a list without its last element, and that element
abbrev pub last_of : Text → List Text → List Text × Text
last_of x [] = ([], x)
last_of x (y ∷ ys) = (x ∷ (last_of y ys).0, (last_of y ys).1)

-- the last element is the one that was put last
pub last_added : (x : Text) (ys : List Text) (word : Text) → last_of x (ys ++ word ∷ []) ≡ (x ∷ ys, word)
last_added x [] word = refl
last_added x (y ∷ ys) word = ap (λ (p : List Text × Text). (x ∷ p.0, p.1)) (last_added y ys word)

-- a list is its beginning and its last element
pub last_joined : (x : Text) (ys : List Text) → (last_of x ys).0 ++ (last_of x ys).1 ∷ [] ≡ x ∷ ys
last_joined x [] = refl
last_joined x (y ∷ ys) = ap (λ (items : List Text). x ∷ items) (last_joined y ys)
