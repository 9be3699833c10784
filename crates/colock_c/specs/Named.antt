-- What is read of a type behind a handle.
use Rattle.std.specs.Prelude.{◌≡◌, ℕ, List, Option, Some}
use Rattle.table_checker.specs.Checked.{Checked}
use Rattle.declared_types.specs.declared.declared_type.Declaration.{Declaration}
use Rattle.library_calls.specs.Codes.{number}
use Rattle.library_calls.specs.Holding.{type_at}
use Rattle.library_calls.specs.Named.{IsFoundPut, IsPut, IsStep, TellsConflictOf, call_name_of, reply_name_of}
use Rattle.library_calls.specs.Operations.{IsDeclaredBy}
use Rattle.library_calls.specs.Words.{shape_of}
use Rattle.library_calls.specs.declared.code.Code.TheVariants.{Done}
use Rattle.library_calls.specs.declared.held.Held.{Held}
use Rattle.library_calls.specs.declared.words.ColockShape.{ColockShape}

abbrev pub IsShaped : Option Held → ℕ → ColockShape → Type 0
IsShaped held n shape =
    (c : Checked) → type_at held ≡ Some c → (n ≡ number Done) × (declaration : Declaration) × IsDeclaredBy c declaration × (shape ≡ shape_of c.kind declaration)

abbrev pub NamesType : Option Held → List ℕ → ℕ → List ℕ → ℕ → Type 0
NamesType held old n new count = (c : Checked) → type_at held ≡ Some c → IsPut c.file.table.name old n new count

abbrev pub NamesCall : Option Held → ℕ → List ℕ → ℕ → List ℕ → ℕ → Type 0
NamesCall held k old n new count =
    (c : Checked) → type_at held ≡ Some c → (declaration : Declaration) × IsDeclaredBy c declaration × IsFoundPut (call_name_of declaration k) old n new count

abbrev pub NamesReply : Option Held → ℕ → List ℕ → ℕ → List ℕ → ℕ → Type 0
NamesReply held k old n new count =
    (c : Checked) → type_at held ≡ Some c → (declaration : Declaration) × IsDeclaredBy c declaration × IsFoundPut (reply_name_of declaration k) old n new count

abbrev pub TellsStep : Option Held → ℕ → ℕ → ℕ → ℕ → Type 0
TellsStep held s k n to = (c : Checked) → type_at held ≡ Some c → IsStep c.file.table s k n to

abbrev pub TellsConflict : Option Held → ℕ → ℕ → ℕ → ℕ → Type 0
TellsConflict held p q n told = (c : Checked) → type_at held ≡ Some c → TellsConflictOf c p q n told
