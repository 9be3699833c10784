-- What `check KIND FILE` answers.
use Rattle.std.specs.Prelude.{◌≡◌, ◌⊎◌, ◌↔◌, ℕ, Bool, true, false, List, [], ◌∷◌, ◌++◌, Option, Result, MatchResult, codes}
use Rattle.command_files.specs.Answers.{Answers, IsEarlyFault}
use Rattle.command_files.specs.Files.{IsDeclaredAt, IsFaultyDeclaration}
use Rattle.command_files.specs.Refusals.{no_line}
use Rattle.command_files.specs.declared.fault.Fault.{Fault}
use Rattle.command_files.specs.declared.fault.Fault.TheVariants as faults
use Rattle.command_files.specs.declared.status.Verdict.TheVariants.{Yes, No}
use Rattle.declared_text.specs.Declared.{Declares}
use Rattle.table_checker.specs.Checked.{IsStrong}
use Rattle.declared_types.specs.Declarations.{IsDeclaredFor, file_of}
use Rattle.table_checker.specs.Laws.{CoversType}
use Rattle.table_checker.specs.Refusal.{IsFirstReason}
use Rattle.declared_types.specs.declared.declared_type.Declaration.{Declaration}
use Rattle.table_checker.specs.declared.refusal.CheckRefusal.{CheckRefusal}
use Rattle.type_table.specs.declared.kind.Kind.{Kind}
use Rattle.declared_types.specs.declared.type_file.TypeFile.{TypeFile}

-- the line of a yes, which is strong or not
abbrev pub yes_line : Bool → List ℕ
yes_line true = codes "yes strong" ++ 10 ∷ []
yes_line false = codes "yes one-way" ++ 10 ∷ []

-- the file's conflict table for the kind covers its type, over all lists of operations, and the text is the line that says whether the yes
-- is strong
pub record SaysYes (kind : Kind) (file : TypeFile) (text : List ℕ) : Type 0 where
  pub strong : Bool
  pub is_strong : (strong ≡ true) ↔ IsStrong (record { kind = kind; file = file })
  pub covers : CoversType kind file
  pub line : text ≡ yes_line strong

-- the text is the line of the first reason why the file is refused
pub record SaysNo (kind : Kind) (file : TypeFile) (text : List ℕ) : Type 0 where
  pub refusal : CheckRefusal
  pub first : IsFirstReason kind file refusal
  pub line : text ≡ no_line refusal

-- the answer to a file
abbrev pub SaysOf : Kind → TypeFile → Answers
SaysOf kind file Yes text = SaysYes kind file text
SaysOf kind file No text = SaysNo kind file text

-- the answer to what is declared at a path, by what is held there: a number is asked about for escrow alone
abbrev pub ChecksFile : Option (List ℕ) → Kind → Answers
ChecksFile held kind verdict text =
    (declaration : Declaration) × IsDeclaredAt held declaration × IsDeclaredFor kind declaration × SaysOf kind (file_of declaration) verdict text

-- ---- what has no answer

-- the text declares a number, and the kind isn't escrow
abbrev pub NeedsEscrow : Kind → List ℕ → Type 0
NeedsEscrow kind text = (declaration : Declaration) × Declares text declaration × (IsDeclaredFor kind declaration → ⊥)

-- or it has a fault
abbrev pub CannotBeChecked : Kind → List ℕ → Type 0
CannotBeChecked kind text = IsFaultyDeclaration text ⊎ NeedsEscrow kind text

-- the fault says of this path that a number needs escrow, or nothing of its text
abbrev pub TellsEscrow : List ℕ → Fault → Type 0
TellsEscrow path (faults.NeedsEscrow named) = named.now ≡ path
TellsEscrow path fault = IsEarlyFault ⊥ fault

-- there is no answer, and such a fault
abbrev pub IsToldEscrow : {A : Type 0} → List ℕ → Result A Fault → Type 0
IsToldEscrow path result = MatchResult result (λ answer. ⊥) (TellsEscrow path)
