-- What the checker answers: a yes, or the first reason for a no.
use Rattle.std.specs.Prelude.{◌≡◌, MatchResult, Result}
use Rattle.type_table.specs.declared.kind.Kind.{Kind}
use Rattle.declared_types.specs.declared.type_file.TypeFile.{TypeFile}
use Rattle.table_checker.specs.Checked.{Checked, IsChecked}
use Rattle.table_checker.specs.Refusal.{IsFirstReason}
use Rattle.table_checker.specs.declared.refusal.CheckRefusal.{CheckRefusal}

-- a yes for this file and this kind where what is tested holds; else the first reason, and the file as it was
abbrev pub IsAnswer : Kind → TypeFile → Result Checked (TypeFile × CheckRefusal) → Type 0
IsAnswer kind file result = MatchResult result
    (λ c. (c ≡ record { kind = kind; file = file }) × IsChecked (record { kind = kind; file = file }))
    (λ e. (e.0 ≡ file) × IsFirstReason kind file e.1)

-- each file has one answer for each kind
abbrev pub OneAnswer : Type 0
OneAnswer = (kind : Kind) (file : TypeFile) (a b : Result Checked (TypeFile × CheckRefusal)) → IsAnswer kind file a → IsAnswer kind file b → a ≡ b
