-- When the checker says yes.
use Rattle.std.specs.Prelude.{◌≡◌, true, Result, Ok}
use Rattle.type_table.specs.StateSet.{has, IsClosed}
use Rattle.type_table.specs.declared.kind.Kind.{Kind}
use Rattle.declared_types.specs.declared.type_file.TypeFile.{TypeFile}
use Rattle.table_checker.specs.Answer.{IsAnswer}
use Rattle.table_checker.specs.Checked.{Checked, IsStrong}
use Rattle.table_checker.specs.declared.refusal.CheckRefusal.{CheckRefusal}

-- the yes for a file and a kind
abbrev pub yes_for : Kind → TypeFile → Result Checked (TypeFile × CheckRefusal)
yes_for kind file = Ok (record { kind = kind; file = file })

-- the answer to the file for the kind is a yes: a yes is one, and there is no other
pub record IsAnsweredYes (kind : Kind) (file : TypeFile) : Type 0 where
  pub yes : IsAnswer kind file (yes_for kind file)
  pub alone : (result : Result Checked (TypeFile × CheckRefusal)) → IsAnswer kind file result → result ≡ yes_for kind file

-- it is a strong yes
pub record IsAnsweredStrongly (kind : Kind) (file : TypeFile) : Type 0 where
  pub yes : IsAnsweredYes kind file
  pub strong : IsStrong (record { kind = kind; file = file })

-- the file's set holds the initial state, and no step leaves it
pub record HasClosedSet (file : TypeFile) : Type 0 where
  pub begins_inside : has file.reach file.table.initial ≡ true
  pub closed : IsClosed file.table (has file.reach)
