-- The answers of the parts of the check, for each kind.
use Rattle.std.proofs.Common.{Result, Ok, Err, OnOk}
use Rattle.type_table.specs.Kind.{of_table}
use Rattle.type_table.specs.declared.kind.Kind.{Kind}
use Rattle.type_table.specs.declared.table_kind.TableKind.{TableKind}
use Rattle.type_table.specs.declared.table_kind.TableKind.TheVariants.{Undo, Intentions}
use Rattle.declared_types.specs.declared.type_file.TypeFile.{TypeFile}
use Rattle.table_checker.specs.Answer.{IsAnswer}
use Rattle.table_checker.specs.Checked.{Checked}
use Rattle.table_checker.specs.Laws.{CoversType, YesCovers}
use Rattle.table_checker.specs.Refusal.{IsFirstReason, IsFirstOfCommuting}
use Rattle.table_checker.specs.declared.refusal.CheckRefusal.{CheckRefusal}

-- a reason of a kind with a conflict table
pub reason-of : (kind : TableKind) (file : TypeFile) (refusal : CheckRefusal) → IsFirstOfCommuting kind file refusal → IsFirstReason (of_table kind) file refusal
reason-of Undo file refusal reason = reason
reason-of Intentions file refusal reason = reason

-- what a yes gives
pub yes-gives : YesCovers → (kind : Kind) (file : TypeFile) (result : Result Checked (TypeFile × CheckRefusal)) → IsAnswer kind file result → OnOk result (CoversType kind file)
yes-gives covers kind file (Ok c) answer = covers (record { kind = kind; file = file }) answer.1
yes-gives covers kind file (Err e) answer = tt
