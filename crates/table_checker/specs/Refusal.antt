-- Why the checker refuses a file: the first reason.
use Rattle.std.specs.Prelude.{◌≡◌, true, false}
use Rattle.equi_cert.specs.Fault.{IsFirstFault}
use Rattle.equi_cert.specs.Relation.{relates}
use Rattle.type_table.specs.StateSet.{has}
use Rattle.type_table.specs.Table.{Table}
use Rattle.type_table.specs.declared.kind.Kind.{Kind}
use Rattle.type_table.specs.declared.kind.Kind.TheVariants.{Undo, Intentions, Escrow}
use Rattle.type_table.specs.declared.table_kind.TableKind.{TableKind}
use Rattle.type_table.specs.declared.table_kind.TableKind.TheVariants as tabled
use Rattle.escrow_laws.specs.Faults.{IsFirstNumericFault}
use Rattle.declared_types.specs.declared.type_file.TypeFile.{TypeFile}
use Rattle.table_checker.specs.Checked.{condition_of, IsCertified}
use Rattle.declared_types.specs.TypeFile.{conflicts_of}
use Rattle.table_checker.specs.Condition.{IsFirstFailure}
use Rattle.table_checker.specs.Reach.{NeverLeaves, IsFirstLeave}
use Rattle.table_checker.specs.declared.refusal.CheckRefusal.{CheckRefusal}
use Rattle.table_checker.specs.declared.refusal.CheckRefusal.TheVariants.{InitialOutside, NotClosed, NotSimulation, NotCommuting, NotNumeric}

-- of a kind with a conflict table: each reason comes where none before it holds, and names the first place
abbrev pub IsFirstOfCommuting : TableKind → TypeFile → CheckRefusal → Type 0
IsFirstOfCommuting kind file InitialOutside = has file.reach file.table.initial ≡ false
IsFirstOfCommuting kind file (NotClosed s k) = (has file.reach file.table.initial ≡ true) × IsFirstLeave file.table file.reach s k
IsFirstOfCommuting kind file (NotSimulation s t k) =
    (has file.reach file.table.initial ≡ true) × NeverLeaves file.table file.reach × IsFirstFault file.table (relates file.relation) s t k
IsFirstOfCommuting kind file (NotCommuting p q s) = IsCertified file × IsFirstFailure (condition_of kind) file (conflicts_of kind file) p q s
IsFirstOfCommuting kind file (NotNumeric k s) = ⊥

-- of escrow there is one
abbrev pub IsFirstOfNumeric : Table → CheckRefusal → Type 0
IsFirstOfNumeric T (NotNumeric k s) = IsFirstNumericFault T k s
IsFirstOfNumeric T refusal = ⊥

abbrev pub IsFirstReason : Kind → TypeFile → CheckRefusal → Type 0
IsFirstReason Undo file refusal = IsFirstOfCommuting tabled.Undo file refusal
IsFirstReason Intentions file refusal = IsFirstOfCommuting tabled.Intentions file refusal
IsFirstReason Escrow file refusal = IsFirstOfNumeric file.table refusal

-- a reason that speaks of the set or the relation, which is so for each kind with a conflict table
abbrev pub IsFirstOfCertificate : TypeFile → CheckRefusal → Type 0
IsFirstOfCertificate file refusal = (kind : TableKind) → IsFirstOfCommuting kind file refusal
