-- The lines of an audit of several histories: a number of one of them has its place before it, as `N.M`.
use Rattle.std.specs.Prelude.{ℕ, ◌-◌, List, [], ◌∷◌, ◌++◌, Option, Some, None, Result, Ok, Err, Vec, length, slice_get, codes}
use Rattle.std.specs.declared.alloc.Global.{Global}
use Rattle.std.specs.Fmt.{decimal}
use Rattle.std.specs.List.{flat_map, enumerate_from}
use Rattle.history_audit.specs.Text.{comment, serial_line}
use Rattle.history_judge.specs.declared.outcome.Audit.{Audit}
use Rattle.history_judge.specs.declared.outcome.AuditFault.{AuditFault}
use Rattle.history_judge.specs.declared.outcome.AuditFault.TheVariants.{BadEvent, IllegalOp, NoMemory}
use Rattle.history_audit.specs.declared.epoch_fault.EpochFault.{EpochFault}

-- a number of the n-th history
abbrev pub numbered_in : ℕ → ℕ → List ℕ
numbered_in n m = decimal n ++ (codes "." ++ decimal m)

-- the line of a committed transaction of the n-th history
abbrev pub commit_line_in : ℕ → ℕ → List ℕ
commit_line_in n t = comment (codes "commit" ∷ numbered_in n t ∷ [])

-- the lines of the committed transactions of the n-th history, in commit order
abbrev pub order_lines : ℕ × Audit → List ℕ
order_lines p = flat_map (commit_line_in p.0) p.1.order.items

-- the serial states in which the last history ends
abbrev pub finals_of : Option Audit → List ℕ
finals_of None = []
finals_of (Some a) = a.finals.items

-- the line of the n-th history's fault, and none where memory was refused
abbrev pub epoch_fault_line : ℕ → AuditFault → List ℕ
epoch_fault_line n (BadEvent at) = comment (codes "audit" ∷ codes "no" ∷ codes "BadEvent" ∷ numbered_in n at ∷ [])
epoch_fault_line n (IllegalOp i x j) = comment (codes "audit" ∷ codes "no" ∷ codes "IllegalOp" ∷ numbered_in n i ∷ decimal x ∷ decimal j ∷ [])
epoch_fault_line n NoMemory = []

-- after a yes a line for each committed transaction, history after history, then one for each object; else the line of the fault alone
abbrev pub epochs_text : Result (Vec Audit Global) EpochFault → List ℕ
epochs_text (Ok audits) =
    comment (codes "audit" ∷ codes "yes" ∷ [])
    ++ (flat_map order_lines (enumerate_from 0 audits.items) ++ flat_map serial_line (enumerate_from 0 (finals_of (slice_get audits.items (length audits.items - 1)))))
epochs_text (Err f) = epoch_fault_line f.epoch f.fault
