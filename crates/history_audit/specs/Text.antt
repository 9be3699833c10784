-- The lines of an audit, which a text of a history has as comments.
use Rattle.std.specs.Prelude.{ℕ, List, [], ◌∷◌, ◌++◌, Result, Ok, Err, codes}
use Rattle.std.specs.Fmt.{decimal}
use Rattle.std.specs.List.{flat_map, join_with_byte, enumerate_from}
use Rattle.history_judge.specs.declared.outcome.Audit.{Audit}
use Rattle.history_judge.specs.declared.outcome.AuditFault.{AuditFault}
use Rattle.history_judge.specs.declared.outcome.AuditFault.TheVariants.{BadEvent, IllegalOp, NoMemory}

-- a line of words after a `#`: one space between two, and a LF
abbrev pub comment : List (List ℕ) → List ℕ
comment words = join_with_byte 32 (codes "#" ∷ words) ++ 10 ∷ []

-- the line of a committed transaction
abbrev pub committed_line : ℕ → List ℕ
committed_line t = comment (codes "commit" ∷ decimal t ∷ [])

-- the line of an object with its serial state
abbrev pub serial_line : ℕ × ℕ → List ℕ
serial_line p = comment (codes "serial" ∷ decimal (p.0) ∷ decimal (p.1) ∷ [])

-- after a yes a line for each committed transaction in commit order, then one for each object; else the line of the fault alone,
-- and none where memory was refused
abbrev pub audit_text : Result Audit AuditFault → List ℕ
audit_text (Ok a) =
    comment (codes "audit" ∷ codes "yes" ∷ [])
    ++ (flat_map committed_line a.order.items ++ flat_map serial_line (enumerate_from 0 a.finals.items))
audit_text (Err (BadEvent at)) = comment (codes "audit" ∷ codes "no" ∷ codes "BadEvent" ∷ decimal at ∷ [])
audit_text (Err (IllegalOp i x j)) = comment (codes "audit" ∷ codes "no" ∷ codes "IllegalOp" ∷ decimal i ∷ decimal x ∷ decimal j ∷ [])
audit_text (Err NoMemory) = []
