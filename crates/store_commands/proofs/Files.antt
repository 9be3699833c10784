-- What comes of the files that a command over a store names.
use Rattle.std.proofs.Common.{◌≡◌, ℕ, List, Option, Result, IfSome, IsErrAnd, inr}
use Rattle.table_checker.specs.declared.refusal.CheckRefusal.{CheckRefusal}
use Rattle.store_text.specs.declared.line.ObjectLine.{ObjectLine}
use Rattle.command_files.specs.Answers.{Answers, ComesOr, IsEarlyFault}
use Rattle.command_files.specs.declared.fault.Fault.{Fault}
use Rattle.command_files.specs.declared.status.Verdict.{Verdict}
use Rattle.store_files.specs.ObjectTypes.{HasFault, HasTypeFault, IsRefusedObject, SaysRefused}
use Rattle.store_files.specs.Lines.{refused_object_line}
use Rattle.store_files.specs.Types.{Held}
use Rattle.store_commands.proofs.Exits.{exits_early}
use Rattle.store_commands.proofs.Kept.{refused_kept, type_fault_kept}

module _ {T : Type 0} (describes : List ℕ → T → Type 0) (is_faulty : List ℕ → Type 0) (objects : T → List ObjectLine) (holds later : Held)
    (kept : (other : List ℕ) → later other ≡ holds other) (path : List ℕ) (words : List (List ℕ)) (whole begun : List ℕ → Type 0) (answers : Answers)
    (value : T) (held : IfSome (holds path) (λ text. describes text value)) where
  -- the types of the objects were refused
  pub without_types : (r : Result Verdict Fault) (e : Fault) (old : Option (List ℕ)) → IsErrAnd r (λ d. d ≡ e) → IsEarlyFault (HasTypeFault later words (objects value)) e
      → ComesOr whole begun answers (HasFault describes is_faulty objects holds path words) r old old
  without_types r e old is refused =
      exits_early whole begun answers (HasTypeFault later words (objects value)) (HasFault describes is_faulty objects holds path words) r e old is
      (λ fault. inr (value, held, type_fault_kept holds later kept words (objects value) fault)) refused

  -- the line of an object whose type isn't accepted
  pub says_refused : (x : ℕ) (refusal : CheckRefusal) (text : List ℕ) → IsRefusedObject later words (objects value) x refusal → text ≡ refused_object_line x refusal
      → SaysRefused holds words (objects value) text
  says_refused x refusal text at is = (x, refusal, refused_kept holds later kept words (objects value) x refusal at, is)
