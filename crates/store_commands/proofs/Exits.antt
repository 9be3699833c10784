-- What comes of a command that a part of it refused.
use Rattle.std.proofs.Common.{◌≡◌, ℕ, List, Option, Result, Ok, Err, IsErrAnd, subst, sym}
use Rattle.command_files.specs.Answers.{Answers, ComesOr, Faults, IsEarlyFault}
use Rattle.command_files.specs.declared.fault.Fault.{Fault}
use Rattle.command_files.specs.declared.status.Verdict.{Verdict}
use Rattle.command_files.proofs.Comes.{refuses}

-- a fault was handed on
pub exits : (whole begun : List ℕ → Type 0) (answers : Answers) (bad : Type 0) (r : Result Verdict Fault) (e : Fault) (old new : Option (List ℕ)) → IsErrAnd r (λ d. d ≡ e)
    → Faults bad whole begun e old new → ComesOr whole begun answers bad r old new
exits whole begun answers bad (Ok v) e old new is faults = absurd is
exits whole begun answers bad (Err d) e old new is faults = subst (λ (x : Fault). Faults bad whole begun x old new) (sym is) faults

-- one before anything was written
pub exits_early : (whole begun : List ℕ → Type 0) (answers : Answers) (bad bad' : Type 0) (r : Result Verdict Fault) (e : Fault) (old : Option (List ℕ)) → IsErrAnd r (λ d. d ≡ e)
    → (bad → bad') → IsEarlyFault bad e → ComesOr whole begun answers bad' r old old
exits_early whole begun answers bad bad' r e old is worse refused = exits whole begun answers bad' r e old old is (refuses whole begun bad bad' old e worse refused)
