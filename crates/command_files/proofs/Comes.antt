-- What comes of a part of a command comes of the whole.
use Rattle.std.proofs.Common.{ℕ, List, Option, Result, Ok, Err, refl, inl, inr, ⊎_elim}
use Rattle.command_files.specs.Answers.{Answers, Comes, ComesOr, Faults, IsEarlyFault}
use Rattle.command_files.specs.declared.fault.Fault.{Fault}
use Rattle.command_files.specs.declared.fault.Fault.TheVariants.{Usage, Text, NoType, NeedsEscrow, ObjectNeedsEscrow, NameTaken, OtherObjects, Order, HasEvents, BadParameter, TooLarge, CannotRead, Database, NoStore, NoMemory, Output}
use Rattle.command_files.specs.declared.status.Verdict.{Verdict}

-- of texts that are written as a whole and that may be begun, and of what is amiss
pub faults : (whole whole' begun begun' : List ℕ → Type 0) (bad bad' : Type 0) (fault : Fault) (old new : Option (List ℕ)) → ((text : List ℕ) → whole text → whole' text)
    → ((text : List ℕ) → begun text → begun' text) → (bad → bad') → Faults bad whole begun fault old new → Faults bad' whole' begun' fault old new
faults whole whole' begun begun' bad bad' (Usage text) old new all more worse f = (worse f.0, f.1)
faults whole whole' begun begun' bad bad' (Text path fault) old new all more worse f = (worse f.0, f.1)
faults whole whole' begun begun' bad bad' (NoType path x place) old new all more worse f = (worse f.0, f.1)
faults whole whole' begun begun' bad bad' (NeedsEscrow path) old new all more worse f = (worse f.0, f.1)
faults whole whole' begun begun' bad bad' (ObjectNeedsEscrow path x) old new all more worse f = (worse f.0, f.1)
faults whole whole' begun begun' bad bad' (NameTaken path x) old new all more worse f = (worse f.0, f.1)
faults whole whole' begun begun' bad bad' (OtherObjects path first) old new all more worse f = (worse f.0, f.1)
faults whole whole' begun begun' bad bad' (Order path fault) old new all more worse f = (worse f.0, f.1)
faults whole whole' begun begun' bad bad' (HasEvents path) old new all more worse f = (worse f.0, f.1)
faults whole whole' begun begun' bad bad' BadParameter old new all more worse f = (worse f.0, f.1)
faults whole whole' begun begun' bad bad' TooLarge old new all more worse f = (worse f.0, f.1)
faults whole whole' begun begun' bad bad' (CannotRead path) old new all more worse f = f
faults whole whole' begun begun' bad bad' (Database path fault) old new all more worse f = f
faults whole whole' begun begun' bad bad' (NoStore path) old new all more worse f = (worse f.0, f.1)
faults whole whole' begun begun' bad bad' NoMemory old new all more worse f = ⊎_elim (λ same. inl same) (λ b. inr (b.0, all b.0 b.1, b.2)) f
faults whole whole' begun begun' bad bad' Output old new all more worse f = (f.0, f.1, more f.0 f.2, f.3)

-- and of answers
pub comes_or : (whole whole' begun begun' : List ℕ → Type 0) (part all : Answers) (bad bad' : Type 0) (result : Result Verdict Fault) (old new : Option (List ℕ))
    → ((text : List ℕ) → whole text → whole' text) → ((text : List ℕ) → begun text → begun' text) → ((v : Verdict) (text : List ℕ) → part v text → all v text)
    → (bad → bad') → ComesOr whole begun part bad result old new → ComesOr whole' begun' all bad' result old new
comes_or whole whole' begun begun' part all bad bad' (Ok v) old new wholes more answers worse c = (c.0, answers v c.0 c.1, c.2)
comes_or whole whole' begun begun' part all bad bad' (Err fault) old new wholes more answers worse c = faults whole whole' begun begun' bad bad' fault old new wholes more worse c

-- of a command that begins no other text than those of its answers
pub comes : (part all : Answers) (bad bad' : Type 0) (result : Result Verdict Fault) (old new : Option (List ℕ))
    → ((v : Verdict) (text : List ℕ) → part v text → all v text) → (bad → bad') → Comes part bad result old new → Comes all bad' result old new
comes part all bad bad' result old new answers worse c =
    comes_or _ _ _ _ part all bad bad' result old new (λ text none. none) (λ text any. (any.0, answers any.0 text any.1)) answers worse c

-- and of one that may begin others
pub comes_among : (whole begun : List ℕ → Type 0) (part all : Answers) (bad bad' : Type 0) (result : Result Verdict Fault) (old new : Option (List ℕ))
    → ((v : Verdict) (text : List ℕ) → part v text → begun text) → ((v : Verdict) (text : List ℕ) → part v text → all v text) → (bad → bad')
    → Comes part bad result old new → ComesOr whole begun all bad' result old new
comes_among whole begun part all bad bad' result old new more answers worse c =
    comes_or _ _ _ _ part all bad bad' result old new (λ text none. absurd none) (λ text any. more any.0 text any.1) answers worse c

-- a fault before anything was written
pub refuses : (whole begun : List ℕ → Type 0) (bad bad' : Type 0) (old : Option (List ℕ)) (fault : Fault) → (bad → bad') → IsEarlyFault bad fault → Faults bad' whole begun fault old old
refuses whole begun bad bad' old (Usage text) worse refused = (worse refused, refl)
refuses whole begun bad bad' old (Text path fault) worse refused = (worse refused, refl)
refuses whole begun bad bad' old (NoType path x place) worse refused = (worse refused, refl)
refuses whole begun bad bad' old (NeedsEscrow path) worse refused = (worse refused, refl)
refuses whole begun bad bad' old (ObjectNeedsEscrow path x) worse refused = (worse refused, refl)
refuses whole begun bad bad' old (NameTaken path x) worse refused = (worse refused, refl)
refuses whole begun bad bad' old (OtherObjects path first) worse refused = (worse refused, refl)
refuses whole begun bad bad' old (Order path fault) worse refused = (worse refused, refl)
refuses whole begun bad bad' old (HasEvents path) worse refused = (worse refused, refl)
refuses whole begun bad bad' old BadParameter worse refused = (worse refused, refl)
refuses whole begun bad bad' old TooLarge worse refused = (worse refused, refl)
refuses whole begun bad bad' old (CannotRead path) worse refused = refl
refuses whole begun bad bad' old (Database path fault) worse refused = refl
refuses whole begun bad bad' old (NoStore path) worse refused = (worse refused, refl)
refuses whole begun bad bad' old NoMemory worse refused = inl refl
refuses whole begun bad bad' old Output worse refused = absurd refused

-- and of what was asked for beside it
pub refused_more : (bad bad' : Type 0) (fault : Fault) → (bad → bad') → IsEarlyFault bad fault → IsEarlyFault bad' fault
refused_more bad bad' (Usage text) worse refused = worse refused
refused_more bad bad' (Text path fault) worse refused = worse refused
refused_more bad bad' (NoType path x place) worse refused = worse refused
refused_more bad bad' (NeedsEscrow path) worse refused = worse refused
refused_more bad bad' (ObjectNeedsEscrow path x) worse refused = worse refused
refused_more bad bad' (NameTaken path x) worse refused = worse refused
refused_more bad bad' (OtherObjects path first) worse refused = worse refused
refused_more bad bad' (Order path fault) worse refused = worse refused
refused_more bad bad' (HasEvents path) worse refused = worse refused
refused_more bad bad' BadParameter worse refused = worse refused
refused_more bad bad' TooLarge worse refused = worse refused
refused_more bad bad' (CannotRead path) worse refused = refused
refused_more bad bad' (Database path fault) worse refused = refused
refused_more bad bad' (NoStore path) worse refused = worse refused
refused_more bad bad' NoMemory worse refused = refused
refused_more bad bad' Output worse refused = refused
