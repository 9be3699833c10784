-- How a task ends, from what came of it and what was handed on.
use Rattle.std.proofs.Common.{◌≡◌, ◌∙◌, ◌⊎◌, true, false, Bool, ℕ, zero, suc, Bor, List, [], ◌∷◌, ◌++◌, length, take, Option, Some, None, IfErr, IfSome, Result, Ok, Err, refl, sym, ap, subst, inl, inr, ⊎_elim, append-nil, take_at}
use Rattle.std.proofs.Math.Seq.{take-length}
use Rattle.std.specs.Prelude.{OnOk}
use Rattle.std.specs.Io.KnownBytes.{Appends, append_known}
use Rattle.command_files.specs.Answers.{ComesOr, IsEarlyFault}
use Rattle.command_files.specs.Status.{is_input, status_at, status_of}
use Rattle.command_files.specs.declared.fault.Fault.{Fault}
use Rattle.command_files.specs.declared.fault.Fault.TheVariants.{Usage, Text, NoType, NeedsEscrow, ObjectNeedsEscrow, NameTaken, OtherObjects, Order, HasEvents, BadParameter, TooLarge, CannotRead, Database, NoStore, NoMemory, Output}
use Rattle.command_files.specs.declared.status.Status.{Status}
use Rattle.command_files.specs.declared.status.Status.TheVariants.{BadInput, Failed}
use Rattle.command_files.specs.declared.status.Verdict.{Verdict}
use Rattle.command_files.specs.declared.status.Verdict.TheVariants as verdict
use Rattle.command_words.specs.Words.{AreNoTask, AreWordsOf}
use Rattle.command_words.specs.declared.task.Task.{Task}
use Rattle.commands.specs.Concluded.{Concludes, IsPartHandedOn, IsHandedOn}
use Rattle.command_words.specs.declared.task.Task.TheVariants as task
use Rattle.commands.specs.Program.{Answer, Begun, Does, DoesNothing, DoesTask, DoesWords, IsAmiss, IsToServe, PassesOn, SaysOnError, ServesAndKeeps, SaysOfServing, Shown, Started, Written}
use Rattle.serve_command.proofs.Unsaid.{nothing_said}
use Rattle.serve_command.specs.Found.{SaysFound}
use Rattle.serve_command.specs.Archived.{ArchivesEpochs}
use Rattle.serve_command.specs.Served.{ComesOfServing, ServesDatabase}

-- ---- bytes

-- a beginning of a beginning is one
take_again : (xs : List ℕ) (m n : ℕ) → (k : ℕ) × (take m (take n xs) ≡ take k xs)
take_again xs zero n = (zero, refl)
take_again [] (suc m) zero = (zero, refl)
take_again [] (suc m) (suc n) = (zero, refl)
take_again (x ∷ xs) (suc m) zero = (zero, refl)
take_again (x ∷ xs) (suc m) (suc n) = let rest = take_again xs m n in (suc rest.0, ap (λ ys. x ∷ ys) rest.1)

-- nothing has no beginning but nothing
take_none : (n : ℕ) → take {A = ℕ} n [] ≡ []
take_none zero = refl
take_none (suc n) = refl

-- what was gathered where nothing was waiting was handed on
pub handed_on : (old gathered new : Option (List ℕ)) (text : List ℕ) → Appends (append_known old []) gathered text → IsHandedOn gathered new → Appends old new text
handed_on None gathered new text more kept = tt
handed_on (Some xs) None new text more kept = absurd more
handed_on (Some xs) (Some ys) None text more kept = absurd kept
handed_on (Some xs) (Some ys) (Some zs) text more kept = kept ∙ more ∙ ap (λ (front : List ℕ). front ++ text) (append-nil xs)

-- or a beginning of it was, where the output had nothing
pub begun : (old gathered new : Option (List ℕ)) (text : List ℕ) → IfSome old (λ xs. xs ≡ []) → Appends (append_known old []) gathered text → IsPartHandedOn gathered new
    → (n : ℕ) × Appends old new (take n text)
begun None gathered new text nothing more part = (zero, tt)
begun (Some xs) None new text nothing more part = absurd more
begun (Some xs) (Some ys) None text nothing more part = absurd part.1
begun (Some xs) (Some ys) (Some zs) text nothing more part =
    let whole : ys ≡ text = more ∙ ap (λ (front : List ℕ). (front ++ []) ++ text) nothing in
    let front : take (length zs) text ≡ zs = ap (take (length zs)) (sym whole ∙ sym part.1) ∙ take_at zs part.0 (length zs) refl in
    (length zs, sym front ∙ sym (ap (λ (b : List ℕ). b ++ take (length zs) text) nothing))

-- a text that stayed as it was took nothing
pub stayed : (old : Option (List ℕ)) (gathered : Option (List ℕ)) → gathered ≡ append_known old [] → Appends (append_known old []) gathered []
stayed None gathered same = tt
stayed (Some xs) gathered same = subst (λ (g : Option (List ℕ)). Appends (append_known (Some xs) []) g []) (sym same) (sym (append-nil (xs ++ [])))

-- a beginning of nothing is nothing
begun_nothing : (old gathered new : Option (List ℕ)) → IfSome old (λ xs. xs ≡ []) → Appends (append_known old []) gathered [] → IsPartHandedOn gathered new → Appends old new []
begun_nothing old gathered new nothing more part =
    let b = begun old gathered new [] nothing more part in
    subst (λ (bytes : List ℕ). Appends old new bytes) (take_none b.0) b.1

-- what is at the path of a database may be no store
may_be_amiss : (given : Shown) (task : Task) → IsToServe task → IsAmiss given task
may_be_amiss given (task.Check kind path) is = absurd is
may_be_amiss given (task.Explain kind path pair) is = absurd is
may_be_amiss given (task.Make family size items) is = absurd is
may_be_amiss given (task.Tables path) is = absurd is
may_be_amiss given (task.Run script types) is = absurd is
may_be_amiss given (task.Work jobs types workers tries) is = absurd is
may_be_amiss given (task.Stress jobs types workers tries seed) is = absurd is
may_be_amiss given (task.Audit history later types) is = absurd is
may_be_amiss given (task.AuditOrdered order history types) is = absurd is
may_be_amiss given (task.Create database objects types) is = absurd is
may_be_amiss given (task.Extend database objects types) is = absurd is
may_be_amiss given (task.Serve database fast archive drain outcomes) is = tt
may_be_amiss given (task.History database) is = tt
may_be_amiss given (task.Prepared database) is = tt
may_be_amiss given (task.Outcome database key) is = tt
may_be_amiss given (task.AuditDatabase database) is = tt
may_be_amiss given (task.Help topic) is = absurd is
may_be_amiss given task.Version is = absurd is

-- ---- standard error

-- what is said of a task that has an answer
unchanged : (given : Shown) (task : Task) (err : Option (List ℕ)) → SaysOnError given task err err
unchanged given (task.Check kind path) err = refl
unchanged given (task.Explain kind path pair) err = refl
unchanged given (task.Make family size items) err = refl
unchanged given (task.Tables path) err = refl
unchanged given (task.Run script types) err = refl
unchanged given (task.Work jobs types workers tries) err = refl
unchanged given (task.Stress jobs types workers tries seed) err = refl
unchanged given (task.Audit history later types) err = refl
unchanged given (task.AuditOrdered order history types) err = refl
unchanged given (task.Create database objects types) err = refl
unchanged given (task.Extend database objects types) err = refl
unchanged given (task.Serve database fast archive drain outcomes) err = nothing_said given.clean (given.databases database.now) database.now err
unchanged given (task.History database) err = refl
unchanged given (task.Prepared database) err = refl
unchanged given (task.Outcome database key) err = refl
unchanged given (task.AuditDatabase database) err = refl
unchanged given (task.Help topic) err = refl
unchanged given task.Version err = refl

of_serving : (given : Shown) (task : Task) (v : Verdict) (err new_err : Option (List ℕ)) → SaysOfServing given task (Ok v) err new_err → SaysOnError given task err new_err
of_serving given (task.Check kind path) v err new_err says = absurd says
of_serving given (task.Explain kind path pair) v err new_err says = absurd says
of_serving given (task.Make family size items) v err new_err says = absurd says
of_serving given (task.Tables path) v err new_err says = absurd says
of_serving given (task.Run script types) v err new_err says = absurd says
of_serving given (task.Work jobs types workers tries) v err new_err says = absurd says
of_serving given (task.Stress jobs types workers tries seed) v err new_err says = absurd says
of_serving given (task.Audit history later types) v err new_err says = absurd says
of_serving given (task.AuditOrdered order history types) v err new_err says = absurd says
of_serving given (task.Create database objects types) v err new_err says = absurd says
of_serving given (task.Extend database objects types) v err new_err says = absurd says
of_serving given (task.Serve database fast archive drain outcomes) v err new_err says = says
of_serving given (task.History database) v err new_err says = absurd says
of_serving given (task.Prepared database) v err new_err says = absurd says
of_serving given (task.Outcome database key) v err new_err says = absurd says
of_serving given (task.AuditDatabase database) v err new_err says = absurd says
of_serving given (task.Help topic) v err new_err says = absurd says
of_serving given task.Version v err new_err says = absurd says

-- of a store that was served
pub served : (given : Shown) (database : Bor (List ℕ)) (fast : Bool) (archive : Option (Bor (List ℕ))) (drain outcomes : ℕ) (answer : Result Verdict Fault) (err new_err : Option (List ℕ))
    → OnOk answer (SaysFound given.clean (given.databases database.now) database.now err new_err) → PassesOn given (task.Serve database fast archive drain outcomes) answer err new_err
served given database fast archive drain outcomes (Ok v) err new_err says = inr says
served given database fast archive drain outcomes (Err fault) err new_err says = inr tt

-- a yes of serving, with what the archive has kept then
pub keeps_too : (given : Shown) (least : ℕ) (path : List ℕ) (folder : Option (List ℕ)) (begins : List ℕ → Type 0) (answer : Result Verdict Fault) (old new : Option (List ℕ))
    → ComesOfServing begins (ServesDatabase least given.clean (given.databases path) (given.made path) given.input given.rest) answer old new
    → OnOk answer (ArchivesEpochs least given.clean (given.databases path) (given.made path) (given.kept folder) (given.kept_now folder))
    → ComesOfServing begins (ServesAndKeeps given least path folder) answer old new
keeps_too given least path folder begins (Ok v) old new comes keeps = (comes.0, (comes.1, keeps), comes.2)
keeps_too given least path folder begins (Err fault) old new comes keeps = comes

passed_on : (given : Shown) (task : Task) (answer : Result Verdict Fault) (err new_err : Option (List ℕ)) → PassesOn given task answer err new_err → OnOk answer (SaysOnError given task err new_err)
passed_on given task (Ok v) err new_err passes = elim passes [
  | inl same ↦ subst (SaysOnError given task err) (sym same) (unchanged given task err)
  | inr says ↦ of_serving given task v err new_err says
]
passed_on given task (Err fault) err new_err passes = tt

-- ---- statuses

module _ (old gathered new err new_err : Option (List ℕ)) (status : Status) (nothing : IfSome old (λ xs. xs ≡ [])) where
  -- of a fault before anything was written the output takes nothing
  silent : (fault : Fault) → Appends (append_known old []) gathered [] → Concludes (Err fault) gathered status new err new_err → Appends old new []
  silent fault more ended = ⊎_elim (λ all. handed_on old gathered new [] more all.1) (λ part. begun_nothing old gathered new nothing more part.1) ended

  pub does_nothing : (fault : Fault) → gathered ≡ append_known old [] → Concludes (Err fault) gathered status new err new_err → DoesNothing fault status old new
  does_nothing fault same ended = (
    ⊎_elim (λ all. inl all.0) (λ part. inr part.0) ended,
    silent fault (stayed old gathered same) ended,
  )

  -- and the status says that what was given is amiss, or that the program failed
  amiss_or_failed : (bad : Type 0) (fault : Fault) → IsEarlyFault bad fault → (status ≡ status_of fault) ⊎ (status ≡ Failed) → ((status ≡ BadInput) × bad) ⊎ (status ≡ Failed)
  amiss_or_failed bad (Usage text) refused which = ⊎_elim (λ is. inl (is, refused)) (λ is. inr is) which
  amiss_or_failed bad (Text path fault) refused which = ⊎_elim (λ is. inl (is, refused)) (λ is. inr is) which
  amiss_or_failed bad (NoType path x place) refused which = ⊎_elim (λ is. inl (is, refused)) (λ is. inr is) which
  amiss_or_failed bad (NeedsEscrow path) refused which = ⊎_elim (λ is. inl (is, refused)) (λ is. inr is) which
  amiss_or_failed bad (ObjectNeedsEscrow path x) refused which = ⊎_elim (λ is. inl (is, refused)) (λ is. inr is) which
  amiss_or_failed bad (NameTaken path x) refused which = ⊎_elim (λ is. inl (is, refused)) (λ is. inr is) which
  amiss_or_failed bad (OtherObjects path first) refused which = ⊎_elim (λ is. inl (is, refused)) (λ is. inr is) which
  amiss_or_failed bad (Order path fault) refused which = ⊎_elim (λ is. inl (is, refused)) (λ is. inr is) which
  amiss_or_failed bad (HasEvents path) refused which = ⊎_elim (λ is. inl (is, refused)) (λ is. inr is) which
  amiss_or_failed bad BadParameter refused which = ⊎_elim (λ is. inl (is, refused)) (λ is. inr is) which
  amiss_or_failed bad TooLarge refused which = ⊎_elim (λ is. inl (is, refused)) (λ is. inr is) which
  amiss_or_failed bad (CannotRead path) refused which = ⊎_elim (λ is. inr is) (λ is. inr is) which
  amiss_or_failed bad (Database path fault) refused which = ⊎_elim (λ is. inr is) (λ is. inr is) which
  amiss_or_failed bad (NoStore path) refused which = ⊎_elim (λ is. inl (is, refused)) (λ is. inr is) which
  amiss_or_failed bad NoMemory refused which = ⊎_elim (λ is. inr is) (λ is. inr is) which
  amiss_or_failed bad Output refused which = absurd refused

  pub refuses_words : (bad : Type 0) (fault : Fault) → IsEarlyFault bad fault → gathered ≡ append_known old [] → Concludes (Err fault) gathered status new err new_err
      → (((status ≡ BadInput) × bad) ⊎ (status ≡ Failed)) × Appends old new []
  refuses_words bad fault refused same ended =
      let none = does_nothing fault same ended in
      (amiss_or_failed bad fault refused none.0, none.1)

  -- where standard error had taken `err` before the end, of which `first` was there before the task
  module _ (given : Shown) (task : Task) (first : Option (List ℕ)) where
    abbrev Ends : Status → Type 0
    Ends s = Does given task s old new first new_err

    abbrev Comes : Result Verdict Fault → Type 0
    Comes answer = ComesOr (Written given task) (Begun given task) (Answer given task) (IsAmiss given task) answer (append_known old []) gathered

    -- the program failed after a text, of which the output took a beginning or the whole
    failed_behind : (text : List ℕ) → Started given task text → Appends (append_known old []) gathered text → IsPartHandedOn gathered new → Ends Failed
    failed_behind text started more part = let b = begun old gathered new text nothing more part in inr (text, b.0, started, b.1)

    failed_whole : (text : List ℕ) → Started given task text → Appends (append_known old []) gathered text → IsHandedOn gathered new → Ends Failed
    failed_whole text started more all =
        inr (text, length text, started, subst (λ (bytes : List ℕ). Appends old new bytes) (sym (take-length text)) (handed_on old gathered new text more all))

    -- of an answer
    answered : (v : Verdict) → SaysOnError given task first err → Comes (Ok v) → Concludes (Ok v) gathered status new err new_err → Ends status
    answered verdict.Yes says c ended =
        ⊎_elim (λ all. subst Ends (sym all.0) (c.0, c.1, handed_on old gathered new c.0 c.2 all.1, subst (SaysOnError given task first) (sym all.2) says))
        (λ part. subst Ends (sym part.0) (failed_behind c.0 (inl (verdict.Yes, c.1)) c.2 part.1)) ended
    answered verdict.No says c ended =
        ⊎_elim (λ all. subst Ends (sym all.0) (c.0, c.1, handed_on old gathered new c.0 c.2 all.1, subst (SaysOnError given task first) (sym all.2) says))
        (λ part. subst Ends (sym part.0) (failed_behind c.0 (inl (verdict.No, c.1)) c.2 part.1)) ended

    -- of a fault of what the user gave
    amiss : (fault : Fault) → (status_of fault ≡ BadInput) → IsAmiss given task × (gathered ≡ append_known old []) → Concludes (Err fault) gathered status new err new_err → Ends status
    amiss fault input c ended =
        let none = does_nothing fault c.1 ended in
        ⊎_elim (λ is. subst Ends (sym (is ∙ input)) (c.0, none.1)) (λ is. subst Ends (sym is) (inl none.1)) none.0

    -- of one that left nothing written
    failed : (fault : Fault) → (status_of fault ≡ Failed) → gathered ≡ append_known old [] → Concludes (Err fault) gathered status new err new_err → Ends status
    failed fault is_failed same ended =
        let none = does_nothing fault same ended in
        ⊎_elim (λ is. subst Ends (sym (is ∙ is_failed)) (inl none.1)) (λ is. subst Ends (sym is) (inl none.1)) none.0

    -- of one after a text
    failed_text : (fault : Fault) → (status_of fault ≡ Failed) → (text : List ℕ) → Started given task text → Appends (append_known old []) gathered text
        → Concludes (Err fault) gathered status new err new_err → Ends status
    failed_text fault is_failed text started more ended =
        ⊎_elim (λ all. subst Ends (sym (all.0 ∙ is_failed)) (failed_whole text started more all.1))
        (λ part. subst Ends (sym part.0) (failed_behind text started more part.1)) ended

    -- a beginning of a beginning of a text
    shorter : (text : List ℕ) (n : ℕ) → Started given task text → (b : (k : ℕ) × Appends old new (take k (take n text))) → Ends Failed
    shorter text n started b =
        let k = take_again text b.0 n in
        inr (text, k.0, started, subst (λ (bytes : List ℕ). Appends old new bytes) k.1 b.1)

    failed_output : (fault : Fault) → (status_of fault ≡ Failed) → (text : List ℕ) (n : ℕ) → Started given task text → Appends (append_known old []) gathered (take n text)
        → Concludes (Err fault) gathered status new err new_err → Ends status
    failed_output fault is_failed text n started more ended =
        ⊎_elim (λ all. subst Ends (sym (all.0 ∙ is_failed)) (inr (text, n, started, handed_on old gathered new (take n text) more all.1)))
        (λ part. subst Ends (sym part.0) (shorter text n started (begun old gathered new (take n text) nothing more part.1))) ended

    pub does : (answer : Result Verdict Fault) → OnOk answer (SaysOnError given task first err) → Comes answer → Concludes answer gathered status new err new_err → Ends status
    does (Ok v) says c ended = answered v says c ended
    does (Err (Usage text)) says c ended = amiss (Usage text) refl c ended
    does (Err (Text path fault)) says c ended = amiss (Text path fault) refl c ended
    does (Err (NoType path x place)) says c ended = amiss (NoType path x place) refl c ended
    does (Err (NeedsEscrow path)) says c ended = amiss (NeedsEscrow path) refl c ended
    does (Err (ObjectNeedsEscrow path x)) says c ended = amiss (ObjectNeedsEscrow path x) refl c ended
    does (Err (NameTaken path x)) says c ended = amiss (NameTaken path x) refl c ended
    does (Err (OtherObjects path first)) says c ended = amiss (OtherObjects path first) refl c ended
    does (Err (Order path fault)) says c ended = amiss (Order path fault) refl c ended
    does (Err (HasEvents path)) says c ended = amiss (HasEvents path) refl c ended
    does (Err BadParameter) says c ended = amiss BadParameter refl c ended
    does (Err TooLarge) says c ended = amiss TooLarge refl c ended
    does (Err (CannotRead path)) says c ended = failed (CannotRead path) refl c ended
    does (Err (Database path fault)) says c ended = failed (Database path fault) refl c ended
    does (Err (NoStore path)) says c ended = amiss (NoStore path) refl c ended
    does (Err NoMemory) says c ended =
        ⊎_elim (λ same. failed NoMemory refl same ended) (λ b. failed_text NoMemory refl b.0 (inr (inr b.1)) b.2 ended) c
    does (Err Output) says c ended = failed_output Output refl c.0 c.1 (inr (inl c.2)) c.3 ended

    -- of serving, which takes no fault of what the user gave for one after a text
    abbrev Serves : Result Verdict Fault → Type 0
    Serves answer = ComesOfServing (Begun given task) (Answer given task) answer (append_known old []) gathered

    -- by whether a fault is of what the user gave
    silent_fault : (fault : Fault) → IsAmiss given task → gathered ≡ append_known old [] → Concludes (Err fault) gathered status new err new_err → Ends status
    silent_fault fault bad same ended =
        elim (is_input fault) as (λ (v : Bool). is_input fault ≡ v → Ends status) [
          | true ↦ λ is. amiss fault (ap status_at is) (bad, same) ended
          | false ↦ λ is. failed fault (ap status_at is) same ended
        ] refl

    pub serves : (answer : Result Verdict Fault) → OnOk answer (SaysOnError given task first err) → IsAmiss given task → Serves answer → Concludes answer gathered status new err new_err → Ends status
    serves (Ok v) says bad c ended = answered v says c ended
    serves (Err fault) says bad c ended = elim c [
      | inl same ↦ silent_fault fault bad same ended
      | inr part ↦ let (text, begins, (n, within, more)) = part.1 in failed_output fault (ap status_at part.0) text n (inr (inl begins)) more ended
    ]

  -- a task is done
  pub does_task : (given : Shown) (words : List (List ℕ)) (waits : List ℕ) (task : Task) (answer : Result Verdict Fault) (first : Option (List ℕ)) → waits ≡ []
      → PassesOn given task answer first err → AreWordsOf words task → DoesTask given task answer (append_known old waits) gathered → Concludes answer gathered status new err new_err
      → DoesWords given words status old new first new_err
  does_task given words waits task answer first none passes are comes ended =
      let here = subst (λ (b : List ℕ). DoesTask given task answer (append_known old b) gathered) none comes in
      let says = passed_on given task answer first err passes in
      ⊎_elim (λ serve. inl (task, are, serves given task first answer says (may_be_amiss given task serve.0) serve.1 ended)) (λ done. inl (task, are, does given task first answer says done ended)) here

-- what is done of words is done of the same words
pub same_words : (old new err new_err : Option (List ℕ)) (status : Status) (given : Shown) (words words' : List (List ℕ)) → words ≡ words' → DoesWords given words status old new err new_err
    → DoesWords given words' status old new err new_err
same_words old new err new_err status given words words' same done = subst (λ (ws : List (List ℕ)). DoesWords given ws status old new err new_err) same done

-- the words are no task's, or memory was refused for them
pub refused_words : (old new err new_err : Option (List ℕ)) (status : Status) (waits : List ℕ) (given : Shown) (words : List (List ℕ)) (fault : Fault) → IfSome old (λ xs. xs ≡ []) → waits ≡ []
    → IsEarlyFault (AreNoTask words) fault → Concludes (Err fault) (append_known old waits) status new err new_err → DoesWords given words status old new err new_err
refused_words old new err new_err status waits given words fault nothing none refused ended =
    inr (refuses_words old (append_known old []) new err new_err status nothing (AreNoTask words) fault refused refl
    (subst (λ (b : List ℕ). Concludes (Err fault) (append_known old b) status new err new_err) none ended))

-- there are no words
pub no_words : {T : Type 0} (words : Result T Fault) (fault : Fault) (old new err new_err : Option (List ℕ)) (status : Status) (waits : List ℕ) → words ≡ Err fault
    → IfSome old (λ xs. xs ≡ []) → waits ≡ [] → Concludes (Err fault) (append_known old waits) status new err new_err → IfErr words (λ f. DoesNothing f status old new)
no_words {T} words fault old new err new_err status waits are nothing none ended =
    subst (λ (r : Result T Fault). IfErr r (λ f. DoesNothing f status old new)) (sym are)
    (does_nothing old (append_known old []) new err new_err status nothing fault refl
    (subst (λ (b : List ℕ). Concludes (Err fault) (append_known old b) status new err new_err) none ended))
