-- What the program does, from its words to its status: this page is read from top to bottom.
use Rattle.std.specs.Prelude.{◌≡◌, ◌⊎◌, ⊤, ℕ, List, [], take, Option, IfSome, Result, Ok, Err}
use Rattle.std.specs.Io.KnownBytes.{Appends}
use Rattle.std.specs.Option.{option_map}
use Rattle.command_files.specs.Answers.{Answers, AnyAnswer, ComesOr, IsThis}
use Rattle.command_files.specs.Files.{IsFaulty}
use Rattle.command_files.specs.Status.{status_of}
use Rattle.command_files.specs.declared.fault.Fault.{Fault}
use Rattle.command_files.specs.declared.status.Status.{Status}
use Rattle.command_files.specs.declared.status.Status.TheVariants.{Yes, No, BadInput, Failed}
use Rattle.command_files.specs.declared.status.Verdict.{Verdict}
use Rattle.command_files.specs.declared.status.Verdict.TheVariants as verdict
use Rattle.command_words.specs.Help.{text_of_topic, version_text}
use Rattle.command_words.specs.Words.{AreNoTask, AreWordsOf}
use Rattle.command_words.specs.declared.task.Task.{Task}
use Rattle.command_words.specs.declared.task.Task.TheVariants.{Check, Explain, Make, Tables, Run, Work, Stress, Audit, AuditOrdered, Create, Extend, Serve, History, Prepared, Outcome, AuditDatabase, Help, Version}
use Rattle.database_commands.specs.Audited.{AuditsDatabase}
use Rattle.database_commands.specs.Created.{CreatesStore, HasCreateFault}
use Rattle.database_commands.specs.Extended.{ExtendsStore}
use Rattle.database_commands.specs.History.{TellsHistory}
use Rattle.key_commands.specs.Outcome.{TellsOutcome}
use Rattle.key_commands.specs.Prepared.{TellsPrepared}
use Rattle.serve_command.specs.Archived.{ArchivesEpochs}
use Rattle.serve_command.specs.Found.{SaysFound}
use Rattle.serve_command.specs.Served.{BeginsServing, ComesOfServing, ServesDatabase}
use Rattle.serving.specs.Archives.{KeptHistory}
use Rattle.sqlite_trees.specs.Tree.{Trees}
use Rattle.store_commands.specs.Audited.{AuditsFiles, HasAuditFault}
use Rattle.store_commands.specs.Ordered.{AuditsOrdered, HasOrderedFault}
use Rattle.store_commands.specs.Runs.{BeginsRunFile, HasRunFault, RunsFile, WritesRunFile}
use Rattle.store_commands.specs.Works.{BeginsWorkFile, HasWorkFault, WorksFile, WritesWorkFile}
use Rattle.store_files.specs.Types.{Held}
use Rattle.type_commands.specs.Explain.{CannotBeExplained, ExplainsFile, words_as}
use Rattle.type_commands.specs.Made.{CannotBeMade, MakesFamily, MakesTablesOf}
use Rattle.type_commands.specs.Request.{texts, wanted_of}
use Rattle.type_commands.specs.Verdict.{CannotBeChecked, ChecksFile}

-- what is given beside the words, if known: what is held at the paths of files, the last commit of the database at a path, before
-- and after, that no wrong answer of a disk was taken as true, what the input gives, before and after, and which histories the archive in a
-- folder keeps, before and after
pub record Shown : Type 1 where
  pub files : Held
  pub databases : List ℕ → Option Trees
  pub made : List ℕ → Option Trees
  pub clean : Type 0
  pub input : Option (List ℕ)
  pub rest : Option (List ℕ)
  pub kept : Option (List ℕ) → Option (List KeptHistory)
  pub kept_now : Option (List ℕ) → Option (List KeptHistory)

abbrev pub shown : Held → (List ℕ → Option Trees) → (List ℕ → Option Trees) → Type 0 → Option (List ℕ) → Option (List ℕ)
    → (Option (List ℕ) → Option (List KeptHistory)) → (Option (List ℕ) → Option (List KeptHistory)) → Shown
shown files databases made clean input rest kept kept_now =
    record { files = files; databases = databases; made = made; clean = clean; input = input; rest = rest; kept = kept; kept_now = kept_now }

-- a yes of serving where at least so many of the last outcomes stay, and the archive in the folder has kept the history of each epoch that ended, and
-- nothing else
abbrev pub ServesAndKeeps : Shown → ℕ → List ℕ → Option (List ℕ) → Answers
ServesAndKeeps given least path folder v text = ServesDatabase least given.clean (given.databases path) (given.made path) given.input given.rest v text
    × ArchivesEpochs least given.clean (given.databases path) (given.made path) (given.kept folder) (given.kept_now folder)

-- the texts that answer a task, with a yes or with a no, by what is given
abbrev pub Answer : Shown → Task → Answers
Answer given (Check kind path) = ChecksFile (given.files path.now) kind
Answer given (Explain kind path pair) = ExplainsFile (given.files path.now) kind (words_as pair)
Answer given (Make family size items) = MakesFamily (wanted_of family.now size.now (texts items.items))
Answer given (Tables path) = MakesTablesOf (given.files path.now)
Answer given (Run script types) = RunsFile given.files script.now (texts types.items)
Answer given (Work jobs types workers tries) = WorksFile given.files workers tries jobs.now (texts types.items)
Answer given (Stress jobs types workers tries seed) = WorksFile given.files workers tries jobs.now (texts types.items)
Answer given (Audit history later types) = AuditsFiles given.files history.now (texts later.items) (texts types.items)
Answer given (AuditOrdered order history types) = AuditsOrdered given.files order.items history.now (texts types.items)
Answer given (Create database objects types) = CreatesStore given.clean (given.made database.now) given.files objects.now (texts types.items)
Answer given (Extend database objects types) = ExtendsStore given.clean (given.databases database.now) (given.made database.now) given.files objects.now (texts types.items)
Answer given (History database) = TellsHistory given.clean (given.databases database.now)
Answer given (Prepared database) = TellsPrepared given.clean (given.databases database.now) (given.made database.now)
Answer given (Outcome database key) = TellsOutcome given.clean (given.databases database.now) (given.made database.now) key.now
Answer given (AuditDatabase database) = AuditsDatabase given.clean (given.databases database.now)
Answer given (Serve database fast archive drain outcomes) = ServesAndKeeps given outcomes database.now (option_map (λ f. f.now) archive)
Answer given (Help topic) = IsThis verdict.Yes (text_of_topic topic)
Answer given Version = IsThis verdict.Yes version_text

-- what is amiss with what the user gave: a text has a fault, a number is asked about without escrow, a word names no operation, a
-- history that follows has other objects, an object names no type, an order of transactions may not be asked for, or nothing can be
-- made; of a database that isn't opened as a store's nothing is said
abbrev pub IsAmiss : Shown → Task → Type 0
IsAmiss given (Check kind path) = IfSome (given.files path.now) (CannotBeChecked kind)
IsAmiss given (Explain kind path pair) = IfSome (given.files path.now) (CannotBeExplained kind (words_as pair))
IsAmiss given (Make family size items) = CannotBeMade (wanted_of family.now size.now (texts items.items))
IsAmiss given (Tables path) = IfSome (given.files path.now) IsFaulty
IsAmiss given (Run script types) = HasRunFault given.files script.now (texts types.items)
IsAmiss given (Work jobs types workers tries) = HasWorkFault given.files workers jobs.now (texts types.items)
IsAmiss given (Stress jobs types workers tries seed) = HasWorkFault given.files workers jobs.now (texts types.items)
IsAmiss given (Audit history later types) = HasAuditFault given.files history.now (texts later.items) (texts types.items)
IsAmiss given (AuditOrdered order history types) = HasOrderedFault given.files order.items history.now (texts types.items)
IsAmiss given (Create database objects types) = HasCreateFault given.files objects.now (texts types.items)
IsAmiss given (Extend database objects types) = ⊤
IsAmiss given (History database) = ⊤
IsAmiss given (Prepared database) = ⊤
IsAmiss given (Outcome database key) = ⊤
IsAmiss given (AuditDatabase database) = ⊤
IsAmiss given (Serve database fast archive drain outcomes) = ⊤
IsAmiss given task = ⊥

-- the texts that may have been written as a whole where memory was refused: of a run without an audit, and of workers of which one
-- wasn't started
abbrev pub Written : Shown → Task → List ℕ → Type 0
Written given (Run script types) text = WritesRunFile given.files script.now (texts types.items) text
Written given (Work jobs types workers tries) text = WritesWorkFile given.files workers tries jobs.now (texts types.items) text
Written given (Stress jobs types workers tries seed) text = WritesWorkFile given.files workers tries jobs.now (texts types.items) text
Written given task text = ⊥

-- the texts of which the output may have taken a beginning where it failed
abbrev pub Begun : Shown → Task → List ℕ → Type 0
Begun given (Run script types) text = BeginsRunFile given.files script.now (texts types.items) text
Begun given (Work jobs types workers tries) text = BeginsWorkFile given.files workers tries jobs.now (texts types.items) text
Begun given (Stress jobs types workers tries seed) text = BeginsWorkFile given.files workers tries jobs.now (texts types.items) text
Begun given (Serve database fast archive drain outcomes) text = BeginsServing outcomes given.clean (given.databases database.now) (given.made database.now) given.input given.rest text
Begun given task text = AnyAnswer (Answer given task) text

-- a text that the output may have begun where the program failed
abbrev pub Started : Shown → Task → List ℕ → Type 0
Started given task text = AnyAnswer (Answer given task) text ⊎ (Begun given task text ⊎ Written given task text)

-- what standard error took of a task that has an answer: of serving the line that says what was found, and else nothing
abbrev pub SaysOnError : Shown → Task → Option (List ℕ) → Option (List ℕ) → Type 0
SaysOnError given (Serve database fast archive drain outcomes) err new_err = SaysFound given.clean (given.databases database.now) database.now err new_err
SaysOnError given task err new_err = new_err ≡ err

-- by the status of a task, what the output took, if known: yes or no, a text that answers it, and standard error took what is said; what
-- the user gave has a fault, and the output took nothing; or the program failed, and it took a beginning of such a text, perhaps nothing
-- or the whole
abbrev pub Does : Shown → Task → Status → Option (List ℕ) → Option (List ℕ) → Option (List ℕ) → Option (List ℕ) → Type 0
Does given task Yes old new err new_err = (text : List ℕ) × Answer given task verdict.Yes text × Appends old new text × SaysOnError given task err new_err
Does given task No old new err new_err = (text : List ℕ) × Answer given task verdict.No text × Appends old new text × SaysOnError given task err new_err
Does given task BadInput old new err new_err = IsAmiss given task × Appends old new []
Does given task Failed old new err new_err =
    Appends old new [] ⊎ ((text : List ℕ) × (n : ℕ) × Started given task text × Appends old new (take n text))

-- the words are those of a task, which is done; or they are no task's, or memory was refused for them, and the output took nothing
abbrev pub DoesWords : Shown → List (List ℕ) → Status → Option (List ℕ) → Option (List ℕ) → Option (List ℕ) → Option (List ℕ) → Type 0
DoesWords given words status old new err new_err =
    ((task : Task) × AreWordsOf words task × Does given task status old new err new_err)
    ⊎ ((((status ≡ BadInput) × AreNoTask words) ⊎ (status ≡ Failed)) × Appends old new [])

-- there are no words: the status is that of the fault, or that memory was refused for its line, and the output took nothing
abbrev pub DoesNothing : Fault → Status → Option (List ℕ) → Option (List ℕ) → Type 0
DoesNothing fault status old new = ((status ≡ status_of fault) ⊎ (status ≡ Failed)) × Appends old new []

-- ---- inside the program

-- the task is to serve
abbrev pub IsToServe : Task → Type 0
IsToServe (Serve database fast archive drain outcomes) = ⊤
IsToServe task = ⊥

-- what comes of a task before the output hands on what it gathered; what is served is answered while it is done
abbrev pub DoesTask : Shown → Task → Result Verdict Fault → Option (List ℕ) → Option (List ℕ) → Type 0
DoesTask given task result old new =
    (IsToServe task × ComesOfServing (Begun given task) (Answer given task) result old new)
    ⊎ ComesOr (Written given task) (Begun given task) (Answer given task) (IsAmiss given task) result old new

-- what standard error took before the task's end: nothing, or what is said where a store is served
abbrev pub SaysOfServing : Shown → Task → Result Verdict Fault → Option (List ℕ) → Option (List ℕ) → Type 0
SaysOfServing given (Serve database fast archive drain outcomes) (Ok verdict) err new_err = SaysFound given.clean (given.databases database.now) database.now err new_err
SaysOfServing given (Serve database fast archive drain outcomes) (Err fault) err new_err = ⊤
SaysOfServing given task result err new_err = ⊥

abbrev pub PassesOn : Shown → Task → Result Verdict Fault → Option (List ℕ) → Option (List ℕ) → Type 0
PassesOn given task result err new_err = (new_err ≡ err) ⊎ SaysOfServing given task result err new_err
