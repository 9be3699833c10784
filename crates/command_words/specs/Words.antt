-- What the words of the command line say.
use Rattle.std.specs.Borrow.{Bor}
use Rattle.std.specs.Prelude.{◌≡◌, ◌≢◌, ◌⊎◌, ℕ, ◌<◌, length, List, [], ◌∷◌, Option, Some, None, option_map, ⊤, All, codes, if◌then◌else◌}
use Rattle.std.specs.Str.{bytes_eq}
use Rattle.clap.specs.Walk.{texts}
use Rattle.type_table.specs.declared.kind.Kind.{Kind}
use Rattle.type_table.specs.Kind.{kind_word}
use Rattle.command_words.specs.declared.task.Task.{Task}
use Rattle.command_words.specs.declared.task.Task.TheVariants as task
use Rattle.command_words.specs.declared.task.Topic.{Topic}
use Rattle.command_words.specs.declared.task.Topic.TheVariants as topic
use Rattle.command_words.specs.declared.task.WordFault.{WordFault}
use Rattle.command_words.specs.declared.task.WordFault.TheVariants.{Usage, NoMemory}
use Rattle.command_words.specs.Lines.{AreAuditWords, AreWorkWords, Audit, IsPlain, IsWholeAudit, IsWholeWork, Work}
use Rattle.command_words.specs.Ordered.{AreOrderedWords, Ordered}
use Rattle.command_words.specs.Serve.{AreServeWords, Serve}

abbrev pub Text : Type 0
Text = List ℕ

-- a command with its operands
pub data Order : Type 0 where
  -- `check KIND FILE`
  check : Kind → Text → Order
  -- `explain KIND FILE [P Q]`
  explain : Kind → Text → Option (Text × Text) → Order
  -- `make FAMILY SIZE ITEM...`
  make : Text → Text → List Text → Order
  -- `tables FILE`
  tables : Text → Order
  -- `run SCRIPT TYPE...`
  run : Text → List Text → Order
  -- `create DATABASE OBJECTS TYPE...`
  create : Text → Text → List Text → Order
  -- `extend DATABASE OBJECTS TYPE...`
  extend : Text → Text → List Text → Order
  -- `history DATABASE`
  history : Text → Order
  -- `prepared DATABASE`
  prepared : Text → Order
  -- `outcome DATABASE KEY`
  outcome : Text → Text → Order

-- what the words ask for
pub data Asked : Type 0 where
  -- what a command does with its operands
  order : Order → Asked
  -- the histories that `audit` is to audit
  audit : Audit → Asked
  -- what workers are to do: `work` or `stress`
  work : Work → Asked
  -- how a store is to be served
  serve : Serve → Asked
  -- the path of the store whose history is to be audited
  audit_database : Text → Asked
  -- the history that is to be audited in an order
  audit_ordered : Ordered → Asked
  -- a text of help
  help : Topic → Asked
  -- the version
  version : Asked

-- the words of a pair, where one is asked for
abbrev pub pair_words : Option (Text × Text) → List Text
pair_words None = []
pair_words (Some pair) = pair.0 ∷ pair.1 ∷ []

-- the words of a command and its operands
abbrev pub order_words : Order → List Text
order_words (check kind path) = codes "check" ∷ kind_word kind ∷ path ∷ []
order_words (explain kind path pair) = codes "explain" ∷ kind_word kind ∷ path ∷ pair_words pair
order_words (make family size items) = codes "make" ∷ family ∷ size ∷ items
order_words (tables path) = codes "tables" ∷ path ∷ []
order_words (run script types) = codes "run" ∷ script ∷ types
order_words (create database objects types) = codes "create" ∷ database ∷ objects ∷ types
order_words (extend database objects types) = codes "extend" ∷ database ∷ objects ∷ types
order_words (history database) = codes "history" ∷ database ∷ []
order_words (prepared database) = codes "prepared" ∷ database ∷ []
order_words (outcome database key) = codes "outcome" ∷ database ∷ key ∷ []

-- it has the operands that it can't be without: at least one TYPE
abbrev pub HasOperands : Order → Type 0
HasOperands (run script types) = 0 < length types
HasOperands (create database objects types) = 0 < length types
HasOperands (extend database objects types) = 0 < length types
HasOperands o = ⊤

-- the words of a call for help
abbrev pub help_words : Topic → List Text
help_words topic.Program = codes "help" ∷ []
help_words topic.Check = codes "help" ∷ codes "check" ∷ []
help_words topic.Explain = codes "help" ∷ codes "explain" ∷ []
help_words topic.Make = codes "help" ∷ codes "make" ∷ []
help_words topic.Tables = codes "help" ∷ codes "tables" ∷ []
help_words topic.Run = codes "help" ∷ codes "run" ∷ []
help_words topic.Audit = codes "help" ∷ codes "audit" ∷ []
help_words topic.Work = codes "help" ∷ codes "work" ∷ []
help_words topic.Stress = codes "help" ∷ codes "stress" ∷ []
help_words topic.Create = codes "help" ∷ codes "create" ∷ []
help_words topic.Extend = codes "help" ∷ codes "extend" ∷ []
help_words topic.Serve = codes "help" ∷ codes "serve" ∷ []
help_words topic.History = codes "help" ∷ codes "history" ∷ []
help_words topic.Prepared = codes "help" ∷ codes "prepared" ∷ []
help_words topic.Outcome = codes "help" ∷ codes "outcome" ∷ []
help_words topic.Help = codes "help" ∷ codes "help" ∷ []
help_words topic.Faults = codes "help" ∷ codes "faults" ∷ []

-- the words ask for it
abbrev pub AreFor : List Text → Asked → Type 0
AreFor words (order o) = words ≡ order_words o
AreFor words (audit a) = AreAuditWords words a
AreFor words (work w) = AreWorkWords words w
AreFor words (serve s) = AreServeWords words s
AreFor words (audit_database path) = words ≡ codes "audit" ∷ codes "--database" ∷ path ∷ []
AreFor words (audit_ordered a) = AreOrderedWords words a
AreFor words (help topic) = words ≡ help_words topic
AreFor words version = (words ≡ codes "--version" ∷ []) ⊎ (words ≡ codes "-V" ∷ [])

-- the texts of two words
abbrev pub pair_of : Bor Text × Bor Text → Text × Text
pair_of words = (words.0.now, words.1.now)

-- what a task asks for
abbrev pub asked_of : Task → Asked
asked_of (task.Check kind path) = order (check kind path.now)
asked_of (task.Explain kind path pair) = order (explain kind path.now (option_map pair_of pair))
asked_of (task.Make family size items) = order (make family.now size.now (texts items.items))
asked_of (task.Tables path) = order (tables path.now)
asked_of (task.Run script types) = order (run script.now (texts types.items))
asked_of (task.Audit first later types) =
    audit (record { history = first.now; later = texts later.items; types = texts types.items })
asked_of (task.AuditOrdered ts path types) =
    audit_ordered (record { order = ts.items; history = path.now; types = texts types.items })
asked_of (task.Work jobs types workers tries) =
    work (record { jobs = jobs.now; types = texts types.items; workers = workers; tries = tries; seed = None })
asked_of (task.Stress jobs types workers tries seed) =
    work (record { jobs = jobs.now; types = texts types.items; workers = workers; tries = tries; seed = Some seed })
asked_of (task.Create database objects types) = order (create database.now objects.now (texts types.items))
asked_of (task.Extend database objects types) = order (extend database.now objects.now (texts types.items))
asked_of (task.Serve database fast archive drain outcomes) =
    serve (record { database = database.now; fast = fast; archive = option_map (λ (folder : Bor Text). folder.now) archive; drain = drain; outcomes = outcomes })
asked_of (task.History database) = order (history database.now)
asked_of (task.Prepared database) = order (prepared database.now)
asked_of (task.Outcome database key) = order (outcome database.now key.now)
asked_of (task.AuditDatabase database) = audit_database database.now
asked_of (task.Help topic) = help topic
asked_of task.Version = version

-- the words without the first `--`, which is no word of a task
abbrev pub without_dashes : List Text → List Text
without_dashes [] = []
without_dashes (word ∷ rest) =
    if bytes_eq word (codes "--") then rest else word ∷ without_dashes rest

-- the words ask for it, where those of a command are whole, and may have one `--` among them
abbrev pub AskFor : List Text → Asked → Type 0
AskFor words (order o) = HasOperands o × (without_dashes words ≡ order_words o)
AskFor words (audit a) = IsWholeAudit a × AreAuditWords words a
AskFor words (work w) = IsWholeWork w × AreWorkWords words w
AskFor words asked = AreFor words asked

-- the words are those of the task: its operands in their order, and its options anywhere among them
abbrev pub AreWordsOf : List Text → Task → Type 0
AreWordsOf words task = AskFor words (asked_of task)

-- none of the words that a user chooses begins with a hyphen
abbrev pub HasPlainWords : Order → Type 0
HasPlainWords (check kind path) = IsPlain path
HasPlainWords (explain kind path pair) = IsPlain path × All IsPlain (pair_words pair)
HasPlainWords (make family size items) = IsPlain family × IsPlain size × All IsPlain items
HasPlainWords (tables path) = IsPlain path
HasPlainWords (run script types) = IsPlain script × All IsPlain types
HasPlainWords (create database objects types) = IsPlain database × IsPlain objects × All IsPlain types
HasPlainWords (extend database objects types) = IsPlain database × IsPlain objects × All IsPlain types
HasPlainWords (history database) = IsPlain database
HasPlainWords (prepared database) = IsPlain database
HasPlainWords (outcome database key) = IsPlain database × IsPlain key

-- the same, and it is whole
abbrev pub IsPlainOrder : Order → Type 0
IsPlainOrder o = HasOperands o × HasPlainWords o

-- the same, of the histories that are to be audited
abbrev pub IsPlainAudit : Audit → Type 0
IsPlainAudit a = IsWholeAudit a × IsPlain a.history × All IsPlain a.later × All IsPlain a.types

-- the same, of what workers are to do
abbrev pub IsPlainWork : Work → Type 0
IsPlainWork w = IsWholeWork w × IsPlain w.jobs × All IsPlain w.types

-- the same, of all that may be asked for: what isn't left to `clap` may have any words
abbrev pub AsksPlainly : Asked → Type 0
AsksPlainly (order o) = IsPlainOrder o
AsksPlainly (audit a) = IsPlainAudit a
AsksPlainly (work w) = IsPlainWork w
AsksPlainly asked = ⊤

-- the words don't begin with `serve`
abbrev pub AreOfNoServe : List Text → Type 0
AreOfNoServe words = (rest : List Text) → words ≢ codes "serve" ∷ rest

-- the words ask for neither help nor version, nor for the audit of a store, nor to serve one
abbrev pub AreOfNoDirectTask : List Text → Type 0
AreOfNoDirectTask words =
    ((topic : Topic) → words ≢ help_words topic) × ((path : Text) → ¬ (AreFor words (audit_database path))) × ¬ (AreFor words version) × AreOfNoServe words

-- the words don't begin with `audit --order`
abbrev pub AreOfNoGivenOrder : List Text → Type 0
AreOfNoGivenOrder words = (rest : List Text) → words ≢ codes "audit" ∷ codes "--order" ∷ rest

-- so what else they ask for is read by `clap`
abbrev pub AreLeftToClap : List Text → Type 0
AreLeftToClap words = AreOfNoDirectTask words × AreOfNoGivenOrder words

-- the words are no task's that has plain words
abbrev pub AreNoTask : List Text → Type 0
AreNoTask words = (asked : Asked) → AsksPlainly asked → ¬ (AreFor words asked)

-- a fact for a fault that is none of memory
abbrev pub OnUsage : WordFault → Type 0 → Type 0
OnUsage (Usage text) P = P
OnUsage NoMemory P = ⊤
