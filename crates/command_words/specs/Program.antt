-- What `clap` reads of the program's command.
use Rattle.std.specs.Prelude.{◌≡◌, ◌⊎◌, ℕ, pos, true, false, List, [], ◌∷◌, Some, codes, Option, Result, Ok, Err, None, IfSome, fold, if◌then◌else◌, length, unwrap_or}
use Rattle.clap.specs.Values.{kind_of}
use Rattle.clap.specs.Faults.{fault_of}
use Rattle.clap.specs.Kinds.{IsAmong}
use Rattle.clap.specs.Matches.{found_of}
use Rattle.clap.specs.Walk.{Row, Rule, all_of, first_of, one_of, rows_of, rule_of, texts}
use Rattle.clap.specs.Simple.{App, HasMatchesOf, app_of, new_app, new_rule, on_top, subcommand_rows_of, with_rule, with_subcommand}
use Rattle.clap.specs.declared.builder.action.ArgAction.TheVariants.{Append, Set}
use Rattle.clap.specs.declared.builder.arg.Arg.{Arg}
use Rattle.clap.specs.declared.builder.command.Command.{Command}
use Rattle.clap.specs.declared.builder.command.Command.TheViews.{out-Command}
use Rattle.clap.specs.declared.error.Error.{Error}
use Rattle.clap.specs.declared.error.kind.ErrorKind.TheVariants.{OutOfMemory}
use Rattle.clap.specs.declared.parser.matches.ArgMatches.{ArgMatches}
use Rattle.clap.specs.declared.parser.matches.ValueSource.TheVariants.{CommandLine}
use Rattle.clap.specs.declared.builder.value_parser.Reading.TheVariants.{AsWritten}
use Rattle.clap.specs.declared.builder.value_parser.ValueParser.{ValueParser}
use Rattle.clap.specs.declared.builder.value_parser.ValueParser.TheVariants as parser
use Rattle.std.specs.Borrow.{Bor}
use Rattle.command_words.specs.declared.program.Form.{Form}
use Rattle.command_words.specs.declared.program.Word.{Word}
use Rattle.command_words.specs.Lines.{Audit, SpellsNumber, IsWholeAudit, IsWholeWork, Setting, Work, following, seed, setting_name, tries, work_name, workers}
use Rattle.command_words.specs.Words.{Asked, Order, Text}
use Rattle.command_words.specs.Words as asked
use Rattle.type_table.specs.Kind.{kind_word}
use Rattle.type_table.specs.declared.kind.Kind.TheVariants.{Undo, Intentions, Escrow}

-- the words of the kinds
abbrev pub kind_words : List Text
kind_words = kind_word Undo ∷ kind_word Intentions ∷ kind_word Escrow ∷ []

-- the parser takes the words of the kinds, and no other
abbrev pub ReadsKinds : ValueParser → Type 0
ReadsKinds p = (words : Bor (List (Bor Text))) × (p ≡ parser.Names words) × (texts words.now ≡ kind_words)

-- an operand with one value, which has to be there
abbrev pub wanted_rule : Text → Rule
wanted_rule id = record (new_rule id) {
  required = true;
  action = Some Set;
  value_names = 1;
  parser = Some parser.String;
}

-- KIND
abbrev pub kind_rule : ValueParser → Rule
kind_rule kinds = record (wanted_rule (codes "kind")) { parser = Some kinds }

-- ITEM, any number of times
abbrev pub items_rule : Rule
items_rule = record (wanted_rule (codes "items")) { required = false; action = Some Append }

-- TYPE, at least once
abbrev pub types_rule : Rule
types_rule = record (wanted_rule (codes "types")) { action = Some Append }

-- P and Q, both or neither
abbrev pub pair_rule : Rule
pair_rule = record (wanted_rule (codes "pair")) { required = false; value_names = 2 }

-- a command over a type file and a kind, as `check KIND FILE`
abbrev pub kind_app : Text → ValueParser → App
kind_app name kinds = with_rule (with_rule (new_app name) (kind_rule kinds)) (wanted_rule (codes "path"))

-- `check KIND FILE`
abbrev pub check_app : ValueParser → App
check_app kinds = kind_app (codes "check") kinds

-- `explain KIND FILE [P Q]`
abbrev pub explain_app : ValueParser → App
explain_app kinds = with_rule (kind_app (codes "explain") kinds) pair_rule

-- `make FAMILY SIZE ITEM...`
abbrev pub make_app : App
make_app = with_rule (with_rule (with_rule (new_app (codes "make"))
    (wanted_rule (codes "family"))) (wanted_rule (codes "size"))) items_rule

-- a command over one file, as `tables FILE`
abbrev pub file_app : Text → App
file_app name = with_rule (new_app name) (wanted_rule (codes "path"))

-- a command over a store's file and a key, as `outcome DATABASE KEY`
abbrev pub key_app : Text → App
key_app name = with_rule (file_app name) (wanted_rule (codes "key"))

-- a command over a store's objects: a first file and the files of types, as `run SCRIPT TYPE...`
abbrev pub store_app : Text → App
store_app name = with_rule (with_rule (new_app name) (wanted_rule (codes "path"))) types_rule

-- a command over a store's file, with objects and the files of their types, as `create DATABASE OBJECTS TYPE...`
abbrev pub database_app : Text → App
database_app name = with_rule (with_rule (with_rule (new_app name)
    (wanted_rule (codes "database"))) (wanted_rule (codes "path"))) types_rule

-- an option, which has to be there once
abbrev pub option_rule : Setting → ValueParser → Rule
option_rule setting values = record (wanted_rule (setting_name setting)) { long = Some (setting_name setting); parser = Some values }

-- `--workers N`
abbrev pub workers_rule : Rule
workers_rule = option_rule workers (parser.Signed (pos 1) (pos 16))

-- `--tries K`, with 3 for it
abbrev pub tries_rule : Rule
tries_rule = record (option_rule tries (parser.Signed (pos 1) (pos 100))) { required = false; defaults = codes "3" ∷ [] }

-- `--seed S`
abbrev pub seed_rule : Rule
seed_rule = option_rule seed (parser.Unsigned 0 18446744073709551615)

-- `--then HISTORY`, any number of times
abbrev pub then_rule : Rule
then_rule = record (option_rule following parser.String) { required = false; action = Some Append }

-- `audit HISTORY [--then HISTORY]... TYPE...`
abbrev pub audit_app : App
audit_app = with_rule (store_app (codes "audit")) then_rule

-- a command that sets workers to work: `NAME --workers N [--tries K] JOBS TYPE...`
abbrev pub workers_app : Text → App
workers_app name = with_rule (with_rule (store_app name) workers_rule) tries_rule

-- `work`
abbrev pub work_app : App
work_app = workers_app (codes "work")

-- `stress`, which takes a seed too
abbrev pub stress_app : App
stress_app = with_rule (workers_app (codes "stress")) seed_rule

-- the program above its commands, which needs one of them and takes no word for its own name
abbrev pub bare_program : App
bare_program = on_top (λ top. record top {
  no_binary_name = true;
  subcommand_required = true;
}) (new_app (codes "colock"))

-- its commands, but for `serve`
abbrev pub command_apps : ValueParser → List App
command_apps kinds =
    check_app kinds
    ∷ explain_app kinds
    ∷ make_app
    ∷ file_app (codes "tables")
    ∷ store_app (codes "run")
    ∷ audit_app
    ∷ work_app
    ∷ stress_app
    ∷ database_app (codes "create")
    ∷ database_app (codes "extend")
    ∷ file_app (codes "history")
    ∷ file_app (codes "prepared")
    ∷ key_app (codes "outcome")
    ∷ []

-- the program with one more command
abbrev pub with_command : App → App → App
with_command program command = with_subcommand program command.top

-- and with all of these
abbrev pub with_commands : List App → App
with_commands apps = fold with_command bare_program apps

-- the program with its commands, but for `serve`
abbrev pub program : ValueParser → App
program kinds = with_commands (command_apps kinds)

-- what `clap` reads of an operand, or of what an option has in common with one
abbrev pub operand_rule : Word → Rule
operand_rule w = record (new_rule w.id.now) {
  required = w.required;
  action = Some w.action;
  value_names = length w.shown.now;
  parser = Some w.parser;
  defaults = texts w.default.now;
}

-- and of either
abbrev pub word_rule : Word → Rule
word_rule w = if w.is_option then record (operand_rule w) { long = Some w.id.now } else operand_rule w

-- a command with one more word
abbrev pub with_word : App → Word → App
with_word a w = with_rule a (word_rule w)

-- and of a command
abbrev pub command_app : Form → App
command_app form = fold with_word (new_app form.name.now) form.words.now

-- the program with one more command, by its form
abbrev pub with_form : App → Form → App
with_form program form = with_command program (command_app form)

-- the command is read as this one, and has no argument of the commands below it
abbrev pub IsCommand : App → Command → Type 0
IsCommand a command = ((out-Command command).has_globals ≡ false) × (app_of command ≡ a)

-- the argument is read by this rule, and is one of its own command alone
abbrev pub IsReadByRule : Rule → Arg → Type 0
IsReadByRule rule word = (word.global ≡ false) × (rule_of word ≡ rule)

-- a parse of the words: its matches are those of the program, and its error has a cause in them or
-- is that memory was refused
abbrev pub Parses : List Text → Result ArgMatches Error → Type 0
Parses words (Ok matches) = (kinds : ValueParser) × ReadsKinds kinds
    × (fault_of (program kinds) words ≡ []) × HasMatchesOf (program kinds) words matches
Parses words (Err error) = (kind_of error ≡ OutOfMemory)
    ⊎ ((kinds : ValueParser) × ReadsKinds kinds
    × IsAmong (kind_of error) (fault_of (program kinds) words))

-- the row of an argument that was given these values
abbrev pub row_of : Text → List Text → Row
row_of id values = record {
  id = id;
  values = values;
  count = None;
  source = Some CommandLine;
  reading = AsWritten;
}

-- the row of an argument that was given one value
abbrev pub argument_row : Text → Text → Row
argument_row id text = row_of id (text ∷ [])

-- the row of an argument that was given any number of values, where there are any
abbrev pub list_rows : Text → List Text → List Row
list_rows id [] = []
list_rows id (value ∷ values) = row_of id (value ∷ values) ∷ []

-- the row of the items
abbrev pub item_rows : List Text → List Row
item_rows items = list_rows (codes "items") items

-- the rows of a first file and of types
abbrev pub store_rows : Text → List Text → List Row
store_rows path types = argument_row (codes "path") path ∷ list_rows (codes "types") types

-- the name and the rows of the subcommand that asks for this
abbrev pub subcommand_of : Order → Text × List Row
subcommand_of (asked.check kind path) =
    (codes "check", argument_row (codes "kind") (kind_word kind) ∷ argument_row (codes "path") path ∷ [])
subcommand_of (asked.explain kind path pair) =
    (codes "explain", argument_row (codes "kind") (kind_word kind) ∷ argument_row (codes "path") path ∷ list_rows (codes "pair") (asked.pair_words pair))
subcommand_of (asked.make family size items) =
    (codes "make", argument_row (codes "family") family ∷ argument_row (codes "size") size ∷ item_rows items)
subcommand_of (asked.tables path) = (codes "tables", argument_row (codes "path") path ∷ [])
subcommand_of (asked.run script types) = (codes "run", store_rows script types)
subcommand_of (asked.create database objects types) = (codes "create", argument_row (codes "database") database ∷ store_rows objects types)
subcommand_of (asked.extend database objects types) = (codes "extend", argument_row (codes "database") database ∷ store_rows objects types)
subcommand_of (asked.history database) = (codes "history", argument_row (codes "path") database ∷ [])
subcommand_of (asked.prepared database) = (codes "prepared", argument_row (codes "path") database ∷ [])
subcommand_of (asked.outcome database key) = (codes "outcome", argument_row (codes "path") database ∷ argument_row (codes "key") key ∷ [])

-- an argument was given this number, or has it by default
abbrev pub HasNumber : List Row → Text → ℕ → Type 0
HasNumber rows id n = (text : Text) × (one_of id rows ≡ Some text) × SpellsNumber text n

-- the rows are those of a first file and of types
pub record HasStoreRows (rows : List Row) (file : Text) (files : List Text) : Type 0 where
  pub path : first_of (codes "path") rows ≡ Some file
  pub types : unwrap_or (all_of (codes "types") rows) [] ≡ files

-- the rows are those of histories that are to be audited
pub record HasAuditRows (rows : List Row) (a : Audit) : Type 0 where
  pub whole : IsWholeAudit a
  pub store : HasStoreRows rows a.history a.types
  pub later : unwrap_or (all_of (codes "then") rows) [] ≡ a.later

-- the rows are those of what workers are to do
pub record HasWorkRows (rows : List Row) (w : Work) : Type 0 where
  pub whole : IsWholeWork w
  pub store : HasStoreRows rows w.jobs w.types
  pub workers : HasNumber rows (codes "workers") w.workers
  pub tries : HasNumber rows (codes "tries") w.tries
  pub seed : IfSome w.seed (HasNumber rows (codes "seed"))

-- a subcommand's name and rows are those of what is asked for
abbrev pub IsEntryOf : Option (Text × List Row) → Asked → Type 0
IsEntryOf entry (asked.order o) = entry ≡ Some (subcommand_of o)
IsEntryOf entry (asked.audit a) = (rows : List Row) × (entry ≡ Some (codes "audit", rows)) × HasAuditRows rows a
IsEntryOf entry (asked.work w) = (rows : List Row) × (entry ≡ Some (work_name w.seed, rows)) × HasWorkRows rows w
IsEntryOf entry text = ⊥

-- the matches are those of the subcommand that asks for this
abbrev pub AreMatchesOf : ArgMatches → Asked → Type 0
AreMatchesOf matches asked = IsEntryOf (subcommand_rows_of matches) asked

-- the matches are those of a subcommand
abbrev pub AskSomething : ArgMatches → Type 0
AskSomething matches = (a : Asked) × AreMatchesOf matches a

-- the rows of these matches are those of what is asked for
abbrev pub HasRows : ArgMatches → Order → Type 0
HasRows values o = rows_of (found_of values) ≡ (subcommand_of o).1

-- the rows of these matches are those of histories that are to be audited
abbrev pub HasAudit : ArgMatches → Audit → Type 0
HasAudit values a = HasAuditRows (rows_of (found_of values)) a

-- the rows of these matches are those of what workers are to do
abbrev pub HasWork : ArgMatches → Work → Type 0
HasWork values w = HasWorkRows (rows_of (found_of values)) w
