-- The texts of help and version.
use Rattle.std.specs.Prelude.{◌≡◌, ◌-◌, length, slice_index}
use Rattle.command_words.specs.Words.{Text}
use Rattle.command_words.specs.declared.task.Topic.{Topic}
use Rattle.command_words.specs.declared.task.Topic.TheVariants.{Program, Check, Explain, Make, Tables, Run, Audit, Work, Stress, Create, Extend, Serve, History, Prepared, Outcome, Help, Faults}
use Rattle.command_words.specs.declared.file_help.TheConstants.{CREATE, EXTEND, HISTORY, OUTCOME, PREPARED, SERVE}
use Rattle.command_words.specs.declared.help.TheConstants.{AUDIT, CHECK, EXPLAIN, FAULTS, HELP, MAKE, PROGRAM, RUN, STRESS, TABLES, VERSION, WORK}

-- the text of help on a topic
abbrev pub text_of_topic : Topic → Text
text_of_topic Program = PROGRAM.now
text_of_topic Check = CHECK.now
text_of_topic Explain = EXPLAIN.now
text_of_topic Make = MAKE.now
text_of_topic Tables = TABLES.now
text_of_topic Run = RUN.now
text_of_topic Audit = AUDIT.now
text_of_topic Work = WORK.now
text_of_topic Stress = STRESS.now
text_of_topic Create = CREATE.now
text_of_topic Extend = EXTEND.now
text_of_topic Serve = SERVE.now
text_of_topic History = HISTORY.now
text_of_topic Prepared = PREPARED.now
text_of_topic Outcome = OUTCOME.now
text_of_topic Help = HELP.now
text_of_topic Faults = FAULTS.now

-- the last byte of the text is a line end
abbrev pub EndsLine : Text → Type 0
EndsLine text = slice_index text (length text - 1) ≡ 10

-- the line of the version
abbrev pub version_text : Text
version_text = VERSION.now
