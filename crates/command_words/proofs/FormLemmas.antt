-- A command with one more word, and the program with one more command.
use Rattle.std.proofs.Common.{◌≡◌, ◌∙◌, ◌||◌, ◌<◌, ◌≤◌, ◌+◌, ℕ, List, Bor, length, take, get_or, refl, ap, ap₂, sym}
use Rattle.std.specs.Prelude.{fold, map}
use Rattle.std.proofs.lemmas.List.{take_all}
use Rattle.std.proofs.lemmas.List.Folds.{fold-map}
use Rattle.std.proofs.lemmas.List.Sums.{fold_more}
use Rattle.clap.specs.Built.{AddsArg}
use Rattle.clap.specs.Simple.{App, app_of, with_rule}
use Rattle.clap.specs.Walk.{Text, texts}
use Rattle.clap.specs.declared.builder.arg.Arg.{Arg}
use Rattle.clap.specs.declared.builder.command.Command.{Command}
use Rattle.clap.specs.declared.builder.value_parser.ValueParser.{ValueParser}
use Rattle.clap.specs.declared.builder.value_parser.ValueParser.TheVariants as parser
use Rattle.command_words.specs.declared.program.Form.{Form}
use Rattle.command_words.specs.declared.program.Word.{Word}
use Rattle.command_words.specs.Program.{IsCommand, IsReadByRule, ReadsKinds, bare_program, command_app, command_apps, kind_words, with_command, with_commands, with_form, with_word, word_rule}

pub word_added : (a : App) (words : List Word) (i : ℕ) (d : Word) (before after : Command) (arg : Arg) → i < length words
    → IsCommand (fold with_word a (take i words)) before → IsReadByRule (word_rule (get_or words i d)) arg → AddsArg before arg after
    → IsCommand (fold with_word a (take (i + 1) words)) after
word_added a words i d before after arg less is read added = (
  added.globals ∙ ap₂ ◌||◌ is.0 read.0,
  added.shape read.0 ∙ ap₂ with_rule is.1 read.1 ∙ sym (fold_more with_word a words i d less),
)

pub form_added : (forms : List Form) (i : ℕ) (d : Form) (before after : Command) → i < length forms
    → app_of before ≡ fold with_form bare_program (take i forms) → app_of after ≡ with_form (app_of before) (get_or forms i d)
    → app_of after ≡ fold with_form bare_program (take (i + 1) forms)
form_added forms i d before after less is added =
    added ∙ ap (λ (app : App). with_form app (get_or forms i d)) is ∙ sym (fold_more with_form bare_program forms i d less)

pub all_forms : (forms : List Form) (i : ℕ) (whole : Command) → length forms ≤ i
    → app_of whole ≡ fold with_form bare_program (take i forms) → app_of whole ≡ with_commands (map command_app forms)
all_forms forms i whole all is =
    is ∙ ap (λ (fs : List Form). fold with_form bare_program fs) (take_all i forms all) ∙ sym (fold-map with_command command_app bare_program forms)

-- what `clap` reads of the commands shows which words KIND takes
pub by_kinds : (apps : List App) (words : Bor (List (Bor Text))) → apps ≡ command_apps (parser.Names words) → texts words.now ≡ kind_words
    → (kinds : ValueParser) × ReadsKinds kinds × (apps ≡ command_apps kinds)
by_kinds apps words are read = (parser.Names words, (words, refl, read), are)
