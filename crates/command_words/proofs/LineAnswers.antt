-- What words of a command over a store's objects that takes options ask for, where they come to no fault.
use Rattle.std.proofs.Common.{◌≡◌, ◌∙◌, ap, sym, false, List, [], ◌∷◌}
use Rattle.std.specs.Prelude.{slice_get, unwrap_or, Option, option_map, option_and_then}
use Rattle.clap.specs.Walk.{Row, finished}
use Rattle.clap.specs.Faults.{settle_fault}
use Rattle.clap.specs.Simple.{Shape}
use Rattle.command_words.specs.Lines.{IsClear, Line, Setting, line_words, operands_of, values_of}
use Rattle.command_words.specs.Program.{HasStoreRows}
use Rattle.command_words.specs.Words.{Text}
use Rattle.command_words.proofs.LeafLemmas.{at, end_of, faults, start}
use Rattle.command_words.proofs.LineEnds.{Finishes, IsComplete, complete, ends_are, line_finishes}
use Rattle.command_words.proofs.LineLemmas.{begins, finds_all}
use Rattle.command_words.proofs.LineRules.{TakesLine}
use Rattle.command_words.proofs.LineTally.{IsFit, Tally, nothing_given, path_row, types_row}
use Rattle.command_words.proofs.OptionLemmas.{or_else_none}

-- the rows of a first file and of types
store_is : (options : List Setting) (rows : List Row) (t : Tally) (path type : Text) (types : List Text) → Finishes options rows t → t.operands ≡ path ∷ type ∷ types
    → HasStoreRows rows path (type ∷ types)
store_is options rows t path type types end are = record {
  path = ap (option_and_then (λ (r : Row). slice_get r.values 0)) (end.path ∙ ap path_row are);
  types = ap (λ (o : Option Row). unwrap_or (option_map (λ (r : Row). r.values) o) []) (end.types ∙ ap types_row are);
}

-- the words are those of a line, which gives all that is required, and the rows are those of what it gives
pub record Answered (options : List Setting) (rows : List Row) (words : List Text) : Type 0 where
  pub line : Line
  pub words_are : line_words line ≡ words
  pub clear : IsClear line
  pub given : Tally
  pub operands_are : operands_of line ≡ given.operands
  pub values_are : (s : Setting) → values_of s line ≡ given.values s
  pub fit : (s : Setting) → IsFit options s (given.values s)
  pub whole : IsComplete options given
  pub finishes : Finishes options rows given
  pub store : HasStoreRows rows whole.path (whole.type ∷ whole.types)

pub line_answered : (command : Shape) (options : List Setting) → TakesLine command options → (rest : List Text) → faults command (at false start) rest ≡ []
    → Answered options (finished command.rules (end_of command (at false start) rest).held) rest
line_answered command options built rest none =
    let h = (end_of command (at false start) rest).held in
    let found = (finds_all command options built rest).0 start nothing_given (begins command options built) none in
    let total = found.ends.total in
    let end = line_finishes command options built h total found.ends.tallied in
    let clear = or_else_none (settle_fault command.rules command.args_override_self h) _ (sym (ends_are command options built h total found.ends.tallied) ∙ found.ends.fault) in
    let whole = complete options total clear.1 in
    record {
      line = found.line;
      words_are = found.words_are;
      clear = found.clear;
      given = total;
      operands_are = sym found.ends.operands_are;
      values_are = λ s. sym (found.ends.values_are s);
      fit = found.ends.tallied.fit;
      whole = whole;
      finishes = end;
      store = store_is options (finished command.rules h) total whole.path whole.type whole.types end whole.operands;
    }
