-- `audit`: what words that come to no fault ask for, and that plain words come to none.
use Rattle.std.proofs.Common.{◌≡◌, ◌≢◌, ◌∙◌, ap, arith, refl, subst, sym, true, false, List, [], ◌∷◌, Bor}
use Rattle.std.specs.Prelude.{All, codes, length, unwrap_or, Option, option_map, ◌<◌}
use Rattle.clap.specs.Walk.{Row, finished}
use Rattle.clap.specs.Simple.{Shape}
use Rattle.clap.specs.declared.builder.value_parser.Reading.TheVariants.{AsWritten}
use Rattle.clap.specs.declared.builder.value_parser.ValueParser.TheVariants as parser
use Rattle.command_words.specs.Lines.{Audit, IsPlain, Line, SaysAudit, Setting, following, line_words, seed, tries, values_of, workers}
use Rattle.command_words.specs.Program.{HasAuditRows, audit_app}
use Rattle.command_words.specs.Words.{IsPlainAudit, Text}
use Rattle.command_words.proofs.LeafLemmas.{at, end_of, faults, start}
use Rattle.command_words.proofs.Leaves.{leaf_of}
use Rattle.command_words.proofs.LineAnswers.{Answered, line_answered}
use Rattle.command_words.proofs.LineEnds.{is_wanted, some_given}
use Rattle.command_words.proofs.LinePlain.{HasPlainValues, IsGood, with_line, words_pass}
use Rattle.command_words.proofs.LineRules.{Offers, TakesLine}
use Rattle.command_words.proofs.LineTally.{IsFitOften, IsFit, given_row, none_offered, nothing_given}
use Rattle.command_words.proofs.RowLemmas.{row_at}
use Rattle.command_words.proofs.SubcommandLemmas.{all_of_none, all_with}

-- the command as it is built, with its option
abbrev pub audit_leaf : Bor (List (Bor Text)) → Shape
audit_leaf listed = leaf_of (parser.Names listed) audit_app

abbrev pub audit_options : List Setting
audit_options = following ∷ []

-- it takes a first file, types and this option
audit_line : (listed : Bor (List (Bor Text))) → TakesLine (audit_leaf listed) audit_options
audit_line listed = record { rules = refl; again = refl; wants_word = refl; wants_command = refl; negates = refl }

-- it takes no other
no_other : (other : Setting) → other ≢ following → ¬ (Offers audit_options other)
no_other workers differs offered = cc
no_other tries differs offered = cc
no_other seed differs offered = cc
no_other following differs offered = differs refl

-- ---- what is asked for

-- what the words and the rows ask for
pub record AsksAudit (found : List Row) (words : List Text) : Type 0 where
  pub audit : Audit
  pub line : Line
  pub words_are : line_words line ≡ words
  pub says : SaysAudit line audit
  pub rows : HasAuditRows found audit

-- the row of `--then` has its values
later_is : (rows : List Row) (values : List Text) → row_at (codes "then") rows ≡ given_row (codes "then") AsWritten values
    → unwrap_or (option_map (λ (r : Row). r.values) (row_at (codes "then") rows)) [] ≡ values
later_is rows [] is = ap (λ (o : Option Row). unwrap_or (option_map (λ (r : Row). r.values) o) []) is
later_is rows (value ∷ values) is = ap (λ (o : Option Row). unwrap_or (option_map (λ (r : Row). r.values) o) []) is

-- what a line and the rows at its end ask for
asks : (rows : List Row) (words : List Text) → Answered audit_options rows words → AsksAudit rows words
asks rows words a = record {
  audit = record { history = a.whole.path; later = a.given.values following; types = a.whole.type ∷ a.whole.types };
  line = a.line;
  words_are = a.words_are;
  says = record {
    clear = a.clear;
    operands = a.operands_are ∙ a.whole.operands;
    later = a.values_are following;
    alone = λ other differs. a.values_are other ∙ none_offered audit_options other (a.given.values other) (a.fit other) (no_other other differs);
  };
  rows = record { whole = omega arith; store = a.store; later = later_is rows (a.given.values following) (a.finishes.settings following refl) };
}

-- words that come to no fault ask for something, and so do the rows
pub audit_answered : (listed : Bor (List (Bor Text))) (rest : List Text) → faults (audit_leaf listed) (at false start) rest ≡ []
    → AsksAudit (finished (audit_leaf listed).rules (end_of (audit_leaf listed) (at false start) rest).held) rest
audit_answered listed rest none = asks _ rest (line_answered (audit_leaf listed) audit_options (audit_line listed) rest none)

-- ---- what is asked for plainly

-- any histories are fit
any_fit : (values : List Text) → IsFitOften audit_options following values
any_fit [] = tt
any_fit (value ∷ values) = refl

module _ (line : Line) (a : Audit) (says : SaysAudit line a) where
  -- the values of the option are plain, where the histories are
  values_plain : All IsPlain a.later → HasPlainValues line
  values_plain plain workers = subst (All IsPlain) (sym (says.alone workers (λ is. cc))) (all_of_none IsPlain)
  values_plain plain tries = subst (All IsPlain) (sym (says.alone tries (λ is. cc))) (all_of_none IsPlain)
  values_plain plain seed = subst (All IsPlain) (sym (says.alone seed (λ is. cc))) (all_of_none IsPlain)
  values_plain plain following = subst (All IsPlain) (sym says.later) plain

  -- no option is required
  all_given : (s : Setting) → Offers audit_options s → is_wanted s ≡ true → some_given (values_of s line) ≡ true
  all_given workers offered wanted = absurd cc
  all_given tries offered wanted = absurd cc
  all_given seed offered wanted = absurd cc
  all_given following offered wanted = absurd cc

  -- and each is fit
  all_fit : (s : Setting) → IsFit audit_options s (values_of s line)
  all_fit workers = subst (IsFit audit_options workers) (sym (says.alone workers (λ is. cc))) tt
  all_fit tries = subst (IsFit audit_options tries) (sym (says.alone tries (λ is. cc))) tt
  all_fit seed = subst (IsFit audit_options seed) (sym (says.alone seed (λ is. cc))) tt
  all_fit following = any_fit (values_of following line)

  -- so the line gives all
  says_all : (types : List Text) → a.types ≡ types → 0 < length types → IsGood audit_options (with_line nothing_given line)
  says_all [] none some = absurd (omega (arith, some))
  says_all (type ∷ types) are some = record {
    complete = record {
      path = a.history;
      type = type;
      types = types;
      operands = says.operands ∙ ap (λ (ts : List Text). a.history ∷ ts) are;
      given = all_given;
    };
    fit = all_fit;
  }

  -- its words come to no fault, where they are plain
  pub audit_passes : (listed : Bor (List (Bor Text))) → IsPlainAudit a → faults (audit_leaf listed) (at false start) (line_words line) ≡ []
  audit_passes listed plain =
      words_pass (audit_leaf listed) audit_options (audit_line listed) line
      (subst (All IsPlain) (sym says.operands) (all_with IsPlain a.history a.types plain.1 plain.3)) (values_plain plain.2)
      (says_all a.types refl plain.0)
