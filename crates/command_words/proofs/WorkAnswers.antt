-- What words of `work` and `stress` that come to no fault ask for.
use Rattle.std.proofs.Common.{◌≡◌, ◌∙◌, ap, arith, refl, subst, sym, true, false, Bool, ℕ, List, [], ◌∷◌, Bor}
use Rattle.std.specs.Prelude.{codes, is_some, Option, Some, None, option_and_then, ◌<◌, ◌≤◌, ◌^◌, IfSome}
use Rattle.clap.specs.Walk.{Row, finished, row_text}
use Rattle.clap.specs.declared.builder.value_parser.Reading.TheVariants.{AsWritten, WithoutMinus}
use Rattle.command_words.specs.Lines.{IsGiven, IsGivenAny, IsGivenOr, SpellsNumber, Line, SaysWork, Setting, Work, following, line_words, seed, setting_name, tries, workers}
use Rattle.command_words.specs.Program.{HasNumber, HasWorkRows}
use Rattle.command_words.specs.Words.{Text}
use Rattle.command_words.proofs.LeafLemmas.{at, end_of, faults, start}
use Rattle.command_words.proofs.LineAnswers.{Answered, line_answered}
use Rattle.command_words.proofs.LineEnds.{some_given, tries_row}
use Rattle.command_words.proofs.LineTally.{IsFitOnce, given_row, none_offered}
use Rattle.command_words.proofs.NumberLemmas.{as_written, signed_number, unsigned_number}
use Rattle.command_words.proofs.RowLemmas.{row_at}
use Rattle.command_words.proofs.WorkLeaf.{no_following, takes_seed, takes_tries, takes_workers, work_leaf, work_line, work_options}

-- ---- the number of an option

-- the text of a number below a bound, as a typed getter reads it
small_row : (id text : Text) (n : ℕ) (rows : List Row) → row_at id rows ≡ given_row id WithoutMinus (text ∷ []) → SpellsNumber text n → HasNumber rows id n
small_row id text n rows is number = (text, ap (option_and_then row_text) is ∙ ap (λ (t : Text). Some t) (as_written text n number), number)

-- a number, and the row that has it
record HasNumberIn (rows : List Row) (s : Setting) (values : List Text) (least most : ℕ) : Type 0 where
  pub n : ℕ
  pub given : IsGiven values n
  pub row : HasNumber rows (setting_name s) n
  pub low : least ≤ n
  pub high : n ≤ most

workers_number : (options : List Setting) (rows : List Row) (values : List Text) → row_at (codes "workers") rows ≡ given_row (codes "workers") WithoutMinus values
    → IsFitOnce options workers values → some_given values ≡ true → HasNumberIn rows workers values 1 16
workers_number options rows [] is fit some = absurd cc
workers_number options rows (text ∷ []) is fit some =
    let number = signed_number 1 16 text (omega arith) fit.1 in
    record {
      n = number.0;
      given = (text, refl, number.1);
      row = small_row (setting_name workers) text number.0 rows is number.1;
      low = number.2;
      high = number.3;
    }
workers_number options rows (text ∷ more ∷ values) is fit some = absurd fit

-- the tries, or the default
record HasTries (rows : List Row) (values : List Text) : Type 0 where
  pub n : ℕ
  pub given : IsGivenOr 3 values n
  pub row : HasNumber rows (codes "tries") n
  pub low : 1 ≤ n
  pub high : n ≤ 100

tries_number : (options : List Setting) (rows : List Row) (values : List Text) → row_at (codes "tries") rows ≡ tries_row values → IsFitOnce options tries values → HasTries rows values
tries_number options rows [] is fit = record {
  n = 3;
  given = refl;
  row = (codes "3", ap (option_and_then row_text) is, ((omega arith, (omega arith, tt)), refl));
  low = omega arith;
  high = omega arith;
}
tries_number options rows (text ∷ []) is fit =
    let number = signed_number 1 100 text (omega arith) fit.1 in
    record {
      n = number.0;
      given = (text, refl, number.1);
      row = small_row (setting_name tries) text number.0 rows is number.1;
      low = number.2;
      high = number.3;
    }
tries_number options rows (text ∷ more ∷ values) is fit = absurd fit

-- the seed, where the command takes one
record HasSeed (seeded : Bool) (rows : List Row) (values : List Text) : Type 0 where
  pub seed : Option ℕ
  pub is : is_some seed ≡ seeded
  pub given : IsGivenAny values seed
  pub row : IfSome seed (HasNumber rows (codes "seed"))
  pub fits : IfSome seed (λ n. n < 2 ^ 64)

seed_number : (seeded : Bool) (rows : List Row) (values : List Text) → row_at (codes "seed") rows ≡ given_row (codes "seed") AsWritten values → IsFitOnce (work_options seeded) seed values
    → (seeded ≡ true → some_given values ≡ true) → HasSeed seeded rows values
seed_number false rows [] is fit some = record { seed = None; is = refl; given = refl; row = tt; fits = tt }
seed_number true rows [] is fit some = let bad : false ≡ true = some refl in absurd cc
seed_number false rows (text ∷ []) is fit some = let bad : false ≡ true = fit.0 in absurd cc
seed_number true rows (text ∷ []) is fit some =
    let number = unsigned_number text fit.1 in
    record {
      seed = Some number.0;
      is = refl;
      given = (text, refl, number.1);
      row = (text, ap (option_and_then row_text) is, number.1);
      fits = number.2;
    }
seed_number seeded rows (text ∷ more ∷ values) is fit some = absurd fit

-- ---- what is asked for

-- what the words and the rows ask for
pub record AsksWork (seeded : Bool) (found : List Row) (words : List Text) : Type 0 where
  pub work : Work
  pub seeds : is_some work.seed ≡ seeded
  pub line : Line
  pub words_are : line_words line ≡ words
  pub says : SaysWork line work
  pub rows : HasWorkRows found work

-- what a line and the rows at its end ask for
asks : (seeded : Bool) (rows : List Row) (words : List Text) → Answered (work_options seeded) rows words → AsksWork seeded rows words
asks seeded rows words a =
    let options = work_options seeded in
    let end = a.finishes in
    let n = workers_number options rows (a.given.values workers) (end.settings workers refl) (a.fit workers) (a.whole.given workers (takes_workers seeded) refl) in
    let k = tries_number options rows (a.given.values tries) (end.tries (takes_tries seeded)) (a.fit tries) in
    let s = seed_number seeded rows (a.given.values seed) (end.settings seed refl) (a.fit seed) (λ is. a.whole.given seed (takes_seed seeded is) refl) in
    record {
      work = record { jobs = a.whole.path; types = a.whole.type ∷ a.whole.types; workers = n.n; tries = k.n; seed = s.seed };
      seeds = s.is;
      line = a.line;
      words_are = a.words_are;
      says = record {
        clear = a.clear;
        operands = a.operands_are ∙ a.whole.operands;
        workers = subst (λ (vs : List Text). IsGiven vs n.n) (sym (a.values_are workers)) n.given;
        tries = subst (λ (vs : List Text). IsGivenOr 3 vs k.n) (sym (a.values_are tries)) k.given;
        seed = subst (λ (vs : List Text). IsGivenAny vs s.seed) (sym (a.values_are seed)) s.given;
        following = a.values_are following ∙ none_offered options following (a.given.values following) (a.fit following) (no_following seeded);
      };
      rows = record {
        whole = record { types = omega arith; some_worker = n.low; few_workers = n.high; some_try = k.low; few_tries = k.high; seed = s.fits };
        store = a.store;
        workers = n.row;
        tries = k.row;
        seed = s.row;
      };
    }

-- words that come to no fault ask for something, and so do the rows
pub work_answered : (listed : Bor (List (Bor Text))) (seeded : Bool) (rest : List Text) → faults (work_leaf listed seeded) (at false start) rest ≡ []
    → AsksWork seeded (finished (work_leaf listed seeded).rules (end_of (work_leaf listed seeded) (at false start) rest).held) rest
work_answered listed seeded rest none =
    asks seeded _ rest (line_answered (work_leaf listed seeded) (work_options seeded) (work_line listed seeded) rest none)
