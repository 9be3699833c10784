-- Plain words of `work` and `stress` come to no fault.
use Rattle.std.proofs.Common.{◌≡◌, ◌∙◌, ap, arith, refl, subst, sym, true, false, ℕ, List, [], ◌∷◌, Bor}
use Rattle.std.specs.Prelude.{All, is_some, length, Option, Some, None, ◌<◌, ◌≤◌, ◌^◌, IfSome}
use Rattle.clap.specs.Kinds.{value_kinds}
use Rattle.command_words.specs.Lines.{IsGiven, IsGivenAny, IsGivenOr, SpellsNumber, IsPlain, IsWholeWork, Line, SaysWork, Setting, Work, following, line_words, seed, tries, values_of, workers}
use Rattle.command_words.specs.Words.{IsPlainWork, Text}
use Rattle.command_words.proofs.LeafLemmas.{at, faults, start}
use Rattle.command_words.proofs.LineEnds.{is_wanted, some_given}
use Rattle.command_words.proofs.LinePlain.{HasPlainValues, IsGood, with_line, words_pass}
use Rattle.command_words.proofs.LineRules.{Offers}
use Rattle.command_words.proofs.LineTally.{IsFitOnce, IsFit, nothing_given, values_by}
use Rattle.command_words.proofs.NumberLemmas.{no_minus, signed_taken, unsigned_taken}
use Rattle.command_words.proofs.SubcommandLemmas.{all_of_none, all_with}
use Rattle.command_words.proofs.WorkLeaf.{takes_tries, takes_workers, work_leaf, work_line, work_options}

-- ---- numbers

-- one number is fit
fit_number : (options : List Setting) (s : Setting) (values : List Text) (n : ℕ) → Offers options s → IsGiven values n
    → ((text : Text) → SpellsNumber text n → value_kinds false (values_by s) text ≡ []) → IsFitOnce options s values
fit_number options s values n offered given taken = subst (IsFitOnce options s) (sym given.1) (offered, taken given.0 given.2)

fit_tries : (options : List Setting) (values : List Text) (n : ℕ) → Offers options tries → IsGivenOr 3 values n → 1 ≤ n → n ≤ 100 → IsFitOnce options tries values
fit_tries options [] n offered given least most = tt
fit_tries options (text ∷ values) n offered given least most =
    fit_number options tries (text ∷ values) n offered given (λ v is. signed_taken 1 100 n v is least most (omega arith))

-- something was given where there is a number
number_given : (values : List Text) (n : ℕ) → IsGiven values n → some_given values ≡ true
number_given values n given = ap some_given given.1

-- and its text is plain
number_plain : (values : List Text) (n : ℕ) → IsGiven values n → All IsPlain values
number_plain values n given =
    subst (All IsPlain) (sym given.1) (all_with IsPlain given.0 [] (no_minus given.0 given.2.0) (all_of_none IsPlain))

tries_plain : (values : List Text) (n : ℕ) → IsGivenOr 3 values n → All IsPlain values
tries_plain [] n given = all_of_none IsPlain
tries_plain (text ∷ values) n given = number_plain (text ∷ values) n given

seed_plain : (values : List Text) (s : Option ℕ) → IsGivenAny values s → All IsPlain values
seed_plain values None given = subst (All IsPlain) (sym given) (all_of_none IsPlain)
seed_plain values (Some n) given = number_plain values n given

-- ---- what is asked for plainly

module _ (line : Line) (w : Work) (says : SaysWork line w) where
  -- the values of the options are plain
  values_plain : HasPlainValues line
  values_plain workers = number_plain (values_of workers line) w.workers says.workers
  values_plain tries = tries_plain (values_of tries line) w.tries says.tries
  values_plain seed = seed_plain (values_of seed line) w.seed says.seed
  values_plain following = subst (All IsPlain) (sym says.following) (all_of_none IsPlain)

  -- the options that are required are given
  all_given : (s : Option ℕ) → IsGivenAny (values_of seed line) s → (wanted : Setting) → Offers (work_options (is_some s)) wanted → is_wanted wanted ≡ true
      → some_given (values_of wanted line) ≡ true
  all_given s given workers offered wanted = number_given (values_of workers line) w.workers says.workers
  all_given s given tries offered wanted = absurd cc
  all_given None given seed offered wanted = absurd cc
  all_given (Some n) given seed offered wanted = number_given (values_of seed line) n given
  all_given s given following offered wanted = absurd cc

  -- and each is fit
  all_fit : IsWholeWork w → (s : Option ℕ) → IsGivenAny (values_of seed line) s → IfSome s (λ n. n < 2 ^ 64)
      → (wanted : Setting) → IsFit (work_options (is_some s)) wanted (values_of wanted line)
  all_fit whole s given bound workers = fit_number (work_options (is_some s)) workers (values_of workers line) w.workers (takes_workers (is_some s)) says.workers
      (λ text is. signed_taken 1 16 w.workers text is whole.some_worker whole.few_workers (omega arith))
  all_fit whole s given bound tries =
      fit_tries (work_options (is_some s)) (values_of tries line) w.tries (takes_tries (is_some s)) says.tries whole.some_try whole.few_tries
  all_fit whole None given bound seed = subst (IsFitOnce (work_options false) seed) (sym given) tt
  all_fit whole (Some n) given bound seed = fit_number (work_options true) seed (values_of seed line) n refl given (λ text is. unsigned_taken n text is bound)
  all_fit whole s given bound following = subst (IsFit (work_options (is_some s)) following) (sym says.following) tt

  -- so the line gives all
  says_all : IsWholeWork w → (types : List Text) → w.types ≡ types → IsGood (work_options (is_some w.seed)) (with_line nothing_given line)
  says_all whole [] none = let bad : 0 < length {A = Text} [] = subst (λ (ts : List Text). 0 < length ts) none whole.types in absurd (omega arith)
  says_all whole (type ∷ types) are = record {
    complete = record {
      path = w.jobs;
      type = type;
      types = types;
      operands = says.operands ∙ ap (λ (ts : List Text). w.jobs ∷ ts) are;
      given = all_given w.seed says.seed;
    };
    fit = all_fit whole w.seed says.seed whole.seed;
  }

  -- its words come to no fault, where its operands are plain
  pub work_passes : (listed : Bor (List (Bor Text))) → IsPlainWork w → faults (work_leaf listed (is_some w.seed)) (at false start) (line_words line) ≡ []
  work_passes listed plain =
      words_pass (work_leaf listed (is_some w.seed)) (work_options (is_some w.seed)) (work_line listed (is_some w.seed)) line
      (subst (All IsPlain) (sym says.operands) (all_with IsPlain w.jobs w.types plain.1 plain.2)) values_plain
      (says_all plain.0 w.types refl)
