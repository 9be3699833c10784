-- Plain words of a command over a store's objects that takes options come to no fault.
use Rattle.std.proofs.Common.{◌≡◌, ◌∙◌, ◌++◌, ap, arith, refl, subst, sym, true, false, suc, Bool, List, [], ◌∷◌, append_assoc}
use Rattle.std.specs.Prelude.{All, codes, Option, Some, None}
use Rattle.std.specs.Option.{option_map_or}
use Rattle.std.specs.Str.{bytes_eq}
use Rattle.std.proofs.lemmas.List.{append-nil}
use Rattle.clap.specs.Lexer.{long_of}
use Rattle.clap.specs.Walk.{Rule, Walk, used, walked}
use Rattle.clap.specs.Kinds.{value_kinds}
use Rattle.clap.specs.Faults.{turn_fault, use_fault, walk_fault}
use Rattle.clap.specs.Simple.{Shape}
use Rattle.clap.specs.declared.builder.value_parser.ValueParser.TheVariants as parser
use Rattle.command_words.specs.Lines.{IsPlain, Line, Setting, apart, dashes, done, following, joined, line_words, operand, operands_of, seed, setting_name, tries, value_for, values_of, workers}
use Rattle.command_words.specs.Words.{Text}
use Rattle.command_words.proofs.LeafLemmas.{IsBetween, Place, Reads, after_reads, at, both_none, dashes_pass, ends, faults, held_at, plain_reads, start}
use Rattle.command_words.proofs.OptionLemmas.{or_else_none}
use Rattle.command_words.proofs.LineLemmas.{HasReached, after_apart, after_joined, after_operand, apart_moves, apart_reached, begins, joined_moves, joined_reached, operand_moves, operand_reached, position_fault, rows_at, settles, value_moves, value_settles, waiting_at}
use Rattle.command_words.proofs.RowLemmas.{row_at}
use Rattle.command_words.proofs.LineEnds.{IsComplete, ends_are, lacks_nothing, missing, some_given}
use Rattle.command_words.proofs.LineRules.{Offers, TakesLine, path_built, path_by_id, setting_by_long, setting_rule, types_by_id}
use Rattle.command_words.proofs.LineTally.{IsFitOften, IsFitOnce, IsFit, MayFollow, Tallies, Tally, nothing_given, path_row, set_passes, value_passes, values_by, with_operand, with_value}

-- ---- values

-- a value among fit ones: its option is taken, and it may follow those before it
record IsTaken (options : List Setting) (s : Setting) (before : List Text) (text : Text) : Type 0 where
  pub offered : Offers options s
  pub may : MayFollow s before text

-- of an option that is given once it is the only one
only : (options : List Setting) (s : Setting) (before : List Text) (text : Text) (after : List Text) → IsFitOnce options s (before ++ text ∷ after)
    → Offers options s × (before ≡ []) × (value_kinds false (values_by s) text ≡ [])
only options s [] text [] fit = (fit.0, refl, fit.1)
only options s [] text (more ∷ after) fit = absurd fit
only options s (one ∷ []) text after fit = absurd fit
only options s (one ∷ more ∷ before) text after fit = absurd fit

any : (options : List Setting) (s : Setting) (before : List Text) (text : Text) (after : List Text) → IsFitOften options s (before ++ text ∷ after) → Offers options s
any options s [] text after fit = fit
any options s (one ∷ before) text after fit = fit

taken : (options : List Setting) (s : Setting) (before : List Text) (text : Text) (after : List Text) → IsFit options s (before ++ text ∷ after)
    → IsTaken options s before text
taken options workers before text after fit = let one = only options workers before text after fit in record { offered = one.0; may = (one.1, one.2) }
taken options tries before text after fit = let one = only options tries before text after fit in record { offered = one.0; may = (one.1, one.2) }
taken options seed before text after fit = let one = only options seed before text after fit in record { offered = one.0; may = (one.1, one.2) }
taken options following before text after fit = record { offered = any options following before text after fit; may = tt }

-- an option's value among all values
own_values : (s : Setting) (text : Text) (after : List Text) → value_for s s text ++ after ≡ text ∷ after
own_values workers text after = refl
own_values tries text after = refl
own_values seed text after = refl
own_values following text after = refl

-- what holds of all holds of the later ones
all_behind : (P : Text → Type 0) (before after : List Text) → All P (before ++ after) → All P after
all_behind P [] after all = all
all_behind P (word ∷ before) after all = all_behind P before after (λ k d lt. all (suc k) d (omega (arith, lt)))

-- where all values are plain, so are the first and the others
first_plain : (s : Setting) (text : Text) (rest : Line) → All IsPlain (value_for s s text ++ values_of s rest) → IsPlain text
first_plain s text rest plain = subst (All IsPlain) (own_values s text (values_of s rest)) plain 0 text (omega arith)

later_plain : (s : Setting) (text : Text) (rest : Line) → ((wanted : Setting) → All IsPlain (value_for wanted s text ++ values_of wanted rest))
    → (wanted : Setting) → All IsPlain (values_of wanted rest)
later_plain s text rest plain wanted = all_behind IsPlain (value_for wanted s text) (values_of wanted rest) (plain wanted)

-- the words of an option
joined_word : (s : Setting) (text : Text) → (bytes_eq (codes "--" ++ setting_name s ++ codes "=" ++ text) (codes "--") ≡ false)
    × (long_of (codes "--" ++ setting_name s ++ codes "=" ++ text) ≡ Some (setting_name s, Some text))
joined_word workers text = (refl, refl)
joined_word tries text = (refl, refl)
joined_word seed text = (refl, refl)
joined_word following text = (refl, refl)

apart_word : (s : Setting) → (bytes_eq (codes "--" ++ setting_name s) (codes "--") ≡ false) × (long_of (codes "--" ++ setting_name s) ≡ Some (setting_name s, None))
apart_word workers = (refl, refl)
apart_word tries = (refl, refl)
apart_word seed = (refl, refl)
apart_word following = (refl, refl)

-- a plain word is no `--`
no_dashes : (text : Text) → IsPlain text → bytes_eq text (codes "--") ≡ false
no_dashes [] plain = refl
no_dashes (x ∷ xs) plain = simp plain refl

-- `--` comes to no fault
dashes_turn : (s : Shape) (p : Place) → IsBetween s p → turn_fault s [] (at false p) (codes "--") ≡ []
dashes_turn s p between = simp (between.nameless (codes "--")) refl

-- ---- what was given in all

-- what was given, and what a line gives
abbrev pub with_line : Tally → Line → Tally
with_line t line = record { operands = t.operands ++ operands_of line; values = λ s. t.values s ++ values_of s line }

-- it can be taken whole
pub record IsGood (options : List Setting) (t : Tally) : Type 0 where
  pub complete : IsComplete options t
  pub fit : (s : Setting) → IsFit options s (t.values s)

-- as can anything that is the same
same_good : (options : List Setting) (t u : Tally) → t.operands ≡ u.operands → ((s : Setting) → t.values s ≡ u.values s) → IsGood options t → IsGood options u
same_good options t u operands values good = record {
  complete = record {
    path = good.complete.path;
    type = good.complete.type;
    types = good.complete.types;
    operands = sym operands ∙ good.complete.operands;
    given = λ s offered wanted. sym (ap some_given (values s)) ∙ good.complete.given s offered wanted;
  };
  fit = λ s. subst (IsFit options s) (values s) (good.fit s);
}

-- the values of each option are plain
abbrev pub HasPlainValues : Line → Type 0
HasPlainValues line = (s : Setting) → All IsPlain (values_of s line)

module _ (command : Shape) (options : List Setting) (built : TakesLine command options) where
  -- ---- one operand

  -- settling an operand comes to no fault
  operand_settles : (p : Place) (t : Tally) (word : Text) → HasReached command options built p t → settles command options built p ≡ []
      → settles command options built (after_operand command options built p t.operands word) ≡ []
  operand_settles p t word reached clear = by_operands t.operands refl
    where
      tallied : Tallies options (rows_at command options built p) t
      tallied = reached.tallied clear

      by_operands : (operands : List Text) → t.operands ≡ operands → settles command options built (after_operand command options built p operands word) ≡ []
      by_operands [] first =
          let missing : row_at (codes "path") (rows_at command options built p) ≡ None = tallied.path ∙ ap path_row first in
          ap (λ (o : Option Rule). option_map_or (λ (a : Rule). use_fault command.args_override_self a (word ∷ []) (rows_at command options built p)) o []) (path_by_id command options built)
          ∙ ap (λ (again : Bool). use_fault again path_built (word ∷ []) (rows_at command options built p)) built.again
          ∙ set_passes (codes "path") (rows_at command options built p) parser.String word missing refl
      by_operands (path ∷ types) others =
          ap (λ (o : Option Rule). option_map_or (λ (a : Rule). use_fault command.args_override_self a (word ∷ []) (rows_at command options built p)) o []) (types_by_id command options built)

  -- an operand comes to no fault where the others come to none
  operand_passes : (b : Bool) (p : Place) (t : Tally) (word : Text) (rest : List Text) → HasReached command options built p t → settles command options built p ≡ [] → Reads command b p word
      → faults command (at b (after_operand command options built p t.operands word)) rest ≡ [] → faults command (at b p) (word ∷ rest) ≡ []
  unfolding walk_fault
  operand_passes b p t word rest reached clear reads others =
      let moved = reads.after ∙ operand_moves command options built p t.operands word b reached.position in
      let parts = or_else_none _ _ (subst (λ (w : Walk). faults command w rest ≡ []) (sym moved) others) in
      both_none _ _ (both_none _ _ (reads.fault ∙ position_fault command options built p t.operands (held_at p) reached.position ∙ clear) parts.0) parts.1

  -- ---- the end

  -- no fault comes of the end where all was given
  end_passes : (p : Place) (t : Tally) → HasReached command options built p t → settles command options built p ≡ [] → IsGood options t → ends command (held_at p) ≡ []
  end_passes p t reached clear good =
      ends_are command options built (held_at p) t (reached.tallied clear)
      ∙ both_none _ _ clear (ap missing (lacks_nothing options t good.complete))

  -- nor of operands after `--`
  behind_pass : (p : Place) (t : Tally) (operands : List Text) → HasReached command options built p t → settles command options built p ≡ [] → IsGood options (with_line t (dashes operands))
      → faults command (at true p) operands ≡ []
  unfolding walk_fault
  behind_pass p t [] reached clear good =
      end_passes p t reached clear (same_good options (with_line t (dashes [])) t (append-nil t.operands) (λ s. append-nil (t.values s)) good)
  behind_pass p t (word ∷ operands) reached clear good =
      operand_passes true p t word operands reached clear (after_reads command p word)
      (behind_pass (after_operand command options built p t.operands word) (with_operand t word) operands (operand_reached command options built p t word reached clear)
      (operand_settles p t word reached clear)
      (same_good options (with_line t (dashes (word ∷ operands))) (with_line (with_operand t word) (dashes operands)) (sym (append_assoc t.operands (word ∷ []) operands)) (λ _. refl) good))

  -- ---- options

  -- using an option's value comes to no fault, where it may follow those before it
  use_passes : (p : Place) (t : Tally) (s : Setting) (text : Text) → HasReached command options built p t → settles command options built p ≡ [] → MayFollow s (t.values s) text
      → use_fault command.args_override_self (setting_rule s) (text ∷ []) (rows_at command options built p) ≡ []
  use_passes p t s text reached clear may =
      ap (λ (again : Bool). use_fault again (setting_rule s) (text ∷ []) (rows_at command options built p)) built.again
      ∙ value_passes s text (rows_at command options built p) (t.values s) ((reached.tallied clear).settings s) may

  -- an option's word that comes to no fault, in its two forms
  joined_turn : (p : Place) (word : Text) (s : Setting) (text : Text) → Offers options s → IsBetween command p → bytes_eq word (codes "--") ≡ false
      → long_of word ≡ Some (setting_name s, Some text) → settles command options built p ≡ [] → use_fault command.args_override_self (setting_rule s) (text ∷ []) (rows_at command options built p) ≡ []
      → turn_fault command [] (at false p) word ≡ []
  joined_turn p word workers text offered between other long clear used =
      simp (between.nameless word, other, long, setting_by_long command options built workers offered) (both_none _ _ (both_none _ _ clear used) refl)
  joined_turn p word tries text offered between other long clear used =
      simp (between.nameless word, other, long, setting_by_long command options built tries offered) (both_none _ _ (both_none _ _ clear used) refl)
  joined_turn p word seed text offered between other long clear used =
      simp (between.nameless word, other, long, setting_by_long command options built seed offered) (both_none _ _ (both_none _ _ clear used) refl)
  joined_turn p word following text offered between other long clear used =
      simp (between.nameless word, other, long, setting_by_long command options built following offered) (both_none _ _ (both_none _ _ clear used) refl)

  apart_turn : (p : Place) (word : Text) (s : Setting) → Offers options s → IsBetween command p → bytes_eq word (codes "--") ≡ false
      → long_of word ≡ Some (setting_name s, None) → settles command options built p ≡ [] → turn_fault command [] (at false p) word ≡ []
  apart_turn p word workers offered between other long clear =
      simp (between.nameless word, other, long, setting_by_long command options built workers offered) (both_none _ _ clear refl)
  apart_turn p word tries offered between other long clear =
      simp (between.nameless word, other, long, setting_by_long command options built tries offered) (both_none _ _ clear refl)
  apart_turn p word seed offered between other long clear =
      simp (between.nameless word, other, long, setting_by_long command options built seed offered) (both_none _ _ clear refl)
  apart_turn p word following offered between other long clear =
      simp (between.nameless word, other, long, setting_by_long command options built following offered) (both_none _ _ clear refl)

  -- and a plain word as its value
  value_turn : (p : Place) (s : Setting) (text : Text) → IsPlain text → turn_fault command [] (waiting_at command options built false p s) text ≡ []
  value_turn p s [] plain = refl
  value_turn p s (x ∷ xs) plain = simp plain refl

  -- a word comes to no fault where the others come to none
  word_passes : (w moved : Walk) (word : Text) (rest : List Text) → turn_fault command [] w word ≡ [] → walked command.rules [] w word ≡ moved → faults command moved rest ≡ []
      → faults command w (word ∷ rest) ≡ []
  unfolding walk_fault
  word_passes w moved word rest clear is others =
      let parts = or_else_none _ _ (subst (λ (v : Walk). faults command v rest ≡ []) (sym is) others) in
      both_none _ _ (both_none _ _ clear parts.0) parts.1

  -- ---- lines

  -- the words of a line with plain operands and values come to no fault, where all was given in the end
  line_passes : (p : Place) (t : Tally) (line : Line) → HasReached command options built p t → settles command options built p ≡ [] → All IsPlain (operands_of line) → HasPlainValues line
      → IsGood options (with_line t line) → faults command (at false p) (line_words line) ≡ []
  unfolding walk_fault
  line_passes p t done reached clear plain values good =
      end_passes p t reached clear (same_good options (with_line t done) t (append-nil t.operands) (λ s. append-nil (t.values s)) good)
  line_passes p t (dashes operands) reached clear plain values good =
      word_passes (at false p) (at true p) (codes "--") operands (dashes_turn command p reached.between) (dashes_pass command p reached.between) (behind_pass p t operands reached clear good)
  line_passes p t (operand word rest) reached clear plain values good =
      operand_passes false p t word (line_words rest) reached clear (plain_reads command p reached.between word (plain 0 word (omega arith)))
      (line_passes (after_operand command options built p t.operands word) (with_operand t word) rest (operand_reached command options built p t word reached clear)
      (operand_settles p t word reached clear) (λ k d lt. plain (suc k) d (omega arith)) values
      (same_good options (with_line t (operand word rest)) (with_line (with_operand t word) rest) (sym (append_assoc t.operands (word ∷ []) (operands_of rest))) (λ _. refl) good))
  line_passes p t (apart s text rest) reached clear plain values good =
      let one = taken options s (t.values s) text (values_of s rest) (subst (λ (vs : List Text). IsFit options s (t.values s ++ vs)) (own_values s text (values_of s rest)) (good.fit s)) in
      let used_well = use_passes p t s text reached clear one.may in
      let is_plain = first_plain s text rest (values s) in
      let turn = value_turn p s text is_plain in
      word_passes (at false p) (waiting_at command options built false p s) (codes "--" ++ setting_name s) (text ∷ line_words rest)
      (apart_turn p (codes "--" ++ setting_name s) s one.offered reached.between (apart_word s).0 (apart_word s).1 clear)
      (apart_moves command options built p (codes "--" ++ setting_name s) s one.offered reached.between (apart_word s).0 (apart_word s).1)
      (word_passes (waiting_at command options built false p s) (at false (after_apart command options built p s text)) text (line_words rest) turn
      (value_moves command options built p s text one.offered (no_dashes text is_plain) turn)
      (line_passes (after_apart command options built p s text) (with_value t s text) rest (apart_reached command options built p t s text one.offered reached clear)
      (value_settles command options built p s text one.offered ∙ used_well) plain (later_plain s text rest values)
      (same_good options (with_line t (apart s text rest)) (with_line (with_value t s text) rest) refl
      (λ wanted. sym (append_assoc (t.values wanted) (value_for wanted s text) (values_of wanted rest))) good)))
  line_passes p t (joined s text rest) reached clear plain values good =
      let one = taken options s (t.values s) text (values_of s rest) (subst (λ (vs : List Text). IsFit options s (t.values s ++ vs)) (own_values s text (values_of s rest)) (good.fit s)) in
      let used_well = use_passes p t s text reached clear one.may in
      let word = codes "--" ++ setting_name s ++ codes "=" ++ text in
      word_passes (at false p) (at false (after_joined command options built p s text)) word (line_words rest)
      (joined_turn p word s text one.offered reached.between (joined_word s text).0 (joined_word s text).1 clear used_well)
      (joined_moves command options built p word s text one.offered reached.between (joined_word s text).0 (joined_word s text).1)
      (line_passes (after_joined command options built p s text) (with_value t s text) rest (joined_reached command options built p t s text one.offered reached clear used_well) refl plain (later_plain s text rest values)
      (same_good options (with_line t (joined s text rest)) (with_line (with_value t s text) rest) refl
      (λ wanted. sym (append_assoc (t.values wanted) (value_for wanted s text) (values_of wanted rest))) good))

  -- the same, from the beginning
  pub words_pass : (line : Line) → All IsPlain (operands_of line) → HasPlainValues line → IsGood options (with_line nothing_given line)
      → faults command (at false start) (line_words line) ≡ []
  words_pass line plain values good = line_passes start nothing_given line (begins command options built) refl plain values good
