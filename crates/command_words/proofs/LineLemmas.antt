-- The walk of a command over a store's objects that takes options, over words that come to no fault.
use Rattle.std.proofs.Common.{◌≡◌, ◌∙◌, ◌++◌, ◌&&◌, ap, ap₂, refl, subst, sym, true, false, Bool, ℕ, List, [], ◌∷◌, append_assoc}
use Rattle.std.specs.Prelude.{codes, Some, None, Option, if◌then◌else◌}
use Rattle.std.specs.Option.{option_map_or}
use Rattle.std.specs.Str.{bytes_eq}
use Rattle.std.specs.Cmp.Lexicographic.{same_text}
use Rattle.std.proofs.lemmas.List.{append-nil}
use Rattle.clap.specs.Lexer.{long_of}
use Rattle.clap.specs.Walk.{Held, Row, Rule, Waiting, Walk, arg_by_index, arg_by_long, idle, is_pending, next, option, plain_word, positional, settled, to_positional, used, used_by_id, value, walked}
use Rattle.clap.specs.Kinds.{Kinds}
use Rattle.clap.specs.Faults.{flag_word_fault, long_fault, settle_fault, step_fault, turn_fault, use_fault, walk_fault}
use Rattle.clap.specs.Simple.{Shape}
use Rattle.clap.specs.declared.error.kind.ErrorKind.TheVariants.{InvalidValue}
use Rattle.command_words.specs.Lines.{IsClear, Line, Setting, apart, dashes, done, following, joined, line_words, operand, operands_of, seed, setting_name, tries, value_for, values_of, workers}
use Rattle.command_words.specs.Words.{Text}
use Rattle.command_words.proofs.Leaves.{waits}
use Rattle.command_words.proofs.LeafLemmas.{IsBetween, Place, Reads, after_reads, at, dashes_pass, end_of, ends, faults, held_at, one_word, start}
use Rattle.command_words.proofs.LongWords.{long_text, long_word, not_long}
use Rattle.command_words.proofs.OptionLemmas.{by_test, holding, never, no_letter, or_else_none}
use Rattle.command_words.proofs.LineRules.{IsSetting, Offers, TakesLine, letters_refused, long_setting, path_built, path_by_id, path_by_index, setting_by_id, setting_by_long, setting_rule, types_built, types_by_id, types_by_index}
use Rattle.command_words.proofs.LineTally.{Tallies, Tally, none_tallied, nothing_given, path_used, types_used, value_clear, value_used, with_operand, with_value}

-- ---- places

-- whose turn it is after these operands
abbrev pub position_of : List Text → ℕ
position_of [] = 1
position_of (path ∷ types) = 2

-- where a further operand goes, and what then waits
abbrev operand_id : List Text → Text
operand_id [] = codes "path"
operand_id (path ∷ types) = codes "types"

abbrev operand_waits : List Text → Waiting
operand_waits [] = idle
operand_waits (path ∷ types) = positional

-- a test that fails chooses the second
no_choice : {X : Type 0} (b : Bool) (x y : X) → (if b && false then x else y) ≡ y
no_choice true x y = refl
no_choice false x y = refl

-- an option with its value, as one word
joined_word : (s : Setting) (text : Text) → codes "--" ++ setting_name s ++ codes "=" ++ text ≡ codes "--" ++ long_text (setting_name s) (Some text)
joined_word workers text = refl
joined_word tries text = refl
joined_word seed text = refl
joined_word following text = refl

module _ (command : Shape) (options : List Setting) (built : TakesLine command options) where
  -- the rows at a place, once what is pending is settled, and the faults of settling it
  abbrev pub rows_at : Place → List Row
  rows_at p = (settled command.rules (held_at p)).rows

  abbrev pub settles : Place → Kinds
  settles p = settle_fault command.rules command.args_override_self (held_at p)

  -- the walk has reached the place, after this was given
  pub record HasReached (p : Place) (t : Tally) : Type 0 where
    pub between : IsBetween command p
    pub position : p.position ≡ position_of t.operands
    pub tallied : settles p ≡ [] → Tallies options (rows_at p) t

  -- where the walk begins, nothing was given
  pub begins : HasReached start nothing_given
  begins = record {
    between = record { free = λ _ _. refl; nameless = λ _. refl };
    position = refl;
    tallied = λ _. none_tallied options;
  }

  -- the places after a further operand, and after an option in its two forms
  abbrev pub after_operand : Place → List Text → Text → Place
  after_operand p operands word =
      record { rows = rows_at p; pending = waits (operand_id operands) word; position = 2; waiting = operand_waits operands }

  abbrev pub after_apart : Place → Setting → Text → Place
  after_apart p s text = record { rows = rows_at p; pending = waits (setting_name s) text; position = p.position; waiting = idle }

  abbrev pub after_joined : Place → Setting → Text → Place
  after_joined p s text = record { rows = used (setting_rule s) (text ∷ []) (rows_at p); pending = None; position = p.position; waiting = idle }

  -- what is held where an option waits for its value, and the walk there
  abbrev pub waiting_held : Place → Setting → Held
  waiting_held p s = holding (rows_at p) (Some (setting_name s, []))

  abbrev pub waiting_at : Bool → Place → Setting → Walk
  waiting_at after_dashes p s = record {
    held = waiting_held p s;
    waiting = option (setting_name s);
    position = p.position;
    is_trailing = after_dashes;
    stopped = None;
  }

  -- ---- one operand

  -- its faults are those of what is pending
  pub position_fault : (p : Place) (operands : List Text) (h : Held) → p.position ≡ position_of operands
      → step_fault command p.position h value ≡ settle_fault command.rules command.args_override_self h
  position_fault p [] h is = simp (is, path_by_index command options built) (no_choice (is_pending path_built h.pending) [] (settle_fault command.rules command.args_override_self h))
  position_fault p (path ∷ types) h is = simp (is, types_by_index command options built) (no_choice (is_pending types_built h.pending) [] (settle_fault command.rules command.args_override_self h))

  -- and it moves the walk to the place after it
  pub operand_moves : (p : Place) (operands : List Text) (word : Text) (t : Bool) → p.position ≡ position_of operands
      → to_positional command.rules (arg_by_index command.rules p.position) word (at t p) (held_at p) ≡ at t (after_operand p operands word)
  operand_moves p [] word true is = simp (is, path_by_index command options built, no_choice) refl
  operand_moves p [] word false is = simp (is, path_by_index command options built, no_choice) refl
  operand_moves p (path ∷ types) word true is = simp (is, types_by_index command options built, no_choice) refl
  operand_moves p (path ∷ types) word false is = simp (is, types_by_index command options built, no_choice) refl

  -- so what was given has one operand more
  pub operand_reached : (p : Place) (t : Tally) (word : Text) → HasReached p t → settles p ≡ [] → HasReached (after_operand p t.operands word) (with_operand t word)
  operand_reached p t word reached clear = by_operands t.operands refl
    where
      by_operands : (operands : List Text) → t.operands ≡ operands → HasReached (after_operand p operands word) (with_operand t word)
      by_operands [] first = record {
        between = record { free = λ _ _. refl; nameless = λ _. refl };
        position = sym (ap (λ (os : List Text). position_of (os ++ word ∷ [])) first);
        tallied = λ _. subst (λ (o : Option Rule). Tallies options (used_by_id o (word ∷ []) (rows_at p)) (with_operand t word)) (sym (path_by_id command options built))
            (path_used options (rows_at p) t word first (reached.tallied clear));
      }
      by_operands (path ∷ types) others = record {
        between = record { free = λ _ _. refl; nameless = λ _. refl };
        position = sym (ap (λ (os : List Text). position_of (os ++ word ∷ [])) others);
        tallied = λ _. subst (λ (o : Option Rule). Tallies options (used_by_id o (word ∷ []) (rows_at p)) (with_operand t word)) (sym (types_by_id command options built))
            (types_used options (rows_at p) t word path types others (reached.tallied clear));
      }

  -- ---- where the walk ends

  -- after what was given before, these operands and values were given, and no fault comes of the end
  pub record Ends (t : Tally) (h : Held) (operands : List Text) (values : Setting → List Text) : Type 0 where
    pub total : Tally
    pub operands_are : total.operands ≡ t.operands ++ operands
    pub values_are : (s : Setting) → total.values s ≡ t.values s ++ values s
    pub tallied : Tallies options (settled command.rules h).rows total
    pub fault : ends command h ≡ []

  -- at the end nothing more is given
  ends_here : (p : Place) (t : Tally) → HasReached p t → ends command (held_at p) ≡ [] → Ends t (held_at p) [] (λ _. [])
  ends_here p t reached none = record {
    total = t;
    operands_are = sym (append-nil t.operands);
    values_are = λ s. sym (append-nil (t.values s));
    tallied = reached.tallied (or_else_none (settles p) _ none).0;
    fault = none;
  }

  -- one operand, and then the others
  operand_then : (b : Bool) (p : Place) (t : Tally) (word : Text) (rest operands : List Text) (values : Setting → List Text) → HasReached p t
      → faults command (at b p) (word ∷ rest) ≡ [] → Reads command b p word
      → (HasReached (after_operand p t.operands word) (with_operand t word) → faults command (at b (after_operand p t.operands word)) rest ≡ []
      → Ends (with_operand t word) (end_of command (at b (after_operand p t.operands word)) rest).held operands values)
      → Ends t (end_of command (walked command.rules [] (at b p) word) rest).held (word ∷ operands) values
  operand_then b p t word rest operands values reached none reads others =
      let parts = one_word command (at b p) word rest none in
      let clear = sym (position_fault p t.operands (held_at p) reached.position) ∙ sym reads.fault ∙ parts.0 in
      let moved = reads.after ∙ operand_moves p t.operands word b reached.position in
      let ended = others (operand_reached p t word reached clear) (subst (λ (w : Walk). faults command w rest ≡ []) moved parts.1) in
      subst (λ (w : Walk). Ends t (end_of command w rest).held (word ∷ operands) values) (sym moved) (record {
        total = ended.total;
        operands_are = ended.operands_are ∙ append_assoc t.operands (word ∷ []) operands;
        values_are = ended.values_are;
        tallied = ended.tallied;
        fault = ended.fault;
      })

  -- all words after `--` are operands
  after_all : (p : Place) (t : Tally) (rest : List Text) → HasReached p t → faults command (at true p) rest ≡ []
      → Ends t (end_of command (at true p) rest).held rest (λ _. [])
  unfolding walk_fault
  after_all p t [] reached none = ends_here p t reached none
  after_all p t (word ∷ rest) reached none =
      operand_then true p t word rest rest (λ _. []) reached none (after_reads command p word)
      (λ next clear. after_all (after_operand p t.operands word) (with_operand t word) rest next clear)

  -- ---- options

  -- the use of an option whose value waits to be settled, and its fault
  value_rows : (p : Place) (s : Setting) (text : Text) → Offers options s
      → rows_at (after_apart p s text) ≡ used (setting_rule s) (text ∷ []) (rows_at p)
  value_rows p s text offered = ap (λ (o : Option Rule). used_by_id o (text ∷ []) (rows_at p)) (setting_by_id command options built s offered)

  pub value_settles : (p : Place) (s : Setting) (text : Text) → Offers options s
      → settles (after_apart p s text) ≡ use_fault command.args_override_self (setting_rule s) (text ∷ []) (rows_at p)
  value_settles p s text offered =
      ap (λ (o : Option Rule). option_map_or (λ (a : Rule). use_fault command.args_override_self a (text ∷ []) (rows_at p)) o []) (setting_by_id command options built s offered)

  -- a value that comes to no fault is one more of the option's
  value_given : (p : Place) (t : Tally) (s : Setting) (text : Text) → Offers options s → HasReached p t → settles p ≡ []
      → use_fault command.args_override_self (setting_rule s) (text ∷ []) (rows_at p) ≡ []
      → Tallies options (used (setting_rule s) (text ∷ []) (rows_at p)) (with_value t s text)
  value_given p t s text offered reached clear none =
      value_used options (rows_at p) t s text offered
      (value_clear s text (rows_at p) (t.values s) ((reached.tallied clear).settings s) (subst (λ (again : Bool). use_fault again (setting_rule s) (text ∷ []) (rows_at p) ≡ []) built.again none))
      (reached.tallied clear)

  pub apart_reached : (p : Place) (t : Tally) (s : Setting) (text : Text) → Offers options s → HasReached p t → settles p ≡ [] → HasReached (after_apart p s text) (with_value t s text)
  apart_reached p t s text offered reached clear = record {
    between = record { free = λ _ _. refl; nameless = λ _. refl };
    position = reached.position;
    tallied = λ none. subst (λ (rows : List Row). Tallies options rows (with_value t s text)) (sym (value_rows p s text offered))
        (value_given p t s text offered reached clear (sym (value_settles p s text offered) ∙ none));
  }

  pub joined_reached : (p : Place) (t : Tally) (s : Setting) (text : Text) → Offers options s → HasReached p t → settles p ≡ []
      → use_fault command.args_override_self (setting_rule s) (text ∷ []) (rows_at p) ≡ [] → HasReached (after_joined p s text) (with_value t s text)
  joined_reached p t s text offered reached clear none = record {
    between = record { free = λ _ _. refl; nameless = λ _. refl };
    position = reached.position;
    tallied = λ _. value_given p t s text offered reached clear none;
  }

  -- the fault of a word that is a long option is that of the option
  long_turn : (p : Place) (word name : Text) (v : Option Text) → IsBetween command p → bytes_eq word (codes "--") ≡ false → long_of word ≡ Some (name, v)
      → turn_fault command [] (at false p) word ≡ []
      → long_fault command.rules command.args_override_self (arg_by_long command.rules name) v (held_at p) ≡ []
  long_turn p word name v between other long none = (or_else_none _ _ (simp (between.nameless word, other, long) at none)).0

  -- an option with its value moves the walk to the place after it
  pub joined_moves : (p : Place) (word : Text) (s : Setting) (text : Text) → Offers options s → IsBetween command p → bytes_eq word (codes "--") ≡ false
      → long_of word ≡ Some (setting_name s, Some text) → walked command.rules [] (at false p) word ≡ at false (after_joined p s text)
  unfolding walked
  joined_moves p word workers text offered between other long = simp (between.nameless word, other, long, setting_by_long command options built workers offered) refl
  joined_moves p word tries text offered between other long = simp (between.nameless word, other, long, setting_by_long command options built tries offered) refl
  joined_moves p word seed text offered between other long = simp (between.nameless word, other, long, setting_by_long command options built seed offered) refl
  joined_moves p word following text offered between other long = simp (between.nameless word, other, long, setting_by_long command options built following offered) refl

  -- and one without waits for it
  pub apart_moves : (p : Place) (word : Text) (s : Setting) → Offers options s → IsBetween command p → bytes_eq word (codes "--") ≡ false
      → long_of word ≡ Some (setting_name s, None) → walked command.rules [] (at false p) word ≡ waiting_at false p s
  unfolding walked
  apart_moves p word workers offered between other long = simp (between.nameless word, other, long, setting_by_long command options built workers offered) refl
  apart_moves p word tries offered between other long = simp (between.nameless word, other, long, setting_by_long command options built tries offered) refl
  apart_moves p word seed offered between other long = simp (between.nameless word, other, long, setting_by_long command options built seed offered) refl
  apart_moves p word following offered between other long = simp (between.nameless word, other, long, setting_by_long command options built following offered) refl

  -- the fault of an option with its value
  joined_fault : (s : Setting) (text : Text) (h : Held) → Offers options s
      → long_fault command.rules command.args_override_self (arg_by_long command.rules (setting_name s)) (Some text) h ≡ []
      → (settle_fault command.rules command.args_override_self h ≡ [])
      × (use_fault command.args_override_self (setting_rule s) (text ∷ []) (settled command.rules h).rows ≡ [])
  joined_fault s text h offered none = by_rule s (subst (λ (o : Option Rule). long_fault command.rules command.args_override_self o (Some text) h ≡ []) (setting_by_long command options built s offered) none)
    where
      by_rule : (s : Setting) → long_fault command.rules command.args_override_self (Some (setting_rule s)) (Some text) h ≡ []
          → (settle_fault command.rules command.args_override_self h ≡ [])
          × (use_fault command.args_override_self (setting_rule s) (text ∷ []) (settled command.rules h).rows ≡ [])
      by_rule workers none = or_else_none _ _ none
      by_rule tries none = or_else_none _ _ none
      by_rule seed none = or_else_none _ _ none
      by_rule following none = or_else_none _ _ none

  -- and of one in either form: what is pending is settled first
  option_fault : (s : Setting) (v : Option Text) (h : Held) → Offers options s
      → long_fault command.rules command.args_override_self (arg_by_long command.rules (setting_name s)) v h ≡ []
      → settle_fault command.rules command.args_override_self h ≡ []
  option_fault s (Some text) h offered none = (joined_fault s text h offered none).0
  option_fault s None h offered none = by_rule s (subst (λ (o : Option Rule). long_fault command.rules command.args_override_self o None h ≡ []) (setting_by_long command options built s offered) none)
    where
      by_rule : (s : Setting) → long_fault command.rules command.args_override_self (Some (setting_rule s)) None h ≡ []
          → settle_fault command.rules command.args_override_self h ≡ []
      by_rule workers none = none
      by_rule tries none = none
      by_rule seed none = none
      by_rule following none = none

  -- ---- an option waits for its value

  -- where it is settled without one, there is a fault
  unsettled : (p : Place) (s : Setting) → Offers options s → settle_fault command.rules command.args_override_self (waiting_held p s) ≡ [] → ⊥
  unsettled p s offered none = by_rule s (subst
      (λ (o : Option Rule). option_map_or (λ (a : Rule). use_fault command.args_override_self a [] (rows_at p)) o [] ≡ []) (setting_by_id command options built s offered) none)
    where
      by_rule : (s : Setting) → use_fault command.args_override_self (setting_rule s) [] (rows_at p) ≡ [] → ⊥
      by_rule workers none = never InvalidValue [] none
      by_rule tries none = never InvalidValue [] none
      by_rule seed none = never InvalidValue [] none
      by_rule following none = never InvalidValue [] none

  -- so none comes after `--`
  no_dashes : (p : Place) (t : Tally) (s : Setting) (rest : List Text) → Offers options s → HasReached p t → faults command (waiting_at true p s) rest ≡ [] → ⊥
  unfolding walk_fault
  no_dashes p t s [] offered reached none = unsettled p s offered (or_else_none (settle_fault command.rules command.args_override_self (waiting_held p s)) _ none).0
  no_dashes p t s (word ∷ rest) offered reached none =
      unsettled p s offered (sym (position_fault p t.operands (waiting_held p s) reached.position) ∙ (one_word command (waiting_at true p s) word rest none).0)

  -- the next word is the value, where it comes to no fault
  pub value_moves : (p : Place) (s : Setting) (text : Text) → Offers options s → bytes_eq text (codes "--") ≡ false
      → turn_fault command [] (waiting_at false p s) text ≡ [] → walked command.rules [] (waiting_at false p s) text ≡ at false (after_apart p s text)
  unfolding walked
  value_moves p s text offered other none = by_long (long_of text) refl
    where
      flags : flag_word_fault command.rules command.args_override_self (long_of text) text (waiting_held p s) ≡ []
      flags = (or_else_none _ _ (simp other at none)).0

      pushed_at : (s : Setting) → Offers options s → plain_word command.rules (option (setting_name s)) text (waiting_held p s)
          ≡ (held_at (after_apart p s text), next idle)
      pushed_at workers offered = simp (setting_by_id command options built workers offered) refl
      pushed_at tries offered = simp (setting_by_id command options built tries offered) refl
      pushed_at seed offered = simp (setting_by_id command options built seed offered) refl
      pushed_at following offered = simp (setting_by_id command options built following offered) refl

      by_long : (o : Option (Text × Option Text)) → long_of text ≡ o → walked command.rules [] (waiting_at false p s) text ≡ at false (after_apart p s text)
      by_long None long =
          let plain = no_letter command.rules command.args_override_self (letters_refused command options built) (option (setting_name s)) (rows_at p) (Some (setting_name s, [])) text long flags in
          simp (other, plain ∙ pushed_at s offered) refl
      by_long (Some q) long =
          let named = long_setting command options built q.0 q.1 (waiting_held p s)
          (subst (λ (o : Option (Text × Option Text)). flag_word_fault command.rules command.args_override_self o text (waiting_held p s) ≡ []) long flags) in
          let same = subst (λ (o : Option (Text × Option Text)). flag_word_fault command.rules command.args_override_self o text (waiting_held p s) ≡ []) long flags in
          absurd (unsettled p s offered (option_fault named.setting q.1 (waiting_held p s) named.offered
          (subst (λ (name : Text). long_fault command.rules command.args_override_self (arg_by_long command.rules name) q.1 (waiting_held p s) ≡ []) (sym named.named) same)))

  -- ---- lines

  -- the words are those of a line, and its operands and values were given after what was given before
  pub record Found (t : Tally) (h : Held) (words : List Text) : Type 0 where
    pub line : Line
    pub words_are : line_words line ≡ words
    pub clear : IsClear line
    pub ends : Ends t h (operands_of line) (λ s. values_of s line)

  -- the same, where the first word is the value of an option that waits
  pub record FoundValue (t : Tally) (s : Setting) (h : Held) (words : List Text) : Type 0 where
    pub text : Text
    pub line : Line
    pub words_are : text ∷ line_words line ≡ words
    pub clear : IsClear line
    pub ends : Ends (with_value t s text) h (operands_of line) (λ wanted. values_of wanted line)

  -- from a place between two words, and from an option that waits
  abbrev FindsLine : List Text → Type 0
  FindsLine rest = (p : Place) (t : Tally) → HasReached p t → faults command (at false p) rest ≡ [] → Found t (end_of command (at false p) rest).held rest

  abbrev FindsValue : List Text → Type 0
  FindsValue rest = (p : Place) (t : Tally) (s : Setting) → Offers options s → HasReached p t → settles p ≡ [] → faults command (waiting_at false p s) rest ≡ []
      → FoundValue t s (end_of command (waiting_at false p s) rest).held rest

  -- a value that joins those before it, and the others
  value_joined : (t : Tally) (s : Setting) (text : Text) (h : Held) (operands : List Text) (values : Setting → List Text) → Ends (with_value t s text) h operands values
      → Ends t h operands (λ wanted. value_for wanted s text ++ values wanted)
  value_joined t s text h operands values ended = record {
    total = ended.total;
    operands_are = ended.operands_are;
    values_are = λ wanted. ended.values_are wanted ∙ append_assoc (t.values wanted) (value_for wanted s text) (values wanted);
    tallied = ended.tallied;
    fault = ended.fault;
  }

  -- past `--`
  past_dashes : (p : Place) (t : Tally) (rest : List Text) → HasReached p t → faults command (at false p) (codes "--" ∷ rest) ≡ []
      → Found t (end_of command (at false p) (codes "--" ∷ rest)).held (codes "--" ∷ rest)
  past_dashes p t rest reached none =
      let passed = dashes_pass command p reached.between in
      let clear = (one_word command (at false p) (codes "--") rest none).1 in
      let ended = after_all p t rest reached (subst (λ (w : Walk). faults command w rest ≡ []) passed clear) in
      record {
        line = dashes rest;
        words_are = refl;
        clear = tt;
        ends = subst (λ (w : Walk). Ends t (end_of command w rest).held rest (λ _. [])) (sym passed) ended;
      }

  -- past an operand
  past_operand : (p : Place) (t : Tally) (word : Text) (rest : List Text) → FindsLine rest → HasReached p t → bytes_eq word (codes "--") ≡ false → long_of word ≡ None
      → faults command (at false p) (word ∷ rest) ≡ [] → Found t (end_of command (at false p) (word ∷ rest)).held (word ∷ rest)
  unfolding walked
  past_operand p t word rest finds reached other long none =
      let turn = (one_word command (at false p) word rest none).0 in
      let flags = (or_else_none _ _ (simp (reached.between.nameless word, other) at turn)).0 in
      let plain = no_letter command.rules command.args_override_self (letters_refused command options built) p.waiting p.rows p.pending word long flags
      ∙ reached.between.free word (held_at p) in
      let reads : Reads command false p word = record {
        after = simp (reached.between.nameless word, other, plain);
        fault = simp (reached.between.nameless word, other, flags, plain);
      } in
      let moved = reads.after ∙ operand_moves p t.operands word false reached.position in
      let clear = sym (position_fault p t.operands (held_at p) reached.position) ∙ sym reads.fault ∙ turn in
      let found = finds (after_operand p t.operands word) (with_operand t word) (operand_reached p t word reached clear)
      (subst (λ (w : Walk). faults command w rest ≡ []) moved (one_word command (at false p) word rest none).1) in
      record {
        line = operand word found.line;
        words_are = ap (λ (ws : List Text). word ∷ ws) {x = line_words found.line} found.words_are;
        clear = (not_long word long other, found.clear);
        ends = operand_then false p t word rest (operands_of found.line) (λ s. values_of s found.line) reached none reads
            (λ _ _. found.ends);
      }

  -- past an option with its value
  past_joined : (p : Place) (t : Tally) (word : Text) (rest : List Text) (s : Setting) (text : Text) → FindsLine rest → Offers options s → HasReached p t
      → bytes_eq word (codes "--") ≡ false → long_of word ≡ Some (setting_name s, Some text)
      → faults command (at false p) (word ∷ rest) ≡ [] → Found t (end_of command (at false p) (word ∷ rest)).held (word ∷ rest)
  past_joined p t word rest s text finds offered reached other long none =
      let parts = one_word command (at false p) word rest none in
      let clear = joined_fault s text (held_at p) offered (long_turn p word (setting_name s) (Some text) reached.between other long parts.0) in
      let moved = joined_moves p word s text offered reached.between other long in
      let found = finds (after_joined p s text) (with_value t s text) (joined_reached p t s text offered reached clear.0 clear.1)
      (subst (λ (w : Walk). faults command w rest ≡ []) moved parts.1) in
      record {
        line = joined s text found.line;
        words_are = ap₂ (λ (w : Text) (ws : List Text). w ∷ ws) (joined_word s text ∙ long_word word (setting_name s) (Some text) long) found.words_are;
        clear = found.clear;
        ends = subst (λ (w : Walk). Ends t (end_of command w rest).held (operands_of found.line) (λ wanted. value_for wanted s text ++ values_of wanted found.line)) (sym moved)
            (value_joined t s text (end_of command (at false (after_joined p s text)) rest).held (operands_of found.line) (λ wanted. values_of wanted found.line) found.ends);
      }

  -- past an option and its value
  past_apart : (p : Place) (t : Tally) (word : Text) (rest : List Text) (s : Setting) → FindsValue rest → Offers options s → HasReached p t
      → bytes_eq word (codes "--") ≡ false → long_of word ≡ Some (setting_name s, None)
      → faults command (at false p) (word ∷ rest) ≡ [] → Found t (end_of command (at false p) (word ∷ rest)).held (word ∷ rest)
  past_apart p t word rest s finds offered reached other long none =
      let parts = one_word command (at false p) word rest none in
      let clear = option_fault s None (held_at p) offered (long_turn p word (setting_name s) None reached.between other long parts.0) in
      let moved = apart_moves p word s offered reached.between other long in
      let found = finds p t s offered reached clear (subst (λ (w : Walk). faults command w rest ≡ []) moved parts.1) in
      record {
        line = apart s found.text found.line;
        words_are = ap₂ (λ (w : Text) (ws : List Text). w ∷ ws) (long_word word (setting_name s) None long) found.words_are;
        clear = found.clear;
        ends = subst (λ (w : Walk). Ends t (end_of command w rest).held (operands_of found.line) (λ wanted. value_for wanted s found.text ++ values_of wanted found.line)) (sym moved)
            (value_joined t s found.text (end_of command (waiting_at false p s) rest).held (operands_of found.line) (λ wanted. values_of wanted found.line) found.ends);
      }

  -- past a long option
  past_long : (p : Place) (t : Tally) (word : Text) (rest : List Text) (name : Text) (v : Option Text) → FindsLine rest → FindsValue rest → HasReached p t
      → bytes_eq word (codes "--") ≡ false → long_of word ≡ Some (name, v)
      → faults command (at false p) (word ∷ rest) ≡ [] → Found t (end_of command (at false p) (word ∷ rest)).held (word ∷ rest)
  past_long p t word rest name v line valued reached other long none =
      let named = long_setting command options built name v (held_at p) (long_turn p word name v reached.between other long (one_word command (at false p) word rest none).0) in
      by_form named v (long ∙ ap (λ (n : Text). Some (n, v)) (sym named.named))
    where
      by_form : (named : IsSetting options name) (v : Option Text) → long_of word ≡ Some (setting_name named.setting, v)
          → Found t (end_of command (at false p) (word ∷ rest)).held (word ∷ rest)
      by_form named None is = past_apart p t word rest named.setting valued named.offered reached other is none
      by_form named (Some text) is = past_joined p t word rest named.setting text line named.offered reached other is none

  -- past a word
  past_word : (word : Text) (rest : List Text) → FindsLine rest → FindsValue rest → FindsLine (word ∷ rest)
  past_word word rest line valued p t reached none = by_test (bytes_eq word (codes "--"))
      (λ is. subst (λ (w : Text). faults command (at false p) (w ∷ rest) ≡ [] → Found t (end_of command (at false p) (w ∷ rest)).held (w ∷ rest))
      (sym (same_text word (codes "--") (sym is))) (past_dashes p t rest reached) none)
      (λ other. by_long other (long_of word) refl)
    where
      by_long : bytes_eq word (codes "--") ≡ false → (o : Option (Text × Option Text)) → long_of word ≡ o
          → Found t (end_of command (at false p) (word ∷ rest)).held (word ∷ rest)
      by_long other None long = past_operand p t word rest line reached other long none
      by_long other (Some q) long = past_long p t word rest q.0 q.1 line valued reached other long none

  -- past a value
  past_value : (text : Text) (rest : List Text) → FindsLine rest → FindsValue (text ∷ rest)
  unfolding walked
  past_value text rest finds p t s offered reached clear none = by_test (bytes_eq text (codes "--"))
      (λ is. absurd (no_dashes p t s rest offered reached (as_dashes is)))
      (λ other.
      let moved = value_moves p s text offered other parts.0 in
      let found = finds (after_apart p s text) (with_value t s text) (apart_reached p t s text offered reached clear)
      (subst (λ (w : Walk). faults command w rest ≡ []) moved parts.1) in
      record {
        text = text;
        line = found.line;
        words_are = ap (λ (ws : List Text). text ∷ ws) found.words_are;
        clear = found.clear;
        ends = subst (λ (w : Walk). Ends (with_value t s text) (end_of command w rest).held (operands_of found.line) (λ wanted. values_of wanted found.line)) (sym moved) found.ends;
      })
    where
      parts : (turn_fault command [] (waiting_at false p s) text ≡ []) × (faults command (walked command.rules [] (waiting_at false p s) text) rest ≡ [])
      parts = one_word command (waiting_at false p s) text rest none

      as_dashes : bytes_eq text (codes "--") ≡ true → faults command (waiting_at true p s) rest ≡ []
      as_dashes is = subst (λ (w : Text). faults command (walked command.rules [] (waiting_at false p s) w) rest ≡ []) (same_text text (codes "--") (sym is)) parts.1

  -- no value is at the end
  no_value : FindsValue []
  unfolding walk_fault
  no_value p t s offered reached clear none = absurd (unsettled p s offered (or_else_none (settle_fault command.rules command.args_override_self (waiting_held p s)) _ none).0)

  -- so all words that come to no fault are those of a line
  pub finds_all : (rest : List Text) → FindsLine rest × FindsValue rest
  unfolding walk_fault
  finds_all [] = (λ p t reached none. record { line = done; words_are = refl; clear = tt; ends = ends_here p t reached none }, no_value)
  finds_all (word ∷ rest) = (past_word word rest (finds_all rest).0 (finds_all rest).1, past_value word rest (finds_all rest).0)
