-- What the program makes of its words.
use Rattle.std.proofs.Common.{◌≡◌, ◌∙◌, ◌++◌, ap, ap₂, refl, subst, sym, inl, inr, ⊎_elim, ◌⊎◌, true, false, Bool, ℕ, List, [], ◌∷◌, Bor, append_assoc}
use Rattle.std.specs.Prelude.{codes, Option, Some, None, fold, is_some, Ok, Err}
use Rattle.std.specs.Str.{bytes_eq}
use Rattle.std.specs.Cmp.Lexicographic.{same_text}
use Rattle.std.proofs.lemmas.List.{append-nil}
use Rattle.clap.specs.Values.{kind_of}
use Rattle.clap.specs.Walk.{Names, Row, Rule, Walk, finished, idle, nothing_held, rows_after, settled, texts, walk, walk_from, walked}
use Rattle.clap.specs.Simple.{App, Shape, built, entered, names_of, subcommand_of, subcommand_rows_of}
use Rattle.clap.specs.Kinds.{IsAmong, Kinds, or_else}
use Rattle.clap.specs.Faults.{check_fault, defaults_fault, entered_fault, fault_of, level_fault, settle_fault, turn_fault, walk_fault}
use Rattle.clap.specs.declared.builder.value_parser.ValueParser.{ValueParser}
use Rattle.clap.specs.declared.builder.value_parser.ValueParser.TheVariants as parser
use Rattle.clap.specs.declared.error.kind.ErrorKind.TheVariants.{DisplayHelp, InvalidSubcommand, MissingSubcommand, OutOfMemory, UnknownArgument}
use Rattle.clap.specs.declared.error.Error.{Error}
use Rattle.clap.specs.declared.parser.matches.ArgMatches.{ArgMatches}
use Rattle.clap.proofs.FaultLemmas.{stopped_fault}
use Rattle.clap.proofs.OnLiterals.{clap_on_literals}
use Rattle.command_words.specs.Program.{AreMatchesOf, IsEntryOf, Parses, kind_words, program}
use Rattle.command_words.specs.Words.{AreFor, AreLeftToClap, AreNoTask, AskFor, Asked, AsksPlainly, IsPlainAudit, IsPlainOrder, IsPlainWork, Order, Text, without_dashes, order_words}
use Rattle.command_words.specs.Lines.{AreAuditWords, AreWorkWords, Audit, Work, line_words, work_name}
use Rattle.command_words.specs.Words as asked
use Rattle.command_words.proofs.AuditLemmas.{audit_answered, audit_leaf, audit_passes}
use Rattle.command_words.proofs.OptionLemmas.{RefusesOptions, by_test, never, no_option, or_else_none, refuses}
use Rattle.command_words.proofs.SubcommandLemmas.{Command, check, command_of, create, explain, extend, history, leaf, make, name_of, operands_of, outcome, plain_words, prepared, run, tables, words_answered}
use Rattle.command_words.proofs.WorkAnswers.{work_answered}
use Rattle.command_words.proofs.WorkLeaf.{work_leaf}
use Rattle.command_words.proofs.WorkPlain.{work_passes}

-- the program, where KIND takes these words
abbrev app : Bor (List (Bor Text)) → App
app listed = program (parser.Names listed)

-- the program as it is built
abbrev top_of : Bor (List (Bor Text)) → Shape
top_of listed = (built (app listed)).top

-- the names of its subcommands
abbrev names : Bor (List (Bor Text)) → Names
names listed = names_of (built (app listed))

-- ---- the first word

-- no words are refused
no_words : (listed : Bor (List (Bor Text))) → fault_of (app listed) [] ≡ [] → ⊥
unfolding clap_on_literals
no_words listed none = never MissingSubcommand [] none

-- `--` as the first word is refused
dashes_first : (listed : Bor (List (Bor Text))) (rest : List Text) → fault_of (app listed) (codes "--" ∷ rest) ≡ [] → ⊥
unfolding clap_on_literals
dashes_first listed [] none = never MissingSubcommand [] none
dashes_first listed (word ∷ rest) none = never UnknownArgument (InvalidSubcommand ∷ []) none

-- the program itself refuses each option
top_refuses : (listed : Bor (List (Bor Text))) → RefusesOptions (top_of listed).rules (top_of listed).args_override_self
top_refuses listed = refuses _ _ (record { long = λ _. refl; short = λ _. refl })

-- a subcommand: one with operands alone, `audit`, or one that sets workers to work, by whether it takes a seed
data Sub : Type 0 where
  plain : Command → Sub
  auditing : Sub
  working : Bool → Sub

-- the name of one that sets workers to work
abbrev work_title : Bool → Text
work_title false = codes "work"
work_title true = codes "stress"

-- its name
abbrev sub_name : Sub → Text
sub_name (plain command) = name_of command
sub_name auditing = codes "audit"
sub_name (working seeded) = work_title seeded

-- the subcommand as it is built
abbrev sub_leaf : Bor (List (Bor Text)) → Sub → Shape
sub_leaf listed (plain command) = leaf listed command
sub_leaf listed auditing = audit_leaf listed
sub_leaf listed (working seeded) = work_leaf listed seeded

-- the word is no name of a subcommand
record IsNoName (word : Text) : Type 0 where
  pub check : bytes_eq (codes "check") word ≡ false
  pub explain : bytes_eq (codes "explain") word ≡ false
  pub make : bytes_eq (codes "make") word ≡ false
  pub tables : bytes_eq (codes "tables") word ≡ false
  pub run : bytes_eq (codes "run") word ≡ false
  pub audit : bytes_eq (codes "audit") word ≡ false
  pub work : bytes_eq (codes "work") word ≡ false
  pub stress : bytes_eq (codes "stress") word ≡ false
  pub create : bytes_eq (codes "create") word ≡ false
  pub extend : bytes_eq (codes "extend") word ≡ false
  pub history : bytes_eq (codes "history") word ≡ false
  pub prepared : bytes_eq (codes "prepared") word ≡ false
  pub outcome : bytes_eq (codes "outcome") word ≡ false

-- a first word that names no subcommand is refused
other_first : (listed : Bor (List (Bor Text))) (word : Text) → bytes_eq word (codes "--") ≡ false → IsNoName word
    → turn_fault (top_of listed) (names listed) (walk_from nothing_held) word ≡ [] → ⊥
other_first listed word no_dashes other_names none = by_test (bytes_eq (codes "help") word)
    (λ helps. never DisplayHelp (InvalidSubcommand ∷ []) (simp (other_names.check, other_names.explain, other_names.make, other_names.tables, other_names.run, other_names.audit, other_names.work, other_names.stress, other_names.create, other_names.extend, other_names.history, other_names.prepared, other_names.outcome, helps) at none))
    (λ other.
    let parts = or_else_none _ _ (simp (other_names.check, other_names.explain, other_names.make, other_names.tables, other_names.run, other_names.audit, other_names.work, other_names.stress, other_names.create, other_names.extend, other_names.history, other_names.prepared, other_names.outcome, other, no_dashes) at none) in
    let met = no_option (top_of listed).rules (top_of listed).args_override_self (top_refuses listed) idle (λ _ _. refl) [] None word parts.0 in
    never UnknownArgument (InvalidSubcommand ∷ []) (simp met at parts.1))

-- a word is the name of a subcommand, or of none
Named : Text → Type 0
Named word = (sub : Sub) × (sub_name sub ≡ word)

named_or_not : (word : Text) → Named word ⊎ IsNoName word
unfolding Named
named_or_not word =
    by_test (bytes_eq (codes "check") word) (λ is. inl (plain check, same_text (codes "check") word (sym is)))
    (λ no_check. by_test (bytes_eq (codes "explain") word) (λ is. inl (plain explain, same_text (codes "explain") word (sym is)))
    (λ no_explain. by_test (bytes_eq (codes "make") word) (λ is. inl (plain make, same_text (codes "make") word (sym is)))
    (λ no_make. by_test (bytes_eq (codes "tables") word) (λ is. inl (plain tables, same_text (codes "tables") word (sym is)))
    (λ no_tables. by_test (bytes_eq (codes "run") word) (λ is. inl (plain run, same_text (codes "run") word (sym is)))
    (λ no_run. by_test (bytes_eq (codes "audit") word) (λ is. inl (auditing, same_text (codes "audit") word (sym is)))
    (λ no_audit. by_test (bytes_eq (codes "work") word) (λ is. inl (working false, same_text (codes "work") word (sym is)))
    (λ no_work. by_test (bytes_eq (codes "stress") word) (λ is. inl (working true, same_text (codes "stress") word (sym is)))
    (λ no_stress. by_test (bytes_eq (codes "create") word) (λ is. inl (plain create, same_text (codes "create") word (sym is)))
    (λ no_create. by_test (bytes_eq (codes "extend") word) (λ is. inl (plain extend, same_text (codes "extend") word (sym is)))
    (λ no_extend. by_test (bytes_eq (codes "history") word) (λ is. inl (plain history, same_text (codes "history") word (sym is)))
    (λ no_history. by_test (bytes_eq (codes "prepared") word) (λ is. inl (plain prepared, same_text (codes "prepared") word (sym is)))
    (λ no_prepared. by_test (bytes_eq (codes "outcome") word) (λ is. inl (plain outcome, same_text (codes "outcome") word (sym is)))
    (λ no_outcome. inr (record {
      check = no_check;
      explain = no_explain;
      make = no_make;
      tables = no_tables;
      run = no_run;
      audit = no_audit;
      work = no_work;
      stress = no_stress;
      create = no_create;
      extend = no_extend;
      history = no_history;
      prepared = no_prepared;
      outcome = no_outcome;
    }))))))))))))))

-- the first word is the name of a subcommand
first_word : (listed : Bor (List (Bor Text))) (word : Text) (rest : List Text) → fault_of (app listed) (word ∷ rest) ≡ [] → (sub : Sub) × (sub_name sub ≡ word)
unfolding walk_fault Named
first_word listed word rest none = by_test (bytes_eq word (codes "--"))
    (λ dashes. absurd (dashes_first listed rest (subst (λ (w : Text). fault_of (app listed) (w ∷ rest) ≡ []) (same_text word (codes "--") (sym dashes)) none)))
    (λ no_dashes. ⊎_elim (λ named. named)
    (λ other_names. absurd (other_first listed word no_dashes other_names (or_else_none _ _ (or_else_none _ _ none).0).0)) (named_or_not word))

-- ---- past a subcommand's name, all words are the subcommand's

-- a walk that has stopped at a subcommand keeps all further words for it
stopped_walk : (rules : List Rule) (known : Names) (w : Walk) (name : Text) (before after : List Text)
    → fold (walked rules known) (record w { stopped = Some (name, before) }) after ≡ record w { stopped = Some (name, before ++ after) }
unfolding walked
stopped_walk rules known w name before [] = ap (λ (ws : List Text). record w { stopped = Some (name, ws) }) (sym (append-nil before))
stopped_walk rules known w name before (x ∷ xs) =
    stopped_walk rules known w name (before ++ x ∷ []) xs ∙ ap (λ (ws : List Text). record w { stopped = Some (name, ws) }) (append_assoc before (x ∷ []) xs)

-- the walk that has met a subcommand and these words
abbrev stopped_at : Sub → List Text → Walk
stopped_at sub rest = record (walk_from nothing_held) { stopped = Some (sub_name sub, rest) }

-- the walk over a subcommand and its words stops at it
command_walk : (listed : Bor (List (Bor Text))) (sub : Sub) (rest : List Text)
    → walk (top_of listed).rules (names listed) nothing_held (sub_name sub ∷ rest) ≡ stopped_at sub rest
unfolding clap_on_literals
command_walk listed (plain check) rest = stopped_walk (top_of listed).rules (names listed) (walk_from nothing_held) (codes "check") [] rest
command_walk listed (plain explain) rest = stopped_walk (top_of listed).rules (names listed) (walk_from nothing_held) (codes "explain") [] rest
command_walk listed (plain make) rest = stopped_walk (top_of listed).rules (names listed) (walk_from nothing_held) (codes "make") [] rest
command_walk listed (plain tables) rest = stopped_walk (top_of listed).rules (names listed) (walk_from nothing_held) (codes "tables") [] rest
command_walk listed (plain run) rest = stopped_walk (top_of listed).rules (names listed) (walk_from nothing_held) (codes "run") [] rest
command_walk listed (plain create) rest = stopped_walk (top_of listed).rules (names listed) (walk_from nothing_held) (codes "create") [] rest
command_walk listed (plain extend) rest = stopped_walk (top_of listed).rules (names listed) (walk_from nothing_held) (codes "extend") [] rest
command_walk listed (plain history) rest = stopped_walk (top_of listed).rules (names listed) (walk_from nothing_held) (codes "history") [] rest
command_walk listed (plain prepared) rest = stopped_walk (top_of listed).rules (names listed) (walk_from nothing_held) (codes "prepared") [] rest
command_walk listed (plain outcome) rest = stopped_walk (top_of listed).rules (names listed) (walk_from nothing_held) (codes "outcome") [] rest
command_walk listed auditing rest = stopped_walk (top_of listed).rules (names listed) (walk_from nothing_held) (codes "audit") [] rest
command_walk listed (working false) rest = stopped_walk (top_of listed).rules (names listed) (walk_from nothing_held) (codes "work") [] rest
command_walk listed (working true) rest = stopped_walk (top_of listed).rules (names listed) (walk_from nothing_held) (codes "stress") [] rest

-- the subcommand that is entered by its name
command_entered : (listed : Bor (List (Bor Text))) (sub : Sub) (rest : List Text)
    → entered (built (app listed)) (Some (sub_name sub, rest)) ≡ Some (sub_name sub, rows_after (sub_leaf listed sub).rules [] rest)
command_entered listed (plain check) rest = refl
command_entered listed (plain explain) rest = refl
command_entered listed (plain make) rest = refl
command_entered listed (plain tables) rest = refl
command_entered listed (plain run) rest = refl
command_entered listed (plain create) rest = refl
command_entered listed (plain extend) rest = refl
command_entered listed (plain history) rest = refl
command_entered listed (plain prepared) rest = refl
command_entered listed (plain outcome) rest = refl
command_entered listed auditing rest = refl
command_entered listed (working false) rest = refl
command_entered listed (working true) rest = refl

-- the rows of the program are those of the subcommand at its words
command_rows : (listed : Bor (List (Bor Text))) (sub : Sub) (rest : List Text)
    → subcommand_of (app listed) (sub_name sub ∷ rest) ≡ Some (sub_name sub, rows_after (sub_leaf listed sub).rules [] rest)
command_rows listed sub rest =
    ap (λ (w : Walk). entered (built (app listed)) w.stopped) (command_walk listed sub rest) ∙ command_entered listed sub rest

-- a step that fails by no kind adds none
or_else-nil : (a : Kinds) → or_else a [] ≡ a
or_else-nil [] = refl
or_else-nil (k ∷ ks) = refl

-- the faults of the program at words that begin with a subcommand's name, where its walk ends at w
abbrev fault_by : Bor (List (Bor Text)) → Sub → List Text → Walk → Kinds
fault_by listed sub rest w =
    let top = top_of listed in
    or_else (walk_fault top (names listed) (walk_from nothing_held) (sub_name sub ∷ rest))
    (or_else (entered_fault (built (app listed)) w.stopped) (or_else (settle_fault top.rules top.args_override_self w.held)
    (or_else (defaults_fault (settled top.rules w.held).rows top.rules)
    (check_fault top (finished top.rules w.held) (is_some (entered (built (app listed)) w.stopped))))))

-- the faults of a subcommand at its words
abbrev below : Bor (List (Bor Text)) → Sub → List Text → Kinds
below listed sub rest = level_fault (sub_leaf listed sub) [] nothing_held rest false []

-- no fault comes of the name itself, nor of the program's own arguments
only_below : (listed : Bor (List (Bor Text))) (sub : Sub) (rest : List Text) → fault_by listed sub rest (stopped_at sub rest) ≡ below listed sub rest
unfolding clap_on_literals
only_below listed (plain check) rest =
    ap (λ (k : Kinds). or_else k (or_else (below listed (plain check) rest) [])) (stopped_fault (top_of listed) (names listed) (walk_from nothing_held) (codes "check", []) rest)
    ∙ or_else-nil (below listed (plain check) rest)
only_below listed (plain explain) rest =
    ap (λ (k : Kinds). or_else k (or_else (below listed (plain explain) rest) [])) (stopped_fault (top_of listed) (names listed) (walk_from nothing_held) (codes "explain", []) rest)
    ∙ or_else-nil (below listed (plain explain) rest)
only_below listed (plain make) rest =
    ap (λ (k : Kinds). or_else k (or_else (below listed (plain make) rest) [])) (stopped_fault (top_of listed) (names listed) (walk_from nothing_held) (codes "make", []) rest)
    ∙ or_else-nil (below listed (plain make) rest)
only_below listed (plain tables) rest =
    ap (λ (k : Kinds). or_else k (or_else (below listed (plain tables) rest) [])) (stopped_fault (top_of listed) (names listed) (walk_from nothing_held) (codes "tables", []) rest)
    ∙ or_else-nil (below listed (plain tables) rest)
only_below listed (plain run) rest =
    ap (λ (k : Kinds). or_else k (or_else (below listed (plain run) rest) [])) (stopped_fault (top_of listed) (names listed) (walk_from nothing_held) (codes "run", []) rest)
    ∙ or_else-nil (below listed (plain run) rest)
only_below listed (plain create) rest =
    ap (λ (k : Kinds). or_else k (or_else (below listed (plain create) rest) [])) (stopped_fault (top_of listed) (names listed) (walk_from nothing_held) (codes "create", []) rest)
    ∙ or_else-nil (below listed (plain create) rest)
only_below listed (plain extend) rest =
    ap (λ (k : Kinds). or_else k (or_else (below listed (plain extend) rest) [])) (stopped_fault (top_of listed) (names listed) (walk_from nothing_held) (codes "extend", []) rest)
    ∙ or_else-nil (below listed (plain extend) rest)
only_below listed (plain history) rest =
    ap (λ (k : Kinds). or_else k (or_else (below listed (plain history) rest) [])) (stopped_fault (top_of listed) (names listed) (walk_from nothing_held) (codes "history", []) rest)
    ∙ or_else-nil (below listed (plain history) rest)
only_below listed (plain prepared) rest =
    ap (λ (k : Kinds). or_else k (or_else (below listed (plain prepared) rest) [])) (stopped_fault (top_of listed) (names listed) (walk_from nothing_held) (codes "prepared", []) rest)
    ∙ or_else-nil (below listed (plain prepared) rest)
only_below listed (plain outcome) rest =
    ap (λ (k : Kinds). or_else k (or_else (below listed (plain outcome) rest) [])) (stopped_fault (top_of listed) (names listed) (walk_from nothing_held) (codes "outcome", []) rest)
    ∙ or_else-nil (below listed (plain outcome) rest)
only_below listed auditing rest =
    ap (λ (k : Kinds). or_else k (or_else (below listed auditing rest) [])) (stopped_fault (top_of listed) (names listed) (walk_from nothing_held) (codes "audit", []) rest)
    ∙ or_else-nil (below listed auditing rest)
only_below listed (working false) rest =
    ap (λ (k : Kinds). or_else k (or_else (below listed (working false) rest) [])) (stopped_fault (top_of listed) (names listed) (walk_from nothing_held) (codes "work", []) rest)
    ∙ or_else-nil (below listed (working false) rest)
only_below listed (working true) rest =
    ap (λ (k : Kinds). or_else k (or_else (below listed (working true) rest) [])) (stopped_fault (top_of listed) (names listed) (walk_from nothing_held) (codes "stress", []) rest)
    ∙ or_else-nil (below listed (working true) rest)

-- the program's faults at a subcommand and its words are those of the subcommand
program_fault : (listed : Bor (List (Bor Text))) (sub : Sub) (rest : List Text)
    → fault_of (app listed) (sub_name sub ∷ rest) ≡ below listed sub rest
program_fault listed sub rest = ap (fault_by listed sub rest) (command_walk listed sub rest) ∙ only_below listed sub rest

-- ---- words that are taken

-- the words ask for something, and so do the matches
pub record Gives (listed : Bor (List (Bor Text))) (words : List Text) : Type 0 where
  pub asked : Asked
  pub asks : AskFor words asked
  pub entry : IsEntryOf (subcommand_of (app listed) words) asked

-- the name of a subcommand is not `--`
no_dashes_first : (command : Command) (rest : List Text) → without_dashes (name_of command ∷ rest) ≡ name_of command ∷ without_dashes rest
no_dashes_first check rest = refl
no_dashes_first explain rest = refl
no_dashes_first make rest = refl
no_dashes_first tables rest = refl
no_dashes_first run rest = refl
no_dashes_first create rest = refl
no_dashes_first extend rest = refl
no_dashes_first history rest = refl
no_dashes_first prepared rest = refl
no_dashes_first outcome rest = refl

-- the name of what workers are to do is that of its command
named_by : (seed : Option ℕ) → work_title (is_some seed) ≡ work_name seed
named_by None = refl
named_by (Some seed) = refl

-- words of a subcommand that come to no fault ask for something
gives_rest : (listed : Bor (List (Bor Text))) → texts listed.now ≡ kind_words → (sub : Sub) (rest : List Text) → below listed sub rest ≡ []
    → Gives listed (sub_name sub ∷ rest)
gives_rest listed are (plain command) rest none =
    let answered = words_answered listed are command rest none in
    record {
      asked = asked.order answered.asked;
      asks = (answered.whole, no_dashes_first command rest ∙ answered.words);
      entry = command_rows listed (plain command) rest ∙ ap (λ (p : Text × List Row). Some p) answered.entry;
    }
gives_rest listed are auditing rest none =
    let answered = audit_answered listed rest none in
    record {
      asked = asked.audit answered.audit;
      asks = (answered.rows.whole, (answered.line, ap (λ (words : List Text). codes "audit" ∷ words) (sym answered.words_are), answered.says));
      entry = (rows_after (audit_leaf listed).rules [] rest, command_rows listed auditing rest, answered.rows);
    }
gives_rest listed are (working seeded) rest none =
    let answered = work_answered listed seeded rest none in
    let title = sym (ap work_title answered.seeds) ∙ named_by answered.work.seed in
    record {
      asked = asked.work answered.work;
      asks = (answered.rows.whole, (answered.line, ap₂ (λ (name : Text) (words : List Text). name ∷ words) title (sym answered.words_are), answered.says));
      entry = (
        rows_after (work_leaf listed seeded).rules [] rest,
        command_rows listed (working seeded) rest ∙ ap (λ (name : Text). Some (name, rows_after (work_leaf listed seeded).rules [] rest)) title,
        answered.rows,
      );
    }

-- words that come to no fault ask for something
pub taken : (listed : Bor (List (Bor Text))) → texts listed.now ≡ kind_words → (words : List Text) → fault_of (app listed) words ≡ [] → Gives listed words
taken listed are [] none = absurd (no_words listed none)
taken listed are (word ∷ rest) none =
    let first = first_word listed word rest none in
    let clear = sym (program_fault listed first.0 rest) ∙ subst (λ (w : Text). fault_of (app listed) (w ∷ rest) ≡ []) (sym first.1) none in
    subst (λ (w : Text). Gives listed (w ∷ rest)) first.1 (gives_rest listed are first.0 rest clear)

-- ---- plain words are taken

-- what is asked for begins with the name of its subcommand
named_first : (a : Order) → order_words a ≡ name_of (command_of a) ∷ operands_of a
named_first (asked.check kind path) = refl
named_first (asked.explain kind path pair) = refl
named_first (asked.make family size items) = refl
named_first (asked.tables path) = refl
named_first (asked.run script types) = refl
named_first (asked.create database objects types) = refl
named_first (asked.extend database objects types) = refl
named_first (asked.history path) = refl
named_first (asked.prepared path) = refl
named_first (asked.outcome path key) = refl

-- plain words come to no fault
plain_taken : (listed : Bor (List (Bor Text))) → texts listed.now ≡ kind_words → (a : Order) → IsPlainOrder a → fault_of (app listed) (order_words a) ≡ []
plain_taken listed are a plain_order =
    ap (fault_of (app listed)) (named_first a) ∙ program_fault listed (plain (command_of a)) (operands_of a) ∙ plain_words listed are a plain_order

-- and so of histories that are to be audited
audit_taken : (listed : Bor (List (Bor Text))) (a : Audit) (words : List Text) → IsPlainAudit a → AreAuditWords words a → fault_of (app listed) words ≡ []
audit_taken listed a words plain_audit are =
    ap (fault_of (app listed)) are.1 ∙ program_fault listed auditing (line_words are.0) ∙ audit_passes are.0 a are.2 listed plain_audit

-- and of what workers are to do
work_taken : (listed : Bor (List (Bor Text))) (w : Work) (words : List Text) → IsPlainWork w → AreWorkWords words w → fault_of (app listed) words ≡ []
work_taken listed w words plain_work are =
    ap (fault_of (app listed)) (are.1 ∙ ap (λ (name : Text). name ∷ line_words are.0) (sym (named_by w.seed)))
    ∙ program_fault listed (working (is_some w.seed)) (line_words are.0) ∙ work_passes are.0 w are.2 listed plain_work

-- ---- what a parse says

-- matches are those of a subcommand, whose words were given
pub matches_asked : (words : List Text) (m : ArgMatches) → Parses words (Ok m) → (a : Asked) × AreMatchesOf m a × AskFor words a
matches_asked words m p =
    let listed = p.1.0 in
    let P : ValueParser → Type 0 = λ k. fault_of (program k) words ≡ [] in
    let Q : ValueParser → Type 0 = λ k. subcommand_rows_of m ≡ subcommand_of (program k) words in
    let gives = taken listed p.1.2 words (subst P p.1.1 p.2) in
    let same = subst Q p.1.1 (p.3 refl).1 in
    (gives.asked, subst (λ (entry : Option (Text × List Row)). IsEntryOf entry gives.asked) (sym same) gives.entry, gives.asks)

-- words that come to no fault, where they are an order's, an audit's or say what workers are to do
asked_passes : (listed : Bor (List (Bor Text))) → texts listed.now ≡ kind_words → (words : List Text) → AreLeftToClap words → (asked : Asked) → AsksPlainly asked → AreFor words asked
    → fault_of (app listed) words ≡ []
asked_passes listed are words left (asked.order o) well are_for = ap (fault_of (app listed)) are_for ∙ plain_taken listed are o well
asked_passes listed are words left (asked.audit a) well are_for = audit_taken listed a words well are_for
asked_passes listed are words left (asked.work w) well are_for = work_taken listed w words well are_for
asked_passes listed are words left (asked.serve s) well are_for = absurd (left.0.3 are_for.0 are_for.1)
asked_passes listed are words left (asked.audit_database path) well are_for = absurd (left.0.1 path are_for)
asked_passes listed are words left (asked.audit_ordered a) well are_for = absurd (left.1 _ are_for.are)
asked_passes listed are words left (asked.help topic) well are_for = absurd (left.0.0 topic are_for)
asked_passes listed are words left asked.version well are_for = absurd (left.0.2 are_for)

-- an error comes of refused memory, or the words are no task's
pub error_asked : (words : List Text) → AreLeftToClap words → (e : Error) → Parses words (Err e) → (kind_of e ≡ OutOfMemory) ⊎ AreNoTask words
error_asked words left e p = ⊎_elim (λ (memory : kind_of e ≡ OutOfMemory). inl memory) (λ q. inr (λ a well are_for.
    let listed = q.1.0 in
    let P : ValueParser → Type 0 = λ k. fault_of (program k) words ≡ [] in
    let none : fault_of (program (parser.Names listed)) words ≡ [] = asked_passes listed q.1.2 words left a well are_for in
    subst (IsAmong (kind_of e)) (subst P (sym q.1.1) none) q.2)) p
