-- The end of the walk of a command over a store's objects that takes options: which faults come of it, and what its rows say.
use Rattle.std.proofs.Common.{◌≡◌, ◌∙◌, ◌||◌, ◌&&◌, ap, ap₂, not, refl, subst, sym, true, false, ⊎_elim, Bool, List, [], ◌∷◌}
use Rattle.std.specs.Prelude.{codes, fold, is_some, Option, Some, None, if◌then◌else◌}
use Rattle.std.specs.List.{list_any}
use Rattle.std.specs.Option.{option_map_or}
use Rattle.std.specs.Str.{bytes_eq}
use Rattle.std.proofs.lemmas.Bool.{or_parts, not-false}
use Rattle.clap.specs.Facts.{explicit_source}
use Rattle.clap.specs.Takes.{is_given}
use Rattle.clap.specs.Walk.{Held, Row, Rule, finished, has_row, settled, with_default}
use Rattle.clap.specs.Kinds.{Kinds, or_else}
use Rattle.clap.specs.Faults.{check_fault, default_fault, defaults_fault, settle_fault}
use Rattle.clap.specs.Simple.{Shape}
use Rattle.clap.specs.declared.builder.value_parser.Reading.{Reading}
use Rattle.clap.specs.declared.builder.value_parser.Reading.TheVariants.{AsWritten, WithoutMinus}
use Rattle.clap.specs.declared.error.kind.ErrorKind.TheVariants.{MissingRequiredArgument}
use Rattle.clap.specs.declared.parser.matches.ValueSource.TheVariants.{DefaultValue}
use Rattle.command_words.specs.Lines.{Setting, following, seed, setting_name, tries, workers}
use Rattle.command_words.specs.Words.{Text}
use Rattle.command_words.proofs.LeafLemmas.{ends}
use Rattle.command_words.proofs.LineRules.{Offers, TakesLine, first_offered, later_offered, option_rules, other_offered, path_built, same_or_other, setting_rule, types_built}
use Rattle.command_words.proofs.LineTally.{HasRowOf, Tallies, Tally, given_row, path_row, reading_by, types_row}
use Rattle.command_words.proofs.OptionLemmas.{by_test, help_flag, never}
use Rattle.command_words.proofs.RowLemmas.{has_row_at, joined_row, row_at, row_joined, row_kept}

-- ---- defaults

-- an argument without a default gets no row
kept : (a : Rule) (rows : List Row) → a.defaults ≡ [] → with_default rows a ≡ rows
kept a rows none = by_test (has_row a.id rows) (λ has. simp has refl) (λ lacks. simp (lacks, none) refl)

clear : (a : Rule) (rows : List Row) → a.defaults ≡ [] → default_fault rows a ≡ []
clear a rows none = by_test (has_row a.id rows) (λ has. simp has refl) (λ lacks. simp (lacks, none) refl)

-- and the default of `--tries` is taken
option_clear : (s : Setting) (rows : List Row) → default_fault rows (setting_rule s) ≡ []
option_clear workers rows = clear (setting_rule workers) rows refl
option_clear tries rows = by_test (has_row (setting_name tries) rows) (λ has. simp has refl) (λ lacks. simp lacks refl)
option_clear seed rows = clear (setting_rule seed) rows refl
option_clear following rows = clear (setting_rule following) rows refl

-- one argument, and then the others
one_default : (a : Rule) (rest : List Rule) (rows : List Row) → default_fault rows a ≡ [] → defaults_fault (with_default rows a) rest ≡ []
    → defaults_fault rows (a ∷ rest) ≡ []
unfolding defaults_fault
one_default a rest rows none others = ap (λ (k : Kinds). or_else k (defaults_fault (with_default rows a) rest)) none ∙ others

one_more : (a : Rule) (rest : List Rule) (rows : List Row) → a.defaults ≡ [] → defaults_fault rows rest ≡ [] → defaults_fault rows (a ∷ rest) ≡ []
one_more a rest rows none others =
    one_default a rest rows (clear a rows none) (ap (λ (rs : List Row). defaults_fault rs rest) (kept a rows none) ∙ others)

one_kept : (a : Rule) (rest : List Rule) (rows : List Row) → a.defaults ≡ [] → fold with_default rows (a ∷ rest) ≡ fold with_default rows rest
one_kept a rest rows none = ap (λ (rs : List Row). fold with_default rs rest) (kept a rows none)

-- so no fault comes of the defaults of options
options_clear : (options : List Setting) (rows : List Row) → defaults_fault rows (option_rules options) ≡ []
unfolding defaults_fault
options_clear [] rows = one_more help_flag [] rows refl refl
options_clear (s ∷ rest) rows =
    one_default (setting_rule s) (option_rules rest) rows (option_clear s rows) (options_clear rest (with_default rows (setting_rule s)))

-- the rows with the defaults of these options
abbrev defaulted : List Setting → List Row → List Row
defaulted options rows = fold with_default rows (option_rules options)

-- which are the same for another argument than `--tries`
one_unchanged : (s : Setting) (id : Text) (rows : List Row) → bytes_eq (setting_name tries) id ≡ false → row_at id (with_default rows (setting_rule s)) ≡ row_at id rows
one_unchanged workers id rows differs = ap (row_at id) (kept (setting_rule workers) rows refl)
one_unchanged tries id rows differs = by_test (has_row (setting_name tries) rows)
    (λ has. simp has refl)
    (λ lacks. simp lacks (row_kept (setting_name tries) id WithoutMinus DefaultValue (codes "3" ∷ []) rows differs))
one_unchanged seed id rows differs = ap (row_at id) (kept (setting_rule seed) rows refl)
one_unchanged following id rows differs = ap (row_at id) (kept (setting_rule following) rows refl)

unchanged : (options : List Setting) (id : Text) (rows : List Row) → bytes_eq (setting_name tries) id ≡ false → row_at id (defaulted options rows) ≡ row_at id rows
unchanged [] id rows differs = ap (row_at id) (kept help_flag rows refl)
unchanged (s ∷ rest) id rows differs = unchanged rest id (with_default rows (setting_rule s)) differs ∙ one_unchanged s id rows differs

-- the row of `--tries`
abbrev pub tries_row : List Text → Option Row
tries_row [] = Some (record { id = setting_name tries; values = codes "3" ∷ []; count = None; source = Some DefaultValue; reading = WithoutMinus })
tries_row (value ∷ values) = given_row (setting_name tries) WithoutMinus (value ∷ values)

-- its default holds where it wasn't given
tries_added : (rows : List Row) (values : List Text) → HasRowOf rows tries values → row_at (setting_name tries) (with_default rows (setting_rule tries)) ≡ tries_row values
tries_added rows [] none =
    let lacks : has_row (setting_name tries) rows ≡ false = has_row_at (setting_name tries) rows ∙ ap (λ (o : Option Row). is_some o) none in
    let added = row_joined (setting_name tries) WithoutMinus DefaultValue (codes "3" ∷ []) rows refl in
    simp lacks (added ∙ ap (λ (o : Option Row). Some (joined_row (setting_name tries) WithoutMinus DefaultValue (codes "3" ∷ []) o)) none)
tries_added rows (value ∷ values) some =
    let has : has_row (setting_name tries) rows ≡ true = has_row_at (setting_name tries) rows ∙ ap (λ (o : Option Row). is_some o) some in
    simp has some

-- and where it has a row, nothing is added
one_there : (s : Setting) (rows : List Row) → has_row (setting_name tries) rows ≡ true → with_default rows (setting_rule s) ≡ rows
one_there workers rows has = kept (setting_rule workers) rows refl
one_there tries rows has = simp has refl
one_there seed rows has = kept (setting_rule seed) rows refl
one_there following rows has = kept (setting_rule following) rows refl

all_there : (options : List Setting) (rows : List Row) → has_row (setting_name tries) rows ≡ true → defaulted options rows ≡ rows
all_there [] rows has = kept help_flag rows refl
all_there (s ∷ rest) rows has = ap (defaulted rest) (one_there s rows has) ∙ all_there rest rows has

tries_there : (values : List Text) → is_some (tries_row values) ≡ true
tries_there [] = refl
tries_there (value ∷ values) = refl

-- so a command that takes `--tries` has its row
tries_defaulted : (options : List Setting) (rows : List Row) (values : List Text) → Offers options tries → HasRowOf rows tries values
    → row_at (setting_name tries) (defaulted options rows) ≡ tries_row values
tries_defaulted [] rows values offered is = absurd cc
tries_defaulted (workers ∷ rest) rows values offered is =
    ap (λ (rs : List Row). row_at (setting_name tries) (defaulted rest rs)) (kept (setting_rule workers) rows refl) ∙ tries_defaulted rest rows values offered is
tries_defaulted (tries ∷ rest) rows values offered is =
    let after = with_default rows (setting_rule tries) in
    let added = tries_added rows values is in
    let has = has_row_at (setting_name tries) after ∙ ap (λ (o : Option Row). is_some o) added ∙ tries_there values in
    ap (row_at (setting_name tries)) (all_there rest after has) ∙ added
tries_defaulted (seed ∷ rest) rows values offered is =
    ap (λ (rs : List Row). row_at (setting_name tries) (defaulted rest rs)) (kept (setting_rule seed) rows refl) ∙ tries_defaulted rest rows values offered is
tries_defaulted (following ∷ rest) rows values offered is =
    ap (λ (rs : List Row). row_at (setting_name tries) (defaulted rest rs)) (kept (setting_rule following) rows refl) ∙ tries_defaulted rest rows values offered is

-- ---- rows at the end

-- the rows are those of what was given, with the defaults
pub record Finishes (options : List Setting) (rows : List Row) (t : Tally) : Type 0 where
  pub path : row_at (codes "path") rows ≡ path_row t.operands
  pub types : row_at (codes "types") rows ≡ types_row t.operands
  pub settings : (s : Setting) → bytes_eq (setting_name tries) (setting_name s) ≡ false → HasRowOf rows s (t.values s)
  pub tries : Offers options tries → row_at (setting_name tries) rows ≡ tries_row (t.values tries)

finishes : (options : List Setting) (rows : List Row) (t : Tally) → Tallies options rows t → Finishes options (defaulted options rows) t
finishes options rows t tallied = record {
  path = unchanged options (codes "path") rows refl ∙ tallied.path;
  types = unchanged options (codes "types") rows refl ∙ tallied.types;
  settings = λ s differs. unchanged options (setting_name s) rows differs ∙ tallied.settings s;
  tries = λ offered. tries_defaulted options rows (t.values tries) offered (tallied.settings tries);
}

-- ---- what has to be there

-- something was given
abbrev pub some_given : List Text → Bool
some_given [] = false
some_given (value ∷ values) = true

-- the types
abbrev types_of : List Text → List Text
types_of [] = []
types_of (path ∷ types) = types

-- a fault of what isn't there
abbrev pub missing : Bool → Kinds
missing lacks = if lacks then MissingRequiredArgument ∷ [] else []

-- the option has to be there
abbrev pub is_wanted : Setting → Bool
is_wanted workers = true
is_wanted tries = false
is_wanted seed = true
is_wanted following = false

-- an option that is required isn't there, by which of them are
abbrev lacks_option : List Setting → (Setting → Bool) → Bool
lacks_option [] given = false
lacks_option (s ∷ rest) given = (is_wanted s && not (given s)) || lacks_option rest given

-- an option is there where it was given values
abbrev IsGivenAs : List Row → (Setting → Bool) → Type 0
IsGivenAs rows given = (s : Setting) → is_wanted s ≡ true → is_given (setting_name s) rows ≡ given s

-- the rule of an option refuses rows without it
abbrev refuses_without : List Row → Rule → Bool
refuses_without rows a = a.required && not (is_given a.id rows)

one_checked : (s : Setting) (rows : List Row) (given : Setting → Bool) → IsGivenAs rows given → refuses_without rows (setting_rule s) ≡ (is_wanted s && not (given s))
one_checked workers rows given is = ap not (is workers refl)
one_checked tries rows given is = refl
one_checked seed rows given is = ap not (is seed refl)
one_checked following rows given is = refl

options_checked : (options : List Setting) (rows : List Row) (given : Setting → Bool) → IsGivenAs rows given
    → list_any (refuses_without rows) (option_rules options) ≡ lacks_option options given
options_checked [] rows given is = refl
options_checked (s ∷ rest) rows given is = ap₂ ◌||◌ (one_checked s rows given is) (options_checked rest rows given is)

-- something that is required isn't there
abbrev lacks_some : List Setting → Bool → Bool → (Setting → Bool) → Bool
lacks_some options p t given = not p || (not t || lacks_option options given)

-- an argument is there where it was given values
given_is : (id : Text) (how : Reading) (rows : List Row) (values : List Text) → row_at id rows ≡ given_row id how values → is_given id rows ≡ some_given values
given_is id how rows [] is = ap (λ (o : Option Row). option_map_or (λ (r : Row). explicit_source r.source) o false) is
given_is id how rows (value ∷ values) is = ap (λ (o : Option Row). option_map_or (λ (r : Row). explicit_source r.source) o false) is

path_is : (rows : List Row) (operands : List Text) → row_at (codes "path") rows ≡ path_row operands → is_given (codes "path") rows ≡ some_given operands
path_is rows [] is = given_is (codes "path") AsWritten rows [] is
path_is rows (path ∷ types) is = given_is (codes "path") AsWritten rows (path ∷ []) is

types_are : (rows : List Row) (operands : List Text) → row_at (codes "types") rows ≡ types_row operands → is_given (codes "types") rows ≡ some_given (types_of operands)
types_are rows [] is = given_is (codes "types") AsWritten rows [] is
types_are rows (path ∷ types) is = given_is (codes "types") AsWritten rows types is

-- and so are the options that are required
wanted_are : (options : List Setting) (rows : List Row) (t : Tally) → Finishes options rows t → IsGivenAs rows (λ s. some_given (t.values s))
wanted_are options rows t end workers wanted = given_is (setting_name workers) (reading_by workers) rows (t.values workers) (end.settings workers refl)
wanted_are options rows t end tries wanted = absurd cc
wanted_are options rows t end seed wanted = given_is (setting_name seed) (reading_by seed) rows (t.values seed) (end.settings seed refl)
wanted_are options rows t end following wanted = absurd cc

-- what was given lacks something
abbrev pub lacks : List Setting → Tally → Bool
lacks options t = lacks_some options (some_given t.operands) (some_given (types_of t.operands)) (λ s. some_given (t.values s))

module _ (command : Shape) (options : List Setting) (built : TakesLine command options) where
  -- no fault comes of defaults
  defaults_clear : (rows : List Row) → defaults_fault rows command.rules ≡ []
  defaults_clear rows = ap (defaults_fault rows) built.rules
      ∙ one_more path_built (types_built ∷ option_rules options) rows refl (one_more types_built (option_rules options) rows refl (options_clear options rows))

  -- and they add the rows of options alone
  finished_is : (h : Held) → finished command.rules h ≡ defaulted options (settled command.rules h).rows
  finished_is h =
      let rows = (settled command.rules h).rows in
      ap (fold with_default rows) built.rules
      ∙ one_kept path_built (types_built ∷ option_rules options) rows refl ∙ one_kept types_built (option_rules options) rows refl

  -- so the rows at the end are those of what was given
  pub line_finishes : (h : Held) (t : Tally) → Tallies options (settled command.rules h).rows t → Finishes options (finished command.rules h) t
  line_finishes h t tallied =
      subst (λ (rs : List Row). Finishes options rs t) (sym (finished_is h)) (finishes options (settled command.rules h).rows t tallied)

  check_is : (rows : List Row) → check_fault command rows false
      ≡ missing (not (is_given (codes "path") rows) || (not (is_given (codes "types") rows) || list_any (refuses_without rows) (option_rules options)))
  check_is rows = rw (built.wants_word, built.wants_command, built.negates, built.rules) refl

  -- the faults of the end are those of what is pending, and of what isn't there
  pub ends_are : (h : Held) (t : Tally) → Tallies options (settled command.rules h).rows t
      → ends command h ≡ or_else (settle_fault command.rules command.args_override_self h) (missing (lacks options t))
  ends_are h t tallied =
      let rows = finished command.rules h in
      let end = line_finishes h t tallied in
      let files = ap₂ (λ (p type : Bool). not p || (not type || list_any (refuses_without rows) (option_rules options)))
      (path_is rows t.operands end.path) (types_are rows t.operands end.types) in
      let others = ap (λ (b : Bool). not (some_given t.operands) || (not (some_given (types_of t.operands)) || b))
      (options_checked options rows (λ s. some_given (t.values s)) (wanted_are options rows t end)) in
      let later = ap (λ (k : Kinds). or_else k (check_fault command rows false)) (defaults_clear (settled command.rules h).rows)
      ∙ check_is rows ∙ ap missing (files ∙ others) in
      ap (or_else (settle_fault command.rules command.args_override_self h)) later

-- ---- what is there

-- all that is required was given
pub record IsComplete (options : List Setting) (t : Tally) : Type 0 where
  pub path : Text
  pub type : Text
  pub types : List Text
  pub operands : t.operands ≡ path ∷ type ∷ types
  pub given : (s : Setting) → Offers options s → is_wanted s ≡ true → some_given (t.values s) ≡ true

-- where a fault isn't there, nothing is missing
none_missing : (b : Bool) → missing b ≡ [] → b ≡ false
none_missing true none = absurd (never MissingRequiredArgument [] none)
none_missing false none = refl

-- nor is an option that is required
none_lacks : (options : List Setting) (given : Setting → Bool) → lacks_option options given ≡ false → (s : Setting) → Offers options s → is_wanted s ≡ true → given s ≡ true
none_lacks [] given none s offered wanted = absurd cc
none_lacks (o ∷ rest) given none s offered wanted =
    let parts = or_parts (is_wanted o && not (given o)) (lacks_option rest given) none in
    ⊎_elim
    (λ same.
    let own = subst (λ (v : Setting). (is_wanted v && not (given v)) ≡ false) same parts.0 in
    not-false (given s) (simp wanted at own))
    (λ other. none_lacks rest given parts.1 s (other_offered o rest s other offered) wanted)
    (same_or_other s o)

all_given : (options : List Setting) (given : Setting → Bool) → ((s : Setting) → Offers options s → is_wanted s ≡ true → given s ≡ true) → lacks_option options given ≡ false
all_given [] given all = refl
all_given (o ∷ rest) given all =
    let first : (is_wanted o && not (given o)) ≡ false = by_test (is_wanted o)
    (λ wanted. let there = all o (first_offered o rest) wanted in simp (wanted, there) refl)
    (λ unwanted. simp unwanted refl) in
    ap₂ ◌||◌ first (all_given rest given (λ s offered wanted. all s (later_offered o rest s offered) wanted))

-- so what lacks nothing is complete
pub complete : (options : List Setting) (t : Tally) → missing (lacks options t) ≡ [] → IsComplete options t
complete options t none = by_operands t.operands refl (none_missing (lacks options t) none)
  where
    by_operands : (operands : List Text) → t.operands ≡ operands
        → lacks_some options (some_given operands) (some_given (types_of operands)) (λ s. some_given (t.values s)) ≡ false → IsComplete options t
    by_operands [] are none = absurd cc
    by_operands (path ∷ []) are none = absurd cc
    by_operands (path ∷ type ∷ types) are none = record {
      path = path;
      type = type;
      types = types;
      operands = are;
      given = none_lacks options (λ s. some_given (t.values s)) none;
    }

-- and what is complete lacks nothing
pub lacks_nothing : (options : List Setting) (t : Tally) → IsComplete options t → lacks options t ≡ false
lacks_nothing options t whole = rw whole.operands (all_given options (λ s. some_given (t.values s)) whole.given)
