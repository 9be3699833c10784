-- The commands over a store's objects that take options, as they are built, and what they look up.
use Rattle.std.proofs.Common.{◌≡◌, ◌∙◌, ◌⊎◌, ap, inl, inr, refl, subst, sym, true, false, ℕ, List, [], ◌∷◌, ⊎_elim}
use Rattle.std.specs.Prelude.{codes, Option, Some}
use Rattle.std.specs.List.{list_any}
use Rattle.std.specs.Str.{bytes_eq}
use Rattle.std.specs.Cmp.Lexicographic.{same_text}
use Rattle.clap.specs.Walk.{Held, Rule, arg_by_id, arg_by_index, arg_by_long, arg_by_short}
use Rattle.clap.specs.Faults.{long_fault}
use Rattle.clap.specs.Simple.{Shape, filled, with_index}
use Rattle.command_words.specs.Lines.{Setting, following, seed, setting_name, tries, value_for, workers}
use Rattle.command_words.specs.Program.{seed_rule, then_rule, tries_rule, types_rule, wanted_rule, workers_rule}
use Rattle.command_words.specs.Words.{Text}
use Rattle.command_words.proofs.OptionLemmas.{RefusesLetters, by_test, help_flag, long_refused, refuses_letters}

-- ---- their rules

-- the first file, TYPE and the options, as they are built
abbrev pub path_built : Rule
path_built = with_index 1 (filled (wanted_rule (codes "path")))

abbrev pub types_built : Rule
types_built = with_index 2 (filled types_rule)

abbrev pub setting_rule : Setting → Rule
setting_rule workers = filled workers_rule
setting_rule tries = filled tries_rule
setting_rule seed = filled seed_rule
setting_rule following = filled then_rule

-- the rules of these options, and the call for help
abbrev pub option_rules : List Setting → List Rule
option_rules [] = help_flag ∷ []
option_rules (s ∷ rest) = setting_rule s ∷ option_rules rest

-- the command takes a first file, types and these options
pub record TakesLine (command : Shape) (options : List Setting) : Type 0 where
  pub rules : command.rules ≡ path_built ∷ types_built ∷ option_rules options
  pub again : command.args_override_self ≡ false
  pub wants_word : command.arg_required_else_help ≡ false
  pub wants_command : command.subcommand_required ≡ false
  pub negates : command.subcommand_negates_reqs ≡ false

-- ---- options

-- the option is one of these
abbrev pub Offers : List Setting → Setting → Type 0
Offers options s = list_any (λ o. bytes_eq (setting_name o) (setting_name s)) options ≡ true

-- the option is another one
pub record IsOther (wanted s : Setting) : Type 0 where
  pub none : (value : Text) → value_for wanted s value ≡ []
  pub apart : bytes_eq (setting_name s) (setting_name wanted) ≡ false

pub same_or_other : (wanted s : Setting) → (s ≡ wanted) ⊎ IsOther wanted s
same_or_other workers workers = inl refl
same_or_other workers tries = inr (record { none = λ _. refl; apart = refl })
same_or_other workers seed = inr (record { none = λ _. refl; apart = refl })
same_or_other workers following = inr (record { none = λ _. refl; apart = refl })
same_or_other tries workers = inr (record { none = λ _. refl; apart = refl })
same_or_other tries tries = inl refl
same_or_other tries seed = inr (record { none = λ _. refl; apart = refl })
same_or_other tries following = inr (record { none = λ _. refl; apart = refl })
same_or_other seed workers = inr (record { none = λ _. refl; apart = refl })
same_or_other seed tries = inr (record { none = λ _. refl; apart = refl })
same_or_other seed seed = inl refl
same_or_other seed following = inr (record { none = λ _. refl; apart = refl })
same_or_other following workers = inr (record { none = λ _. refl; apart = refl })
same_or_other following tries = inr (record { none = λ _. refl; apart = refl })
same_or_other following seed = inr (record { none = λ _. refl; apart = refl })
same_or_other following following = inl refl

-- a name is that of its own option
pub self_name : (s : Setting) → bytes_eq (setting_name s) (setting_name s) ≡ true
self_name workers = refl
self_name tries = refl
self_name seed = refl
self_name following = refl

-- the first of some options is one of them, and so are the others
pub first_offered : (s : Setting) (rest : List Setting) → Offers (s ∷ rest) s
first_offered s rest = simp (self_name s) refl

pub later_offered : (o : Setting) (rest : List Setting) (s : Setting) → Offers rest s → Offers (o ∷ rest) s
later_offered o rest s offered = by_test (bytes_eq (setting_name o) (setting_name s)) (λ is. simp is refl) (λ other. simp other offered)

-- an option that is another than the first is one of the others
pub other_offered : (o : Setting) (rest : List Setting) (s : Setting) → IsOther s o → Offers (o ∷ rest) s → Offers rest s
other_offered o rest s other offered = simp other.apart at offered

-- ---- options by their ids

id_first : (s : Setting) (rest : List Rule) → arg_by_id (setting_rule s ∷ rest) (setting_name s) ≡ Some (setting_rule s)
id_first workers rest = refl
id_first tries rest = refl
id_first seed rest = refl
id_first following rest = refl

id_later : (o : Setting) (rest : List Rule) (id : Text) → bytes_eq (setting_name o) id ≡ false → arg_by_id (setting_rule o ∷ rest) id ≡ arg_by_id rest id
id_later workers rest id other = simp other refl
id_later tries rest id other = simp other refl
id_later seed rest id other = simp other refl
id_later following rest id other = simp other refl

option_by_id : (options : List Setting) (s : Setting) → Offers options s → arg_by_id (option_rules options) (setting_name s) ≡ Some (setting_rule s)
option_by_id [] s offered = absurd cc
option_by_id (o ∷ rest) s offered = ⊎_elim
    (λ same. subst (λ (wanted : Setting). arg_by_id (option_rules (o ∷ rest)) (setting_name wanted) ≡ Some (setting_rule wanted)) same (id_first o (option_rules rest)))
    (λ other. id_later o (option_rules rest) (setting_name s) other.apart ∙ option_by_id rest s (other_offered o rest s other offered))
    (same_or_other s o)

-- no option has the id of an operand
id_past_files : (s : Setting) (rest : List Rule) → arg_by_id (path_built ∷ types_built ∷ rest) (setting_name s) ≡ arg_by_id rest (setting_name s)
id_past_files workers rest = refl
id_past_files tries rest = refl
id_past_files seed rest = refl
id_past_files following rest = refl

-- ---- options by their long names

long_first : (s : Setting) (rest : List Rule) → arg_by_long (setting_rule s ∷ rest) (setting_name s) ≡ Some (setting_rule s)
long_first workers rest = refl
long_first tries rest = refl
long_first seed rest = refl
long_first following rest = refl

long_later : (o : Setting) (rest : List Rule) (name : Text) → bytes_eq (setting_name o) name ≡ false → arg_by_long (setting_rule o ∷ rest) name ≡ arg_by_long rest name
long_later workers rest name other = simp other refl
long_later tries rest name other = simp other refl
long_later seed rest name other = simp other refl
long_later following rest name other = simp other refl

option_by_long : (options : List Setting) (s : Setting) → Offers options s → arg_by_long (option_rules options) (setting_name s) ≡ Some (setting_rule s)
option_by_long [] s offered = absurd cc
option_by_long (o ∷ rest) s offered = ⊎_elim
    (λ same. subst (λ (wanted : Setting). arg_by_long (option_rules (o ∷ rest)) (setting_name wanted) ≡ Some (setting_rule wanted)) same (long_first o (option_rules rest)))
    (λ other. long_later o (option_rules rest) (setting_name s) other.apart ∙ option_by_long rest s (other_offered o rest s other offered))
    (same_or_other s o)

-- a long name is that of an option
pub record IsSetting (options : List Setting) (name : Text) : Type 0 where
  pub setting : Setting
  pub offered : Offers options setting
  pub named : setting_name setting ≡ name

-- or it is looked up among the call for help alone
named_or_help : (options : List Setting) (name : Text) → IsSetting options name ⊎ (arg_by_long (option_rules options) name ≡ arg_by_long (help_flag ∷ []) name)
named_or_help [] name = inr refl
named_or_help (o ∷ rest) name = by_test (bytes_eq (setting_name o) name)
    (λ is. inl (record { setting = o; offered = first_offered o rest; named = same_text (setting_name o) name (sym is) }))
    (λ other. ⊎_elim
    (λ found. inl (record { setting = found.setting; offered = later_offered o rest found.setting found.offered; named = found.named }))
    (λ help. inr (long_later o (option_rules rest) name other ∙ help))
    (named_or_help rest name))

-- ---- letters

letter_later : (o : Setting) (rest : List Rule) (x : ℕ) → arg_by_short (setting_rule o ∷ rest) x ≡ arg_by_short rest x
letter_later workers rest x = refl
letter_later tries rest x = refl
letter_later seed rest x = refl
letter_later following rest x = refl

option_letters : (options : List Setting) (x : ℕ) → arg_by_short (option_rules options) x ≡ arg_by_short (help_flag ∷ []) x
option_letters [] x = refl
option_letters (o ∷ rest) x = letter_later o (option_rules rest) x ∙ option_letters rest x

-- ---- what the command looks up

module _ (command : Shape) (options : List Setting) (built : TakesLine command options) where
  pub path_by_index : arg_by_index command.rules 1 ≡ Some path_built
  path_by_index = ap (λ (rs : List Rule). arg_by_index rs 1) built.rules

  pub types_by_index : arg_by_index command.rules 2 ≡ Some types_built
  types_by_index = ap (λ (rs : List Rule). arg_by_index rs 2) built.rules

  pub path_by_id : arg_by_id command.rules (codes "path") ≡ Some path_built
  path_by_id = ap (λ (rs : List Rule). arg_by_id rs (codes "path")) built.rules

  pub types_by_id : arg_by_id command.rules (codes "types") ≡ Some types_built
  types_by_id = ap (λ (rs : List Rule). arg_by_id rs (codes "types")) built.rules

  pub setting_by_id : (s : Setting) → Offers options s → arg_by_id command.rules (setting_name s) ≡ Some (setting_rule s)
  setting_by_id s offered =
      ap (λ (rs : List Rule). arg_by_id rs (setting_name s)) built.rules ∙ id_past_files s (option_rules options) ∙ option_by_id options s offered

  pub setting_by_long : (s : Setting) → Offers options s → arg_by_long command.rules (setting_name s) ≡ Some (setting_rule s)
  setting_by_long s offered = ap (λ (rs : List Rule). arg_by_long rs (setting_name s)) built.rules ∙ option_by_long options s offered

  -- the call for help has the only letter
  pub letters_refused : RefusesLetters command.rules command.args_override_self
  letters_refused = refuses_letters command.rules command.args_override_self
      (λ x. ap (λ (rs : List Rule). arg_by_short rs x) built.rules ∙ option_letters options x)

  -- a long name that isn't refused is an option's
  pub long_setting : (name : Text) (v : Option Text) (h : Held)
      → long_fault command.rules command.args_override_self (arg_by_long command.rules name) v h ≡ [] → IsSetting options name
  long_setting name v h none = ⊎_elim (λ found. found)
      (λ help.
      let help_alone = ap (λ (rs : List Rule). arg_by_long rs name) built.rules ∙ help in
      absurd (long_refused command.rules command.args_override_self name v h
      (subst (λ (o : Option Rule). long_fault command.rules command.args_override_self o v h ≡ []) help_alone none)))
      (named_or_help options name)
