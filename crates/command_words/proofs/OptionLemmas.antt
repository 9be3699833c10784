-- Words that begin with a hyphen, at a command whose only option is the call for help.
use Rattle.std.proofs.Common.{◌≡◌, ◌∙◌, ◌==◌, refl, subst, true, false, Bool, ℕ, List, [], ◌∷◌}
use Rattle.std.specs.Prelude.{codes, Some, None, Option, slice_get}
use Rattle.std.specs.Str.{bytes_eq, chars}
use Rattle.clap.specs.Lexer.{long_of}
use Rattle.clap.specs.Walk.{Held, Row, Rule, Waiting, arg_by_long, arg_by_short, bundle_met, long_or_other, plain_word, reacted, value}
use Rattle.clap.specs.Kinds.{Kinds, or_else}
use Rattle.clap.specs.Faults.{bundle_step_fault, flag_word_fault, flags_fault, long_fault, settle_fault, short_fault}
use Rattle.clap.specs.Simple.{filled, help_rule, with_index}
use Rattle.clap.specs.declared.error.kind.ErrorKind.{ErrorKind}
use Rattle.clap.specs.declared.error.kind.ErrorKind.TheVariants.{DisplayHelp, TooManyValues, UnknownArgument}
use Rattle.command_words.specs.Words.{Text}

-- a test, in its two cases
pub by_test : {P : Type 0} (b : Bool) → (b ≡ true → P) → (b ≡ false → P) → P
by_test {P} b holds fails = (elim b as (λ v. (v ≡ true → P) → (v ≡ false → P) → P) [
  | true ↦ λ h f. h refl
  | false ↦ λ h f. f refl
]) holds fails

-- where no kind comes of two steps, none comes of either
pub or_else_none : (a b : Kinds) → or_else a b ≡ [] → (a ≡ []) × (b ≡ [])
or_else_none [] b none = (refl, none)
or_else_none (k ∷ ks) b none = absurd cc

-- a list with a kind in it isn't empty
pub never : (k : ErrorKind) (ks : Kinds) → k ∷ ks ≡ [] → ⊥
never k ks none = cc

-- something is there
some_none : {X : Type 0} (x : X) → Some x ≡ None → ⊥
some_none x is = cc

-- each letter is refused
abbrev pub RefusesLetters : List Rule → Bool → Type 0
RefusesLetters rules again = (x : ℕ) (rest : Text) (h : Held) (next : Held → Kinds) → short_fault rules again (arg_by_short rules x) rest h next ≡ [] → ⊥

-- each option is refused, help too
pub record RefusesOptions (rules : List Rule) (again : Bool) : Type 0 where
  pub long : (name : Text) (v : Option Text) (h : Held) → long_fault rules again (arg_by_long rules name) v h ≡ [] → ⊥
  pub short : RefusesLetters rules again

-- the call for help, as it is built
abbrev pub help_flag : Rule
help_flag = with_index 1 (filled help_rule)

-- the call for help is the only option among these rules
pub record OffersHelp (rules : List Rule) : Type 0 where
  pub long : (name : Text) → arg_by_long rules name ≡ arg_by_long (help_flag ∷ []) name
  pub short : (x : ℕ) → arg_by_short rules x ≡ arg_by_short (help_flag ∷ []) x

-- a call for help by its long name ends in help or in a fault
help_long : (rules : List Rule) (again : Bool) (v : Option Text) (h : Held) → long_fault rules again (Some help_flag) v h ≡ [] → ⊥
help_long rules again None h none = never DisplayHelp [] (or_else_none (settle_fault rules again h) (DisplayHelp ∷ []) none).1
help_long rules again (Some v) h none = never TooManyValues [] none

-- a call for help by its letter ends in help or in a fault
help_short : (rules : List Rule) (again : Bool) (rest : Text) (h : Held) (next : Held → Kinds) → short_fault rules again (Some help_flag) rest h next ≡ [] → ⊥
help_short rules again rest h next none =
    never DisplayHelp [] (or_else_none (settle_fault rules again h) (DisplayHelp ∷ []) (or_else_none _ (next (reacted rules help_flag [] h)) none).0).1

-- a long name that is looked up among the call for help alone is refused
pub long_refused : (rules : List Rule) (again : Bool) (name : Text) (v : Option Text) (h : Held) → long_fault rules again (arg_by_long (help_flag ∷ []) name) v h ≡ [] → ⊥
long_refused rules again name v h none = by_test (bytes_eq (codes "help") name)
    (λ helps. help_long rules again v h (simp helps at none))
    (λ other. never UnknownArgument [] (simp other at none))

-- and so is a letter
short_refused : (rules : List Rule) (again : Bool) (x : ℕ) (rest : Text) (h : Held) (next : Held → Kinds)
    → short_fault rules again (arg_by_short (help_flag ∷ []) x) rest h next ≡ [] → ⊥
short_refused rules again x rest h next none = by_test (104 == x)
    (λ helps. help_short rules again rest h next (simp helps at none))
    (λ other. never UnknownArgument [] (simp other at none))

-- where the call for help has the only letter, all are refused
pub refuses_letters : (rules : List Rule) (again : Bool) → ((x : ℕ) → arg_by_short rules x ≡ arg_by_short (help_flag ∷ []) x) → RefusesLetters rules again
refuses_letters rules again letters = λ x rest h next none.
    short_refused rules again x rest h next (subst (λ (o : Option Rule). short_fault rules again o rest h next ≡ []) (letters x) none)

-- where the call for help is the only option, all are refused
pub refuses : (rules : List Rule) (again : Bool) → OffersHelp rules → RefusesOptions rules again
refuses rules again help = record {
  long = λ name v h none.
      long_refused rules again name v h (subst (λ (o : Option Rule). long_fault rules again o v h ≡ []) (help.long name) none);
  short = refuses_letters rules again help.short;
}

-- a first letter of a bundle is refused, so a bundle that passes has none
short_step : (rules : List Rule) (again : Bool) → RefusesLetters rules again → (o : Option ℕ) (flags : Text) (h : Held) (next : Text → ℕ → Held → Kinds)
    → bundle_step_fault rules again o flags 0 h next ≡ [] → o ≡ None
short_step rules again refused None flags h next none = refl
short_step rules again refused (Some x) flags h next none = absurd (refused x _ h _ none)

-- what is held between two words
abbrev pub holding : List Row → Option (Text × List Text) → Held
holding rows pending = record { rows = rows; pending = pending; skip = 0 }

-- no option waits for a value
abbrev pub IsFree : List Rule → Waiting → Type 0
IsFree rules waiting = (word : Text) (h : Held) → plain_word rules waiting word h ≡ (h, value)

-- a word that begins with one hyphen, where its letters come to no option
short_word : (rules : List Rule) (again : Bool) → RefusesLetters rules again → (waiting : Waiting)
    → (rows : List Row) (pending : Option (Text × List Text)) (x y : ℕ) (ys : Text) → (x == 45) ≡ true → (y == 45) ≡ false
    → flag_word_fault rules again (long_of (x ∷ y ∷ ys)) (x ∷ y ∷ ys) (holding rows pending) ≡ []
    → long_or_other rules waiting (x ∷ y ∷ ys) (long_of (x ∷ y ∷ ys)) (holding rows pending) ≡ plain_word rules waiting (x ∷ y ∷ ys) (holding rows pending)
unfolding flags_fault bundle_met
short_word rules again refused waiting rows pending x y ys dash other none =
    let flags = simp (dash, other) at none in
    let letterless = short_step rules again refused (slice_get (chars (y ∷ ys)) 0) (y ∷ ys) (holding rows pending) _ flags in
    simp (dash, other, letterless) refl

-- a word that isn't refused as an option is a plain word, or a long option
pub no_letter : (rules : List Rule) (again : Bool) → RefusesLetters rules again → (waiting : Waiting)
    → (rows : List Row) (pending : Option (Text × List Text)) (word : Text) → long_of word ≡ None
    → flag_word_fault rules again (long_of word) word (holding rows pending) ≡ []
    → long_or_other rules waiting word (long_of word) (holding rows pending) ≡ plain_word rules waiting word (holding rows pending)
no_letter rules again refused waiting rows pending [] long none = refl
no_letter rules again refused waiting rows pending (x ∷ []) long none =
    by_test (x == 45) (λ dash. simp dash refl) (λ other. simp other refl)
no_letter rules again refused waiting rows pending (x ∷ y ∷ ys) long none =
    by_test (x == 45) (λ dash. by_test (y == 45) (λ same. two_dashes ys dash same long) (λ other. short_word rules again refused waiting rows pending x y ys dash other none))
    (λ other. simp other refl)
  where
    two_dashes : (zs : Text) → (x == 45) ≡ true → (y == 45) ≡ true → long_of (x ∷ y ∷ zs) ≡ None
        → long_or_other rules waiting (x ∷ y ∷ zs) (long_of (x ∷ y ∷ zs)) (holding rows pending) ≡ plain_word rules waiting (x ∷ y ∷ zs) (holding rows pending)
    two_dashes [] dash same long = simp (dash, same) refl
    two_dashes (z ∷ zs) dash same long = absurd (some_none _ (simp (dash, same) at long))

-- a word that is not refused as an option goes to a positional
pub no_option : (rules : List Rule) (again : Bool) → RefusesOptions rules again → (waiting : Waiting) → IsFree rules waiting
    → (rows : List Row) (pending : Option (Text × List Text)) (word : Text)
    → flag_word_fault rules again (long_of word) word (holding rows pending) ≡ []
    → long_or_other rules waiting word (long_of word) (holding rows pending) ≡ (holding rows pending, value)
no_option rules again refused waiting free rows pending word none = by_long (long_of word) refl
  where
    by_long : (o : Option (Text × Option Text)) → long_of word ≡ o → long_or_other rules waiting word (long_of word) (holding rows pending) ≡ (holding rows pending, value)
    by_long None long = no_letter rules again refused.short waiting rows pending word long none ∙ free word (holding rows pending)
    by_long (Some p) long = absurd (refused.long p.0 p.1 (holding rows pending)
        (subst (λ (o : Option (Text × Option Text)). flag_word_fault rules again o word (holding rows pending) ≡ []) long none))
