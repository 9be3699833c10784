-- What words after `serve` say: one thing at most.
use Rattle.std.proofs.Common.{◌≡◌, ◌≢◌, ◌∙◌, ap, arith, refl, subst, sym, true, false, Bool, ℕ, List, [], ◌∷◌, Bor, length, take, drop, ◌-◌, ◌≤◌, ⊎_elim}
use Rattle.std.proofs.Math.Seq.{take-length}
use Rattle.std.specs.Prelude.{codes, get_or, Option, Some, None, Result, Ok, Err, IfErr, IfSome, IfNone, IsSome, option_map, slice_index, unwrap_or, ◌<◌, ◌^◌}
use Rattle.std.specs.Str.{bytes_eq}
use Rattle.clap.specs.Walk.{texts}
use Rattle.command_words.specs.Lines.{SpellsNumber, IsPlain, line_words, work_name}
use Rattle.command_words.specs.Serve.{AreWhole, ServeParts, Say, SayServe, Serve, no_parts, nothing, fast, drain, outcomes, database, archive, dashes, said_by}
use Rattle.command_words.specs.declared.serve.Parts.{Parts as Found}
use Rattle.command_words.specs.declared.task.Task.{Task}
use Rattle.command_words.specs.declared.task.Topic.{Topic}
use Rattle.command_words.specs.declared.task.Topic.TheVariants as topic
use Rattle.command_words.specs.Words.{AreNoTask, OnUsage, Order, Text, asked_of, help_words, order_words}
use Rattle.command_words.specs.Words as asked
use Rattle.command_words.specs.declared.task.WordFault.{WordFault}
use Rattle.command_words.specs.declared.task.WordFault.TheVariants.{Usage, NoMemory}

-- the words after the first
abbrev tail : List Text → List Text
tail [] = []
tail (word ∷ rest) = rest

-- no word that is plain is an option
not_plain : (path word : Text) → path ≡ word → IsPlain path → ¬ (IsPlain word) → ⊥
not_plain path word is plain not = not (subst IsPlain is plain)

-- ---- what words say, by the first of them

pub fast_says : (words rest : List Text) (p : ServeParts) → Say words p → words ≡ codes "--fast" ∷ rest
    → (q : ServeParts) × Say rest q × (q.fast ≡ false) × (p ≡ record q { fast = true })
fast_says _ rest _ nothing is = absurd cc
fast_says _ rest _ (fast more q said not) is = (q, subst (λ (ws : List Text). Say ws q) (ap tail is) said, not, refl)
fast_says _ rest _ (archive folder more q said none) is = absurd cc
fast_says _ rest _ (drain text n more q said none number small) is = absurd cc
fast_says _ rest _ (outcomes text n more q said none number small) is = absurd cc
fast_says _ rest _ (database path more q said none plain) is =
    absurd (not_plain path (codes "--fast") (let first : path ≡ codes "--fast" = cc in first) plain (λ (p : IsPlain (codes "--fast")). cc))
fast_says _ rest _ (dashes path more q said none) is = absurd cc

pub drain_says : (words rest : List Text) (text : Text) (p : ServeParts) → Say words p → words ≡ codes "--drain" ∷ text ∷ rest
    → (q : ServeParts) × (n : ℕ) × Say rest q × (q.drain ≡ None) × SpellsNumber text n × (n < 2 ^ 32) × (p ≡ record q { drain = Some n })
drain_says _ rest text _ nothing is = absurd cc
drain_says _ rest text _ (fast more q said not) is = absurd cc
drain_says _ rest text _ (archive folder more q said none) is = absurd cc
drain_says _ rest text _ (drain other n more q said none number small) is =
    let same : other ≡ text = cc in
    (q, n, subst (λ (ws : List Text). Say ws q) (ap (λ (ws : List Text). tail (tail ws)) is) said, none, subst (λ (t : Text). SpellsNumber t n) same number, small, refl)
drain_says _ rest text _ (outcomes other n more q said none number small) is = absurd cc
drain_says _ rest text _ (database path more q said none plain) is =
    absurd (not_plain path (codes "--drain") (let first : path ≡ codes "--drain" = cc in first) plain (λ (p : IsPlain (codes "--drain")). cc))
drain_says _ rest text _ (dashes path more q said none) is = absurd cc

pub outcomes_says : (words rest : List Text) (text : Text) (p : ServeParts) → Say words p → words ≡ codes "--outcomes" ∷ text ∷ rest
    → (q : ServeParts) × (n : ℕ) × Say rest q × (q.outcomes ≡ None) × SpellsNumber text n × (n < 2 ^ 32) × (p ≡ record q { outcomes = Some n })
outcomes_says _ rest text _ nothing is = absurd cc
outcomes_says _ rest text _ (fast more q said not) is = absurd cc
outcomes_says _ rest text _ (archive folder more q said none) is = absurd cc
outcomes_says _ rest text _ (drain other n more q said none number small) is = absurd cc
outcomes_says _ rest text _ (outcomes other n more q said none number small) is =
    let same : other ≡ text = cc in
    (q, n, subst (λ (ws : List Text). Say ws q) (ap (λ (ws : List Text). tail (tail ws)) is) said, none, subst (λ (t : Text). SpellsNumber t n) same number, small, refl)
outcomes_says _ rest text _ (database path more q said none plain) is =
    absurd (not_plain path (codes "--outcomes") (let first : path ≡ codes "--outcomes" = cc in first) plain (λ (p : IsPlain (codes "--outcomes")). cc))
outcomes_says _ rest text _ (dashes path more q said none) is = absurd cc

pub archive_says : (words rest : List Text) (folder : Text) (p : ServeParts) → Say words p → words ≡ codes "--archive" ∷ folder ∷ rest
    → (q : ServeParts) × Say rest q × (q.archive ≡ None) × (p ≡ record q { archive = Some folder })
archive_says _ rest folder _ nothing is = absurd cc
archive_says _ rest folder _ (fast more q said not) is = absurd cc
archive_says _ rest folder _ (archive other more q said none) is =
    let same : other ≡ folder = cc in
    (q, subst (λ (ws : List Text). Say ws q) (ap (λ (ws : List Text). tail (tail ws)) is) said, none, ap (λ (o : Text). record q { archive = Some o }) same)
archive_says _ rest folder _ (drain text n more q said none number small) is = absurd cc
archive_says _ rest folder _ (outcomes text n more q said none number small) is = absurd cc
archive_says _ rest folder _ (database path more q said none plain) is =
    absurd (not_plain path (codes "--archive") (let first : path ≡ codes "--archive" = cc in first) plain (λ (p : IsPlain (codes "--archive")). cc))
archive_says _ rest folder _ (dashes path more q said none) is = absurd cc

pub dashes_say : (words rest : List Text) (path : Text) (p : ServeParts) → Say words p → words ≡ codes "--" ∷ path ∷ rest
    → (q : ServeParts) × Say rest q × (q.database ≡ None) × (p ≡ record q { database = Some path })
dashes_say _ rest path _ nothing is = absurd cc
dashes_say _ rest path _ (fast more q said not) is = absurd cc
dashes_say _ rest path _ (archive folder more q said none) is = absurd cc
dashes_say _ rest path _ (drain text n more q said none number small) is = absurd cc
dashes_say _ rest path _ (outcomes text n more q said none number small) is = absurd cc
dashes_say _ rest path _ (database other more q said none plain) is =
    absurd (not_plain other (codes "--") (let first : other ≡ codes "--" = cc in first) plain (λ (p : IsPlain (codes "--")). cc))
dashes_say _ rest path _ (dashes other more q said none) is =
    let same : other ≡ path = cc in
    (q, subst (λ (ws : List Text). Say ws q) (ap (λ (ws : List Text). tail (tail ws)) is) said, none, ap (λ (o : Text). record q { database = Some o }) same)

pub database_says : (words rest : List Text) (path : Text) (p : ServeParts) → Say words p → words ≡ path ∷ rest → IsPlain path
    → (q : ServeParts) × Say rest q × (q.database ≡ None) × (p ≡ record q { database = Some path })
database_says _ rest path _ nothing is plain = absurd cc
database_says _ rest path _ (fast more q said not) is plain =
    absurd (not_plain path (codes "--fast") (let first : path ≡ codes "--fast" = cc in first) plain (λ (p : IsPlain (codes "--fast")). cc))
database_says _ rest path _ (archive folder more q said none) is plain =
    absurd (not_plain path (codes "--archive") (let first : path ≡ codes "--archive" = cc in first) plain (λ (p : IsPlain (codes "--archive")). cc))
database_says _ rest path _ (drain text n more q said none number small) is plain =
    absurd (not_plain path (codes "--drain") (let first : path ≡ codes "--drain" = cc in first) plain (λ (p : IsPlain (codes "--drain")). cc))
database_says _ rest path _ (outcomes text n more q said none number small) is plain =
    absurd (not_plain path (codes "--outcomes") (let first : path ≡ codes "--outcomes" = cc in first) plain (λ (p : IsPlain (codes "--outcomes")). cc))
database_says _ rest path _ (database other more q said none is_plain) is plain =
    let same : other ≡ path = cc in
    (q, subst (λ (ws : List Text). Say ws q) (ap tail is) said, none, ap (λ (o : Text). record q { database = Some o }) same)
database_says _ rest path _ (dashes other more q said none) is plain =
    absurd (not_plain path (codes "--") (let first : path ≡ codes "--" = cc in first) plain (λ (p : IsPlain (codes "--")). cc))

nothing_says : (words : List Text) (p : ServeParts) → Say words p → words ≡ [] → p ≡ no_parts
nothing_says _ _ nothing is = refl
nothing_says _ _ (fast more q said not) is = absurd cc
nothing_says _ _ (archive folder more q said none) is = absurd cc
nothing_says _ _ (drain text n more q said none number small) is = absurd cc
nothing_says _ _ (outcomes text n more q said none number small) is = absurd cc
nothing_says _ _ (database path more q said none plain) is = absurd cc
nothing_says _ _ (dashes path more q said none) is = absurd cc

-- a word that fails the test is another
pub differs : (word : Text) → false ≡ bytes_eq word (codes "--fast") → word ≢ codes "--fast"
differs word fails is =
    let both : false ≡ bytes_eq (codes "--fast") (codes "--fast") = subst (λ (w : Text). false ≡ bytes_eq w (codes "--fast")) is fails in cc

-- one word alone that is neither `--fast` nor plain says nothing
alone_says : (words : List Text) (word : Text) → words ≡ word ∷ [] → word ≢ codes "--fast" → ¬ (IsPlain word) → (p : ServeParts) → ¬ (Say words p)
alone_says _ word is no_fast hyphen _ nothing = absurd cc
alone_says _ word is no_fast hyphen _ (fast more q said not) = no_fast (let same : codes "--fast" ≡ word = cc in sym same)
alone_says _ word is no_fast hyphen _ (archive folder more q said none) = absurd cc
alone_says _ word is no_fast hyphen _ (drain text n more q said none number small) = absurd cc
alone_says _ word is no_fast hyphen _ (outcomes text n more q said none number small) = absurd cc
alone_says _ word is no_fast hyphen _ (database path more q said none plain) = hyphen (let same : path ≡ word = cc in subst IsPlain same plain)
alone_says _ word is no_fast hyphen _ (dashes path more q said none) = absurd cc

pub no_value : (words : List Text) (behind : List (Bor Text)) (word : Text) → words ≡ word ∷ texts behind → length behind ≡ 0
    → word ≢ codes "--fast" → ¬ (IsPlain word) → (p : ServeParts) → ¬ (Say words p)
no_value words [] word is none no_fast hyphen p = alone_says words word is no_fast hyphen p
no_value words (more ∷ behind) word is none no_fast hyphen p = absurd (omega (arith, none))

-- and of two the first has to be an option, or `--`
pub no_option : (words rest : List Text) (word value : Text) → words ≡ word ∷ value ∷ rest → word ≢ codes "--fast" → ¬ (IsPlain word)
    → word ≢ codes "--archive" → word ≢ codes "--drain" → word ≢ codes "--outcomes" → word ≢ codes "--" → (p : ServeParts) → ¬ (Say words p)
no_option _ rest word value is no_fast hyphen no_archive no_drain no_outcomes no_dashes _ nothing = absurd cc
no_option _ rest word value is no_fast hyphen no_archive no_drain no_outcomes no_dashes _ (fast more q said not) = no_fast (let same : codes "--fast" ≡ word = cc in sym same)
no_option _ rest word value is no_fast hyphen no_archive no_drain no_outcomes no_dashes _ (archive folder more q said none) = no_archive (let same : codes "--archive" ≡ word = cc in sym same)
no_option _ rest word value is no_fast hyphen no_archive no_drain no_outcomes no_dashes _ (drain text n more q said none number small) = no_drain (let same : codes "--drain" ≡ word = cc in sym same)
no_option _ rest word value is no_fast hyphen no_archive no_drain no_outcomes no_dashes _ (outcomes text n more q said none number small) = no_outcomes (let same : codes "--outcomes" ≡ word = cc in sym same)
no_option _ rest word value is no_fast hyphen no_archive no_drain no_outcomes no_dashes _ (database path more q said none plain) = hyphen (let same : path ≡ word = cc in subst IsPlain same plain)
no_option _ rest word value is no_fast hyphen no_archive no_drain no_outcomes no_dashes _ (dashes path more q said none) = no_dashes (let same : codes "--" ≡ word = cc in sym same)

-- ---- one thing at most

-- the number of a text is one
same_number : (text : Text) (n m : ℕ) → SpellsNumber text n → SpellsNumber text m → n ≡ m
same_number text n m one other = sym one.1 ∙ other.1

pub one_said : (words : List Text) (p q : ServeParts) → Say words p → Say words q → q ≡ p
one_said _ _ q nothing said = nothing_says _ q said refl
one_said _ _ q (fast rest a first not) said =
    let s = fast_says _ rest q said refl in
    s.3 ∙ ap (λ (x : ServeParts). record x { fast = true }) (one_said rest a s.0 first s.1)
one_said _ _ q (archive folder rest a first none) said =
    let s = archive_says _ rest folder q said refl in
    s.3 ∙ ap (λ (x : ServeParts). record x { archive = Some folder }) (one_said rest a s.0 first s.1)
one_said _ _ q (drain text n rest a first none number small) said =
    let s = drain_says _ rest text q said refl in
    s.6 ∙ ap (λ (x : ServeParts). record x { drain = Some s.1 }) (one_said rest a s.0 first s.2)
    ∙ ap (λ (m : ℕ). record a { drain = Some m }) (same_number text s.1 n s.4 number)
one_said _ _ q (outcomes text n rest a first none number small) said =
    let s = outcomes_says _ rest text q said refl in
    s.6 ∙ ap (λ (x : ServeParts). record x { outcomes = Some s.1 }) (one_said rest a s.0 first s.2)
    ∙ ap (λ (m : ℕ). record a { outcomes = Some m }) (same_number text s.1 n s.4 number)
one_said _ _ q (database path rest a first none plain) said =
    let s = database_says _ rest path q said refl plain in
    s.3 ∙ ap (λ (x : ServeParts). record x { database = Some path }) (one_said rest a s.0 first s.1)
one_said _ _ q (dashes path rest a first none) said =
    let s = dashes_say _ rest path q said refl in
    s.3 ∙ ap (λ (x : ServeParts). record x { database = Some path }) (one_said rest a s.0 first s.1)

-- ---- what is read, by the first word

-- the words are the first and those after it
pub with_first : (words behind : List (Bor Text)) (w : Bor Text) (text : Text) → words ≡ w ∷ behind → w.now ≡ text → texts words ≡ text ∷ texts behind
with_first words behind w text are is = ap texts are ∙ ap (λ (x : Text). x ∷ texts behind) is

-- or the first two and those after them
pub with_two : (words behind rest : List (Bor Text)) (w v : Bor Text) (text : Text) → words ≡ w ∷ behind → behind ≡ v ∷ rest → w.now ≡ text → texts words ≡ text ∷ v.now ∷ texts rest
with_two words behind rest w v text are then is = with_first words behind w text are is ∙ ap (λ (ws : List (Bor Text)). text ∷ texts ws) then

-- the same of a slice after the first word
pub behind_first : (words : List (Bor Text)) (d : Bor Text) (word : Text) → 1 ≤ length words → (get_or words 0 d).now ≡ word
    → texts words ≡ word ∷ texts (take (length words - 1) (drop 1 words))
behind_first [] d word some is = absurd (omega (arith, some))
behind_first (w ∷ ws) d word some is =
    let count : length (w ∷ ws) - 1 ≡ length ws = omega arith in
    with_first (w ∷ ws) _ w word (ap (λ (rest : List (Bor Text)). w ∷ rest) (sym (ap (λ (n : ℕ). take n ws) count ∙ take-length ws))) is

-- no words say nothing
pub none_say : (words : List (Bor Text)) → length words ≡ 0 → Say (texts words) no_parts
none_say [] none = nothing
none_say (word ∷ words) none = absurd (omega (arith, none))

-- what is said of the parts that were found
found_said : (rest : List Text) (parts : Option Found) (q : Found) → parts ≡ Some q → IfSome parts (λ p. Say rest (said_by p)) → Say rest (said_by q)
found_said rest (Some p) q is said = let same : p ≡ q = cc in subst (λ (x : Found). Say rest (said_by x)) same said
found_said rest None q is said = absurd cc

module _ (words rest : List Text) (parts result : Option Found) (said : IfSome parts (λ p. Say rest (said_by p))) (other : IfNone parts ((p : ServeParts) → ¬ (Say rest p))) where
  -- with an option
  pub fast_said : words ≡ codes "--fast" ∷ rest → IfSome result (λ p. (q : Found) × (parts ≡ Some q) × (q.fast ≡ false) × (p ≡ record q { fast = true }))
      → IfSome result (λ p. Say words (said_by p))
  fast_said is more = elim result as (λ (r : Option Found). IfSome r (λ p. (q : Found) × (parts ≡ Some q) × (q.fast ≡ false) × (p ≡ record q { fast = true })) → IfSome r (λ p. Say words (said_by p))) [
    | None ↦ λ _. tt
    | Some p ↦ λ (q, there, not, made).
        subst (λ (ws : List Text). Say ws (said_by p)) (sym is)
        (subst (λ (x : Found). Say (codes "--fast" ∷ rest) (said_by x)) (sym made) (fast rest (said_by q) (found_said rest parts q there said) not))
  ] more

  pub archive_said : (folder : Bor Text) → words ≡ codes "--archive" ∷ folder.now ∷ rest
      → IfSome result (λ p. (q : Found) × (parts ≡ Some q) × (q.archive ≡ None) × (p ≡ record q { archive = Some folder }))
      → IfSome result (λ p. Say words (said_by p))
  archive_said folder is more = elim result as (λ (r : Option Found). IfSome r (λ p. (q : Found) × (parts ≡ Some q) × (q.archive ≡ None) × (p ≡ record q { archive = Some folder }))
      → IfSome r (λ p. Say words (said_by p))) [
        | None ↦ λ _. tt
        | Some p ↦ λ (q, there, none, made).
            subst (λ (ws : List Text). Say ws (said_by p)) (sym is)
            (subst (λ (x : Found). Say (codes "--archive" ∷ folder.now ∷ rest) (said_by x)) (sym made)
            (archive folder.now rest (said_by q) (found_said rest parts q there said) (ap (option_map (λ (b : Bor Text). b.now)) none)))
      ] more

  pub drain_said : (text : Text) → words ≡ codes "--drain" ∷ text ∷ rest
      → IfSome result (λ p. (q : Found) × (n : ℕ) × (parts ≡ Some q) × (q.drain ≡ None) × SpellsNumber text n × (n < 2 ^ 32) × (p ≡ record q { drain = Some n }))
      → IfSome result (λ p. Say words (said_by p))
  drain_said text is more = elim result as (λ (r : Option Found). IfSome r (λ p. (q : Found) × (n : ℕ) × (parts ≡ Some q) × (q.drain ≡ None) × SpellsNumber text n × (n < 2 ^ 32) × (p ≡ record q { drain = Some n }))
      → IfSome r (λ p. Say words (said_by p))) [
        | None ↦ λ _. tt
        | Some p ↦ λ (q, n, there, none, number, small, made).
            subst (λ (ws : List Text). Say ws (said_by p)) (sym is)
            (subst (λ (x : Found). Say (codes "--drain" ∷ text ∷ rest) (said_by x)) (sym made) (drain text n rest (said_by q) (found_said rest parts q there said) none number small))
      ] more

  pub outcomes_said : (text : Text) → words ≡ codes "--outcomes" ∷ text ∷ rest
      → IfSome result (λ p. (q : Found) × (n : ℕ) × (parts ≡ Some q) × (q.outcomes ≡ None) × SpellsNumber text n × (n < 2 ^ 32) × (p ≡ record q { outcomes = Some n }))
      → IfSome result (λ p. Say words (said_by p))
  outcomes_said text is more = elim result as (λ (r : Option Found). IfSome r (λ p. (q : Found) × (n : ℕ) × (parts ≡ Some q) × (q.outcomes ≡ None) × SpellsNumber text n × (n < 2 ^ 32) × (p ≡ record q { outcomes = Some n }))
      → IfSome r (λ p. Say words (said_by p))) [
        | None ↦ λ _. tt
        | Some p ↦ λ (q, n, there, none, number, small, made).
            subst (λ (ws : List Text). Say ws (said_by p)) (sym is)
            (subst (λ (x : Found). Say (codes "--outcomes" ∷ text ∷ rest) (said_by x)) (sym made) (outcomes text n rest (said_by q) (found_said rest parts q there said) none number small))
      ] more

  -- with the path of the store, by what says it
  path_said : (path : Bor Text) → ((q : ServeParts) → Say rest q → q.database ≡ None → Say words (record q { database = Some path.now }))
      → IfSome result (λ p. (q : Found) × (parts ≡ Some q) × (q.database ≡ None) × (p ≡ record q { database = Some path }))
      → IfSome result (λ p. Say words (said_by p))
  path_said path says more = elim result as (λ (r : Option Found). IfSome r (λ p. (q : Found) × (parts ≡ Some q) × (q.database ≡ None) × (p ≡ record q { database = Some path }))
      → IfSome r (λ p. Say words (said_by p))) [
        | None ↦ λ _. tt
        | Some p ↦ λ (q, there, none, made).
            subst (λ (x : Found). Say words (said_by x)) (sym made) (says (said_by q) (found_said rest parts q there said) (ap (option_map (λ (b : Bor Text). b.now)) none))
      ] more

  pub dashes_said : (path : Bor Text) → words ≡ codes "--" ∷ path.now ∷ rest
      → IfSome result (λ p. (q : Found) × (parts ≡ Some q) × (q.database ≡ None) × (p ≡ record q { database = Some path }))
      → IfSome result (λ p. Say words (said_by p))
  dashes_said path is = path_said path (λ q before none. subst (λ (ws : List Text). Say ws (record q { database = Some path.now })) (sym is) (dashes path.now rest q before none))

  pub database_said : (path : Bor Text) → words ≡ path.now ∷ rest → IsPlain path.now
      → IfSome result (λ p. (q : Found) × (parts ≡ Some q) × (q.database ≡ None) × (p ≡ record q { database = Some path }))
      → IfSome result (λ p. Say words (said_by p))
  database_said path is plain = path_said path (λ q before none. subst (λ (ws : List Text). Say ws (record q { database = Some path.now })) (sym is) (database path.now rest q before none plain))

  -- ---- what isn't read says nothing

  -- where what is left says nothing that goes with the first word
  none_more : (Goes : ServeParts → Type 0) → ((p : ServeParts) → Say words p → (q : ServeParts) × Say rest q × Goes q)
      → IfSome parts (λ q. ¬ (Goes (said_by q))) → (p : ServeParts) → ¬ (Say words p)
  none_more Goes says never p all =
      let first = says p all in
      elim parts as (λ (o : Option Found). IfSome o (λ q. Say rest (said_by q)) → IfNone o ((q : ServeParts) → ¬ (Say rest q)) → IfSome o (λ q. ¬ (Goes (said_by q))) → ⊥) [
        | None ↦ λ _ none _. none first.0 first.1
        | Some q ↦ λ before _ not. not (subst Goes (one_said rest (said_by q) first.0 before first.1) first.2)
      ] said other never

  -- where there is no result, one of the helpers said why
  by_none : (why : Type 0) → IfNone result why → (why → (p : ServeParts) → ¬ (Say words p)) → IfNone result ((p : ServeParts) → ¬ (Say words p))
  by_none why is then = elim result as (λ (r : Option Found). IfNone r why → IfNone r ((p : ServeParts) → ¬ (Say words p))) [ None ↦ λ w. then w | Some p ↦ λ _. tt ] is

  pub fast_other : words ≡ codes "--fast" ∷ rest → IfNone result (IfSome parts (λ q. q.fast ≡ true)) → IfNone result ((p : ServeParts) → ¬ (Say words p))
  fast_other is why = by_none _ why (λ w. none_more (λ q. q.fast ≡ false)
      (λ p all. let s = fast_says words rest p all is in (s.0, s.1, s.2))
      (elim parts as (λ (o : Option Found). IfSome o (λ q. q.fast ≡ true) → IfSome o (λ q. ¬ (q.fast ≡ false))) [ None ↦ λ _. tt | Some q ↦ λ yes not. cc ] w))

  pub drain_other : (text : Text) → words ≡ codes "--drain" ∷ text ∷ rest → IfNone result (IfSome parts (λ q. q.drain ≡ None → (n : ℕ) → n < 2 ^ 32 → ¬ (SpellsNumber text n)))
      → IfNone result ((p : ServeParts) → ¬ (Say words p))
  drain_other text is why = by_none _ why (λ w. none_more (λ q. (q.drain ≡ None) × (n : ℕ) × SpellsNumber text n × (n < 2 ^ 32))
      (λ p all. let s = drain_says words rest text p all is in (s.0, s.2, (s.3, s.1, s.4, s.5)))
      (elim parts as (λ (o : Option Found). IfSome o (λ q. q.drain ≡ None → (n : ℕ) → n < 2 ^ 32 → ¬ (SpellsNumber text n)) → IfSome o (λ q. ¬ ((q.drain ≡ None) × (n : ℕ) × SpellsNumber text n × (n < 2 ^ 32)))) [
        | None ↦ λ _. tt
        | Some q ↦ λ no goes. no goes.0 goes.1 goes.3 goes.2
      ] w))

  pub outcomes_other : (text : Text) → words ≡ codes "--outcomes" ∷ text ∷ rest → IfNone result (IfSome parts (λ q. q.outcomes ≡ None → (n : ℕ) → n < 2 ^ 32 → ¬ (SpellsNumber text n)))
      → IfNone result ((p : ServeParts) → ¬ (Say words p))
  outcomes_other text is why = by_none _ why (λ w. none_more (λ q. (q.outcomes ≡ None) × (n : ℕ) × SpellsNumber text n × (n < 2 ^ 32))
      (λ p all. let s = outcomes_says words rest text p all is in (s.0, s.2, (s.3, s.1, s.4, s.5)))
      (elim parts as (λ (o : Option Found). IfSome o (λ q. q.outcomes ≡ None → (n : ℕ) → n < 2 ^ 32 → ¬ (SpellsNumber text n)) → IfSome o (λ q. ¬ ((q.outcomes ≡ None) × (n : ℕ) × SpellsNumber text n × (n < 2 ^ 32)))) [
        | None ↦ λ _. tt
        | Some q ↦ λ no goes. no goes.0 goes.1 goes.3 goes.2
      ] w))

  -- a text isn't there twice
  some_text : (o : Option (Bor Text)) → IsSome o → option_map (λ (b : Bor Text). b.now) o ≡ None → ⊥
  some_text None some none = absurd cc
  some_text (Some b) some none = absurd cc

  pub archive_other : (folder : Text) → words ≡ codes "--archive" ∷ folder ∷ rest → IfNone result (IfSome parts (λ q. IsSome q.archive)) → IfNone result ((p : ServeParts) → ¬ (Say words p))
  archive_other folder is why = by_none _ why (λ w. none_more (λ q. q.archive ≡ None)
      (λ p all. let s = archive_says words rest folder p all is in (s.0, s.1, s.2))
      (elim parts as (λ (o : Option Found). IfSome o (λ q. IsSome q.archive) → IfSome o (λ q. ¬ ((said_by q).archive ≡ None))) [ None ↦ λ _. tt | Some q ↦ some_text q.archive ] w))

  -- two stores aren't served
  path_other : ((p : ServeParts) → Say words p → (q : ServeParts) × Say rest q × (q.database ≡ None)) → IfNone result (IfSome parts (λ q. IsSome q.database))
      → IfNone result ((p : ServeParts) → ¬ (Say words p))
  path_other says why = by_none _ why (λ w. none_more (λ q. q.database ≡ None) says
      (elim parts as (λ (o : Option Found). IfSome o (λ q. IsSome q.database) → IfSome o (λ q. ¬ ((said_by q).database ≡ None))) [
        | None ↦ λ _. tt
        | Some q ↦ some_text q.database
      ] w))

  pub dashes_other : (path : Text) → words ≡ codes "--" ∷ path ∷ rest → IfNone result (IfSome parts (λ q. IsSome q.database)) → IfNone result ((p : ServeParts) → ¬ (Say words p))
  dashes_other path is = path_other (λ p all. let s = dashes_say words rest path p all is in (s.0, s.1, s.2))

  pub database_other : (path : Text) → words ≡ path ∷ rest → IsPlain path → IfNone result (IfSome parts (λ q. IsSome q.database)) → IfNone result ((p : ServeParts) → ¬ (Say words p))
  database_other path is plain = path_other (λ p all. let s = database_says words rest path p all is plain in (s.0, s.1, s.2))

-- ---- the whole

-- parts with the path of the store say how it is to be served
pub whole_parts : (path : Bor Text) (parts : Found) (fast_too : Bool) (folder : Option (Bor Text)) (seconds least : ℕ)
    → folder ≡ parts.archive → parts.database ≡ Some path → fast_too ≡ parts.fast → seconds ≡ unwrap_or parts.drain 5 → least ≡ unwrap_or parts.outcomes 1000000
    → AreWhole (said_by parts) (record { database = path.now; fast = fast_too; archive = option_map (λ (b : Bor Text). b.now) folder; drain = seconds; outcomes = least })
whole_parts path parts fast_too folder seconds least archived there same many stay = record {
  database = ap (option_map (λ (b : Bor Text). b.now)) there;
  fast = sym same;
  archive = ap (option_map (λ (b : Bor Text). b.now)) (sym archived);
  drain = many;
  outcomes = stay;
}

-- where the words say them
pub say_serve : (words : List Text) (found : Option Found) (q : Found) (task : Task) (of : Option Task) → found ≡ Some q → of ≡ Some task → IfSome found (λ p. Say words (said_by p))
    → IfSome of (λ t. (s : Serve) × (asked_of t ≡ asked.serve s) × AreWhole (said_by q) s) → (s : Serve) × (asked_of task ≡ asked.serve s) × SayServe words s
say_serve words found q task None is there said whole = absurd cc
say_serve words found q task (Some t) is there said whole =
    let same : t ≡ task = cc in
    (whole.0, ap asked_of (sym same) ∙ whole.1, record { parts = said_by q; say = found_said words found q is said; whole = whole.2 })

-- words that say no parts say no such thing
pub none_serve : (words : List Text) → ((p : ServeParts) → ¬ (Say words p)) → (s : Serve) → ¬ (SayServe words s)
none_serve words none s says = none says.parts says.say

-- nor do those that name no store
pub no_path : (words : List Text) (found : Option Found) (q : Found) (of : Option Task) → found ≡ Some q → of ≡ None → IfNone of (q.database ≡ None) → IfSome found (λ p. Say words (said_by p)) → (s : Serve) → ¬ (SayServe words s)
no_path words found q (Some t) is no_task_of nothing_there said s says = absurd cc
no_path words found q None is no_task_of none said s says =
    let same = one_said words (said_by q) says.parts (found_said words found q is said) says.say in
    let path : None ≡ Some s.database = sym (ap (option_map (λ (b : Bor Text). b.now)) none) ∙ sym (ap (λ (p : ServeParts). p.database) same) ∙ says.whole.database in
    absurd cc

-- a letter of the first word
abbrev letter : ℕ → List Text → ℕ
letter k [] = 0
letter k (word ∷ rest) = slice_index word k

-- where the words are no other task's, they are none's
pub no_task : (words rest : List Text) → words ≡ codes "serve" ∷ rest → ((s : Serve) → ¬ (SayServe rest s)) → AreNoTask words
no_task words rest is none (asked.order o) plain for = named o (sym for ∙ is)
  where
    named : (o : Order) → order_words o ≡ codes "serve" ∷ rest → ⊥
    named (asked.check kind path) same = omega (arith, ap (letter 0) same)
    named (asked.explain kind path pair) same = omega (arith, ap (letter 0) same)
    named (asked.make family size items) same = omega (arith, ap (letter 0) same)
    named (asked.tables path) same = omega (arith, ap (letter 0) same)
    named (asked.run script types) same = omega (arith, ap (letter 0) same)
    named (asked.create path objects types) same = omega (arith, ap (letter 0) same)
    named (asked.extend path objects types) same = omega (arith, ap (letter 0) same)
    named (asked.history path) same = omega (arith, ap (letter 0) same)
    named (asked.prepared path) same = omega (arith, ap (letter 0) same)
    named (asked.outcome path key) same = omega (arith, ap (letter 0) same)
no_task words rest is none (asked.audit a) plain for = omega (arith, ap (letter 0) (sym for.1 ∙ is))
no_task words rest is none (asked.work w) plain for = named w.seed (sym for.1 ∙ is)
  where
    named : (seed : Option ℕ) → work_name seed ∷ line_words for.0 ≡ codes "serve" ∷ rest → ⊥
    named None same = omega (arith, ap (letter 0) same)
    named (Some s) same = omega (arith, ap (letter 1) same)
no_task words rest is none (asked.serve s) plain for =
    none s (subst (λ (ws : List Text). SayServe ws s) (ap tail (sym for.1 ∙ is)) for.2)
no_task words rest is none (asked.audit_database path) plain for = omega (arith, ap (letter 0) (sym for ∙ is))
no_task words rest is none (asked.audit_ordered a) plain for = omega (arith, ap (letter 0) (sym for.are ∙ is))
no_task words rest is none (asked.help t) plain for = helps t (sym for ∙ is)
  where
    helps : (t : Topic) → help_words t ≡ codes "serve" ∷ rest → ⊥
    helps topic.Program same = omega (arith, ap (letter 0) same)
    helps topic.Check same = omega (arith, ap (letter 0) same)
    helps topic.Explain same = omega (arith, ap (letter 0) same)
    helps topic.Make same = omega (arith, ap (letter 0) same)
    helps topic.Tables same = omega (arith, ap (letter 0) same)
    helps topic.Run same = omega (arith, ap (letter 0) same)
    helps topic.Audit same = omega (arith, ap (letter 0) same)
    helps topic.Work same = omega (arith, ap (letter 0) same)
    helps topic.Stress same = omega (arith, ap (letter 0) same)
    helps topic.Create same = omega (arith, ap (letter 0) same)
    helps topic.Extend same = omega (arith, ap (letter 0) same)
    helps topic.Serve same = omega (arith, ap (letter 0) same)
    helps topic.History same = omega (arith, ap (letter 0) same)
    helps topic.Prepared same = omega (arith, ap (letter 0) same)
    helps topic.Outcome same = omega (arith, ap (letter 0) same)
    helps topic.Help same = omega (arith, ap (letter 0) same)
    helps topic.Faults same = omega (arith, ap (letter 0) same)
no_task words rest is none asked.version plain for = ⊎_elim (λ long. omega (arith, ap (letter 0) (sym long ∙ is))) (λ short. omega (arith, ap (letter 0) (sym short ∙ is))) for

-- and where memory wasn't refused
pub refused : {T : Type 0} (r : Result T WordFault) (words rest : List Text) → words ≡ codes "serve" ∷ rest → IfErr r (λ fault. OnUsage fault ((s : Serve) → ¬ (SayServe rest s)))
    → IfErr r (λ fault. OnUsage fault (AreNoTask words))
refused (Ok t) words rest is none = tt
refused (Err NoMemory) words rest is none = tt
refused (Err (Usage text)) words rest is none = no_task words rest is none

pub on_usage : (fault : WordFault) (P : Type 0) → P → OnUsage fault P
on_usage NoMemory P p = tt
on_usage (Usage text) P p = p
