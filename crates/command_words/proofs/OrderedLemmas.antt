-- What the words of an audit in an order say.
use Rattle.std.proofs.Common.{◌≡◌, ◌≢◌, ◌∙◌, ⊎_elim, ◌-◌, ◌+◌, ◌≤◌, ap, arith, refl, subst, sym, append_assoc, ℕ, zero, suc, List, [], ◌∷◌, ◌++◌, length, take, drop, get_or, slice_get, option_map, Bor}
use Rattle.std.proofs.Math.Seq.{take-length}
use Rattle.std.proofs.lemmas.List.{length-map, take_all}
use Rattle.std.proofs.lemmas.List.Elements.{All-head, All-push, All-tail}
use Rattle.std.proofs.lemmas.Option.{slice_get-get_or, slice_get-map}
use Rattle.type_table.proofs.Elements.{take-found}
use Rattle.std.specs.Prelude.{All, Err, IfErr, IfNone, IfOk, None, Ok, Option, Result, Some, codes, slice_index, ◌==◌, ◌<◌}
use Rattle.std.specs.List.{after_first, before_first}
use Rattle.clap.specs.Walk.{texts}
use Rattle.command_words.specs.Lines.{IsClear, IsPlain, Line, Setting, apart, dashes, done, following, joined, line_words, operand, seed, setting_name, tries, work_name, workers}
use Rattle.command_words.specs.Ordered.{AreOrderedWords, HasComma, Ordered, SpellsNumbers, SpellsOrder, SpellsTransaction, one, more}
use Rattle.command_words.specs.Words.{AreNoTask, OnUsage, Order, Text, help_words, order_words}
use Rattle.command_words.specs.Words as asked
use Rattle.command_words.specs.declared.task.Topic.{Topic}
use Rattle.command_words.specs.declared.task.Topic.TheVariants as topic
use Rattle.command_words.specs.declared.task.WordFault.{WordFault}
use Rattle.command_words.specs.declared.task.WordFault.TheVariants.{Usage, NoMemory}

-- ---- numbers

-- a text with a comma has a number before it
pub with_comma : (text : Text) (ns : List ℕ) → SpellsNumbers text ns → HasComma text
    → (n : ℕ) × (ms : List ℕ) × (ns ≡ n ∷ ms) × SpellsTransaction (before_first (λ b. b == 44) text) n × SpellsNumbers (after_first (λ b. b == 44) text) ms
with_comma _ _ (one text n none is) comma = absurd (none comma)
with_comma _ _ (more text n ms has is rest) comma = (n, ms, refl, is, rest)

-- one without is one number
pub without_comma : (text : Text) (ns : List ℕ) → SpellsNumbers text ns → ¬ (HasComma text) → (n : ℕ) × (ns ≡ n ∷ []) × SpellsTransaction text n
without_comma _ _ (one text n none is) no_comma = (n, refl, is)
without_comma _ _ (more text n ms has is rest) no_comma = absurd (no_comma has)

-- the number of a word is one
same_number : (word : Text) (n m : ℕ) → SpellsTransaction word n → SpellsTransaction word m → n ≡ m
same_number word n m first other = let same : Some n ≡ Some m = sym first.0 ∙ other.0 in cc

-- some numbers of a text were read, and these are left
pub record AreLeft (text rest : Text) (so_far : List ℕ) : Type 0 where
  pub sound : (ms : List ℕ) → SpellsNumbers rest ms → SpellsNumbers text (so_far ++ ms)
  pub complete : (ns : List ℕ) → SpellsNumbers text ns → (ms : List ℕ) × (ns ≡ so_far ++ ms) × SpellsNumbers rest ms

pub all_left : (text : Text) → AreLeft text text []
all_left text = record { sound = λ ms are. are; complete = λ ns are. (ns, refl, are) }

module _ (text rest : Text) (so_far : List ℕ) (known : AreLeft text rest so_far) where
  -- one more was read
  pub one_less : (first behind : Text) (n : ℕ) → HasComma rest → first ≡ before_first (λ b. b == 44) rest → behind ≡ after_first (λ b. b == 44) rest → SpellsTransaction first n
      → AreLeft text behind (so_far ++ n ∷ [])
  one_less first behind n comma is_first is_behind is =
      let number : SpellsTransaction (before_first (λ b. b == 44) rest) n = subst (λ (t : Text). SpellsTransaction t n) is_first is in
      record {
        sound = λ ms are.
            subst (SpellsNumbers text) (sym (append_assoc so_far (n ∷ []) ms))
            (known.sound (n ∷ ms) (more rest n ms comma number (subst (λ (t : Text). SpellsNumbers t ms) is_behind are)));
        complete = λ ns are.
            let (ms, whole, left) = known.complete ns are in
            let (m, others, front, other, behind_are) = with_comma rest ms left comma in
            let same : m ≡ n = same_number (before_first (λ b. b == 44) rest) m n other number in (
              others,
              whole ∙ ap (λ l. so_far ++ l) (front ∙ ap (λ x. x ∷ others) same) ∙ sym (append_assoc so_far (n ∷ []) others),
              subst (λ (t : Text). SpellsNumbers t others) (sym is_behind) behind_are,
            );
      }

  -- what is before the comma is no number
  pub none_read : (first : Text) → HasComma rest → first ≡ before_first (λ b. b == 44) rest → ((n : ℕ) → ¬ (SpellsTransaction first n)) → (ns : List ℕ) → ¬ (SpellsNumbers text ns)
  none_read first comma is_first none ns are =
      let (ms, whole, left) = known.complete ns are in
      let (m, others, front, other, behind_are) = with_comma rest ms left comma in
      none m (subst (λ (t : Text). SpellsTransaction t m) (sym is_first) other)

  -- the last number
  pub all_read : (n : ℕ) → ¬ (HasComma rest) → SpellsTransaction rest n → SpellsNumbers text (so_far ++ n ∷ [])
  all_read n no_comma is = known.sound (n ∷ []) (one rest n no_comma is)

  -- what is left is none
  pub none_left : ¬ (HasComma rest) → ((n : ℕ) → ¬ (SpellsTransaction rest n)) → (ns : List ℕ) → ¬ (SpellsNumbers text ns)
  none_left no_comma none ns are =
      let (ms, whole, left) = known.complete ns are in
      let (m, front, other) = without_comma rest ms left no_comma in
      none m other

-- a list with a word has no numbers where its words have none
pub no_order : (list : Text) → list ≢ [] → ((ns : List ℕ) → ¬ (SpellsNumbers list ns)) → (ns : List ℕ) → ¬ (SpellsOrder list ns)
no_order list some none ns is = ⊎_elim (λ (empty : (list ≡ []) × (ns ≡ [])). some empty.0) (λ numbers. none ns numbers) is

-- ---- plain words

-- the word at a place, of words that are plain
pub plain_at : (words : List (Bor Text)) (i : ℕ) (d : Bor Text) → i < length words → All IsPlain (texts words) → IsPlain (get_or words i d).now
plain_at [] i d low all = absurd (omega (arith, low))
plain_at (w ∷ ws) zero d low all = All-head IsPlain w.now (texts ws) all
plain_at (w ∷ ws) (suc i) d low all = plain_at ws i d (omega (arith, low)) (All-tail IsPlain w.now (texts ws) all)

-- one more
pub plain_more : (words : List (Bor Text)) (i : ℕ) (d : Bor Text) → i < length words → All IsPlain (take i (texts words)) → IsPlain (get_or words i d).now → All IsPlain (take (i + 1) (texts words))
plain_more words i d low all own =
    let there : slice_get (texts words) i ≡ Some (get_or words i d).now = slice_get-map (λ (w : Bor Text). w.now) words i ∙ ap (option_map (λ (w : Bor Text). w.now)) (slice_get-get_or words i d low) in
    subst (All IsPlain) (sym (take-found (texts words) i (get_or words i d).now there)) (All-push IsPlain (take i (texts words)) (get_or words i d).now all own)

-- all
pub plain_all : (words : List (Bor Text)) (i : ℕ) → length words ≤ i → All IsPlain (take i (texts words)) → All IsPlain (texts words)
plain_all words i whole all =
    let many = length-map words (λ (w : Bor Text). w.now) in
    subst (All IsPlain) (take_all i (texts words) (omega (arith, whole, many))) all

-- ---- words

-- the words with the first two of them apart
pub behind_two : (words : List (Bor Text)) (d : Bor Text) → 2 ≤ length words
    → texts words ≡ (get_or words 0 d).now ∷ (get_or words 1 d).now ∷ texts (take (length words - 2) (drop 2 words))
behind_two [] d some = absurd (omega (arith, some))
behind_two (a ∷ []) d some = absurd (omega (arith, some))
behind_two (a ∷ b ∷ ws) d some =
    let count : length (a ∷ b ∷ ws) - 2 ≡ length ws = omega arith in
    ap (λ (rest : List (Bor Text)). a.now ∷ b.now ∷ texts rest) (sym (ap (λ (n : ℕ). take n ws) count ∙ take-length ws))

-- what those behind `audit --order` don't ask for
pub none_behind : {T E : Type 0} (found : Result (Option T) E) (words : List (Bor Text)) (d : Bor Text) → 2 ≤ length words
    → IfOk found (λ f. IfNone f ((a : Ordered)
    → ¬ (AreOrderedWords (codes "audit" ∷ codes "--order" ∷ (get_or words 0 d).now ∷ (get_or words 1 d).now ∷ texts (take (length words - 2) (drop 2 words))) a)))
    → IfOk found (λ f. IfNone f ((a : Ordered) → ¬ (AreOrderedWords (codes "audit" ∷ codes "--order" ∷ texts words) a)))
none_behind found words d some none =
    subst (λ (ws : List Text). IfOk found (λ f. IfNone f ((a : Ordered) → ¬ (AreOrderedWords (codes "audit" ∷ codes "--order" ∷ ws) a)))) (sym (behind_two words d some)) none

-- where these are `audit --order`
pub behind_order : (words : List (Bor Text)) (d : Bor Text) → 2 ≤ length words → (get_or words 0 d).now ≡ codes "audit" → (get_or words 1 d).now ≡ codes "--order"
    → texts words ≡ codes "audit" ∷ codes "--order" ∷ texts (take (length words - 2) (drop 2 words))
behind_order words d some first second =
    let rest = texts (take (length words - 2) (drop 2 words)) in
    behind_two words d some ∙ ap (λ (w : Text). w ∷ (get_or words 1 d).now ∷ rest) first ∙ ap (λ (w : Text). codes "audit" ∷ w ∷ rest) second

-- the words after the second
abbrev behind : List Text → List Text
behind [] = []
behind (word ∷ rest) = rest

abbrev first_of : List Text → Text
first_of [] = []
first_of (word ∷ rest) = word

module _ (list history : Text) (types : List Text) (a : Ordered) (are : AreOrderedWords (codes "audit" ∷ codes "--order" ∷ list ∷ history ∷ types) a) where
  -- what the words of a task say of each part
  pub list_is : SpellsOrder list a.order
  list_is = let same : are.list ≡ list = sym (ap (λ (ws : List Text). first_of (behind (behind ws))) are.are) in subst (λ (t : Text). SpellsOrder t a.order) same are.order

  pub history_is : IsPlain history
  history_is = let same : a.history ≡ history = sym (ap (λ (ws : List Text). first_of (behind (behind (behind ws)))) are.are) in subst IsPlain same are.plain.0

  types_are : a.types ≡ types
  types_are = sym (ap (λ (ws : List Text). behind (behind (behind (behind ws)))) are.are)

  pub plain_are : All IsPlain types
  plain_are = subst (All IsPlain) types_are are.plain.1

  pub some_are : 0 < length types
  some_are = subst (λ (ts : List Text). 0 < length ts) types_are are.some

-- ---- words that are none of an audit in an order

-- a letter of the first word
abbrev letter : ℕ → List Text → ℕ
letter k [] = 0
letter k (word ∷ rest) = slice_index word k

-- no option of a line has the name
not_apart : (setting : Setting) (rest others : List Text) → (codes "--" ++ setting_name setting) ∷ rest ≡ codes "--order" ∷ others → ⊥
not_apart workers rest others same = omega (arith, ap (letter 2) same)
not_apart tries rest others same = omega (arith, ap (letter 2) same)
not_apart seed rest others same = omega (arith, ap (letter 2) same)
not_apart following rest others same = omega (arith, ap (letter 2) same)

not_joined : (setting : Setting) (value : Text) (rest others : List Text) → (codes "--" ++ setting_name setting ++ codes "=" ++ value) ∷ rest ≡ codes "--order" ∷ others → ⊥
not_joined workers value rest others same = omega (arith, ap (letter 2) same)
not_joined tries value rest others same = omega (arith, ap (letter 2) same)
not_joined seed value rest others same = omega (arith, ap (letter 2) same)
not_joined following value rest others same = omega (arith, ap (letter 2) same)

-- no line of `audit` begins with `--order`
no_line : (line : Line) (others : List Text) → IsClear line → line_words line ≡ codes "--order" ∷ others → ⊥
no_line done others clear same = absurd cc
no_line (dashes operands) others clear same = omega (arith, ap (letter 2) same)
no_line (operand word rest) others clear same = clear.0 (ap (letter 0) same) (ap (letter 1) same)
no_line (apart setting value rest) others clear same = not_apart setting (value ∷ line_words rest) others same
no_line (joined setting value rest) others clear same = not_joined setting value (line_words rest) others same

-- where the words are none of such an audit, they are no task's
no_task : (words rest : List Text) → words ≡ codes "audit" ∷ codes "--order" ∷ rest → ((a : Ordered) → ¬ (AreOrderedWords (codes "audit" ∷ codes "--order" ∷ rest) a)) → AreNoTask words
no_task words rest is none (asked.order o) plain for = named o (sym for ∙ is)
  where
    named : (o : Order) → order_words o ≡ codes "audit" ∷ codes "--order" ∷ rest → ⊥
    named (asked.check kind path) same = omega (arith, ap (letter 0) same)
    named (asked.explain kind path pair) same = omega (arith, ap (letter 0) same)
    named (asked.make family size items) same = omega (arith, ap (letter 0) same)
    named (asked.tables path) same = omega (arith, ap (letter 0) same)
    named (asked.run script types) same = omega (arith, ap (letter 0) same)
    named (asked.create path objects types) same = omega (arith, ap (letter 0) same)
    named (asked.extend path objects types) same = omega (arith, ap (letter 0) same)
    named (asked.history path) same = omega (arith, ap (letter 0) same)
    named (asked.prepared path) same = omega (arith, ap (letter 0) same)
    named (asked.outcome path key) same = omega (arith, ap (letter 0) same)
no_task words rest is none (asked.audit a) plain for = no_line for.0 rest for.2.clear (ap behind (sym for.1 ∙ is))
no_task words rest is none (asked.work w) plain for = named w.seed (sym for.1 ∙ is)
  where
    named : (seed : Option ℕ) → work_name seed ∷ line_words for.0 ≡ codes "audit" ∷ codes "--order" ∷ rest → ⊥
    named None same = omega (arith, ap (letter 0) same)
    named (Some s) same = omega (arith, ap (letter 0) same)
no_task words rest is none (asked.serve s) plain for = omega (arith, ap (letter 0) (sym for.1 ∙ is))
no_task words rest is none (asked.audit_database path) plain for = omega (arith, ap (λ (ws : List Text). letter 2 (behind ws)) (sym for ∙ is))
no_task words rest is none (asked.audit_ordered a) plain for = none a (subst (λ (ws : List Text). AreOrderedWords ws a) is for)
no_task words rest is none (asked.help t) plain for = helps t (sym for ∙ is)
  where
    helps : (t : Topic) → help_words t ≡ codes "audit" ∷ codes "--order" ∷ rest → ⊥
    helps topic.Program same = omega (arith, ap (letter 0) same)
    helps topic.Check same = omega (arith, ap (letter 0) same)
    helps topic.Explain same = omega (arith, ap (letter 0) same)
    helps topic.Make same = omega (arith, ap (letter 0) same)
    helps topic.Tables same = omega (arith, ap (letter 0) same)
    helps topic.Run same = omega (arith, ap (letter 0) same)
    helps topic.Audit same = omega (arith, ap (letter 0) same)
    helps topic.Work same = omega (arith, ap (letter 0) same)
    helps topic.Stress same = omega (arith, ap (letter 0) same)
    helps topic.Create same = omega (arith, ap (letter 0) same)
    helps topic.Extend same = omega (arith, ap (letter 0) same)
    helps topic.Serve same = omega (arith, ap (letter 0) same)
    helps topic.History same = omega (arith, ap (letter 0) same)
    helps topic.Prepared same = omega (arith, ap (letter 0) same)
    helps topic.Outcome same = omega (arith, ap (letter 0) same)
    helps topic.Help same = omega (arith, ap (letter 0) same)
    helps topic.Faults same = omega (arith, ap (letter 0) same)
no_task words rest is none asked.version plain for = ⊎_elim (λ long. omega (arith, ap (letter 0) (sym long ∙ is))) (λ short. omega (arith, ap (letter 0) (sym short ∙ is))) for

-- and where memory wasn't refused
pub refused : {T : Type 0} (r : Result T WordFault) (words rest : List Text) → words ≡ codes "audit" ∷ codes "--order" ∷ rest
    → IfErr r (λ fault. OnUsage fault ((a : Ordered) → ¬ (AreOrderedWords (codes "audit" ∷ codes "--order" ∷ rest) a)))
    → IfErr r (λ fault. OnUsage fault (AreNoTask words))
refused (Ok t) words rest is none = tt
refused (Err NoMemory) words rest is none = tt
refused (Err (Usage text)) words rest is none = no_task words rest is none
