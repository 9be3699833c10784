-- What was read of a text says the size by which it was read.
use Rattle.std.proofs.Common.{◌≡◌, ℕ, suc, ◌+◌, ◌<◌, ◌≤◌, Bool, true, false, ◌&&◌, cond, eqb, leb, List, [], ◌∷◌, length, take, Option, Some, None, Ok, refl, sym, ap, ◌∙◌, arith}
use Rattle.std.specs.Prelude.{codes, slice_get}
use Rattle.std.specs.Option.{option_to_list}
use Rattle.std.proofs.lemmas.Bool.{ne_eqb}
use Rattle.std.proofs.lemmas.Option.{slice_get_within}
use Rattle.std.proofs.lemmas.List.Sums.{sum_by-cons}
use Rattle.decimals.specs.Decimals.{number_of}
use Rattle.line_text.specs.Accepted.{AreInOrder}
use Rattle.line_text.specs.LineTests.{line_fault, words_fault, parsed_fault, form_fault}
use Rattle.line_text.specs.Outcome.{ArePassed, IsValue, refusal_at}
use Rattle.line_text.specs.Rules.{Rules, count_at, item_in, items_of}
use Rattle.line_text.specs.Shapes.{exactly, number_at, is_key}
use Rattle.line_text.specs.Text.{TextLine, content_of, lines_of}
use Rattle.line_text.proofs.Accepting.{second_none}
use Rattle.store_text.specs.Body.{Body, store_rules, rules_for, line_of, size_of_words, no_section, rank_of}
use Rattle.store_text.specs.Said.{said_sizes}
use Rattle.store_text.specs.Size.{first_words, size_in, text_size, size_said, size_or_most}
use Rattle.store_text.specs.declared.line.Line.{Line}
use Rattle.store_text.specs.declared.line.Line.TheVariants.{Objects, Max, Object, Entry, End}

-- ---- the first line that has words, where each line passes

module _ {Item : Type 0} (g : Rules Item) where
  -- each line passes after those before it
  abbrev pub AllPass : List TextLine → Type 0
  AllPass lines = (k : ℕ) (l : TextLine) → slice_get lines k ≡ Some l → line_fault g (items_of g (take k lines)) l ≡ None

  -- a line without words says nothing
  says_nothing : (l : TextLine) (lines : List TextLine) → content_of l.bytes ≡ [] → items_of g (l ∷ lines) ≡ items_of g lines
  says_nothing l lines none = rw none refl

  -- so the first words pass after nothing
  pub first_pass : (lines : List TextLine) → AllPass lines → 0 < length (first_words lines) → words_fault g [] (first_words lines) ≡ None
  unfolding line_fault
  first_pass [] pass some = absurd (omega (arith, some))
  first_pass (l ∷ lines) pass some = go (content_of l.bytes) refl (first_pass lines)
    where
      here : words_fault g [] (content_of l.bytes) ≡ None
      here = (second_none (form_fault l) (words_fault g [] (content_of l.bytes)) (pass 0 l refl)).1

      go : (words : List (List ℕ)) → content_of l.bytes ≡ words → (AllPass lines → 0 < length (first_words lines) → words_fault g [] (first_words lines) ≡ None)
          → words_fault g [] (first_words (l ∷ lines)) ≡ None
      go [] e later =
          let skipped : first_words (l ∷ lines) ≡ first_words lines = rw e refl in
          let behind : AllPass lines = λ k x at. ap (λ before. line_fault g before x) (sym (says_nothing l (take k lines) e)) ∙ pass (suc k) x at in
          rw skipped (later behind (rw skipped at some))
      go (w ∷ words) e later =
          let its : first_words (l ∷ lines) ≡ w ∷ words = rw e refl in
          rw its (rw e at here)

  -- and the first item is theirs
  pub first_item : (lines : List TextLine) (x : Item) → item_in g (first_words lines) ≡ Some x → (rest : List Item) × (items_of g lines ≡ x ∷ rest)
  first_item [] x is = absurd cc
  first_item (l ∷ lines) x is = go (content_of l.bytes) refl (first_item lines x)
    where
      go : (words : List (List ℕ)) → content_of l.bytes ≡ words → (item_in g (first_words lines) ≡ Some x → (rest : List Item) × (items_of g lines ≡ x ∷ rest)) → (rest : List Item) × (items_of g (l ∷ lines) ≡ x ∷ rest)
      go [] e later =
          let skipped : first_words (l ∷ lines) ≡ first_words lines = rw e refl in
          let more = later (rw skipped at is) in
          (more.0, says_nothing l lines e ∙ more.1)
      go (w ∷ words) e later =
          let its : item_in g (content_of l.bytes) ≡ Some x = ap (item_in g) (e ∙ sym (rw e refl)) ∙ is in
          (items_of g lines, rw its refl)

-- lines that were passed at their places
pub all_pass : {Item : Type 0} (g : Rules Item) (lines : List TextLine) → ArePassed g lines (length lines) → AllPass g lines
all_pass g lines passed k l at =
    let here : refusal_at g lines k ≡ line_fault g (items_of g (take k lines)) l = rw at refl in
    sym here ∙ passed k (slice_get_within lines k l at)

-- ---- an `objects` line

module _ {A : Type 0} (b : Body A) (s : ℕ) where
  -- what is read of a line by its keyword
  by_key : (words : List (List ℕ)) → is_key words (codes "objects") ≡ true → line_of b (Some s) words ≡ size_of_words words
  unfolding line_of
  by_key words is = rw is refl

  -- where it passes, its words say a number
  pub says_size : (words : List (List ℕ)) → 0 < length words → is_key words (codes "objects") ≡ true → words_fault (store_rules b (Some s)) [] words ≡ None
      → (n : ℕ) × (line_of b (Some s) words ≡ Ok (Objects n)) × (size_said words ≡ size_or_most (Some n))
  unfolding words_fault size_of_words exactly number_at
  says_size [] some is pass = absurd (omega (arith, some))
  says_size (key ∷ []) some is pass =
      let fault : parsed_fault (store_rules b (Some s)) [] (size_of_words (key ∷ [])) ≡ None = ap (parsed_fault (store_rules b (Some s)) []) (sym (by_key (key ∷ []) is)) ∙ pass in
      absurd cc
  says_size (key ∷ number ∷ []) some is pass = go (number_of number) refl
    where
      fault : parsed_fault (store_rules b (Some s)) [] (size_of_words (key ∷ number ∷ [])) ≡ None
      fault = ap (parsed_fault (store_rules b (Some s)) []) (sym (by_key (key ∷ number ∷ []) is)) ∙ pass

      go : (o : Option ℕ) → number_of number ≡ o → (n : ℕ) × (line_of b (Some s) (key ∷ number ∷ []) ≡ Ok (Objects n)) × (size_said (key ∷ number ∷ []) ≡ size_or_most (Some n))
      go None e = absurd (let bad = rw e at fault in cc)
      go (Some n) e = (n, by_key (key ∷ number ∷ []) is ∙ rw e refl, ap size_or_most e)
  says_size (key ∷ number ∷ w ∷ words) some is pass =
      let more : eqb (length (key ∷ number ∷ w ∷ words)) 2 ≡ false = ne_eqb (length (key ∷ number ∷ w ∷ words)) 2 (λ e. omega (arith, e)) in
      let there : eqb (length (key ∷ number ∷ w ∷ words)) 0 ≡ false = ne_eqb (length (key ∷ number ∷ w ∷ words)) 0 (λ e. omega (arith, e)) in
      let parsed : parsed_fault (store_rules b (Some s)) [] (line_of b (Some s) (key ∷ number ∷ w ∷ words)) ≡ None = rw there at pass in
      let fault : parsed_fault (store_rules b (Some s)) [] (size_of_words (key ∷ number ∷ w ∷ words)) ≡ None = ap (parsed_fault (store_rules b (Some s)) []) (sym (by_key (key ∷ number ∷ w ∷ words) is)) ∙ parsed in
      absurd (let bad = rw more at fault in cc)

-- ---- the size

-- an `objects` line counts as one
size_count : {A : Type 0} (b : Body A) (says : Option ℕ) (lines : List (Line A)) → count_at (store_rules b says) lines 0 ≡ length (said_sizes lines)
size_count b says [] = refl
size_count b says (Objects n ∷ lines) =
    let one : count_at (store_rules b says) (Objects n ∷ lines) 0 ≡ 1 + count_at (store_rules b says) lines 0 = sum_by-cons (λ x. cond (eqb (rank_of x) 0) 1 0) (Objects n) lines in
    omega (arith, one, size_count b says lines)
size_count b says (Max most ∷ lines) = size_count b says lines
size_count b says (Object kind file name ∷ lines) = size_count b says lines
size_count b says (Entry x ∷ lines) = size_count b says lines
size_count b says (End ∷ lines) = size_count b says lines

-- the words of a line that says a size
words_of_size : (words : List (List ℕ)) (s : ℕ) → size_in words ≡ Some s → (is_key words (codes "objects") ≡ true) × (size_said words ≡ s)
words_of_size words s is = go (is_key words (codes "objects")) is
  where
    go : (key : Bool) → cond key (Some (size_said words)) None ≡ Some s → (key ≡ true) × (size_said words ≡ s)
    go true e = (refl, cc)
    go false e = absurd cc

some_words : (words : List (List ℕ)) → is_key words (codes "objects") ≡ true → 0 < length words
unfolding is_key
some_words [] is = absurd cc
some_words (w ∷ words) is = omega arith

-- a list of one number at most that has none, and that begins with one
none_said : (size : Option ℕ) → length (option_to_list size) ≤ 0 → size ≡ None
none_said None few = refl
none_said (Some n) few = absurd (omega (arith, few))

one_said : (size : Option ℕ) (n : ℕ) (rest : List ℕ) → n ∷ rest ≡ option_to_list size → size ≡ Some n
one_said None n rest is = absurd cc
one_said (Some m) n rest is = cc

-- what is read of the first line is in range, so it is what is said
itself : {A : Type 0} (b : Body A) (s n said : ℕ) (lines items rest : List (Line A)) → AreInOrder (store_rules b (Some s)) lines → lines ≡ items → items ≡ Objects n ∷ rest → said ≡ size_or_most (Some n) → said ≡ s → lines ≡ Objects s ∷ rest
itself {A} b s n said lines items rest order same begins told its =
    let lines_are : lines ≡ Objects n ∷ rest = same ∙ begins in
    let at : slice_get lines 0 ≡ Some (Objects n) = ap (λ (ls : List (Line A)). slice_get ls 0) lines_are in
    let fits : (leb 1 n && leb n 65536) ≡ true = (order.passed 0 (Objects n) at).in_range in
    let own : size_or_most (Some n) ≡ n = rw fits refl in
    let is : n ≡ s = sym (told ∙ own) ∙ its in
    lines_are ∙ ap (λ (m : ℕ). Objects m ∷ rest) is

-- where the first words are of an `objects` line, what the text says is in its first item
first_says : {A : Type 0} (b : Body A) (text : List ℕ) (lines : List (Line A)) (s : ℕ) → size_in (first_words (lines_of text)) ≡ Some s → IsValue (store_rules b (Some s)) (lines_of text) lines
    → AreInOrder (store_rules b (Some s)) lines → (rest : List (Line A)) × (lines ≡ Objects s ∷ rest)
first_says b text lines s e value order =
    let g = store_rules b (Some s) in
    let words = first_words (lines_of text) in
    let its = words_of_size words s e in
    let some = some_words words its.0 in
    let told = says_size b s words some its.0 (first_pass g (lines_of text) (all_pass g (lines_of text) value.passed) some) in
    let there : eqb (length words) 0 ≡ false = ne_eqb (length words) 0 (λ none. omega (arith, some, none)) in
    let item : item_in g words ≡ Some (Objects told.0) = rw (there, told.1) refl in
    let first = first_item g (lines_of text) (Objects told.0) item in
    (first.0, itself b s told.0 (size_said words) lines (items_of g (lines_of text)) first.0 order value.value first.1 told.2 its.1)

-- what the lines of a text say of its size is what it was read by
pub size_is : {A : Type 0} (b : Body A) (text : List ℕ) (lines : List (Line A)) (size : Option ℕ) → IsValue (rules_for b text) (lines_of text) lines → AreInOrder (rules_for b text) lines → said_sizes lines ≡ option_to_list size
    → size ≡ text_size text
size_is b text lines size value order said = go (text_size text) refl value order
  where
    go : (says : Option ℕ) → size_in (first_words (lines_of text)) ≡ says → IsValue (store_rules b says) (lines_of text) lines → AreInOrder (store_rules b says) lines → size ≡ says
    go None e value order = none_said size (omega (arith, order.limits 0 0 no_section refl refl, size_count b None lines, ap length said))
    go (Some s) e value order =
        let first = first_says b text lines s e value order in
        one_said size s (said_sizes first.0) (sym (ap said_sizes first.1) ∙ said)
