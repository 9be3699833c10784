-- Plain lines are cut into their words.
use Rattle.std.proofs.Common.{◌≡◌, ◌≢◌, ℕ, ◌+◌, ◌-◌, ◌<◌, ◌≤◌, Bool, true, false, not, cond, ◌&&◌, eqb, leb, ltb, List, [], ◌∷◌, ◌++◌, length, get_or, set, take, drop, Option, Some, None, Ok, refl, sym, ap, ◌∙◌, arith, append_assoc, add-one, drop-cons}
use Rattle.std.specs.List.{AllByRecursion, list_all, slice_get}
use Rattle.std.specs.Option.{option_to_list}
use Rattle.std.proofs.lemmas.Option.{same_Some}
use Rattle.std.proofs.Math.Bool.{or-true}
use Rattle.std.proofs.lemmas.Bool.{and_from, and_parts, ne_eqb, le-leb, le-ltb, ltb-false}
use Rattle.std.proofs.lemmas.List.{length-append, length-take-le, length-drop, take-append-drop}
use Rattle.type_table.proofs.Elements.{each-weaker}
use Rattle.decimals.specs.Decimals.{is_digit, number_value}
use Rattle.line_text.specs.LineTests.{is_text_byte, is_late, lacks, is_full, ascends, words_fault, line_fault}
use Rattle.line_text.specs.Plain.{IsPlainLine, IsNumberBefore, KeepsPlainly, TakesMore, plain_place}
use Rattle.line_text.specs.Rules.{Rules, count_at, was_read, end_rank, last_item, item_in}
use Rattle.line_text.specs.Spelling.{spaced, IsWord}
use Rattle.line_text.specs.Steps.{ended, place_of, place_in, IsCut, IsKnown, Reads}
use Rattle.line_text.specs.Accepted.{HasPassed}
use Rattle.line_text.specs.declared.read_so_far.Place.{Place}
use Rattle.line_text.proofs.Order.{count_from_at}
use Rattle.decimals.proofs.Digits.{digit_range, number_of-digits}
use Rattle.line_text.proofs.Spelled.{InWord, all_pass, InLine, content_again, spaced_bytes, first_line}
use Rattle.line_text.proofs.Counts.{count_at_push, IsCounted-push}
use Rattle.line_text.proofs.Items.{last_item_push, no_fault}
use Rattle.line_text.proofs.Lacking.{lacks_push}

-- a plain line has words
pub plain_some : (words : List (List ℕ)) (text behind : List ℕ) → IsPlainLine words text behind → 0 < length words
plain_some [] text behind h = absurd h
plain_some (w ∷ words) text behind h = omega arith

-- each is a word
plain_words : (words : List (List ℕ)) (text behind : List ℕ) → IsPlainLine words text behind → AllByRecursion IsWord words
plain_words [] text behind h = tt
plain_words (w ∷ []) text behind h = (h.0, tt)
plain_words (w ∷ v ∷ words) text behind h = (h.1, plain_words (v ∷ words) h.0 behind h.3)

-- the text is that of the words, an LF, and what comes after
plain_text : (words : List (List ℕ)) (text behind : List ℕ) → IsPlainLine words text behind → text ≡ (spaced words ++ 10 ∷ []) ++ behind
plain_text [] text behind h = absurd h
plain_text (w ∷ []) text behind h = h.1 ∙ sym (append_assoc w (10 ∷ []) behind)
plain_text (w ∷ v ∷ words) text behind h =
    h.2 ∙ ap (λ zs. w ++ 32 ∷ zs) (plain_text (v ∷ words) h.0 behind h.3)
    ∙ sym (append_assoc (w ++ 32 ∷ spaced (v ∷ words)) (10 ∷ []) behind ∙ append_assoc w (32 ∷ spaced (v ∷ words)) (10 ∷ behind) ∙ ap (λ zs. w ++ 32 ∷ zs) (sym (append_assoc (spaced (v ∷ words)) (10 ∷ []) behind)))

-- the first byte of a front with bytes
first_byte : (front back : List ℕ) → 0 < length front → get_or (front ++ back) 0 0 ≡ get_or front 0 0
first_byte [] back some = absurd (omega arith)
first_byte (b ∷ front) back some = refl

-- words with spaces between have bytes
spaced_some : (words : List (List ℕ)) → 0 < length words → AllByRecursion IsWord words → 0 < length (spaced words)
spaced_some [] some each = absurd (omega arith)
spaced_some (w ∷ []) some each = each.0.0
spaced_some (w ∷ v ∷ words) some each = omega (arith, length-append w (32 ∷ spaced (v ∷ words)))

-- so it is cut into them
pub IsCut-plain : (words : List (List ℕ)) (text behind : List ℕ) → IsPlainLine words text behind → get_or text 0 0 ≢ 35 → length text ≤ length behind + 201 → IsCut text words behind
IsCut-plain words text behind h no_comment short =
    let each = plain_words words text behind h in
    let some = plain_some words text behind h in
    let is = plain_text words text behind h in
    let bytes = spaced words in
    let formed = spaced_bytes words each in
    let long : length text ≡ length bytes + 1 + length behind = ap length is ∙ rw (length-append (bytes ++ 10 ∷ []) behind, length-append bytes (10 ∷ [])) refl in
    let ascii : list_all is_text_byte bytes ≡ true = all_pass is_text_byte bytes (each-weaker {P = InLine} {Q = λ b. is_text_byte b ≡ true} (λ b k. and_from (leb 32 b) (leb b 126) (le-leb 32 b k.0) (le-leb b 126 k.1)) bytes formed) in
    let few : ltb 200 (length bytes) ≡ false = le-ltb 200 (length bytes) (omega arith) in
    let front : get_or text 0 0 ≡ get_or bytes 0 0 = ap (λ zs. get_or zs 0 0) (is ∙ append_assoc bytes (10 ∷ []) behind) ∙ first_byte bytes (10 ∷ behind) (spaced_some words some each) in
    record {
      line = ended bytes;
      first = rw is (first_line bytes behind formed);
      formed = rw (ascii, few) refl;
      said = sym (content_again words some each (λ e. no_comment (front ∙ e)));
      shorter = omega (arith, long);
    }

-- words that say an item which has passed are not refused
no_words_fault : {Item : Type 0} (g : Rules Item) (before : List Item) (words : List (List ℕ)) (x : Item) → 0 < length words → was_read g before (end_rank g) ≡ false
    → g.item_of words ≡ Ok x → HasPassed g before x → words_fault g before words ≡ None
unfolding words_fault
no_words_fault g before words x some unended said h =
    let here : eqb (length words) 0 ≡ false = ne_eqb (length words) 0 (λ e. omega (arith, some)) in
    rw (here, unended, said) (no_fault g before x h)

-- so a text's first line has passed where its item was kept
pub Reads-plain : {Item : Type 0} (g : Rules Item) (rank : ℕ) (text behind : List ℕ) (before after : List Item) → was_read g before (end_rank g) ≡ false → KeepsPlainly g rank text behind before after → Reads g text behind before after
unfolding line_fault
Reads-plain g rank text behind before after unended h =
    let words = h.says.words in
    let some = plain_some words text behind h.says.line in
    let cut = IsCut-plain words text behind h.says.line h.says.no_comment h.says.short in
    let passed = no_words_fault g before words h.item some unended h.says.said h.passed in
    let here : eqb (length words) 0 ≡ false = ne_eqb (length words) 0 (λ e. omega (arith, some)) in
    let item : item_in g words ≡ Some h.item = rw (here, h.says.said) refl in
    record {
      line = cut.line;
      first = cut.first;
      shorter = cut.shorter;
      passed = rw (cut.formed, ← cut.said) passed;
      items = h.kept ∙ ap (λ o. before ++ option_to_list o) (sym item) ∙ ap (λ ws. before ++ option_to_list (item_in g ws)) cut.said;
    }

-- the section of the last item has one
pub last_counts : {Item : Type 0} (g : Rules Item) (items : List Item) (last : Place) → Some last ≡ place_in g (last_item items) → 0 < count_at g items last.rank
last_counts {Item = Item} g items last is = go (last_item items) refl is
  where
    go : (o : Option Item) → last_item items ≡ o → Some last ≡ place_in g o → 0 < count_at g items last.rank
    go None e f = absurd cc
    go (Some y) e f = count_from_at g items last.rank (length items - 1) y e (sym (ap (λ p. p.rank) (same_Some last (place_of g y) f)))

-- ---- more lines of a section

abbrev one_if : Bool → ℕ
one_if b = cond b 1 0

-- what is known of items with one more that ascends by nothing, in the section of the last one
pub IsKnown-plain : {Item : Type 0} (g : Rules Item) (items after : List Item) (counts : List ℕ) (last : Option Place) (clear rank n : ℕ) (x : Item) → IsKnown g items counts last clear → last ≡ Some (plain_place rank) → plain_place rank ≡ place_of g x
    → rank < length g.sections → n ≡ get_or counts rank 0 + 1 → after ≡ items ++ x ∷ [] → IsKnown g after (set counts rank n) last clear
IsKnown-plain g items after counts last clear rank n x known its place below more appended = record {
  counted = IsCounted-push g items after counts x rank n known.counted (ap (λ p. p.rank) place) below more appended;
  last_is = rw (appended, last_item_push items x) (its ∙ ap Some place);
  lacks_none = rw appended (lacks_push g items x clear known.lacks_none);
}

-- a section goes on after items, of which the last is one of its own and ascends by nothing
pub record GoesOn {Item : Type 0} (g : Rules Item) (items : List Item) (rank : ℕ) : Type 0 where
  pub unended : was_read g items (end_rank g) ≡ false
  pub some : 0 < count_at g items rank
  pub in_order : (x : Item) → plain_place rank ≡ place_of g x → is_late g (last_item items) x ≡ false
  pub lacks_none : lacks g items rank ≡ false
  pub last_is : Some (plain_place rank) ≡ place_in g (last_item items)

-- it takes more where it isn't full
pub TakesMore-room : {Item : Type 0} (g : Rules Item) (items : List Item) (rank : ℕ) → GoesOn g items rank → is_full (slice_get g.sections rank) (count_at g items rank) ≡ false → TakesMore g items rank
TakesMore-room {Item = Item} g items rank h room = record {
  unended = h.unended;
  some = h.some;
  in_order = h.in_order;
  lacks_none = h.lacks_none;
  has_room = room;
  ascending = λ x at. go x (last_item items) h.last_is;
}
  where
    go : (x : Item) (o : Option Item) → Some (plain_place rank) ≡ place_in g o → ascends g o x ≡ true
    go x None e = absurd cc
    go x (Some y) e =
        let keyless : None ≡ g.key_of y = ap (λ p. p.key) (same_Some (plain_place rank) (place_of g y) e) in
        rw (← keyless) (or-true (not (eqb (g.rank_of x) (g.rank_of y))))

-- it goes on where it takes more
pub GoesOn-first : {Item : Type 0} (g : Rules Item) (items : List Item) (rank : ℕ) → TakesMore g items rank → Some (plain_place rank) ≡ place_in g (last_item items) → GoesOn g items rank
GoesOn-first g items rank h last = record { unended = h.unended; some = h.some; in_order = h.in_order; lacks_none = h.lacks_none; last_is = last }

-- and with one more of its items
pub GoesOn-next : {Item : Type 0} (g : Rules Item) (rank : ℕ) (text behind : List ℕ) (items after : List Item) → GoesOn g items rank → KeepsPlainly g rank text behind items after → GoesOn g after rank
GoesOn-next {Item = Item} g rank text behind items after h k =
    let x = k.item in
    let ranked : rank ≡ g.rank_of x = ap (λ p. p.rank) k.place in
    let last : last_item after ≡ Some x = ap (λ (zs : List Item). last_item zs) k.kept ∙ last_item_push items x in
    record {
      unended = rw (k.kept, count_at_push g items x (end_rank g)) (unended ranked);
      some = rw (k.kept, count_at_push g items x rank) (omega (arith, h.some));
      in_order = λ y at. rw last (in_turn y (ap (λ p. p.rank) at) ranked (last_item items) h.last_is (h.in_order x k.place));
      lacks_none = rw k.kept (lacks_push g items x rank h.lacks_none);
      last_is = rw last (ap Some k.place);
    }
  where
    unended : rank ≡ g.rank_of k.item → ltb 0 (count_at g items (end_rank g) + one_if (eqb (g.rank_of k.item) (end_rank g))) ≡ false
    unended ranked =
        let no_end : count_at g items (end_rank g) ≤ 0 = ltb-false 0 (count_at g items (end_rank g)) h.unended in
        let other : g.rank_of k.item ≢ end_rank g = λ same. omega (arith, h.some, no_end, ap (λ r. count_at g items r) (ranked ∙ same)) in
        let none : one_if (eqb (g.rank_of k.item) (end_rank g)) ≡ 0 = rw (ne_eqb (g.rank_of k.item) (end_rank g) other) refl in
        le-ltb 0 (count_at g items (end_rank g) + one_if (eqb (g.rank_of k.item) (end_rank g))) (omega (arith, no_end, none))

    in_turn : (y : Item) → rank ≡ g.rank_of y → rank ≡ g.rank_of k.item → (o : Option Item) → Some (plain_place rank) ≡ place_in g o → is_late g o k.item ≡ false → is_late g (Some k.item) y ≡ false
    in_turn y e f None last late = absurd cc
    in_turn y e f (Some z) last late =
        let here : g.rank_of y ≡ g.rank_of k.item = sym e ∙ f in
        let there : g.rank_of z ≡ g.rank_of k.item = sym (ap (λ p. p.rank) (same_Some (plain_place rank) (place_of g z) last)) ∙ f in
        rw here (rw there at late)

-- ---- words before a text

-- a front, the byte after it, and the others
pub front_at : (text : List ℕ) (count stop : ℕ) → count < length text → get_or text count 0 ≡ stop → text ≡ take count text ++ stop ∷ drop (count + 1) text
front_at text count stop within at =
    sym (take-append-drop count text) ∙ ap (λ zs. take count text ++ zs) (drop-cons text count 0 within ∙ rw (at, add-one) refl)

-- digits are bytes of a word
pub digits_in_word : (w : List ℕ) → list_all is_digit w ≡ true → AllByRecursion InWord w
digits_in_word [] e = tt
digits_in_word (b ∷ w) e =
    let parts = and_parts (is_digit b) (list_all is_digit w) e in
    let range = digit_range b parts.0 in
    ((omega arith, omega arith), digits_in_word w parts.1)

-- digits, and a byte after them
pub IsNumberBefore-digits : (text : List ℕ) (count number stop : ℕ) → count < length text → 0 < count → count ≤ 7 → list_all is_digit (take count text) ≡ true
    → (ltb 1 (length (take count text)) && eqb (get_or (take count text) 0 0) 48) ≡ false → get_or text count 0 ≡ stop → number ≡ number_value (take count text)
    → IsNumberBefore stop text number (drop (count + 1) text)
IsNumberBefore-digits text count number stop within some short digits plain at value =
    let long : length (take count text) ≡ count = length-take-le count text (omega arith) in
    record {
      word = take count text;
      is_word = (omega (arith, long), digits_in_word (take count text) digits);
      front = front_at text count stop within at;
      short = omega (arith, length-drop (count + 1) text);
      said = number_of-digits (take count text) (omega (arith, long)) (omega (arith, long)) digits plain ∙ ap Some (sym value);
    }
