-- Cutting a text's first line into words, from its front.
use Rattle.std.proofs.Common.{◌≡◌, ℕ, zero, suc, ◌+◌, ◌<◌, ◌≤◌, true, false, eqb, leb, ltb, List, [], ◌∷◌, ◌++◌, length, get_or, take, filter, refl, sym, ap, ◌∙◌, arith, append_assoc}
use Rattle.std.specs.List.{AllByRecursion, list_all, slice_split}
use Rattle.std.proofs.lemmas.Bool.{and_from, le-leb, le-ltb}
use Rattle.std.proofs.lemmas.List.{length-append}
use Rattle.std.proofs.lemmas.List.Elements.{filter-append}
use Rattle.std.proofs.lemmas.List.Splits.{slice_split_at, slice_split_none}
use Rattle.type_table.proofs.Elements.{each-append, each-weaker}
use Rattle.line_text.specs.Text.{has_bytes, words_of, lines_of, is_comment}
use Rattle.line_text.specs.LineTests.{is_text_byte}
use Rattle.line_text.specs.Steps.{ended, IsCut}
use Rattle.line_text.proofs.Words.{content_of-plain}
use Rattle.line_text.proofs.Spelled.{all_pass, InWord, InLine, no_space, first_line}

-- a front's bytes are bytes of words, where each is
pub front_in_word : (xs : List ℕ) (n : ℕ) → n ≤ length xs → ((k : ℕ) → k < n → InWord (get_or xs k 0)) → AllByRecursion InWord (take n xs)
front_in_word xs zero within each = tt
front_in_word [] (suc n) within each = absurd (omega arith)
front_in_word (x ∷ xs) (suc n) within each = (each 0 (omega arith), front_in_word xs n (omega arith) (λ k below. each (suc k) (omega arith)))

-- the front of a text was cut into words, and ends at a space
pub record HasCut (text rest : List ℕ) (words : List (List ℕ)) : Type 0 where
  pub front : List ℕ
  pub split : text ≡ front ++ rest
  pub formed : AllByRecursion InLine front
  pub said : (z : List ℕ) → words_of (front ++ z) ≡ words ++ words_of z

-- before the first word
pub HasCut-none : (text : List ℕ) (words : List (List ℕ)) → words ≡ [] → HasCut text text words
HasCut-none text words e = record { front = []; split = refl; formed = tt; said = λ z. rw e refl }

-- bytes of a word are bytes of a line
word_in_line : (w : List ℕ) → AllByRecursion InWord w → AllByRecursion InLine w
word_in_line w h = each-weaker {P = InWord} {Q = InLine} (λ b k. (omega arith, k.1)) w h

-- a word and a space before more
words_of-space : (w z : List ℕ) → AllByRecursion InWord w → words_of (w ++ 32 ∷ z) ≡ filter has_bytes (w ∷ []) ++ words_of z
words_of-space w z h = ap (filter has_bytes) (slice_split_at (λ b. eqb b 32) w 32 z (no_space w h) refl) ∙ filter-append has_bytes (w ∷ []) (slice_split (λ b. eqb b 32) z)

-- a word alone
words_of-word : (w : List ℕ) → AllByRecursion InWord w → words_of w ≡ filter has_bytes (w ∷ [])
words_of-word w h = ap (filter has_bytes) (slice_split_none (λ b. eqb b 32) w (no_space w h))

module _ (text rest w behind : List ℕ) (words after : List (List ℕ)) (stop : ℕ) (cut : HasCut text rest words) (parts : rest ≡ w ++ stop ∷ behind) (each : AllByRecursion InWord w) (more : after ≡ words ++ filter has_bytes (w ∷ [])) where
  -- the text, with the word and what comes after it
  whole : text ≡ cut.front ++ (w ++ stop ∷ behind)
  whole = cut.split ∙ ap (λ zs. cut.front ++ zs) parts

  -- the front with the word and the byte after it
  pub joined : (z : List ℕ) → (cut.front ++ (w ++ stop ∷ [])) ++ z ≡ cut.front ++ (w ++ stop ∷ z)
  joined z = append_assoc cut.front (w ++ stop ∷ []) z ∙ ap (λ zs. cut.front ++ zs) (append_assoc w (stop ∷ []) z)

  -- one more word, at a space
  pub HasCut-more : stop ≡ 32 → HasCut text behind after
  HasCut-more space = record {
    front = cut.front ++ (w ++ stop ∷ []);
    split = whole ∙ sym (joined behind);
    formed = each-append InLine cut.front (w ++ stop ∷ []) cut.formed (each-append InLine w (stop ∷ []) (word_in_line w each) ((omega arith, omega arith), tt));
    said = λ z.
        ap words_of (joined z) ∙ cut.said (w ++ stop ∷ z)
        ∙ ap (λ ws. words ++ ws) (ap (λ s. words_of (w ++ s ∷ z)) space ∙ words_of-space w z each)
        ∙ sym (append_assoc words (filter has_bytes (w ∷ [])) (words_of z))
        ∙ ap (λ ws. ws ++ words_of z) (sym more);
  }

  -- the line up to the word
  line : List ℕ
  line = cut.front ++ w

  -- its bytes
  line_formed : AllByRecursion InLine line
  unfolding line
  line_formed = each-append InLine cut.front w cut.formed (word_in_line w each)

  -- a line whose text isn't a comment isn't one
  no_comment : (bytes more : List ℕ) → is_comment (bytes ++ more) ≡ false → is_comment bytes ≡ false
  no_comment [] more e = refl
  no_comment (b ∷ bytes) more e = e

  -- the text with its line in front
  line_first : stop ≡ 10 → text ≡ (line ++ 10 ∷ []) ++ behind
  unfolding line
  line_first feed = whole ∙ ap (λ s. cut.front ++ (w ++ s ∷ behind)) feed ∙ sym (append_assoc (cut.front ++ w) (10 ∷ []) behind ∙ append_assoc cut.front w (10 ∷ behind))

  -- the line ends after the word
  pub IsCut-from : stop ≡ 10 → is_comment text ≡ false → length text ≤ length behind + 201 → IsCut text after behind
  unfolding line
  IsCut-from feed plain short =
      let long : length text ≡ length line + 1 + length behind = ap length (line_first feed) ∙ rw (length-append (line ++ 10 ∷ []) behind, length-append line (10 ∷ [])) refl in
      let ascii : list_all is_text_byte line ≡ true = all_pass is_text_byte line (each-weaker {P = InLine} {Q = λ b. is_text_byte b ≡ true} (λ b k. and_from (leb 32 b) (leb b 126) (le-leb 32 b k.0) (le-leb b 126 k.1)) line line_formed) in
      let few : ltb 200 (length line) ≡ false = le-ltb 200 (length line) (omega arith) in
      let bare : is_comment line ≡ false = no_comment line (10 ∷ [] ++ behind) (sym (ap is_comment (line_first feed ∙ append_assoc line (10 ∷ []) behind)) ∙ plain) in
      record {
        line = ended line;
        first = ap lines_of (line_first feed) ∙ first_line line behind line_formed;
        formed = rw (ascii, few) refl;
        said = more ∙ ap (λ ws. words ++ ws) (sym (words_of-word w each)) ∙ sym (cut.said w) ∙ content_of-plain line bare;
        shorter = omega (arith, long);
      }
