-- The words of a line say it.
use Rattle.std.proofs.Common.{◌≡◌, ℕ, ◌+◌, ◌*◌, ◌<◌, ◌≤◌, ◌^◌, true, ◌&&◌, leb, List, [], ◌∷◌, ◌++◌, length, map, Option, Some, None, refl, ◌∙◌, arith}
use Rattle.std.specs.Prelude.{codes}
use Rattle.std.specs.Fmt.{decimal}
use Rattle.std.specs.List.{AllByRecursion}
use Rattle.std.proofs.lemmas.Bool.{leb-true, ltb-true, and_parts}
use Rattle.type_table.specs.Kind.{kind_of, kind_word}
use Rattle.type_table.specs.declared.kind.Kind.{Kind}
use Rattle.type_table.specs.declared.kind.Kind.TheVariants.{Undo, Intentions, Escrow}
use Rattle.type_table.proofs.Elements.{each-append}
use Rattle.line_text.specs.LongNumbers.{long_number_at}
use Rattle.line_text.specs.Shapes.{exactly, number_at, kind_at, is_key}
use Rattle.line_text.specs.Spelling.{spaced, IsWord, Spells, NumberIsReadAgain}
use Rattle.line_text.proofs.Items.{keyword, length-spaced}
use Rattle.decimals.proofs.Decimals.{read_long}
use Rattle.line_text.proofs.Decimals.{long_is_word}
use Rattle.store_text.specs.Body.{store_rules, has_size, line_of, size_of_words, object_of_words, nameless_of_words, named_of_words, object_name_at, end_of_words}
use Rattle.store_text.specs.declared.line.Line.TheVariants.{Objects, Object, Entry, End}
use Rattle.history_text.specs.declared.event_line.EventLine.{EventLine}
use Rattle.history_text.specs.declared.event_line.EventLine.TheVariants.{Begin, Op, OpOf, Busy, Nothing, Commit, Abort, Rollback}
use Rattle.history_text.specs.Events.{history_body, event_line_of, begin_event_of, op_event_of, counted_of, listed_of, busy_of, nothing_of, commit_event_of, abort_event_of, rollback_event_of, is_in_range, is_worker, is_transaction, is_object, is_operation, is_event_amount}
use Rattle.history_text.specs.Canonical.{words_of}
use Rattle.history_text.proofs.Names.{MayHave, name_is_word}

-- ---- ranges

-- numbers of at most seven digits
abbrev pub AreSmall : List ℕ → Type 0
AreSmall ns = AllByRecursion (λ n. n < 10 ^ 7) ns

worker : (w : ℕ) → is_worker w ≡ true → w < 10 ^ 7
worker w h = omega (arith, leb-true w 255 h)

transaction : (t : ℕ) → is_transaction t ≡ true → t < 10 ^ 7
transaction t h = omega (arith, leb-true t 999999 h)

object : (objects x : ℕ) → objects ≤ 65536 → is_object objects x ≡ true → x < 10 ^ 7
object objects x few h = omega (arith, few, ltb-true x objects h)

operation : (k : ℕ) → is_operation k ≡ true → k < 10 ^ 7
operation k h = omega (arith, leb-true k 63 h)

module _ (says : Option ℕ) (numbers : (n : ℕ) → n < 10 ^ 7 → NumberIsReadAgain n) where
  -- numbers are words
  are_words : (ns : List ℕ) → AreSmall ns → AllByRecursion IsWord (map decimal ns)
  are_words [] h = tt
  are_words (n ∷ ns) h = ((numbers n h.0).is_word, are_words ns h.1)

  -- a line of a word and some numbers is short
  short_line : (w : List ℕ) (ns : List ℕ) → AreSmall ns → length (spaced (w ∷ map decimal ns)) ≤ length w + 8 * length ns
  short_line w [] h = omega arith
  short_line w (n ∷ ns) h = omega (arith, length-spaced w (decimal n) (map decimal ns), short_line (decimal n) ns h.1, (numbers n h.0).short)

  -- so is one that ends in a number of up to ten digits
  short_long_line : (w : List ℕ) (ns : List ℕ) (n : ℕ) → AreSmall ns → length (decimal n) ≤ 10 → length (spaced (w ∷ map decimal ns ++ decimal n ∷ [])) ≤ length w + 8 * length ns + 11
  short_long_line w [] n h last = omega (arith, length-spaced w (decimal n) [], last)
  short_long_line w (m ∷ ns) n h last = omega (arith, length-spaced w (decimal m) (map decimal ns ++ decimal n ∷ []), short_long_line (decimal m) ns n h.1 last, (numbers m h.0).short)

  -- the word of a kind
  kind_is_word : (kind : Kind) → IsWord (kind_word kind) × (length (kind_word kind) ≤ 10)
  kind_is_word Undo = (keyword (codes "undo") refl refl, omega arith)
  kind_is_word Intentions = (keyword (codes "intentions") refl refl, omega arith)
  kind_is_word Escrow = (keyword (codes "escrow") refl refl, omega arith)

  -- is read as the kind
  kind_again : (kind : Kind) → kind_of (kind_word kind) ≡ Some kind
  kind_again Undo = refl
  kind_again Intentions = refl
  kind_again Escrow = refl

  -- what three words of an `object` line say, and what four do in a text that says its size
  without_name : (says : Option ℕ) (k f : List ℕ) → object_of_words {A = EventLine} says (codes "object" ∷ k ∷ f ∷ []) ≡ nameless_of_words (codes "object" ∷ k ∷ f ∷ [])
  unfolding object_of_words
  without_name None k f = refl
  without_name (Some n) k f = refl

  with_name : (says : Option ℕ) (k f w : List ℕ) → has_size says ≡ true → object_of_words {A = EventLine} says (codes "object" ∷ k ∷ f ∷ w ∷ []) ≡ named_of_words (codes "object" ∷ k ∷ f ∷ w ∷ [])
  unfolding object_of_words
  with_name None k f w has = absurd cc
  with_name (Some n) k f w has = refl

  -- the words of an `object` line
  object_spells : (kind : Kind) (file : ℕ) (name : Option (List ℕ)) → file < 10 ^ 7 → MayHave says name → Spells (store_rules history_body says) (Object kind file name) (words_of (Object kind file name))
  unfolding line_of nameless_of_words named_of_words object_name_at exactly number_at kind_at is_key
  object_spells kind file None small may =
      let word = kind_is_word kind in
      record {
        some = omega arith;
        each = (keyword (codes "object") refl refl, (word.0, are_words (file ∷ []) (small, tt)));
        no_comment = λ e. omega (arith, e);
        short = omega (arith, length-spaced (codes "object") (kind_word kind) (decimal file ∷ []), short_line (kind_word kind) (file ∷ []) (small, tt), word.1);
        said = without_name says (kind_word kind) (decimal file) ∙ rw (kind_again kind, (numbers file small).read) refl;
      }
  object_spells kind file (Some w) small may =
      let word = kind_is_word kind in
      let name = name_is_word w may.1 in
      let number = numbers file small in
      record {
        some = omega arith;
        each = (keyword (codes "object") refl refl, (word.0, (number.is_word, (name.0, tt))));
        no_comment = λ e. omega (arith, e);
        short = omega (arith, length-spaced (codes "object") (kind_word kind) (decimal file ∷ w ∷ []), length-spaced (kind_word kind) (decimal file) (w ∷ []), length-spaced (decimal file) w [], word.1, number.short, name.1);
        said = with_name says (kind_word kind) (decimal file) w may.0 ∙ rw (may.1, kind_again kind, number.read) refl;
      }

  -- the words of an `objects` line, in a text that has one
  pub size_spells : (n : ℕ) → n < 10 ^ 7 → has_size says ≡ true → Spells (store_rules history_body says) (Objects n) (words_of (Objects n))
  unfolding line_of size_of_words exactly number_at is_key
  size_spells n small has = record {
    some = omega arith;
    each = (keyword (codes "objects") refl refl, are_words (n ∷ []) (small, tt));
    no_comment = λ e. omega (arith, e);
    short = omega (arith, short_line (codes "objects") (n ∷ []) (small, tt));
    said = rw (has, (numbers n small).read) refl;
  }

  -- the words of a `begin` line
  begin_spells : (w t : ℕ) → w < 10 ^ 7 → t < 10 ^ 7 → Spells (store_rules history_body says) (Entry (Begin w t)) (words_of (Entry (Begin w t)))
  unfolding line_of event_line_of begin_event_of exactly number_at is_key
  begin_spells w t w_small t_small =
      let small : AreSmall (w ∷ t ∷ []) = (w_small, (t_small, tt)) in
      record {
        some = omega arith;
        each = (keyword (codes "begin") refl refl, are_words (w ∷ t ∷ []) small);
        no_comment = λ e. omega (arith, e);
        short = omega (arith, short_line (codes "begin") (w ∷ t ∷ []) small);
        said = rw ((numbers w w_small).read, (numbers t t_small).read) refl;
      }

  -- the words of a `op` line
  op_spells : (w t x k : ℕ) → w < 10 ^ 7 → t < 10 ^ 7 → x < 10 ^ 7 → k < 10 ^ 7 → Spells (store_rules history_body says) (Entry (Op w t x k)) (words_of (Entry (Op w t x k)))
  unfolding line_of event_line_of op_event_of listed_of exactly number_at is_key
  op_spells w t x k w_small t_small x_small k_small =
      let small : AreSmall (w ∷ t ∷ x ∷ k ∷ []) = (w_small, (t_small, (x_small, (k_small, tt)))) in
      record {
        some = omega arith;
        each = (keyword (codes "op") refl refl, are_words (w ∷ t ∷ x ∷ k ∷ []) small);
        no_comment = λ e. omega (arith, e);
        short = omega (arith, short_line (codes "op") (w ∷ t ∷ x ∷ k ∷ []) small);
        said = rw ((numbers w w_small).read, (numbers t t_small).read, (numbers x x_small).read, (numbers k k_small).read) refl;
      }

  -- those of one with an amount
  counted_spells : (w t x k n : ℕ) → w < 10 ^ 7 → t < 10 ^ 7 → x < 10 ^ 7 → k < 10 ^ 7 → n ≤ 4294967295 → Spells (store_rules history_body says) (Entry (OpOf w t x k n)) (words_of (Entry (OpOf w t x k n)))
  unfolding line_of event_line_of op_event_of counted_of exactly number_at long_number_at is_key
  counted_spells w t x k n w_small t_small x_small k_small n_fits =
      let small : AreSmall (w ∷ t ∷ x ∷ k ∷ []) = (w_small, (t_small, (x_small, (k_small, tt)))) in
      let amount = read_long n n_fits in
      record {
        some = omega arith;
        each = (keyword (codes "op") refl refl, each-append IsWord (map decimal (w ∷ t ∷ x ∷ k ∷ [])) (decimal n ∷ []) (are_words (w ∷ t ∷ x ∷ k ∷ []) small) (long_is_word n n_fits, tt));
        no_comment = λ e. omega (arith, e);
        short = omega (arith, short_long_line (codes "op") (w ∷ t ∷ x ∷ k ∷ []) n small amount.short);
        said = rw ((numbers w w_small).read, (numbers t t_small).read, (numbers x x_small).read, (numbers k k_small).read, amount.read) refl;
      }

  -- the words of a `busy` line
  busy_spells : (w t x c u : ℕ) → w < 10 ^ 7 → t < 10 ^ 7 → x < 10 ^ 7 → c < 10 ^ 7 → u < 10 ^ 7 → Spells (store_rules history_body says) (Entry (Busy w t x c u)) (words_of (Entry (Busy w t x c u)))
  unfolding line_of event_line_of busy_of exactly number_at is_key
  busy_spells w t x c u w_small t_small x_small c_small u_small =
      let small : AreSmall (w ∷ t ∷ x ∷ c ∷ u ∷ []) = (w_small, (t_small, (x_small, (c_small, (u_small, tt))))) in
      record {
        some = omega arith;
        each = (keyword (codes "busy") refl refl, are_words (w ∷ t ∷ x ∷ c ∷ u ∷ []) small);
        no_comment = λ e. omega (arith, e);
        short = omega (arith, short_line (codes "busy") (w ∷ t ∷ x ∷ c ∷ u ∷ []) small);
        said = rw ((numbers w w_small).read, (numbers t t_small).read, (numbers x x_small).read, (numbers c c_small).read, (numbers u u_small).read) refl;
      }

  -- the words of a `none` line
  nothing_spells : (w t x c : ℕ) → w < 10 ^ 7 → t < 10 ^ 7 → x < 10 ^ 7 → c < 10 ^ 7 → Spells (store_rules history_body says) (Entry (Nothing w t x c)) (words_of (Entry (Nothing w t x c)))
  unfolding line_of event_line_of nothing_of exactly number_at is_key
  nothing_spells w t x c w_small t_small x_small c_small =
      let small : AreSmall (w ∷ t ∷ x ∷ c ∷ []) = (w_small, (t_small, (x_small, (c_small, tt)))) in
      record {
        some = omega arith;
        each = (keyword (codes "none") refl refl, are_words (w ∷ t ∷ x ∷ c ∷ []) small);
        no_comment = λ e. omega (arith, e);
        short = omega (arith, short_line (codes "none") (w ∷ t ∷ x ∷ c ∷ []) small);
        said = rw ((numbers w w_small).read, (numbers t t_small).read, (numbers x x_small).read, (numbers c c_small).read) refl;
      }

  -- the words of a `commit` line
  commit_spells : (w t : ℕ) → w < 10 ^ 7 → t < 10 ^ 7 → Spells (store_rules history_body says) (Entry (Commit w t)) (words_of (Entry (Commit w t)))
  unfolding line_of event_line_of commit_event_of exactly number_at is_key
  commit_spells w t w_small t_small =
      let small : AreSmall (w ∷ t ∷ []) = (w_small, (t_small, tt)) in
      record {
        some = omega arith;
        each = (keyword (codes "commit") refl refl, are_words (w ∷ t ∷ []) small);
        no_comment = λ e. omega (arith, e);
        short = omega (arith, short_line (codes "commit") (w ∷ t ∷ []) small);
        said = rw ((numbers w w_small).read, (numbers t t_small).read) refl;
      }

  -- the words of a `abort` line
  abort_spells : (w t : ℕ) → w < 10 ^ 7 → t < 10 ^ 7 → Spells (store_rules history_body says) (Entry (Abort w t)) (words_of (Entry (Abort w t)))
  unfolding line_of event_line_of abort_event_of exactly number_at is_key
  abort_spells w t w_small t_small =
      let small : AreSmall (w ∷ t ∷ []) = (w_small, (t_small, tt)) in
      record {
        some = omega arith;
        each = (keyword (codes "abort") refl refl, are_words (w ∷ t ∷ []) small);
        no_comment = λ e. omega (arith, e);
        short = omega (arith, short_line (codes "abort") (w ∷ t ∷ []) small);
        said = rw ((numbers w w_small).read, (numbers t t_small).read) refl;
      }

  -- the words of a `rollback` line
  rollback_spells : (w t n : ℕ) → w < 10 ^ 7 → t < 10 ^ 7 → n < 10 ^ 7 → Spells (store_rules history_body says) (Entry (Rollback w t n)) (words_of (Entry (Rollback w t n)))
  unfolding line_of event_line_of rollback_event_of exactly number_at is_key
  rollback_spells w t n w_small t_small n_small =
      let small : AreSmall (w ∷ t ∷ n ∷ []) = (w_small, (t_small, (n_small, tt))) in
      record {
        some = omega arith;
        each = (keyword (codes "rollback") refl refl, are_words (w ∷ t ∷ n ∷ []) small);
        no_comment = λ e. omega (arith, e);
        short = omega (arith, short_line (codes "rollback") (w ∷ t ∷ n ∷ []) small);
        said = rw ((numbers w w_small).read, (numbers t t_small).read, (numbers n n_small).read) refl;
      }

  -- the words of the `end` line
  pub end_spells : Spells (store_rules history_body says) End (words_of End)
  unfolding line_of end_of_words exactly is_key
  end_spells = record {
    some = omega arith;
    each = (keyword (codes "end") refl refl, tt);
    no_comment = λ e. omega (arith, e);
    short = omega arith;
    said = refl;
  }

  -- the line of an object is said by its words
  pub object_line_spells : (kind : Kind) (file : ℕ) (name : Option (List ℕ)) → file < 65536 → MayHave says name → Spells (store_rules history_body says) (Object kind file name) (words_of (Object kind file name))
  object_line_spells kind file name fit may = object_spells kind file name (omega (arith, fit)) may

  -- so is that of an event whose numbers are in range
  pub event_line_spells : (objects : ℕ) → objects ≤ 65536 → (x : EventLine) → is_in_range objects x ≡ true → Spells (store_rules history_body says) (Entry x) (words_of (Entry x))
  event_line_spells objects few (Begin w t) h =
      let p1 : ((is_worker w) ≡ true) × ((is_transaction t) ≡ true) = and_parts _ _ h in
      begin_spells w t (worker w p1.0) (transaction t p1.1)
  event_line_spells objects few (Op w t x k) h =
      let p3 : ((is_worker w && is_transaction t && is_object objects x) ≡ true) × ((is_operation k) ≡ true) = and_parts _ _ h in
      let p2 : ((is_worker w && is_transaction t) ≡ true) × ((is_object objects x) ≡ true) = and_parts _ _ p3.0 in
      let p1 : ((is_worker w) ≡ true) × ((is_transaction t) ≡ true) = and_parts _ _ p2.0 in
      op_spells w t x k (worker w p1.0) (transaction t p1.1) (object objects x few p2.1) (operation k p3.1)
  event_line_spells objects few (OpOf w t x k n) h =
      let p4 : ((is_worker w && is_transaction t && is_object objects x && is_operation k) ≡ true) × ((is_event_amount n) ≡ true) = and_parts _ _ h in
      let p3 : ((is_worker w && is_transaction t && is_object objects x) ≡ true) × ((is_operation k) ≡ true) = and_parts _ _ p4.0 in
      let p2 : ((is_worker w && is_transaction t) ≡ true) × ((is_object objects x) ≡ true) = and_parts _ _ p3.0 in
      let p1 : ((is_worker w) ≡ true) × ((is_transaction t) ≡ true) = and_parts _ _ p2.0 in
      counted_spells w t x k n (worker w p1.0) (transaction t p1.1) (object objects x few p2.1) (operation k p3.1) (leb-true n 4294967295 p4.1)
  event_line_spells objects few (Busy w t x c u) h =
      let p4 : ((is_worker w && is_transaction t && is_object objects x && is_operation c) ≡ true) × ((is_transaction u) ≡ true) = and_parts _ _ h in
      let p3 : ((is_worker w && is_transaction t && is_object objects x) ≡ true) × ((is_operation c) ≡ true) = and_parts _ _ p4.0 in
      let p2 : ((is_worker w && is_transaction t) ≡ true) × ((is_object objects x) ≡ true) = and_parts _ _ p3.0 in
      let p1 : ((is_worker w) ≡ true) × ((is_transaction t) ≡ true) = and_parts _ _ p2.0 in
      busy_spells w t x c u (worker w p1.0) (transaction t p1.1) (object objects x few p2.1) (operation c p3.1) (transaction u p4.1)
  event_line_spells objects few (Nothing w t x c) h =
      let p3 : ((is_worker w && is_transaction t && is_object objects x) ≡ true) × ((is_operation c) ≡ true) = and_parts _ _ h in
      let p2 : ((is_worker w && is_transaction t) ≡ true) × ((is_object objects x) ≡ true) = and_parts _ _ p3.0 in
      let p1 : ((is_worker w) ≡ true) × ((is_transaction t) ≡ true) = and_parts _ _ p2.0 in
      nothing_spells w t x c (worker w p1.0) (transaction t p1.1) (object objects x few p2.1) (operation c p3.1)
  event_line_spells objects few (Commit w t) h =
      let p1 : ((is_worker w) ≡ true) × ((is_transaction t) ≡ true) = and_parts _ _ h in
      commit_spells w t (worker w p1.0) (transaction t p1.1)
  event_line_spells objects few (Abort w t) h =
      let p1 : ((is_worker w) ≡ true) × ((is_transaction t) ≡ true) = and_parts _ _ h in
      abort_spells w t (worker w p1.0) (transaction t p1.1)
  event_line_spells objects few (Rollback w t n) h =
      let p3 : ((is_worker w && is_transaction t && leb 1 n) ≡ true) × ((leb n 999999) ≡ true) = and_parts _ _ h in
      let p2 : ((is_worker w && is_transaction t) ≡ true) × ((leb 1 n) ≡ true) = and_parts _ _ p3.0 in
      let p1 : ((is_worker w) ≡ true) × ((is_transaction t) ≡ true) = and_parts _ _ p2.0 in
      rollback_spells w t n (worker w p1.0) (transaction t p1.1) (omega (arith, leb-true n 999999 p3.1))
