-- The words of a line say it.
use Rattle.std.proofs.Common.{◌≡◌, ℕ, ◌<◌, ◌^◌, true, List, [], ◌∷◌, refl, arith}
use Rattle.std.specs.Prelude.{codes}
use Rattle.std.specs.Fmt.{decimal}
use Rattle.std.specs.List.{AllByRecursion}
use Rattle.type_table.specs.Name.{is_name}
use Rattle.type_table.specs.declared.table_kind.TableKind.{TableKind}
use Rattle.type_table.specs.declared.table_kind.TableKind.TheVariants.{Undo, Intentions}
use Rattle.type_table.specs.declared.op.Op.{Op}
use Rattle.line_text.specs.Shapes.{exactly, number_at, name_at, table_kind_at, is_key}
use Rattle.line_text.specs.Spelling.{IsWord, Spells, NumberIsReadAgain, NameIsWord}
use Rattle.line_text.proofs.Items.{keyword, length-spaced}
use Rattle.type_text.specs.declared.type_line.TypeLine.{TypeLine}
use Rattle.type_text.specs.declared.type_line.TypeLine.TheVariants.{TypeName, States, Initial, Operation, Step, Reach, Equi, Conflict, End}
use Rattle.type_text.specs.TypeLines.{line_of, type_name_of, states_of_words, initial_of_words, operation_of, step_of, reach_of_words, equi_of, conflict_of, end_of, type_rules}
use Rattle.type_text.specs.Canonical.{words_of, IsNamed}
use Rattle.type_text.proofs.CanonicalEntries.{IsSmall}

-- ---- words

-- the words of a line
abbrev AreWords : List (List ℕ) → Type 0
AreWords ws = AllByRecursion IsWord ws

module _ (numbers : (n : ℕ) → n < 10 ^ 7 → NumberIsReadAgain n) (names : (w : List ℕ) → NameIsWord w) where
  -- the words of a `type` line
  name_spells : (name : List ℕ) → is_name name ≡ true → Spells type_rules (TypeName name) (words_of (TypeName name))
  unfolding line_of type_name_of exactly name_at is_key
  name_spells name named =
      let word = names name named in
      record {
        some = omega arith;
        each = (keyword (codes "type") refl refl, (word.0, tt));
        no_comment = λ e. omega (arith, e);
        short = omega (arith, length-spaced (codes "type") name [], word.1);
        said = rw named refl;
      }

  -- those of a `states` line
  states_spells : (n : ℕ) → n < 10 ^ 7 → Spells type_rules (States n) (words_of (States n))
  unfolding line_of states_of_words exactly number_at is_key
  states_spells n small =
      let number = numbers n small in
      record {
        some = omega arith;
        each = (keyword (codes "states") refl refl, (number.is_word, tt));
        no_comment = λ e. omega (arith, e);
        short = omega (arith, length-spaced (codes "states") (decimal n) [], number.short);
        said = rw number.read refl;
      }

  -- those of an `initial` line
  initial_spells : (n : ℕ) → n < 10 ^ 7 → Spells type_rules (Initial n) (words_of (Initial n))
  unfolding line_of initial_of_words exactly number_at is_key
  initial_spells n small =
      let number = numbers n small in
      record {
        some = omega arith;
        each = (keyword (codes "initial") refl refl, (number.is_word, tt));
        no_comment = λ e. omega (arith, e);
        short = omega (arith, length-spaced (codes "initial") (decimal n) [], number.short);
        said = rw number.read refl;
      }

  -- those of an `op` line
  operation_spells : (op : Op) → is_name op.call ≡ true → is_name op.reply ≡ true → Spells type_rules (Operation op) (words_of (Operation op))
  unfolding line_of operation_of exactly name_at is_key
  operation_spells op call reply =
      let first = names op.call call in
      let second = names op.reply reply in
      record {
        some = omega arith;
        each = (keyword (codes "op") refl refl, (first.0, (second.0, tt)));
        no_comment = λ e. omega (arith, e);
        short = omega (arith, length-spaced (codes "op") op.call (op.reply ∷ []), length-spaced op.call op.reply [], first.1, second.1);
        said = rw (call, reply) refl;
      }

  -- those of a `step` line
  step_spells : (s k t : ℕ) → s < 10 ^ 7 → k < 10 ^ 7 → t < 10 ^ 7 → Spells type_rules (Step s k t) (words_of (Step s k t))
  unfolding line_of step_of exactly number_at is_key
  step_spells s k t s_small k_small t_small =
      let first = numbers s s_small in
      let second = numbers k k_small in
      let third = numbers t t_small in
      record {
        some = omega arith;
        each = (keyword (codes "step") refl refl, (first.is_word, (second.is_word, (third.is_word, tt))));
        no_comment = λ e. omega (arith, e);
        short = omega (arith, length-spaced (codes "step") (decimal s) (decimal k ∷ decimal t ∷ []), length-spaced (decimal s) (decimal k) (decimal t ∷ []), length-spaced (decimal k) (decimal t) [], first.short, second.short, third.short);
        said = rw (first.read, second.read, third.read) refl;
      }

  -- those of a `reach` line
  reach_spells : (s : ℕ) → s < 10 ^ 7 → Spells type_rules (Reach s) (words_of (Reach s))
  unfolding line_of reach_of_words exactly number_at is_key
  reach_spells s small =
      let number = numbers s small in
      record {
        some = omega arith;
        each = (keyword (codes "reach") refl refl, (number.is_word, tt));
        no_comment = λ e. omega (arith, e);
        short = omega (arith, length-spaced (codes "reach") (decimal s) [], number.short);
        said = rw number.read refl;
      }

  -- those of an `equi` line
  equi_spells : (s t : ℕ) → s < 10 ^ 7 → t < 10 ^ 7 → Spells type_rules (Equi s t) (words_of (Equi s t))
  unfolding line_of equi_of exactly number_at is_key
  equi_spells s t s_small t_small =
      let first = numbers s s_small in
      let second = numbers t t_small in
      record {
        some = omega arith;
        each = (keyword (codes "equi") refl refl, (first.is_word, (second.is_word, tt)));
        no_comment = λ e. omega (arith, e);
        short = omega (arith, length-spaced (codes "equi") (decimal s) (decimal t ∷ []), length-spaced (decimal s) (decimal t) [], first.short, second.short);
        said = rw (first.read, second.read) refl;
      }

  -- those of a `conflict` line
  conflict_spells : (kind : TableKind) (p q : ℕ) → p < 10 ^ 7 → q < 10 ^ 7 → Spells type_rules (Conflict kind p q) (words_of (Conflict kind p q))
  unfolding line_of conflict_of exactly number_at table_kind_at is_key
  conflict_spells Undo p q p_small q_small =
      let first = numbers p p_small in
      let second = numbers q q_small in
      record {
        some = omega arith;
        each = (keyword (codes "conflict") refl refl, (keyword (codes "undo") refl refl, (first.is_word, (second.is_word, tt))));
        no_comment = λ e. omega (arith, e);
        short = omega (arith, length-spaced (codes "conflict") (codes "undo") (decimal p ∷ decimal q ∷ []), length-spaced (codes "undo") (decimal p) (decimal q ∷ []), length-spaced (decimal p) (decimal q) [], first.short, second.short);
        said = rw (first.read, second.read) refl;
      }
  conflict_spells Intentions p q p_small q_small =
      let first = numbers p p_small in
      let second = numbers q q_small in
      record {
        some = omega arith;
        each = (keyword (codes "conflict") refl refl, (keyword (codes "intentions") refl refl, (first.is_word, (second.is_word, tt))));
        no_comment = λ e. omega (arith, e);
        short = omega (arith, length-spaced (codes "conflict") (codes "intentions") (decimal p ∷ decimal q ∷ []), length-spaced (codes "intentions") (decimal p) (decimal q ∷ []), length-spaced (decimal p) (decimal q) [], first.short, second.short);
        said = rw (first.read, second.read) refl;
      }

  -- those of `end`
  end_spells : Spells type_rules End (words_of End)
  unfolding line_of end_of exactly is_key
  end_spells = record {
    some = omega arith;
    each = (keyword (codes "end") refl refl, tt);
    no_comment = λ e. omega (arith, e);
    short = omega arith;
    said = refl;
  }

  -- a line with short numbers and with names is said by its words
  pub line_spells : (x : TypeLine) → IsSmall x → IsNamed x → Spells type_rules x (words_of x)
  line_spells (TypeName name) small named = name_spells name named
  line_spells (States n) small named = states_spells n small
  line_spells (Initial n) small named = initial_spells n small
  line_spells (Operation op) small named = operation_spells op named.0 named.1
  line_spells (Step s k t) small named = step_spells s k t small.0 small.1 small.2
  line_spells (Reach s) small named = reach_spells s small
  line_spells (Equi s t) small named = equi_spells s t small.0 small.1
  line_spells (Conflict kind p q) small named = conflict_spells kind p q small.0 small.1
  line_spells End small named = end_spells
