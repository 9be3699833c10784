-- Relations in words of 64 bits.
use Rattle.std.proofs.Common.{◌≡◌, ℕ, ◌+◌, ◌*◌, ◌/◌, ◌<◌, ◌≤◌, Bool, true, eqb, ltb, ◌&&◌, ◌||◌, List, length, refl, sym, ap, ◌∙◌, inl, inr, arith}
use Rattle.std.proofs.lemmas.Bool.{cases_eq, cases_lt, eq-eqb, ne_eqb, lt-ltb, le-ltb, and_from, and_left, and_right, or_from, or_left}
use Rattle.std.proofs.lemmas.Nat.{mul-add-lt, same_from_place}
use Rattle.type_table.specs.ConflictTable.{IsSquare}
use Rattle.equi_cert.specs.Relation.{relates, IsRelation}
use Rattle.equi_cert.specs.Bits.{has_bit, HaveCells, cell_of, rows_of_bits}
use Rattle.equi_cert.proofs.Rows.{length-rows_by, relates-rows_by, square-rows_by, relates-past_first, relates-past_second}

-- ---- places

-- each cell has a word
pub place_fits : (states s t : ℕ) (words : List ℕ) → HaveCells states words → s < states → t < states → (s * states + t) / 64 < length words
place_fits states s t words room s_in t_in = omega (arith, room, mul-add-lt s states t states s_in t_in)

-- as many words have the same room
pub room-kept : (states : ℕ) (words more : List ℕ) → HaveCells states words → length more ≡ length words → HaveCells states more
room-kept states words more room e = omega (arith, room, e)

-- two places are one where the states are
eqb-place : (states a b s t : ℕ) → b < states → t < states → eqb (a * states + b) (s * states + t) ≡ (eqb a s && eqb b t)
eqb-place states a b s t b_in t_in =
    elim (cases_eq a s) [
      | inl same ↦ elim (cases_eq b t) [
        | inl here ↦ eq-eqb (a * states + b) (s * states + t) (rw (same, here) refl) ∙ sym (and_from _ _ (eq-eqb a s same) (eq-eqb b t here))
        | inr other ↦ ne_eqb (a * states + b) (s * states + t) (λ e. other (same_from_place a b s t states b_in t_in e).1) ∙ sym (and_right _ _ (ne_eqb b t other))
      ]
      | inr other ↦ ne_eqb (a * states + b) (s * states + t) (λ e. other (same_from_place a b s t states b_in t_in e).0) ∙ sym (and_left _ _ (ne_eqb a s other))
    ]

-- ---- the diagonal

-- of the first states, each is related to itself alone, and no other has a pair
abbrev pub IsDiagonal : ℕ → List ℕ → ℕ → Type 0
IsDiagonal states words first = (a b : ℕ) → a < states → b < states → cell_of states words a b ≡ (ltb a first && eqb a b)

-- a cell of the diagonal, and one beside it, when one more state is done
next_on : (b s : ℕ) → ((ltb b s && eqb b b) || (eqb b s && eqb b s)) ≡ (ltb b (s + 1) && eqb b b)
next_on b s =
    elim (cases_lt b s) [
      | inl below ↦ rw (lt-ltb b s below, lt-ltb b (s + 1) (omega arith), eq-eqb b b refl) refl
      | inr above ↦ elim (cases_eq b s) [
        | inl here ↦ rw (le-ltb b s above, lt-ltb b (s + 1) (omega arith), eq-eqb b s here, eq-eqb b b refl) refl
        | inr past ↦ rw (le-ltb b s above, le-ltb b (s + 1) (omega arith), ne_eqb b s past) refl
      ]
    ]

next_off : (a b s : ℕ) → (a ≡ b → ⊥) → ((ltb a s && eqb a b) || (eqb a s && eqb b s)) ≡ (ltb a (s + 1) && eqb a b)
next_off a b s other =
    or_from _ _ (and_right (ltb a s) _ (ne_eqb a b other)) (elim (cases_eq a s) [
      | inl here ↦ and_right (eqb a s) _ (ne_eqb b s (λ e. other (here ∙ sym e)))
      | inr away ↦ and_left (eqb a s) _ (ne_eqb a s away)
    ]) ∙ sym (and_right (ltb a (s + 1)) _ (ne_eqb a b other))

-- one more state
pub diagonal-more : (states s : ℕ) (words more : List ℕ) → s < states → IsDiagonal states words s →
    ((i : ℕ) → has_bit more i ≡ (has_bit words i || eqb i (s * states + s))) → IsDiagonal states more (s + 1)
diagonal-more states s words more s_in before h = λ a b a_in b_in.
    h (a * states + b) ∙ ap (λ old. old || eqb (a * states + b) (s * states + s)) (before a b a_in b_in)
    ∙ ap (λ same. (ltb a s && eqb a b) || same) (eqb-place states a b s s b_in s_in)
    ∙ elim (cases_eq a b) [
      | inl same ↦ rw same (next_on b s)
      | inr other ↦ next_off a b s other
    ]

-- ---- relations

-- a cell is a bit
pub relates-rows_of : (states s t : ℕ) (words : List ℕ) → s < states → t < states → relates (rows_of_bits states words) s t ≡ has_bit words (s * states + t)
relates-rows_of states s t words s_in t_in = relates-rows_by states s t (cell_of states words) s_in t_in

-- the number of states that words show
pub states_shown : (states : ℕ) (words : List ℕ) (rows : List (List Bool)) → rows_of_bits states words ≡ rows → length rows ≡ states
states_shown states words rows e = ap length (sym e) ∙ length-rows_by states (cell_of states words)

-- when all states are done, the pairs are the equal ones
pub diagonal-all : (states last s t : ℕ) (words : List ℕ) → IsDiagonal states words last → states ≤ last → s < states → t < states → relates (rows_of_bits states words) s t ≡ eqb s t
diagonal-all states last s t words h past s_in t_in =
    relates-rows_of states s t words s_in t_in ∙ h s t s_in t_in ∙ ap (λ below. below && eqb s t) (lt-ltb s last (omega arith))

-- what is known of the rows that words show
pub relation-from_words : (states : ℕ) (words : List ℕ) → 0 < states → states ≤ 1024 → ((s : ℕ) → s < states → relates (rows_of_bits states words) s s ≡ true) → IsRelation (rows_of_bits states words)
relation-from_words states words some fit reflexive =
    let len = length-rows_by states (cell_of states words) in
    record {
      some_states = omega (arith, len);
      states_fit = omega (arith, len);
      square = rw len (square-rows_by states (cell_of states words));
      reflexive = λ s below. reflexive s (omega (arith, len));
    }

-- a pair is added, and no other
pub relates-added : (states s t : ℕ) (words more : List ℕ) (rows : List (List Bool)) → rows_of_bits states words ≡ rows → s < length rows → t < length rows →
    ((i : ℕ) → has_bit more i ≡ (has_bit words i || eqb i (s * states + t))) → (a b : ℕ) → relates (rows_of_bits states more) a b ≡ (relates rows a b || (eqb a s && eqb b t))
relates-added states s t words more rows e s_below t_below h a b =
    let len = states_shown states words rows e in
    in_range (omega (arith, len)) (omega (arith, len)) ∙ ap (λ shown. relates shown a b || (eqb a s && eqb b t)) e
  where
    old_square : IsSquare states (rows_of_bits states words)
    old_square = square-rows_by states (cell_of states words)

    new_square : IsSquare states (rows_of_bits states more)
    new_square = square-rows_by states (cell_of states more)

    in_range : s < states → t < states → relates (rows_of_bits states more) a b ≡ (relates (rows_of_bits states words) a b || (eqb a s && eqb b t))
    in_range s_in t_in =
        elim (cases_lt a states) [
          | inl a_in ↦ elim (cases_lt b states) [
            | inl b_in ↦
                relates-rows_of states a b more a_in b_in ∙ h (a * states + b)
                ∙ ap (λ same. has_bit words (a * states + b) || same) (eqb-place states a b s t b_in t_in)
                ∙ ap (λ old. old || (eqb a s && eqb b t)) (sym (relates-rows_of states a b words a_in b_in))
            | inr past ↦
                relates-past_second states a b (rows_of_bits states more) new_square past
                ∙ sym (or_from _ _ (relates-past_second states a b (rows_of_bits states words) old_square past) (and_right _ _ (ne_eqb b t (λ e. omega arith))))
          ]
          | inr past ↦
              relates-past_first states a b (rows_of_bits states more) new_square past
              ∙ sym (or_from _ _ (relates-past_first states a b (rows_of_bits states words) old_square past) (and_left _ _ (ne_eqb a s (λ e. omega arith))))
        ]

-- the relation with one more pair
pub relation-added : (states s t : ℕ) (words more : List ℕ) → IsRelation (rows_of_bits states words) → s < states → t < states →
    ((i : ℕ) → has_bit more i ≡ (has_bit words i || eqb i (s * states + t))) → IsRelation (rows_of_bits states more)
relation-added states s t words more h s_in t_in added =
    let len = length-rows_by states (cell_of states words) in
    relation-from_words states more (omega (arith, h.some_states, len)) (omega (arith, h.states_fit, len)) (λ a a_in.
    relates-added states s t words more (rows_of_bits states words) refl (omega (arith, len)) (omega (arith, len)) added a a
    ∙ or_left _ _ (h.reflexive a (omega (arith, len))))
