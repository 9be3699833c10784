-- No state of a set looks like another: what is asked of each element tells them apart.
use Rattle.std.proofs.Common.{◌≡◌, ℕ, ◌+◌, ◌*◌, ◌/◌, ◌%◌, ◌^◌, ◌<◌, eqb, List, length, inl, inr, refl, sym, ◌∙◌, arith}
use Rattle.std.specs.Int.{bit_at}
use Rattle.std.proofs.lemmas.Bool.{cases_eq, eq-eqb, eqb-true}
use Rattle.std.proofs.lemmas.Nat.Bits.{same_from_bits_below}
use Rattle.type_table.specs.Laws.{StepsWithin}
use Rattle.type_table.specs.Table.{Table}
use Rattle.table_maker.specs.Made.{where_legal}
use Rattle.table_families.specs.Set.{set}
use Rattle.table_families.proofs.SetFacts.{length-elements}
use Rattle.made_answers.specs.Laws.{SetsHaveLoneStates}
use Rattle.made_answers.proofs.Alone.{IsLike, passes_there}

-- the two operations that ask for an element
asks_in : (elements : List (List ℕ)) (i s : ℕ) → (set elements).step s (4 * i + 2) ≡ where_legal (eqb (bit_at s i) 1) s
asks_in elements i s =
    let element : (4 * i + 2) / 4 ≡ i = omega arith in
    let place : (4 * i + 2) % 4 ≡ 2 = omega arith in
    rw (element, place) refl

asks_out : (elements : List (List ℕ)) (i s : ℕ) → (set elements).step s (4 * i + 3) ≡ where_legal (eqb (bit_at s i) 0) s
asks_out elements i s =
    let element : (4 * i + 3) / 4 ≡ i = omega arith in
    let place : (4 * i + 3) % 4 ≡ 3 = omega arith in
    rw (element, place) refl

-- so an element is in both or in none
same_bit : StepsWithin → (elements : List (List ℕ)) (T : Table) (s t i : ℕ) → IsLike (set elements) T s t → i < length elements → bit_at s i ≡ bit_at t i
same_bit within elements T s t i like i_in =
    elim (cases_eq (bit_at s i) 1) [
      | inl inside ↦
          let there = passes_there within (set elements) T s t (4 * i + 2) (λ u. eqb (bit_at u i) 1) (λ u. u) like (omega (arith, i_in, length-elements elements))
          (asks_in elements i) (eq-eqb (bit_at s i) 1 inside) in
          inside ∙ sym (eqb-true (bit_at t i) 1 there)
      | inr outside ↦
          let none : bit_at s i ≡ 0 = omega (arith, outside) in
          let there = passes_there within (set elements) T s t (4 * i + 3) (λ u. eqb (bit_at u i) 0) (λ u. u) like (omega (arith, i_in, length-elements elements))
          (asks_out elements i) (eq-eqb (bit_at s i) 0 none) in
          none ∙ sym (eqb-true (bit_at t i) 0 there)
    ]

pub sets_have_lone_states : StepsWithin → SetsHaveLoneStates
sets_have_lone_states within = λ elements file is s t s_in t_in looks.
    let states = is.table.states in
    let first : s < 2 ^ length elements = omega (arith, s_in, states) in
    let second : t < 2 ^ length elements = omega (arith, t_in, states) in
    let like : IsLike (set elements) file.table s t = record { table = is.made.table; of_family = is.table; first = first; second = second; looks = looks } in
    same_from_bits_below (length elements) s t first second (λ i i_in. same_bit within elements file.table s t i like i_in)
