-- A search for the answer of a call through the bits of its places, the lowest first.
use Rattle.std.proofs.Common.{◌≡◌, ℕ, suc, ◌<◌, ◌≤◌, Bool, true, false, not, ◌&&◌, ◌==◌, [], ◌∷◌, length, Option, Some, None, is_some, ◌≢◌, ◌↔◌, refl, sym, ap, subst, ◌∙◌, inl, inr, arith}
use Rattle.std.specs.Int.{bit_at}
use Rattle.std.specs.Option.{option_map, option_or}
use Rattle.std.proofs.lemmas.Bool.{cases_lt, cases_eq, and_parts, and_from, and_left, and_right, eq-eqb, eqb-true, false_from_ne_true, iff_false}
use Rattle.std.proofs.lemmas.Nat.Bits.{bit_at-zero}
use Rattle.type_table.specs.Least.{found_or, first_below}
use Rattle.type_table.specs.Operation.{operation_at, place_of, amount_of, operation-again}
use Rattle.type_table.specs.Run.{run}
use Rattle.type_table.specs.Table.{is_same_call}
use Rattle.type_table.proofs.Least.{found_or_false, first_below-skip, first_below-found}
use Rattle.number_types.proofs.FirstOfLine.{operation-ascends}
use Rattle.object_trait.specs.Meaning.{Meaning, view_of}
use Rattle.object_trait.specs.Steps.{IsLegalFor, stopper}
use Rattle.object_calls.specs.Answers.{is_call_reply, is_free_answer, busy_answer, answer_of}
use Rattle.object_calls.specs.Asked.{beside, AreLookedAt, IsAskedCall}
use Rattle.object_calls.specs.Lowest.{TakesLowest}
use Rattle.object_calls.specs.declared.answer.Answer.TheVariants as answer
use Rattle.object_calls.specs.declared.call.Call.{Call}
use Rattle.object_calls.proofs.FirstThrough.{map_found, first_below-through}

-- what is looked at at a place is legal
abbrev is_legal_at : Meaning → ℕ → Call → ℕ → Bool
is_legal_at m t asked place = (bit_at asked.operations place == 1) && is_some (run m.checked.file.table (view_of m t) (beside asked.first place ∷ []))

-- and free
abbrev is_free_at : Meaning → ℕ → Call → ℕ → Bool
is_free_at m t asked place = is_legal_at m t asked place && not (is_some (stopper m t (beside asked.first place)))

-- the places below `done` were looked at, and those of the asked call from there on are left: what was found is the first legal one, and
-- none of them is free
pub record IsSearched (m : Meaning) (t : ℕ) (asked : Call) (left : ℕ) (found : Option ℕ) : Type 0 where
  pub done : ℕ
  pub within : done ≤ 64
  pub below : (q : ℕ) → q < done → bit_at left q ≡ 0
  pub rest : (q : ℕ) → q < 64 → done ≤ q → bit_at left q ≡ bit_at asked.operations q
  pub first : found ≡ option_map (beside asked.first) (first_below done (is_legal_at m t asked))
  pub none_free : first_below done (is_free_at m t asked) ≡ None

-- the places of a word's bits, by a name: a search through 64 places would be written out
unfoldable word_bits : ℕ
word_bits = 64

word_bits-is : word_bits ≡ 64
unfolding word_bits
word_bits-is = refl

-- where nothing is mapped there is nothing
none-mapped : {A B : Type 0} (f : A → B) (found : Option A) → None ≡ option_map f found → found ≡ None
none-mapped f None is = refl
none-mapped f (Some a) is = absurd (cc)

-- ---- places of the word, and operations of the call

-- a later place is a greater number
beside-ascends : (c p q : ℕ) → p < q → beside c p < beside c q
beside-ascends c p q less = operation-ascends p q (amount_of c) less

module _ (m : Meaning) (t : ℕ) (asked : Call) where
  -- what is legal at a place of the word
  legal_parts : (p : ℕ) → is_legal_at m t asked p ≡ true → (bit_at asked.operations p ≡ 1) × IsLegalFor m t (beside asked.first p)
  legal_parts p is =
      let parts = and_parts (bit_at asked.operations p == 1) (is_some (run m.checked.file.table (view_of m t) (beside asked.first p ∷ []))) is in
      (eqb-true (bit_at asked.operations p) 1 parts.0, parts.1)

  legal_at : (p : ℕ) → bit_at asked.operations p ≡ 1 → IsLegalFor m t (beside asked.first p) → is_legal_at m t asked p ≡ true
  legal_at p has legal = rw (eq-eqb (bit_at asked.operations p) 1 has, legal) refl

  -- at other places nothing is
  no_place : (p : ℕ) → bit_at asked.operations p ≡ 0 → is_legal_at m t asked p ≡ false
  no_place p has = and_left (bit_at asked.operations p == 1) (is_some (run m.checked.file.table (view_of m t) (beside asked.first p ∷ []))) (ap (λ b. b == 1) has)

  -- and what isn't legal isn't free
  not_free : (p : ℕ) → is_legal_at m t asked p ≡ false → is_free_at m t asked p ≡ false
  not_free p silent = and_left (is_legal_at m t asked p) (not (is_some (stopper m t (beside asked.first p)))) silent

  module _ (inside : AreLookedAt m.checked.file.table asked) (c : ℕ) (h : IsAskedCall m t c asked) where
    -- a reply is at a place of the word
    reply_at : (k : ℕ) → is_call_reply m t c k ≡ true → (p : ℕ) × (p < word_bits) × (is_legal_at m t asked p ≡ true) × (beside asked.first p ≡ k)
    reply_at k is =
        let parts = and_parts (is_same_call m.checked.file.table k c) (is_some (run m.checked.file.table (view_of m t) (k ∷ []))) is in
        let at = h.covers k parts.0 parts.1 in
        let same : beside asked.first (place_of k) ≡ k = ap (operation_at (place_of k)) (sym at.0) ∙ operation-again k in
        (place_of k, omega (arith, at.1, word_bits-is), legal_at (place_of k) at.2 (subst (λ q. IsLegalFor m t q) (sym same) parts.1), same)

    -- and what is legal at such a place is a reply
    reply_there : (p : ℕ) → p < word_bits → is_legal_at m t asked p ≡ true → (beside asked.first p < length m.checked.file.table.ops) × (is_call_reply m t c (beside asked.first p) ≡ true)
    reply_there p low is =
        let few : p < 64 = omega (arith, low, word_bits-is) in
        let parts = legal_parts p is in (
          inside p few parts.0,
          and_from (is_same_call m.checked.file.table (beside asked.first p) c) (is_some (run m.checked.file.table (view_of m t) (beside asked.first p ∷ []))) (h.of_call p few parts.0 parts.1) parts.1,
        )

    -- so the first reply is that at the first place
    first_reply : first_below (length m.checked.file.table.ops) (is_call_reply m t c) ≡ option_map (beside asked.first) (first_below word_bits (is_legal_at m t asked))
    first_reply =
        first_below-through (is_call_reply m t c) (is_legal_at m t asked) (beside asked.first) (length m.checked.file.table.ops) word_bits (beside-ascends asked.first)
        (λ k below is. reply_at k is) reply_there

    -- and so is the first free one
    first_free_reply : first_below (length m.checked.file.table.ops) (is_free_answer m t c) ≡ option_map (beside asked.first) (first_below word_bits (is_free_at m t asked))
    first_free_reply =
        first_below-through (is_free_answer m t c) (is_free_at m t asked) (beside asked.first) (length m.checked.file.table.ops) word_bits (beside-ascends asked.first)
        (λ k below is.
        let parts = and_parts (is_call_reply m t c k) (not (is_some (stopper m t k))) is in
        let at = reply_at k parts.0 in
        let free = subst (λ q. not (is_some (stopper m t q)) ≡ true) (sym at.3) parts.1 in
        (at.0, at.1, and_from (is_legal_at m t asked at.0) (not (is_some (stopper m t (beside asked.first at.0)))) at.2 free, at.3))
        (λ p low is.
        let parts = and_parts (is_legal_at m t asked p) (not (is_some (stopper m t (beside asked.first p)))) is in
        let at = reply_there p low parts.0 in
        (at.0, and_from (is_call_reply m t c (beside asked.first p)) (not (is_some (stopper m t (beside asked.first p)))) at.1 parts.1))

-- ---- the search

module _ (m : Meaning) (t : ℕ) (asked : Call) where
  -- before the first look
  pub searched_none : IsSearched m t asked asked.operations None
  searched_none = record { done = 0; within = omega arith; below = λ q low. absurd (omega (arith, low)); rest = λ q low from. refl; first = refl; none_free = refl }

  -- the next look is at the operation at the place of the lowest bit
  module _ (left place after : ℕ) (takes : TakesLowest left place after) (found : Option ℕ) (h : IsSearched m t asked left found) where
    -- none below `done` is left
    new : h.done ≤ place
    new =
        elim (cases_lt place h.done) [
          | inl low ↦ absurd (omega (arith, takes.has, h.below place low))
          | inr past ↦ past
        ]

    -- what is left is asked for
    has : bit_at asked.operations place ≡ 1
    has = sym (h.rest place takes.within new) ∙ takes.has

    -- nothing is legal at those that it passes over
    passed_over : (q : ℕ) → h.done ≤ q → q < place → is_legal_at m t asked q ≡ false
    passed_over q from less = no_place m t asked q (sym (h.rest q (omega (arith, less, takes.within)) from) ∙ takes.lowest q less)

    -- so below it nothing else is found
    legal_before : first_below place (is_legal_at m t asked) ≡ first_below h.done (is_legal_at m t asked)
    legal_before = first_below-skip (is_legal_at m t asked) h.done place new passed_over

    none_free_before : first_below place (is_free_at m t asked) ≡ None
    none_free_before = first_below-skip (is_free_at m t asked) h.done place new (λ q from less. not_free m t asked q (passed_over q from less)) ∙ h.none_free

    -- it isn't free
    searched_next : (legal : Bool) (now : Option ℕ) → is_legal_at m t asked place ≡ legal → is_free_at m t asked place ≡ false →
        now ≡ option_map (beside asked.first) (found_or (first_below h.done (is_legal_at m t asked)) legal place) → IsSearched m t asked after now
    searched_next legal now is_legal taken now_is =
        record {
          done = suc place;
          within = omega (arith, takes.within);
          below = λ q low.
              elim (cases_eq q place) [
                | inl same ↦ ap (bit_at after) same ∙ takes.taken
                | inr other ↦ takes.others q (omega (arith, low, takes.within)) other ∙ takes.lowest q (omega (arith, low, other))
              ];
          rest = λ q low from.
              let other : q ≢ place = λ same. omega (arith, same, from) in
              takes.others q low other ∙ h.rest q low (omega (arith, from, new));
          first = now_is ∙ ap (option_map (beside asked.first)) (sym (rw (legal_before, is_legal) refl));
          none_free = rw (none_free_before, taken) refl;
        }

    module _ (k : ℕ) (k_is : k ≡ beside asked.first place) where
      -- it is an operation of the table
      pub next_within : AreLookedAt m.checked.file.table asked → k < length m.checked.file.table.ops
      next_within inside = omega (arith, k_is, inside place takes.within has)

      -- it isn't legal
      pub searched_illegal : (legal : Bool) → ((legal ≡ true) ↔ IsLegalFor m t k) → legal ≡ false → IsSearched m t asked after found
      searched_illegal legal says fails =
          let illegal : is_legal_at m t asked place ≡ false =
          false_from_ne_true (is_legal_at m t asked place) (λ is. iff_false says fails (subst (λ q. IsLegalFor m t q) (sym k_is) (legal_parts m t asked place is).1)) in
          searched_next false found illegal (not_free m t asked place illegal)
          (h.first ∙ ap (option_map (beside asked.first)) (sym (found_or_false (first_below h.done (is_legal_at m t asked)) place)))

      -- it is legal, and nothing was found before
      pub found_replies : IsLegalFor m t k → found ≡ None → AreLookedAt m.checked.file.table asked → (c : ℕ) → IsAskedCall m t c asked
          → Some k ≡ first_below (length m.checked.file.table.ops) (is_call_reply m t c)
      found_replies legal nothing inside c asks =
          let there : is_legal_at m t asked place ≡ true = legal_at m t asked place has (subst (λ q. IsLegalFor m t q) k_is legal) in
          let none_before : first_below place (is_legal_at m t asked) ≡ None =
          legal_before ∙ none-mapped (beside asked.first) (first_below h.done (is_legal_at m t asked)) (sym nothing ∙ h.first) in
          let found_first : first_below word_bits (is_legal_at m t asked) ≡ Some place =
          first_below-found (is_legal_at m t asked) place word_bits none_before there (omega (arith, takes.within, word_bits-is)) in
          sym (first_reply m t asked inside c asks ∙ ap (option_map (beside asked.first)) found_first ∙ ap Some (sym k_is))

      module _ (legal : IsLegalFor m t k) (who : Option ℕ) (who_is : who ≡ stopper m t k) where
        legal_there : is_legal_at m t asked place ≡ true
        legal_there = legal_at m t asked place has (subst (λ q. IsLegalFor m t q) k_is legal)

        who_there : is_some who ≡ is_some (stopper m t (beside asked.first place))
        who_there = ap is_some who_is ∙ ap (λ q. is_some (stopper m t q)) k_is

        -- it is legal and blocked
        pub searched_blocked : is_some who ≡ true → IsSearched m t asked after (option_or found (Some k))
        searched_blocked somebody =
            searched_next true (option_or found (Some k)) legal_there
            (and_right (is_legal_at m t asked place) (not (is_some (stopper m t (beside asked.first place)))) (ap not (sym who_there ∙ somebody)))
            (ap (λ o. option_or o (Some k)) h.first ∙ ap (λ q. option_or (option_map (beside asked.first) (first_below h.done (is_legal_at m t asked))) (Some q)) k_is
            ∙ map_found (beside asked.first) (first_below h.done (is_legal_at m t asked)) place)

        -- it is legal and free
        pub reply_answers : is_some who ≡ false → AreLookedAt m.checked.file.table asked → (c : ℕ) → IsAskedCall m t c asked → answer.Reply k ≡ answer_of m t c
        reply_answers nobody inside c asks =
            let free : is_free_at m t asked place ≡ true =
            and_from (is_legal_at m t asked place) (not (is_some (stopper m t (beside asked.first place)))) legal_there (ap not (sym who_there ∙ nobody)) in
            let found_first : first_below word_bits (is_free_at m t asked) ≡ Some place =
            first_below-found (is_free_at m t asked) place word_bits none_free_before free (omega (arith, takes.within, word_bits-is)) in
            let first : first_below (length m.checked.file.table.ops) (is_free_answer m t c) ≡ Some k =
            first_free_reply m t asked inside c asks ∙ ap (option_map (beside asked.first)) found_first ∙ ap Some (sym k_is) in
            rw first refl

  -- no place is left
  module _ (left : ℕ) (found : Option ℕ) (h : IsSearched m t asked left found) (none_left : left ≡ 0) where
    -- nothing is legal at those that weren't looked at
    silent_after : (q : ℕ) → h.done ≤ q → q < word_bits → is_legal_at m t asked q ≡ false
    silent_after q from low =
        no_place m t asked q (sym (h.rest q (omega (arith, low, word_bits-is)) from) ∙ ap (λ word. bit_at word q) none_left ∙ bit_at-zero q)

    -- so what was found is the first of all, and none is free
    first_of_all : found ≡ option_map (beside asked.first) (first_below word_bits (is_legal_at m t asked))
    first_of_all =
        h.first
        ∙ ap (option_map (beside asked.first)) (sym (first_below-skip (is_legal_at m t asked) h.done word_bits (omega (arith, h.within, word_bits-is)) silent_after))

    none_free_of_all : first_below word_bits (is_free_at m t asked) ≡ None
    none_free_of_all =
        first_below-skip (is_free_at m t asked) h.done word_bits (omega (arith, h.within, word_bits-is))
        (λ q from low. not_free m t asked q (silent_after q from low))
        ∙ h.none_free

    module _ (inside : AreLookedAt m.checked.file.table asked) (c : ℕ) (asks : IsAskedCall m t c asked) where
      none_free_replies : first_below (length m.checked.file.table.ops) (is_free_answer m t c) ≡ None
      none_free_replies = first_free_reply m t asked inside c asks ∙ ap (option_map (beside asked.first)) none_free_of_all

      first_found : first_below (length m.checked.file.table.ops) (is_call_reply m t c) ≡ found
      first_found = first_reply m t asked inside c asks ∙ sym first_of_all

      -- so where none was found, none is legal
      pub none_replies : found ≡ None → None ≡ first_below (length m.checked.file.table.ops) (is_call_reply m t c)
      none_replies nothing = sym (first_found ∙ nothing)

      -- `Busy` with who blocks the first legal one
      pub busy_answers : (k : ℕ) → found ≡ Some k → busy_answer (stopper m t k) ≡ answer_of m t c
      busy_answers k is = rw (none_free_replies, first_found, is) refl

      -- or `None`
      pub none_answers : found ≡ None → answer.None ≡ answer_of m t c
      none_answers is = rw (none_free_replies, first_found, is) refl
