-- The choice of a call's answer: the first operation that is free, or who blocks the first legal one.
use Rattle.std.proofs.Common.{◌≡◌, ℕ, ◌<◌, true, [], ◌∷◌, length, Option, Some, None, is_some, refl, sym, ap, subst, ◌∙◌}
use Rattle.std.specs.Option.{option_or}
use Rattle.std.proofs.lemmas.Option.{none-some}
use Rattle.type_table.specs.Run.{run}
use Rattle.object_trait.specs.Meaning.{Meaning, view_of}
use Rattle.object_trait.specs.Steps.{stopper}
use Rattle.object_trait.specs.Admissions.{admission_of}
use Rattle.object_trait.specs.declared.admission.Admission.{Admission}
use Rattle.object_trait.specs.declared.admission.Admission.TheVariants as admission
use Rattle.object_trait.proofs.Admissions.{illegal_says, free_says, blocked_says}
use Rattle.object_calls.specs.Answers.{busy_answer, answer_of}
use Rattle.object_calls.specs.Asked.{beside, AreLookedAt, IsAskedCall}
use Rattle.object_calls.specs.Lowest.{TakesLowest}
use Rattle.object_calls.specs.declared.answer.Answer.TheVariants as answer
use Rattle.object_calls.specs.declared.call.Call.{Call}
use Rattle.object_calls.proofs.AnswerSearch.{IsSearched, searched_none, next_within, searched_illegal, searched_blocked, reply_answers, busy_answers, none_answers}

-- who keeps t from what was found
abbrev pub keeper_of : Meaning → ℕ → Option ℕ → Option ℕ
keeper_of m t None = None
keeper_of m t (Some k) = stopper m t k

-- the search has found a legal operation that somebody blocks, or none; the blocker is who does
pub record IsChosen (m : Meaning) (t : ℕ) (asked : Call) (left : ℕ) (blocker : Option ℕ) : Type 0 where
  pub found : Option ℕ
  pub searched : IsSearched m t asked left found
  pub blocked : (k : ℕ) → found ≡ Some k → is_some (stopper m t k) ≡ true
  pub named : blocker ≡ keeper_of m t found

-- the first of two stays, where it is somebody
somebody_stays : (who other : Option ℕ) → is_some who ≡ true → option_or who other ≡ who
somebody_stays (Some u) other is = refl
somebody_stays None other is = absurd (cc)

module _ (m : Meaning) (t : ℕ) where
  -- the first of what was found and of one more that is blocked is blocked
  still_blocked : (found : Option ℕ) (k : ℕ) → ((j : ℕ) → found ≡ Some j → is_some (stopper m t j) ≡ true) → is_some (stopper m t k) ≡ true
      → (j : ℕ) → option_or found (Some k) ≡ Some j → is_some (stopper m t j) ≡ true
  still_blocked None k before now j is = let same : k ≡ j = cc in subst (λ q. is_some (stopper m t q) ≡ true) same now
  still_blocked (Some i) k before now j is = before j is

  -- and its blocker is the first one
  still_named : (found blocker : Option ℕ) (k u : ℕ) → blocker ≡ keeper_of m t found → ((j : ℕ) → found ≡ Some j → is_some (stopper m t j) ≡ true) → stopper m t k ≡ Some u
      → option_or blocker (Some u) ≡ keeper_of m t (option_or found (Some k))
  still_named None blocker k u named before now = ap (λ b. option_or b (Some u)) named ∙ sym now
  still_named (Some j) blocker k u named before now = ap (λ b. option_or b (Some u)) named ∙ somebody_stays (stopper m t j) (Some u) (before j refl)

module _ (m : Meaning) (t : ℕ) (asked : Call) where
  -- before the first look
  pub chosen_none : IsChosen m t asked asked.operations None
  chosen_none = record { found = None; searched = searched_none m t asked; blocked = λ k is. absurd (none-some k is); named = refl }

  -- the next look is at the operation at the place of the lowest bit
  module _ (left place after : ℕ) (takes : TakesLowest left place after) (blocker : Option ℕ) (h : IsChosen m t asked left blocker) (k : ℕ) (k_is : k ≡ beside asked.first place) where
    -- it is an operation of the table
    pub choice_within : AreLookedAt m.checked.file.table asked → k < length m.checked.file.table.ops
    choice_within = next_within m t asked left place after takes h.found h.searched k k_is

    module _ (says : Admission) (says_is : says ≡ admission_of m t k) where
      -- it isn't legal
      pub chosen_illegal : says ≡ admission.Illegal → IsChosen m t asked after blocker
      chosen_illegal is =
          let legal = is_some (run m.checked.file.table (view_of m t) (k ∷ [])) in
          let fails = illegal_says legal (stopper m t k) (sym says_is ∙ is) in
          record {
            found = h.found;
            searched = searched_illegal m t asked left place after takes h.found h.searched k k_is legal (λ yes. yes, λ yes. yes) fails;
            blocked = h.blocked;
            named = h.named;
          }

      -- it is legal and blocked
      pub chosen_blocked : (u : ℕ) → says ≡ admission.Blocked u → IsChosen m t asked after (option_or blocker (Some u))
      chosen_blocked u is =
          let both = blocked_says (is_some (run m.checked.file.table (view_of m t) (k ∷ []))) (stopper m t k) u (sym says_is ∙ is) in
          record {
            found = option_or h.found (Some k);
            searched = searched_blocked m t asked left place after takes h.found h.searched k k_is both.0 (stopper m t k) refl (ap is_some both.1);
            blocked = still_blocked m t h.found k h.blocked (ap is_some both.1);
            named = still_named m t h.found blocker k u h.named h.blocked both.1;
          }

      -- it is legal and free
      pub free_answers : says ≡ admission.Free → AreLookedAt m.checked.file.table asked → (c : ℕ) → IsAskedCall m t c asked → answer.Reply k ≡ answer_of m t c
      free_answers is =
          let both = free_says (is_some (run m.checked.file.table (view_of m t) (k ∷ []))) (stopper m t k) (sym says_is ∙ is) in
          reply_answers m t asked left place after takes h.found h.searched k k_is both.0 (stopper m t k) refl (ap is_some both.1)

  -- no place is left
  module _ (left : ℕ) (none_left : left ≡ 0) (inside : AreLookedAt m.checked.file.table asked) (c : ℕ) (asks : IsAskedCall m t c asked) where
    found_answers : (found : Option ℕ) → IsSearched m t asked left found → busy_answer (keeper_of m t found) ≡ answer_of m t c
    found_answers None searched = none_answers m t asked left None searched none_left inside c asks refl
    found_answers (Some k) searched = busy_answers m t asked left (Some k) searched none_left inside c asks k refl

    -- `Busy` with who blocks the first legal one, or `None`
    pub refused_answers : (blocker : Option ℕ) → IsChosen m t asked left blocker → busy_answer blocker ≡ answer_of m t c
    refused_answers blocker h = ap busy_answer h.named ∙ found_answers h.found h.searched
