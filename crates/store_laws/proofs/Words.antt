-- What a store's objects answer, in the words of its history.
use Rattle.std.proofs.Common.{◌≡◌, ℕ, zero, suc, ◌-◌, ◌<◌, Bool, true, not, ◌&&◌, List, [], ◌∷◌, length, Option, Some, None, is_some, refl, sym, ap, ◌∙◌, arith}
use Rattle.std.specs.Cmp.{both_ways}
use Rattle.std.specs.Option.{option_map}
use Rattle.std.proofs.lemmas.Bool.{lt-ltb}
use Rattle.type_table.specs.Table.{is_same_call}
use Rattle.type_table.specs.Run.{run}
use Rattle.object_trait.specs.Object.{Object}
use Rattle.object_trait.specs.Meaning.{Meaning, object, view_of}
use Rattle.object_trait.specs.Steps.{stopper}
use Rattle.object_trait.specs.declared.event.Event.{Event}
use Rattle.serial_order.specs.History.{summary, is_open}
use Rattle.serial_order.specs.View.{is_legal_for}
use Rattle.serial_order.specs.Represent.{Represents}
use Rattle.serial_order.specs.Answer as order
use Rattle.type_table.specs.Least.{first_below}
use Rattle.serial_order.specs.Answer.{blocker}
use Rattle.serial_order.specs.Machine.{IsRun}
use Rattle.serial_order.specs.Laws.{AllowsAlike, StopperIsBlocker}
use Rattle.serial_order.specs.declared.entry.Entry.{Entry}
use Rattle.object_calls.specs.Answers as calls
use Rattle.object_calls.specs.Answers.{answer_of}
use Rattle.store_laws.specs.Words.{as_event, AnswersAsDefined}

-- the first number that passes is the first that passes a test which agrees
first_below-agree : (n : ℕ) (p q : ℕ → Bool) → ((k : ℕ) → k < n → p k ≡ q k) → first_below n p ≡ first_below n q
first_below-agree zero p q same = refl
first_below-agree (suc n) p q same = rw (first_below-agree n p q (λ k low. same k (omega (arith, low))), same n (omega arith)) refl

-- a map leaves whether there is something
some-map : {A B : Type 0} (f : A → B) (o : Option A) → is_some (option_map f o) ≡ is_some o
some-map f None = refl
some-map f (Some a) = refl

module _ (alike : AllowsAlike) (blocks : StopperIsBlocker) (objects : List Object) (m : Meaning) (x : ℕ) (H : List Event) (t c : ℕ) (run_is : IsRun objects H) (represents : Represents m x H) (open_now : is_open (summary H) t ≡ true) where
  -- the two say the same of who blocks
  blocked : (k : ℕ) → option_map (λ (e : Entry). e.by) (blocker (object m) (summary H) x t k) ≡ stopper m t k
  blocked k = blocks objects H x t k m run_is represents

  -- of what is legal
  legal : (k : ℕ) → is_some (run m.checked.file.table (view_of m t) (k ∷ [])) ≡ is_legal_for (object m) (summary H) x t k
  legal k = let both = alike m x H t k open_now represents in both_ways _ _ (λ is. both.0 is) (λ is. both.1 is)

  -- of which operations are replies
  reply : (k : ℕ) → k < length m.checked.file.table.ops → calls.is_call_reply m t c k ≡ order.is_reply (object m) (summary H) x t c k
  reply k low =
      ap (λ b. is_same_call m.checked.file.table k c && b) (legal k)
      ∙ ap (λ b. (b && is_same_call m.checked.file.table k c) && is_legal_for (object m) (summary H) x t k) (sym (lt-ltb k (length m.checked.file.table.ops) low))

  -- and of which nobody blocks
  free_reply : (k : ℕ) → k < length m.checked.file.table.ops → calls.is_free_answer m t c k ≡ order.is_free_reply (object m) (summary H) x t c k
  free_reply k low =
      ap (λ b. b && not (is_some (stopper m t k))) (reply k low)
      ∙ ap (λ b. order.is_reply (object m) (summary H) x t c k && not b)
      (ap is_some (sym (blocked k)) ∙ some-map (λ (e : Entry). e.by) (blocker (object m) (summary H) x t k))

  -- `Busy` with who blocks
  busy : (o : Option Entry) → as_event t x c (calls.busy_answer (option_map (λ (e : Entry). e.by) o)) ≡ order.busy_with o t x c
  busy None = refl
  busy (Some e) = refl

  -- with the first reply, where there is one
  refused : (found : Option ℕ) → as_event t x c (calls.refused_answer m t c found) ≡ order.refused (object m) (summary H) x t c found
  refused None = refl
  refused (Some k) =
      ap (λ b. as_event t x c (calls.busy_answer b)) (sym (blocked k)) ∙ busy (blocker (object m) (summary H) x t k)

  -- with the first free one, where there is one
  answered : (found : Option ℕ) → as_event t x c (calls.answer_of_first m t c found) ≡ order.event_of_first (object m) (summary H) x t c found
  answered None =
      refused (first_below (length m.checked.file.table.ops) (calls.is_call_reply m t c))
      ∙ ap (order.refused (object m) (summary H) x t c)
      (first_below-agree (length m.checked.file.table.ops) (calls.is_call_reply m t c) (order.is_reply (object m) (summary H) x t c) reply)
  answered (Some k) = refl

  -- the answer
  answer : as_event t x c (answer_of m t c) ≡ order.event_of_call (object m) (summary H) x t c
  answer =
      answered (first_below (length m.checked.file.table.ops) (calls.is_free_answer m t c))
      ∙ ap (order.event_of_first (object m) (summary H) x t c)
      (first_below-agree (length m.checked.file.table.ops) (calls.is_free_answer m t c) (order.is_free_reply (object m) (summary H) x t c) free_reply)

pub answers_as_defined : AllowsAlike → StopperIsBlocker → AnswersAsDefined
answers_as_defined alike blocks = λ objects m x H t c run_is represents open_now. answer alike blocks objects m x H t c run_is represents open_now
