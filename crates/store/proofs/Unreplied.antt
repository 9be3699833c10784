-- Of the calls with a place one that is answered without a reply.
use Rattle.store_limits.specs.declared.limits.Limits.{Limits}
use Rattle.std.proofs.Common.{◌≡◌, ℕ, true, List, Option, Some, slice_get, sym, ap, subst, ◌∙◌}
use Rattle.std.proofs.lemmas.Option.{same_Some}
use Rattle.type_table.specs.Operation.{place_of}
use Rattle.type_table.specs.Table.{call_of, first_op}
use Rattle.object_trait.specs.Meaning.{Meaning}
use Rattle.object_trait.specs.declared.event.Event.{Event}
use Rattle.serial_order.specs.History.{summary, is_open}
use Rattle.serial_order.specs.Replay.{call_at}
use Rattle.object_calls.specs.Answers.{answer_of}
use Rattle.object_calls.specs.declared.answer.Answer.{Answer}
use Rattle.open_transactions.specs.Transactions.{Row}
use Rattle.store_laws.specs.Stored.{Stored}
use Rattle.store_laws.specs.Kept.{keeping, IsKept}
use Rattle.store_laws.specs.Words.{as_event, AnswersAsDefined}
use Rattle.store_laws.proofs.Objects.{object-at}
use Rattle.store.specs.Follows.{HasAnswer}
use Rattle.store.proofs.Answered.{event-defined}
use Rattle.store.proofs.FollowedOps.{named}
use Rattle.store.proofs.OneAnswer.{answer-of, answer-told}
use Rattle.store.proofs.Stored.{shown}

-- a call with the place has this answer at the object
abbrev IsFound : Meaning → ℕ → Answer → ℕ → Type 0
IsFound m t a c = (first_op m.checked.file.table (call_of m.checked.file.table c) ≡ Some c) × (answer_of m t c ≡ a)

module _ (defined : AnswersAsDefined) (ms : List Meaning) (rows : List (Option Row)) (H : List Event) (limits : Limits) (forgotten : ℕ) (t x : ℕ) (m : Meaning) (a : Answer)
    (kept : IsKept (keeping ms rows) H) (there : slice_get ms x ≡ Some m) (going : is_open (summary H) t ≡ true) where
  found-answered : (c : ℕ) → IsFound m t a c → HasAnswer (shown (keeping ms rows) H limits forgotten) t x c a
  found-answered c is = (
    call_of m.checked.file.table c,
    ap (λ o. call_at o (call_of m.checked.file.table c)) (object-at ms x m there) ∙ is.0,
    event-defined defined ms rows H t x c m kept going there ∙ ap (λ b. Some (as_event t x c b)) is.1,
  )

  answered-found : (c : ℕ) → HasAnswer (shown (keeping ms rows) H limits forgotten) t x c a → IsFound m t a c
  answered-found c is =
      let first : first_op m.checked.file.table is.0 ≡ Some c = sym (ap (λ o. call_at o is.0) (object-at ms x m there)) ∙ is.1 in
      let event : as_event t x c (answer_of m t c) ≡ as_event t x c a =
      same_Some (as_event t x c (answer_of m t c)) (as_event t x c a) (sym (event-defined defined ms rows H t x c m kept going there) ∙ is.2) in (
        ap (first_op m.checked.file.table) (named m.checked.file.table is.0 c first) ∙ first,
        sym (answer-told t x c (answer_of m t c)) ∙ ap answer-of event ∙ answer-told t x c a,
      )

-- what is found at an object is found in the store
pub found-shown : AnswersAsDefined → (ms : List Meaning) (rows : List (Option Row)) (H : List Event) (limits : Limits) (forgotten : ℕ) (s : Stored) (t x place : ℕ) (m : Meaning) (a : Answer) (result : Option ℕ)
    → shown (keeping ms rows) H limits forgotten ≡ s → IsKept (keeping ms rows) H → slice_get ms x ≡ Some m
    → ((d : ℕ) → first_op m.checked.file.table (call_of m.checked.file.table d) ≡ Some d → place_of d ≡ place → answer_of m t d ≡ a
    → (c : ℕ) × (result ≡ Some c) × (first_op m.checked.file.table (call_of m.checked.file.table c) ≡ Some c) × (answer_of m t c ≡ a))
    → is_open (summary s.history) t ≡ true → (d : ℕ) → place_of d ≡ place → HasAnswer s t x d a → (c : ℕ) × (result ≡ Some c) × HasAnswer s t x c a
found-shown defined ms rows H limits forgotten s t x place m a result same kept there finds =
    subst (λ (z : Stored). is_open (summary z.history) t ≡ true → (d : ℕ) → place_of d ≡ place → HasAnswer z t x d a → (c : ℕ) × (result ≡ Some c) × HasAnswer z t x c a) same
    (λ going d placed answered.
    let is = answered-found defined ms rows H limits forgotten t x m a kept there going d answered in
    let found = finds d is.0 placed is.1 in
    (found.0, found.1, found-answered defined ms rows H limits forgotten t x m a kept there going found.0 (found.2, found.3)))
