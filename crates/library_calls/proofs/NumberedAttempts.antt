-- An attempt by the numbers of its calls.
use Rattle.std.proofs.Common.{◌≡◌, ℕ, ◌+◌, ◌<◌, ◌≤◌, List, [], ◌∷◌, ◌++◌, length, take, drop, get_or, set, Some, Result, Ok, Err, slice_get, refl, sym, ap, subst, ◌∙◌, arith}
use Rattle.std.proofs.lemmas.List.{take-append-drop, take_more_set}
use Rattle.serial_order.specs.Laws.{ReplaysJoin}
use Rattle.serial_order.specs.declared.refusal.Refusal.{Refusal}
use Rattle.store_laws.specs.Stored.{Stored, objects}
use Rattle.attempts.specs.Answers.{IsNotBegunFor}
use Rattle.attempts.specs.Commands.{CallAt}
use Rattle.attempts.specs.Made.{CallsAreMade, CallsAreStopped, IsLastCall, HasBegun, EndsCalls}
use Rattle.attempts.specs.Numbered.{named_call, named_calls}
use Rattle.attempts.specs.declared.outcome.Ending.{Ending}
use Rattle.attempts.specs.declared.outcome.Stop.{Stop}
use Rattle.attempts.proofs.Attempts.{done-replays, done-answers, ended-replays, ended-answers}
use Rattle.attempts.proofs.Numbered.{named-many, named-there}
use Rattle.attempts.proofs.Transactions.{made-more, made-all}
use Rattle.library_calls.specs.Attempts.{IsAttemptOf}
use Rattle.library_calls.specs.Attempts as named
use Rattle.library_calls.specs.Codes.{number, code_of}
use Rattle.library_calls.specs.NumberedAttempts.{IsAttemptOfNumbers, done, ended, not_begun, IsAttemptedByNumbers, made, made_count, made_words}
use Rattle.library_calls.specs.declared.code.Code.TheVariants.{Done}
use Rattle.library_calls.specs.declared.words.ColockOutcome.{ColockOutcome}

-- ---- calls, one after another

module _ (s mid : Stored) (w t : ℕ) (xs cs room : List ℕ) (at : ℕ) (low : at < length xs) (same : length cs ≡ length xs)
    (so_far : CallsAreMade s w t (take at (named_calls (objects s) xs cs)) (take at room) mid) where
  -- the next
  there : slice_get (named_calls (objects s) xs cs) at ≡ Some (named_call (objects mid) (get_or xs at 0) (get_or cs at 0))
  there =
      named-there (objects s) xs cs at 0 0 low same ∙ ap (λ os. Some (named_call os (get_or xs at 0) (get_or cs at 0))) (sym (ap objects so_far.replays))

  -- it is made, and its operation is put into the room
  pub filled-more : ReplaysJoin → (now : Stored) (k told : ℕ) → told ≡ k → at < length room
      → CallsAreMade mid w t (named_call (objects mid) (get_or xs at 0) (get_or cs at 0) ∷ []) (k ∷ []) now
      → CallsAreMade s w t (take (at + 1) (named_calls (objects s) xs cs)) (take (at + 1) (set room at told)) now
  filled-more joins now k told is fits one =
      let calls = named_calls (objects s) xs cs in
      let front : take (at + 1) (set room at told) ≡ take at room ++ k ∷ [] = take_more_set room at told fits ∙ ap (λ n. take at room ++ n ∷ []) is in
      subst (λ ks. CallsAreMade s w t (take (at + 1) calls) ks now) (sym front) (made-more joins s mid now w t calls at _ (take at room) k there so_far one)

  -- or they stop at it
  pub stopped-there : (now : Stored) (how : Ending) → IsLastCall mid w t (named_call (objects mid) (get_or xs at 0) (get_or cs at 0)) how now
      → CallsAreStopped s w t (named_calls (objects s) xs cs) (take at room) at how now
  stopped-there now how last = record { before = mid; made = so_far; call = _; there = there; last = last }

-- all of them
pub filled-all : (s now : Stored) (w t : ℕ) (xs cs room : List ℕ) (at : ℕ) → length cs ≡ length xs → at ≡ length xs
    → CallsAreMade s w t (take at (named_calls (objects s) xs cs)) (take at room) now → CallsAreMade s w t (named_calls (objects s) xs cs) (take (length xs) room) now
filled-all s now w t xs cs room at same end so_far =
    let calls = named_calls (objects s) xs cs in
    let many = named-many (objects s) xs cs same in
    subst (λ n. CallsAreMade s w t calls (take n room) now) end (made-all s now w t calls at (take at room) (omega (arith, many, end)) so_far)

-- ---- an attempt

module _ (joins : ReplaysJoin) (old begun now : Stored) (w t : ℕ) (calls : List CallAt) (room filled : List ℕ) (n : ℕ) (many : n ≡ length calls) (its : HasBegun old w t (length calls) begun) where
  -- that began
  attempt-made : (came : Result (Unit {0}) Stop) → EndsCalls begun w t calls (take (made_count n came) filled) came now → drop (made_count n came) filled ≡ drop (made_count n came) room
      → IsAttemptOfNumbers old w calls room (number Done) filled (made_words came) now
  attempt-made (Ok x) did rest =
      let ks = take n filled in
      let as_many : length ks ≡ n = did.as_many ∙ sym many in
      done ks refl (done-answers joins old begun now w t calls its ks did) (done-replays joins old begun now w t calls its ks did) refl
      (sym (take-append-drop n filled) ∙ ap (λ l. ks ++ l) (rest ∙ ap (λ m. drop m room) (sym as_many)))
  attempt-made (Err stop) did rest =
      ended stop.at stop.how refl (ended-answers joins old begun now w t calls its stop.at stop.how did) (ended-replays joins old begun now w t calls its stop.at stop.how did) refl rest

module _ (old begun now : Stored) (w : ℕ) (xs cs room filled : List ℕ) (same : length cs ≡ length xs) (fits : length xs ≤ length room) where
  -- it is told
  pub begun-by-numbers : ReplaysJoin → (t : ℕ) (came : Result (Unit {0}) Stop) (outcome : ColockOutcome) → HasBegun old w t (length xs) begun
      → EndsCalls begun w t (named_calls (objects begun) xs cs) (take (made_count (length xs) came) filled) came now
      → drop (made_count (length xs) came) filled ≡ drop (made_count (length xs) came) room → outcome ≡ made_words came
      → IsAttemptedByNumbers old w xs cs room (number Done) filled outcome now
  begun-by-numbers joins t came outcome its did rest told =
      let calls = named_calls (objects old) xs cs in
      let many : length xs ≡ length calls = sym (named-many (objects old) xs cs same) in
      let here : HasBegun old w t (length calls) begun = subst (λ n. HasBegun old w t n begun) many its in
      let by_name : EndsCalls begun w t calls (take (made_count (length xs) came) filled) came now =
      subst (λ os. EndsCalls begun w t (named_calls os xs cs) (take (made_count (length xs) came) filled) came now) (ap objects its.replays) did
      in
      made same fits
      (subst (λ words. IsAttemptOfNumbers old w calls room (number Done) filled words now) (sym told) (attempt-made joins old begun now w t calls room filled (length xs) many here came by_name rest))

  -- or it isn't begun
  pub not-begun-by-numbers : (r : Refusal) (n : ℕ) (outcome : ColockOutcome) → n ≡ number (code_of (Some r)) → IsNotBegunFor old (length xs) r → now ≡ old → filled ≡ room
      → IsAttemptedByNumbers old w xs cs room n filled outcome now
  not-begun-by-numbers r n outcome is why stays left =
      made same fits (not_begun r is (subst (λ m. IsNotBegunFor old m r) (sym (named-many (objects old) xs cs same)) why) stays left)

-- ---- an attempt of one call

-- what is said of it by its names is said by its numbers
told-by-number : (s later : Stored) (w : ℕ) (calls : List CallAt) (room filled : List ℕ) (n : ℕ) (outcome : ColockOutcome) → IsAttemptOf s w calls room n filled outcome later
    → IsAttemptOfNumbers s w calls room n filled outcome later
told-by-number s later w calls room filled n outcome (named.done ks is did replays words fills) = done ks is did replays words fills
told-by-number s later w calls room filled n outcome (named.ended at how is did replays words left) = ended at how is did replays words (ap (drop at) left)
told-by-number s later w calls room filled n outcome (named.not_begun r is why stays left) = not_begun r is why stays left

pub one-by-number : (s later : Stored) (w x c : ℕ) (xs cs room filled : List ℕ) (n : ℕ) (outcome : ColockOutcome) → length cs ≡ length xs → length xs ≤ length room → xs ≡ x ∷ [] → cs ≡ c ∷ []
    → IsAttemptOf s w (named_call (objects s) x c ∷ []) room n filled outcome later → IsAttemptedByNumbers s w xs cs room n filled outcome later
one-by-number s later w x c xs cs room filled n outcome same fits one its did =
    let calls : named_calls (objects s) xs cs ≡ named_call (objects s) x c ∷ [] = ap (λ ys. named_calls (objects s) ys cs) one ∙ ap (named_calls (objects s) (x ∷ [])) its in
    made same fits
    (subst (λ (ks : List CallAt). IsAttemptOfNumbers s w ks room n filled outcome later) (sym calls) (told-by-number s later w (named_call (objects s) x c ∷ []) room filled n outcome did))

pub still-by-numbers : (s mid later : Stored) (w : ℕ) (xs cs room between filled : List ℕ) (n : ℕ) (outcome : ColockOutcome) → mid ≡ s → between ≡ room
    → IsAttemptedByNumbers mid w xs cs between n filled outcome later → IsAttemptedByNumbers s w xs cs room n filled outcome later
still-by-numbers s mid later w xs cs room between filled n outcome same left did =
    subst (λ (z : Stored). IsAttemptedByNumbers z w xs cs room n filled outcome later) same (subst (λ r. IsAttemptedByNumbers mid w xs cs r n filled outcome later) left did)
