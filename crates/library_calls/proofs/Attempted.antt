-- What comes of an attempt, in words.
use Rattle.std.proofs.Common.{◌≡◌, ◌==◌, ℕ, ◌≤◌, Bool, true, false, not, List, [], ◌∷◌, filter, length, drop, set, get_or, All, refl, sym, ap, subst, ◌∙◌, inl, inr, arith}
use Rattle.std.specs.List.{zip}
use Rattle.std.specs.List.{list_any}
use Rattle.std.proofs.lemmas.Bool.{cases_Bool, false≢true}
use Rattle.std.proofs.lemmas.List.Folds.{list_any_at}
use Rattle.std.proofs.lemmas.List.Splits.{slice_split_none}
use Rattle.std.proofs.lemmas.Slice.Zip.{length-zip}
use Rattle.line_text.specs.Text.{has_bytes, words_of}
use Rattle.serial_order.specs.History.{begins}
use Rattle.store_laws.specs.Stored.{Stored}
use Rattle.attempts.specs.Answers.{AttemptAnswers}
use Rattle.attempts.specs.Commands.{CallAt, attempt_commands, is_memory_refused_at, commands_replayed}
use Rattle.attempts.specs.Made.{AreDone}
use Rattle.attempts.specs.declared.outcome.Attempt.{Attempt}
use Rattle.attempts.specs.declared.outcome.Attempt.TheVariants.{Done, Ended, NotBegun}
use Rattle.library_calls.specs.Attempts.{FitsRoom, IsAttempted, IsAttemptOf, made, done, ended, not_begun, attempt_code, attempt_words, done_words, filled_room, one_filled}
use Rattle.library_calls.specs.Codes.{number}
use Rattle.library_calls.specs.declared.words.ColockOutcome.{ColockOutcome}

-- where the room has a place for each call it has one for each operation
pub fits-room : (s later : Stored) (w : ℕ) (calls : List CallAt) (came : Attempt) (room : List ℕ) → AttemptAnswers s w calls came later → length calls ≤ length room → FitsRoom came room
fits-room s later w calls (Done ks) room did fits = omega (arith, did.as_many, fits)
fits-room s later w calls (Ended at how) room did fits = tt
fits-room s later w calls (NotBegun r) room none fits = tt

-- no more calls than objects
pub calls-fit : (xs : List ℕ) (names : List (List ℕ)) (calls : List CallAt) (room : List ℕ) → calls ≡ zip xs names → length xs ≤ length room → length calls ≤ length room
calls-fit xs names calls room is fits = subst (λ (cs : List CallAt). length cs ≤ length room) (sym is) (rw (length-zip xs names) (omega (arith, fits)))

-- by what came
module _ (s later : Stored) (w : ℕ) (calls : List CallAt) (room : List ℕ) (outcome : ColockOutcome) where
  pub of-calls : (came : Attempt) (filled : List ℕ) → later ≡ commands_replayed s (is_memory_refused_at came) w (attempt_commands (begins s.history) calls came)
      → AttemptAnswers s w calls came later → filled ≡ filled_room came room → (number (attempt_code came) ≡ 0 → outcome ≡ attempt_words came)
      → IsAttemptOf s w calls room (number (attempt_code came)) filled outcome later
  of-calls (Done ks) filled replays answers operations told = done ks.items refl answers replays (told refl) operations
  of-calls (Ended at how) filled replays answers operations told = ended at how refl answers replays (told refl) operations
  of-calls (NotBegun r) filled replays answers operations told = not_begun r refl answers.0 answers.1 operations

  -- one that is done all at once
  pub of-done : (k : ℕ) (filled : List ℕ) → AreDone s w calls (k ∷ []) later → filled ≡ one_filled k room → outcome ≡ done_words → IsAttemptOf s w calls room 0 filled outcome later
  of-done k filled did fills told = done (k ∷ []) refl did.answers did.replays told fills

-- it is told
pub attempt-made : (s later : Stored) (w : ℕ) (xs names room filled : List ℕ) (outcome : ColockOutcome) (calls : List CallAt) (came : Attempt)
    → length (words_of names) ≡ length xs → calls ≡ zip xs (words_of names) → later ≡ commands_replayed s (is_memory_refused_at came) w (attempt_commands (begins s.history) calls came)
    → AttemptAnswers s w calls came later → filled ≡ filled_room came room → (number (attempt_code came) ≡ 0 → outcome ≡ attempt_words came)
    → IsAttempted s w xs names room (number (attempt_code came)) filled outcome later
attempt-made s later w xs names room filled outcome calls came as_many are replays answers operations told =
    made as_many
    (subst (λ (cs : List CallAt). IsAttemptOf s w cs room (number (attempt_code came)) filled outcome later) are (of-calls s later w calls room outcome came filled replays answers operations told))

-- ---- a text of one word

-- where no element passes
none-any : (p : ℕ → Bool) (xs : List ℕ) → list_any p xs ≡ false → All (λ x. p x ≡ false) xs
none-any p xs none = λ i d low.
    elim (cases_Bool (p (get_or xs i d))) [
      | inl passes ↦ absurd (false≢true (sym none ∙ list_any_at p xs i d low passes))
      | inr fails ↦ fails
    ]

not-true : (b : Bool) → not b ≡ true → b ≡ false
not-true true is = absurd (false≢true is)
not-true false is = refl

-- without a space, it is the word
pub one-word : (names : List ℕ) (bare spaced : Bool) → bare ≡ (length names == 0) → bare ≡ false → spaced ≡ list_any (λ b. b == 32) names → not spaced ≡ true → words_of names ≡ names ∷ []
one-word [] bare spaced is some has free = absurd (false≢true (sym some ∙ is))
one-word (b ∷ bs) bare spaced is some has free =
    ap (filter has_bytes) (slice_split_none (λ c. c == 32) (b ∷ bs) (none-any (λ c. c == 32) (b ∷ bs) (sym has ∙ not-true spaced free)))

-- an attempt of one call is one of the text
pub of-word : (s later : Stored) (w x : ℕ) (xs names room filled : List ℕ) (n : ℕ) (outcome : ColockOutcome) → xs ≡ x ∷ [] → words_of names ≡ names ∷ []
    → IsAttemptOf s w ((x, names) ∷ []) room n filled outcome later → IsAttempted s w xs names room n filled outcome later
of-word s later w x xs names room filled n outcome one word did =
    let pairs : zip xs (words_of names) ≡ (x, names) ∷ [] = ap (λ ns. zip xs ns) word ∙ ap (λ os. zip os (names ∷ [])) one in
    made (ap length word ∙ sym (ap length one)) (subst (λ (cs : List CallAt). IsAttemptOf s w cs room n filled outcome later) (sym pairs) did)

-- a list of one
pub only-one : (xs : List ℕ) (d : ℕ) → length xs ≡ 1 → xs ≡ get_or xs 0 d ∷ []
only-one [] d many = absurd cc
only-one (x ∷ []) d many = refl
only-one (x ∷ (y ∷ xs)) d many = absurd cc

-- its operation is put into the room
pub put-first : (room : List ℕ) (k : ℕ) → 1 ≤ length room → set room 0 k ≡ k ∷ drop 1 room
put-first [] k fits = absurd (omega (arith, fits))
put-first (r ∷ room) k fits = refl

-- where nothing is done all at once nothing has changed
pub still-attempted : (s mid later : Stored) (w : ℕ) (xs names room between filled : List ℕ) (n : ℕ) (outcome : ColockOutcome) → mid ≡ s → between ≡ room
    → IsAttempted mid w xs names between n filled outcome later → IsAttempted s w xs names room n filled outcome later
still-attempted s mid later w xs names room between filled n outcome same left did =
    subst (λ (z : Stored). IsAttempted z w xs names room n filled outcome later) same (subst (λ r. IsAttempted mid w xs names r n filled outcome later) left did)
