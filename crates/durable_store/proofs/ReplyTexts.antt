-- The replies of a whole transaction, word by word.
use Rattle.std.proofs.Common.{◌≡◌, ◌∙◌, ◌<◌, ◌≤◌, ◌⊎◌, inl, inr, ℕ, zero, suc, false, get_or, List, [], ◌∷◌, ◌++◌, length, take, Some, slice_get, refl, sym, ap, arith}
use Rattle.std.specs.Prelude.{◌==◌, min, nat_le}
use Rattle.std.proofs.lemmas.Bool.{cases_Bool}
use Rattle.std.proofs.lemmas.Bool.Decides.{nat_tests}
use Rattle.std.specs.List.{join_with_byte}
use Rattle.std.proofs.lemmas.List.{append_assoc}
use Rattle.std.specs.Option.{option_map}
use Rattle.std.proofs.lemmas.Option.{same_Some, slice_get-get_or, slice_get-map, slice_get_read}
use Rattle.store_laws.specs.Stored.{Stored}
use Rattle.attempts.specs.declared.outcome.AttemptCall.{AttemptCall}
use Rattle.attempts.specs.Commands.{CallAt, asked_call, asked_calls}
use Rattle.durable_store.specs.Keys.{op_of_object, reply_word, reply_words, spaced_word}

-- the word of a call is at its place
pub word-at : (s : Stored) (calls : List CallAt) (ks : List ℕ) (n : ℕ) (call : CallAt) (k : ℕ) → slice_get calls n ≡ Some call → slice_get ks n ≡ Some k
    → slice_get (reply_words s calls ks) n ≡ Some (reply_word (op_of_object s (call.0) k))
word-at s [] ks n call k there its = absurd (let none = there in cc)
word-at s (c ∷ calls) [] n call k there its = absurd (let none = its in cc)
word-at s (c ∷ calls) (j ∷ ks) zero call k there its = ap (λ (c : CallAt). Some (reply_word (op_of_object s (c.0) j))) (same_Some _ _ there) ∙ ap (λ (j : ℕ). Some (reply_word (op_of_object s (call.0) j))) (same_Some _ _ its)
word-at s (c ∷ calls) (j ∷ ks) (suc n) call k there its = word-at s calls ks n call k there its

-- there are no more words than calls, or than operations
pub words-fit : (s : Stored) (calls : List CallAt) (ks : List ℕ) (n : ℕ) → (length calls ≤ n) ⊎ (length ks ≤ n) → take n (reply_words s calls ks) ≡ reply_words s calls ks
words-fit s [] ks zero few = refl
words-fit s [] ks (suc n) few = refl
words-fit s (call ∷ calls) [] zero few = refl
words-fit s (call ∷ calls) [] (suc n) few = refl
words-fit s (call ∷ calls) (k ∷ ks) zero few = absurd (elim few [ inl h ↦ omega (arith, h) | inr h ↦ omega (arith, h) ])
words-fit s (call ∷ calls) (k ∷ ks) (suc n) few =
    ap (λ ws. reply_word (op_of_object s (call.0) k) ∷ ws) (words-fit s calls ks n (elim few [ inl h ↦ inl (omega (arith, h)) | inr h ↦ inr (omega (arith, h)) ]))

-- one of two is reached where the smaller is
pub few-of : (a b n : ℕ) → min a b ≤ n → (a ≤ n) ⊎ (b ≤ n)
few-of a b n few = elim (cases_Bool (nat_le a b)) [
  | inl less ↦ inl (grind (arith, nat_tests))
  | inr more ↦ inr (grind (arith, nat_tests))
]

-- one more word comes behind a space
joined-behind : (x : List ℕ) (xs : List (List ℕ)) (w : List ℕ) → join_with_byte 32 (x ∷ (xs ++ w ∷ [])) ≡ join_with_byte 32 (x ∷ xs) ++ 32 ∷ w
joined-behind x [] w = refl
joined-behind x (y ∷ xs) w = ap (λ t. x ++ 32 ∷ t) (joined-behind y xs w) ∙ sym (append_assoc x (32 ∷ join_with_byte 32 (y ∷ xs)) (32 ∷ w))

-- the first words, and one more
take-more : (ws : List (List ℕ)) (n : ℕ) (w : List ℕ) → slice_get ws n ≡ Some w → take (suc n) ws ≡ take n ws ++ w ∷ []
take-more [] n w there = absurd (let none = there in cc)
take-more (x ∷ ws) zero w there = ap (λ (x : List ℕ). x ∷ []) (same_Some _ _ there)
take-more (x ∷ ws) (suc n) w there = ap (λ more. x ∷ more) (take-more ws n w there)

-- which is the first one or comes behind a space
pub joined-next : (ws : List (List ℕ)) (n : ℕ) (w : List ℕ) → slice_get ws n ≡ Some w → join_with_byte 32 (take (suc n) ws) ≡ join_with_byte 32 (take n ws) ++ spaced_word (n == 0) w
joined-next [] n w there = absurd (let none = there in cc)
joined-next (x ∷ ws) zero w there = same_Some _ _ there
joined-next (x ∷ ws) (suc n) w there =
    let later : (suc n == 0) ≡ false = grind (arith, nat_tests) in
    ap (λ more. join_with_byte 32 (x ∷ more)) (take-more ws n w there) ∙ joined-behind x (take n ws) w ∙ ap (λ first. join_with_byte 32 (x ∷ take n ws) ++ spaced_word first w) (sym later)

-- the word of the call at this place of those that are asked
pub asked-at : (s : Stored) (calls : List AttemptCall) (ks : List ℕ) (n : ℕ) (d : AttemptCall) (k : ℕ) → n < length calls → n < length ks → k ≡ get_or ks n k
    → slice_get (reply_words s (asked_calls calls) ks) n ≡ Some (reply_word (op_of_object s (get_or calls n d).at k))
asked-at s calls ks n d k inside within read =
    word-at s (asked_calls calls) ks n (asked_call (get_or calls n d)) k
    (slice_get-map asked_call calls n ∙ ap (option_map asked_call) (slice_get-get_or calls n d inside))
    (slice_get_read ks (length ks) n k refl within read)
