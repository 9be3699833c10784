-- The replies of the operations of a whole transaction.
use Rattle.std.proofs.Common.{◌≡◌, ◌∙◌, ℕ, zero, suc, ◌+◌, ◌<◌, List, [], ◌∷◌, ◌++◌, Option, Some, None, length, map, min, take, get_or, sym, ap, ap₂, arith}
use Rattle.std.proofs.lemmas.List.{length-map, map-append, take_more}
use Rattle.store_laws.specs.Stored.{Stored}
use Rattle.attempts.specs.declared.outcome.AttemptCall.{AttemptCall}
use Rattle.attempts.specs.Commands.{CallAt, asked_call, asked_calls}
use Rattle.serving.specs.Several.{found_reply, replies_of}

pub calls-many : (calls : List AttemptCall) → length (asked_calls calls) ≡ length calls
calls-many calls = length-map calls asked_call

-- as many as there are calls with an operation
pub replies-many : (s : Stored) (calls : List CallAt) (ks : List ℕ) → length (replies_of s calls ks) ≡ min (length calls) (length ks)
replies-many s [] ks = omega arith
replies-many s (call ∷ calls) [] = omega arith
replies-many s (call ∷ calls) (k ∷ ks) = omega (arith, replies-many s calls ks)

-- the reply at a place
pub reply-there : (s : Stored) (calls : List AttemptCall) (ks : List ℕ) (i : ℕ) (c : AttemptCall) (k : ℕ) → i < length calls → i < length ks → k ≡ get_or ks i k
    → get_or (replies_of s (asked_calls calls) ks) i None ≡ found_reply s (get_or calls i c).at (Some k)
reply-there s [] ks i c k low few read = absurd (omega (arith, low))
reply-there s (call ∷ calls) [] i c k low few read = absurd (omega (arith, few))
reply-there s (call ∷ calls) (first ∷ ks) zero c k low few read = ap (λ n. found_reply s call.at (Some n)) (sym read)
reply-there s (call ∷ calls) (first ∷ ks) (suc i) c k low few read = reply-there s calls ks i c k (omega (arith, low)) (omega (arith, few)) read

-- one more is told
pub told-step : (replies : List (Option (List ℕ))) (told : List (List ℕ)) (i : ℕ) (reply : List ℕ) → i < length replies → map Some told ≡ take i replies → get_or replies i None ≡ Some reply
    → map Some (told ++ reply ∷ []) ≡ take (i + 1) replies
told-step replies told i reply low so_far one =
    map-append Some told (reply ∷ []) ∙ ap₂ (λ xs x. xs ++ x ∷ []) so_far (sym one) ∙ sym (take_more replies i None low)

-- of one call that has one operation
pub one-reply : (s : Stored) (calls : List AttemptCall) (ks : List ℕ) (c : AttemptCall) (k : ℕ) → length calls ≡ 1 → length ks ≡ 1 → k ≡ get_or ks 0 k
    → found_reply s (get_or calls 0 c).at (Some k) ∷ [] ≡ replies_of s (asked_calls calls) ks
one-reply s [] ks c k one alone read = absurd (omega (arith, one))
one-reply s (call ∷ calls) [] c k one alone read = absurd (omega (arith, alone))
one-reply s (call ∷ []) (first ∷ []) c k one alone read = ap (λ n. found_reply s call.at (Some n) ∷ []) read
one-reply s (call ∷ []) (first ∷ second ∷ ks) c k one alone read = absurd (omega (arith, alone))
one-reply s (call ∷ next ∷ calls) (first ∷ ks) c k one alone read = absurd (omega (arith, one))
