-- What is handed on, and what is gathered.
use Rattle.std.proofs.Common.{◌≡◌, ℕ, ◌+◌, ◌-◌, List, ◌++◌, length, take, drop, Option, None, Ok, ◌==◌, false, sym, ap, ◌∙◌, subst, arith, take-append-drop}
use Rattle.std.proofs.lemmas.List.{take_rest, drop-drop}
use Rattle.std.proofs.Math.Seq.{take-add}
use Rattle.std.proofs.KnownBytes.{Appends-trans, append_known-moved}
use Rattle.std.proofs.lemmas.Bool.Decides.{nat_tests}
use Rattle.std.specs.Io.KnownBytes.{Appends, Keeps, append_known}
use Rattle.outputs.specs.Out.{fault_after}

-- a slice after what is done is all of it
abbrev pub behind : List ℕ → ℕ → List ℕ
behind piece done = take (length piece - done) (drop done piece)

-- some bytes are no fault
pub fault_after-taken : (n : ℕ) (piece : List ℕ) → (n ≡ 0 → ⊥) → fault_after (Ok n) piece ≡ None
fault_after-taken n piece some = let test : (n == 0) ≡ false = grind (arith, nat_tests) in rw test

-- what was done, and a beginning of what comes after it
pub done_more : (a b c : Option (List ℕ)) (piece : List ℕ) (done n : ℕ) → Appends a b (take done piece) → Appends b c (take n (behind piece done))
    → Appends a c (take (done + n) piece)
done_more a b c piece done n front more =
    let split : take (done + n) piece ≡ take done piece ++ take n (behind piece done) =
    take-add done n piece ∙ ap (λ (l : List ℕ). take done piece ++ take n l) (sym (take_rest piece done)) in
    subst (Appends a c) (sym split) (Appends-trans a b c _ _ front more)

-- a beginning of what was waiting is handed on
pub some_passed : (a b : Option (List ℕ)) (shown items : List ℕ) (passed n : ℕ) → shown ≡ items → Appends a b (take n (behind shown passed))
    → Keeps (append_known a (drop passed items)) (append_known b (drop (passed + n) items))
some_passed a b shown items passed n same bytes =
    let whole = subst (λ (l : List ℕ). Appends a b (take n (behind l passed))) same bytes in
    append_known-moved a b (take n (behind items passed)) (drop (passed + n) items) (drop passed items) whole
    (sym (take-append-drop n (drop passed items)) ∙ ap (λ (l : List ℕ). take n l ++ drop n (drop passed items)) (sym (take_rest items passed))
    ∙ ap (λ (l : List ℕ). take n (behind items passed) ++ l) (drop-drop n passed items))
