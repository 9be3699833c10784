-- What is known stays so, or is let go.
use Rattle.std.proofs.Common.{◌≡◌, ◌≤◌, ◌⊎◌, ℕ, ◌+◌, ◌-◌, ◌==◌, Some, None, false, true, refl, sym, ap, ◌∙◌, inl, inr, arith, Bool}
use Rattle.std.proofs.lemmas.Bool.{cases_eq, ltb-true, ne_eqb}
use Rattle.std.proofs.lemmas.Option.{none-some}
use Rattle.transaction_key.specs.TransactionKey.{key_place}
use Rattle.journal.specs.declared.outcome_row.KeyedOutcome.{KeyedOutcome}
use Rattle.journal.specs.Outcomes.{Outcomes, StaysKnown, is_let_go, let_go, outcomes_with}

pub stays-same : (all : Outcomes) → StaysKnown all all
stays-same all = record { least = refl; more = omega arith; each = λ n kept is. inl (is, refl) }

pub stays-then : {a b c : Outcomes} → StaysKnown a b → StaysKnown b c → StaysKnown a c
stays-then {a} {b} {c} first second = record {
  least = second.least ∙ first.least;
  more = let one = first.more in let two = second.more in omega (arith, one, two);
  each = λ n kept is. elim (first.each n kept is) [
    | inl there ↦ elim (second.each n kept there.0) [
      | inl still ↦ inl (still.0, still.1 ∙ there.1)
      | inr gone ↦ inr (let same = there.1 in let least = first.least in omega (arith, gone, same, least))
    ]
    | inr gone ↦ inr (let two = second.more in omega (arith, gone, two))
  ];
}

-- one more is kept, at a place where nothing was
pub stays-with : (all : Outcomes) (o : KeyedOutcome) → all.at (key_place o.key) ≡ None → StaysKnown all (outcomes_with all o)
stays-with all o free = record {
  least = refl;
  more = omega arith;
  each = λ n kept is. elim (cases_eq n (key_place o.key)) [
    | inl same ↦ absurd (none-some kept (sym free ∙ ap all.at (sym same) ∙ is))
    | inr differs ↦ let none : (n == key_place o.key) ≡ false = ne_eqb n (key_place o.key) differs in inl (rw none is, rw none refl)
  ];
}

-- some are let go
pub stays-let-go : (all : Outcomes) → StaysKnown all (let_go all)
stays-let-go all = record {
  least = refl;
  more = omega arith;
  each = λ n kept is. by n kept is (is_let_go all n) refl;
}
  where
    by : (n : ℕ) (kept : KeyedOutcome) → all.at n ≡ Some kept → (b : Bool) → is_let_go all n ≡ b → (((let_go all).at n ≡ Some kept) × ((let_go all).numbers n ≡ all.numbers n)) ⊎ (all.numbers n + all.least ≤ (let_go all).next)
    by n kept is true gone = inr (let low = ltb-true (all.numbers n) (all.next - all.least) gone in omega (arith, low))
    by n kept is false stays = inl (rw stays is, rw stays refl)

-- what wasn't known isn't then
pub let-go-none : (all : Outcomes) (n : ℕ) → all.at n ≡ None → (let_go all).at n ≡ None
let-go-none all n none = by (is_let_go all n) refl
  where
    by : (b : Bool) → is_let_go all n ≡ b → (let_go all).at n ≡ None
    by true gone = rw gone refl
    by false stays = rw stays none
