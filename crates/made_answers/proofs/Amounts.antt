-- Accounts, counters and stocks are numeric.
use Rattle.std.proofs.Common.{◌≡◌, ℕ, zero, suc, ◌+◌, ◌*◌, ◌-◌, ◌/◌, ◌%◌, ◌≤◌, Bool, true, false, cond, ltb, eqb, codes, List, length, Option, inl, inr, refl, arith}
use Rattle.std.proofs.lemmas.Bool.{ltb-true, ltb-false}
use Rattle.std.proofs.lemmas.Bool.Decides.{nat_tests}
use Rattle.type_table.specs.Laws.{StepsWithin}
use Rattle.escrow_laws.specs.Laws.{BoundsAreTold}
use Rattle.escrow_laws.specs.declared.bounded.Bounded.{Bounded}
use Rattle.table_maker.specs.Made.{where_legal}
use Rattle.table_families.specs.Account.{account}
use Rattle.table_families.specs.Amounts.{AreAmounts, amount_at, amount_step}
use Rattle.table_families.specs.Counter.{change_step, counter}
use Rattle.table_families.specs.Stock.{stock}
use Rattle.table_families.proofs.AccountFacts.{length-account}
use Rattle.table_families.proofs.AmountFacts.{length-amounts}
use Rattle.table_families.proofs.CounterFacts.{length-changes}
use Rattle.made_answers.specs.Laws.{AmountsAreAccepted}
use Rattle.made_answers.proofs.Numeric.{AreAnswered, AreBoundsOf, IsBoundedFamily, for_each_kind}

-- ---- the operations of an amount

-- it is put in up to the cap, or there is no room; it is taken out down to 0, or there is too little
abbrev amount_bounds : ℕ → ℕ → ℕ → Bounded
amount_bounds cap a zero = record { low = 0; high = cap - a; gives = a; takes = 0 }
amount_bounds cap a (suc zero) = record { low = cap - a + 1; high = cap; gives = 0; takes = 0 }
amount_bounds cap a (suc (suc zero)) = record { low = a; high = cap; gives = 0; takes = a }
amount_bounds cap a (suc (suc (suc j))) = record { low = 0; high = a - 1; gives = 0; takes = 0 }

amount_are : (cap a j : ℕ) → 1 ≤ a → a ≤ cap → AreBoundsOf cap (amount_step cap a j) (amount_bounds cap a j)
amount_are cap a zero some fits = record {
  steps = λ s s_in. grind (arith, nat_tests);
  within = record { enough = omega arith; legal = omega arith; room = omega (arith, fits) };
  one_way = record { somewhere = omega arith; one_way = inr refl };
}
amount_are cap a (suc zero) some fits = record {
  steps = λ s s_in. grind (arith, nat_tests);
  within = record { enough = omega arith; legal = omega arith; room = omega arith };
  one_way = record { somewhere = omega (arith, some, fits); one_way = inr refl };
}
amount_are cap a (suc (suc zero)) some fits = record {
  steps = λ s s_in. grind (arith, nat_tests);
  within = record { enough = omega arith; legal = omega arith; room = omega arith };
  one_way = record { somewhere = fits; one_way = inl refl };
}
amount_are cap a (suc (suc (suc j))) some fits = record {
  steps = λ s s_in. grind (arith, nat_tests);
  within = record { enough = omega arith; legal = omega (arith, fits); room = omega (arith, fits) };
  one_way = record { somewhere = omega arith; one_way = inr refl };
}

-- a counter has the first of them and the third
abbrev change_bounds : ℕ → ℕ → ℕ → Bounded
change_bounds cap a zero = amount_bounds cap a 0
change_bounds cap a (suc j) = amount_bounds cap a 2

change_are : (cap a j : ℕ) → 1 ≤ a → a ≤ cap → AreBoundsOf cap (change_step cap a j) (change_bounds cap a j)
change_are cap a zero some fits = amount_are cap a 0 some fits
change_are cap a (suc j) some fits = amount_are cap a 2 some fits

-- ---- balances

-- one is legal at its state alone
abbrev balance_bounds : ℕ → Bounded
balance_bounds b = record { low = b; high = b; gives = 0; takes = 0 }

balance_are : (cap b : ℕ) → b ≤ cap → AreBoundsOf cap (λ s. where_legal (eqb b s) s) (balance_bounds b)
balance_are cap b fits = record {
  steps = λ s s_in. grind (arith, nat_tests);
  within = record { enough = omega arith; legal = fits; room = omega (arith, fits) };
  one_way = record { somewhere = omega arith; one_way = inl refl };
}

-- an operation of an amount or of a balance
either_are : (cap : ℕ) (b : Bool) (f g : ℕ → Option ℕ) (x y : Bounded) → (b ≡ true → AreBoundsOf cap f x) → (b ≡ false → AreBoundsOf cap g y)
    → AreBoundsOf cap (λ s. cond b (f s) (g s)) (cond b x y)
either_are cap true f g x y first second = first refl
either_are cap false f g x y first second = second refl

-- ---- the families

abbrev stock_bounds : ℕ → List ℕ → ℕ → Bounded
stock_bounds cap amounts k = amount_bounds cap (amount_at amounts (k / 4)) (k % 4)

stocks : (cap : ℕ) (amounts : List ℕ) → AreAmounts cap amounts → IsBoundedFamily (stock cap amounts) cap (stock_bounds cap amounts)
stocks cap amounts good = record {
  states = refl;
  each = λ k k_in.
      let amount = good.each (k / 4) (omega (arith, k_in, length-amounts (codes "give:") (codes "take:") amounts)) in
      amount_are cap (amount_at amounts (k / 4)) (k % 4) amount.0 amount.1;
}

abbrev counter_bounds : ℕ → List ℕ → ℕ → Bounded
counter_bounds cap amounts k = change_bounds cap (amount_at amounts (k / 2)) (k % 2)

counters : (cap : ℕ) (amounts : List ℕ) → AreAmounts cap amounts → IsBoundedFamily (counter cap amounts) cap (counter_bounds cap amounts)
counters cap amounts good = record {
  states = refl;
  each = λ k k_in.
      let amount = good.each (k / 2) (omega (arith, k_in, length-changes amounts)) in
      change_are cap (amount_at amounts (k / 2)) (k % 2) amount.0 amount.1;
}

abbrev account_bounds : ℕ → List ℕ → ℕ → Bounded
account_bounds cap amounts k = cond (ltb k (4 * length amounts)) (stock_bounds cap amounts k) (balance_bounds (k - 4 * length amounts))

accounts : (cap : ℕ) (amounts : List ℕ) → AreAmounts cap amounts → IsBoundedFamily (account cap amounts) cap (account_bounds cap amounts)
accounts cap amounts good = record {
  states = refl;
  each = λ k k_in.
      either_are cap (ltb k (4 * length amounts))
      (amount_step cap (amount_at amounts (k / 4)) (k % 4)) (λ s. where_legal (eqb (k - 4 * length amounts) s) s)
      (stock_bounds cap amounts k) (balance_bounds (k - 4 * length amounts))
      (λ is_amount.
      let amount = good.each (k / 4) (omega (arith, ltb-true k (4 * length amounts) is_amount)) in
      amount_are cap (amount_at amounts (k / 4)) (k % 4) amount.0 amount.1)
      (λ is_balance. balance_are cap (k - 4 * length amounts) (omega (arith, k_in, length-account cap amounts, ltb-false k (4 * length amounts) is_balance)));
}

pub amounts_are_accepted : AreAnswered → StepsWithin → BoundsAreTold → AmountsAreAccepted
amounts_are_accepted known within told = λ cap amounts good. record {
  accounts = for_each_kind known within told (account cap amounts) cap (account_bounds cap amounts) (accounts cap amounts good);
  counters = for_each_kind known within told (counter cap amounts) cap (counter_bounds cap amounts) (counters cap amounts good);
  stocks = for_each_kind known within told (stock cap amounts) cap (stock_bounds cap amounts) (stocks cap amounts good);
}
