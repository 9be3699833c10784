use Rattle.std.proofs.Common.{◌≡◌, ℕ, List, ◌++◌, Some, refl, sym, ap, ◌∙◌, arith}
use Rattle.std.specs.Prelude.{codes}
use Rattle.std.specs.Fmt.{decimal}
use Rattle.type_table.specs.Table.{first_op}
use Rattle.decimals.specs.Decimals.{long_number_of}
use Rattle.number_types.specs.Operations.{number_table}
use Rattle.number_types.specs.Examples.{purse}
use Rattle.number_types.specs.Number.{IsNumber}
use Rattle.number_types.specs.declared.number_call.NumberCall.TheVariants.{Take, TakeAny, Give, GiveAny}
use Rattle.number_types.proofs.Amounts.{decimal_back}
use Rattle.number_types.proofs.NamedCalls.{first_by_name, none_by_name, none_by_text}
use Rattle.number_types.proofs.worked.names_at_the_purse.Goals as goal

-- the purse is a number
known : IsNumber purse
known = record {
  some_max = omega arith;
  max_fits = omega arith;
  initial_inside = omega arith;
  amounts = refl;
  ascending = refl;
  some_call = omega arith;
  calls_fit = omega arith;
}

-- an amount in a name is its decimal text
read : (word w : List ℕ) (n : ℕ) → long_number_of w ≡ Some n → first_op (number_table purse) (word ++ w) ≡ first_op (number_table purse) (word ++ decimal n)
read word w n is = ap (λ l. first_op (number_table purse) (word ++ l)) (sym (decimal_back w n is))

pub returns-clause-listed : goal.returns-clause-listed
returns-clause-listed c = read (codes "take:") (codes "3") 3 refl ∙ first_by_name purse known (Take 3) (omega arith) 0 (Take 3) refl refl

pub returns-clause-any : goal.returns-clause-any
returns-clause-any c = read (codes "take:") (codes "4") 4 refl ∙ first_by_name purse known (Take 4) (omega arith) 1 TakeAny refl refl

pub returns-clause-given : goal.returns-clause-given
returns-clause-given c = read (codes "give:") (codes "3") 3 refl ∙ first_by_name purse known (Give 3) (omega arith) 2 GiveAny refl refl

pub returns-clause-nothing : goal.returns-clause-nothing
returns-clause-nothing c = read (codes "take:") (codes "0") 0 refl ∙ none_by_name purse known (Take 0) (omega arith) refl

pub returns-clause-too_much : goal.returns-clause-too_much
returns-clause-too_much c = read (codes "take:") (codes "10") 10 refl ∙ none_by_name purse known (Take 10) (omega arith) refl

pub returns-clause-leading_zero : goal.returns-clause-leading_zero
returns-clause-leading_zero c = none_by_text purse known (codes "007") refl

pub returns-clause-no_amount : goal.returns-clause-no_amount
returns-clause-no_amount c = none_by_text purse known (codes "any") refl
