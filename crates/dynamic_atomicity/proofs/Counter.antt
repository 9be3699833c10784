-- The counter of the worked examples, of which the checker's yes is exact.
use Rattle.std.proofs.Common.{◌≡◌, ℕ, zero, suc, ◌<◌, true, false, nat_lt, [], ◌∷◌, refl, sym, inl, inr, arith}
use Rattle.std.proofs.lemmas.Bool.{cases_lt, false≢true}
use Rattle.std.proofs.lemmas.Bool.Decides.{nat_tests}
use Rattle.equi_cert.specs.Relation.{relates}
use Rattle.type_table.specs.Table.{next, has_op}
use Rattle.type_table.specs.Run.{Looks}
use Rattle.type_table.specs.StateSet.{has}
use Rattle.type_table.specs.Examples.{counter_table}
use Rattle.std.specs.Prelude.{Some}
use Rattle.table_checker.specs.Checked.{IsCertified, IsChecked}
use Rattle.table_checker.specs.Condition.{passes_forward}
use Rattle.table_checker.specs.Examples.{counter_file}
use Rattle.table_checker.proofs.Examples.{at_two, at_three, counter-certified}
use Rattle.dynamic_atomicity.specs.Converse.{IsComplete, IsReachable, StepsHaveOps}
use Rattle.dynamic_atomicity.specs.OrderExamples.{loose_counter}

pub counter-named : StepsHaveOps counter_table
unfolding next
counter-named s k there =
    elim (cases_lt k 2) [
      | inl below ↦ at_two (λ c. has_op counter_table c ≡ true) refl refl k below
      | inr far ↦
          let outside : nat_lt k 2 ≡ false = grind (arith, nat_tests, far) in
          absurd (false≢true (rw outside at there))
    ]

-- one state is told from another by a list that is legal in it alone
counter-like : (s : ℕ) → s < 3 → (t : ℕ) → t < 3 → Looks counter_table (Some s) (Some t) → relates counter_file.relation s t ≡ true
unfolding next
counter-like = at_three (λ s. (t : ℕ) → t < 3 → Looks counter_table (Some s) (Some t) → relates counter_file.relation s t ≡ true)
    (at_three (λ t. Looks counter_table (Some 0) (Some t) → relates counter_file.relation 0 t ≡ true)
    (λ looks. refl) (λ looks. absurd (false≢true (looks (0 ∷ 0 ∷ []) refl))) (λ looks. absurd (false≢true (looks (0 ∷ []) refl))))
    (at_three (λ t. Looks counter_table (Some 1) (Some t) → relates counter_file.relation 1 t ≡ true)
    (λ looks. absurd (false≢true (looks (1 ∷ []) refl))) (λ looks. refl) (λ looks. absurd (false≢true (looks (0 ∷ []) refl))))
    (at_three (λ t. Looks counter_table (Some 2) (Some t) → relates counter_file.relation 2 t ≡ true)
    (λ looks. absurd (false≢true (looks (1 ∷ []) refl))) (λ looks. absurd (false≢true (looks (1 ∷ 1 ∷ []) refl))) (λ looks. refl))

pub counter-complete : IsComplete counter_file
counter-complete s t s_in t_in looks = counter-like s s_in t t_in looks

pub counter-reached : (s : ℕ) → has counter_file.reach s ≡ true → IsReachable counter_table s
unfolding next
counter-reached zero inside = ([], refl)
counter-reached (suc zero) inside = (0 ∷ [], refl)
counter-reached (suc (suc zero)) inside = (0 ∷ 0 ∷ [], refl)
counter-reached (suc (suc (suc s))) inside = absurd (false≢true inside)

-- without its pairs it has the same set and relation
pub loose-certified : IsCertified loose_counter.file
loose-certified = record { begins_inside = counter-certified.begins_inside; never_leaves = counter-certified.never_leaves; simulation = counter-certified.simulation }

-- and two ups fail at the second state
pub loose-unchecked : IsChecked loose_counter → ⊥
unfolding next passes_forward
loose-unchecked checked = false≢true (sym (checked.passes 0 0 1 (record { requested = omega arith; held = omega arith; state = omega arith })))
