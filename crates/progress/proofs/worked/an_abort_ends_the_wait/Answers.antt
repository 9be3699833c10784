use Rattle.std.proofs.Common.{◌≡◌, ◌++◌, ℕ, zero, suc, false, true, ◌==◌, nat_lt, take, refl, arith}
use Rattle.std.proofs.lemmas.Bool.{false≢true, true≢false}
use Rattle.std.proofs.lemmas.Bool.Decides.{nat_tests}
use Rattle.serial_order.specs.Examples.{lock_history}
use Rattle.serial_order.specs.History.{summary, is_open}
use Rattle.progress.specs.Examples.{abort_and_begin}
use Rattle.progress.proofs.worked.an_abort_ends_the_wait.Goals as goal

-- the others that were open
earlier : (u : ℕ) → is_open (summary (take 4 lock_history)) u ≡ true → (u == 1) ≡ false → is_open (summary (take 4 lock_history ++ abort_and_begin)) u ≡ false
earlier zero was other = refl
earlier (suc zero) was other = absurd (true≢false other)
earlier (suc (suc u)) was other =
    let outside : nat_lt (suc (suc u)) 2 ≡ false = grind (arith, nat_tests) in
    absurd (false≢true (rw outside at was))

pub returns-clause-ended : goal.returns-clause-ended
returns-clause-ended c = record { earlier = earlier; later = ((λ wasnt. wasnt), tt) }

pub returns-clause-not_alone : goal.returns-clause-not_alone
returns-clause-not_alone c = λ alone. (let same = alone 2 refl in absurd (omega (arith, same)))

-- 1 is the only one
only : (u : ℕ) → is_open (summary (take 4 lock_history ++ take 1 abort_and_begin)) u ≡ true → u ≡ 1
only zero now = absurd (false≢true now)
only (suc zero) now = refl
only (suc (suc u)) now =
    let outside : nat_lt (suc (suc u)) 2 ≡ false = grind (arith, nat_tests) in
    absurd (false≢true (rw outside at now))

pub returns-clause-before : goal.returns-clause-before
returns-clause-before c = only
