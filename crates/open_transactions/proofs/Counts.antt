-- How many transactions are open, when a row changes.
use Rattle.std.proofs.Common.{◌≡◌, ℕ, ◌+◌, true, cond, List, [], ◌∷◌, ◌++◌, set, ap, arith, Option, None, Some}
use Rattle.std.specs.Option.{is_some}
use Rattle.std.proofs.lemmas.List.Sums.{sum_by-set, sum_by-append}
use Rattle.open_transactions.specs.Transactions.{Row, has_row, count_open}
use Rattle.open_transactions.proofs.InSlots.{open-began}

-- what an option counts for
abbrev weight : Option Row → ℕ
weight o = cond (is_some o) 1 0

pub count-more : (rows : List (Option Row)) (r : Row) → count_open (rows ++ Some r ∷ []) ≡ count_open rows + 1
count-more rows r = sum_by-append weight rows (Some r ∷ [])

pub count-none : (rows : List (Option Row)) → count_open (rows ++ None ∷ []) ≡ count_open rows
count-none rows = omega (arith, sum_by-append weight rows (None ∷ []))

pub count-same : (rows : List (Option Row)) (t : ℕ) (r : Row) → has_row rows t ≡ true → count_open (set rows t (Some r)) ≡ count_open rows
count-same rows t r opened =
    omega (arith, sum_by-set weight rows t (Some r) None (open-began rows t opened), ap {B = ℕ} (λ b. cond b 1 0) opened)

pub count-less : (rows : List (Option Row)) (t : ℕ) → has_row rows t ≡ true → count_open (set rows t None) + 1 ≡ count_open rows
count-less rows t opened =
    omega (arith, sum_by-set weight rows t None None (open-began rows t opened), ap {B = ℕ} (λ b. cond b 1 0) opened)
