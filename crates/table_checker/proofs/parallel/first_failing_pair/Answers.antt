use Rattle.std.proofs.Common.{◌≡◌, ◌*◌, ◌<◌, ◌-◌, length, ap, ◌∙◌, arith}
use Rattle.std.specs.List.{find, range_with_len}
use Rattle.rayon.specs.Numbers.{nat_range}
use Rattle.rayon.proofs.ToStd.{nat_range-All, filter_by_mask-find, answers-by_ref}
use Rattle.table_checker.specs.Scan.{pair_fails}
use Rattle.table_checker.proofs.Found.{find-first}
use Rattle.table_checker.proofs.parallel.first_failing_pair.Goals as goal

-- each number of the range is one of a pair
pub find_first-requires-clause-items : goal.find_first-requires-clause-items
find_first-requires-clause-items g c κs within =
    let T = c.args.file.now.table in
    let count = length T.ops * length T.ops in
    let ends = c.into_par_iter.ensures in
    let inside = nat_range-All (λ i. i < count) 0 count (λ i low high. high) in
    rw (c.with_min_len.ensures.base, ends.0, ends.1, c.pair_count-count.ensures) (λ k d lt p e. (c.requires, rw e (inside k d lt)))

-- what is found is what a search over all numbers of pairs finds
pub returns : goal.returns
returns g c =
    let T = c.args.file.now.table in
    let count = length T.ops * length T.ops in
    let test = pair_fails c.args.condition c.args.file.now c.args.conflicts.now in
    let found = c.find_first.ensures in
    let ends = c.into_par_iter.ensures in
    let whole : count - 0 ≡ count = omega arith in
    let numbers = (rw c.with_min_len.ensures.base at found.2) ∙ (λ i. nat_range (ends.0 i) (ends.1 i)) ∙ ap (λ n. range_with_len 0 (n - 0)) c.pair_count-count.ensures ∙ ap (range_with_len 0) whole in
    let answer = found.4 ∙ filter_by_mask-find test found.0 found.1 (answers-by_ref test found.0 found.1 found.3) ∙ ap (find test) numbers in
    rw answer (find-first test count)
