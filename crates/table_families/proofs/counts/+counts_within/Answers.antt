use Rattle.std.proofs.Common.{ℕ, ◌-◌, Vec, Global}
use Rattle.table_families.proofs.CountLists.{lists-push}
use Rattle.table_families.proofs.counts.+counts_within.Goals as goal

pub loop-first-preserved : goal.loop-first-preserved
loop-first-preserved t c =
    lists-push (λ (counts : Vec ℕ Global). counts.items) (c.args.n - 1) c.args.room c.loop-first.first _ _ c.in_ok-rest.rest.items _
    c.loop-first.invariant c.in_ok-rest.ensures c.deref.ensures.value c.in_ok-push_behind.ensures
