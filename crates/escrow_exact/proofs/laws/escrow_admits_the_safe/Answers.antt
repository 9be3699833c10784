use Rattle.escrow_exact.proofs.Admits.{escrow_admits_the_safe}
use Rattle.escrow_exact.proofs.laws.escrow_admits_the_safe.Goals as goal

pub returns : goal.returns
returns c =
    escrow_admits_the_safe c.runs_along.ensures c.run_goes_on.ensures c.transactions_in_run.ensures c.firm_after_strike.ensures c.firm_is_legal.ensures c.firm_keeps_nobody.ensures c.safe_is_firm.ensures
    c.admitted_where_safe.ensures c.covered_is_atomic.ensures c.commit_order_keeps.ensures c.legal_ends_are_safe.ensures
