use Rattle.store_laws.proofs.Examples.{begun-kept, counted-kept, committed-kept}
use Rattle.store_laws.proofs.worked.it_goes_on_agreeing.Goals as goal

-- by the law, from the new store on
pub returns-clause-begun : goal.returns-clause-begun
returns-clause-begun c = λ accepted. begun-kept c.stays_kept.ensures (c.a_new_store_agrees.ensures accepted)

pub returns-clause-counted : goal.returns-clause-counted
returns-clause-counted c = λ accepted. counted-kept c.stays_kept.ensures (c.a_new_store_agrees.ensures accepted)

pub returns-clause-committed : goal.returns-clause-committed
returns-clause-committed c = λ accepted. committed-kept c.stays_kept.ensures (c.a_new_store_agrees.ensures accepted)
