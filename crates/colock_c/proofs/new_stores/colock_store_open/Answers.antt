use Rattle.std.proofs.Common.{subst}
use Rattle.store_limits.specs.declared.limits.Limits.{Limits}
use Rattle.library_calls.specs.Making.{MakesStore, limits_of}
use Rattle.colock_c.proofs.new_stores.colock_store_open.Goals as goal

pub returns-clause-makes : goal.returns-clause-makes
returns-clause-makes c = λ ms e.
    subst (λ (its : Limits). MakesStore ms (limits_of c.args.max_events its.«open» its.objects) c.colock_store_open_with.result c.colock_store_open_with.new.slot.handle.held) c.standard-standard.ensures
    (c.colock_store_open_with.ensures.makes ms e)
