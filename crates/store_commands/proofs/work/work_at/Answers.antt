use Rattle.std.proofs.Common.{map}
use Rattle.object_types.specs.Types.{value_of}
use Rattle.store_commands.proofs.Works.{begins, told}
use Rattle.store_commands.proofs.work.work_at.Goals as goal

pub returns-in-Ok : goal.returns-in-Ok
returns-in-Ok g c =
    told c.args.file (map value_of c.args.types.now) c.args.work.tries _ c.do_jobs-worked.result.store c.do_jobs-worked.result.reports.items _ c.do_jobs-worked.result.fault
    (begins c.args.file c.args.work.tries _ (map value_of c.args.types.now) _ (rw c.text_limits.ensures at c.in-Ok.ensures.made.1) c.in_ok-objects.ensures.types) c.deref.ensures.value c.do_jobs-worked.ensures
    c.end_work.result _ _ c.end_work.ensures
