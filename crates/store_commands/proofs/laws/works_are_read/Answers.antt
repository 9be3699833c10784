use Rattle.object_types.proofs.CheckedTypes.{types_checked}
use Rattle.store_commands.proofs.OpRanges.{types_ops}
use Rattle.store_commands.proofs.RunsRead.{audited_as}
use Rattle.store_commands.proofs.WorksRead.{works_read}
use Rattle.store_commands.proofs.laws.works_are_read.Goals as goal

pub returns : goal.returns
returns c = λ holds words workers tries file types text jobs at its. (
  works_read file types tries text jobs.fit (types_checked at.declared file.objects.items types at.are) (types_ops at.declared file.objects.items types at.are at.fit) at.are.as_many its c.work_is_read.ensures c.run_is_in_range.ensures
      c.numbers_in_run.ensures c.ends_within.ensures c.canonical_is_read.ensures,
  audited_as c.audits_agree.ensures.said c.audits_agree.ensures.lines its.left its.audit its.audited,
)
