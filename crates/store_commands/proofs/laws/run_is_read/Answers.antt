use Rattle.object_types.proofs.CheckedTypes.{types_checked}
use Rattle.store_commands.proofs.OpRanges.{types_ops}
use Rattle.store_commands.proofs.RunsRead.{audited_as, run_read}
use Rattle.store_commands.proofs.laws.run_is_read.Goals as goal

pub returns : goal.returns
returns c = λ holds words script types text fit at its. (
  run_read script types text fit (types_checked at.declared script.objects.items types at.are) (types_ops at.declared script.objects.items types at.are at.fit) at.are.as_many its c.script_is_read.ensures c.script_is_by_one.ensures
      c.run_is_in_range.ensures c.numbers_in_run.ensures c.ends_within.ensures c.canonical_is_read.ensures,
  audited_as c.audits_agree.ensures.said c.audits_agree.ensures.lines its.left its.audit its.audited,
)
