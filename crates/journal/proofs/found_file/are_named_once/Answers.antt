use Rattle.journal.specs.Journal.{IsOwnNamed}
use Rattle.journal.proofs.Scans.{scan-more, scan-all}
use Rattle.journal.proofs.found_file.are_named_once.Goals as goal

pub loop-object-preserved : goal.loop-object-preserved
loop-object-preserved c =
    scan-more IsOwnNamed c.args.objects.now.items c.deref-object-items.result.now c.deref-object-items.ensures.value
    c.loop-object.object-index c.object-item.result c.loop-object-test.true c.object-item.is c.loop-object.invariant (c.is_own_named.ensures c.if-not-is_own_named.false)

pub returns : goal.returns
returns c = λ _.
    scan-all IsOwnNamed c.args.objects.now.items c.deref-object-items.result.now c.deref-object-items.ensures.value
    c.loop-object.object-index c.loop-object-test.false c.loop-object.invariant
