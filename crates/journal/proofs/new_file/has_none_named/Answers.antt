use Rattle.std.proofs.Common.{◌≢◌, ◌∙◌, ap, sym}
use Rattle.sqlite_value.specs.declared.value.Value.TheVariants.{Text}
use Rattle.sqlite_value.specs.Order.{Row, column}
use Rattle.journal.proofs.Scans.{scan-more, scan-all}
use Rattle.journal.proofs.new_file.has_none_named.Goals as goal
use Rattle.journal.specs.Journal.{name_column}

pub loop-object-preserved : goal.loop-object-preserved
loop-object-preserved c =
    scan-more (λ (r : Row). column r name_column ≢ Text c.args.name.now) c.args.objects.now.items c.deref-object-items.result.now c.deref-object-items.ensures.value c.loop-object.object-index c.object-item.result
    c.loop-object-test.true c.object-item.is c.loop-object.invariant (λ is. let named = c.is_text.ensures.told (is ∙ ap Text (sym c.as_bytes.ensures.value)) in absurd (cc))

pub returns : goal.returns
returns c = λ _.
    scan-all (λ (r : Row). column r name_column ≢ Text c.args.name.now) c.args.objects.now.items c.deref-object-items.result.now c.deref-object-items.ensures.value c.loop-object.object-index c.loop-object-test.false c.loop-object.invariant
