use Rattle.std.proofs.Common.{◌-◌, arith, sym, rules}
use denote.Enum.Bare.{same_true}
use Rattle.type_table.specs.contracts.kind.Kind.{the_type}
use Rattle.object_types.proofs.Objects.{same_line}
use Rattle.object_types.proofs.accept.place_of.Goals as goal

pub returns-then-other-line : goal.returns-then-other-line
returns-then-other-line c =
    let other = c.index-lines-place.result in
    same_line c.args.lines.now (c.loop-place.place - 1) other c.args.line.now (omega (arith, c.loop-place-test.true, c.loop-place.auto.place)) c.index-lines-place.is (same_true the_type (search rules) _ _ (sym c.if-eq.ensures)) c.if-other-line.true
