use Rattle.std.proofs.Common.{◌≡◌, length, ap, refl, arith}
use Rattle.type_table.specs.Table.{Table}
use Rattle.table_maker.specs.Made.{Family}
use Rattle.table_maker.proofs.Entries.{AreParts, parts-fault, parts-table}
use Rattle.table_maker.proofs.family.table_of.Goals as goal

pub unreachable-requires : goal.unreachable-requires
unreachable-requires g c =
    let f : Family = g.F.FamilyRules.family c.args.rules.now in
    let T : Table = record { name = c.args.name; states = c.args.states; initial = 0; ops = c.args.ops.items; steps = c.in_ok-steps.steps.items } in
    let count : c.len.result ≡ length f.ops = omega (arith, c.len.ensures, c.args.ops.ok.0, ap length c.requires.ops) in
    let parts : AreParts f T = record {
      name = c.requires.name;
      states = c.requires.states;
      initial = refl;
      ops = c.requires.ops;
      steps = rw (c.requires.states, count) at c.in_ok-steps.ensures;
    } in
    let none = parts-fault f T c.requires.family parts in
    let some = c.in-Err.ensures in
    cc

pub returns : goal.returns
returns g c =
    let f : Family = g.F.FamilyRules.family c.args.rules.now in
    let T : Table = record { name = c.args.name; states = c.args.states; initial = 0; ops = c.args.ops.items; steps = c.in_ok-steps.steps.items } in
    let count : c.len.result ≡ length f.ops = omega (arith, c.len.ensures, c.args.ops.ok.0, ap length c.requires.ops) in
    let parts : AreParts f T = record {
      name = c.requires.name;
      states = c.requires.states;
      initial = refl;
      ops = c.requires.ops;
      steps = rw (c.requires.states, count) at c.in_ok-steps.ensures;
    } in
    rw c.in-Ok.ensures.1 (parts-table f T parts)
