use Rattle.std.proofs.Common.{ap, arith}
use Rattle.std.proofs.lemmas.List.Elements.{recursion_from_All}
use Rattle.escrow_laws.specs.declared.mark.Mark.{Mark}
use Rattle.escrow_laws.specs.declared.mark.OpenMark.{OpenMark}
use Rattle.escrow_manager.specs.Totals.{HasShortSums}
use Rattle.escrow_manager.proofs.Summing.{rise-short}
use Rattle.escrow_manager.proofs.entries.is_lone_keeper.Goals as goal

pub keeps_alone-requires : goal.keeps_alone-requires
keeps_alone-requires c =
    let is = ap (λ (x : Mark). x.rise) c.mark_in.ensures in
    let short = rise-short c.args.top c.args.entry.by c.args.marks.now.items (recursion_from_All (λ (o : OpenMark). HasShortSums o.mark) c.args.marks.now.items c.requires.short) in
    omega (arith, is, short)
