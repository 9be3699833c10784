use Rattle.std.proofs.Common.{Option, sym, subst}
use Rattle.std.specs.Prelude.{OnOk}
use Rattle.type_commands.specs.Explain.{AddsText, ExplainsPairs, pair_as}
use Rattle.type_commands.specs.declared.explain.Asked.{Asked}
use Rattle.type_commands.proofs.explain.put_pairs.Goals as goal

pub returns : goal.returns
returns g c =
    let P : Option Asked → Type 0 = λ asked.
    OnOk c.put_pair.result (AddsText (g.W.Out.taken c.args.out.now) (g.W.Out.taken c.put_pair.new.out) (ExplainsPairs c.args.kind c.args.file.now (pair_as asked))) in
    subst P (sym c.in-Some.is) c.put_pair.ensures
