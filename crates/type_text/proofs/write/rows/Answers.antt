use Rattle.std.proofs.Common.{◌∙◌, ap, cond, sym, Bool}
use Rattle.type_text.specs.Canonical.{rows}
use Rattle.type_text.proofs.write.rows.Goals as goal

pub returns-in-Members-clause-exact : goal.returns-in-Members-clause-exact
returns-in-Members-clause-exact c =
    let file = c.args.file.now in
    sym (ap (rows file) c.in-Members.is ∙ ap (λ (b : Bool). cond b 0 file.table.states) (sym c.is_whole.ensures ∙ c.if-is_whole.true))
