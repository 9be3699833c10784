use Rattle.std.proofs.Common.{◌∙◌, sym, ap, subst, IfSome}
use Rattle.command_files.specs.Answers.{Comes}
use Rattle.table_checker.specs.Checked.{Checked}
use Rattle.declared_types.specs.Declarations.{file_of, table_of}
use Rattle.table_checker.specs.Laws.{CoversType}
use Rattle.declared_types.specs.declared.declared_type.Declaration.{Declaration}
use Rattle.type_commands.specs.Explain.{AreOps, Explains, pair_as}
use Rattle.type_commands.proofs.explain.explain_read.Goals as goal

pub explain_yes-requires-clause-asked : goal.explain_yes-requires-clause-asked
explain_yes-requires-clause-asked g c =
    let P : Checked → Type 0 = λ checked. IfSome c.args.asked (AreOps checked.file.table) in
    let Q : Declaration → Type 0 = λ declaration. IfSome c.args.asked (AreOps (table_of declaration)) in
    subst P (sym c.in-Ok.ensures.exact.0) (subst Q (sym c.in_ok-declaration.ensures) c.requires.asked)

pub explain_yes-requires-clause-covers : goal.explain_yes-requires-clause-covers
explain_yes-requires-clause-covers g c =
    let P : Checked → Type 0 = λ checked. CoversType checked.kind checked.file in
    subst P (sym c.in-Ok.ensures.exact.0) c.in-Ok.ensures.covers

pub explain_yes-requires-clause-same : goal.explain_yes-requires-clause-same
explain_yes-requires-clause-same g c = ap (λ (checked : Checked). checked.file) c.in-Ok.ensures.exact.0 ∙ ap file_of c.in_ok-declaration.ensures

pub returns-in-Ok : goal.returns-in-Ok
returns-in-Ok g c =
    let P : Checked → Type 0 = λ checked.
    Comes (Explains checked.kind c.args.declared.now (pair_as c.args.asked)) ⊥ c.explain_yes.result (g.W.Out.taken c.args.out.now) (g.W.Out.taken c.explain_yes.new.out) in
    subst P c.in-Ok.ensures.exact.0 c.explain_yes.ensures
