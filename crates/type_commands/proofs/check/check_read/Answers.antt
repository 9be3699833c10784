use Rattle.std.proofs.Common.{◌≡◌, ◌↔◌, ◌∙◌, true, subst}
use Rattle.command_files.specs.Answers.{Comes}
use Rattle.command_files.proofs.Comes.{comes}
use Rattle.table_checker.specs.Checked.{Checked, IsStrong}
use Rattle.declared_types.specs.Declarations.{file_of}
use Rattle.declared_types.specs.declared.declared_type.Declaration.{Declaration}
use Rattle.type_commands.specs.Verdict.{SaysOf}
use Rattle.type_commands.proofs.Verdicts.{line_says}
use Rattle.type_commands.proofs.check.check_read.Goals as goal

pub returns-in-Ok : goal.returns-in-Ok
returns-in-Ok g c =
    let P : Checked → Type 0 = λ checked. (c.is_strong.result ≡ true) ↔ IsStrong checked in
    let Q : Declaration → Type 0 = λ declaration. Comes (SaysOf c.args.kind (file_of declaration)) ⊥ c.put_answer.result (g.W.Out.taken c.args.out.now) (g.W.Out.taken c.put_answer.new.out) in
    let line = c.as_bytes.ensures.value ∙ c.yes_line-line.ensures in
    let file = file_of c.in_ok-declaration.declaration in
    subst Q c.in_ok-declaration.ensures
    (comes _ _ _ _ c.put_answer.result _ _
    (line_says c.args.kind file c.is_strong.result c.as_bytes.result.now (subst P c.in-Ok.ensures.exact.0 c.is_strong.ensures) c.in-Ok.ensures.covers line)
    (λ bad. absurd bad) c.put_answer.ensures.comes)
