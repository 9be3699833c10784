use Rattle.command_files.specs.Answers.{Comes, IsThis}
use Rattle.command_files.specs.declared.status.Verdict.TheVariants.{Yes}
use Rattle.command_files.proofs.Comes.{comes}
use Rattle.type_text.specs.Canonical.{canonical_text}
use Rattle.type_commands.specs.Made.{IsMadeOf}
use Rattle.type_commands.proofs.Verdicts.{tables_say}
use Rattle.type_commands.proofs.tables.answer_made.Goals as goal

pub returns-in-Ok : goal.returns-in-Ok
returns-in-Ok g c =
    let made : IsMadeOf c.args.file.now c.in-Ok.made = record {
      table = c.in-Ok.ensures.table;
      reach = c.in-Ok.ensures.set;
      made = c.in-Ok.ensures.made;
    } in
    let answered : Comes (IsThis Yes (canonical_text c.in-Ok.made)) ⊥ c.answer_declared.result (g.W.Out.taken c.args.out.now) (g.W.Out.taken c.answer_declared.new.out) =
    rw c.table-declared.ensures at c.answer_declared.ensures in
    comes _ _ _ _ c.answer_declared.result _ _ (tables_say c.args.file.now c.in-Ok.made made) (λ bad. absurd bad) answered
