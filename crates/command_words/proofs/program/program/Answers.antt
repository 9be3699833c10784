use Rattle.std.proofs.Common.{◌∙◌, ap}
use Rattle.command_words.specs.Program.{with_commands}
use Rattle.command_words.proofs.FormLemmas.{all_forms, form_added}
use Rattle.command_words.proofs.program.program.Goals as goal

pub loop-form-preserved : goal.loop-form-preserved
loop-form-preserved c =
    form_added c.forms-forms.result.now c.loop-form.form-index _ _ _ c.loop-form-test.true c.loop-form.invariant (c.in_ok-program-2.ensures _ c.command.ensures)

pub returns : goal.returns
returns c =
    let listed = c.forms-forms.ensures in
    (listed.0, listed.1, all_forms c.forms-forms.result.now c.loop-form.form-index _ c.loop-form-test.false c.loop-form.invariant ∙ ap with_commands listed.2)
