use Rattle.std.proofs.Common.{◌≡◌, false, refl, subst, sym, ◌∙◌}
use Rattle.line_text.specs.Shapes.{is_key}
use Rattle.line_text.specs.Outcome.{fault_on}
use Rattle.line_text.specs.declared.fault.FaultKind.TheVariants.{Missing}
use Rattle.declared_text.specs.Declared.{HasFaultBy, is_of_number}
use Rattle.command_files.specs.Examples.{endless_bytes}
use Rattle.command_files.proofs.worked.a_text_with_a_fault.Goals as goal

-- the text's first word is `type`
of_endless : is_of_number endless_bytes ≡ false
unfolding is_key
of_endless = refl

pub returns : goal.returns
returns c =
    let no_end = c.faults_of_the_counter.ensures.no_end in
    record { faulty = (fault_on 14 Missing, no_end); undeclared = (fault_on 14 Missing, subst (λ b. HasFaultBy b endless_bytes (fault_on 14 Missing)) (sym of_endless) no_end); told = λ described. let clash = sym described.accepted ∙ no_end in cc; untold = tt }
