use Rattle.std.proofs.Common.{◌≡◌, true, refl, sym, ◌∙◌, subst}
use Rattle.line_text.specs.Outcome.{fault_on}
use Rattle.line_text.specs.Shapes.{is_key}
use Rattle.line_text.specs.declared.fault.FaultKind.TheVariants.{Missing}
use Rattle.number_text.specs.Examples.{credit_lines}
use Rattle.declared_text.specs.Declared.{HasFaultBy, is_of_number}
use Rattle.declared_text.specs.Examples.{credit_bytes, endless_credit}
use Rattle.declared_text.proofs.worked.a_text_declares_the_credit.Goals as goal

-- both texts begin with `number`
of_credit : is_of_number credit_bytes ≡ true
unfolding is_key
of_credit = refl

of_endless : is_of_number endless_credit ≡ true
unfolding is_key
of_endless = refl

pub returns-clause-declared : goal.returns-clause-declared
returns-clause-declared c = (of_credit, (credit_lines, c.texts_say_their_lines.ensures.credit, record { name = refl; max = refl; initial = refl; calls = refl }))

pub returns-clause-no_table : goal.returns-clause-no_table
returns-clause-no_table c = λ file declared. let clash = sym of_credit ∙ declared.0 in cc

pub returns-clause-faulty : goal.returns-clause-faulty
returns-clause-faulty c = subst (λ b. HasFaultBy b endless_credit (fault_on 8 Missing)) (sym of_endless) c.faults_of_the_credit.ensures.no_end
