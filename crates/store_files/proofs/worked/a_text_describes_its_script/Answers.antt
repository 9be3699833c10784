use Rattle.line_text.specs.Outcome.{fault_on}
use Rattle.line_text.specs.declared.fault.FaultKind.TheVariants.{Missing}
use Rattle.store_files.proofs.worked.a_text_describes_its_script.Goals as goal

pub returns-clause-faulty : goal.returns-clause-faulty
returns-clause-faulty c = (fault_on 9 Missing, c.faults_of_the_script.ensures.no_end)
