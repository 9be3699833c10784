use Rattle.serve_command.proofs.ServedLemmas.{is-no-input}
use Rattle.serve_command.proofs.serve.fault_of_serving.Goals as goal

pub returns-in-Journal : goal.returns-in-Journal
returns-in-Journal c = is-no-input c.fault_of_file.result c.fault_of_file.ensures

pub returns-in-Archive : goal.returns-in-Archive
returns-in-Archive c = is-no-input c.fault_of_archive.result c.fault_of_archive.ensures

pub returns-in-Extension : goal.returns-in-Extension
returns-in-Extension c = is-no-input c.fault_of_making.result c.fault_of_making.ensures
