use Rattle.command_words.proofs.ServeLemmas.{no_path, on_usage}
use Rattle.command_words.proofs.serve.read_serve.Goals as goal

pub returns-in-None-task_of-clause-refused : goal.returns-in-None-task_of-clause-refused
returns-in-None-task_of-clause-refused c =
    on_usage c.fault_of.result _ (no_path _ _ c.in-Some.parts _ c.in-Some.is c.in-None-task_of.is c.task_of.ensures.other c.parts_of.ensures.said)
