use Rattle.store.proofs.execution.do_answer.Goals as goal

pub execute-requires-clause-may : goal.execute-requires-clause-may
execute-requires-clause-may g c κs within = λ m there. c.requires.may c.in-Reply.k c.in-Reply.is m there
