use Rattle.dynamic_atomicity.proofs.laws.runs_are_atomic.Goals as goal

pub returns : goal.returns
returns c = λ objects H covered run x o there. c.covered_is_atomic.ensures objects H x o run there (covered x o there)
