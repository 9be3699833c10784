use Rattle.std.proofs.Common.{◌<◌, arith}
use Rattle.type_text.proofs.build.put_step.Goals as goal

pub overflow_cast-steps : goal.overflow_cast-steps
overflow_cast-steps c =
    let small : c.in-Step.t < 1024 = (c.requires c.in-Step.s c.in-Step.k c.in-Step.t c.in-Step.is).1 in omega arith
