use Rattle.std.proofs.lemmas.Option.{IfSome_then}
use Rattle.durable_store.proofs.Found.{acknowledged}
use Rattle.durable_store.proofs.outage.settle_and_restart.Goals as goal

pub returns-clause-acknowledged : goal.returns-clause-acknowledged
returns-clause-acknowledged g c =
    IfSome_then c.restart.result
    (acknowledged g.S.Store c.args.running c.settle.new.self c.is_ok-is_settled.result c.settle.result c.restart.result c.is_ok-is_settled.ensures.value
    c.settle.ensures.sound c.settle.ensures.store c.settle.ensures.prepared c.settle.ensures.written c.settle.ensures.durable c.restart.ensures.clean c.restart.ensures.found) (λ d all clean yes. (all clean yes).0)

pub returns-clause-prepared : goal.returns-clause-prepared
returns-clause-prepared g c =
    IfSome_then c.restart.result
    (acknowledged g.S.Store c.args.running c.settle.new.self c.is_ok-is_settled.result c.settle.result c.restart.result c.is_ok-is_settled.ensures.value
    c.settle.ensures.sound c.settle.ensures.store c.settle.ensures.prepared c.settle.ensures.written c.settle.ensures.durable c.restart.ensures.clean c.restart.ensures.found) (λ d all clean yes. (all clean yes).1)
