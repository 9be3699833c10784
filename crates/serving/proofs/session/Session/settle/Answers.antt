use Rattle.std.proofs.Common.{refl}
use Rattle.serving.specs.declared.session.Session.{Session}
use Rattle.serving.proofs.Results.{on-both}
use Rattle.serving.proofs.Staying.{stays-settled}
use Rattle.serving.proofs.session.Session.settle.Goals as goal

pub returns-clause-stays_in_epoch : goal.returns-clause-stays_in_epoch
returns-clause-stays_in_epoch g c =
    let new : Session g.row.S.Denot = record c.args.self.now { store = c.settle.new.self } in
    on-both c.settle.result c.settle.ensures.sound c.settle.ensures.written
    (λ sound same. stays-settled g.S.Store c.args.self.now new refl refl sound c.settle.ensures.life same c.settle.ensures.clean c.settle.ensures.crash)
