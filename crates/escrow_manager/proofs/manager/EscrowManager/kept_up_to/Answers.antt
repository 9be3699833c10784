use Rattle.std.proofs.Common.{◌<◌, length, sym, subst, arith}
use Rattle.number_types.specs.Number.{Number}
use Rattle.number_types.specs.Operations.{number_table}
use Rattle.escrow_manager.proofs.KeptOps.{inside-ops}
use Rattle.escrow_manager.proofs.manager.EscrowManager.kept_up_to.Goals as goal

pub is_kept_from-requires : goal.is_kept_from-requires
is_kept_from-requires c =
    let v : Number = c.args.number.now in
    let most = c.in_ok-n.ensures in
    subst (λ f. c.with.result < length f.table.ops) (sym c.requires)
    (subst (λ k. k < length (number_table v).ops) (sym c.with.ensures) (inside-ops v c.args.place c.in_ok-n.n (omega arith) most.1.1))
