use Rattle.std.proofs.Common.{◌↔◌, ◌≡◌, Bool, true, sym, subst}
use Rattle.pair_needs.specs.Needs.{FailsInRun}
use Rattle.pair_needs.proofs.Places.{run-known}
use Rattle.pair_needs.proofs.explainer.Explainer.pair.Goals as goal

pub need_of-need-requires-clause-run : goal.need_of-need-requires-clause-run
need_of-need-requires-clause-run c =
    subst (λ (b : Bool). (b ≡ true) ↔ FailsInRun c.args.kind c.args.file.now.table c.args.p c.args.q) (sym c.is_some.ensures)
    (run-known c.args.kind c.args.file.now.table c.args.p c.args.q c.in_ok-witness.witness c.in_ok-witness.ensures)
