use Rattle.std.proofs.Common.{[], ◌∷◌}
use Rattle.journal.specs.Journal.{written}
use Rattle.serving.proofs.ClosedEpochs.{left-kept}
use Rattle.serving.proofs.KeptEpochs.{keeps-untold, least-none}
use Rattle.serving.proofs.epoch.archive_epoch.Goals as goal

pub returns-in_ok-settle_where-clause-keeps : goal.returns-in_ok-settle_where-clause-keeps
returns-in_ok-settle_where-clause-keeps g c clean = keeps-untold (g.A.Archive.kept c.args.archive.now) (written g.S.Store c.settle_where.new.store.journal ∷ []) (c.wants.ensures c.if-wants.false)

pub returns-in_ok-settle_where-clause-crash : goal.returns-in_ok-settle_where-clause-crash
returns-in_ok-settle_where-clause-crash g c =
    left-kept g.S.Store c.args.store.now c.settle_where.new.store c.settle_where.new.store (g.A.Archive.kept c.args.archive.now) (g.A.Archive.kept c.args.archive.now) c.in_ok-settle_where.ensures.left (λ db left. left)
    (least-none (g.A.Archive.kept c.args.archive.now))

pub returns-in_err-settle_where-clause-crash : goal.returns-in_err-settle_where-clause-crash
returns-in_err-settle_where-clause-crash g c =
    left-kept g.S.Store c.args.store.now c.settle_where.new.store c.settle_where.new.store (g.A.Archive.kept c.args.archive.now) (g.A.Archive.kept c.args.archive.now) c.in_err-settle_where.ensures.left (λ db left. left)
    (least-none (g.A.Archive.kept c.args.archive.now))
