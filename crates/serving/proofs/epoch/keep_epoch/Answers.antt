use Rattle.std.proofs.Common.{◌∙◌, inr}
use Rattle.serving.proofs.ClosedEpochs.{left-kept, text-kept, written-stays}
use Rattle.serving.proofs.KeptEpochs.{least-none, least-text}
use Rattle.serving.proofs.epoch.keep_epoch.Goals as goal

pub returns-in_err-settle-clause-crash : goal.returns-in_err-settle-clause-crash
returns-in_err-settle-clause-crash g c =
    left-kept g.S.Store c.args.store.now c.settle.new.self c.settle.new.self (g.A.Archive.kept c.args.archive.now) (g.A.Archive.kept c.args.archive.now) c.in_err-settle.ensures.crash (λ db left. left)
    (least-none (g.A.Archive.kept c.args.archive.now))

pub returns-in_err-text-clause-crash : goal.returns-in_err-text-clause-crash
returns-in_err-text-clause-crash g c =
    left-kept g.S.Store c.args.store.now c.settle.new.self c.epoch_text.new.store (g.A.Archive.kept c.args.archive.now) (g.A.Archive.kept c.args.archive.now) c.in_ok-settle.ensures.crash c.in_err-text.ensures.crash
    (least-none (g.A.Archive.kept c.args.archive.now))

pub returns-in_err-keep-clause-crash : goal.returns-in_err-keep-clause-crash
returns-in_err-keep-clause-crash g c =
    left-kept g.S.Store c.args.store.now c.settle.new.self c.epoch_text.new.store (g.A.Archive.kept c.args.archive.now) (g.A.Archive.kept c.keep.new.self) c.in_ok-settle.ensures.crash c.in_ok-text.ensures.crash
    (least-text (g.A.Archive.kept c.args.archive.now) (g.A.Archive.kept c.keep.new.self) c.header.result.now c.deref.result.now c.in_err-keep.ensures.part)

pub returns-clause-keeps : goal.returns-clause-keeps
returns-clause-keeps g c =
    text-kept g.S.Store c.settle.new.self c.epoch_text.new.store (g.A.Archive.kept c.args.archive.now) (g.A.Archive.kept c.keep.new.self) c.header.result.now c.deref.result.now c.in_ok-settle.ensures.sound.journal
    c.in_ok-settle.ensures.shows c.in_ok-text.ensures.clean c.in_ok-text.ensures.written (c.header.ensures ∙ c.in_ok-text.ensures.life)
    (λ now. c.deref.ensures.value ∙ c.in_ok-text.ensures.text now) c.in_ok-keep.ensures.kept

pub returns-clause-crash : goal.returns-clause-crash
returns-clause-crash g c =
    left-kept g.S.Store c.args.store.now c.settle.new.self c.epoch_text.new.store (g.A.Archive.kept c.args.archive.now) (g.A.Archive.kept c.keep.new.self) c.in_ok-settle.ensures.crash c.in_ok-text.ensures.crash
    (least-text (g.A.Archive.kept c.args.archive.now) (g.A.Archive.kept c.keep.new.self) c.header.result.now c.deref.result.now (inr c.in_ok-keep.ensures.kept))

pub returns-in_err-text-clause-left : goal.returns-in_err-text-clause-left
returns-in_err-text-clause-left g c = written-stays g.S.Store c.args.store.now c.settle.new.self c.epoch_text.new.store c.in_ok-settle.ensures.crash c.in_err-text.ensures.crash

pub returns-in_err-keep-clause-left : goal.returns-in_err-keep-clause-left
returns-in_err-keep-clause-left g c = written-stays g.S.Store c.args.store.now c.settle.new.self c.epoch_text.new.store c.in_ok-settle.ensures.crash c.in_ok-text.ensures.crash

pub returns-clause-left : goal.returns-clause-left
returns-clause-left g c = written-stays g.S.Store c.args.store.now c.settle.new.self c.epoch_text.new.store c.in_ok-settle.ensures.crash c.in_ok-text.ensures.crash
