use Rattle.std.proofs.Common.{◌∙◌, false, not, ap, sym, subst}
use Rattle.std.proofs.lemmas.Result.{on_ok_weaker}
use Rattle.std.specs.Io.KnownBytes.{Appends}
use Rattle.outputs.specs.Gathered.{taken_by}
use Rattle.serving.specs.Told.{answers_text}
use Rattle.serving.proofs.ClosedEpochs.{closed-end}
use Rattle.serving.proofs.EndLemmas.{appends-none, none-ends, none-told}
use Rattle.serving.proofs.LaterEpochs.{left-more, writes-one}
use Rattle.serving.proofs.Results.{on-any}
use Rattle.serving.proofs.service.end_serving.Goals as goal

pub returns-then-is_none-2-clause-told : goal.returns-then-is_none-2-clause-told
returns-then-is_none-2-clause-told g c =
    let taken = taken_by g.W.Out.taken c.args.client.now.out in
    let goes = none-ends c.args.waiting c.args.end (c.is_none.ensures ∙ ap not c.if-is_none.true) (c.is_none-then-is_none.ensures ∙ ap not c.if-is_none-2.true) in
    on-any c.stop_serving.result.1 (subst (λ xs. Appends taken taken (answers_text xs)) (sym (none-told c.args.waiting c.args.end c.args.store.store goes)) (appends-none taken))

pub returns-then-is_none-2-clause-writes : goal.returns-then-is_none-2-clause-writes
returns-then-is_none-2-clause-writes g c =
    on_ok_weaker c.stop_serving.result.1 (writes-one g.S.Store c.args.store c.stop_serving.result.0 (g.A.Archive.kept c.args.archive.now)) c.stop_serving.ensures.writes

pub returns-then-is_none-2-clause-left : goal.returns-then-is_none-2-clause-left
returns-then-is_none-2-clause-left g c = closed-end g.S.Store false c.args.waiting c.args.store c.stop_serving.result.0 c.stop_serving.ensures.left

pub returns-then-is_none-2-clause-crash : goal.returns-then-is_none-2-clause-crash
returns-then-is_none-2-clause-crash g c = left-more g.S.Store c.args.store c.stop_serving.result.0 (g.A.Archive.kept c.args.archive.now) c.stop_serving.ensures.crash
