use Rattle.std.proofs.Common.{refl, sym, subst}
use Rattle.std.specs.Io.KnownBytes.{Appends}
use Rattle.outputs.specs.Gathered.{taken_by}
use Rattle.durable_store.specs.declared.durable.Durable.{Durable}
use Rattle.serving.specs.Epochs.{LeavesEpochs}
use Rattle.serving.specs.Told.{AppendsPart, greeting}
use Rattle.serving.proofs.Acknowledgements.{stops-safely-greeted, stops-safely-greeting, stops-safely-served, whole-safely}
use Rattle.serving.proofs.EndLemmas.{left-served, serves-whole, stops-greeted, stops-greeting, stops-served, stops-whole, writes-served}
use Rattle.serving.proofs.LaterEpochs.{left-nowhere}
use Rattle.serving.proofs.Results.{of-err, of-ok}
use Rattle.serving.proofs.TextParts.{match-err, match-ok}
use Rattle.serving.proofs.service.serve.Goals as goal

pub returns-in-Err-clause-stops : goal.returns-in-Err-clause-stops
returns-in-Err-clause-stops g c =
    stops-greeting (g.R.Read.remaining c.args.input.now) c.args.store (subst (λ n. AppendsPart (taken_by g.W.Out.taken c.args.client.now.out) (taken_by g.W.Out.taken c.greet.new.self.out) (greeting n)) c.life.ensures c.in-Err.ensures.part)

pub returns-in-Ok-served-clause-told : goal.returns-in-Ok-served-clause-told
returns-in-Ok-served-clause-told g c =
    serves-whole (taken_by g.W.Out.taken c.args.client.now.out) (taken_by g.W.Out.taken c.end_serving.new.client.out) c.end_serving.result.0 c.end_serving.result.1 c.in-Ok.ensures.begun
    (subst (λ n. Appends (taken_by g.W.Out.taken c.args.client.now.out) (taken_by g.W.Out.taken c.greet.new.self.out) (greeting n)) c.life.ensures c.in_default.ensures.told)
    (of-ok c.run-server.result.1 c.in-Ok-served.field-0 c.in-Ok-served.is c.run-server.ensures.told) (of-ok c.run-server.result.1 c.in-Ok-served.field-0 c.in-Ok-served.is c.run-server.ensures.ended) c.into_parts-store.ensures.waiting c.into_parts-store.ensures.store c.end-end.ensures c.end_serving.ensures.clean c.end_serving.ensures.renews c.end_serving.ensures.told

pub returns-in-Ok-served-clause-stops : goal.returns-in-Ok-served-clause-stops
returns-in-Ok-served-clause-stops g c =
    stops-whole (taken_by g.W.Out.taken c.args.client.now.out) (taken_by g.W.Out.taken c.end_serving.new.client.out) c.end_serving.result.0 c.end_serving.result.1 c.in-Ok.ensures.begun
    (subst (λ n. Appends (taken_by g.W.Out.taken c.args.client.now.out) (taken_by g.W.Out.taken c.greet.new.self.out) (greeting n)) c.life.ensures c.in_default.ensures.told)
    (of-ok c.run-server.result.1 c.in-Ok-served.field-0 c.in-Ok-served.is c.run-server.ensures.told) c.into_parts-store.ensures.waiting c.into_parts-store.ensures.store c.end-end.ensures c.end_serving.ensures.clean c.end_serving.ensures.part

pub returns-in-Ok-served-clause-archives : goal.returns-in-Ok-served-clause-archives
returns-in-Ok-served-clause-archives g c =
    writes-served g.S.Store c.end_serving.result.0 (g.A.Archive.kept c.args.archive.now) (g.A.Archive.kept c.run-server.new.archive) (g.A.Archive.kept c.end_serving.new.archive) c.end_serving.result.1
    c.in-Ok.ensures.store c.into_parts-store.ensures.store c.end_serving.ensures.clean (of-ok c.run-server.result.1 c.in-Ok-served.field-0 c.in-Ok-served.is c.run-server.ensures.archives) c.end_serving.ensures.writes

pub returns-in-Ok-served-clause-crash : goal.returns-in-Ok-served-clause-crash
returns-in-Ok-served-clause-crash g c =
    left-served g.S.Store c.end_serving.result.0 (g.A.Archive.kept c.args.archive.now) (g.A.Archive.kept c.run-server.new.archive) (g.A.Archive.kept c.end_serving.new.archive) c.in-Ok.ensures.store
    c.into_parts-store.ensures.store c.run-server.ensures.clean (of-ok c.run-server.result.1 c.in-Ok-served.field-0 c.in-Ok-served.is c.run-server.ensures.archives) c.run-server.ensures.crash c.end_serving.ensures.crash

pub returns-in-Err-clause-crash : goal.returns-in-Err-clause-crash
returns-in-Err-clause-crash g c = left-nowhere g.S.Store c.args.store c.args.store (g.A.Archive.kept c.args.archive.now) refl

pub returns-in-Err-served-clause-stops : goal.returns-in-Err-served-clause-stops
returns-in-Err-served-clause-stops g c =
    stops-served c.in-Ok.ensures.begun c.into_parts-store.ensures.store
    (subst (λ n. Appends (taken_by g.W.Out.taken c.args.client.now.out) (taken_by g.W.Out.taken c.greet.new.self.out) (greeting n)) c.life.ensures c.in_default.ensures.told)
    (of-err c.run-server.result.1 c.in-Err-served.fault c.in-Err-served.is c.run-server.ensures.stops)

pub returns-in-Err-clause-acknowledged : goal.returns-in-Err-clause-acknowledged
returns-in-Err-clause-acknowledged g c =
    stops-safely-greeting (g.R.Read.remaining c.args.input.now) (g.R.Read.remaining c.args.input.now) c.args.store c.requires.sound (g.met.S.Store.settled c.args.store.journal.store)
    (subst (λ n. AppendsPart (taken_by g.W.Out.taken c.args.client.now.out) (taken_by g.W.Out.taken c.greet.new.self.out) (greeting n)) c.life.ensures c.in-Err.ensures.part)

pub returns-in-Ok-served-clause-acknowledged : goal.returns-in-Ok-served-clause-acknowledged
returns-in-Ok-served-clause-acknowledged g c =
    whole-safely (taken_by g.W.Out.taken c.args.client.now.out) (taken_by g.W.Out.taken c.end_serving.new.client.out) c.end_serving.result.0 c.end_serving.result.1
    c.in-Ok.ensures.begun
    (subst (λ n. Appends (taken_by g.W.Out.taken c.args.client.now.out) (taken_by g.W.Out.taken c.greet.new.self.out) (greeting n)) c.life.ensures c.in_default.ensures.told)
    (match-ok _ _ c.run-server.result.1 c.in-Ok-served.field-0 c.in-Ok-served.is c.run-server.ensures.acknowledged) (of-ok c.run-server.result.1 c.in-Ok-served.field-0 c.in-Ok-served.is c.run-server.ensures.ended) c.into_parts-store.ensures.waiting c.into_parts-store.ensures.store c.end-end.ensures
    c.end_serving.ensures.clean c.end_serving.ensures.left c.end_serving.ensures.renews c.end_serving.ensures.told c.end_serving.ensures.part

pub returns-in-Err-served-clause-acknowledged : goal.returns-in-Err-served-clause-acknowledged
returns-in-Err-served-clause-acknowledged g c =
    stops-safely-served (g.R.Read.remaining c.run-server.new.input) c.in-Ok.ensures.begun c.into_parts-store.ensures.store
    (subst (λ n. Appends (taken_by g.W.Out.taken c.args.client.now.out) (taken_by g.W.Out.taken c.greet.new.self.out) (greeting n)) c.life.ensures c.in_default.ensures.told)
    (match-err _ _ c.run-server.result.1 c.in-Err-served.fault c.in-Err-served.is c.run-server.ensures.acknowledged)

pub returns-in-Err-new-clause-stops : goal.returns-in-Err-new-clause-stops
returns-in-Err-new-clause-stops g c =
    stops-greeted (g.R.Read.remaining c.args.input.now) (taken_by g.W.Out.taken c.args.client.now.out) (taken_by g.W.Out.taken c.greet.new.self.out) c.args.store c.in-Err-new.store c.in-Err-new.ensures.refused
    (subst (λ n. Appends (taken_by g.W.Out.taken c.args.client.now.out) (taken_by g.W.Out.taken c.greet.new.self.out) (greeting n)) c.life.ensures c.in_default.ensures.told)

pub returns-in-Err-new-clause-acknowledged : goal.returns-in-Err-new-clause-acknowledged
returns-in-Err-new-clause-acknowledged g c =
    stops-safely-greeted (g.R.Read.remaining c.args.input.now) (g.R.Read.remaining c.args.input.now) (taken_by g.W.Out.taken c.args.client.now.out) (taken_by g.W.Out.taken c.greet.new.self.out) c.args.store c.in-Err-new.store c.in-Err-new.ensures.refused
    c.requires.sound (g.met.S.Store.settled c.args.store.journal.store)
    (subst (λ n. Appends (taken_by g.W.Out.taken c.args.client.now.out) (taken_by g.W.Out.taken c.greet.new.self.out) (greeting n)) c.life.ensures c.in_default.ensures.told)

pub returns-in-Err-new-clause-crash : goal.returns-in-Err-new-clause-crash
returns-in-Err-new-clause-crash g c = left-nowhere g.S.Store c.args.store c.in-Err-new.store (g.A.Archive.kept c.args.archive.now) c.in-Err-new.ensures.refused

pub returns-in-Err-served-clause-crash : goal.returns-in-Err-served-clause-crash
returns-in-Err-served-clause-crash g c =
    let kept = g.A.Archive.kept c.args.archive.now in
    let kept_now = g.A.Archive.kept c.run-server.new.archive in
    subst (λ (d : Durable g.row.S.Denot). LeavesEpochs g.S.Store c.args.store d kept kept_now) (sym c.into_parts-store.ensures.store)
    (subst (λ (d : Durable g.row.S.Denot). LeavesEpochs g.S.Store d c.run-server.result.0.session.store kept kept_now) c.in-Ok.ensures.store c.run-server.ensures.crash)
