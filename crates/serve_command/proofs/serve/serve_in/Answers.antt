use Rattle.std.proofs.Common.{◌∙◌, ◌-◌, ap, inl, length, sym, ℕ}
use Rattle.store_laws.specs.Stored.{Stored}
use Rattle.outputs.specs.Gathered.{taken_by}
use Rattle.journal.specs.Contents.{contents_of}
use Rattle.serving.proofs.Results.{of-ok}
use Rattle.serve_command.proofs.ArchivedEpochs.{archives-at}
use Rattle.serve_command.proofs.ServedLemmas.{comes-at, says-at}
use Rattle.serve_command.proofs.StayingOutcomes.{opened-at}
use Rattle.serve_command.proofs.Unserved.{fails-at, opening-left, staying-left}
use Rattle.serve_command.proofs.serve.serve_in.Goals as goal

pub returns-in-Ok-stay_at_least-clause-comes : goal.returns-in-Ok-stay_at_least-clause-comes
returns-in-Ok-stay_at_least-clause-comes g c held is =
    let db = (g.S.Store.view c.args.trees).committed in
    let done = c.in-Ok-stay_at_least in
    let stays = c.stay_at_least.ensures in
    comes-at (g.I.Read.remaining c.args.input.now) (taken_by g.W.Out.taken c.args.client.now.out) (g.I.Read.remaining c.serve_store.new.input) (taken_by g.W.Out.taken c.serve_store.new.client.out)
    c.serve_store.result.1 db c.stay_at_least.new.store held c.serve_store.result.0 (of-ok c.stay_at_least.result done.field-0 done.is stays.sound) (of-ok c.stay_at_least.result done.field-0 done.is stays.shows)
    (λ clean. let before = stays.clean clean in is (c.in-Ok.ensures.clean before) (c.in-Ok.ensures.was_open before))
    (opened-at g.S.Store c.args.asked.outcomes (contents_of db) c.in-Ok.store c.stay_at_least.new.store stays.clean c.in-Ok.ensures.found
    (of-ok c.stay_at_least.result done.field-0 done.is stays.types) (of-ok c.stay_at_least.result done.field-0 done.is stays.history) (of-ok c.stay_at_least.result done.field-0 done.is stays.written))
    c.serve_store.ensures.yes c.serve_store.ensures.told c.serve_store.ensures.cut

pub returns-in-Ok-stay_at_least-clause-says : goal.returns-in-Ok-stay_at_least-clause-says
returns-in-Ok-stay_at_least-clause-says g c held is =
    let db = (g.S.Store.view c.args.trees).committed in
    let done = c.in-Ok-stay_at_least in
    let stays = c.stay_at_least.ensures in
    let history = of-ok c.stay_at_least.result done.field-0 done.is stays.history in
    says-at g.S.Store c.args.asked.outcomes (g.I.Read.remaining c.args.input.now) (taken_by g.W.Out.taken c.args.client.now.out) (g.I.Read.remaining c.serve_store.new.input) (taken_by g.W.Out.taken c.serve_store.new.client.out)
    c.serve_store.result.1 db c.stay_at_least.new.store held c.serve_store.result.0 c.in-Ok.events c.saturating_sub.result c.milliseconds_since.result c.args.asked.path.now
    (g.E.Out.taken c.args.err.now) (g.E.Out.taken c.say_found.new.err) (λ clean. let before = stays.clean clean in is (c.in-Ok.ensures.clean before) (c.in-Ok.ensures.was_open before))
    (opened-at g.S.Store c.args.asked.outcomes (contents_of db) c.in-Ok.store c.stay_at_least.new.store stays.clean c.in-Ok.ensures.found
    (of-ok c.stay_at_least.result done.field-0 done.is stays.types) history (of-ok c.stay_at_least.result done.field-0 done.is stays.written))
    (λ clean. c.in-Ok.ensures.counted (stays.clean clean))
    (c.saturating_sub.ensures ∙ ap (λ (n : ℕ). n - c.in-Ok.events)
    (c.event_count.ensures.exact ∙ ap (λ (s : Stored). length s.history) c.store.ensures ∙ sym (ap length history)))
    c.say_found.ensures c.serve_store.ensures.told

pub returns-in-Ok-stay_at_least-clause-archives : goal.returns-in-Ok-stay_at_least-clause-archives
returns-in-Ok-stay_at_least-clause-archives g c held is =
    let db = (g.S.Store.view c.args.trees).committed in
    let done = c.in-Ok-stay_at_least in
    let stays = c.stay_at_least.ensures in
    archives-at g.S.Store c.args.asked.outcomes (g.I.Read.remaining c.args.input.now) (taken_by g.W.Out.taken c.args.client.now.out) (g.I.Read.remaining c.serve_store.new.input) (taken_by g.W.Out.taken c.serve_store.new.client.out)
    c.serve_store.result.1 db c.stay_at_least.new.store held c.serve_store.result.0 (g.A.Archive.kept c.args.archive.now) (g.A.Archive.kept c.serve_store.new.archive)
    (λ clean. let before = stays.clean clean in is (c.in-Ok.ensures.clean before) (c.in-Ok.ensures.was_open before))
    (opened-at g.S.Store c.args.asked.outcomes (contents_of db) c.in-Ok.store c.stay_at_least.new.store stays.clean c.in-Ok.ensures.found
    (of-ok c.stay_at_least.result done.field-0 done.is stays.types) (of-ok c.stay_at_least.result done.field-0 done.is stays.history) (of-ok c.stay_at_least.result done.field-0 done.is stays.written))
    c.serve_store.ensures.told c.serve_store.ensures.archives

pub returns-in-Ok-stay_at_least-clause-left : goal.returns-in-Ok-stay_at_least-clause-left
returns-in-Ok-stay_at_least-clause-left g c held is leaves =
    let db = (g.S.Store.view c.args.trees).committed in
    let done = c.in-Ok-stay_at_least in
    let stays = c.stay_at_least.ensures in
    let opened = c.in-Ok.ensures in
    fails-at (g.I.Read.remaining c.args.input.now) (taken_by g.W.Out.taken c.args.client.now.out) (g.I.Read.remaining c.serve_store.new.input) (taken_by g.W.Out.taken c.serve_store.new.client.out)
    c.serve_store.result.1 db c.stay_at_least.new.store held c.serve_store.result.0 (of-ok c.stay_at_least.result done.field-0 done.is stays.sound) (of-ok c.stay_at_least.result done.field-0 done.is stays.shows)
    (λ clean. let before = stays.clean clean in is (opened.clean before) (opened.was_open before))
    (opened-at g.S.Store c.args.asked.outcomes (contents_of db) c.in-Ok.store c.stay_at_least.new.store stays.clean opened.found
    (of-ok c.stay_at_least.result done.field-0 done.is stays.types) (of-ok c.stay_at_least.result done.field-0 done.is stays.history) (of-ok c.stay_at_least.result done.field-0 done.is stays.written))
    (λ same. staying-left g.S.Store c.args.asked.outcomes c.args.trees c.serve_store.result.1 c.in-Ok.store c.stay_at_least.new.store held same stays.crash stays.clean opened.sound opened.is_open opened.was_open opened.found
    (λ db now left. g.met.S.Store.settled c.in-Ok.store.journal.store db now left) is)
    c.serve_store.ensures.cut

pub returns-in-Err-stay_at_least-clause-left : goal.returns-in-Err-stay_at_least-clause-left
returns-in-Err-stay_at_least-clause-left g c held is leaves =
    let stays = c.stay_at_least.ensures in
    let opened = c.in-Ok.ensures in
    inl
    (staying-left g.S.Store c.args.asked.outcomes c.args.trees c.into_trees.result c.in-Ok.store c.stay_at_least.new.store held c.into_trees.ensures stays.crash stays.clean opened.sound opened.is_open opened.was_open opened.found
    (λ db now left. g.met.S.Store.settled c.in-Ok.store.journal.store db now left) is)

pub returns-in-Err-clause-left : goal.returns-in-Err-clause-left
returns-in-Err-clause-left g c held is leaves = inl (opening-left g.S.Store c.args.asked.outcomes c.args.trees c.in-Err.trees held c.in-Err.ensures.crash is leaves)
