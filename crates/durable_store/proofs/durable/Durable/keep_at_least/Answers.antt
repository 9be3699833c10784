use Rattle.std.proofs.Common.{refl}
use Rattle.journal.specs.Contents.{with_least}
use Rattle.journal.specs.Journal.{written}
use Rattle.durable_store.proofs.GoneOver.{prepared-alike}
use Rattle.durable_store.proofs.HeldKeys.{still-sound}
use Rattle.durable_store.proofs.durable.Durable.keep_at_least.Goals as goal

pub returns-clause-sound : goal.returns-clause-sound
returns-clause-sound g c =
    let d = c.args.self.now in
    let c' = written g.S.Store d.journal in
    let now = with_least c' c.args.least in
    still-sound g.S.Store d _ c'.prepared now.outcomes c.requires refl refl refl c.in_ok-keep_at_least.ensures.kept c.in_ok-keep_at_least.ensures.written c.in_ok-keep_at_least.ensures.durable
    c.keep_at_least.ensures.clean c.keep_at_least.ensures.crash
    (λ clean. prepared-alike d.store.history c' now d.prepared.items refl (λ n empty. empty) (c.requires.prepared clean))
