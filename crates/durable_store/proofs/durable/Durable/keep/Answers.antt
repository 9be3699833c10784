use Rattle.std.proofs.Common.{refl}
use Rattle.journal.specs.declared.outcome_row.KeyedOutcome.{KeyedOutcome}
use Rattle.journal.specs.Contents.{with_outcome}
use Rattle.journal.specs.Journal.{written}
use Rattle.durable_store.proofs.HeldKeys.{prepared-kept, still-sound}
use Rattle.durable_store.proofs.durable.Durable.keep.Goals as goal

pub returns-clause-sound : goal.returns-clause-sound
returns-clause-sound g c =
    let d = c.args.self.now in
    let c' = written g.S.Store d.journal in
    let kept : KeyedOutcome = record { key = c.args.key; outcome = c.args.outcome } in
    still-sound g.S.Store d _ c'.prepared (with_outcome c' kept).outcomes c.requires.sound refl refl refl c.in_ok-keep_outcome.ensures.kept c.in_ok-keep_outcome.ensures.written c.in_ok-keep_outcome.ensures.durable
    c.keep_outcome.ensures.clean c.keep_outcome.ensures.crash
    (λ clean. prepared-kept d.store.history c' d.prepared.items kept (c.requires.unprepared clean) (c.requires.sound.prepared clean))
