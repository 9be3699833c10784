use Rattle.std.proofs.Common.{◌≡◌, ◌∙◌, ◌++◌, ap, sym, subst}
use Rattle.store_laws.specs.Stored.{Stored}
use Rattle.store.specs.Ends.{closing_but}
use Rattle.journal.specs.Journal.{written}
use Rattle.durable_store.specs.Held.{ArePrepared, prepared_numbers}
use Rattle.durable_store.proofs.Aborts.{aborts-behind}
use Rattle.durable_store.proofs.Spared.{closing-prepared}
use Rattle.durable_store.proofs.durable.Durable.abort_unprepared.Goals as goal

pub write_since-requires-clause-behind : goal.write_since-requires-clause-behind
write_since-requires-clause-behind g c =
    aborts-behind g.S.Store c.deref-2.result.now c.args.self.now c.abort_all_but.new.self c.event_count-count.result c.steps_are_retraced.ensures.closing c.requires c.event_count-count.ensures.exact c.event_count-count.ensures.within
    c.abort_all_but.ensures.aborts

pub write_since-requires-clause-prepared : goal.write_since-requires-clause-prepared
write_since-requires-clause-prepared g c = λ clean.
    let old = c.args.self.now in
    let ps = old.prepared.items in
    let those : c.deref-2.result.now ≡ prepared_numbers ps = c.deref-2.ensures.value ∙ c.in_ok-those.ensures ∙ ap prepared_numbers c.deref.ensures.value in
    let history : c.abort_all_but.new.self.history ≡ old.store.history ++ closing_but (prepared_numbers ps) old.store.history =
    ap (λ (s : Stored). s.history) c.abort_all_but.ensures.aborts ∙ ap (λ ns. old.store.history ++ closing_but ns old.store.history) those in
    subst (λ H. ArePrepared H (written g.S.Store old.journal) ps) (sym history) (closing-prepared old.store.history (written g.S.Store old.journal) ps (c.requires.prepared clean))
