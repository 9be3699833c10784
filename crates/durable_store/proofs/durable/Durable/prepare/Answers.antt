use Rattle.std.proofs.Common.{◌≡◌, ◌∙◌, true, ap, refl, sym, subst}
use Rattle.serial_order.specs.History.{is_open, summary}
use Rattle.store_laws.specs.Stored.{Stored}
use Rattle.journal.specs.Contents.{with_prepared}
use Rattle.journal.specs.Journal.{written}
use Rattle.durable_store.specs.Held.{ArePrepared}
use Rattle.durable_store.specs.Keys.{IsFree, IsInState}
use Rattle.durable_store.proofs.HeldKeys.{free-of, prepared-more, still-sound}
use Rattle.durable_store.proofs.durable.Durable.prepare.Goals as goal

pub returns-clause-sound : goal.returns-clause-sound
returns-clause-sound g c =
    let d = c.state_of.new.self in
    let p = c.args.prepared in
    let c' = written g.S.Store d.journal in
    let sound = c.in_ok-state_of.ensures.sound in
    still-sound g.S.Store d _ (with_prepared c' p).prepared c'.outcomes sound refl refl refl c.in_ok-prepare.ensures.kept c.in_ok-prepare.ensures.written c.in_ok-prepare.ensures.durable
    c.prepare.ensures.clean c.prepare.ensures.crash
    (λ clean.
    let free : IsFree c' p.key = subst (λ f. IsFree f p.key) (sym (c.in_ok-state_of.ensures.written clean)) (subst (IsInState (written g.S.Store c.args.self.now.journal) p.key) c.in-Free.is (c.in_ok-state_of.ensures.knows clean)) in
    let opened : is_open (summary d.store.history) p.number ≡ true =
    ap (λ (s : Stored). is_open (summary s.history) p.number) c.in_ok-state_of.ensures.store ∙ sym c.is_open.ensures ∙ c.if-not-is_open.false in
    subst (ArePrepared d.store.history (with_prepared c' p)) (sym c.in_ok-push.ensures.items)
    (prepared-more d.store.history c' d.prepared.items p (sound.prepared clean) opened (free-of g.S.Store d p.key sound clean free) free.0))
