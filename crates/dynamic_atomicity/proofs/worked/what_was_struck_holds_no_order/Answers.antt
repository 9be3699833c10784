use Rattle.std.proofs.Common.{[], ◌∷◌, refl}
use Rattle.std.proofs.lemmas.Bool.{false≢true}
use Rattle.object_trait.specs.declared.event.EventKind.TheVariants.{Begin, Op, Commit, Rollback}
use Rattle.serial_order.specs.Examples.{events}
use Rattle.dynamic_atomicity.specs.Dynamic.{dated_at}
use Rattle.dynamic_atomicity.specs.Joined.{store_history}
use Rattle.dynamic_atomicity.specs.OrderExamples.{struck_stores}
use Rattle.dynamic_atomicity.proofs.Keeping.{kept-each}
use Rattle.dynamic_atomicity.proofs.worked.what_was_struck_holds_no_order.Goals as goal

pub returns-clause-first_kept : goal.returns-clause-first_kept
returns-clause-first_kept c = kept-each (1 ∷ 0 ∷ []) (dated_at 0 (store_history 0 struck_stores)) (tt, tt)

pub returns-clause-second_kept : goal.returns-clause-second_kept
returns-clause-second_kept c = kept-each (1 ∷ 0 ∷ []) (dated_at 0 (store_history 1 struck_stores)) (tt, ((refl, tt), tt))

pub returns-clause-precedes : goal.returns-clause-precedes
returns-clause-precedes c = λ keeps.
    false≢true (keeps 0 1 (record {
      before = events (Begin 0 ∷ Begin 1 ∷ Op 0 0 0 ∷ Commit 0 ∷ []);
      happened = record { worker = 0; kind = Op 1 1 0 };
      behind = events (Rollback 1 1 ∷ Commit 1 ∷ []);
      whole = refl;
      ended = refl;
      operation = refl;
    }) refl)

pub returns-clause-turned : goal.returns-clause-turned
returns-clause-turned c = λ kept. false≢true (kept.1.0 refl 1 refl)
