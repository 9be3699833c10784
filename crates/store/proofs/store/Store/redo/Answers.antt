use Rattle.std.proofs.Common.{◌∙◌}
use Rattle.std.proofs.lemmas.Result.{on_ok_weaker}
use Rattle.store.proofs.DoneAgain.{MayBeRedone, begin-again, begin-appends}
use Rattle.store.proofs.TracedAgain.{redo-traced}
use Rattle.store.proofs.store.Store.redo.Goals as goal

pub begin_again-requires-after_bounds : goal.begin_again-requires-after_bounds
begin_again-requires-after_bounds g c κs within =
    begin-again c.room_after.ensures c.args.self.now c.args.event.now (record { run = c.requires.run; works = c.requires.works; room = c.requires.room; few = c.requires.few }) c.in-Begin.t c.in-Begin.is

pub returns-in-Begin-clause-done : goal.returns-in-Begin-clause-done
returns-in-Begin-clause-done g c =
    let may : MayBeRedone c.args.self.now c.args.event.now = record { run = c.requires.run; works = c.requires.works; room = c.requires.room; few = c.requires.few } in
    on_ok_weaker c.begin_again.result (λ did. did ∙ begin-appends c.room_after.ensures c.args.self.now c.args.event.now may c.in-Begin.t c.in-Begin.is) c.begin_again.ensures.done

pub returns-in-Begin-clause-traced : goal.returns-in-Begin-clause-traced
returns-in-Begin-clause-traced g c =
    on_ok_weaker c.begin_again.result
    (λ did. redo-traced c.room_after.ensures c.args.self.now c.args.event.now (record { run = c.requires.run; works = c.requires.works; room = c.requires.room; few = c.requires.few }))
    c.begin_again.ensures.done

pub returns-in-Op-clause-traced : goal.returns-in-Op-clause-traced
returns-in-Op-clause-traced g c =
    on_ok_weaker c.execute_again.result
    (λ did. redo-traced c.room_after.ensures c.args.self.now c.args.event.now (record { run = c.requires.run; works = c.requires.works; room = c.requires.room; few = c.requires.few }))
    c.execute_again.ensures.done
