use Rattle.std.proofs.Common.{◌<◌, get_or, length}
use Rattle.std.proofs.lemmas.Option.{slice_get-get_or}
use Rattle.journal.specs.declared.state_row.FirstState.{FirstState}
use Rattle.journal.proofs.Rewritten.{one-new}
use Rattle.journal.proofs.journal.rewrite_states.Goals as goal

pub loop-x-preserved : goal.loop-x-preserved
loop-x-preserved g c =
    let states = c.args.states.now in
    let x = c.loop-x.x in
    let none : FirstState = record { state = 0 } in
    let low : x < length states = c.loop-x-test.true in
    record {
      new = λ clean. one-new (g.S.Store.view c.args.store.now) (g.S.Store.view c.loop-x.store) (g.S.Store.view c.append.new.store) states x (get_or states x none)
          (c.loop-x.invariant.new (c.append.ensures.clean clean)) (slice_get-get_or states x none low) low (c.in_ok-append.ensures.ok clean);
      clean = λ clean. c.loop-x.invariant.clean (c.append.ensures.clean clean);
      crash = λ db left. c.loop-x.invariant.crash db (c.append.ensures.crash db left);
    }
