use Rattle.std.proofs.Common.{map, length, Some, Ok, Err, refl}
use Rattle.std.proofs.lemmas.Option.{slice_get_read}
use Rattle.declared_types.specs.Declarations.{table_of}
use Rattle.object_trait.specs.declared.event.Event.{Event}
use Rattle.history_judge.proofs.Taken.{judged-more, handed-none, handed-some, judge-stops, judged-of}
use Rattle.history_judge.proofs.judge.Judge.take.Goals as goal

pub returns-in-Ok-clause-taken : goal.returns-in-Ok-clause-taken
returns-in-Ok-clause-taken c =
    let tables = map (λ t. table_of t.now) c.args.types.now in
    let events = c.args.events.now in
    let at = c.args.at in
    let e : Event = c.index-events-at.result in
    let here = slice_get_read events (length events) at e refl c.requires.inside c.index-events-at.is in (
      judged-more tables events at e here c.args.self.now c.commit.new.self c.requires.so_far c.summary_after.ensures (Some c.in-Ok.operations)
          (judged-of tables c.args.self.now c.commit.new.self (Ok (Some c.in-Ok.operations)) e.kind _ c.in-Commit.is (c.in-Ok.ensures.judged tables)),
      handed-some tables events at e here c.args.self.now c.commit.new.self c.requires.so_far c.in-Commit.t c.in-Ok.operations c.in-Commit.is (c.in-Ok.ensures.judged tables),
    )

pub returns-in-Err-clause-refused : goal.returns-in-Err-clause-refused
returns-in-Err-clause-refused c =
    let tables = map (λ t. table_of t.now) c.args.types.now in
    let events = c.args.events.now in
    let e : Event = c.index-events-at.result in
    let here = slice_get_read events (length events) c.args.at e refl c.requires.inside c.index-events-at.is in
    rw (c.fault_at.ensures)
    (judge-stops tables events c.args.at e here c.args.self.now c.commit.new.self c.requires.so_far c.in-Err.fault
    (judged-of tables c.args.self.now c.commit.new.self (Err c.in-Err.fault) e.kind _ c.in-Commit.is (c.in-Err.ensures.judged tables)))

pub returns-in-Ok-judge : goal.returns-in-Ok-judge
returns-in-Ok-judge c =
    let tables = map (λ t. table_of t.now) c.args.types.now in
    let events = c.args.events.now in
    let e : Event = c.index-events-at.result in
    let here = slice_get_read events (length events) c.args.at e refl c.requires.inside c.index-events-at.is in
    let (its, judged) = c.in-Ok-judge.ensures.judged in
    record {
      taken = (
        judged-more tables events c.args.at e here c.args.self.now c.judge.new.self c.requires.so_far c.summary_after.ensures its judged,
        handed-none tables events c.args.at e here c.args.self.now c.judge.new.self c.requires.so_far its judged c.in_default.not-Commit,
      );
      refused = tt;
    }

pub returns-in-Err-judge : goal.returns-in-Err-judge
returns-in-Err-judge c =
    let tables = map (λ t. table_of t.now) c.args.types.now in
    let events = c.args.events.now in
    let e : Event = c.index-events-at.result in
    let here = slice_get_read events (length events) c.args.at e refl c.requires.inside c.index-events-at.is in
    record {
      taken = tt;
      refused = rw (c.fault_at-in-Err-judge.ensures)
          (judge-stops tables events c.args.at e here c.args.self.now c.judge.new.self c.requires.so_far c.in-Err-judge.fault c.in-Err-judge.ensures.judged);
    }
