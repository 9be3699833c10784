use Rattle.std.proofs.Common.{◌∙◌, inl, inr}
use Rattle.durable_store.proofs.Recoveries.{AreAborted, raised-durable, raised-is, recovers}
use Rattle.durable_store.proofs.durable.Durable.recover.Given.{Over}
use Rattle.durable_store.proofs.durable.Durable.recover.Goals as goal

pub settle-requires : goal.settle-requires
settle-requires g c =
    raised-durable g.S.Store c.abort_unprepared.new.self c.begin_life.new.self c.in_ok-begin_life.field-0 c.in_ok-abort_unprepared.ensures.sound c.in_ok-begin_life.ensures.kept c.in_ok-begin_life.ensures.written
    c.in_ok-begin_life.ensures.durable c.begin_life.ensures.clean c.begin_life.ensures.crash

are-aborted : (g : Over) (c : goal.After-settle g) → AreAborted g.S.Store c.args.self.now c.abort_unprepared.new.self c.begin_life.new.self c.in_ok-begin_life.field-0
are-aborted g c = record {
  sound = c.requires;
  store = c.in_ok-abort_unprepared.ensures.store;
  prepared = c.in_ok-abort_unprepared.ensures.prepared;
  writes = c.in_ok-abort_unprepared.ensures.written;
  was = c.abort_unprepared.ensures.clean;
  raises = c.in_ok-begin_life.ensures.raised;
  last = c.in_ok-begin_life.ensures.last;
  is = c.in_ok-begin_life.ensures.written;
  back = c.begin_life.ensures.clean;
}

pub returns-clause-recovers : goal.returns-clause-recovers
returns-clause-recovers g c =
    recovers g.S.Store c.args.self.now c.abort_unprepared.new.self c.settle.new.self c.begin_life.new.self c.in_ok-begin_life.field-0 c.settle.result (are-aborted g c) c.settle.ensures.prepared
    c.settle.ensures.clean c.settle.ensures.store c.settle.ensures.written c.settle.ensures.durable c.settle.ensures.is_open c.settle.ensures.shows

pub returns-clause-crash : goal.returns-clause-crash
returns-clause-crash g c = λ db left. elim (c.settle.ensures.crash db left) [
  | inl is ↦ inl (
    c.abort_unprepared.ensures.clean (c.begin_life.ensures.clean is.0),
    is.1,
    is.2 ∙ raised-is g.S.Store c.args.self.now c.abort_unprepared.new.self c.begin_life.new.self c.in_ok-begin_life.field-0 (are-aborted g c) is.0,
  )
  | inr before ↦ inr (c.abort_unprepared.ensures.crash db (c.begin_life.ensures.crash db before))
]
