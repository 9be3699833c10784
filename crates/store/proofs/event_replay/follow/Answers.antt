use Rattle.std.proofs.Common.{refl, sym, ◌∙◌}
use Rattle.object_trait.specs.declared.event.EventKind.TheVariants as kind
use Rattle.serial_order.specs.History.{summary}
use Rattle.serial_order.specs.declared.command.Command.TheVariants as command
use Rattle.store_laws.specs.Stored.{objects}
use Rattle.store.proofs.Follows.{only-commit, only-abort, only-rollback, steps-followed, may-followed}
use Rattle.store.proofs.FollowedOps.{op-made, op-not-made}
use Rattle.store.proofs.event_replay.follow.Goals as goal

pub returns-in-Commit : goal.returns-in-Commit
returns-in-Commit g c =
    let old = c.args.store.now in
    let t = c.in-Commit.t in
    steps-followed old c.args.event.now (command.Commit t) (kind.Commit t) refl (only-commit (objects old) (summary old.history) t) c.commit.result c.end_of.result c.commit.new.self
    c.in-Commit.is c.end_of.ensures c.commit.ensures

pub returns-in-Abort : goal.returns-in-Abort
returns-in-Abort g c =
    let old = c.args.store.now in
    let t = c.in-Abort.t in
    steps-followed old c.args.event.now (command.Abort t) (kind.Abort t) refl (only-abort (objects old) (summary old.history) t) c.abort.result c.end_of-in-Abort.result c.abort.new.self
    c.in-Abort.is c.end_of-in-Abort.ensures c.abort.ensures

pub returns-in-Rollback : goal.returns-in-Rollback
returns-in-Rollback g c =
    let old = c.args.store.now in
    let t = c.in-Rollback.t in
    let n = c.in-Rollback.n in
    may-followed old c.args.event.now (command.Rollback t n) (kind.Rollback t n) refl (only-rollback (objects old) (summary old.history) t n) c.rollback.result c.end_of-in-Rollback.result
    c.rollback.new.self c.in-Rollback.is c.end_of-in-Rollback.ensures c.rollback.ensures

pub returns-in-None-call_of_op : goal.returns-in-None-call_of_op
returns-in-None-call_of_op g c =
    let at = c.call_of_op.ensures in (
      op-not-made c.args.store.now c.args.event.now c.in-Op.t c.in-Op.x c.in-Op.k c.in-Op.is (sym at ∙ c.in-None-call_of_op.is),
      refl,
    )

pub follow_call-requires-clause-by : goal.follow_call-requires-clause-by
follow_call-requires-clause-by g c κs within =
    op-made c.args.store.now c.args.event.now c.in-Op.t c.in-Op.x c.in-Op.k c.in-Some.c c.in-Op.is (sym c.call_of_op.ensures ∙ c.in-Some.is)
