use Rattle.serial_order.specs.Replay.{is_history_full}
use Rattle.std.proofs.Common.{◌≡◌, false, ◌+◌, ◌<◌, [], length, take, subst, sym, arith}
use Rattle.std.proofs.lemmas.List.{length-map}
use Rattle.attempts.specs.Commands.{asked_call, asked_calls}
use Rattle.attempts.specs.Made.{CallsAreMade}
use Rattle.attempts.proofs.Transactions.{there-at, made-none, made-more, made-all, room-next}
use Rattle.attempts.proofs.calls.make_calls.Goals as goal

pub loop-at-init : goal.loop-at-init
loop-at-init g c =
    let s = c.args.store.now in (
      subst (λ ks. CallsAreMade s c.args.w c.args.t [] ks s) (sym c.requires.none_yet) (made-none s c.args.w c.args.t c.requires.going),
      c.requires.places,
    )

pub make_call-requires-clause-going : goal.make_call-requires-clause-going
make_call-requires-clause-going g c κs within = c.loop-at.invariant.0.going

pub make_call-requires-clause-room : goal.make_call-requires-clause-room
make_call-requires-clause-room g c κs within =
    let calls = asked_calls c.args.calls.now in
    let many : length calls ≡ length c.args.calls.now = length-map c.args.calls.now asked_call in
    let low : c.loop-at.at < length calls = omega (arith, many, c.loop-at-test.true) in
    room-next c.args.store.now c.loop-at.store c.args.w c.args.t calls c.loop-at.at c.loop-at.operations.items c.loop-at.invariant.0 low
    (subst (λ n. is_history_full c.args.store.now.limits c.args.store.now.history n ≡ false) (sym many) c.requires.room)

pub returns-in-Err : goal.returns-in-Err
returns-in-Err g c =
    record {
      before = c.loop-at.store;
      made = c.loop-at.invariant.0;
      call = _;
      there = there-at c.args.calls.now c.loop-at.at _ c.loop-at-test.true;
      last = c.in-Err.ensures;
    }

pub loop-at-preserved : goal.loop-at-preserved
loop-at-preserved g c = (
  subst (λ ks. CallsAreMade c.args.store.now c.args.w c.args.t (take (c.loop-at.at + 1) (asked_calls c.args.calls.now)) ks c.make_call.new.store) (sym c.push_reserved.ensures.items)
      (made-more c.replays_join.ensures c.args.store.now c.loop-at.store c.make_call.new.store c.args.w c.args.t (asked_calls c.args.calls.now) c.loop-at.at _ c.loop-at.operations.items c.in-Ok.k
      (there-at c.args.calls.now c.loop-at.at _ c.loop-at-test.true) c.loop-at.invariant.0 c.in-Ok.ensures),
  omega (arith, c.push_reserved.ensures.capacity, c.loop-at.invariant.1),
)

pub returns : goal.returns
returns g c =
    let calls = asked_calls c.args.calls.now in
    let many : length calls ≡ length c.args.calls.now = length-map c.args.calls.now asked_call in
    made-all c.args.store.now c.loop-at.store c.args.w c.args.t calls c.loop-at.at c.loop-at.operations.items (omega (arith, many, c.loop-at-test.false)) c.loop-at.invariant.0
