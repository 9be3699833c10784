use Rattle.std.proofs.Common.{◌≡◌, ◌+◌, true, false, Option, None, Some, refl, sym, ap, subst, arith}
use Rattle.std.proofs.lemmas.List.{append-nil}
use Rattle.std.specs.Prelude.{is_some}
use Rattle.serving.specs.Acknowledged.{NoneLast}
use Rattle.serving.specs.Left.{LeavesLines, began_at}
use Rattle.serving.specs.Server.{HasServed}
use Rattle.type_table.proofs.Results.{on_err}
use Rattle.serving.proofs.LeftLines.{bytes-left, failed-left, rest-left}
use Rattle.serving.proofs.MoreEvents.{leaves-then, written-more}
use Rattle.serving.proofs.ServedBytes.{byte-stays, bytes-more, stays-put, stays-then}
use Rattle.serving.proofs.server.Server.take_bytes.Goals as goal

none-of : {A : Type 0} (x : Option A) → is_some x ≡ false → x ≡ None
none-of None e = refl
none-of (Some x) e = absurd cc

pub loop-b-init : goal.loop-b-init
loop-b-init g c = record {
  stays = stays-put c.args.self.now.session c.requires.sound;
  none = c.requires.asked;
  served = λ began told seen served. subst (λ bs. HasServed g.S.Store began told bs c.args.self.now) (sym (append-nil seen)) served;
  left = λ began told seen served so_far. subst (λ bs. LeavesLines g.S.Store (began_at g.S.Store began) NoneLast bs told c.args.self.now.answers.items c.args.self.now.session.store) (sym (append-nil seen)) so_far;
}

pub returns-in_err-take_byte-clause-clean : goal.returns-in_err-take_byte-clause-clean
returns-in_err-take_byte-clause-clean g c clean = c.loop-b.invariant.stays.clean (c.in_err-take_byte.ensures.clean clean)

pub returns-in_err-take_byte-clause-crash : goal.returns-in_err-take_byte-clause-crash
returns-in_err-take_byte-clause-crash g c =
    let stays = c.loop-b.invariant.stays in
    leaves-then g.S.Store c.args.self.now.session.store c.loop-b.self.session.store c.take_byte.new.self.session.store stays.clean stays.follows stays.crash
    (written-more g.S.Store c.loop-b.self.session.store c.take_byte.new.self.session.store c.in_err-take_byte.ensures.crash)

pub returns-in_err-take_byte-clause-failed : goal.returns-in_err-take_byte-clause-failed
returns-in_err-take_byte-clause-failed g c =
    on_err c.from_residual.result (λ began told seen served so_far. failed-left seen c.args.bytes.now c.loop-b.b-index c.loop-b.self c.take_byte.new.self.session.store (c.loop-b.invariant.served began told seen served)
    c.in_err-take_byte.ensures.crash (c.loop-b.invariant.left began told seen served so_far))

pub returns-then-is_some-clause-left : goal.returns-then-is_some-clause-left
returns-then-is_some-clause-left g c began told seen served so_far =
    rest-left g.S.Store (began_at g.S.Store began) c.take_byte.new.self.session.store seen c.args.bytes.now (c.loop-b.b-index + 1) (bytes-left seen c.loop-b.self c.take_byte.new.self c.args.bytes.now c.loop-b.b-index c.loop-b-test.true c.in_ok-take_byte.ensures.takes
    (c.loop-b.invariant.served began told seen served) c.in_ok-take_byte.ensures.crash (c.loop-b.invariant.left began told seen served so_far))

pub returns-clause-left : goal.returns-clause-left
returns-clause-left g c began told seen served so_far = rest-left g.S.Store (began_at g.S.Store began) c.loop-b.self.session.store seen c.args.bytes.now c.loop-b.b-index (c.loop-b.invariant.left began told seen served so_far)

pub returns-then-is_some-clause-serves : goal.returns-then-is_some-clause-serves
returns-then-is_some-clause-serves g c began told seen served = record {
  count = c.loop-b.b-index + 1;
  within = omega arith;
  served = bytes-more seen c.loop-b.self c.take_byte.new.self c.args.bytes.now c.loop-b.b-index c.loop-b-test.true c.loop-b.invariant.none c.in_ok-take_byte.ensures.takes (c.loop-b.invariant.served began told seen served);
  all = λ none. absurd (let e : is_some c.take_byte.new.self.end ≡ true = sym (c.if-is_some.ensures) in let n : is_some c.take_byte.new.self.end ≡ false = ap is_some none in cc);
}

pub returns-then-is_some-clause-stays_in_epoch : goal.returns-then-is_some-clause-stays_in_epoch
returns-then-is_some-clause-stays_in_epoch g c = stays-then c.loop-b.invariant.stays (byte-stays c.loop-b.self c.take_byte.new.self _ c.loop-b.invariant.stays.sound c.in_ok-take_byte.ensures.takes)

pub returns-then-is_some-clause-clean : goal.returns-then-is_some-clause-clean
returns-then-is_some-clause-clean g c = (stays-then c.loop-b.invariant.stays (byte-stays c.loop-b.self c.take_byte.new.self _ c.loop-b.invariant.stays.sound c.in_ok-take_byte.ensures.takes)).clean

pub returns-then-is_some-clause-crash : goal.returns-then-is_some-clause-crash
returns-then-is_some-clause-crash g c = (stays-then c.loop-b.invariant.stays (byte-stays c.loop-b.self c.take_byte.new.self _ c.loop-b.invariant.stays.sound c.in_ok-take_byte.ensures.takes)).crash

pub loop-b-preserved : goal.loop-b-preserved
loop-b-preserved g c = record {
  stays = stays-then c.loop-b.invariant.stays (byte-stays c.loop-b.self c.take_byte.new.self _ c.loop-b.invariant.stays.sound c.in_ok-take_byte.ensures.takes);
  none = none-of c.take_byte.new.self.end (sym (c.if-is_some.ensures));
  served = λ began told seen served. bytes-more seen c.loop-b.self c.take_byte.new.self c.args.bytes.now c.loop-b.b-index c.loop-b-test.true c.loop-b.invariant.none c.in_ok-take_byte.ensures.takes (c.loop-b.invariant.served began told seen served);
  left = λ began told seen served so_far. bytes-left seen c.loop-b.self c.take_byte.new.self c.args.bytes.now c.loop-b.b-index c.loop-b-test.true c.in_ok-take_byte.ensures.takes
      (c.loop-b.invariant.served began told seen served) c.in_ok-take_byte.ensures.crash (c.loop-b.invariant.left began told seen served so_far);
}
