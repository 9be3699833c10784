use Rattle.std.proofs.Common.{◌≡◌, ◌∙◌, ◌≤◌, true, false, Option, None, Some, length, refl, sym, ap, subst, arith}
use Rattle.std.specs.Prelude.{is_some}
use Rattle.std.proofs.lemmas.Bool.{false≢true}
use Rattle.std.proofs.lemmas.Result.{on_err_weaker, on_ok_weaker}
use Rattle.outputs.specs.Gathered.{taken_by}
use Rattle.serving.specs.Acknowledged.{TellsSafely}
use Rattle.type_table.proofs.Results.{on_err}
use Rattle.serving.proofs.MoreEvents.{leaves-then}
use Rattle.serving.proofs.Parts.{known-whole, rest-consumed, tells-past}
use Rattle.serving.proofs.ServedBytes.{stays-put, stays-then}
use Rattle.serving.proofs.server.Server.serve_parts.Goals as goal

none-of : {A : Type 0} (x : Option A) → is_some x ≡ false → x ≡ None
none-of None e = refl
none-of (Some x) e = absurd cc

some-of : {A : Type 0} (x : Option A) → is_some x ≡ true → x ≡ None → ⊥
some-of x some none = false≢true (sym (ap is_some none) ∙ some)

pub loop-at-init : goal.loop-at-init
loop-at-init g c = record {
  low = omega arith;
  serves = λ began given taken given_now given_new consumed so_far.
      subst (λ k. TellsSafely g.S.Store began given taken c.args.self.now k (taken_by g.W.Out.taken c.args.client.now.out)) (known-whole given_now) so_far;
  asked = c.requires.asked;
  told = c.requires.told;
  stays = stays-put c.args.self.now.session c.requires.sound;
  takes = c.requires.out_takes;
}

pub returns-in_err-start-clause-stops : goal.returns-in_err-start-clause-stops
returns-in_err-start-clause-stops g c =
    on_err c.from_residual.result (λ began given taken given_now given_new consumed so_far.
    c.in_err-start.ensures.stops began given taken given_now given_new consumed (c.loop-at.invariant.serves began given taken given_now given_new consumed so_far))

pub returns-in_err-start-clause-crash : goal.returns-in_err-start-clause-crash
returns-in_err-start-clause-crash g c =
    let stays = c.loop-at.invariant.stays in
    leaves-then g.S.Store c.args.self.now.session.store c.loop-at.self.session.store c.serve_ended.new.self.session.store stays.clean stays.follows stays.crash c.serve_ended.ensures.crash

pub returns-then-asked_end-clause-crash : goal.returns-then-asked_end-clause-crash
returns-then-asked_end-clause-crash g c =
    let stays = c.loop-at.invariant.stays in
    leaves-then g.S.Store c.args.self.now.session.store c.loop-at.self.session.store c.serve_ended.new.self.session.store stays.clean stays.follows stays.crash c.serve_ended.ensures.crash

pub returns-then-asked_end-clause-serves : goal.returns-then-asked_end-clause-serves
returns-then-asked_end-clause-serves g c began given taken given_now given_new consumed so_far =
    let within : c.in_ok-start.start ≤ length c.args.bytes.now = omega (arith, c.in_ok-start.ensures.next, c.loop-at-test.true) in
    tells-past given_new _ (some-of c.serve_ended.new.self.end (sym c.is_some-asked_end.ensures ∙ c.if-asked_end.true)) (rest-consumed given_now given_new c.args.bytes.now c.in_ok-start.start consumed within)
    (c.in_ok-start.ensures.serves began given taken given_now given_new consumed (c.loop-at.invariant.serves began given taken given_now given_new consumed so_far))

pub loop-at-preserved : goal.loop-at-preserved
loop-at-preserved g c = record {
  low = c.in_ok-start.ensures.next;
  serves = λ began given taken given_now given_new consumed so_far.
      c.in_ok-start.ensures.serves began given taken given_now given_new consumed (c.loop-at.invariant.serves began given taken given_now given_new consumed so_far);
  asked = none-of c.serve_ended.new.self.end (sym c.is_some-asked_end.ensures ∙ c.if-asked_end.false);
  told = c.in_ok-start.ensures.told;
  stays = stays-then c.loop-at.invariant.stays c.in_ok-start.ensures.stays_in_epoch;
  takes = c.in_ok-start.ensures.out_takes;
}

pub returns-clause-crash : goal.returns-clause-crash
returns-clause-crash g c =
    let stays = c.loop-at.invariant.stays in
    leaves-then g.S.Store c.args.self.now.session.store c.loop-at.self.session.store c.serve_part.new.self.session.store stays.clean stays.follows stays.crash c.serve_part.ensures.crash

pub returns-clause-serves : goal.returns-clause-serves
returns-clause-serves g c =
    on_ok_weaker c.serve_part.result (λ serves began given taken given_now given_new consumed so_far.
    serves began given taken _ given_new (rest-consumed given_now given_new c.args.bytes.now c.loop-at.start consumed (omega (arith, c.loop-at.invariant.low, c.loop-at.auto.at-end)))
    (c.loop-at.invariant.serves began given taken given_now given_new consumed so_far)) c.serve_part.ensures.serves

pub returns-clause-stops : goal.returns-clause-stops
returns-clause-stops g c =
    on_err_weaker c.serve_part.result (λ stops began given taken given_now given_new consumed so_far.
    stops began given taken _ given_new (rest-consumed given_now given_new c.args.bytes.now c.loop-at.start consumed (omega (arith, c.loop-at.invariant.low, c.loop-at.auto.at-end)))
    (c.loop-at.invariant.serves began given taken given_now given_new consumed so_far)) c.serve_part.ensures.stops

pub returns-clause-stays_in_epoch : goal.returns-clause-stays_in_epoch
returns-clause-stays_in_epoch g c = on_ok_weaker c.serve_part.result (λ stays. stays-then c.loop-at.invariant.stays stays) c.serve_part.ensures.stays_in_epoch

pub returns-then-asked_end-clause-stays_in_epoch : goal.returns-then-asked_end-clause-stays_in_epoch
returns-then-asked_end-clause-stays_in_epoch g c = stays-then c.loop-at.invariant.stays c.in_ok-start.ensures.stays_in_epoch
