use Rattle.std.proofs.Common.{◌≡◌, ◌<◌, ◌∙◌, false, not, ◌&&◌, ◌==◌, length, List, is_some, sym, ap, subst, arith}
use Rattle.object_trait.specs.Steps.{stops, stops_alone, holder_of}
use Rattle.object_trait.specs.declared.log_entry.LogEntry.{LogEntry}
use Rattle.object_trait.proofs.Alone.{or-none}
use Rattle.store_tests.proofs.Blocking.{unstopped}
use Rattle.store_tests.proofs.tests.managers.driven.may_apply.Goals as goal

pub returns-then-legal : goal.returns-then-legal
returns-then-legal g c = λ yes.
    let m = g.R.Recovery.meaning c.args.object.now in
    let few : length c.args.log.now.items < 4294967295 = omega (arith, c.if-len-ge-MOST_ENTRIES.false, c.len.ensures) in
    let none : is_some c.blocker.result ≡ false = grind (arith, c.is_none.ensures, yes) in
    record {
      operation = c.has.ensures c.if-not-has.false;
      legal = c.legal.ensures.0 c.if-legal.true;
      free = unstopped (stops m c.args.t c.args.k) c.args.t m.log
          (or-none (holder_of (λ e. stops_alone m c.args.t c.args.k e && (not (e.by == c.args.t) && stops m c.args.t c.args.k e)) m.log) (holder_of (λ e. not (e.by == c.args.t) && stops m c.args.t c.args.k e) m.log)
          (ap is_some (sym c.blocker.ensures) ∙ none));
      room = subst (λ (log : List LogEntry). length log < 4294967295) (sym c.requires) few;
    }
