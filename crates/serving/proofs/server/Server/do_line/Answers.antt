use Rattle.std.proofs.Common.{refl}
use Rattle.serving.proofs.DoneLines.{does-line}
use Rattle.serving.proofs.server.Server.do_line.Goals as goal

pub returns-clause-does : goal.returns-clause-does
returns-clause-does g c =
    does-line g.S.Store c.args.self.now _ c.deref.result.now c.deref-2.result.now c.in_ok-asked.asked c.asks_end.result c.in_ok-answered.answered c.deref.ensures.value c.in_ok-asked.ensures c.asks_end.ensures c.if-asks_end.false c.deref-2.ensures.value
    c.in_ok-answered.ensures.does c.clear-2.ensures.items c.in_ok-push.ensures.items refl
