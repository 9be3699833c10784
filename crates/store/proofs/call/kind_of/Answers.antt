use Rattle.std.proofs.Common.{sym, ap}
use Rattle.store_laws.specs.Words.{as_event}
use Rattle.store.proofs.call.kind_of.Goals as goal

pub returns-in-Reply : goal.returns-in-Reply
returns-in-Reply c = ap (as_event c.args.t c.args.x c.args.c) (sym c.in-Reply.is)
