use Rattle.std.proofs.Common.{refl, sym, arith}
use Rattle.std.proofs.lemmas.List.{drop_all}
use Rattle.undo_manager.proofs.Settling.{start-behind}
use Rattle.undo_manager.proofs.log.state_before.Goals as goal

pub returns-then-position-log : goal.returns-then-position-log
returns-then-position-log c = sym (start-behind c.args.log.now c.args.position c.args.state _ (omega arith))

pub returns-else-position-log : goal.returns-else-position-log
returns-else-position-log c = rw (drop_all c.args.position c.args.log.now (omega arith)) refl
