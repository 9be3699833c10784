use Rattle.std.proofs.Common.{◌≡◌, true, IsTrue, subst}
use Rattle.std.proofs.lemmas.List.Elements.{All-from_recursion, recursion_from_All}
use Rattle.serial_order.specs.History.{summary, is_open}
use Rattle.store.proofs.Ascending.{ascend-all, rise-each}
use Rattle.store.proofs.store.Store.may_carry.Goals as goal

pub returns-then-not-ascend-clause-no : goal.returns-then-not-ascend-clause-no
returns-then-not-ascend-clause-no g c = λ may. subst IsTrue c.if-not-ascend.true (c.ascend.ensures.1 (rise-each c.args.those.now may.ascend))

pub returns-clause-yes : goal.returns-clause-yes
returns-clause-yes g c = λ yes. record {
  ascend = ascend-all c.args.those.now (c.ascend.ensures.0 c.if-not-ascend.false);
  are_open = recursion_from_All (λ t. is_open (summary c.args.self.now.history) t ≡ true) c.args.those.now (c.are_open.ensures.0 yes);
}

pub returns-clause-no : goal.returns-clause-no
returns-clause-no g c = λ may. c.are_open.ensures.1 (All-from_recursion (λ t. is_open (summary c.args.self.now.history) t ≡ true) c.args.those.now may.are_open)
