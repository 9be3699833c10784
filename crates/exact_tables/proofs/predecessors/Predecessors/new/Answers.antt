use Rattle.std.proofs.Common.{ℕ, List, ◌+◌, ◌<◌, sym, subst, arith}
use Rattle.std.specs.Prelude.{Vec}
use Rattle.std.specs.declared.alloc.Global.{Global}
use Rattle.std.proofs.lemmas.List.{with_items_is}
use Rattle.exact_tables.specs.Predecessors.{lists_of, HaveSteps}
use Rattle.exact_tables.proofs.StepLists.{steps-same}
use Rattle.exact_tables.proofs.predecessors.Predecessors.new.Goals as goal

pub loop-s-init : goal.loop-s-init
loop-s-init c = steps-same c.args.table.now (λ a k. ⊥) (λ a k. a < 0) (lists_of c.in_ok-lists.lists.items) c.in_ok-lists.ensures
    (λ a k k_in none. absurd none)
    (λ a k k_in below. omega (arith, below))

pub put_state-requires-clause-lists : goal.put_state-requires-clause-lists
put_state-requires-clause-lists c = rw c.deref_mut.ensures.value c.loop-s.invariant

pub loop-s-preserved : goal.loop-s-preserved
loop-s-preserved c =
    let shown = with_items_is c.loop-s.lists c.put_state.new.lists (omega arith) in
    subst (λ (lists : List (Vec ℕ Global)). HaveSteps c.args.table.now (λ a k. a < c.loop-s.s + 1) (lists_of lists)) (sym shown) c.in_ok-put_state.ensures

pub returns : goal.returns
returns c = record {
  table = c.states-states.ensures.table;
  ops = c.op_count-ops.ensures.exact;
  steps = steps-same c.args.table.now (λ a k. a < c.loop-s.s) (λ a k. a < c.args.table.now.states) (lists_of c.loop-s.lists.items) c.loop-s.invariant
      (λ a k k_in below. omega (arith, below, c.states-states.ensures.exact, c.loop-s.auto.s-end))
      (λ a k k_in below. omega (arith, below, c.states-states.ensures.exact, c.loop-s-test.false));
}
