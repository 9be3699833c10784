use Rattle.std.proofs.Common.{◌≡◌, ◌-◌, ℕ, [], false}
use Rattle.std.specs.BTreeMap.{get}
use Rattle.std.specs.Ordering.{nat_cmp}
use Rattle.sqlite_trees.specs.Tree.{Trees}
use Rattle.sqlite_trees.specs.View.{IsClean, KeepsSchema}
use Rattle.journal.specs.OutcomeIndex.{awaiting_from, last_number}
use Rattle.journal.proofs.outcome_index.read_fresh.Given as goal

abbrev pub invariant-loop-number : goal.invariant-loop-number
invariant-loop-number g l = record {
  begun : l.index.begun ≡ awaiting_from l.fn.numbers;
  due : l.index.due.entries ≡ [];
  counted : l.index.uncounted ≡ false;
  fresh : IsClean (g.S.Store.view l.store) → (p : ℕ) → get nat_cmp l.index.fresh p ≡ last_number ((g.S.Store.view l.fn.store).trees 6) p (awaiting_from l.fn.numbers) (l.number - awaiting_from l.fn.numbers);
  same : IsClean (g.S.Store.view l.store) → g.S.Store.view l.store ≡ g.S.Store.view l.fn.store;
  schema : KeepsSchema (g.S.Store.view l.fn.store) (g.S.Store.view l.store);
  clean : IsClean (g.S.Store.view l.store) → IsClean (g.S.Store.view l.fn.store);
  crash : (db : Trees) → g.S.Store.recovers l.store db → g.S.Store.recovers l.fn.store db;
}
