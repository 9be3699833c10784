use Rattle.std.proofs.Common.{◌≡◌, ◌≤◌, ◌<◌, ◌∙◌, ◌-◌, Some, ap, arith, cond, refl, subst, sym}
use Rattle.std.specs.BTreeMap.{get}
use Rattle.std.specs.Ordering.{is_eq, nat_cmp}
use Rattle.sqlite_trees.specs.View.{View}
use Rattle.transaction_key.specs.TransactionKey.{key_place}
use Rattle.journal.specs.OutcomeIndex.{awaiting_from, last_number, outcome_numbered, numbered_from}
use Rattle.journal.proofs.KnownPlaces.{last-new, none-in, read-places}
use Rattle.journal.proofs.LastNumbers.{last-zero}
use Rattle.journal.proofs.outcome_index.read_fresh.Goals as goal

pub loop-number-init : goal.loop-number-init
loop-number-init g c = record {
  begun = c.new-index.ensures.begun ∙ c.awaiting_from.ensures;
  due = c.new-index.ensures.due;
  counted = c.new-index.ensures.counted;
  fresh = λ clean p.
      let rows = (g.S.Store.view c.args.store.now).trees 6 in
      let start = c.awaiting_from-number.ensures in
      let none : c.awaiting_from-number.result - awaiting_from c.args.numbers ≡ 0 = omega (arith, start) in
      none-in c.new-index.result.fresh p c.new-index.ensures.fresh ∙ sym (last-zero rows p (awaiting_from c.args.numbers) _ none);
  same = λ clean. refl;
  schema = record { shape = refl; reals = refl; committed_shape = refl; committed_reals = refl; numbered = refl };
  clean = λ clean. clean;
  crash = λ db left. left;
}

pub loop-number-preserved : goal.loop-number-preserved
loop-number-preserved g c =
    let inv = c.loop-number.invariant in
    let found = c.in_ok-found.ensures in
    let older = inv.schema in
    let newer = found.schema in
    record {
      begun = inv.begun;
      due = inv.due;
      counted = inv.counted;
      fresh = λ clean p.
          let rows = (g.S.Store.view c.args.store.now).trees 6 in
          let was = found.clean clean in
          let base = awaiting_from c.args.numbers in
          let number = c.loop-number.number in
          let there : outcome_numbered rows number ≡ Some c.in-Some.found = ap (λ (v : View). outcome_numbered (v.trees 6) number) (sym (inv.same was)) ∙ sym (found.found clean) ∙ c.in-Some.is in
          let exact = c.place.ensures.exact in
          let short : key_place c.in-Some.found.kept.key < numbered_from = let short = c.place.ensures.short in subst (λ k. k < numbered_from) exact short in
          let start = c.loop-number.auto.number in
          let first = c.awaiting_from-number.ensures in
          let after : base ≤ number = omega (arith, start, first) in
          c.in_ok-insert-in-Some.ensures.updates.0 p
          ∙ ap (λ k. cond (is_eq (nat_cmp k p)) (Some number) (get nat_cmp c.loop-number.index.fresh p)) exact
          ∙ ap (λ rest. cond (is_eq (nat_cmp (key_place c.in-Some.found.kept.key) p)) (Some number) rest) (inv.fresh was p)
          ∙ sym (last-new rows base number c.in-Some.found p after there short);
      same = λ clean. found.same clean ∙ inv.same (found.clean clean);
      schema = record {
        shape = newer.shape ∙ older.shape;
        reals = newer.reals ∙ older.reals;
        committed_shape = newer.committed_shape ∙ older.committed_shape;
        committed_reals = newer.committed_reals ∙ older.committed_reals;
        numbered = newer.numbered ∙ older.numbered;
      };
      clean = λ clean. inv.clean (found.clean clean);
      crash = λ db left. inv.crash db (found.crash db left);
    }

pub returns-clause-knows : goal.returns-clause-knows
returns-clause-knows g c = λ clean.
    let rows = (g.S.Store.view c.args.store.now).trees 6 in
    let inv = c.loop-number.invariant in
    let first = c.awaiting_from-number.ensures in
    let end : c.loop-number.number ≡ c.args.numbers.next = omega arith in
    read-places rows c.args.numbers c.loop-number.index inv.begun inv.due (λ p. inv.fresh clean p ∙ ap (λ k. last_number rows p (awaiting_from c.args.numbers) (k - awaiting_from c.args.numbers)) end)
