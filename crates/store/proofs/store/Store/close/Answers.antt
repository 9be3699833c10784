use Rattle.std.proofs.Common.{◌++◌, ◌≡◌, ℕ, false, Some, slice_get, drop, map, sym, ap, subst, ◌∙◌}
use Rattle.object_trait.specs.Meaning.{Meaning}
use Rattle.serial_order.specs.History.{summary, is_open}
use Rattle.store_laws.specs.Stored.{Stored}
use Rattle.store_laws.specs.Kept.{keeping}
use Rattle.store.specs.Ends.{IsHandedOut}
use Rattle.store.proofs.Pasts.{past-drop}
use Rattle.store.proofs.Closings.{run-shown, handed-out}
use Rattle.store.proofs.store.Store.close.Goals as goal

pub returns : goal.returns
returns g c =
    let s = c.args.self in
    let left = c.self.inside in
    let ms = map g.R.Recovery.meaning left.objects.items in
    let K = left.past.items ++ left.history.items in
    let is = c.self.view_is ∙ c.abort_all.ensures.aborts in
    let whole = ap (λ (z : Stored). z.history) is in
    record {
      history = sym (past-drop left.past.items left.history.items left.forgotten c.self.invariant.0)
          ∙ ap (λ n. drop n K) (ap (λ (z : Stored). z.forgotten) is) ∙ ap (λ J. drop s.forgotten J) whole;
      run = run-shown (keeping ms left.transactions.rows) K left.limits left.forgotten _ is c.self.invariant.1.store.kept;
      types = ap (λ (z : Stored). z.types) is;
      objects = subst (λ J. (x : ℕ) (m : Meaning) → slice_get ms x ≡ Some m → IsHandedOut m x J) whole
          (handed-out c.idle_is_closed.ensures ms left.transactions.rows K c.self.invariant.1.store.kept
          (subst (λ (z : Stored). (t : ℕ) → is_open (summary z.history) t ≡ false) (sym c.self.view_is) c.abort_all.ensures.none));
    }
