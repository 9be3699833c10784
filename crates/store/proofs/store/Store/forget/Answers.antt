use Rattle.std.proofs.Common.{◌≡◌, ◌∙◌, ◌+◌, ◌≤◌, ◌++◌, map, length, min, vec_capacity, sym, ap, arith}
use Rattle.serial_order.specs.History.{commits}
use Rattle.store_laws.specs.Stored.{types_of}
use Rattle.store.proofs.Pasts.{past-length, gone-same, gone-many, same-whole, gone-shown}
use Rattle.store.proofs.store.Store.forget.Goals as goal

pub invariant_of-self : goal.invariant_of-self
invariant_of-self g c =
    let s = c.self.inside in
    let n = c.min-count.result in
    let inside : n ≤ length s.history.items = omega (arith, c.min-count.ensures, c.len.ensures, s.history.ok.0) in
    let wider : s.forgotten + vec_capacity s.history ≤ s.forgotten + n + vec_capacity c.remove_front.new.history = omega (arith, c.remove_front.ensures.capacity) in (
      gone-many s.past.items s.history.items c.deref.result.now c.add.new.self.items c.remove_front.new.history.items n c.add.ensures c.deref.ensures.value c.remove_front.ensures.items s.forgotten
          c.self.invariant.0 inside,
      same-whole (map g.R.Recovery.meaning s.objects.items) s.calls.items s.transactions.rows (s.past.items ++ s.history.items)
          (c.add.new.self.items ++ c.remove_front.new.history.items) _ _ s.limits s.counts c.self.invariant.1
          (gone-same s.past.items s.history.items c.deref.result.now c.add.new.self.items c.remove_front.new.history.items n c.add.ensures c.deref.ensures.value c.remove_front.ensures.items) wider,
      c.self.invariant.2
          ∙ ap (λ H. length (commits H)) (sym (gone-same s.past.items s.history.items c.deref.result.now c.add.new.self.items c.remove_front.new.history.items n c.add.ensures c.deref.ensures.value c.remove_front.ensures.items)),
    )

pub returns : goal.returns
returns g c =
    let s = c.self.inside in
    let n = c.min-count.result in
    let all = past-length s.past.items s.history.items s.forgotten c.self.invariant.0 in
    let more : s.forgotten + n ≡ min (s.forgotten + c.args.n) (length (s.past.items ++ s.history.items)) =
    omega (arith, c.min-count.ensures, c.len.ensures, s.history.ok.0, all) in
    gone-shown (types_of (map g.R.Recovery.meaning s.objects.items)) (s.past.items ++ s.history.items) (c.add.new.self.items ++ c.remove_front.new.history.items) s.limits s.forgotten
    (s.forgotten + n) c.args.n c.args.self.now c.self.view_is
    (gone-same s.past.items s.history.items c.deref.result.now c.add.new.self.items c.remove_front.new.history.items n c.add.ensures c.deref.ensures.value c.remove_front.ensures.items) more
