use Rattle.std.proofs.Common.{◌≡◌, ◌∙◌, ◌+◌, ◌<◌, Some, length, refl, subst, sym, ap, arith}
use Rattle.std.specs.Prelude.{slice_get}
use Rattle.std.specs.declared.alloc.Global.{Global}
use Rattle.std.specs.declared.vec.Vec.{Vec}
use Rattle.std.proofs.lemmas.Bool.{false≢true}
use Rattle.std.proofs.lemmas.Option.{slice_get_read}
use Rattle.transaction_key.specs.TransactionKey.{key_place}
use Rattle.serial_order.specs.History.{begins}
use Rattle.journal.specs.declared.journal.Journal.{Journal}
use Rattle.journal.specs.declared.prepared_row.Prepared.{Prepared}
use Rattle.journal.specs.Contents.{Contents}
use Rattle.journal.specs.Journal.{written}
use Rattle.durable_store.specs.Held.{first_passing, has_place}
use Rattle.durable_store.proofs.PreparedRows.{AreRead, own-place, read-closed, read-open}
use Rattle.durable_store.proofs.recovered_store.prepared_of.Goals as goal
use Rattle.durable_store.proofs.recovered_store.prepared_of.Goals.{then-is_open+in_ok-has_own_place+else-not-branch+in_ok-push, else-is_open}

pub returns-then-not-branch-clause-strays : goal.returns-then-not-branch-clause-strays
returns-then-not-branch-clause-strays g c = λ stray clean prepared.
    let row = c.index-said-place.result in
    let there : slice_get c.args.said.now c.loop-place.place ≡ Some row = slice_get_read c.args.said.now (length c.args.said.now) c.loop-place.place row refl c.loop-place-test.true c.index-said-place.is in
    let own = own-place c.args.store.now.history (written g.S.Store c.args.journal.now) c.args.said.now c.loop-place.place row c.loop-place.prepared.items there (sym c.is_open.ensures ∙ c.if-is_open.true)
    c.loop-place.invariant.rows prepared in
    let kept = ap (λ (c : Contents). c.outcomes.at (key_place row.key)) (c.loop-place.invariant.written (c.has_own_place.ensures.clean clean)) ∙ own.1 in
    false≢true (sym c.if-not-branch.true ∙ (c.in_ok-has_own_place.ensures.own clean).1 (ap (first_passing (has_place row.key)) c.deref.ensures.value ∙ own.0, kept))

pub loop-place-preserved : goal.loop-place-preserved
loop-place-preserved g c =
    let H = c.args.store.now.history in
    let said = c.args.said.now in
    let i = c.loop-place.place in
    let row = c.index-said-place.result in
    let there : slice_get said i ≡ Some row = slice_get_read said (length said) i row refl c.loop-place-test.true c.index-said-place.is in
    let low : row.number < begins H = omega (arith, c.if-row-begun.false, c.begun-begun.ensures) in
    let first = c.args.journal.now in
    let to : (journal : Journal g.row.S.Denot) (ps : Vec Prepared Global) → c.if-is_open.journal ≡ journal → c.if-is_open.prepared ≡ ps → AreRead g.S.Store H said first (i + 1) journal ps.items
    → AreRead g.S.Store H said first (i + 1) c.if-is_open.journal c.if-is_open.prepared.items =
    λ journal ps same alike read.
    subst (λ (j : Journal g.row.S.Denot). AreRead g.S.Store H said first (i + 1) j c.if-is_open.prepared.items) (sym same)
    (subst (λ (qs : Vec Prepared Global). AreRead g.S.Store H said first (i + 1) journal qs.items) (sym alike) read) in
    elim c.if-is_open.branch [
      | then-is_open+in_ok-has_own_place+else-not-branch+in_ok-push w ↦
          to w.has_own_place.new.journal w.push.new.self w.journal-is w.prepared-is
          (read-open g.S.Store H said first i c.loop-place.journal w.has_own_place.new.journal c.loop-place.prepared.items w.push.new.self.items row c.loop-place.invariant there low
          (sym c.is_open.ensures ∙ w.if-is_open.true) w.in_ok-push.ensures.items
          (λ clean.
          let own = (w.in_ok-has_own_place.ensures.own clean).0 w.if-not-branch.false in
          (ap (first_passing (has_place row.key)) (sym w.deref.ensures.value) ∙ own.0, own.1))
          w.in_ok-has_own_place.ensures.kept w.in_ok-has_own_place.ensures.written w.in_ok-has_own_place.ensures.durable w.has_own_place.ensures.header w.has_own_place.ensures.clean w.has_own_place.ensures.crash)
      | else-is_open w ↦
          to c.loop-place.journal c.loop-place.prepared w.journal-is w.prepared-is
          (read-closed g.S.Store H said first i c.loop-place.journal c.loop-place.prepared.items row c.loop-place.invariant there low (sym c.is_open.ensures ∙ w.if-is_open.false))
    ]
