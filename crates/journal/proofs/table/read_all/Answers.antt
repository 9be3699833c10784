use Rattle.std.proofs.Common.{arith, ◌≡◌, ◌-◌, ◌^◌, Some, Result, Ok, Err, ap, ◌∙◌, sym}
use Rattle.std.specs.Prelude.{IfOk}
use Rattle.std.proofs.lemmas.Option.{same_Some}
use Rattle.sqlite_trees.specs.Tree.{order_of}
use Rattle.journal.proofs.RowLemmas.{from_nothing, whole-rows}
use Rattle.journal.proofs.CursorRows.{placed}
use Rattle.journal.proofs.table.read_all.Goals as goal

-- of two facts on what was read a third
of-both : {T F : Type 0} {P Q R : T → Type 0} (r : Result T F) → IfOk r P → IfOk r Q → ((x : T) → P x → Q x → R x) → IfOk r R
of-both (Ok x) first second turn = turn x first second
of-both (Err e) first second turn = tt

pub returns-clause-told : goal.returns-clause-told
returns-clause-told g c = of-both c.read_on.result c.read_on.ensures.told c.read_on.ensures.few (λ entries told few clean.
    let old = g.S.Store.view c.args.store.now in
    let all = old.trees c.args.table in
    let (given, there, first) = told clean in
    let sought = rw c.clear.ensures at c.in_ok-seek.ensures.ok (c.read_on.ensures.clean clean) in
    let start = placed old (g.S.Store.view c.seek.new.self) _ sought ∙ ap Some (from_nothing (order_of (old.shape c.args.table)) all) in
    let same : all ≡ given = same_Some all given (sym start ∙ there) in
    same ∙ whole-rows g.E.Entry.row_at (2 ^ 64 - 1) 0 entries.items given (omega (arith, few)) first)
