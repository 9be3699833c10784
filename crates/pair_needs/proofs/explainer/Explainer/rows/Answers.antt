use Rattle.std.proofs.Common.{◌≡◌, ℕ, List, ◌++◌, [], ◌∷◌, length, Some, sym, ap, subst, arith}
use Rattle.std.specs.List.{slice_get}
use Rattle.std.proofs.lemmas.List.{length-append}
use Rattle.pair_needs.specs.Explained.{IsRow}
use Rattle.pair_needs.specs.declared.explained.Row.{Row}
use Rattle.pair_needs.proofs.Said.{each-more}
use Rattle.pair_needs.proofs.explainer.Explainer.rows.Goals as goal

pub loop-p-preserved : goal.loop-p-preserved
loop-p-preserved c =
    let rows = c.loop-p.rows.items in
    let row = c.in_ok-row.row in
    let more : c.push.new.self.items ≡ rows ++ row ∷ [] = c.in_ok-push.ensures.items in
    record {
      long = omega (arith, ap (λ (V : List Row). length V) more, length-append rows (row ∷ []), c.loop-p.invariant.long);
      each = subst (λ (V : List Row). (p : ℕ) (r : Row) → slice_get V p ≡ Some r → IsRow c.args.kind c.args.file.now p r) (sym more)
          (each-more (λ p r. IsRow c.args.kind c.args.file.now p r) rows row c.loop-p.invariant.each
          (subst (λ (p : ℕ). IsRow c.args.kind c.args.file.now p row) (sym c.loop-p.invariant.long) c.in_ok-row.ensures));
    }

pub returns : goal.returns
returns c = record { whole = omega (arith, c.loop-p.invariant.long, c.loop-p-test.false, c.op_count-p-end.ensures.exact); each = c.loop-p.invariant.each }
