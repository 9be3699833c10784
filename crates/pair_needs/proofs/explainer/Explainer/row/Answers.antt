use Rattle.std.proofs.Common.{◌≡◌, ℕ, List, ◌++◌, [], ◌∷◌, length, Some, refl, sym, ap, subst, arith}
use Rattle.std.specs.List.{slice_get}
use Rattle.std.proofs.lemmas.List.{length-append}
use Rattle.pair_needs.specs.Explained.{IsExplained}
use Rattle.pair_needs.specs.declared.explained.Explained.{Explained}
use Rattle.pair_needs.proofs.Said.{each-more}
use Rattle.pair_needs.proofs.explainer.Explainer.row.Goals as goal

pub loop-q-preserved : goal.loop-q-preserved
loop-q-preserved c =
    let pairs = c.loop-q.pairs.items in
    let pair = c.in_ok-pair.pair in
    let more : c.push.new.self.items ≡ pairs ++ pair ∷ [] = c.in_ok-push.ensures.items in
    record {
      long = omega (arith, ap (λ (V : List Explained). length V) more, length-append pairs (pair ∷ []), c.loop-q.invariant.long);
      each = subst (λ (V : List Explained). (q : ℕ) (e : Explained) → slice_get V q ≡ Some e → IsExplained c.args.kind c.args.file.now c.args.p q e) (sym more)
          (each-more (λ q e. IsExplained c.args.kind c.args.file.now c.args.p q e) pairs pair c.loop-q.invariant.each
          (subst (λ (q : ℕ). IsExplained c.args.kind c.args.file.now c.args.p q pair) (sym c.loop-q.invariant.long) c.in_ok-pair.ensures));
    }

pub returns : goal.returns
returns c = record { requested = refl; whole = omega (arith, c.loop-q.invariant.long, c.loop-q-test.false, c.op_count-q-end.ensures.exact); each = c.loop-q.invariant.each }
