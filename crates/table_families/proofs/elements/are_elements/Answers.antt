use Rattle.std.proofs.Common.{◌≡◌, ◌<◌, length, sym, ◌∙◌, arith}
use Rattle.std.proofs.lemmas.Bool.{both_ways, false≢true, not-true, not_from_false, eqb-false, eqb-true}
use Rattle.table_families.proofs.Distinct.{distinct-from_repeats, repeats-from_distinct, short-from_all, all-from_short}
use Rattle.table_families.proofs.elements.are_elements.Goals as goal

pub returns-then-is_empty : goal.returns-then-is_empty
returns-then-is_empty c =
    let none : length c.args.elements.now ≡ 0 = eqb-true _ _ (sym c.if-is_empty.ensures) in
    (λ e. absurd (false≢true e), λ known. absurd (omega (arith, known.some)))

pub returns-then-not-are_short : goal.returns-then-not-are_short
returns-then-not-are_short c =
    (λ e. absurd (false≢true e), λ known. absurd (both_ways _ (sym c.if-not-are_short.ensures) (all-from_short c.args.most c.args.elements.now known.short)))

pub returns : goal.returns
returns c =
    let elements = c.args.elements.now in
    let some : 0 < length elements = omega (arith, eqb-false (length elements) 0 (sym c.if-is_empty.ensures)) in (
      λ e. record {
        some = some;
        short = short-from_all c.args.most elements (sym c.if-not-are_short.ensures);
        distinct = distinct-from_repeats elements (sym c.repeats.ensures ∙ not-true _ e);
      },
      λ known. not_from_false _ (c.repeats.ensures ∙ repeats-from_distinct elements known.distinct),
    )
