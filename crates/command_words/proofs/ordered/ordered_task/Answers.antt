use Rattle.std.proofs.Common.{◌∷◌, ◌<◌, List, ℕ, length, ap, arith, refl, subst, sym, Bor}
use Rattle.std.proofs.lemmas.Bool.{eqb-false}
use Rattle.std.proofs.lemmas.List.{length-map}
use Rattle.std.specs.Prelude.{All, codes}
use Rattle.clap.specs.Walk.{texts}
use Rattle.command_words.specs.Lines.{IsPlain}
use Rattle.command_words.specs.Ordered.{SpellsOrder}
use Rattle.command_words.specs.Words.{Text}
use Rattle.command_words.proofs.OrderedLemmas.{list_is}
use Rattle.command_words.proofs.ordered.ordered_task.Goals as goal

pub returns-clause-taken : goal.returns-clause-taken
returns-clause-taken c =
    let copied = c.in_ok-to_vec.ensures.items_if_clones_equal (λ x y same. same) in
    let types_are = sym (ap texts copied) in
    let some = c.if-is_empty.ensures in
    let many = length-map c.args.types.now (λ (w : Bor Text). w.now) in (
      record { order = c.in-Some.order.items; history = c.args.history.now; types = texts c.in_ok-to_vec.field-0.items },
      refl,
      record {
        list = c.args.list.now;
        are = ap (λ (ts : List Text). codes "audit" ∷ codes "--order" ∷ c.args.list.now ∷ c.args.history.now ∷ ts) types_are;
        order = rw c.in-Some.is at c.in_ok-order.ensures;
        plain = (c.is_plain.ensures.plain c.if-not-is_plain.false, subst (All IsPlain) types_are (c.are_plain.ensures.plain c.if-not-are_plain.false));
        some = subst (λ (ts : List Text). 0 < length ts) types_are (omega (arith, eqb-false _ _ (sym some), many));
      },
    )

pub returns-in_default-clause-other : goal.returns-in_default-clause-other
returns-in_default-clause-other c =
    let none : (ns : List ℕ) → ¬ (SpellsOrder c.args.list.now ns) = rw c.in_default.is at c.in_ok-order.ensures in
    λ a are. none a.order (list_is c.args.list.now c.args.history.now (texts c.args.types.now) a are)
