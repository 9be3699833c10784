use Rattle.std.proofs.Common.{◌≡◌, ◌<◌, Bool, ℕ, All, length, sym, ap, subst, ◌∙◌, arith}
use Rattle.std.specs.List.{range_with_len}
use Rattle.std.specs.Prelude.{filter, List}
use Rattle.declared_types.specs.Declarations.{rows_of}
use Rattle.type_table.specs.declared.op.Op.{Op}
use Rattle.type_commands.specs.Explain.{is_asked, pair_as}
use Rattle.type_commands.proofs.Asked.{all_below, one_fails, one_passes}
use Rattle.type_commands.proofs.explain.rows_asked.Goals as goal
use Rattle.type_commands.proofs.explain.rows_asked.Goals.{then-is_asked+in_ok-push, else-is_asked}

pub loop-k-preserved : goal.loop-k-preserved
loop-k-preserved c =
    let test : ℕ → Bool = λ k. is_asked (pair_as c.args.asked) k in
    elim c.if-is_asked.branch [
      | then-is_asked+in_ok-push w ↦
          rw w.rows-is (w.in_ok-push.ensures.items ∙ one_passes test c.loop-k.rows.items c.loop-k.k c.loop-k.invariant (sym c.is_asked.ensures ∙ w.if-is_asked.true))
      | else-is_asked w ↦ rw w.rows-is (one_fails test c.loop-k.rows.items c.loop-k.k c.loop-k.invariant (sym c.is_asked.ensures ∙ w.if-is_asked.false))
    ]

pub returns-clause-inside : goal.returns-clause-inside
returns-clause-inside c =
    let test : ℕ → Bool = λ k. is_asked (pair_as c.args.asked) k in
    let all : c.loop-k.k ≡ length (rows_of c.args.declared.now) =
    let last : c.loop-k.k ≡ length c.rows.result.now = omega arith in
    last ∙ ap (λ (rows : List Op). length rows) c.rows.ensures.exact in
    subst (λ (xs : List ℕ). All (λ k. k < length (rows_of c.args.declared.now)) xs) (sym (c.loop-k.invariant ∙ ap (λ n. filter test (range_with_len 0 n)) all))
    (all_below test (length (rows_of c.args.declared.now)))
