use Rattle.std.proofs.Common.{Bool, true, false, replicate, sym, ◌∙◌, arith}
use Rattle.std.proofs.lemmas.List.{ext_get_or, length-replicate, get_or-replicate}
use Rattle.type_table.proofs.state_set.StateSet.all.Goals as goal

pub returns : goal.returns
returns c =
    let states = c.args.states in
    let len = c.loop-s.invariant.0 in
    ext_get_or false c.loop-s.set (replicate states true) (len ∙ sym (length-replicate {A = Bool} states true))
    (λ k below. c.loop-s.invariant.1 k (omega (arith, len)) ∙ sym (get_or-replicate states k true false (rw len at below)))
