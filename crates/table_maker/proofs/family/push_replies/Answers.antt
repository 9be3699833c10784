use Rattle.std.proofs.Common.{ℕ, append_assoc, refl, arith}
use Rattle.std.specs.Fmt.{decimal}
use Rattle.std.proofs.lemmas.List.FromFn.{map-range_with_len_more}
use Rattle.table_maker.specs.Made.{op_named}
use Rattle.table_maker.proofs.family.push_replies.Goals as goal

pub loop-n-preserved : goal.loop-n-preserved
loop-n-preserved c =
    let one_more = map-range_with_len_more (λ (n : ℕ). op_named c.args.call (decimal n)) 0 c.loop-n.n c.loop-n.n (omega arith) in
    rw (c.in_ok-push.ensures.items, c.loop-n.invariant, c.in_ok-reply.ensures, one_more, append_assoc) refl
