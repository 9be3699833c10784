use Rattle.std.proofs.Common.{refl, arith}
use Rattle.table_families.proofs.SeatFacts.{few-seats, seats-table}
use Rattle.table_families.proofs.seats.make_seats.Goals as goal

pub seats_ops-requires : goal.seats_ops-requires
seats_ops-requires c = few-seats c.args.count (c.if-not-fit.ensures.0 refl)

pub invariant_of-rules : goal.invariant_of-rules
invariant_of-rules c =
    let known = c.if-not-fit.ensures.0 refl in
    record { few = few-seats c.args.count known; fits = known.states }

pub make_file-requires-clause-family : goal.make_file-requires-clause-family
make_file-requires-clause-family c = seats-table c.args.count (omega arith, omega arith) (c.if-not-fit.ensures.0 refl)
