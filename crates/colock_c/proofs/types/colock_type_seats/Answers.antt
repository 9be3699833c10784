use Rattle.std.proofs.Common.{ℕ}
use Rattle.library_calls.specs.Families.{HasNone, IsOfFamily}
use Rattle.table_families.specs.Seats.{AreSeats, SeatsFit, seats}
use Rattle.colock_c.proofs.Typings.{of_family}
use Rattle.colock_c.proofs.types.colock_type_seats.Goals as goal

pub returns-clause-made : goal.returns-clause-made
returns-clause-made c = λ k empty is.
    of_family (IsOfFamily (AreSeats c.args.count) (SeatsFit c.args.count) (seats c.args.count)) (λ (n : ℕ). HasNone (AreSeats c.args.count) (SeatsFit c.args.count) n)
    c.seats_file-made.result k c.args.fault.now c.hold_made.result c.hold_made.new.fault c.hold_made.new.slot.handle.held c.seats_file-made.ensures.made c.seats_file-made.ensures.refused (c.hold_made.ensures.made k empty is)
