use Rattle.std.proofs.Common.{◌≡◌, ◌≤◌, Bool, true, false, cond, refl, sym, arith}
use mir.Val.{bool_byte}
use Rattle.table_families.proofs.SeatFacts.{free_more}
use Rattle.table_families.proofs.seats.free_of.Goals as goal

-- a test as a number
as_number : (b : Bool) → bool_byte b ≡ cond b 1 0
as_number true = refl
as_number false = refl

number-small : (b : Bool) → bool_byte b ≤ 1
number-small true = omega arith
number-small false = omega arith

pub loop-i-preserved : goal.loop-i-preserved
loop-i-preserved c = record {
  counted = rw (as_number c.is_seat.result, c.is_seat.ensures, c.loop-i.invariant.counted) (sym (free_more c.loop-i.i c.args.s));
  few = omega (arith, c.loop-i.invariant.few, number-small c.is_seat.result);
}
