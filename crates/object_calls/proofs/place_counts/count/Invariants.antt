use Rattle.std.proofs.Common.{◌≡◌, ℕ, ◌<◌, length, take, get_or}
use Rattle.object_calls.specs.Ends.{times_in}
use Rattle.object_calls.proofs.place_counts.count.Given as goal

abbrev pub invariant-loop-place : goal.invariant-loop-place
invariant-loop-place l =
    record {
      long : length l.counts ≡ length l.fn.counts;
      counted : (x : ℕ) → x < length l.fn.counts → get_or l.counts x 0 ≡ times_in x (take l.place-index l.places);
    }
