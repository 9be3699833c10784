-- The bytes so far are digits, the number is theirs, and it has no more digits than were read.
use Rattle.std.proofs.Common.{◌≡◌, ◌<◌, ◌^◌, take, true}
use Rattle.std.specs.List.{list_all}
use Rattle.decimals.specs.Decimals.{is_digit, number_value}
use Rattle.decimals.proofs.number.number_of.Given as goal

abbrev pub invariant-loop-digit : goal.invariant-loop-digit
invariant-loop-digit l =
    record {
      digits : list_all is_digit (take l.digit-index l.word) ≡ true;
      value : l.number ≡ number_value (take l.digit-index l.word);
      fits : l.number < 10 ^ l.digit-index;
    }
