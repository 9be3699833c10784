-- The bytes so far are digits, the number is theirs, and it has no more digits than were read.
use Rattle.std.proofs.Common.{◌≡◌, ◌<◌, ◌^◌, take, true}
use Rattle.std.specs.List.{list_all}
use Rattle.decimals.specs.Decimals.{is_digit, number_value}
use Rattle.line_text.proofs.plain.number_before.Given as goal

abbrev pub invariant-loop-count : goal.invariant-loop-count
invariant-loop-count l =
    record {
      digits : list_all is_digit (take l.count l.text) ≡ true;
      value : l.number ≡ number_value (take l.count l.text);
      fits : l.number < 10 ^ l.count;
    }
