-- The keyword and the numbers so far come after what was before the line, and there is room for the others.
use Rattle.std.proofs.Common.{◌≡◌, ◌+◌, ◌*◌, ◌≤◌, ◌++◌, length, take}
use Rattle.outputs.proofs.Numbers.{numbers_text}
use Rattle.outputs.proofs.number_line.spell_line.Given as goal

abbrev pub invariant-loop-number : goal.invariant-loop-number
invariant-loop-number l =
    (take l.end l.buffer ≡ (take l.start l.fn.buffer ++ l.keyword) ++ numbers_text (take l.number-index l.numbers))
    × (l.start ≤ l.end) × (l.end ≤ l.start + length l.keyword + 11 * l.number-index) × (length l.buffer ≡ length l.fn.buffer)
