-- The words so far have their references.
use Rattle.std.proofs.Common.{◌≡◌, ◌≤◌, length, map, take, vec_capacity, vec_len}
use Rattle.commands.proofs.words.borrowed.Given as goal

abbrev pub invariant-loop-word : goal.invariant-loop-word
invariant-loop-word l = record {
  room : length l.words ≤ vec_capacity l.borrowed;
  count : vec_len l.borrowed ≡ l.word-index;
  are : map (λ w. w.now) l.borrowed.items ≡ map (λ w. w.bytes.items) (take l.word-index l.words);
}
