use Rattle.std.proofs.Common.{◌≡◌, ◌^◌, ◌≤◌, length}
use Rattle.table_families.specs.Queue.{shorter}
use Rattle.table_families.proofs.queue.Queue.as_long.Given as goal

-- the lists of this length, of which the first doesn't come after the state
abbrev pub invariant-loop-len : goal.invariant-loop-len
invariant-loop-len l = record {
  begin : l.first ≡ shorter (length l.self.elements.now) l._len;
  power : l.count ≡ length l.self.elements.now ^ l._len;
  low : l.first ≤ l.s;
  small : l.count ≤ 32768;
}
