use Rattle.std.proofs.Common.{◌≡◌, ◌≤◌, length, map, take, vec_capacity, vec_len}
use Rattle.store.specs.CommittedStates.{HaveCommitted}
use Rattle.store.proofs.committed.committed_states.Given as goal

abbrev pub invariant-loop-object : goal.invariant-loop-object
invariant-loop-object g l = record {
  room : length l.objects ≤ vec_capacity l.states;
  count : vec_len l.states ≡ l.object-index;
  exact : HaveCommitted (map g.R.Recovery.meaning (take l.object-index l.objects)) l.states.items;
}
