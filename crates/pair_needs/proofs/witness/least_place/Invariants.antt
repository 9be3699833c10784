use Rattle.std.proofs.Common.{MatchOption}
use Rattle.pair_needs.specs.Places.{NoneFails, IsLeastPlace}
use Rattle.pair_needs.proofs.witness.least_place.Given as goal

abbrev pub invariant-loop-place : goal.invariant-loop-place
invariant-loop-place l =
    MatchOption l.least (NoneFails l.pair.kind l.table l.pair.p l.pair.q l.leads l.place) (IsLeastPlace l.pair.kind l.table l.pair.p l.pair.q l.leads l.place)
