-- What a gathering output holds.
use Rattle.std.specs.Prelude.{ℕ, List, drop, Option}
use Rattle.std.specs.Io.KnownBytes.{append_known}
use Rattle.outputs.specs.declared.gathered.Gathered.{Gathered}

-- the output under it
abbrev pub under : {W : Type 0} → Gathered W → W
under g = g.inner

-- the bytes that it has gathered and not handed on
abbrev pub waiting : {W : Type 0} → Gathered W → List ℕ
waiting g = drop g.passed g.bytes.items

-- the bytes that it took: those that the output under it took, where these are known, and then those that are waiting
abbrev pub taken_by : {W : Type 0} → (W → Option (List ℕ)) → Gathered W → Option (List ℕ)
taken_by taken g = append_known (taken g.inner) (waiting g)
