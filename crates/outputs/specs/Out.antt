-- What an output holds and what stopped it, after a piece and after a whole text.
use Rattle.std.specs.Prelude.{◌≡◌, ℕ, ◌<◌, ◌==◌, ◌&&◌, not, if◌then◌else◌, List, ◌++◌, length, take, get_or, Option, None, Some, Result, Ok, Err, OnOk, OnErr}
use Rattle.std.specs.List.{flat_map}
use Rattle.std.specs.Result.{result_err}
use Rattle.std.specs.Io.KnownBytes.{Appends}
use Rattle.outputs.specs.declared.out.OutFault.{OutFault}
use Rattle.outputs.specs.declared.out.OutFault.TheVariants.{Device, WroteNothing}
use Rattle.outputs.specs.declared.out.Failed.{Failed}
use Rattle.outputs.specs.declared.sink.Sink.{Sink}

-- the writer under a sink
abbrev pub sink_writer : {W : Type 0} → Sink W → W
sink_writer s = s.writer

-- what stopped a sink
abbrev pub sink_fault : {W : Type 0} → Sink W → Option OutFault
sink_fault s = s.fault

-- the fault after a piece was offered: `Device` at an error, `WroteNothing` where none of some bytes were taken
abbrev pub fault_after : Result ℕ Failed → List ℕ → Option OutFault
fault_after (Err e) piece = Some Device
fault_after (Ok n) piece = if n == 0 && not (length piece == 0) then Some WroteNothing else None

-- known bytes grow by a beginning of the text that isn't the whole text
abbrev pub AppendsBeginning : Option (List ℕ) → Option (List ℕ) → List ℕ → Type 0
AppendsBeginning old new text = (n : ℕ) × (n < length text) × Appends old new (take n text)

-- a call writes a text: at `Ok` the output took all of it, at an error a beginning, and the fault after the call is the error
pub record Puts (old new : Option (List ℕ)) (fault : Option OutFault) (text : List ℕ) (result : Result (Unit {0}) OutFault) : Type 0 where
  pub whole : OnOk result (Appends old new text)
  pub beginning : OnErr result (AppendsBeginning old new text)
  pub fault_is : fault ≡ result_err result

-- two texts that were written one after the other are written as one
abbrev pub PutsJoin : Type 0
PutsJoin =
    (a b c : Option (List ℕ)) (f g : Option OutFault) (x y : List ℕ) (result : Result (Unit {0}) OutFault)
    → Puts a b f x (Ok tt) → Puts b c g y result → Puts a c g (x ++ y) result

-- a text that stopped with an error has stopped the longer one
abbrev pub PutsStop : Type 0
PutsStop =
    (a b : Option (List ℕ)) (f : Option OutFault) (x y : List ℕ) (e : OutFault)
    → Puts a b f x (Err e) → Puts a b f (x ++ y) (Err e)

-- the texts of the items before one were written, and this one stopped with an error: the text of all items has stopped
abbrev pub PutsItems : Type 0 → Type 0
PutsItems X =
    (a b c : Option (List ℕ)) (f g : Option OutFault) (text : X → List ℕ) (xs : List X) (i : ℕ) (d : X) (e : OutFault)
    → i < length xs → Puts a b f (flat_map text (take i xs)) (Ok tt) → Puts b c g (text (get_or xs i d)) (Err e)
    → Puts a c g (flat_map text xs) (Err e)
