-- What one offer of a piece leaves, as a text that was written.
use Rattle.std.proofs.Common.{◌≡◌, ℕ, ◌-◌, ◌<◌, ◌==◌, List, [], ◌++◌, length, take, drop, Option, None, Some, Ok, Err, false, sym, ap, ◌∙◌, append_assoc, append-nil, take-append-drop, arith}
use Rattle.std.proofs.lemmas.Bool.Decides.{nat_tests}
use Rattle.std.proofs.lemmas.List.{take_rest}
use Rattle.std.specs.Io.KnownBytes.{Appends, Keeps}
use Rattle.outputs.specs.Out.{fault_after, Puts}
use Rattle.outputs.specs.declared.out.OutFault.{OutFault}
use Rattle.outputs.specs.declared.out.OutFault.TheVariants.{WroteNothing}

-- what keeps the bytes appends none
pub Appends-from_kept : (a b : Option (List ℕ)) → Keeps a b → Appends a b []
Appends-from_kept None b kept = tt
Appends-from_kept (Some x) None kept = kept
Appends-from_kept (Some x) (Some y) kept = kept ∙ sym (append-nil x)

-- some bytes are no fault
pub fault_after-taken : (n : ℕ) (piece : List ℕ) → (n ≡ 0 → ⊥) → fault_after (Ok n) piece ≡ None
fault_after-taken n piece some = let test : (n == 0) ≡ false = grind (arith, nat_tests) in rw test

-- some bytes of a piece were taken
pub Puts-taken : (a b : Option (List ℕ)) (f : Option OutFault) (n : ℕ) (piece : List ℕ)
    → (n ≡ 0 → ⊥) → Appends a b (take n piece) → f ≡ fault_after (Ok n) piece → Puts a b f (take n piece) (Ok tt)
Puts-taken a b f n piece some bytes fault = record { whole = bytes; beginning = tt; fault_is = fault ∙ fault_after-taken n piece some }

-- no byte of a piece was taken, with a fault
pub Puts-untaken : (a b : Option (List ℕ)) (f : Option OutFault) (piece : List ℕ) (e : OutFault)
    → 0 < length piece → Appends a b [] → f ≡ Some e → Puts a b f piece (Err e)
Puts-untaken a b f piece e some bytes fault = record { whole = tt; beginning = (0, some, bytes); fault_is = fault }

-- none of some bytes is a write of nothing
pub fault_after-nothing : (piece : List ℕ) → (length piece == 0) ≡ false → fault_after (Ok 0) piece ≡ Some WroteNothing
fault_after-nothing piece some = rw some

-- taken bytes go from what is left to what is done
pub piece-moved : (piece done rest : List ℕ) (n : ℕ) → piece ≡ done ++ rest → piece ≡ (done ++ take n rest) ++ take (length rest - n) (drop n rest)
piece-moved piece done rest n split =
    split ∙ ap (λ l. done ++ l) (sym (take-append-drop n rest)) ∙ sym (append_assoc done (take n rest) (drop n rest))
    ∙ ap (λ l. (done ++ take n rest) ++ l) (sym (take_rest rest n))
