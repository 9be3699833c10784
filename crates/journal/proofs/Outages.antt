-- What is found after a crash.
use Rattle.std.proofs.Common.{Option, Some, None, Result, Ok, Err, IsTrue}
use Rattle.std.specs.Prelude.{IfSome, OnOk, is_ok}

-- what holds at `Ok` holds where the answer was `Ok`
pub where-ok : {T E : Type 0} (P : Type 0) (r : Result T E) → OnOk r P → IsTrue (is_ok r) → P
where-ok P (Ok x) holds answered = holds
where-ok P (Err e) holds answered = absurd (cc)

-- of two facts on what may be there a third
pub if-both : {T : Type 0} {P Q S : T → Type 0} (o : Option T) → IfSome o P → IfSome o Q → ((x : T) → P x → Q x → S x) → IfSome o S
if-both None first second turn = tt
if-both (Some x) first second turn = turn x first second
