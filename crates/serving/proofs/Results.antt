-- What holds at a result whose kind is known.
use Rattle.std.proofs.Common.{◌≡◌, Result, Ok, Err, IfOk, OnErr, OnOk, subst}

-- at a value
pub of-ok : {T E : Type 0} {P : Type 0} (r : Result T E) (x : T) → r ≡ Ok x → OnOk r P → P
of-ok (Ok y) x is p = p
of-ok (Err e) x is p = absurd cc

-- and at an error
pub of-err : {T E : Type 0} {P : Type 0} (r : Result T E) (e : E) → r ≡ Err e → OnErr r P → P
of-err (Ok x) e is p = absurd cc
of-err (Err x) e is p = p

-- more of each value
pub if-ok : {T E : Type 0} {P Q : T → Type 0} (r : Result T E) → ((x : T) → P x → Q x) → IfOk r P → IfOk r Q
if-ok (Ok x) turn p = turn x p
if-ok (Err e) turn p = tt

-- at a value that is known
pub if-value : {T E : Type 0} (P : T → Type 0) (r : Result T E) (x : T) → r ≡ Ok x → IfOk r P → P x
if-value {T} {E} P r x is p = subst (λ (q : Result T E). IfOk q P) is p

-- what holds in any case holds at a value
pub on-any : {T E : Type 0} {P : Type 0} (r : Result T E) → P → OnOk r P
on-any (Ok x) p = p
on-any (Err e) p = tt

-- what two facts give there
pub on-both : {T E : Type 0} {P Q R : Type 0} (r : Result T E) → OnOk r P → OnOk r Q → (P → Q → R) → OnOk r R
on-both (Ok x) p q turn = turn p q
on-both (Err e) p q turn = tt
