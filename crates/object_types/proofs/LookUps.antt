-- What a look-up has found, and what holds of an error at the exit of a `?`.
use Rattle.std.proofs.Common.{◌≡◌, ℕ, List, length, get_or, Some, None, Result, sym, refl}
use Rattle.std.specs.Prelude.{slice_get, IfErr, true, false, nat_lt}
use Rattle.std.specs.Result.{IsErrAnd}
use Rattle.std.proofs.lemmas.Bool.{ltb-true, ltb-false}
use Rattle.std.proofs.lemmas.Option.{slice_get_past, slice_get_read}
use Rattle.std.proofs.lemmas.Result.{err_from_is_err_and}

-- what holds of an error holds at the exit of a `?`
pub err_exit : {T E : Type 0} (Q : E → Type 0) (r : Result T E) (e : E) → IsErrAnd r (λ d. d ≡ e) → Q e → IfErr r Q
err_exit Q r e exit holds = let (d, returned, same) = err_from_is_err_and r exit in rw (returned, same) holds

-- what a look-up has found
pub found : {X : Type 0} (xs : List X) (i : ℕ) (x : X) → true ≡ nat_lt i (length xs) → x ≡ get_or xs i x → slice_get xs i ≡ Some x
found xs i x inside is = slice_get_read xs (length xs) i x refl (ltb-true i (length xs) (sym inside)) is

-- and what it hasn't
pub not_found : {X : Type 0} (xs : List X) (i : ℕ) → false ≡ nat_lt i (length xs) → slice_get xs i ≡ None
not_found xs i past = slice_get_past xs i (ltb-false i (length xs) (sym past))
