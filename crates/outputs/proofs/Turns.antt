-- Texts that are written one after another, from the laws of outputs.
use Rattle.std.proofs.Common.{◌≡◌, ℕ, ◌<◌, List, ◌++◌, length, take, get_or, Option, Result, Ok, Err}
use Rattle.std.proofs.lemmas.Result.{err_from_is_err_and}
use Rattle.std.specs.List.{flat_map}
use Rattle.std.specs.Result.{IsErrAnd}
use Rattle.outputs.specs.Out.{Puts, PutsItems, PutsJoin, PutsStop}
use Rattle.outputs.specs.declared.out.OutFault.{OutFault}

-- two texts, one after the other
pub Puts-append : PutsJoin → {a b c : Option (List ℕ)} {f g : Option OutFault} {x y : List ℕ} {result : Result (Unit {0}) OutFault}
    → Puts a b f x (Ok tt) → Puts b c g y result → Puts a c g (x ++ y) result
Puts-append joined first second = joined _ _ _ _ _ _ _ _ first second

-- a text that stopped, and nothing of what follows it, at the exit of a `?`
pub Puts-exit : PutsStop → {a b : Option (List ℕ)} {f : Option OutFault} {x : List ℕ} {e : OutFault} {result : Result (Unit {0}) OutFault} (y : List ℕ)
    → Puts a b f x (Err e) → IsErrAnd result (λ d. d ≡ e) → Puts a b f (x ++ y) result
Puts-exit stopped {result = result} y stop exit =
    let (d, returned, same) = err_from_is_err_and result exit in
    rw (returned, same) (stopped _ _ _ _ y _ stop)

-- a loop that writes the text of each item stopped at one of them, at the exit of a `?`
pub Puts-exit_at : {X : Type 0} → PutsItems X → {a b c : Option (List ℕ)} {f g : Option OutFault} {e : OutFault} {result : Result (Unit {0}) OutFault}
    (text : X → List ℕ) (xs : List X) (i : ℕ) (d : X) → i < length xs → Puts a b f (flat_map text (take i xs)) (Ok tt) → Puts b c g (text (get_or xs i d)) (Err e)
    → IsErrAnd result (λ y. y ≡ e) → Puts a c g (flat_map text xs) result
Puts-exit_at items {result = result} text xs i d inside so_far stop exit =
    let (y, returned, same) = err_from_is_err_and result exit in
    rw (returned, same) (items _ _ _ _ _ text xs i d _ inside so_far stop)
