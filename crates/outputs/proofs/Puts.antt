-- Texts that are written one after another.
use Rattle.std.proofs.Common.{◌≡◌, ℕ, ◌+◌, ◌<◌, ◌≤◌, List, [], ◌∷◌, ◌++◌, map, length, take, drop, get_or, Option, None, Result, Ok, Err, sym, ap, ◌∙◌, subst, arith, append_assoc, append-nil, length-append, take-append-drop}
use Rattle.std.proofs.lemmas.List.{take-append-le, drop_more}
use Rattle.std.proofs.lemmas.Grind.{flat_map-append}
use Rattle.std.proofs.lemmas.Result.{err_from_is_err_and}
use Rattle.std.proofs.Math.Seq.{take-append-add}
use Rattle.std.proofs.KnownBytes.{Appends-nil, Appends-trans}
use Rattle.std.specs.List.{flat_map, join_with_byte}
use Rattle.std.specs.Result.{IsErrAnd}
use Rattle.std.specs.Io.KnownBytes.{Appends}
use Rattle.outputs.specs.Out.{AppendsBeginning, Puts, PutsItems}
use Rattle.outputs.specs.declared.out.OutFault.{OutFault}

-- a beginning of a text is one of a longer text
pub AppendsBeginning-append : (a b : Option (List ℕ)) (x y : List ℕ) → AppendsBeginning a b x → AppendsBeginning a b (x ++ y)
AppendsBeginning-append a b x y (n, short, bytes) =
    let within : n ≤ length x = omega arith in
    (n, omega (arith, length-append x y), subst (Appends a b) (sym (take-append-le n x y within)) bytes)

-- a whole text and then a beginning of the next
pub AppendsBeginning-after : (a b c : Option (List ℕ)) (x y : List ℕ) → Appends a b x → AppendsBeginning b c y → AppendsBeginning a c (x ++ y)
AppendsBeginning-after a b c x y front (n, short, bytes) =
    (length x + n, omega (arith, length-append x y), subst (Appends a c) (sym (take-append-add x y n)) (Appends-trans a b c x (take n y) front bytes))

-- where no call was made, no text was written
pub Puts-nil : {f : Option OutFault} (a : Option (List ℕ)) → f ≡ None → Puts a a f [] (Ok tt)
Puts-nil a no_fault = record { whole = Appends-nil a; beginning = tt; fault_is = no_fault }

-- two texts, one after the other
pub Puts-append : {a b c : Option (List ℕ)} {f g : Option OutFault} {x y : List ℕ} {result : Result (Unit {0}) OutFault}
    → Puts a b f x (Ok tt) → Puts b c g y result → Puts a c g (x ++ y) result
Puts-append {a = a} {b = b} {c = c} {x = x} {y = y} {result = Ok v} p q = record { whole = Appends-trans a b c x y p.whole q.whole; beginning = tt; fault_is = q.fault_is }
Puts-append {a = a} {b = b} {c = c} {x = x} {y = y} {result = Err e} p q = record { whole = tt; beginning = AppendsBeginning-after a b c x y p.whole q.beginning; fault_is = q.fault_is }

-- a text that stopped, and nothing of what follows it
pub Puts-stop : {a b : Option (List ℕ)} {f : Option OutFault} {x : List ℕ} {e : OutFault} (y : List ℕ)
    → Puts a b f x (Err e) → Puts a b f (x ++ y) (Err e)
Puts-stop {a = a} {b = b} {x = x} y p = record { whole = tt; beginning = AppendsBeginning-append a b x y p.beginning; fault_is = p.fault_is }

-- the same at the exit of a `?`
pub Puts-exit : {a b : Option (List ℕ)} {f : Option OutFault} {x : List ℕ} {e : OutFault} {result : Result (Unit {0}) OutFault} (y : List ℕ)
    → Puts a b f x (Err e) → IsErrAnd result (λ d. d ≡ e) → Puts a b f (x ++ y) result
Puts-exit {result = result} y p exit =
    let (d, returned, same) = err_from_is_err_and result exit in
    rw (returned, same) (Puts-stop y p)

-- the text of a list at one of its items
flat_map-at : {X : Type 0} (text : X → List ℕ) (xs : List X) (i : ℕ) (d : X) → i < length xs
    → flat_map text xs ≡ (flat_map text (take i xs) ++ text (get_or xs i d)) ++ flat_map text (drop (i + 1) xs)
flat_map-at text xs i d inside =
    let rest = ap (flat_map text) (drop_more xs i d inside) in
    ap (flat_map text) (sym (take-append-drop i xs)) ∙ flat_map-append text (take i xs) (drop i xs) ∙ ap (λ l. flat_map text (take i xs) ++ l) rest
    ∙ sym (append_assoc (flat_map text (take i xs)) (text (get_or xs i d)) (flat_map text (drop (i + 1) xs)))

-- a loop that writes the text of each item stopped at one of them
pub items-stop : {X : Type 0} → PutsItems X
items-stop = λ a b c f g text xs i d e inside so_far stop. rw (flat_map-at text xs i d inside) (Puts-stop (flat_map text (drop (i + 1) xs)) (Puts-append so_far stop))

-- the same, at the exit of a `?`
pub Puts-exit_at : {X : Type 0} {a b c : Option (List ℕ)} {f g : Option OutFault} {e : OutFault} {result : Result (Unit {0}) OutFault}
    (text : X → List ℕ) (xs : List X) (i : ℕ) (d : X) → i < length xs → Puts a b f (flat_map text (take i xs)) (Ok tt) → Puts b c g (text (get_or xs i d)) (Err e)
    → IsErrAnd result (λ y. y ≡ e) → Puts a c g (flat_map text xs) result
Puts-exit_at {result = result} text xs i d inside so_far stop exit =
    let (y, returned, same) = err_from_is_err_and result exit in
    rw (returned, same) (items-stop _ _ _ _ _ text xs i d _ inside so_far stop)

-- ---- lines of words

-- a keyword, and a space before each word after it
spaced-words : {X : Type 0} (now : X → List ℕ) (keyword : List ℕ) (words : List X)
    → join_with_byte 32 (keyword ∷ map now words) ≡ keyword ++ flat_map (λ w. 32 ∷ now w) words
spaced-words now keyword [] = sym (append-nil keyword)
spaced-words now keyword (w ∷ words) = ap (λ l. keyword ++ 32 ∷ l) (spaced-words now (now w) words)

-- the same with the end of the line
pub line-words : {X : Type 0} (now : X → List ℕ) (keyword : List ℕ) (words : List X)
    → keyword ++ (flat_map (λ w. 32 ∷ now w) words ++ 10 ∷ []) ≡ join_with_byte 32 (keyword ∷ map now words) ++ 10 ∷ []
line-words now keyword words = rw (spaced-words now keyword words) (sym (append_assoc keyword (flat_map (λ w. 32 ∷ now w) words) (10 ∷ [])))
