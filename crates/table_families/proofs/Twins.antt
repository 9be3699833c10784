-- Operations of which none occurs twice.
use Rattle.std.proofs.Common.{◌≡◌, ℕ, suc, ◌*◌, ◌<◌, Bool, true, false, ◌||◌, List, [], ◌∷◌, ◌++◌, length, map, get_or, refl, ◌∙◌, arith}
use Rattle.std.specs.List.{list_any, flat_map}
use Rattle.std.specs.Str.{bytes_eq}
use Rattle.std.proofs.lemmas.Bool.{false_from_ne_true, or_parts, or_from}
use Rattle.std.proofs.lemmas.List.{length-append}
use Rattle.std.proofs.lemmas.List.Folds.{list_any-append}
use Rattle.std.proofs.lemmas.Slice.Eq.{bytes_eq-Decides}
use Rattle.type_table.specs.Op.{is_same_op, has_twin}
use Rattle.type_table.specs.declared.op.Op.{Op}

-- an operation is in a list
abbrev pub stands : Op → List Op → Bool
stands o ops = list_any (λ other. is_same_op other o) ops

-- an operation is in both lists
abbrev pub shares : List Op → List Op → Bool
shares [] later = false
shares (o ∷ ops) later = stands o later || shares ops later

-- no operation occurs twice in two lists that share none, one after the other
pub has_twin-append : (ops later : List Op) → has_twin ops ≡ false → has_twin later ≡ false → shares ops later ≡ false → has_twin (ops ++ later) ≡ false
has_twin-append [] later h k s = k
has_twin-append (o ∷ ops) later h k s =
    let front = or_parts (stands o ops) (has_twin ops) h in
    let back = or_parts (stands o later) (shares ops later) s in
    let apart : stands o (ops ++ later) ≡ false = list_any-append (λ other. is_same_op other o) ops later ∙ or_from (stands o ops) (stands o later) front.0 back.0 in
    or_from (stands o (ops ++ later)) (has_twin (ops ++ later)) apart (has_twin-append ops later front.1 k back.1)

-- a list that shares no operation with either of two shares none with both
pub shares-append : (ops first second : List Op) → shares ops first ≡ false → shares ops second ≡ false → shares ops (first ++ second) ≡ false
shares-append [] first second h k = refl
shares-append (o ∷ ops) first second h k =
    let front = or_parts (stands o first) (shares ops first) h in
    let back = or_parts (stands o second) (shares ops second) k in
    let apart : stands o (first ++ second) ≡ false = list_any-append (λ other. is_same_op other o) first second ∙ or_from (stands o first) (stands o second) front.0 back.0 in
    or_from (stands o (first ++ second)) (shares ops (first ++ second)) apart (shares-append ops first second front.1 back.1)

-- a list shares no operation with an empty one
pub shares-nil : (ops : List Op) → shares ops [] ≡ false
shares-nil [] = refl
shares-nil (o ∷ ops) = shares-nil ops

-- nor with pieces of which it shares none with any
pub shares-flat_map : {X : Type 0} (d : X) (f : X → List Op) (ops : List Op) (xs : List X) → ((i : ℕ) → i < length xs → shares ops (f (get_or xs i d)) ≡ false) → shares ops (flat_map f xs) ≡ false
shares-flat_map d f ops [] h = shares-nil ops
shares-flat_map d f ops (x ∷ xs) h = shares-append ops (f x) (flat_map f xs) (h 0 (omega arith)) (shares-flat_map d f ops xs (λ i below. h (suc i) (omega arith)))

-- no operation occurs twice in pieces that share none with one another
pub has_twin-flat_map : {X : Type 0} (d : X) (f : X → List Op) (xs : List X) → ((x : X) → has_twin (f x) ≡ false) →
    ((i j : ℕ) → i < j → j < length xs → shares (f (get_or xs i d)) (f (get_or xs j d)) ≡ false) → has_twin (flat_map f xs) ≡ false
has_twin-flat_map d f [] h s = refl
has_twin-flat_map d f (x ∷ xs) h s =
    has_twin-append (f x) (flat_map f xs) (h x)
    (has_twin-flat_map d f xs h (λ i j before below. s (suc i) (suc j) (omega arith) (omega arith)))
    (shares-flat_map d f (f x) xs (λ i below. s 0 (suc i) (omega arith) (omega arith)))

-- pieces share none with a later list where none of them does
pub flat_map-shares : {X : Type 0} (d : X) (f : X → List Op) (xs : List X) (later : List Op) → ((i : ℕ) → i < length xs → shares (f (get_or xs i d)) later ≡ false) → shares (flat_map f xs) later ≡ false
flat_map-shares d f [] later h = refl
flat_map-shares d f (x ∷ xs) later h = append-shares (f x) (flat_map f xs) later (h 0 (omega arith)) (flat_map-shares d f xs later (λ i below. h (suc i) (omega arith)))
  where
    append-shares : (first second later : List Op) → shares first later ≡ false → shares second later ≡ false → shares (first ++ second) later ≡ false
    append-shares [] second later h k = k
    append-shares (o ∷ first) second later h k =
        let front = or_parts (stands o later) (shares first later) h in
        or_from (stands o later) (shares (first ++ second) later) front.0 (append-shares first second later front.1 k)

-- an operation isn't among others from each of which it differs
pub stands-map : {X : Type 0} (d : X) (f : X → Op) (o : Op) (xs : List X) → ((i : ℕ) → i < length xs → is_same_op (f (get_or xs i d)) o ≡ false) → stands o (map f xs) ≡ false
stands-map d f o [] h = refl
stands-map d f o (x ∷ xs) h = or_from (is_same_op (f x) o) (stands o (map f xs)) (h 0 (omega arith)) (stands-map d f o xs (λ i below. h (suc i) (omega arith)))

-- no operation occurs twice among operations that differ from one another
pub has_twin-map : {X : Type 0} (d : X) (f : X → Op) (xs : List X) → ((i j : ℕ) → i < j → j < length xs → is_same_op (f (get_or xs j d)) (f (get_or xs i d)) ≡ false) → has_twin (map f xs) ≡ false
has_twin-map d f [] h = refl
has_twin-map d f (x ∷ xs) h =
    or_from (stands (f x) (map f xs)) (has_twin (map f xs))
    (stands-map d f (f x) xs (λ i below. h 0 (suc i) (omega arith) (omega arith)))
    (has_twin-map d f xs (λ i j before below. h (suc i) (suc j) (omega arith) (omega arith)))

-- pieces of one length
pub length-pieces : {X A : Type 0} (f : X → List A) (n : ℕ) (xs : List X) → ((x : X) → length (f x) ≡ n) → length (flat_map f xs) ≡ n * length xs
length-pieces f n [] h = omega arith
length-pieces f n (x ∷ xs) h = omega (arith, length-append (f x) (flat_map f xs), h x, length-pieces f n xs h)

-- bytes are equal to themselves, by the test
pub same_bytes : (bytes : List ℕ) → bytes_eq bytes bytes ≡ true
same_bytes bytes = (bytes_eq-Decides bytes bytes).1 refl

-- and differ from others
pub other_bytes : (first second : List ℕ) → (first ≡ second → ⊥) → bytes_eq first second ≡ false
other_bytes first second h = false_from_ne_true _ (λ same. h ((bytes_eq-Decides first second).0 same))
