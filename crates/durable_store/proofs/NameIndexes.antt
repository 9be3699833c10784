-- An index of the names of objects.
use Rattle.std.proofs.Common.{◌≡◌, ◌∙◌, ℕ, ◌+◌, Bool, true, false, cond, List, [], ◌∷◌, ◌++◌, length, Option, Some, None, is_some, refl, sym, ap, ap₂, arith}
use Rattle.std.specs.List.{position_from}
use Rattle.std.specs.Map.{lookup}
use Rattle.std.specs.Str.{bytes_eq}
use Rattle.std.specs.Cmp.Lexicographic.{nat_list_eq_equiv}
use Rattle.std.proofs.lemmas.Iterator.Adapters.{position_from-zero}
use Rattle.std.proofs.lemmas.Slice.Eq.{bytes_eq-Decides}
use Rattle.object_name.specs.ObjectName.{is_same_name}
use Rattle.store_text.specs.declared.line.ObjectLine.{ObjectLine}
use Rattle.durable_store.specs.declared.object_names.ObjectNames.{ObjectNames}
use Rattle.durable_store.specs.Names.{IndexesNames, find_named, indexed}

-- whether an object has the name
abbrev has : List ℕ → ObjectLine → Bool
has w o = is_same_name (Some w) o.name

-- what is found, or else the last one
abbrev or_last : Option ℕ → Bool → ℕ → Option ℕ
or_last None b n = cond b (Some n) None
or_last (Some x) b n = Some x

-- the first one, or what is found among the others
first_or : (found more : Option ℕ) (i n : ℕ) (last b : Bool) → more ≡ or_last found last n → cond b (Some i) more ≡ or_last (cond b (Some i) found) last n
first_or found more i n last true is = refl
first_or found more i n last false is = is

-- among one more, counted from i
from_more : (w : List ℕ) (i : ℕ) (objects : List ObjectLine) (o : ObjectLine)
    → position_from (has w) i (objects ++ o ∷ []) ≡ or_last (position_from (has w) i objects) (has w o) (i + length objects)
from_more w i [] o = ap (λ n. cond (has w o) (Some n) None) (omega arith)
from_more w i (p ∷ objects) o = first_or (position_from (has w) (i + 1) objects) (position_from (has w) (i + 1) (objects ++ o ∷ [])) i (i + length (p ∷ objects)) (has w o) (has w p) (from_more w (i + 1) objects o ∙ ap (or_last (position_from (has w) (i + 1) objects) (has w o)) (omega arith))

-- what is found among one more
pub found_more : (objects : List ObjectLine) (o : ObjectLine) (w : List ℕ) → find_named (objects ++ o ∷ []) w ≡ or_last (find_named objects w) (has w o) (length objects)
found_more objects o w =
    let whole : 0 + length objects ≡ length objects = omega arith in
    position_from-zero (has w) (objects ++ o ∷ []) ∙ from_more w 0 objects o ∙ ap (or_last (position_from (has w) 0 objects) (has w o)) whole
    ∙ ap (λ (r : Option ℕ). or_last r (has w o) (length objects)) (sym (position_from-zero (has w) objects))

-- what hasn't the name changes nothing
or_other : (found : Option ℕ) (b : Bool) (n : ℕ) → b ≡ false → found ≡ or_last found b n
or_other None b n is = sym (ap (λ b. cond b (Some n) None) is)
or_other (Some x) b n is = refl

-- an object without a name
pub index_nameless : (objects : List ObjectLine) (o : ObjectLine) (names : ObjectNames) → ((v : List ℕ) → o.name ≡ Some v → ⊥) → IndexesNames objects names → IndexesNames (objects ++ o ∷ []) names
index_nameless objects o names none are w = are w ∙ or_other (find_named objects w) (has w o) (length objects) (go o.name none) ∙ sym (found_more objects o w)
  where
    go : (name : Option (List ℕ)) → ((v : List ℕ) → name ≡ Some v → ⊥) → is_same_name (Some w) name ≡ false
    go None none = refl
    go (Some v) none = absurd (none v refl)

-- an object whose name another one has
pub index_again : (objects : List ObjectLine) (o : ObjectLine) (k : List ℕ) (x : ℕ) (names : ObjectNames) → o.name ≡ Some k → indexed names k ≡ Some x → IndexesNames objects names
    → IndexesNames (objects ++ o ∷ []) names
index_again objects o k x names name there are w = are w ∙ go (bytes_eq w k) refl ∙ sym (found_more objects o w)
  where
    named : has w o ≡ bytes_eq w k
    named = ap (is_same_name (Some w)) name

    go : (b : Bool) → bytes_eq w k ≡ b → find_named objects w ≡ or_last (find_named objects w) (has w o) (length objects)
    go true is =
        let same : w ≡ k = (bytes_eq-Decides w k).0 is in
        let found : find_named objects w ≡ Some x = ap (find_named objects) same ∙ sym (are k) ∙ there in
        found ∙ ap (λ (r : Option ℕ). or_last r (has w o) (length objects)) (sym found)
    go false is = or_other (find_named objects w) (has w o) (length objects) (named ∙ is)

-- an object whose name is put into the index
pub index_put : (objects : List ObjectLine) (o : ObjectLine) (k : List ℕ) (old new : ObjectNames) → o.name ≡ Some k → indexed old k ≡ None
    → ((w : List ℕ) → indexed new w ≡ cond (bytes_eq k w) (Some (length objects)) (indexed old w)) → IndexesNames objects old → IndexesNames (objects ++ o ∷ []) new
index_put objects o k old new name none put are w = put w ∙ go (bytes_eq w k) refl ∙ sym (found_more objects o w)
  where
    named : has w o ≡ bytes_eq w k
    named = ap (is_same_name (Some w)) name

    go : (b : Bool) → bytes_eq w k ≡ b → cond (bytes_eq k w) (Some (length objects)) (indexed old w) ≡ or_last (find_named objects w) (has w o) (length objects)
    go true is =
        let same : w ≡ k = (bytes_eq-Decides w k).0 is in
        let found : find_named objects w ≡ None = ap (find_named objects) same ∙ sym (are k) ∙ none in
        ap (λ b. cond b (Some (length objects)) (indexed old w)) (nat_list_eq_equiv.symm k w ∙ is)
        ∙ sym (ap₂ (λ (r : Option ℕ) b. or_last r b (length objects)) found (named ∙ is))
    go false is =
        ap (λ b. cond b (Some (length objects)) (indexed old w)) (nat_list_eq_equiv.symm k w ∙ is) ∙ are w
        ∙ or_other (find_named objects w) (has w o) (length objects) (named ∙ is)

-- an index without a name is that of no object
pub index_none : (names : ObjectNames) → names.numbers.entries ≡ [] → IndexesNames [] names
index_none names is w = ap (λ es. lookup (bytes_eq w) es) is

-- nothing is found
pub none_found : (found : Option ℕ) → is_some found ≡ false → found ≡ None
none_found None is = refl
none_found (Some x) is = absurd cc

-- an object whose name is in the index
pub index_known : (objects : List ObjectLine) (o : ObjectLine) (k : List ℕ) (names : ObjectNames) → o.name ≡ Some k → is_some (indexed names k) ≡ true → IndexesNames objects names
    → IndexesNames (objects ++ o ∷ []) names
index_known objects o k names name known are = go (indexed names k) refl known
  where
    go : (found : Option ℕ) → indexed names k ≡ found → is_some found ≡ true → IndexesNames (objects ++ o ∷ []) names
    go None there some = absurd cc
    go (Some x) there some = index_again objects o k x names name there are
