-- New objects, one after another.
use Rattle.std.proofs.Common.{◌≡◌, ◌∙◌, suc, zero, List, [], ◌∷◌, ◌++◌, map, ap, sym, subst}
use Rattle.std.proofs.lemmas.List.{map_push}
use Rattle.std.proofs.lemmas.Option.{none-some, same_Some}
use Rattle.table_checker.specs.Checked.{Checked}
use Rattle.object_trait.specs.Steps.{IsFresh}
use Rattle.objects.specs.Object.{AreNew, checked_types, meaning_of}
use Rattle.objects.specs.declared.object.Object.{Object}

-- one more new object
new_push : (objects : List Object) (o : Object) → AreNew objects → IsFresh (meaning_of o) → AreNew (objects ++ o ∷ [])
new_push [] o all new zero m there = subst IsFresh (same_Some (meaning_of o) m there) new
new_push [] o all new (suc x) m there = absurd (none-some m there)
new_push (p ∷ objects) o all new zero m there = all zero m there
new_push (p ∷ objects) o all new (suc x) m there = new_push objects o (λ y. all (suc y)) new x m there

-- the same of a list of objects that grew
pub objects_new : (objects grown : List Object) (o : Object) → grown ≡ objects ++ o ∷ [] → AreNew objects → IsFresh (meaning_of o) → AreNew grown
objects_new objects grown o is all new = subst AreNew (sym is) (new_push objects o all new)

-- and of its types
pub objects_types : (objects grown : List Object) (o : Object) (types : List Checked) (c : Checked) → grown ≡ objects ++ o ∷ [] → checked_types objects ≡ types
    → (meaning_of o).checked ≡ c → checked_types grown ≡ types ++ c ∷ []
objects_types objects grown o types c is known checked =
    ap checked_types is ∙ ap (map (λ m. m.checked)) (map_push meaning_of objects o)
    ∙ map_push (λ m. m.checked) (map meaning_of objects) (meaning_of o)
    ∙ ap (λ (cs : List Checked). cs ++ (meaning_of o).checked ∷ []) known ∙ ap (λ (d : Checked). types ++ d ∷ []) checked
