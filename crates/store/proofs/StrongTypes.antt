-- Which types are strong, told one after another.
use Rattle.std.proofs.Common.{◌≡◌, ◌↔◌, ℕ, ◌<◌, Bool, true, List, map, length, get_or, Some, option_map, slice_get, refl, sym, ap, subst, ◌∙◌}
use Rattle.std.proofs.lemmas.Option.{same_Some, slice_get-map, slice_get_read}
use Rattle.table_checker.specs.At.{checked_at, AtIsStrong}
use Rattle.table_checker.specs.Checked.{Checked, IsStrong}
use Rattle.object_trait.specs.Meaning.{Meaning}
use Rattle.store_laws.specs.Stored.{types_of}

-- the type of the object at x
pub type-at : {R : Type 0} (meaning : R → Meaning) (all : List R) (x : ℕ) (object : R) → x < length all → object ≡ get_or all x object
    → slice_get (types_of (map meaning all)) x ≡ Some (meaning object).checked
type-at meaning all x object inside is =
    slice_get-map (λ (m : Meaning). m.checked) (map meaning all) x
    ∙ ap (option_map (λ (m : Meaning). m.checked)) (slice_get-map meaning all x ∙ ap (option_map meaning) (slice_get_read all (length all) x object refl inside is))

-- so it is strong where a test of it says so
pub told-at : (types : List Checked) (x : ℕ) (c d read : Checked) (b : Bool) → slice_get types x ≡ Some d → read ≡ d → (b ≡ true) ↔ IsStrong read → slice_get types x ≡ Some c → (b ≡ true) ↔ IsStrong c
told-at types x c d read b there same told here = subst (λ (o : Checked). (b ≡ true) ↔ IsStrong o) (same ∙ same_Some d c (sym there ∙ here)) told

-- the same type as a strong one is strong
pub same-is-strong : AtIsStrong → (before read : Checked) (s : ℕ) → IsStrong before → read ≡ checked_at before s → IsStrong read
same-is-strong at before read s strong is = subst IsStrong (sym is) (at before s strong)

-- so is one that is the type of an object before it, at some state
pub strong-by : AtIsStrong → (types : List Checked) (x y s : ℕ) (read its before prior d : Checked) → slice_get types x ≡ Some its → read ≡ its → slice_get types y ≡ Some prior → before ≡ prior
    → ((c : Checked) → slice_get types y ≡ Some c → IsStrong c) → read ≡ checked_at before s → slice_get types x ≡ Some d → IsStrong d
strong-by at types x y s read its before prior d there same earlier was all is here =
    subst IsStrong (same ∙ same_Some its d (sym there ∙ here)) (same-is-strong at before read s (subst IsStrong (sym was) (all prior earlier)) is)
