-- What is said of a pair, and of each of a row.
use Rattle.std.proofs.Common.{◌≡◌, ◌↔◌, ℕ, true, false, List, [], ◌∷◌, ◌++◌, length, Some, sym, ◌∙◌, subst, inl, inr}
use Rattle.std.specs.List.{slice_get}
use Rattle.std.proofs.lemmas.Bool.{false≢true}
use Rattle.type_table.specs.ConflictTable.{conflicts}
use Rattle.type_table.specs.declared.table_kind.TableKind.{TableKind}
use Rattle.type_table.proofs.Elements.{cases-more}
use Rattle.declared_types.specs.TypeFile.{conflicts_of}
use Rattle.declared_types.specs.declared.type_file.TypeFile.{TypeFile}
use Rattle.pair_needs.specs.Explained.{IsExplained, is_to_mend}
use Rattle.pair_needs.specs.Mends.{AreLacking, IsTooLarge}
use Rattle.pair_needs.specs.Needs.{IsNeed}
use Rattle.pair_needs.specs.Witnesses.{IsLeastWitnessOf}
use Rattle.pair_needs.specs.declared.explained.Explained.{Explained}

-- what holds of each and its place holds of one more
pub each-more : {E : Type 0} (P : ℕ → E → Type 0) (V : List E) (x : E) → ((i : ℕ) (y : E) → slice_get V i ≡ Some y → P i y) → P (length V) x → (i : ℕ) (y : E) → slice_get (V ++ x ∷ []) i ≡ Some y → P i y
each-more P V x before here i y there =
    elim (cases-more V x i y there) [
      | inl was ↦ before i y was
      | inr now ↦ subst (λ j. P j y) (sym now.0) (subst (λ z. P (length V) z) now.1 here)
    ]

-- what is said of a pair, but for what mends the file
pub record IsSaid (kind : TableKind) (file : TypeFile) (p q : ℕ) (e : Explained) : Type 0 where
  pub requested : e.requested ≡ p
  pub held : e.held ≡ q
  pub listed : e.listed ≡ conflicts (conflicts_of kind file) p q
  pub need : IsNeed kind file p q e.need
  pub witness : IsLeastWitnessOf kind file.table p q e.witness

pub explained-mended : (kind : TableKind) (file : TypeFile) (p q : ℕ) (e : Explained) → IsSaid kind file p q e → is_to_mend e ≡ true → AreLacking kind file p q e.lacking.items →
    (e.too_large ≡ true) ↔ IsTooLarge kind file p q → IsExplained kind file p q e
explained-mended kind file p q e said mended lacking large = record {
  requested = said.requested;
  held = said.held;
  listed = said.listed;
  need = said.need;
  witness = said.witness;
  lacking = λ _. lacking;
  lacks_nothing = λ plain. absurd (false≢true (sym plain ∙ mended));
  too_large = ((λ is. (mended, large.0 is)), (λ is. large.1 is.1));
}

pub explained-plain : (kind : TableKind) (file : TypeFile) (p q : ℕ) (e : Explained) → IsSaid kind file p q e → is_to_mend e ≡ false → e.lacking.items ≡ [] → e.too_large ≡ false → IsExplained kind file p q e
explained-plain kind file p q e said plain empty small = record {
  requested = said.requested;
  held = said.held;
  listed = said.listed;
  need = said.need;
  witness = said.witness;
  lacking = λ mended. absurd (false≢true (sym plain ∙ mended));
  lacks_nothing = λ _. empty;
  too_large = ((λ is. absurd (false≢true (sym small ∙ is))), (λ is. absurd (false≢true (sym plain ∙ is.0))));
}
