-- Numbers are accepted, and their files at another value.
use Rattle.std.proofs.Common.{◌≡◌, ℕ, Bool, ◌+◌, ◌-◌, inl, inr, List, [], ◌∷◌, ◌++◌, length, Some, slice_get, refl, sym, ap, subst, ◌∙◌, arith}
use Rattle.std.proofs.Math.Seq.{get_or-append_seam}
use Rattle.std.proofs.lemmas.Bool.{cases_lt}
use Rattle.std.proofs.lemmas.Option.{slice_get-get_or, slice_get_within}
use Rattle.std.proofs.lemmas.List.{length-append}
use Rattle.type_table.proofs.Elements.{slice_get-front}
use Rattle.type_table.specs.Table.{Table as TableValue, next}
use Rattle.escrow_laws.specs.Bounds.{AreBounds, bounds_of}
use Rattle.escrow_laws.specs.declared.bounded.Bounded.{Bounded}
use Rattle.number_types.specs.Number.{Number, number_at}
use Rattle.number_types.specs.Operations.{number_table, NumberHasTable, NumberTellsBounds}
use Rattle.declared_types.specs.TypeFile.{file_at}
use Rattle.type_table.specs.declared.kind.Kind.{Kind}
use Rattle.type_table.specs.declared.kind.Kind.TheVariants.{Escrow}
use Rattle.declared_types.specs.declared.type_file.TypeFile.{TypeFile}
use Rattle.table_checker.specs.Declarations.{HoldsBounds, NumberIsChecked}
use Rattle.table_checker.specs.Still.{HoldsStill, is_still_in}
use Rattle.declared_types.specs.Declarations.{file_of, number_file, declared_at, IsDeclaredFor}
use Rattle.declared_types.specs.declared.declared_type.Declaration.{Declaration}
use Rattle.declared_types.specs.declared.declared_type.Declaration.TheVariants.{Table, Number as Numbers}
use Rattle.table_checker.proofs.BeginsAt.{bounds-at}

-- the file of a number that begins at another value is its file, beginning there
pub number_file-at : (v : Number) (s : ℕ) → number_file (number_at v s) ≡ file_at (number_file v) s
number_file-at v s = refl

pub numbers_checked : NumberHasTable → NumberTellsBounds → NumberIsChecked
numbers_checked tables tells = λ v known.
    let T : TableValue = number_table v in
    let max = known.max_fits in
    let initial = known.initial_inside in
    let top : v.max ≡ v.max + 1 - 1 = omega arith in (
      record {
        states_fit = omega (arith, max);
        initial_inside = omega (arith, initial);
        bounds = subst (λ m. AreBounds T m (bounds_of T)) top (subst (λ (ops : List Bounded). AreBounds T v.max ops) (sym (tells v known)) (tables v known));
      },
      tt,
    )

-- the file of what declares it at another state
pub file_of-at : (d : Declaration) (s : ℕ) → file_of (declared_at d s) ≡ file_at (file_of d) s
file_of-at (Table file) s = refl
file_of-at (Numbers v) s = number_file-at v s

-- it is declared for the same kinds
pub declared_for-at : (kind : Kind) (d : Declaration) (s : ℕ) → IsDeclaredFor kind d → IsDeclaredFor kind (declared_at d s)
declared_for-at kind (Table file) s is = is
declared_for-at kind (Numbers v) s is = is

-- and the bounds that are held are its
pub holds_bounds-at : (kind : Kind) (d : Declaration) (s : ℕ) (bounds : List Bounded) → HoldsBounds kind d bounds → HoldsBounds kind (declared_at d s) bounds
holds_bounds-at kind (Table file) s bounds holds = λ escrow. holds escrow ∙ sym (bounds-at file.table s)
holds_bounds-at kind (Numbers v) s bounds holds = λ k b at. ap (λ (bs : List Bounded). slice_get bs k) (bounds-at (number_table v) s) ∙ holds k b at

-- and an operation changes nothing wherever it begins
pub still-at : (file : TypeFile) (s k : ℕ) → is_still_in (file_at file s) k ≡ is_still_in file k
unfolding next
still-at file s k = refl

pub holds_still-at : (kind : Kind) (d : Declaration) (s : ℕ) (still : List Bool) → HoldsStill kind (file_of d) still → HoldsStill kind (file_of (declared_at d s)) still
holds_still-at kind (Table file) s still holds = λ by_table k below. holds by_table k below ∙ sym (still-at file s k)
holds_still-at kind (Numbers v) s still holds = λ by_table k below. holds by_table k below ∙ sym (still-at (number_file v) s k)

-- what is held of a table is its bounds
pub held_of_table : (kind : Kind) (d : Declaration) (bounds : List Bounded) (file : TypeFile) → HoldsBounds kind d bounds → d ≡ Table file → kind ≡ Escrow → bounds ≡ bounds_of file.table
held_of_table kind d bounds file holds is escrow = subst (λ e. HoldsBounds kind e bounds) is holds escrow

-- what is held of a number is its bounds
pub held_of_number : (kind : Kind) (d : Declaration) (bounds : List Bounded) (v : Number) → HoldsBounds kind d bounds → d ≡ Numbers v → HoldsBounds Escrow (Numbers v) bounds
held_of_number kind d bounds v holds is = subst (λ e. HoldsBounds kind e bounds) is holds

-- and bounds are held with those of the next operation
pub holds_more : (all bounds : List Bounded) (b : Bounded) → ((k : ℕ) (d : Bounded) → slice_get bounds k ≡ Some d → slice_get all k ≡ Some d) → slice_get all (length bounds) ≡ Some b
    → (k : ℕ) (d : Bounded) → slice_get (bounds ++ b ∷ []) k ≡ Some d → slice_get all k ≡ Some d
holds_more all bounds b holds next k d is = elim (cases_lt k (length bounds)) [
  | inl below ↦ holds k d (sym (slice_get-front bounds (b ∷ []) k below) ∙ is)
  | inr from ↦
      let more = length-append bounds (b ∷ []) in
      let within = slice_get_within (bounds ++ b ∷ []) k d is in
      let last : k ≡ length bounds = omega (arith, within, from, more) in
      let seam : slice_get (bounds ++ b ∷ []) (length bounds) ≡ Some b =
      slice_get-get_or (bounds ++ b ∷ []) (length bounds) b (omega (arith, more)) ∙ ap Some (get_or-append_seam bounds b [] b) in
      ap (slice_get all) last ∙ next ∙ sym seam ∙ ap (slice_get (bounds ++ b ∷ [])) (sym last) ∙ is
]
