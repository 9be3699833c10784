-- The checker's yes is exact where the file's relation is complete.
use Rattle.std.proofs.Common.{◌≡◌, ◌↔◌, ℕ, ◌<◌, Bool, true, false, List, [], ◌∷◌, Some, is_some, slice_get, refl, sym, subst, inl, inr}
use Rattle.std.proofs.lemmas.Bool.{cases_Bool, not-false}
use Rattle.equi_cert.specs.Relation.{relates}
use Rattle.type_table.specs.Table.{Table, IsTable, next}
use Rattle.type_table.specs.Run.{run, IsLegal, Looks}
use Rattle.type_table.specs.Laws.{StepsWithin, EndsWithin}
use Rattle.type_table.specs.StateSet.{has, IsClosed}
use Rattle.type_table.specs.ConflictTable.{conflicts}
use Rattle.type_table.specs.Commute.{CommuteForward, CommutesBackward, Commutes}
use Rattle.type_table.specs.Kind.{of_table}
use Rattle.type_table.specs.declared.kind.Kind.{Kind}
use Rattle.type_table.specs.declared.kind.Kind.TheVariants.{Undo, Intentions}
use Rattle.type_table.specs.declared.table_kind.TableKind.{TableKind}
use Rattle.type_table.specs.declared.table_kind.TableKind.TheVariants as tabled
use Rattle.type_table.proofs.Legal.{some_state}
use Rattle.declared_types.specs.TypeFile.{conflicts_of}
use Rattle.declared_types.specs.declared.type_file.TypeFile.{TypeFile}
use Rattle.table_checker.specs.Condition.{ends_relate, end_of_two, passes, passes_forward, passes_backward, PassesEverywhere}
use Rattle.table_checker.specs.Reach.{NeverLeaves}
use Rattle.table_checker.specs.Checked.{Checked, IsCertified, IsChecked, condition_of}
use Rattle.object_trait.specs.Object.{Object, object_of}
use Rattle.object_trait.specs.Laws.{CheckedIsCovered}
use Rattle.dynamic_atomicity.specs.Converse.{IsComplete, IsReachable, AdmitsLegalOnly, StepsHaveOps, CoverIsExact, YesIsExact}

module _ (inside : EndsWithin) (file : TypeFile) (table : IsTable file.table) (complete : IsComplete file) where
  -- two ends of which the first looks like the second are related
  ends_related : (s : ℕ) (v w : List ℕ) → s < file.table.states → IsLegal file.table (Some s) v → IsLegal file.table (Some s) w
      → Looks file.table (run file.table (Some s) v) (run file.table (Some s) w)
      → ends_relate (relates file.relation) (run file.table (Some s) v) (run file.table (Some s) w) ≡ true
  ends_related s v w state v_legal w_legal looks =
      let T = file.table in
      let a = some_state (run T (Some s) v) v_legal in
      let b = some_state (run T (Some s) w) w_legal in
      let like : Looks T (Some a.0) (Some b.0) = rw (a.1, b.1) at looks in
      rw (a.1, b.1) (complete a.0 b.0 (inside T s a.0 v table state a.1) (inside T s b.0 w table state b.1) like)

  backward_passes : (p q s : ℕ) → s < file.table.states → has file.reach s ≡ true → CommutesBackward file.table (has file.reach) p q → passes_backward file.table (relates file.relation) p q s ≡ true
  unfolding passes_backward
  backward_passes p q s state member commutes =
      elim (cases_Bool (is_some (end_of_two file.table s q p))) [
        | inl legal ↦
            let both = commutes s member legal in
            rw legal (ends_related s (q ∷ p ∷ []) (p ∷ q ∷ []) state legal both.0 both.1)
        | inr illegal ↦ rw illegal refl
      ]

  forward_passes : (p q s : ℕ) → s < file.table.states → has file.reach s ≡ true → CommuteForward file.table (has file.reach) p q → passes_forward file.table (relates file.relation) p q s ≡ true
  unfolding passes_forward
  forward_passes p q s state member commutes =
      elim (cases_Bool (is_some (next file.table s p))) [
        | inl p_legal ↦ elim (cases_Bool (is_some (next file.table s q))) [
          | inl q_legal ↦
              let all = commutes s member p_legal q_legal in
              rw (p_legal, q_legal, ends_related s (p ∷ q ∷ []) (q ∷ p ∷ []) state all.0 all.1 all.2.0, ends_related s (q ∷ p ∷ []) (p ∷ q ∷ []) state all.1 all.0 all.2.1) refl
          | inr q_illegal ↦ rw (p_legal, q_illegal) refl
        ]
        | inr p_illegal ↦ rw p_illegal refl
      ]

  passes-here : (kind : TableKind) (p q s : ℕ) → s < file.table.states → has file.reach s ≡ true → Commutes kind file.table (has file.reach) p q
      → passes (condition_of kind) file.table (relates file.relation) p q s ≡ true
  passes-here tabled.Undo = backward_passes
  passes-here tabled.Intentions = forward_passes

  -- what covers passes
  covers-pass : (kind : TableKind) → ((p q : ℕ) → conflicts (conflicts_of kind file) p q ≡ false → Commutes kind file.table (has file.reach) p q) → PassesEverywhere (condition_of kind) file (conflicts_of kind file)
  covers-pass kind commute p q s at =
      elim (cases_Bool (conflicts (conflicts_of kind file) p q)) [
        | inl conflict ↦ rw conflict refl
        | inr free ↦ elim (cases_Bool (has file.reach s)) [
          | inl member ↦ rw (free, member, passes-here kind p q s at.state member (commute p q free)) refl
          | inr outside ↦ rw (free, outside) refl
        ]
      ]

-- where no step leaves the set, it is closed
pub set_closed : StepsWithin → (T : Table) (members : List Bool) → IsTable T → NeverLeaves T members → IsClosed T (has members)
set_closed within T members table never = λ s k t member step.
    let inside = within T s k t table step in
    not-false (has members t) (rw (member, step) at (never s k inside.0 inside.1))

-- by kinds with a conflict table
exact_by : StepsWithin → EndsWithin → CheckedIsCovered → CoverIsExact → (objects : List Object) (x : ℕ) (file : TypeFile) (way : TableKind)
    → slice_get objects x ≡ Some (object_of (record { kind = of_table way; file = file })) → StepsHaveOps file.table → IsTable file.table → IsCertified file → IsComplete file
    → ((s : ℕ) → has file.reach s ≡ true → IsReachable file.table s)
    → IsChecked (record { kind = of_table way; file = file }) ↔ AdmitsLegalOnly objects x (object_of (record { kind = of_table way; file = file }))
exact_by within inside covers exact objects x file tabled.Undo there named table certified complete reach =
    let c : Checked = record { kind = Undo; file = file } in
    let closed = set_closed within file.table file.reach table certified.never_leaves in
    let known = exact objects x (object_of c) tabled.Undo there named refl (record { begins_inside = certified.begins_inside; closed = closed; reach = reach }) in (
      (λ checked. known.0 (covers c checked).0),
      (λ admits. record { table = table; certified = certified; passes = covers-pass inside file table complete tabled.Undo (known.1 admits).commute }),
    )
exact_by within inside covers exact objects x file tabled.Intentions there named table certified complete reach =
    let c : Checked = record { kind = Intentions; file = file } in
    let closed = set_closed within file.table file.reach table certified.never_leaves in
    let known = exact objects x (object_of c) tabled.Intentions there named refl (record { begins_inside = certified.begins_inside; closed = closed; reach = reach }) in (
      (λ checked. known.0 (covers c checked).0),
      (λ admits. record { table = table; certified = certified; passes = covers-pass inside file table complete tabled.Intentions (known.1 admits).commute }),
    )

pub yes_is_exact : StepsWithin → EndsWithin → CheckedIsCovered → CoverIsExact → YesIsExact
yes_is_exact within inside covers exact objects x c way there named is table certified complete reach =
    subst (λ (kind : Kind). slice_get objects x ≡ Some (object_of (record { kind = kind; file = c.file })) → IsChecked (record { kind = kind; file = c.file }) ↔ AdmitsLegalOnly objects x (object_of (record { kind = kind; file = c.file })))
    (sym is) (λ here. exact_by within inside covers exact objects x c.file way here named table certified complete reach) there
