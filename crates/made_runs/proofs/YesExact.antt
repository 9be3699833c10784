-- The checker's yes is exact at a store.
use Rattle.std.proofs.Common.{◌≡◌, ◌↔◌, ℕ, true, List, Some, slice_get, refl, sym, subst}
use Rattle.type_table.specs.Kind.{of_table}
use Rattle.type_table.specs.Laws.{StepsWithin}
use Rattle.type_table.specs.StateSet.{has}
use Rattle.type_table.specs.Table.{IsTable}
use Rattle.type_table.specs.declared.kind.Kind.{Kind}
use Rattle.type_table.specs.declared.table_kind.TableKind.{TableKind}
use Rattle.type_table.specs.declared.table_kind.TableKind.TheVariants as tabled
use Rattle.declared_types.specs.declared.type_file.TypeFile.{TypeFile}
use Rattle.table_checker.specs.Checked.{IsCertified, IsChecked}
use Rattle.object_trait.specs.Object.{Object, object_of}
use Rattle.serial_order.specs.Laws.{ReplayRuns}
use Rattle.dynamic_atomicity.specs.Converse.{AdmitsLegalOnly, CoverIsExact, IsReachable, IsReached, StepsHaveOps, YesIsExact}
use Rattle.dynamic_atomicity.proofs.YesExact.{set_closed}
use Rattle.made_runs.specs.Made.{HasOneReply}
use Rattle.made_runs.specs.Laws.{StoreAdmitsLegalOnly, StoreCoverIsExact, StoreYesIsExact}
use Rattle.made_runs.proofs.Exact.{made_is_run}

-- the file's set is what is reached
reached_by : StepsWithin → (file : TypeFile) (way : TableKind) → IsTable file.table → IsCertified file → ((s : ℕ) → has file.reach s ≡ true → IsReachable file.table s)
    → IsReached (object_of (record { kind = of_table way; file = file }))
reached_by within file tabled.Undo table certified reach = record { begins_inside = certified.begins_inside; closed = set_closed within file.table file.reach table certified.never_leaves; reach = reach }
reached_by within file tabled.Intentions table certified reach = record { begins_inside = certified.begins_inside; closed = set_closed within file.table file.reach table certified.never_leaves; reach = reach }

module _ (replays : ReplayRuns) (within : StepsWithin) (covers : CoverIsExact) (stores : StoreCoverIsExact) where
  exact_by : (objects : List Object) (x : ℕ) (file : TypeFile) (way : TableKind) → slice_get objects x ≡ Some (object_of (record { kind = of_table way; file = file })) → StepsHaveOps file.table → HasOneReply file.table
      → IsTable file.table → IsCertified file → ((s : ℕ) → has file.reach s ≡ true → IsReachable file.table s)
      → IsChecked (record { kind = of_table way; file = file }) ↔ AdmitsLegalOnly objects x (object_of (record { kind = of_table way; file = file }))
      → IsChecked (record { kind = of_table way; file = file }) ↔ StoreAdmitsLegalOnly objects x (object_of (record { kind = of_table way; file = file }))
  exact_by objects x file way there named once table certified reach said =
      let o : Object = object_of (record { kind = of_table way; file = file }) in
      let reached = reached_by within file way table certified reach in (
        (λ checked limits H made ts order keeps. said.0 checked H (made_is_run replays objects limits H made) ts order keeps),
        (λ admits. said.1 ((covers objects x o way there named refl reached).0 ((stores objects x o way there named once refl reached).1 admits))),
      )

pub store_yes_is_exact : ReplayRuns → StepsWithin → CoverIsExact → YesIsExact → StoreCoverIsExact → StoreYesIsExact
store_yes_is_exact replays within covers answers stores objects x c way there named once is table certified complete reach =
    subst (λ (kind : Kind). slice_get objects x ≡ Some (object_of (record { kind = kind; file = c.file }))
    → IsChecked (record { kind = kind; file = c.file }) ↔ AdmitsLegalOnly objects x (object_of (record { kind = kind; file = c.file }))
    → IsChecked (record { kind = kind; file = c.file }) ↔ StoreAdmitsLegalOnly objects x (object_of (record { kind = kind; file = c.file })))
    (sym is) (λ here exact. exact_by replays within covers stores objects x c.file way here named once table certified reach exact) there
    (answers objects x c way there named is table certified complete reach)
