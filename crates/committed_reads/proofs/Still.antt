-- What passes the test changes nothing.
use Rattle.std.proofs.Common.{◌≡◌, ℕ, zero, suc, ◌+◌, ◌<◌, Bool, true, false, ◌&&◌, ◌||◌, ◌==◌, Some, sym, ◌∙◌, inl, inr, arith}
use Rattle.std.proofs.lemmas.Bool.{cases_Bool, false≢true, eqb-true, and_parts, or_cases}
use Rattle.std.proofs.lemmas.Bool.Decides.{nat_tests}
use Rattle.type_table.specs.Table.{Table, next}
use Rattle.type_table.specs.Run.{AreEqui}
use Rattle.type_table.specs.Laws.{StepsWithin}
use Rattle.type_table.specs.StateSet.{has}
use Rattle.type_table.specs.declared.kind.Kind.{Kind}
use Rattle.type_table.specs.declared.kind.Kind.TheVariants.{Undo, Intentions, Escrow}
use Rattle.type_table.specs.declared.table_kind.TableKind.{TableKind}
use Rattle.equi_cert.specs.Relation.{relates}
use Rattle.equi_cert.specs.Simulation.{IsSimulation}
use Rattle.equi_cert.specs.Laws.{SimulationLooks}
use Rattle.escrow_laws.specs.Bounds.{amounts_of, bounds_of}
use Rattle.declared_types.specs.declared.type_file.TypeFile.{TypeFile}
use Rattle.table_checker.specs.Checked.{IsCheckedBy, IsCommuting, set_by}
use Rattle.table_checker.specs.Laws.{CoversNumbers}
use Rattle.object_trait.specs.Object.{CoversBy, object_of}
use Rattle.object_trait.specs.Laws.{CheckedIsCovered}
use Rattle.table_checker.specs.Still.{all_below, is_still_at}
use Rattle.table_checker.proofs.StillScan.{below-at}
use Rattle.committed_reads.specs.Still.{is_still_by}
use Rattle.committed_reads.specs.Laws.{StillChangesNothing}

-- an equal state, or one that is related both ways, is equieffective
leads-equi : SimulationLooks → (T : Table) (related : ℕ → ℕ → Bool) → IsSimulation T related → (s t : ℕ) → (s == t || (related s t && related t s)) ≡ true → AreEqui T (Some s) (Some t)
leads-equi looks T related simulation s t passes =
    elim (or_cases (s == t) (related s t && related t s) passes) [
      | inl is ↦ rw (eqb-true s t is) (λ ks legal. legal, λ ks legal. legal)
      | inr both ↦
          let parts = and_parts (related s t) (related t s) both in
          (looks T related s t simulation parts.0, looks T related t s simulation parts.1)
    ]

-- with a table
tabled : StepsWithin → SimulationLooks → (way : TableKind) (file : TypeFile) → IsCommuting way file → (k : ℕ) → all_below file.table.states (is_still_at file k) ≡ true →
    (s t : ℕ) → has file.reach s ≡ true → next file.table s k ≡ Some t → AreEqui file.table (Some s) (Some t)
tabled within looks way file checked k all s t inside step =
    let here = below-at file.table.states (is_still_at file k) s all (within file.table s k t checked.table step).0 in
    leads-equi looks file.table (relates file.relation) checked.certified.simulation s t (rw (inside, step) at here)

-- a number that is given as much as is taken is the same
numbered : (file : TypeFile) → CoversNumbers file.table (set_by Escrow file) (amounts_of (bounds_of file.table)) → (k : ℕ) → is_still_by Escrow file k ≡ true →
    (s t : ℕ) → next file.table s k ≡ Some t → AreEqui file.table (Some s) (Some t)
numbered file covers k still s t step =
    let amounts = amounts_of (bounds_of file.table) in
    let moves : t + amounts.takes k ≡ s + amounts.gives k = covers.numeric.moves s k t step in
    let even : amounts.gives k ≡ amounts.takes k = eqb-true (amounts.gives k) (amounts.takes k) still in
    let same : s ≡ t = omega (arith, moves, even) in
    rw same (λ ks legal. legal, λ ks legal. legal)

by-kind : StepsWithin → SimulationLooks → (kind : Kind) (file : TypeFile) → IsCheckedBy kind file → CoversBy kind (object_of (record { kind = kind; file = file })) → (k : ℕ) → is_still_by kind file k ≡ true →
    (s t : ℕ) → set_by kind file s ≡ true → next file.table s k ≡ Some t → AreEqui file.table (Some s) (Some t)
by-kind within looks Undo file checked covers k still s t inside step = tabled within looks _ file checked k still s t inside step
by-kind within looks Intentions file checked covers k still s t inside step = tabled within looks _ file checked k still s t inside step
by-kind within looks Escrow file checked covers k still s t inside step = numbered file covers k still s t step

pub still_changes_nothing : StepsWithin → SimulationLooks → CheckedIsCovered → StillChangesNothing
still_changes_nothing within looks covered = λ c k checked still s t inside step.
    by-kind within looks c.kind c.file checked (covered c checked).0 k still s t inside step
