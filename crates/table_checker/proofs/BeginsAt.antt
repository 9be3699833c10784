-- A checked type that begins at another state.
use Rattle.std.proofs.Common.{◌≡◌, ℕ, ◌-◌, ◌<◌, ◌≤◌, Bool, true, false, List, length, refl, sym, subst, ◌∙◌, inl, inr}
use Rattle.std.specs.Prelude.{slice_index_or}
use Rattle.std.proofs.lemmas.Bool.{false≢true, cases_lt, ltb-true}
use Rattle.std.proofs.lemmas.List.{get_or_past}
use Rattle.equi_cert.specs.Relation.{relates}
use Rattle.equi_cert.specs.Simulation.{IsSimulation}
use Rattle.type_table.specs.Table.{Table, IsTable, next, table_at}
use Rattle.type_table.specs.StateSet.{has}
use Rattle.type_table.specs.declared.kind.Kind.{Kind}
use Rattle.type_table.specs.declared.kind.Kind.TheVariants as kinds
use Rattle.type_table.specs.declared.table_kind.TableKind.{TableKind}
use Rattle.type_table.specs.declared.table_kind.TableKind.TheVariants.{Undo, Intentions}
use Rattle.escrow_laws.specs.Bounds.{AreBounds, bounds_of}
use Rattle.escrow_laws.specs.declared.bounded.Bounded.{Bounded}
use Rattle.declared_types.specs.TypeFile.{file_at, conflicts_of}
use Rattle.declared_types.specs.declared.type_file.TypeFile.{TypeFile}
use Rattle.table_checker.specs.Checked.{IsCheckedBy, IsCommuting, IsNumericType, IsStrongBy, set_by, condition_of, strong_condition_of}
use Rattle.table_checker.specs.Condition.{passes, passes_forward, passes_backward, passes_both_ways, PassesEverywhere}
use Rattle.table_checker.specs.Reach.{NeverLeaves}
use Rattle.table_checker.specs.declared.condition.Condition.{Condition}
use Rattle.table_checker.specs.declared.condition.Condition.TheVariants.{Forward, Backward, BackwardBothWays}
use Rattle.table_checker.specs.At.{AtIsChecked, AtIsStrong}

-- ---- what the checker tested

-- a member is one of the states
beyond : (members : List Bool) (s : ℕ) → length members ≤ s → slice_index_or members s false ≡ false
beyond members s past = get_or_past members s false past

inside : (members : List Bool) (s n : ℕ) → length members ≡ n → has members s ≡ true → s < n
inside members s n many member =
    elim (cases_lt s (length members)) [
      | inl low ↦ subst (λ m. s < m) many low
      | inr past ↦ absurd (false≢true (sym (beyond members s past) ∙ member))
    ]

-- the conditions of a pair
passes-at : (condition : Condition) (T : Table) (i : ℕ) (related : ℕ → ℕ → Bool) (p q s : ℕ) → passes condition (table_at T i) related p q s ≡ passes condition T related p q s
unfolding next passes_forward passes_backward passes_both_ways
passes-at Forward T i related p q s = refl
passes-at Backward T i related p q s = refl
passes-at BackwardBothWays T i related p q s = refl

-- hold everywhere
everywhere-at : (condition : Condition) (file : TypeFile) (i : ℕ) (rows : List (List Bool)) → PassesEverywhere condition file rows → PassesEverywhere condition (file_at file i) rows
everywhere-at condition file i rows all = λ p q s at.
    rw (passes-at condition file.table i (relates file.relation) p q s)
    (all p q s (record { requested = at.requested; held = at.held; state = at.state }))

simulation-at : (T : Table) (i : ℕ) (related : ℕ → ℕ → Bool) → IsSimulation T related → IsSimulation (table_at T i) related
unfolding next
simulation-at T i related simulation = simulation

never-at : (T : Table) (i : ℕ) (members : List Bool) → NeverLeaves T members → NeverLeaves (table_at T i) members
unfolding next
never-at T i members never = never

conflicts-at : (kind : TableKind) (file : TypeFile) (i : ℕ) → conflicts_of kind (file_at file i) ≡ conflicts_of kind file
conflicts-at Undo file i = refl
conflicts-at Intentions file i = refl

-- a table that begins at another of its states
table-at : (T : Table) (i : ℕ) → IsTable T → i < T.states → IsTable (table_at T i)
table-at T i table inside = record {
  some_states = table.some_states;
  states_fit = table.states_fit;
  some_ops = table.some_ops;
  ops_fit = table.ops_fit;
  whole = table.whole;
  initial_inside = inside;
  steps_inside = table.steps_inside;
  no_twin = table.no_twin;
}

commuting-at : (kind : TableKind) (file : TypeFile) (i : ℕ) → IsCommuting kind file → has file.reach i ≡ true → IsCommuting kind (file_at file i)
commuting-at kind file i checked member = record {
  table = table-at file.table i checked.table (inside file.reach i file.table.states file.reach_fits member);
  certified = record {
    begins_inside = member;
    never_leaves = never-at file.table i file.reach checked.certified.never_leaves;
    simulation = simulation-at file.table i (relates file.relation) checked.certified.simulation;
  };
  passes = rw (conflicts-at kind file i) (everywhere-at (condition_of kind) file i (conflicts_of kind file) checked.passes);
}

-- the bounds of its operations are the same
pub bounds-at : (T : Table) (i : ℕ) → bounds_of (table_at T i) ≡ bounds_of T
unfolding next
bounds-at T i = refl

are_bounds-at : (T : Table) (i top : ℕ) (ops : List Bounded) → AreBounds T top ops → AreBounds (table_at T i) top ops
unfolding next
are_bounds-at T i top ops bounds = record { steps = bounds.steps; within = bounds.within }

numeric-at : (T : Table) (i : ℕ) → IsNumericType T → i < T.states → IsNumericType (table_at T i)
numeric-at T i numeric below = record {
  states_fit = numeric.states_fit;
  initial_inside = below;
  bounds = rw (bounds-at T i) (are_bounds-at T i (T.states - 1) (bounds_of T) numeric.bounds);
}

at_by : (kind : Kind) (file : TypeFile) (i : ℕ) → IsCheckedBy kind file → set_by kind file i ≡ true → IsCheckedBy kind (file_at file i)
at_by kinds.Undo file i checked member = commuting-at Undo file i checked member
at_by kinds.Intentions file i checked member = commuting-at Intentions file i checked member
at_by kinds.Escrow file i checked below = numeric-at file.table i checked (ltb-true i file.table.states below)

-- a state that is looked at is one of the table's
pub looked_at-inside : (kind : Kind) (file : TypeFile) (s : ℕ) → set_by kind file s ≡ true → s < file.table.states
looked_at-inside kinds.Undo file s member = inside file.reach s file.table.states file.reach_fits member
looked_at-inside kinds.Intentions file s member = inside file.reach s file.table.states file.reach_fits member
looked_at-inside kinds.Escrow file s below = ltb-true s file.table.states below

pub at_is_checked : AtIsChecked
at_is_checked = λ c i checked member. at_by c.kind c.file i checked member

strong_at_by : (kind : Kind) (file : TypeFile) (i : ℕ) → IsStrongBy kind file → IsStrongBy kind (file_at file i)
strong_at_by kinds.Undo file i strong = everywhere-at (strong_condition_of Undo) file i file.undo strong
strong_at_by kinds.Intentions file i strong = everywhere-at (strong_condition_of Intentions) file i file.intentions strong
strong_at_by kinds.Escrow file i strong = tt

pub at_is_strong : AtIsStrong
at_is_strong = λ c i strong. strong_at_by c.kind c.file i strong
