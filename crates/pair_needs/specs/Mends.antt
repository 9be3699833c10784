-- What has to be changed in a file so that a pair outside its conflict table passes, which fails in no run: its relation, its set, or both.
use Rattle.std.specs.Prelude.{◌≡◌, ◌⊎◌, ℕ, ◌<◌, Bool, true, false, not, ◌&&◌, List, [], ◌∷◌, Option, Some, slice_get}
use Rattle.equi_cert.specs.Relation.{relates}
use Rattle.type_table.specs.Run.{run}
use Rattle.type_table.specs.StateSet.{has}
use Rattle.type_table.specs.Table.{Table}
use Rattle.type_table.specs.declared.table_kind.TableKind.{TableKind}
use Rattle.type_table.specs.declared.table_kind.TableKind.TheVariants.{Undo, Intentions}
use Rattle.declared_types.specs.TypeFile.{is_whole}
use Rattle.declared_types.specs.declared.type_file.TypeFile.{TypeFile}
use Rattle.table_checker.specs.Checked.{condition_of}
use Rattle.table_checker.specs.Condition.{fails_in_set}
use Rattle.pair_needs.specs.Leads.{IsLedTo}

-- ---- the relation

-- the same operations lead from two ends to these two states
abbrev pub LeadsBoth : Table → Option ℕ → Option ℕ → ℕ → ℕ → Type 0
LeadsBoth T x y a b = (r : List ℕ) × (run T x r ≡ Some a) × (run T y r ≡ Some b)

-- they lead from the end of q and then p, and from that of p and then q; with deferred update the ends have to look like each other
abbrev pub AreLedFrom : TableKind → Table → Option ℕ → Option ℕ → ℕ → ℕ → Type 0
AreLedFrom Undo T x y a b = LeadsBoth T x y a b
AreLedFrom Intentions T x y a b = LeadsBoth T x y a b ⊎ LeadsBoth T y x a b

-- from the ends of the pair at s
abbrev pub IsLedFromEnds : TableKind → Table → ℕ → ℕ → ℕ → ℕ → ℕ → Type 0
IsLedFromEnds kind T p q s a b = AreLedFrom kind T (run T (Some s) (q ∷ p ∷ [])) (run T (Some s) (p ∷ q ∷ [])) a b

-- a pair that the file's relation lacks: from a state to which some list leads. Where the relation is a simulation, it lacks none from a
-- state at which the pair of operations passes
pub record IsLacking (kind : TableKind) (file : TypeFile) (p q a b : ℕ) : Type 0 where
  pub state : ℕ
  pub led : IsLedTo file.table state
  pub after : IsLedFromEnds kind file.table p q state a b
  pub absent : relates file.relation a b ≡ false

-- one pair of states comes before another
abbrev pub IsBefore : ℕ × ℕ → ℕ × ℕ → Type 0
IsBefore x y = (x.0 < y.0) ⊎ ((x.0 ≡ y.0) × (x.1 < y.1))

-- all of them, in ascending order
pub record AreLacking (kind : TableKind) (file : TypeFile) (p q : ℕ) (pairs : List (ℕ × ℕ)) : Type 0 where
  pub each : (n a b : ℕ) → slice_get pairs n ≡ Some (a, b) → IsLacking kind file p q a b
  pub all : (a b : ℕ) → IsLacking kind file p q a b → (n : ℕ) × (slice_get pairs n ≡ Some (a, b))
  pub ascending : (m n : ℕ) (x y : ℕ × ℕ) → m < n → slice_get pairs m ≡ Some x → slice_get pairs n ≡ Some y → IsBefore x y

-- ---- the set

-- the pair fails at a state of the set to which no list leads
pub record IsTooLarge (kind : TableKind) (file : TypeFile) (p q : ℕ) : Type 0 where
  pub state : ℕ
  pub inside : state < file.table.states
  pub not_led : IsLedTo file.table state → ⊥
  pub fails : fails_in_set (condition_of kind) file p q state ≡ true

-- the file's canonical text has a `reach` line of the state; where the set is that of all states it has none
abbrev pub has_line : TypeFile → ℕ → Bool
has_line file s = not (is_whole file.reach) && has file.reach s

-- where the set is to be that of the states to which some list leads, a `reach` line is missing, or to be dropped
abbrev pub is_missing : TypeFile → List Bool → ℕ → Bool
is_missing file led s = has led s && not (has_line file s)

abbrev pub is_dropped : TypeFile → List Bool → ℕ → Bool
is_dropped file led s = has_line file s && not (has led s)
