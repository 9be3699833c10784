-- Made tables are least: what covers has each pair that fails, and what has each covers.
use Rattle.std.proofs.Common.{◌≡◌, ◌↔◌, ℕ, Bool, true, false, not, ◌&&◌, ◌||◌, List, [], ◌∷◌, IsSome, is_some, refl, sym, ◌∙◌, inl, inr}
use Rattle.std.proofs.lemmas.Bool.{false≢true, cases_Bool, and_parts, or_parts, not-false, not_from_true}
use Rattle.type_table.specs.Table.{Table, IsTable, next}
use Rattle.type_table.specs.Laws.{StepsWithin}
use Rattle.type_table.specs.StateSet.{has}
use Rattle.type_table.specs.ConflictTable.{conflicts}
use Rattle.type_table.specs.Commute.{Commutes, CommutesStrongly}
use Rattle.type_table.specs.declared.table_kind.TableKind.{TableKind}
use Rattle.type_table.specs.declared.table_kind.TableKind.TheVariants.{Undo, Intentions}
use Rattle.type_table.proofs.Legal.{some_state, from_state}
use Rattle.equi_cert.specs.Relation.{relates}
use Rattle.declared_types.specs.declared.type_file.TypeFile.{TypeFile}
use Rattle.table_checker.specs.Condition.{end_of_two, passes, passes_forward, passes_backward, passes_both_ways, fails_in_set, AreInside}
use Rattle.table_checker.specs.Checked.{condition_of, strong_condition_of}
use Rattle.table_checker.specs.declared.condition.Condition.{Condition}
use Rattle.table_checker.specs.declared.condition.Condition.TheVariants.{Forward, Backward, BackwardBothWays}
use Rattle.exact_tables.specs.Exact.{IsExactFile, HasFailing, AreFailing, HasPairsOf}
use Rattle.exact_tables.specs.Laws.{CoversExactly, CoversStronglyExactly, MadeIsLeast}
use Rattle.exact_tables.proofs.Conditions.{forward-exactly, backward-exactly, both_ways-exactly}

-- ---- where a pair can fail

-- a test that fails has a premise that holds
premise-holds : (premise rest : Bool) → (not premise || rest) ≡ false → premise ≡ true
premise-holds premise rest h = not-false premise (or_parts (not premise) rest h).0

-- two operations that are legal one after the other are operations, at a state of the table
end_inside : StepsWithin → (T : Table) (s q p : ℕ) → IsTable T → IsSome (end_of_two T s q p) → AreInside T p q s
end_inside within T s q p table legal =
    let held = from_state T (next T s q) (p ∷ []) legal in
    let requested = some_state (next T held.0 p) (rw held.1 at legal) in
    let first = within T s q held.0 table held.1 in
    record { requested = (within T held.0 p requested.0 table requested.1).1; held = first.1; state = first.0 }

both_inside : StepsWithin → (T : Table) (s p q : ℕ) → IsTable T → (is_some (next T s p) && is_some (next T s q)) ≡ true → AreInside T p q s
both_inside within T s p q table both =
    let legal = and_parts (is_some (next T s p)) (is_some (next T s q)) both in
    let after_p = some_state (next T s p) legal.0 in
    let after_q = some_state (next T s q) legal.1 in
    let requested = within T s p after_p.0 table after_p.1 in
    record { requested = requested.1; held = (within T s q after_q.0 table after_q.1).1; state = requested.0 }

-- a pair fails only where it is of two operations, at a state of the table
fails-inside : StepsWithin → (condition : Condition) (T : Table) (related : ℕ → ℕ → Bool) (p q s : ℕ) → IsTable T → passes condition T related p q s ≡ false → AreInside T p q s
unfolding passes_forward passes_backward passes_both_ways
fails-inside within Forward T related p q s table h = both_inside within T s p q table (premise-holds (is_some (next T s p) && is_some (next T s q)) _ h)
fails-inside within Backward T related p q s table h = end_inside within T s q p table (premise-holds (is_some (end_of_two T s q p)) _ h)
fails-inside within BackwardBothWays T related p q s table h = end_inside within T s q p table (premise-holds (is_some (end_of_two T s q p)) _ h)

-- ---- having each pair that fails

-- a pair passes at each state of the set
abbrev AllPass : Condition → TypeFile → ℕ → ℕ → Type 0
AllPass condition file p q = (s : ℕ) → has file.reach s ≡ true → passes condition file.table (relates file.relation) p q s ≡ true

-- where a table has each pair that fails, each other pair passes
others-pass : StepsWithin → (condition : Condition) (file : TypeFile) (rows : List (List Bool)) → IsTable file.table → HasFailing condition file rows →
    (p q : ℕ) → conflicts rows p q ≡ false → AllPass condition file p q
others-pass within condition file rows table failing p q free s member =
    elim (cases_Bool (passes condition file.table (relates file.relation) p q s)) [
      | inl passes ↦ passes
      | inr fails ↦
          let inside = fails-inside within condition file.table (relates file.relation) p q s table fails in
          let failed : fails_in_set condition file p q s ≡ true = rw (member, fails) refl in
          absurd (false≢true (sym free ∙ failing p q s inside failed))
    ]

-- and the converse
passing-failing : (condition : Condition) (file : TypeFile) (rows : List (List Bool)) → ((p q : ℕ) → conflicts rows p q ≡ false → AllPass condition file p q) → HasFailing condition file rows
passing-failing condition file rows all p q s inside fails =
    elim (cases_Bool (conflicts rows p q)) [
      | inl conflict ↦ conflict
      | inr free ↦
          let parts = and_parts (has file.reach s) (not (passes condition file.table (relates file.relation) p q s)) fails in
          absurd (false≢true (sym (not_from_true _ (all p q free s parts.0)) ∙ parts.1))
    ]

-- ---- kinds

-- a pair passes exactly where it commutes, as a kind asks
kind-exactly : StepsWithin → (kind : TableKind) (file : TypeFile) → IsExactFile file → (p q : ℕ) → AllPass (condition_of kind) file p q ↔ Commutes kind file.table (has file.reach) p q
kind-exactly within Undo file h p q = backward-exactly within file.table (relates file.relation) h.table h.exact (has file.reach) p q
kind-exactly within Intentions file h p q = forward-exactly within file.table (relates file.relation) h.table h.exact (has file.reach) p q

-- and as the stronger claim asks
strong-exactly : StepsWithin → (kind : TableKind) (file : TypeFile) → IsExactFile file → (p q : ℕ) → AllPass (strong_condition_of kind) file p q ↔ CommutesStrongly kind file.table (has file.reach) p q
strong-exactly within Undo file h p q = both_ways-exactly within file.table (relates file.relation) h.table h.exact (has file.reach) p q
strong-exactly within Intentions file h p q = forward-exactly within file.table (relates file.relation) h.table h.exact (has file.reach) p q

-- a table covers exactly where it has each pair that fails
pub covers-exactly : StepsWithin → CoversExactly
covers-exactly within = λ kind file rows h. (
  λ covers. passing-failing (condition_of kind) file rows (λ p q free. (kind-exactly within kind file h p q).1 (covers.commute p q free)),
  λ failing. record {
    begins_inside = h.begins_inside;
    closed = h.closed;
    commute = λ p q free. (kind-exactly within kind file h p q).0 (others-pass within (condition_of kind) file rows h.table failing p q free);
  },
)

-- and strongly
pub covers-strongly_exactly : StepsWithin → CoversStronglyExactly
covers-strongly_exactly within = λ kind file rows h. (
  λ covers. passing-failing (strong_condition_of kind) file rows (λ p q free. (strong-exactly within kind file h p q).1 (covers.commute p q free)),
  λ failing. record {
    begins_inside = h.begins_inside;
    closed = h.closed;
    commute = λ p q free. (strong-exactly within kind file h p q).0 (others-pass within (strong_condition_of kind) file rows h.table failing p q free);
  },
)

-- a table has each pair that fails exactly where it has each of the one that has just these
failing-made : (condition : Condition) (file : TypeFile) (made rows : List (List Bool)) → AreFailing condition file made → HasFailing condition file rows ↔ HasPairsOf file.table made rows
failing-made condition file made rows exact = (
  λ failing p q p_in q_in conflict.
      let found = (exact p q p_in q_in).0 conflict in
      failing p q found.0 (record { requested = p_in; held = q_in; state = found.1 }) found.2,
  λ pairs p q s inside fails. pairs p q inside.requested inside.held ((exact p q inside.requested inside.held).1 (s, inside.state, fails)),
)

pub made-is_least : CoversExactly → MadeIsLeast
made-is_least exactly = λ kind file made rows h made_is.
    let covers = exactly kind file rows h in
    let pairs = failing-made (condition_of kind) file made rows made_is in
    (λ c. pairs.0 (covers.0 c), λ p. covers.1 (pairs.1 p))
