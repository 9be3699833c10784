-- When the checker's answer is a yes, with an exact relation and of a made file.
use Rattle.std.proofs.Common.{◌≡◌, ◌↔◌, ℕ, Bool, true, false, not, ◌&&◌, List, Option, Some, None, refl, sym, ◌∙◌}
use Rattle.std.proofs.lemmas.Bool.{false≢true}
use Rattle.type_table.specs.Commute.{Covers}
use Rattle.type_table.specs.ConflictTable.{conflicts}
use Rattle.type_table.specs.Kind.{of_table}
use Rattle.type_table.specs.StateSet.{has, IsClosed}
use Rattle.type_table.specs.Table.{Table, next}
use Rattle.type_table.specs.declared.kind.Kind.{Kind}
use Rattle.type_table.specs.declared.table_kind.TableKind.{TableKind}
use Rattle.type_table.specs.declared.table_kind.TableKind.TheVariants as tabled
use Rattle.declared_types.specs.TypeFile.{conflicts_of}
use Rattle.declared_types.specs.declared.type_file.TypeFile.{TypeFile}
use Rattle.equi_cert.specs.Relation.{relates}
use Rattle.table_checker.specs.Answer.{OneAnswer}
use Rattle.table_checker.specs.Checked.{IsCheckedBy, IsCommuting, IsStrong, condition_of, strong_condition_of}
use Rattle.table_checker.specs.Condition.{fails_in_set, PassesEverywhere}
use Rattle.table_checker.specs.Laws.{YesCovers, CoversType}
use Rattle.table_checker.specs.Reach.{is_outside, NeverLeaves}
use Rattle.table_checker.specs.declared.condition.Condition.{Condition}
use Rattle.exact_tables.specs.Exact.{HasFailing, IsExactFile}
use Rattle.exact_tables.specs.Laws.{CoversExactly, CoversStronglyExactly, ExactSimulates}
use Rattle.table_maker.specs.Made.{IsMadeFile}
use Rattle.table_maker.specs.MadeConflicts.{AreMadeConflicts}
use Rattle.made_answers.specs.Answers.{HasClosedSet, IsAnsweredYes, yes_for}
use Rattle.made_answers.specs.Laws.{ExactAnswers, ExactStrength, MadeIsAccepted, MadeIsExact, MadeIsStrong}

-- ---- answers

-- the answer is a yes exactly where what is tested holds
pub answered : OneAnswer → (kind : Kind) (file : TypeFile) → IsAnsweredYes kind file ↔ IsCheckedBy kind file
answered one kind file = (
  λ yes. yes.yes.1,
  λ checked. record { yes = (refl, checked); alone = λ result answer. one kind file result (yes_for kind file) answer (refl, checked) },
)

-- what is tested for a kind with a conflict table
tested : (kind : TableKind) (file : TypeFile) → IsCheckedBy (of_table kind) file ↔ IsCommuting kind file
tested tabled.Undo file = (λ h. h, λ h. h)
tested tabled.Intentions file = (λ h. h, λ h. h)

-- what covers its type by such a kind
covering : (kind : TableKind) (file : TypeFile) → CoversType (of_table kind) file → Covers kind file.table (has file.reach) (conflicts (conflicts_of kind file))
covering tabled.Undo file covers = covers
covering tabled.Intentions file covers = covers

-- ---- the tests

-- a step from a state of a closed set isn't outside
not_outside : (members : List Bool) (inside : Bool) (o : Option ℕ) → ((t : ℕ) → inside ≡ true → o ≡ Some t → has members t ≡ true) → (inside && is_outside members o) ≡ false
not_outside members false o stays = refl
not_outside members true None stays = refl
not_outside members true (Some t) stays = rw (stays t refl refl) refl

never_leaves : (T : Table) (members : List Bool) → IsClosed T (has members) → NeverLeaves T members
never_leaves T members closed = λ s k s_in k_in. not_outside members (has members s) (next T s k) (λ t member step. closed s k t member step)

-- a pair that conflicts where it fails isn't outside the table where it fails
none_outside : (conflict fails : Bool) → (fails ≡ true → conflict ≡ true) → (not conflict && fails) ≡ false
none_outside true fails h = refl
none_outside false true h = absurd (false≢true (h refl))
none_outside false false h = refl

-- and the converse
conflict_inside : (conflict fails : Bool) → (not conflict && fails) ≡ false → fails ≡ true → conflict ≡ true
conflict_inside true fails h e = refl
conflict_inside false fails h e = absurd (false≢true (sym h ∙ e))

-- no pair outside a conflict table fails exactly where it has each pair that fails
passes_exactly : (condition : Condition) (file : TypeFile) (rows : List (List Bool)) → PassesEverywhere condition file rows ↔ HasFailing condition file rows
passes_exactly condition file rows = (
  λ all p q s inside fails. conflict_inside (conflicts rows p q) (fails_in_set condition file p q s) (all p q s inside) fails,
  λ failing p q s inside. none_outside (conflicts rows p q) (fails_in_set condition file p q s) (failing p q s inside),
)

-- ---- files with an exact relation

-- where the conflict table has each pair that fails, all tests pass
passes : ExactSimulates → (kind : TableKind) (file : TypeFile) → IsExactFile file → HasFailing (condition_of kind) file (conflicts_of kind file) → IsCommuting kind file
passes simulates kind file exact failing = record {
  table = exact.table;
  certified = record {
    begins_inside = exact.begins_inside;
    never_leaves = never_leaves file.table file.reach exact.closed;
    simulation = simulates file.table (relates file.relation) exact.table exact.exact;
  };
  passes = (passes_exactly (condition_of kind) file (conflicts_of kind file)).1 failing;
}

pub exact_answers : OneAnswer → ExactSimulates → CoversExactly → ExactAnswers
exact_answers one simulates exactly = λ kind file exact.
    let covers = exactly kind file (conflicts_of kind file) exact in
    let answers = answered one (of_table kind) file in
    let tests = tested kind file in (
      λ yes. covers.1 ((passes_exactly (condition_of kind) file (conflicts_of kind file)).0 (tests.0 (answers.0 yes)).passes),
      λ covered. answers.1 (tests.1 (passes simulates kind file exact (covers.0 covered))),
    )

-- a strong yes has the stronger test
strong_tested : (kind : TableKind) (file : TypeFile) → IsStrong (record { kind = of_table kind; file = file }) ↔ PassesEverywhere (strong_condition_of kind) file (conflicts_of kind file)
strong_tested tabled.Undo file = (λ h. h, λ h. h)
strong_tested tabled.Intentions file = (λ h. h, λ h. h)

pub exact_strength : CoversStronglyExactly → ExactStrength
exact_strength exactly = λ kind file exact.
    let covers = exactly kind file (conflicts_of kind file) exact in
    let pairs = passes_exactly (strong_condition_of kind) file (conflicts_of kind file) in
    let tests = strong_tested kind file in
    (λ strong. covers.1 (pairs.0 (tests.0 strong)), λ covered. tests.1 (pairs.1 (covers.0 covered)))

-- ---- made files

pub made_is_exact : MadeIsExact
made_is_exact = λ file made set. record { table = made.table; exact = made.relation; begins_inside = set.begins_inside; closed = set.closed }

-- a made conflict table has each pair that fails
has_failing : (condition : Condition) (file : TypeFile) (rows : List (List Bool)) → AreMadeConflicts condition file rows → HasFailing condition file rows
has_failing condition file rows made = λ p q s inside fails. (made.exact p q inside.requested inside.held).1 (s, inside.state, fails)

-- and so has that of each kind
made_failing : (kind : TableKind) (file : TypeFile) → IsMadeFile file → HasFailing (condition_of kind) file (conflicts_of kind file)
made_failing tabled.Undo file made = has_failing _ file file.undo made.undo
made_failing tabled.Intentions file made = has_failing _ file file.intentions made.intentions

-- a yes says that the set is closed and holds the initial state
set_of : YesCovers → (kind : TableKind) (file : TypeFile) → IsCheckedBy (of_table kind) file → HasClosedSet file
set_of covers kind file checked =
    let covered = covering kind file (covers (record { kind = of_table kind; file = file }) checked) in
    record { begins_inside = covered.begins_inside; closed = covered.closed }

pub made_is_accepted : OneAnswer → YesCovers → ExactSimulates → MadeIsAccepted
made_is_accepted one covers simulates = λ kind file made.
    let answers = answered one (of_table kind) file in (
      λ yes. set_of covers kind file (answers.0 yes),
      λ set. answers.1 ((tested kind file).1 (passes simulates kind file (made_is_exact file made set) (made_failing kind file made))),
    )

pub made_is_strong : MadeIsAccepted → MadeIsStrong
made_is_strong accepted = λ file made set. record {
  yes = (accepted tabled.Intentions file made).1 set;
  strong = (passes_exactly (strong_condition_of tabled.Intentions) file file.intentions).1 (made_failing tabled.Intentions file made);
}
