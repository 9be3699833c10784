-- From the finite condition to all lists of operations.
use Rattle.std.proofs.Common.{◌≡◌, ℕ, ◌-◌, ◌≤◌, nat_lt, Bool, true, false, not, ◌&&◌, ◌||◌, List, [], ◌∷◌, Option, Some, None, IsSome, is_some, refl, sym, ◌∙◌, arith}
use Rattle.std.specs.Prelude.{slice_get}
use Rattle.std.proofs.lemmas.Option.{none-some}
use Rattle.std.proofs.lemmas.Bool.{false≢true, not-false, lt-ltb, ltb-true}
use Rattle.equi_cert.specs.Laws.{EndsLook}
use Rattle.equi_cert.specs.Relation.{relates}
use Rattle.equi_cert.specs.Simulation.{IsSimulation}
use Rattle.type_table.specs.Table.{Table, IsTable, next}
use Rattle.type_table.specs.Run.{next_of, run, IsLegal, Looks}
use Rattle.type_table.specs.Laws.{StepsWithin}
use Rattle.type_table.specs.StateSet.{has, IsClosed}
use Rattle.type_table.specs.ConflictTable.{conflicts}
use Rattle.type_table.specs.Commute.{CommuteForward, CommutesBackward, CommutesBackwardBothWays, Commutes, CommutesStrongly, Covers, CoversStrongly}
use Rattle.type_table.specs.declared.kind.Kind.{Kind}
use Rattle.type_table.specs.declared.kind.Kind.TheVariants as kinds
use Rattle.type_table.specs.declared.table_kind.TableKind.{TableKind}
use Rattle.type_table.specs.declared.table_kind.TableKind.TheVariants.{Undo, Intentions}
use Rattle.type_table.proofs.Legal.{some_state, is_there}
use Rattle.escrow_laws.specs.Bounds.{moved_by, IsWithinBounds, AreBounds, bounds_of}
use Rattle.escrow_laws.specs.declared.bounded.Bounded.{Bounded}
use Rattle.escrow_laws.proofs.Numbers.{within as inside_bounds, moves_by}
use Rattle.escrow_laws.specs.Laws.{BoundsAreNumeric}
use Rattle.declared_types.specs.declared.type_file.TypeFile.{TypeFile}
use Rattle.table_checker.specs.Condition.{ends_relate, end_of_two, passes, passes_forward, passes_backward, passes_both_ways, AreInside, PassesEverywhere}
use Rattle.table_checker.specs.Reach.{is_outside, NeverLeaves}
use Rattle.table_checker.specs.Checked.{IsCheckedBy, IsCommuting, IsStrongBy, condition_of, strong_condition_of}
use Rattle.declared_types.specs.TypeFile.{conflicts_of}
use Rattle.table_checker.specs.Laws.{CoversType, CoversTypeStrongly, YesCovers, StrongYesCovers}
use Rattle.table_checker.specs.declared.condition.Condition.{Condition}
use Rattle.table_checker.specs.declared.condition.Condition.TheVariants.{Forward, Backward, BackwardBothWays}

-- ---- tests

-- both parts of a test that holds
both : (a b : Bool) → (a && b) ≡ true → (a ≡ true) × (b ≡ true)
both true b h = (refl, h)
both false b h = absurd (false≢true h)

-- a pair outside the table doesn't fail at a state of the set: it passes
must_pass : (conflict inside pass : Bool) → conflict ≡ false → inside ≡ true → (not conflict && (inside && not pass)) ≡ false → pass ≡ true
must_pass conflict inside true free member h = refl
must_pass conflict inside false free member h = absurd (false≢true (sym h ∙ rw (free, member) refl))

-- the condition is forced where its premise holds
forced : (premise rest : Bool) → premise ≡ true → (not premise || rest) ≡ true → rest ≡ true
forced premise rest e h = rw e at h

-- ---- the set

-- a step from a state of the set that isn't outside leads to a state of the set
stays_inside : (members : List Bool) (o : Option ℕ) (inside : Bool) (t : ℕ) → inside ≡ true → o ≡ Some t → (inside && is_outside members o) ≡ false → has members t ≡ true
stays_inside members o inside t member step h = not-false _ (rw (member, step) at h)

-- where no step leaves the set, it is closed
closed : StepsWithin → (T : Table) (members : List Bool) → IsTable T → NeverLeaves T members → IsClosed T (has members)
closed within T members table never = λ s k t member step.
    let inside = within T s k t table step in
    stays_inside members (next T s k) (has members s) t member step (never s k inside.0 inside.1)

-- ---- ends

-- both ends are there, and the first looks like the second
pub record AreEndsLike (T : Table) (x y : Option ℕ) : Type 0 where
  pub first : IsSome x
  pub second : IsSome y
  pub looks : Looks T x y

-- ends that are related are some states that are
related_states : (related : ℕ → ℕ → Bool) (x y : Option ℕ) → ends_relate related x y ≡ true → (a : ℕ) × (b : ℕ) × (x ≡ Some a) × (y ≡ Some b) × (related a b ≡ true)
related_states related (Some a) (Some b) h = (a, b, refl, refl, h)
related_states related (Some a) None h = absurd (false≢true h)
related_states related None y h = absurd (false≢true h)

-- where two lists end in a pair of a simulation, the ends are like each other
related_ends : EndsLook → (T : Table) (related : ℕ → ℕ → Bool) → IsSimulation T related → (s : ℕ) (v w : List ℕ) →
    ends_relate related (run T (Some s) v) (run T (Some s) w) ≡ true → AreEndsLike T (run T (Some s) v) (run T (Some s) w)
related_ends ends T related simulation s v w h =
    let found = related_states related (run T (Some s) v) (run T (Some s) w) h in
    record {
      first = is_there (run T (Some s) v) found.0 found.2;
      second = is_there (run T (Some s) w) found.1 found.3;
      looks = ends T related s found.0 found.1 v w simulation found.2 found.3 found.4;
    }

-- ---- pairs

-- two operations that are legal one after the other are operations, and the state is one of the table
legal_inside : StepsWithin → (T : Table) (s q p : ℕ) → IsTable T → IsLegal T (Some s) (q ∷ p ∷ []) → AreInside T p q s
legal_inside within T s q p table h =
    let held = some_state (next T s q) (first_there (next T s q) h) in
    let requested = some_state (next T (held.0) p) (rw held.1 at h) in
    let first = within T s q held.0 table held.1 in
    record { requested = (within T (held.0) p requested.0 table requested.1).1; held = first.1; state = first.0 }
  where
    first_there : (o : Option ℕ) → IsSome (next_of T o p) → IsSome o
    first_there None legal = absurd (false≢true legal)
    first_there (Some t) legal = refl

-- two operations that are both legal are operations, at a state of the table
both_inside : StepsWithin → (T : Table) (s p q : ℕ) → IsTable T → IsSome (next T s p) → IsSome (next T s q) → AreInside T p q s
both_inside within T s p q table p_legal q_legal =
    let after_p = some_state (next T s p) p_legal in
    let after_q = some_state (next T s q) q_legal in
    let requested = within T s p after_p.0 table after_p.1 in
    record { requested = requested.1; held = (within T s q after_q.0 table after_q.1).1; state = requested.0 }

-- a pair outside the table passes at each state of the set
passes_at : (condition : Condition) (file : TypeFile) (rows : List (List Bool)) → PassesEverywhere condition file rows → (p q s : ℕ) →
    conflicts rows p q ≡ false → has file.reach s ≡ true → AreInside file.table p q s → passes condition file.table (relates file.relation) p q s ≡ true
passes_at condition file rows all p q s free member inside =
    must_pass (conflicts rows p q) (has file.reach s) (passes condition file.table (relates file.relation) p q s) free member (all p q s inside)

-- what passes the forward condition at each state of the set commutes forward, over all lists
forward_commutes : StepsWithin → EndsLook → (file : TypeFile) (rows : List (List Bool)) → IsTable file.table → IsSimulation file.table (relates file.relation) →
    PassesEverywhere Forward file rows → (p q : ℕ) → conflicts rows p q ≡ false → CommuteForward file.table (has file.reach) p q
unfolding passes_forward
forward_commutes within ends file rows table simulation all p q free = λ s member p_legal q_legal.
    let T = file.table in
    let related = relates file.relation in
    let pass = passes_at Forward file rows all p q s free member (both_inside within T s p q table p_legal q_legal) in
    let ways = both _ _ (forced (is_some (next T s p) && is_some (next T s q)) _ (rw (p_legal, q_legal) refl) pass) in
    let like = related_ends ends T related simulation s (p ∷ q ∷ []) (q ∷ p ∷ []) ways.0 in
    let back = related_ends ends T related simulation s (q ∷ p ∷ []) (p ∷ q ∷ []) ways.1 in
    (like.first, like.second, (like.looks, back.looks))

-- and so for the backward condition
backward_commutes : StepsWithin → EndsLook → (file : TypeFile) (rows : List (List Bool)) → IsTable file.table → IsSimulation file.table (relates file.relation) →
    PassesEverywhere Backward file rows → (p q : ℕ) → conflicts rows p q ≡ false → CommutesBackward file.table (has file.reach) p q
unfolding passes_backward
backward_commutes within ends file rows table simulation all p q free = λ s member legal.
    let T = file.table in
    let related = relates file.relation in
    let pass = passes_at Backward file rows all p q s free member (legal_inside within T s q p table legal) in
    let like = related_ends ends T related simulation s (q ∷ p ∷ []) (p ∷ q ∷ []) (forced (is_some (end_of_two T s q p)) _ legal pass) in
    (like.second, like.looks)

-- and for the two-way condition
both_ways_commute : StepsWithin → EndsLook → (file : TypeFile) (rows : List (List Bool)) → IsTable file.table → IsSimulation file.table (relates file.relation) →
    PassesEverywhere BackwardBothWays file rows → (p q : ℕ) → conflicts rows p q ≡ false → CommutesBackwardBothWays file.table (has file.reach) p q
unfolding passes_both_ways
both_ways_commute within ends file rows table simulation all p q free = λ s member legal.
    let T = file.table in
    let related = relates file.relation in
    let pass = passes_at BackwardBothWays file rows all p q s free member (legal_inside within T s q p table legal) in
    let ways = both _ _ (forced (is_some (end_of_two T s q p)) _ legal pass) in
    let like = related_ends ends T related simulation s (q ∷ p ∷ []) (p ∷ q ∷ []) ways.0 in
    let back = related_ends ends T related simulation s (p ∷ q ∷ []) (q ∷ p ∷ []) ways.1 in
    (like.second, (like.looks, back.looks))

-- ---- kinds

-- each pair outside the table commutes, as the kind asks
commutes : StepsWithin → EndsLook → (kind : TableKind) (file : TypeFile) → IsTable file.table → IsSimulation file.table (relates file.relation) →
    PassesEverywhere (condition_of kind) file (conflicts_of kind file) → (p q : ℕ) → conflicts (conflicts_of kind file) p q ≡ false → Commutes kind file.table (has file.reach) p q
commutes within ends Undo file table simulation all = backward_commutes within ends file file.undo table simulation all
commutes within ends Intentions file table simulation all = forward_commutes within ends file file.intentions table simulation all

-- and as the stronger claim asks
commutes_strongly : StepsWithin → EndsLook → (kind : TableKind) (file : TypeFile) → IsTable file.table → IsSimulation file.table (relates file.relation) →
    PassesEverywhere (strong_condition_of kind) file (conflicts_of kind file) → (p q : ℕ) → conflicts (conflicts_of kind file) p q ≡ false → CommutesStrongly kind file.table (has file.reach) p q
commutes_strongly within ends Undo file table simulation all = both_ways_commute within ends file file.undo table simulation all
commutes_strongly within ends Intentions file table simulation all = forward_commutes within ends file file.intentions table simulation all

-- what was tested covers
covers : StepsWithin → EndsLook → (kind : TableKind) (file : TypeFile) → IsCommuting kind file → Covers kind file.table (has file.reach) (conflicts (conflicts_of kind file))
covers within ends kind file h = record {
  begins_inside = h.certified.begins_inside;
  closed = closed within file.table file.reach h.table h.certified.never_leaves;
  commute = commutes within ends kind file h.table h.certified.simulation h.passes;
}

-- and strongly
covers_strongly : StepsWithin → EndsLook → (kind : TableKind) (file : TypeFile) → IsCommuting kind file → PassesEverywhere (strong_condition_of kind) file (conflicts_of kind file)
    → CoversStrongly kind file.table (has file.reach) (conflicts (conflicts_of kind file))
covers_strongly within ends kind file h strong = record {
  begins_inside = h.certified.begins_inside;
  closed = closed within file.table file.reach h.table h.certified.never_leaves;
  commute = commutes_strongly within ends kind file h.table h.certified.simulation strong;
}

-- an operation between bounds leads to no number above the greatest
found-below : (found : Option Bounded) (top s t : ℕ) → ((b : Bounded) → found ≡ Some b → IsWithinBounds top b) → moved_by found s ≡ Some t → t ≤ top
found-below None top s t fits step = absurd (none-some t step)
found-below (Some b) top s t fits step =
    let fit = fits b refl in
    let between = inside_bounds b s (is_there (moved_by (Some b) s) t step) in
    let moved = moves_by b s t fit.enough step in
    let high = between.1 in
    let room = fit.room in
    omega (arith, moved, high, room)

-- no step leaves the set of all states
all-closed : (T : Table) (ops : List Bounded) → AreBounds T (T.states - 1) ops → IsClosed T (λ s. nat_lt s T.states)
all-closed T ops bounds = λ s k t member step.
    let most = found-below (slice_get ops k) (T.states - 1) s t (bounds.within k) (sym (bounds.steps s k) ∙ step) in
    let some = ltb-true s T.states member in
    lt-ltb t T.states (omega (arith, most, some))

-- a yes gives covering
covers_by : StepsWithin → EndsLook → BoundsAreNumeric → (kind : Kind) (file : TypeFile) → IsCheckedBy kind file → CoversType kind file
covers_by within ends numeric kinds.Undo file h = covers within ends Undo file h
covers_by within ends numeric kinds.Intentions file h = covers within ends Intentions file h
covers_by within ends numeric kinds.Escrow file h = record {
  begins_inside = lt-ltb file.table.initial file.table.states h.initial_inside;
  closed = all-closed file.table (bounds_of file.table) h.bounds;
  numeric = numeric file.table (file.table.states - 1) (bounds_of file.table) h.bounds;
}

pub yes-covers : StepsWithin → EndsLook → BoundsAreNumeric → YesCovers
yes-covers within ends numeric = λ c h. covers_by within ends numeric c.kind c.file h

-- a strong yes gives strong covering
strongly_by : StepsWithin → EndsLook → BoundsAreNumeric → (kind : Kind) (file : TypeFile) → IsCheckedBy kind file → IsStrongBy kind file → CoversTypeStrongly kind file
strongly_by within ends numeric kinds.Undo file h strong = covers_strongly within ends Undo file h strong
strongly_by within ends numeric kinds.Intentions file h strong = covers_strongly within ends Intentions file h strong
strongly_by within ends numeric kinds.Escrow file h strong = covers_by within ends numeric kinds.Escrow file h

pub strong_yes-covers : StepsWithin → EndsLook → BoundsAreNumeric → StrongYesCovers
strong_yes-covers within ends numeric = λ c h strong. strongly_by within ends numeric c.kind c.file h strong
