-- What is known of the lines of an accepted text.
use Rattle.std.proofs.Common.{◌≡◌, ℕ, zero, suc, ◌+◌, ◌<◌, ◌≤◌, true, not, cond, ◌&&◌, ◌||◌, eqb, ltb, leb, List, [], ◌∷◌, ◌++◌, length, take, drop, Some, Contains, refl, sym, ap, ◌∙◌, inl, inr, arith}
use Rattle.std.specs.List.{slice_get, list_any}
use Rattle.std.proofs.lemmas.Bool.{ltb-true, leb-true, and_parts, or_cases, cases_order}
use Rattle.std.proofs.lemmas.List.{take-append-drop, length-append}
use Rattle.std.proofs.Math.Seq.{drop-cons}
use Rattle.std.proofs.lemmas.List.Elements.{filter_map-append}
use Rattle.std.proofs.lemmas.List.Sums.{sum_by-cons}
use Rattle.std.proofs.lemmas.Option.{slice_get_within, slice_get-get_or, get_or_from_slice_get}
use Rattle.type_table.specs.Op.{is_same_op}
use Rattle.type_table.specs.declared.op.Op.{Op}
use Rattle.type_table.specs.declared.table_kind.TableKind.{TableKind}
use Rattle.type_table.specs.declared.table_kind.TableKind.TheVariants.{Undo, Intentions}
use Rattle.line_text.specs.LineTests.{pair_below, is_single, is_needed}
use Rattle.line_text.specs.Accepted.{AreInOrder, HasKeys, HasPassed}
use Rattle.type_text.specs.declared.type_line.TypeLine.{TypeLine}
use Rattle.type_text.specs.declared.type_line.TypeLine.TheVariants.{TypeName, States, Initial, Operation, Step, Reach, Equi, Conflict, End}
use Rattle.type_text.specs.TypeLines.{type_rules, rank_of, conflict_rank, states_of, op_in, ops_of, op_count, is_twin, sections, op_lines, AreTypeLines}

-- ---- lines by their ranks

other_rank : (kind : TableKind) (n : ℕ) → conflict_rank kind ≡ n → n < 5 → ⊥
other_rank Undo n e h = omega (arith, e)
other_rank Intentions n e h = omega (arith, e)

name_line : (x : TypeLine) → rank_of x ≡ 0 → (name : List ℕ) × (x ≡ TypeName name)
name_line (TypeName name) e = (name, refl)
name_line (States states) e = absurd (omega (arith, e))
name_line (Initial s) e = absurd (omega (arith, e))
name_line (Operation op) e = absurd (omega (arith, e))
name_line (Step s k t) e = absurd (omega (arith, e))
name_line (Reach s) e = absurd (omega (arith, e))
name_line (Equi s t) e = absurd (omega (arith, e))
name_line (Conflict kind p q) e = absurd (other_rank kind 0 e (omega arith))
name_line End e = absurd (omega (arith, e))

states_line : (x : TypeLine) → rank_of x ≡ 1 → (states : ℕ) × (x ≡ States states)
states_line (TypeName name) e = absurd (omega (arith, e))
states_line (States states) e = (states, refl)
states_line (Initial s) e = absurd (omega (arith, e))
states_line (Operation op) e = absurd (omega (arith, e))
states_line (Step s k t) e = absurd (omega (arith, e))
states_line (Reach s) e = absurd (omega (arith, e))
states_line (Equi s t) e = absurd (omega (arith, e))
states_line (Conflict kind p q) e = absurd (other_rank kind 1 e (omega arith))
states_line End e = absurd (omega (arith, e))

initial_line : (x : TypeLine) → rank_of x ≡ 2 → (s : ℕ) × (x ≡ Initial s)
initial_line (TypeName name) e = absurd (omega (arith, e))
initial_line (States states) e = absurd (omega (arith, e))
initial_line (Initial s) e = (s, refl)
initial_line (Operation op) e = absurd (omega (arith, e))
initial_line (Step s k t) e = absurd (omega (arith, e))
initial_line (Reach s) e = absurd (omega (arith, e))
initial_line (Equi s t) e = absurd (omega (arith, e))
initial_line (Conflict kind p q) e = absurd (other_rank kind 2 e (omega arith))
initial_line End e = absurd (omega (arith, e))

op_line : (x : TypeLine) → rank_of x ≡ 3 → (op : Op) × (x ≡ Operation op)
op_line (TypeName name) e = absurd (omega (arith, e))
op_line (States states) e = absurd (omega (arith, e))
op_line (Initial s) e = absurd (omega (arith, e))
op_line (Operation op) e = (op, refl)
op_line (Step s k t) e = absurd (omega (arith, e))
op_line (Reach s) e = absurd (omega (arith, e))
op_line (Equi s t) e = absurd (omega (arith, e))
op_line (Conflict kind p q) e = absurd (other_rank kind 3 e (omega arith))
op_line End e = absurd (omega (arith, e))

-- each `step` line has a key
step_keys : HasKeys type_rules 4
step_keys (TypeName name) e = absurd (omega (arith, e))
step_keys (States states) e = absurd (omega (arith, e))
step_keys (Initial s) e = absurd (omega (arith, e))
step_keys (Operation op) e = absurd (omega (arith, e))
step_keys (Step s k t) e = refl
step_keys (Reach s) e = absurd (omega (arith, e))
step_keys (Equi s t) e = absurd (omega (arith, e))
step_keys (Conflict kind p q) e = absurd (other_rank kind 4 e (omega arith))
step_keys End e = absurd (omega (arith, e))

-- ---- operations

-- an `op` line counts as one
op_count-ops_of : (lines : List TypeLine) → op_count lines ≡ length (ops_of lines)
op_count-ops_of [] = refl
op_count-ops_of (TypeName name ∷ lines) = op_count-ops_of lines
op_count-ops_of (States states ∷ lines) = op_count-ops_of lines
op_count-ops_of (Initial s ∷ lines) = op_count-ops_of lines
op_count-ops_of (Operation op ∷ lines) = let more : 1 + op_count lines ≡ suc (length (ops_of lines)) = omega (arith, op_count-ops_of lines) in sum_by-cons (λ x. cond (eqb (rank_of x) 3) 1 0) (Operation op) lines ∙ more
op_count-ops_of (Step s k t ∷ lines) = op_count-ops_of lines
op_count-ops_of (Reach s ∷ lines) = op_count-ops_of lines
op_count-ops_of (Equi s t ∷ lines) = op_count-ops_of lines
op_count-ops_of (Conflict Undo p q ∷ lines) = op_count-ops_of lines
op_count-ops_of (Conflict Intentions p q ∷ lines) = op_count-ops_of lines
op_count-ops_of (End ∷ lines) = op_count-ops_of lines

-- there are no more before a line than in all
ops_of-take : (lines : List TypeLine) (i : ℕ) → op_count (take i lines) ≤ length (ops_of lines)
ops_of-take lines i =
    let whole : length (ops_of lines) ≡ length (ops_of (take i lines)) + length (ops_of (drop i lines)) =
    ap (λ xs. length (ops_of xs)) (sym (take-append-drop i lines)) ∙ ap length (filter_map-append op_in (take i lines) (drop i lines)) ∙ length-append (ops_of (take i lines)) (ops_of (drop i lines)) in
    omega (arith, whole, op_count-ops_of (take i lines))

-- where there is an `op` line, there is an operation
some_op : (lines : List TypeLine) (op : Op) → Contains lines (Operation op) → 0 < length (ops_of lines)
some_op lines op h =
    let split : ops_of lines ≡ ops_of (take h.0 lines) ++ ops_of (drop h.0 lines) = ap ops_of (sym (take-append-drop h.0 lines)) ∙ filter_map-append op_in (take h.0 lines) (drop h.0 lines) in
    let next : drop h.0 lines ≡ Operation op ∷ drop (suc h.0) lines = drop-cons lines h.0 (Operation op) h.1 ∙ ap (λ x. x ∷ drop (suc h.0) lines) h.2 in
    omega (arith, ap length split, ap (λ xs. length (ops_of xs)) next, length-append (ops_of (take h.0 lines)) (ops_of (drop h.0 lines)))

-- twins among lines are twins among operations
twins-ops_of : (op : Op) (lines : List TypeLine) → list_any (is_twin (Operation op)) lines ≡ list_any (is_same_op op) (ops_of lines)
twins-ops_of op [] = refl
twins-ops_of op (TypeName name ∷ lines) = twins-ops_of op lines
twins-ops_of op (States states ∷ lines) = twins-ops_of op lines
twins-ops_of op (Initial s ∷ lines) = twins-ops_of op lines
twins-ops_of op (Operation other ∷ lines) = ap (λ b. is_same_op op other || b) (twins-ops_of op lines)
twins-ops_of op (Step s k t ∷ lines) = twins-ops_of op lines
twins-ops_of op (Reach s ∷ lines) = twins-ops_of op lines
twins-ops_of op (Equi s t ∷ lines) = twins-ops_of op lines
twins-ops_of op (Conflict kind p q ∷ lines) = twins-ops_of op lines
twins-ops_of op (End ∷ lines) = twins-ops_of op lines

-- ---- states

-- what a line knows of the states is at most what the text says
states_of-take : (lines : List TypeLine) (i : ℕ) → states_of (take i lines) ≤ states_of lines
states_of-take [] zero = omega arith
states_of-take [] (suc i) = omega arith
states_of-take (x ∷ []) zero = omega arith
states_of-take (x ∷ []) (suc zero) = omega arith
states_of-take (x ∷ []) (suc (suc i)) = omega arith
states_of-take (x ∷ y ∷ lines) zero = omega arith
states_of-take (x ∷ y ∷ lines) (suc zero) = omega arith
states_of-take (x ∷ y ∷ lines) (suc (suc i)) = omega arith

-- ---- all together

-- the first three sections are one line each
front_singles : (k : ℕ) → k ≤ 2 → (is_single (slice_get sections k) ≡ true) × (is_needed (slice_get sections k) ≡ true)
front_singles zero h = (refl, refl)
front_singles (suc zero) h = (refl, refl)
front_singles (suc (suc zero)) h = (refl, refl)
front_singles (suc (suc (suc k))) h = absurd (omega (arith, h))

-- the line at the place of its section
at_front : (lines : List TypeLine) → AreInOrder type_rules lines → (rank : ℕ) → rank ≤ 2 → (x : TypeLine) × (slice_get lines rank ≡ Some x) × (rank_of x ≡ rank)
at_front lines order rank h = order.singles_in_front rank (omega (arith, h)) (λ k k_in. front_singles k (omega (arith, h, k_in)))

-- a line that the text contains passed its tests after some of the others
passed_in : (lines : List TypeLine) → AreInOrder type_rules lines → (x : TypeLine) → Contains lines x → (i : ℕ) × (slice_get lines i ≡ Some x) × HasPassed type_rules (take i lines) x
passed_in lines order x h =
    let at : slice_get lines h.0 ≡ Some x = slice_get-get_or lines h.0 x h.1 ∙ ap Some h.2 in
    (h.0, at, order.passed h.0 x at)

-- the numbers of a `step` line are in range
step_inside : (lines : List TypeLine) → AreInOrder type_rules lines → (s k t : ℕ) → Contains lines (Step s k t) → (s < states_of lines) × (k < length (ops_of lines)) × (t < states_of lines)
step_inside lines order s k t h =
    let found = passed_in lines order (Step s k t) h in
    let states = states_of (take found.0 lines) in
    let ops = op_count (take found.0 lines) in
    let tests : ((ltb s states && ltb k ops) ≡ true) × (ltb t states ≡ true) = and_parts _ _ found.2.in_range in
    let front : (ltb s states ≡ true) × (ltb k ops ≡ true) = and_parts _ _ tests.0 in (
      omega (arith, ltb-true s states front.0, states_of-take lines found.0),
      omega (arith, ltb-true k ops front.1, ops_of-take lines found.0),
      omega (arith, ltb-true t states tests.1, states_of-take lines found.0),
    )

-- so are those of a `conflict` line
conflict_inside : (lines : List TypeLine) → AreInOrder type_rules lines → (kind : TableKind) (p q : ℕ) → Contains lines (Conflict kind p q) → (p < length (ops_of lines)) × (q < length (ops_of lines))
conflict_inside lines order kind p q h =
    let found = passed_in lines order (Conflict kind p q) h in
    let ops = op_count (take found.0 lines) in
    let tests : (ltb p ops ≡ true) × (ltb q ops ≡ true) = and_parts _ _ found.2.in_range in (
      omega (arith, ltb-true p ops tests.0, ops_of-take lines found.0),
      omega (arith, ltb-true q ops tests.1, ops_of-take lines found.0),
    )

-- so is the state of a `reach` line
reach_inside : (lines : List TypeLine) → AreInOrder type_rules lines → (s : ℕ) → Contains lines (Reach s) → s < states_of lines
reach_inside lines order s h =
    let found = passed_in lines order (Reach s) h in
    let below : s < states_of (take found.0 lines) = ltb-true s (states_of (take found.0 lines)) found.2.in_range in
    omega (arith, below, states_of-take lines found.0)

-- so are those of an `equi` line
equi_inside : (lines : List TypeLine) → AreInOrder type_rules lines → (s t : ℕ) → Contains lines (Equi s t) → (s < states_of lines) × (t < states_of lines)
equi_inside lines order s t h =
    let found = passed_in lines order (Equi s t) h in
    let tests : ((ltb s (states_of (take found.0 lines)) && ltb t (states_of (take found.0 lines))) ≡ true) × (not (eqb s t) ≡ true) = and_parts _ _ found.2.in_range in
    let both : (ltb s (states_of (take found.0 lines)) ≡ true) × (ltb t (states_of (take found.0 lines)) ≡ true) = and_parts _ _ tests.0 in
    let first : s < states_of (take found.0 lines) = ltb-true s (states_of (take found.0 lines)) both.0 in
    let second : t < states_of (take found.0 lines) = ltb-true t (states_of (take found.0 lines)) both.1 in
    (omega (arith, first, states_of-take lines found.0), omega (arith, second, states_of-take lines found.0))

-- no pair is below itself
never_below : (a b : ℕ) → pair_below (a, b) (a, b) ≡ true → ⊥
never_below a b h = elim (or_cases _ _ h) [
  | inl less ↦ let below : a < a = ltb-true a a less in omega arith
  | inr rest ↦ let tests = and_parts (eqb a a) (ltb b b) rest in let below : b < b = ltb-true b b tests.1 in omega arith
]

-- two `step` lines of one state and operation are one line
step_once : (lines : List TypeLine) → AreInOrder type_rules lines → (s k t u : ℕ) → Contains lines (Step s k t) → Contains lines (Step s k u) → t ≡ u
step_once lines order s k t u h g =
    let first = passed_in lines order (Step s k t) h in
    let second = passed_in lines order (Step s k u) g in
    elim (cases_order first.0 second.0) [
      | inl same ↦ let both : Some (Step s k t) ≡ Some (Step s k u) = sym first.1 ∙ ap (slice_get lines) same ∙ second.1 in cc
      | inr apart ↦ elim (apart) [
        | inl before ↦ absurd (never_below s k (order.rising_keys 4 first.0 second.0 (Step s k t) (Step s k u) (s, k) (s, k) step_keys before (record { first = first.1; second = second.1 }) refl refl refl refl))
        | inr behind ↦ absurd (never_below s k (order.rising_keys 4 second.0 first.0 (Step s k u) (Step s k t) (s, k) (s, k) step_keys behind (record { first = second.1; second = first.1 }) refl refl refl refl))
      ]
    ]

pub are_type_lines : (lines : List TypeLine) → AreInOrder type_rules lines → AreTypeLines lines
are_type_lines lines order =
    let first = at_front lines order 0 (omega arith) in
    let name = name_line first.0 first.2 in
    let second = at_front lines order 1 (omega arith) in
    let states = states_line second.0 second.2 in
    let states_at : slice_get lines 1 ≡ Some (States states.0) = second.1 ∙ ap Some states.1 in
    let states_tests : (leb 1 states.0 ≡ true) × (leb states.0 1024 ≡ true) = and_parts _ _ ((order.passed 1 (States states.0) states_at).in_range) in
    let third = at_front lines order 2 (omega arith) in
    let initial = initial_line third.0 third.2 in
    let initial_at : slice_get lines 2 ≡ Some (Initial initial.0) = third.1 ∙ ap Some initial.1 in
    let initial_in = ltb-true initial.0 (states_of (take 2 lines)) ((order.passed 2 (Initial initial.0) initial_at).in_range) in
    let in_list = order.needed.each 3 (omega arith) refl in
    let op = op_line in_list.item in_list.ranked in
    let op_at : slice_get lines in_list.place ≡ Some (Operation op.0) = in_list.at ∙ ap Some op.1 in
    record {
      name = (name.0, first.1 ∙ ap Some name.1);
      states = (states.0, states_at, leb-true 1 states.0 states_tests.0, leb-true states.0 1024 states_tests.1);
      initial = (initial.0, initial_at, omega (arith, initial_in, states_of-take lines 2));
      some_op = some_op lines op.0 (in_list.place, slice_get_within lines in_list.place (Operation op.0) op_at, get_or_from_slice_get lines in_list.place (Operation op.0) (Operation op.0) op_at);
      ops_fit = omega (arith, op_count-ops_of lines, order.limits 3 64 op_lines refl refl);
      ops_differ = λ i o at. sym (twins-ops_of o (take i lines)) ∙ (order.passed i (Operation o) at).no_twin;
      steps_inside = step_inside lines order;
      steps_once = step_once lines order;
      reach_inside = reach_inside lines order;
      equi_inside = equi_inside lines order;
      conflicts_inside = conflict_inside lines order;
    }
