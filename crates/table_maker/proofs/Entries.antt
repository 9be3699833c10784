-- The table of a family.
use Rattle.std.proofs.Common.{◌≡◌, ℕ, zero, suc, ◌+◌, ◌*◌, ◌/◌, ◌%◌, ◌<◌, ◌≤◌, true, false, [], ◌∷◌, ◌++◌, length, replicate, get_or, Option, Some, None, refl, sym, ap, ◌∙◌, arith}
use Rattle.std.specs.List.{list_all, list_any}
use Rattle.std.proofs.lemmas.Bool.{lt-ltb, le-leb, eq-eqb}
use Rattle.std.proofs.lemmas.List.{get_or_default}
use Rattle.std.proofs.lemmas.List.FromFn.{length-map-range_with_len, map-range_with_len_more, get_or-map-range_with_len}
use Rattle.std.proofs.lemmas.List.Sums.{list_all-from_AllPass}
use Rattle.std.proofs.lemmas.Nat.{div-mul-add, mod-mul-add, mul-add-lt}
use Rattle.std.proofs.Math.Nat.{mod-lt, div-lt_iff_lt-mul}
use Rattle.type_table.specs.Op.{has_twin}
use Rattle.type_table.specs.Counts.{is_inside}
use Rattle.type_table.specs.Table.{Table, next, table_fault}
use Rattle.type_table.proofs.Legal.{next-entry}
use Rattle.table_maker.specs.Made.{Family, HasTable, table_entries, IsTableOfFamily}

-- the parts of a table, as they are read off a family
pub record AreParts (f : Family) (T : Table) : Type 0 where
  pub name : T.name ≡ f.name
  pub states : T.states ≡ f.states
  pub initial : T.initial ≡ 0
  pub ops : T.ops ≡ f.ops
  pub steps : T.steps ≡ table_entries f (f.states * length f.ops)

-- an entry is a step from a state of an operation
pub entry-at : (f : Family) (count place : ℕ) → place < count → get_or (table_entries f count) place None ≡ f.step (place / length f.ops) (place % length f.ops)
entry-at f count place below = get_or-map-range_with_len (λ place. f.step (place / length f.ops) (place % length f.ops)) 0 count place place None below (omega arith)

-- how many entries there are
length-entries : (f : Family) (count : ℕ) → length (table_entries f count) ≡ count
length-entries f count = length-map-range_with_len (λ place. f.step (place / length f.ops) (place % length f.ops)) 0 count

-- one more entry
pub entries_more : (f : Family) (count : ℕ) → table_entries f (count + 1) ≡ table_entries f count ++ f.step (count / length f.ops) (count % length f.ops) ∷ []
entries_more f count = map-range_with_len_more (λ place. f.step (place / length f.ops) (place % length f.ops)) 0 count count (omega arith)

-- each entry leads to a state, where it leads anywhere
entries_inside : (f : Family) → HasTable f → list_all (is_inside f.states) (table_entries f (f.states * length f.ops)) ≡ true
entries_inside f h =
    list_all-from_AllPass (is_inside f.states) (table_entries f (f.states * length f.ops)) (λ i d below. rw (get_or_default (table_entries f (f.states * length f.ops)) i d None below) (passes i (omega (arith, below, length-entries f (f.states * length f.ops))) (get_or (table_entries f (f.states * length f.ops)) i None) refl))
  where
    passes : (i : ℕ) → i < f.states * length f.ops → (entry : Option ℕ) → get_or (table_entries f (f.states * length f.ops)) i None ≡ entry → is_inside f.states entry ≡ true
    passes i below None e = refl
    passes i below (Some t) e =
        lt-ltb t f.states (h.steps_inside (i / length f.ops) (i % length f.ops) t ((div-lt_iff_lt-mul h.some_ops).1 below) (mod-lt i h.some_ops) (sym (entry-at f (f.states * length f.ops) i below) ∙ e))

-- the parts of a table that a family needs are a table
pub parts-fault : (f : Family) (T : Table) → HasTable f → AreParts f T → table_fault T ≡ None
unfolding table_fault
parts-fault f T h parts =
    let some_states : 1 ≤ T.states = omega (arith, h.some_states, parts.states) in
    let states_fit : T.states ≤ 1024 = omega (arith, h.states_fit, parts.states) in
    let some_ops : 1 ≤ length T.ops = omega (arith, h.some_ops, ap length parts.ops) in
    let ops_fit : length T.ops ≤ 64 = omega (arith, h.ops_fit, ap length parts.ops) in
    let whole : length T.steps ≡ T.states * length T.ops = rw (parts.steps, parts.states, parts.ops) (length-entries f (f.states * length f.ops)) in
    let initial : T.initial < T.states = omega (arith, h.some_states, parts.states, parts.initial) in
    let inside : list_all (is_inside T.states) T.steps ≡ true = rw (parts.steps, parts.states) (entries_inside f h) in
    let no_twin : has_twin T.ops ≡ false = rw parts.ops h.no_twin in
    rw (le-leb 1 T.states some_states, le-leb T.states 1024 states_fit, le-leb 1 (length T.ops) some_ops, le-leb (length T.ops) 64 ops_fit, eq-eqb (length T.steps) (T.states * length T.ops) whole, lt-ltb T.initial T.states initial, inside, no_twin) refl

-- the steps of a table of these parts are the family's
next-family : (f : Family) (T : Table) (s k : ℕ) → AreParts f T → s < f.states → k < length f.ops → next T s k ≡ f.step s k
next-family f T s k parts s_below k_below =
    let some : 0 < length f.ops = omega arith in
    let place : s * length f.ops + k < f.states * length f.ops = omega (arith, mul-add-lt s (length f.ops) k f.states s_below k_below) in
    let row : (s * length f.ops + k) / length f.ops ≡ s = div-mul-add s (length f.ops) k k_below in
    let column : (s * length f.ops + k) % length f.ops ≡ k = mod-mul-add s (length f.ops) k k_below in
    let below : k < length T.ops = omega (arith, k_below, ap length parts.ops) in
    next-entry T s k below ∙ rw (parts.steps, parts.ops) (entry-at f (f.states * length f.ops) (s * length f.ops + k) place ∙ rw (row, column) refl)

-- and they are the family's table
pub parts-table : (f : Family) (T : Table) → AreParts f T → IsTableOfFamily f T
parts-table f T parts = record {
  name = parts.name;
  states = parts.states;
  initial = parts.initial;
  ops = parts.ops;
  steps = λ s k s_below k_below. next-family f T s k parts s_below k_below;
}

-- the set of all states isn't empty
pub some_state : (states : ℕ) → 0 < states → list_any (λ member. member) (replicate states true) ≡ true
some_state zero h = absurd (omega arith)
some_state (suc n) h = refl
