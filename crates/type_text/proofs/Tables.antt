-- The table that lines describe.
use Rattle.std.proofs.Common.{◌≡◌, ℕ, ◌+◌, ◌*◌, ◌/◌, ◌%◌, ◌<◌, ◌≤◌, ◌↔◌, Bool, true, false, cond, List, length, get_or, Option, Some, None, Contains, refl, sym, ap, ◌∙◌, arith}
use Rattle.std.specs.List.{slice_get, list_all}
use Rattle.std.proofs.lemmas.Bool.{lt-ltb, le-leb, ltb-true, eq-eqb}
use Rattle.std.proofs.lemmas.List.{get_or_default}
use Rattle.std.proofs.lemmas.List.Sums.{list_all-from_AllPass}
use Rattle.std.proofs.Math.Nat.{div-add-mod, mod-lt}
use Rattle.type_table.specs.Op.{has_twin}
use Rattle.type_table.specs.Counts.{is_inside}
use Rattle.type_table.specs.Table.{Table, next, table_fault}
use Rattle.type_table.proofs.Legal.{next-entry}
use Rattle.type_text.specs.TypeLines.{ops_of, states_in, states_of, AreTypeLines}
use Rattle.type_text.specs.TypeFile.{IsTableOf}
use Rattle.type_text.specs.declared.type_line.TypeLine.{TypeLine}
use Rattle.type_text.specs.declared.type_line.TypeLine.TheVariants.{TypeName, States, Initial, Step}
use Rattle.type_text.proofs.Steps.{AreStepsOf}

-- a step is of an operation
pub next-below : (T : Table) (s k t : ℕ) → next T s k ≡ Some t → k < length T.ops
unfolding next
next-below T s k t h = ltb-true k (length T.ops) (chosen _ _ t h)
  where
    chosen : (b : Bool) (x : Option ℕ) (t : ℕ) → cond b x None ≡ Some t → b ≡ true
    chosen true x t h = refl
    chosen false x t h = cc

-- the steps of a table whose entries are those of the lines
pub next-lines : (T : Table) (lines : List TypeLine) → AreStepsOf (length T.ops) lines T.steps → ((s k t : ℕ) → Contains lines (Step s k t) → k < length T.ops) →
    (s k t : ℕ) → (next T s k ≡ Some t) ↔ Contains lines (Step s k t)
next-lines T lines entries inside s k t = (
  λ h. let below = next-below T s k t h in (entries s k t below).0 (sym (next-entry T s k below) ∙ h),
  λ h. let below = inside s k t h in next-entry T s k below ∙ (entries s k t below).1 h,
)

-- each entry leads to a state, where it leads anywhere
pub entries_inside : (ops states : ℕ) (lines : List TypeLine) (steps : List (Option ℕ)) → 0 < ops → AreStepsOf ops lines steps → ((s k t : ℕ) → Contains lines (Step s k t) → t < states) →
    list_all (is_inside states) steps ≡ true
entries_inside ops states lines steps some entries inside =
    list_all-from_AllPass (is_inside states) steps (λ i d below. rw (get_or_default steps i d None below) (passes i (get_or steps i None) refl))
  where
    passes : (i : ℕ) (entry : Option ℕ) → get_or steps i None ≡ entry → is_inside states entry ≡ true
    passes i None e = refl
    passes i (Some t) e =
        let place : i / ops * ops + i % ops ≡ i = omega (arith, div-add-mod i ops) in
        lt-ltb t states (inside (i / ops) (i % ops) t ((entries (i / ops) (i % ops) t (mod-lt i some)).0 (rw place e)))

-- parts that pass each test are a table
pub no_fault : (T : Table) → 1 ≤ T.states → T.states ≤ 1024 → 1 ≤ length T.ops → length T.ops ≤ 64 → length T.steps ≡ T.states * length T.ops → T.initial < T.states →
    list_all (is_inside T.states) T.steps ≡ true → has_twin T.ops ≡ false → table_fault T ≡ None
unfolding table_fault
no_fault T a b c d e f g h =
    rw (le-leb 1 T.states a, le-leb T.states 1024 b, le-leb 1 (length T.ops) c, le-leb (length T.ops) 64 d, eq-eqb (length T.steps) (T.states * length T.ops) e, lt-ltb T.initial T.states f, g, h) refl

-- the parts of a table, as the functions that read them off the lines say
pub record AreParts (lines : List TypeLine) (T : Table) : Type 0 where
  pub name : slice_get lines 0 ≡ Some (TypeName T.name)
  pub states : slice_get lines 1 ≡ Some (States T.states)
  pub initial : slice_get lines 2 ≡ Some (Initial T.initial)
  pub some : 0 < T.states
  pub fit : T.states ≤ 1024
  pub inside : T.initial < states_of lines
  pub ops : T.ops ≡ ops_of lines
  pub no_twin : has_twin T.ops ≡ false
  pub whole : length T.steps ≡ T.states * length T.ops
  pub entries : AreStepsOf (length T.ops) lines T.steps

states_are : (lines : List TypeLine) (states : ℕ) → slice_get lines 1 ≡ Some (States states) → states_of lines ≡ states
states_are lines states e = ap states_in e

pub parts-fault : (lines : List TypeLine) (T : Table) → AreTypeLines lines → AreParts lines T → table_fault T ≡ None
parts-fault lines T known parts =
    let states = states_are lines T.states parts.states in
    let count = ap length parts.ops in
    no_fault T parts.some parts.fit (omega (arith, known.some_op, count)) (omega (arith, known.ops_fit, count)) parts.whole (omega (arith, parts.inside, states))
    (entries_inside (length T.ops) T.states lines T.steps (omega (arith, known.some_op, count)) parts.entries (λ s k t h. omega (arith, (known.steps_inside s k t h).2, states)))
    parts.no_twin

pub parts-table : (lines : List TypeLine) (T : Table) → AreTypeLines lines → AreParts lines T → IsTableOf lines T
parts-table lines T known parts = record {
  name = parts.name;
  states = parts.states;
  initial = parts.initial;
  ops = parts.ops;
  steps = next-lines T lines parts.entries (λ s k t h. omega (arith, (known.steps_inside s k t h).1, ap length parts.ops));
}
