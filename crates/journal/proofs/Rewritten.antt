-- A table is written anew, row by row.
use Rattle.std.proofs.Common.{◌≡◌, ◌≢◌, refl, sym, ap, subst, ℕ, ◌+◌, ◌<◌, ◌≤◌, List, [], ◌∷◌, ◌++◌, length, map, set, take, add-one, Some, slice_get, ◌∙◌, IsTrue, lit<, arith}
use Rattle.std.proofs.lemmas.Bool.{ne_eqb}
use Rattle.std.proofs.lemmas.List.{length-set, take_all}
use Rattle.std.proofs.Math.Seq.{take-suc-set}
use Rattle.type_table.proofs.Elements.{take-found}
use Rattle.sqlite_trees.specs.Objects.{catalog_tree}
use Rattle.sqlite_trees.specs.Tree.{put_row}
use Rattle.sqlite_trees.specs.View.{View, SetsTree}
use Rattle.journal.specs.declared.header.Header.{Header}
use Rattle.journal.specs.declared.state_row.FirstState.{FirstState}
use Rattle.journal.specs.Rows.{value_rows}
use Rattle.journal.specs.StateRow.{state_row, state_told, state_read_back}
use Rattle.journal.specs.Tables.{Rewrites}
use Rattle.journal.specs.EmptyTable.{EmptiesEpoch}
use Rattle.journal.specs.Contents.{IsFile, at_states, contents_of}
use Rattle.journal.specs.declared.numbers.Numbers.{Numbers}
use Rattle.journal.proofs.Outcomes.{same-numbers}
use Rattle.journal.specs.OutcomeIndex.{CountsOutcomes}
use Rattle.journal.specs.declared.outcome_index.OutcomeIndex.{OutcomeIndex}
use Rattle.journal.specs.Journal.{IsKeptFile, IsNamedOnce}
use Rattle.journal.proofs.RowLemmas.{put-set, rows-told}

-- the first x states are new
pub record AreFirstNew (old now : View) (states : List FirstState) (x : ℕ) : Type 0 where
  pub are : List FirstState
  pub rewrites : Rewrites old now 4 (value_rows state_row 0 are)
  pub as_many : length are ≡ length states
  pub first : take x are ≡ take x states

pub none-new : (v : View) (was states : List FirstState) → v.trees 4 ≡ value_rows state_row 0 was → length was ≡ length states → AreFirstNew v v states 0
none-new v was states is many = record {
  are = was;
  rewrites = record { rows_are = is; others = λ t differs. refl; shape = refl; committed = refl; is_open = refl; is_broken = refl; numbered = refl };
  as_many = many;
  first = refl;
}

-- one more
pub one-new : (old now more : View) (states : List FirstState) (x : ℕ) (s : FirstState) → AreFirstNew old now states x → slice_get states x ≡ Some s → x < length states
    → SetsTree now more 4 (put_row (state_row x s)) → AreFirstNew old more states (x + 1)
one-new old now more states x s before there low sets =
    let its = before.rewrites in
    record {
      are = set before.are x s;
      rewrites = record {
        rows_are = ap (λ (v : View). v.trees 4) sets.is ∙ ap (put_row (state_row x s)) its.rows_are ∙ put-set state_row (λ n e. refl) 0 x x before.are s (omega arith) (omega (arith, before.as_many, low));
        others = λ t differs. ap (λ (v : View). v.trees t) sets.is ∙ rw (ne_eqb t 4 differs) (its.others t differs);
        shape = ap (λ (v : View). v.shape) sets.is ∙ its.shape;
        committed = ap (λ (v : View). v.committed) sets.is ∙ its.committed;
        is_open = ap (λ (v : View). v.is_open) sets.is ∙ its.is_open;
        is_broken = ap (λ (v : View). v.is_broken) sets.is ∙ its.is_broken;
        numbered = ap (λ (v : View). v.is_numbered) sets.is ∙ its.numbered;
      };
      as_many = length-set before.are x s ∙ before.as_many;
      first = ap (λ n. take n (set before.are x s)) (add-one x) ∙ take-suc-set before.are x s (omega (arith, before.as_many, low)) ∙ ap (λ front. front ++ s ∷ []) before.first ∙ sym (take-found states x s there);
    }

-- all of them
pub all-new : (old now : View) (states : List FirstState) (x : ℕ) → AreFirstNew old now states x → length states ≤ x → Rewrites old now 4 (value_rows state_row 0 states)
all-new old now states x first past =
    let same : first.are ≡ states = sym (take_all x first.are (omega (arith, first.as_many, past))) ∙ first.first ∙ take_all x states past in
    subst (λ es. Rewrites old now 4 (value_rows state_row 0 es)) same first.rewrites

-- ---- a history begins anew at these states

module _ (old middle new : View) (starts : List ℕ) (n many : ℕ) (header : Header) (states : List FirstState) (kept : IsKeptFile old starts n many header) (gone : EmptiesEpoch old middle) (again : Rewrites middle new 4 (value_rows state_row 0 states)) where
  before : IsFile old.trees
  before = kept.file gone.sound

  -- the other tables are as they were
  stays : (t : ℕ) → t ≢ 0 → t ≢ 4 → t ≢ 5 → t < 7 → new.trees t ≡ old.trees t
  stays t not0 not4 not5 low = again.others t not4 ∙ gone.others t not0 not5 low

  events : new.trees 0 ≡ []
  events = again.others 0 (λ is. omega (arith, is)) ∙ gone.events

  prepared : new.trees 5 ≡ []
  prepared = again.others 5 (λ is. omega (arith, is)) ∙ gone.prepared

  headers : new.trees 1 ≡ old.trees 1
  headers = stays 1 (λ is. omega (arith, is)) (λ is. omega (arith, is)) (λ is. omega (arith, is)) (lit< tt)

  types : new.trees 2 ≡ old.trees 2
  types = stays 2 (λ is. omega (arith, is)) (λ is. omega (arith, is)) (λ is. omega (arith, is)) (lit< tt)

  objects : new.trees 3 ≡ old.trees 3
  objects = stays 3 (λ is. omega (arith, is)) (λ is. omega (arith, is)) (λ is. omega (arith, is)) (lit< tt)

  states-told : map state_told (new.trees 4) ≡ states
  states-told = ap (map state_told) again.rows_are ∙ rows-told state_row state_told state_read_back 0 states

  pub outcome-rows-same : new.trees 6 ≡ old.trees 6
  outcome-rows-same = stays 6 (λ is. omega (arith, is)) (λ is. omega (arith, is)) (λ is. omega (arith, is)) (lit< tt)

  pub resets-numbers : (m : Numbers) (index : OutcomeIndex) → CountsOutcomes old m index → CountsOutcomes new m index
  resets-numbers m index has = same-numbers old new m index outcome-rows-same gone.sound has

  pub at-states : contents_of new.trees ≡ at_states (contents_of old.trees) states
  at-states = rw (events, headers, types, objects, states-told, prepared, outcome-rows-same) refl

  pub resets : IsKeptFile new [] 0 0 header
  resets = record {
    tables = record { each = λ t low. ap (λ s. s t) again.shape ∙ gone.tables.each t low };
    file = λ _. record {
      events = rw events refl;
      headers = rw headers before.headers;
      types = rw types before.types;
      objects = rw objects before.objects;
      states = again.rows_are ∙ ap (value_rows state_row 0) (sym states-told);
      prepared = rw prepared refl;
      unprepared = λ _. prepared;
      outcomes = rw (headers, outcome-rows-same) before.outcomes;
    };
    count_is = λ _. rw events refl;
    starts_are = λ _. rw events refl;
    short = λ _. rw events tt;
    header_is = λ _. rw headers (kept.header_is gone.sound);
    prepared_are = λ _. rw prepared refl;
    kept = λ is_open. subst IsFile (sym (again.committed ∙ gone.committed)) (kept.kept (subst IsTrue (again.is_open ∙ gone.is_open) is_open));
    numbered = subst IsTrue (sym again.numbered) gone.numbered;
    named = λ _. subst IsNamedOnce (sym (again.others catalog_tree (λ is. omega (arith, is)))) gone.named;
  }
