-- Walks along a transaction's open entries.
use Rattle.std.proofs.Common.{◌≡◌, ℕ, ◌<◌, true, false, List, [], ◌∷◌, map, Option, Some, None, refl, sym, ap, subst, ◌∙◌, inl, inr}
use Rattle.std.specs.Option.{unwrap_or}
use Rattle.std.proofs.lemmas.Bool.{cases_Bool}
use Rattle.std.proofs.lemmas.List.{map-id}
use Rattle.type_table.specs.Table.{Table, IsTable, next}
use Rattle.type_table.specs.Laws.{StepsWithin}
use Rattle.type_table.specs.Run.{run, IsLegal}
use Rattle.type_table.proofs.Legal.{nothing_legal}
use Rattle.object_trait.specs.Meaning.{log_ops, is_open_of, open_of}
use Rattle.object_trait.specs.declared.log_entry.LogEntry.{LogEntry}
use Rattle.intentions_manager.specs.Walk.{stepped, walked, view_moved, step_view, carried}
use Rattle.intentions_manager.specs.declared.views.View.{View}

-- ---- legal walks

-- where a list is legal there is a state
pub some_state : (T : Table) (o : Option ℕ) (w : List ℕ) (s : ℕ) → IsLegal T o w → o ≡ Some (unwrap_or o s)
some_state T None w s h = absurd (nothing_legal T w h)
some_state T (Some x) w s h = refl

-- a walk ends where the run does
pub walk-run : (T : Table) (t s : ℕ) (log : List LogEntry) → IsLegal T (Some s) (log_ops (open_of t log)) → run T (Some s) (log_ops (open_of t log)) ≡ Some (walked T t s log)
walk-run T t s [] h = refl
walk-run T t s (e ∷ log) h =
    elim (cases_Bool (is_open_of t e)) [
      | inl is ↦
          let legal : IsLegal T (next T s e.op) (log_ops (open_of t log)) = rw is at h in
          let there : next T s e.op ≡ Some (stepped T s e.op) = some_state T (next T s e.op) (log_ops (open_of t log)) s legal in
          rw is (ap (λ o. run T o (log_ops (open_of t log))) there ∙ walk-run T t (stepped T s e.op) log (subst (λ o. IsLegal T o (log_ops (open_of t log))) there legal))
      | inr isnt ↦ rw isnt (walk-run T t s log (rw isnt at h))
    ]

-- a step of a state leads to a state
pub stepped-within : StepsWithin → (T : Table) (s k : ℕ) → IsTable T → s < T.states → stepped T s k < T.states
stepped-within within T s k table state = reached (next T s k) refl
  where
    reached : (o : Option ℕ) → next T s k ≡ o → unwrap_or o s < T.states
    reached None is = state
    reached (Some u) is = (within T s k u table is).2

-- ---- views that are carried on

-- a view after a whole walk
abbrev pub walk_view : Table → ℕ → List LogEntry → View → View
walk_view T t log v = record v { state = walked T t v.state log }

-- one function after another
map_twice : (f g : View → View) (views : List View) → map f (map g views) ≡ map (λ v. f (g v)) views
map_twice f g [] = refl
map_twice f g (v ∷ views) = ap (λ rest. f (g v) ∷ rest) (map_twice f g views)

-- each view walks by itself
pub carried-map : (T : Table) (t : ℕ) (log : List LogEntry) (views : List View) → carried T t log views ≡ map (walk_view T t log) views
carried-map T t [] views = sym (map-id views)
carried-map T t (e ∷ log) views = carried-map T t log (map (step_view T t e) views) ∙ map_twice (walk_view T t log) (step_view T t e) views

-- an entry of another moves nothing
pub unmoved : (T : Table) (t : ℕ) (e : LogEntry) → is_open_of t e ≡ false → (views : List View) → views ≡ map (step_view T t e) views
unmoved T t e isnt [] = refl
unmoved T t e isnt (v ∷ views) =
    let same : step_view T t e v ≡ v = rw isnt refl in
    ap (λ x. x ∷ views) (sym same) ∙ ap (λ rest. step_view T t e v ∷ rest) (unmoved T t e isnt views)

-- one of t's own moves each
pub moved-own : (T : Table) (t : ℕ) (e : LogEntry) → is_open_of t e ≡ true → (views : List View) → map (view_moved T e.op) views ≡ map (step_view T t e) views
moved-own T t e is [] = refl
moved-own T t e is (v ∷ views) =
    let same : step_view T t e v ≡ view_moved T e.op v = rw is refl in
    ap (λ x. x ∷ map (view_moved T e.op) views) (sym same) ∙ ap (λ rest. step_view T t e v ∷ rest) (moved-own T t e is views)
