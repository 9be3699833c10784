-- Update in place: what its calls keep.
use Rattle.std.proofs.Common.{◌≡◌, ℕ, Bool, true, false, not, eqb, List, [], ◌∷◌, ◌++◌, map, drop, Some, refl, ap, inl, inr}
use Rattle.std.specs.List.{filter, AllByRecursion}
use Rattle.std.proofs.lemmas.Bool.{both_ways, not-true, eqb-true, cases_Bool, and_parts, and_from, or_parts, or_from, not_from_false}
use Rattle.type_table.specs.Run.{IsLegal}
use Rattle.type_table.specs.Commute.{CommutesBackward, Covers}
use Rattle.type_table.specs.Laws.{RunsAlong, EndsInside}
use Rattle.type_table.specs.declared.table_kind.TableKind.TheVariants.{Undo}
use Rattle.type_table.proofs.Elements.{each-weaker, differ_turned}
use Rattle.type_table.proofs.Legal.{legal-front, legal-behind}
use Rattle.object_trait.specs.Object.{Object}
use Rattle.object_trait.specs.Strike.{keep_first}
use Rattle.object_trait.specs.Meaning.{log_ops, is_open_of, run_log}
use Rattle.object_trait.specs.Sound.{IsLocked, IsInOrder, IsSoundUndo}
use Rattle.object_trait.specs.Steps.{IsOfAnotherOpen, IsSettled, marked}
use Rattle.object_trait.specs.Laws.{PartsSort, StruckPart, SortsLook}
use Rattle.object_trait.specs.declared.log_entry.LogEntry.{LogEntry}
use Rattle.object_trait.proofs.Lists.{pairs-both, pairs-push, pairs-behind, pairs-map}
use Rattle.object_trait.proofs.Runs.{ops-append, push-legal}
use Rattle.object_trait.proofs.Striking.{pairs-keep_first}

-- ---- a further operation

-- what the caller saw free of conflicts is locked by the new entry
pub locked-applied : (o : Object) (t k : ℕ) (log : List LogEntry) → AllByRecursion (λ e. IsOfAnotherOpen t e → o.conflicts k e.op ≡ false) log →
    AllByRecursion (λ a. IsLocked o a (record { by = t; op = k; done = false })) log
locked-applied o t k log free = each-weaker (λ a apart held other. apart (held, differ_turned a.by t other)) log free

-- update in place stays sound by a further operation
pub undo-applied : RunsAlong → (o : Object) (base : ℕ) (log : List LogEntry) (t k : ℕ) → IsSoundUndo o base log → IsLegal o.table (run_log o base log) (k ∷ []) →
    AllByRecursion (λ e. IsOfAnotherOpen t e → o.conflicts k e.op ≡ false) log → IsSoundUndo o base (log ++ (record { by = t; op = k; done = false }) ∷ [])
undo-applied along o base log t k sound legal free =
    let entry : LogEntry = record { by = t; op = k; done = false } in
    record {
      inside = sound.inside;
      legal = rw (ops-append log (entry ∷ [])) (push-legal along o.table (Some base) (log_ops log) (k ∷ []) legal);
      in_order = pairs-push IsInOrder log entry sound.in_order (each-weaker (λ a _ _ _. refl) log free);
      locked = pairs-push (IsLocked o) log entry sound.locked (locked-applied o t k log free);
    }

-- ---- settling

-- update in place stays sound by a leading stretch of done entries that moves into base
settled : RunsAlong → EndsInside → (o : Object) → Covers Undo o.table o.set o.conflicts → (base : ℕ) (log : List LogEntry) (new_base : ℕ) (new_log : List LogEntry) →
    IsSoundUndo o base log → IsSettled o base log new_base new_log → IsSoundUndo o new_base new_log
settled along ends o covers base log new_base new_log sound s = record {
  inside = ends o.table o.set base new_base (log_ops s.moved) covers.closed sound.inside s.reached;
  legal = legal-behind along o.table (Some base) (log_ops s.moved) (log_ops new_log) new_base s.reached (rw (s.front, ops-append s.moved new_log) at sound.legal);
  in_order = pairs-behind IsInOrder s.moved new_log (rw s.front at sound.in_order);
  locked = pairs-behind (IsLocked o) s.moved new_log (rw s.front at sound.locked);
}

-- ---- commit

-- marks change no operation
ops-marked : (t : ℕ) (log : List LogEntry) → log_ops (map (marked t) log) ≡ log_ops log
ops-marked t [] = refl
ops-marked t (e ∷ log) = ap (λ rest. e.op ∷ rest) (ops-marked t log)

-- marks keep the order: what is open after them was open, and is of another transaction
marked-in_order : (t : ℕ) (a b : LogEntry) → IsInOrder a b → IsInOrder (marked t a) (marked t b)
marked-in_order t a b order = λ held same.
    let parts = or_parts a.done (eqb a.by t) held in
    or_from b.done (eqb b.by t) (order parts.0 same) (rw (eqb-true b.by a.by same) parts.1)

-- and what is locked
marked-locked : (o : Object) (t : ℕ) (a b : LogEntry) → IsLocked o a b → IsLocked o (marked t a) (marked t b)
marked-locked o t a b locked = λ held other. locked (or_parts a.done (eqb a.by t) held).0 other

-- update in place stays sound by a commit
pub undo-committed : RunsAlong → EndsInside → (o : Object) → Covers Undo o.table o.set o.conflicts → (base : ℕ) (log : List LogEntry) (t new_base : ℕ) (new_log : List LogEntry) →
    IsSoundUndo o base log → IsSettled o base (map (marked t) log) new_base new_log → IsSoundUndo o new_base new_log
undo-committed along ends o covers base log t new_base new_log sound s = settled along ends o covers base (map (marked t) log) new_base new_log
    (record {
      inside = sound.inside;
      legal = rw (ops-marked t log) sound.legal;
      in_order = pairs-map IsInOrder (marked t) (marked-in_order t) log sound.in_order;
      locked = pairs-map (IsLocked o) (marked t) (marked-locked o t) log sound.locked;
    })
    s

-- ---- strike

-- a, which is earlier, may move after b
abbrev passes : Object → LogEntry → LogEntry → Bool
passes o a b = not (o.conflicts b.op a.op)

-- what may move after another commutes backward with it, in a covered object
passes-commute : (o : Object) → Covers Undo o.table o.set o.conflicts → (a b : LogEntry) → passes o a b ≡ true → CommutesBackward o.table o.set b.op a.op
passes-commute o covers a b free = covers.commute b.op a.op (not-true (o.conflicts b.op a.op) free)

-- an open entry of t may move after each later one that isn't an open entry of t: such a one is of another transaction
mine-passes : (o : Object) (t : ℕ) (a b : LogEntry) → IsLocked o a b → IsInOrder a b → is_open_of t a ≡ true → is_open_of t b ≡ false → passes o a b ≡ true
mine-passes o t a b locked order mine isnt =
    let parts = and_parts (eqb a.by t) (not a.done) mine in
    let held = not-true a.done parts.1 in
    elim (cases_Bool (eqb b.by a.by)) [
      | inl same ↦ absurd (both_ways (is_open_of t b) isnt (and_from (eqb b.by t) (not b.done) (rw (eqb-true b.by a.by same) parts.0) (not_from_false b.done (order held same))))
      | inr other ↦ not_from_false (o.conflicts b.op a.op) (locked held other)
    ]

-- a sound log of which only the first n open entries of t are left is legal: the others can be moved to its end
pub struck-legal : PartsSort LogEntry → StruckPart LogEntry → SortsLook LogEntry → (o : Object) → Covers Undo o.table o.set o.conflicts →
    (base : ℕ) (log : List LogEntry) (t n : ℕ) → IsSoundUndo o base log → IsLegal o.table (Some base) (log_ops (keep_first (is_open_of t) n log))
struck-legal parts strike sorts o covers base log t n sound =
    let mine : LogEntry → Bool = is_open_of t in
    let left : List LogEntry = keep_first mine n log in
    let gone : List LogEntry = drop n (filter mine log) in
    let sorted = parts (passes o) log left gone (strike (passes o) mine n log (pairs-both (mine-passes o t) log sound.locked sound.in_order)) in
    let looks = sorts o.table o.set (λ e. e.op) (passes o) base log (left ++ gone) covers.closed sound.inside (passes-commute o covers) sorted sound.legal in
    legal-front o.table (Some base) (log_ops left) (log_ops gone) (rw (ops-append left gone) at looks.0)

-- update in place stays sound by a strike
pub undo-struck : RunsAlong → EndsInside → PartsSort LogEntry → StruckPart LogEntry → SortsLook LogEntry → (o : Object) → Covers Undo o.table o.set o.conflicts →
    (base : ℕ) (log : List LogEntry) (t n new_base : ℕ) (new_log : List LogEntry) → IsSoundUndo o base log → IsSettled o base (keep_first (is_open_of t) n log) new_base new_log →
    IsSoundUndo o new_base new_log
undo-struck along ends parts strike sorts o covers base log t n new_base new_log sound s = settled along ends o covers base (keep_first (is_open_of t) n log) new_base new_log
    (record {
      inside = sound.inside;
      legal = struck-legal parts strike sorts o covers base log t n sound;
      in_order = pairs-keep_first IsInOrder (is_open_of t) n log sound.in_order;
      locked = pairs-keep_first (IsLocked o) (is_open_of t) n log sound.locked;
    })
    s
