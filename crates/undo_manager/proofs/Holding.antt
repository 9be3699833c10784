-- What open transactions hold: what a further operation, a commit and a strike make of it, and who blocks.
use Rattle.std.proofs.Common.{◌≡◌, ℕ, zero, suc, Bool, false, not, ◌&&◌, ◌==◌, cond, List, [], ◌∷◌, ◌++◌, map, filter, refl, sym, ap, subst, inl, inr}
use Rattle.std.proofs.lemmas.Bool.{cases_Bool}
use Rattle.object_trait.specs.Strike.{keep_first}
use Rattle.object_trait.specs.Meaning.{is_open_of}
use Rattle.object_trait.specs.Steps.{marked}
use Rattle.object_trait.specs.declared.log_entry.LogEntry.{LogEntry}
use Rattle.std.specs.List.{find, AllByRecursion}
use Rattle.std.specs.Option.{option_map}
use Rattle.type_table.specs.ConflictTable.{conflicts}
use Rattle.op_locks.specs.Locks.{is_held_by, held_without, blocks, blocking_holder}
use Rattle.op_locks.specs.declared.held.Held.{Held}
use Rattle.undo_manager.specs.Held.{held_by, held_in}
use Rattle.undo_manager.specs.Log.{entries, unsettled}
use Rattle.undo_manager.specs.declared.undo_entry.UndoEntry.{UndoEntry}

-- one more open entry
pub held-push : (log : List LogEntry) (t k : ℕ) → held_in (log ++ (record { by = t; op = k; done = false }) ∷ []) ≡ held_in log ++ (record { by = t; op = k }) ∷ []
held-push [] t k = refl
held-push (e ∷ log) t k =
    elim (cases_Bool e.done) [
      | inl done ↦ simp done (held-push log t k)
      | inr undone ↦ simp undone (ap (λ (rest : List Held). held_by e ∷ rest) (held-push log t k))
    ]

-- t's entries are done
pub held-marked : (log : List LogEntry) (t : ℕ) → held_in (map (marked t) log) ≡ held_without t (held_in log)
held-marked [] t = refl
held-marked (e ∷ log) t =
    elim (cases_Bool e.done) [
      | inl done ↦ simp done (held-marked log t)
      | inr undone ↦ elim (cases_Bool (e.by == t)) [
        | inl mine ↦ simp (undone, mine) (held-marked log t)
        | inr other ↦ simp (undone, other) (ap (λ (rest : List Held). held_by e ∷ rest) (held-marked log t))
      ]
    ]

-- the first n of t's open entries stay
pub held-left : (log : List LogEntry) (t n : ℕ) → held_in (keep_first (is_open_of t) n log) ≡ keep_first (is_held_by t) n (held_in log)
held-left [] t n = refl
held-left (e ∷ log) t zero =
    elim (cases_Bool e.done) [
      | inl done ↦ elim (cases_Bool (e.by == t)) [
        | inl mine ↦ simp (done, mine) (held-left log t zero)
        | inr other ↦ simp (done, other) (held-left log t zero)
      ]
      | inr undone ↦ elim (cases_Bool (e.by == t)) [
        | inl mine ↦ simp (undone, mine) (held-left log t zero)
        | inr other ↦ simp (undone, other) (ap (λ (rest : List Held). held_by e ∷ rest) (held-left log t zero))
      ]
    ]
held-left (e ∷ log) t (suc n) =
    elim (cases_Bool e.done) [
      | inl done ↦ elim (cases_Bool (e.by == t)) [
        | inl mine ↦ simp (done, mine) (held-left log t (suc n))
        | inr other ↦ simp (done, other) (held-left log t (suc n))
      ]
      | inr undone ↦ elim (cases_Bool (e.by == t)) [
        | inl mine ↦ simp (undone, mine) (ap (λ (rest : List Held). held_by e ∷ rest) (held-left log t n))
        | inr other ↦ simp (undone, other) (ap (λ (rest : List Held). held_by e ∷ rest) (held-left log t (suc n)))
      ]
    ]

-- leading done entries hold nothing
pub held-settled : (log : List UndoEntry) → held_in (entries (unsettled log)) ≡ held_in (entries log)
held-settled [] = refl
held-settled (u ∷ log) =
    elim (cases_Bool u.entry.done) [
      | inl done ↦ simp done (held-settled log)
      | inr undone ↦ simp undone
    ]

-- a fact of each entry's operation is one of each that is held
pub each-held : (P : ℕ → Type 0) (log : List LogEntry) → AllByRecursion (λ (e : LogEntry). P e.op) log → AllByRecursion (λ (e : Held). P e.op) (held_in log)
each-held P [] each = tt
each-held P (e ∷ log) each =
    elim (cases_Bool e.done) [
      | inl done ↦ subst (λ (b : Bool). AllByRecursion (λ (x : Held). P x.op) (cond b (held_in log) (held_by e ∷ held_in log))) (sym done) (each-held P log each.1)
      | inr undone ↦ subst (λ (b : Bool). AllByRecursion (λ (x : Held). P x.op) (cond b (held_in log) (held_by e ∷ held_in log))) (sym undone) (each.0, each-held P log each.1)
    ]

-- the first that blocks, among what is held and among the open entries
pub blocker-open : (rows : List (List Bool)) (t k : ℕ) (log : List LogEntry) →
    blocking_holder rows t k (held_in log) ≡ option_map (λ (e : LogEntry). e.by) (find (λ e. not (e.by == t) && conflicts rows k e.op) (filter (λ e. not e.done) log))
blocker-open rows t k [] = refl
blocker-open rows t k (e ∷ log) =
    elim (cases_Bool e.done) [
      | inl done ↦ simp done (blocker-open rows t k log)
      | inr undone ↦ elim (cases_Bool (blocks rows t k (held_by e))) [
        | inl passes ↦ simp (undone, passes)
        | inr fails ↦ simp (undone, fails) (blocker-open rows t k log)
      ]
    ]
