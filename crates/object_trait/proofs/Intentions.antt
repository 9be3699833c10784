-- Deferred update: what its calls keep.
use Rattle.std.proofs.Common.{◌≡◌, ℕ, Bool, true, false, not, cond, eqb, List, [], ◌∷◌, ◌++◌, take, drop, Contains, Some, refl, ap, inl, inr}
use Rattle.std.specs.List.{filter, AllByRecursion}
use Rattle.std.proofs.lemmas.Bool.{not-true, eqb-true, cases_Bool, and_parts}
use Rattle.std.proofs.lemmas.List.{append-nil, take-append-drop}
use Rattle.std.proofs.lemmas.List.Elements.{filter-append}
use Rattle.type_table.specs.Run.{IsLegal, AreEqui}
use Rattle.type_table.specs.Commute.{CommuteForward, Covers}
use Rattle.type_table.specs.Laws.{RunsAlong}
use Rattle.type_table.specs.declared.table_kind.TableKind.TheVariants.{Intentions}
use Rattle.type_table.specs.Lists.{ListsForward}
use Rattle.type_table.proofs.Elements.{each-push, each-filter, differ_turned}
use Rattle.type_table.proofs.Legal.{legal-front, forward-turned}
use Rattle.object_trait.specs.Object.{Object}
use Rattle.object_trait.specs.Orders.{Pairs}
use Rattle.object_trait.specs.Meaning.{log_ops, is_open_of, open_of, run_log}
use Rattle.object_trait.specs.Sound.{IsLocked, IsSoundIntentions}
use Rattle.object_trait.specs.Steps.{IsOfAnotherOpen, IsIntentionsCommit, IsIntentionsStrike}
use Rattle.object_trait.specs.Laws.{KeepsFirst, CommuteFrom}
use Rattle.object_trait.specs.declared.log_entry.LogEntry.{LogEntry}
use Rattle.object_trait.proofs.Lists.{IsBetween, each_two-map, each_two-at, each_between, pairs-weaker, pairs-push, pairs-filter}
use Rattle.object_trait.proofs.Runs.{ops-append, push-legal, open-apart}
use Rattle.object_trait.proofs.Striking.{filter-keep_first, each-keep_first, pairs-keep_first}
use Rattle.object_trait.proofs.Undo.{locked-applied}

-- ---- entries of two transactions

-- leaving out mine changes nothing of what a filter keeps that none of mine passes
pub filter-without : {E : Type 0} (mine theirs : E → Bool) → ((e : E) → mine e ≡ true → theirs e ≡ false) → (V : List E) → filter theirs (filter (λ e. not (mine e)) V) ≡ filter theirs V
filter-without mine theirs differ [] = refl
filter-without mine theirs differ (e ∷ V) =
    elim (cases_Bool (mine e)) [
      | inl is ↦ simp (is, differ e is) (filter-without mine theirs differ V)
      | inr isnt ↦ rw isnt (ap (λ rest. cond (theirs e) (e ∷ rest) rest) (filter-without mine theirs differ V))
    ]

-- and leaves none of mine
pub filter-itself : {E : Type 0} (mine : E → Bool) (V : List E) → filter mine (filter (λ e. not (mine e)) V) ≡ []
filter-itself mine [] = refl
filter-itself mine (e ∷ V) =
    elim (cases_Bool (mine e)) [
      | inl is ↦ rw is (filter-itself mine V)
      | inr isnt ↦ simp isnt (filter-itself mine V)
    ]

-- ---- a further operation

-- the operations of u's open entries, where the last entry isn't one of them
without_last : (o : Object) (base : ℕ) (u : ℕ) (log : List LogEntry) (entry : LogEntry) → is_open_of u entry ≡ false → IsLegal o.table (Some base) (log_ops (open_of u log)) →
    IsLegal o.table (Some base) (log_ops (open_of u (log ++ entry ∷ [])))
without_last o base u log entry isnt legal = rw (filter-append (is_open_of u) log (entry ∷ []), isnt, append-nil) legal

-- and where it is one of them
with_last : RunsAlong → (o : Object) (base : ℕ) (u : ℕ) (log : List LogEntry) (entry : LogEntry) → is_open_of u entry ≡ true → IsLegal o.table (run_log o base (open_of u log)) (entry.op ∷ []) →
    IsLegal o.table (Some base) (log_ops (open_of u (log ++ entry ∷ [])))
with_last along o base u log entry is legal =
    rw (filter-append (is_open_of u) log (entry ∷ []), is, ops-append (open_of u log) (entry ∷ [])) (push-legal along o.table (Some base) (log_ops (open_of u log)) (entry.op ∷ []) legal)

-- deferred update stays sound by a further operation
pub intentions-applied : RunsAlong → (o : Object) (base : ℕ) (log : List LogEntry) (t k : ℕ) → IsSoundIntentions o base log → IsLegal o.table (run_log o base (open_of t log)) (k ∷ []) →
    AllByRecursion (λ e. IsOfAnotherOpen t e → o.conflicts k e.op ≡ false) log → IsSoundIntentions o base (log ++ (record { by = t; op = k; done = false }) ∷ [])
intentions-applied along o base log t k sound legal free =
    let entry : LogEntry = record { by = t; op = k; done = false } in
    record {
      inside = sound.inside;
      all_open = each-push (λ e. e.done ≡ false) log entry sound.all_open refl;
      legal =
          λ u. elim (cases_Bool (eqb t u)) [
            | inl same ↦ with_last along o base u log entry (rw same refl) (rw (eqb-true t u same) at legal)
            | inr other ↦ without_last o base u log entry (rw other refl) (sound.legal u)
          ];
      locked = pairs-push (IsLocked o) log entry sound.locked (locked-applied o t k log free);
    }

-- ---- commit

-- open entries of two transactions commute forward, whichever is first
between : (o : Object) → Covers Intentions o.table o.set o.conflicts → (t u : ℕ) → eqb u t ≡ false → (a b : LogEntry) → IsLocked o a b →
    IsBetween (is_open_of t) (is_open_of u) (λ x y. CommuteForward o.table o.set x.op y.op) a b
between o covers t u differ a b locked = record {
  mine_first = λ a_mine b_theirs. forward-turned o.table o.set b.op a.op (covers.commute b.op a.op (locked (held t a a_mine) (of_two a b t u a_mine b_theirs differ)));
  theirs_first = λ a_theirs b_mine. covers.commute b.op a.op (locked (held u a a_theirs) (of_two a b u t a_theirs b_mine (differ_turned t u differ)));
}
  where
    held : (x : ℕ) (e : LogEntry) → is_open_of x e ≡ true → e.done ≡ false
    held x e is = not-true e.done (and_parts (eqb e.by x) (not e.done) is).1

    of_two : (c d : LogEntry) (x y : ℕ) → is_open_of x c ≡ true → is_open_of y d ≡ true → eqb y x ≡ false → eqb d.by c.by ≡ false
    of_two c d x y c_of d_of other =
        rw (eqb-true c.by x (and_parts (eqb c.by x) (not c.done) c_of).0, eqb-true d.by y (and_parts (eqb d.by y) (not d.done) d_of).0) other

-- each operation of t commutes forward with each of u
ops_between : (o : Object) → Covers Intentions o.table o.set o.conflicts → (t u : ℕ) → eqb u t ≡ false → (log : List LogEntry) → Pairs (IsLocked o) log →
    (p q : ℕ) → Contains (log_ops (open_of t log)) p → Contains (log_ops (open_of u log)) q → CommuteForward o.table o.set p q
ops_between o covers t u differ log locked p q p_in q_in =
    let C : ℕ → ℕ → Type 0 = CommuteForward o.table o.set in
    let pairs : Pairs (IsBetween (is_open_of t) (is_open_of u) (λ x y. C x.op y.op)) log = pairs-weaker (between o covers t u differ) log locked in
    let entries = each_between (λ x y. C x.op y.op) (is_open_of t) (is_open_of u) (open-apart t u differ) log pairs in
    each_two-at C (log_ops (open_of t log)) (log_ops (open_of u log)) (each_two-map C (λ (e : LogEntry). e.op) (open_of t log) (open_of u log) entries) p q p_in q_in

-- the open operations of two transactions, in either order
pub opens-commute : ListsForward → (o : Object) → Covers Intentions o.table o.set o.conflicts → (base : ℕ) (log : List LogEntry) (t u : ℕ) → eqb u t ≡ false → IsSoundIntentions o base log →
    CommuteFrom o.table base (log_ops (open_of t log)) (log_ops (open_of u log))
opens-commute forward o covers base log t u differ sound =
    forward o.table o.set base (log_ops (open_of t log)) (log_ops (open_of u log)) covers.closed sound.inside (ops_between o covers t u differ log sound.locked) (sound.legal t) (sound.legal u)

-- u's operations are legal from a state that is equieffective to that after t's
behind-commit : RunsAlong → ListsForward → (o : Object) → Covers Intentions o.table o.set o.conflicts → (base : ℕ) (log : List LogEntry) (t u new_base : ℕ) → eqb u t ≡ false → IsSoundIntentions o base log →
    AreEqui o.table (Some new_base) (run_log o base (open_of t log)) → IsLegal o.table (Some new_base) (log_ops (open_of u log))
behind-commit along forward o covers base log t u new_base differ sound reached =
    let both = opens-commute forward o covers base log t u differ sound in
    reached.1 (log_ops (open_of u log)) (rw (along o.table (Some base) (log_ops (open_of t log)) (log_ops (open_of u log))) at both.0)

-- deferred update stays sound by a commit
pub intentions-committed : RunsAlong → ListsForward → (o : Object) → Covers Intentions o.table o.set o.conflicts → (base : ℕ) (log : List LogEntry) (t new_base : ℕ) (new_log : List LogEntry) →
    IsSoundIntentions o base log → IsIntentionsCommit o base log t new_base new_log → IsSoundIntentions o new_base new_log
intentions-committed along forward o covers base log t new_base new_log sound commit =
    rw commit.rest
    (record {
      inside = commit.inside;
      all_open = each-filter (λ e. e.done ≡ false) (λ e. not (is_open_of t e)) log sound.all_open;
      legal =
          λ u. elim (cases_Bool (eqb u t)) [
            | inl same ↦ rw (eqb-true u t same, filter-itself (is_open_of t) log) refl
            | inr other ↦ rw (filter-without (is_open_of t) (is_open_of u) (open-apart t u other) log) (behind-commit along forward o covers base log t u new_base other sound commit.reached)
          ];
      locked = pairs-filter (IsLocked o) (λ e. not (is_open_of t e)) log sound.locked;
    })

-- ---- strike

-- the front of t's operations
front_of : (o : Object) (base : ℕ) (V : List LogEntry) (n : ℕ) → IsLegal o.table (Some base) (log_ops V) → IsLegal o.table (Some base) (log_ops (take n V))
front_of o base V n legal =
    legal-front o.table (Some base) (log_ops (take n V)) (log_ops (drop n V)) (rw (← ops-append (take n V) (drop n V), take-append-drop n V) legal)

-- deferred update stays sound by a strike
pub intentions-struck : KeepsFirst LogEntry → (o : Object) (base : ℕ) (log : List LogEntry) (t n new_base : ℕ) (new_log : List LogEntry) → IsSoundIntentions o base log →
    IsIntentionsStrike o base log t n new_base new_log → IsSoundIntentions o new_base new_log
intentions-struck keeps o base log t n new_base new_log sound strike =
    rw (strike.same_base, strike.rest)
    (record {
      inside = sound.inside;
      all_open = each-keep_first (λ e. e.done ≡ false) (is_open_of t) n log sound.all_open;
      legal =
          λ u. elim (cases_Bool (eqb u t)) [
            | inl same ↦ rw (eqb-true u t same, (keeps (is_open_of t) n log).0) (front_of o base (open_of t log) n (sound.legal t))
            | inr other ↦ rw (filter-keep_first (is_open_of t) (is_open_of u) (open-apart t u other) n log) (sound.legal u)
          ];
      locked = pairs-keep_first (IsLocked o) (is_open_of t) n log sound.locked;
    })
