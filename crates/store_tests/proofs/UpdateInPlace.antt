-- Update in place that settles nothing, for objects of tests.
use Rattle.std.proofs.Common.{◌≡◌, ℕ, true, false, List, [], map, Option, Some, None, refl, sym, inl, inr}
use Rattle.std.specs.List.{list_any}
use Rattle.std.specs.Option.{option_to_list}
use Rattle.std.proofs.lemmas.Bool.{false≢true, true≢false, cases_Bool}
use Rattle.type_table.specs.declared.kind.Kind.{Kind}
use Rattle.type_table.specs.declared.kind.Kind.TheVariants.{Undo, Intentions, Escrow}
use Rattle.object_trait.specs.Object.{Object}
use Rattle.object_trait.specs.Strike.{keep_first}
use Rattle.object_trait.specs.Meaning.{Meaning, object, is_open_of}
use Rattle.object_trait.specs.Steps.{marked, IsCommitBy, IsCommit, IsStrikeBy, Keeps}
use Rattle.object_trait.specs.declared.log_entry.LogEntry.{LogEntry}

-- ---- calls

-- a log with t's entries marked, at the same base
unsettled_commit : (kind : Kind) → kind ≡ Undo → (o : Object) (base : ℕ) (log : List LogEntry) (t : ℕ) (new_log : List LogEntry) → new_log ≡ map (marked t) log → IsCommitBy kind o base log t base new_log
unsettled_commit Undo e o base log t new_log same = record { moved = []; front = sym same; done = tt; reached = refl }
unsettled_commit Intentions e o base log t new_log same = absurd (cc)
unsettled_commit Escrow e o base log t new_log same = absurd (cc)

-- is what a commit leaves
pub commit-unsettled : (m : Meaning) (t : ℕ) (new_log : List LogEntry) → m.checked.kind ≡ Undo → new_log ≡ map (marked t) m.log → IsCommit m t (record m { log = new_log })
commit-unsettled m t new_log undo same = record { checked = refl; commit = unsettled_commit m.checked.kind undo (object m) m.base m.log t new_log same }

-- a log without all but the first n open entries of t, at the same base
unsettled_strike : (kind : Kind) → kind ≡ Undo → (o : Object) (base : ℕ) (log : List LogEntry) (t n : ℕ) (new_log : List LogEntry) → new_log ≡ keep_first (is_open_of t) n log →
    IsStrikeBy kind o base log t n base new_log
unsettled_strike Undo e o base log t n new_log same = record { moved = []; front = sym same; done = tt; reached = refl }
unsettled_strike Intentions e o base log t n new_log same = absurd (cc)
unsettled_strike Escrow e o base log t n new_log same = absurd (cc)

-- is what a strike leaves
pub strike-unsettled : (m : Meaning) (t n : ℕ) (new_log : List LogEntry) → m.checked.kind ≡ Undo → new_log ≡ keep_first (is_open_of t) n m.log → Keeps m t n (record m { log = new_log })
strike-unsettled m t n new_log undo same = record { checked = refl; strike = unsettled_strike m.checked.kind undo (object m) m.base m.log t n new_log same }

-- ---- logs of at most one entry

-- an open entry of t is struck
pub struck_one : (t : ℕ) (entry : Option LogEntry) → list_any (is_open_of t) (option_to_list entry) ≡ true → keep_first (is_open_of t) 0 (option_to_list entry) ≡ []
struck_one t None h = refl
struck_one t (Some e) h =
    elim (cases_Bool (is_open_of t e)) [
      | inl is ↦ rw is refl
      | inr isnt ↦ absurd (false≢true (rw isnt at h))
    ]

-- and another is kept
pub kept_one : (t : ℕ) (entry : Option LogEntry) → list_any (is_open_of t) (option_to_list entry) ≡ false → keep_first (is_open_of t) 0 (option_to_list entry) ≡ option_to_list entry
kept_one t None h = refl
kept_one t (Some e) h =
    elim (cases_Bool (is_open_of t e)) [
      | inl is ↦ absurd (true≢false (rw is at h))
      | inr isnt ↦ rw isnt refl
    ]
