-- Small meanings of the counter of two, whose operation 0 counts up and whose operation 1 counts down.
use Rattle.std.specs.Prelude.{ℕ, true, false, nat_lt, List, [], ◌∷◌, Option, Some, codes}
use Rattle.std.specs.Option.{option_to_list}
use Rattle.type_table.specs.Examples.{ok_op}
use Rattle.type_table.specs.declared.kind.Kind.{Kind}
use Rattle.type_table.specs.declared.kind.Kind.TheVariants.{Undo, Intentions}
use Rattle.table_checker.specs.Examples.{counter_file}
use Rattle.escrow_laws.specs.Bounds.{amounts_of}
use Rattle.type_table.specs.declared.kind.Kind.TheVariants as way
use Rattle.table_checker.specs.Checked.{Checked}
use Rattle.object_trait.specs.Object.{Object}
use Rattle.object_trait.specs.Meaning.{Meaning}
use Rattle.object_trait.specs.declared.log_entry.LogEntry.{LogEntry}

-- an open entry of t with operation k
abbrev pub held : ℕ → ℕ → LogEntry
held t k = record { by = t; op = k; done = false }

-- a done one
abbrev pub done_entry : ℕ → ℕ → LogEntry
done_entry t k = record { by = t; op = k; done = true }

-- the counter under a kind of recovery
abbrev pub counter_at : Kind → ℕ → List LogEntry → Meaning
counter_at kind base log = record { checked = (record { kind = kind; file = counter_file }); base = base; log = log }

-- with update in place, from 0: two transactions have counted up
abbrev pub two_ups : Meaning
two_ups = counter_at Undo 0 (held 1 0 ∷ held 2 0 ∷ [])

-- with deferred update, from 1: one transaction has counted up and another down
abbrev pub up_and_down : Meaning
up_and_down = counter_at Intentions 1 (held 1 0 ∷ held 2 1 ∷ [])

-- with update in place, from 0: one transaction has counted up, and another down, which conflicts with it
abbrev pub down_on_up : Meaning
down_on_up = counter_at Undo 0 (held 1 0 ∷ held 2 1 ∷ [])

-- with update in place, from 0: 1 counted up and is open, and 0 counted up and is done
abbrev pub up_behind_open : Meaning
up_behind_open = counter_at Undo 0 (held 1 0 ∷ done_entry 0 0 ∷ [])

-- what an object means whose log has at most one entry, and whose base is the initial state
abbrev pub of_one_entry : Checked → Option LogEntry → Meaning
of_one_entry checked entry = record { checked = checked; base = checked.file.table.initial; log = option_to_list entry }

-- an object of two states, in each of which the one operation idles: no operation distinguishes the states
abbrev pub two_alike : Object
two_alike = record {
  kind = way.Intentions;
  table = record { name = codes "alike"; states = 2; initial = 0; ops = ok_op (codes "p") ∷ []; steps = Some 0 ∷ Some 1 ∷ [] };
  set = λ s. nat_lt s 2;
  conflicts = λ p q. false;
  amounts = amounts_of [];
}
