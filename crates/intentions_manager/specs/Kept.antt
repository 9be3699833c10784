-- What a manager of deferred update keeps.
use Rattle.std.specs.Prelude.{◌≡◌, ◌≤◌, ◌<◌, ℕ, List, length, true, Some, All}
use Rattle.std.specs.Int.{bit_at}
use Rattle.std.specs.List.{AllByRecursion}
use Rattle.type_table.specs.Table.{IsTable}
use Rattle.type_table.specs.Run.{AreEqui}
use Rattle.type_table.specs.declared.kind.Kind.TheVariants.{Intentions}
use Rattle.object_trait.specs.Object.{Object, IsCovered}
use Rattle.object_trait.specs.Meaning.{Meaning, object, open_of, run_log}
use Rattle.object_trait.specs.Sound.{IsSound}
use Rattle.object_trait.specs.declared.log_entry.LogEntry.{LogEntry}
use Rattle.intentions_manager.specs.Views.{ViewsAscend, seen_by}
use Rattle.intentions_manager.specs.Walk.{FitsTable}
use Rattle.intentions_manager.specs.declared.views.View.{View}

-- each entry's operation has a bit in the word, which is set
abbrev pub LogHasBits : ℕ → List LogEntry → Type 0
LogHasBits word log = All (λ (e : LogEntry). e.op < 64 → bit_at word e.op ≡ 1) log

-- what t may be shown: a state that is equieffective to the run of its open entries from base, and how many these are
pub record IsView (o : Object) (base : ℕ) (log : List LogEntry) (t : ℕ) (v : View) : Type 0 where
  pub fits : v.state < o.table.states
  pub inside : o.set v.state ≡ true
  pub equi : AreEqui o.table (Some v.state) (run_log o base (open_of t log))
  pub counted : v.count ≡ length (open_of t log)

-- the kind is deferred update, the meaning is sound, each transaction sees what it may be shown, and each that is open has one view, in
-- their order
pub record IsKeptDeferred (m : Meaning) (views : List View) : Type 0 where
  pub deferred : m.checked.kind ≡ Intentions
  pub table : IsTable m.checked.file.table
  pub covered : IsCovered (object m)
  pub base_fits : m.base < m.checked.file.table.states
  pub ops_fit : All (λ (e : LogEntry). e.op < length m.checked.file.table.ops) m.log
  pub room : length m.log ≤ 4294967295
  pub sound : IsSound m
  pub seen : (t : ℕ) → IsView (object m) m.base m.log t (seen_by t m.base views)
  pub fit : All (FitsTable m.checked.file.table) views
  pub some : AllByRecursion (λ (v : View). 0 < v.count) views
  pub ordered : ViewsAscend views
