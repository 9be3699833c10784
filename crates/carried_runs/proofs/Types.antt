-- The object of a type that is there, and that nothing was done where none is.
use Rattle.std.proofs.Common.{◌≡◌, ℕ, ◌==◌, false, List, [], map, Some, None, slice_get, ap, ◌∙◌, inl, inr}
use Rattle.std.specs.Option.{option_map}
use Rattle.std.proofs.lemmas.Bool.{cases_Bool, eqb-true}
use Rattle.std.proofs.lemmas.Option.{slice_get-map}
use Rattle.type_table.proofs.Elements.{each-weaker, filter-none}
use Rattle.table_checker.specs.Checked.{Checked}
use Rattle.object_trait.specs.Object.{Object, object_of}
use Rattle.object_trait.specs.declared.event.Event.{Event}
use Rattle.serial_order.specs.Operations.{at_object}
use Rattle.serial_order.specs.History.{surviving, IsOperation}
use Rattle.serial_order.specs.Machine.{IsRun}
use Rattle.serial_order.specs.declared.entry.Entry.{Entry}
use Rattle.serial_order.proofs.Opens.{operations_in_run}

pub type-there : (types : List Checked) (x : ℕ) (c : Checked) → slice_get types x ≡ Some c → slice_get (map object_of types) x ≡ Some (object_of c)
type-there types x c there = slice_get-map object_of types x ∙ ap (option_map object_of) there

-- where no object is, nothing was done
pub none-there : (objects : List Object) (H : List Event) (x : ℕ) → IsRun objects H → slice_get objects x ≡ None → at_object x (surviving H) ≡ []
none-there objects H x going none =
    filter-none (λ (e : Entry). e.at == x) (surviving H) (each-weaker (λ e operation. elsewhere e operation) (surviving H) (operations_in_run objects H going))
  where
    no-table : slice_get (map (λ (o : Object). o.table) objects) x ≡ None
    no-table = slice_get-map (λ (o : Object). o.table) objects x ∙ ap (option_map (λ (o : Object). o.table)) none

    elsewhere : (e : Entry) → IsOperation (slice_get (map (λ (o : Object). o.table) objects) e.at) e.op → (e.at == x) ≡ false
    elsewhere e operation =
        elim (cases_Bool (e.at == x)) [
          | inl here ↦ absurd (rw (eqb-true e.at x here, no-table) at operation)
          | inr other ↦ other
        ]
