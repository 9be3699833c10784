-- How the store of the next epoch begins, by whether each yes is strong.
use Rattle.std.specs.Prelude.{◌≡◌, ℕ, Bool, true, false, List, ◌++◌}
use Rattle.table_checker.specs.Checked.{Checked}
use Rattle.object_trait.specs.Meaning.{Meaning}
use Rattle.object_trait.specs.declared.event.Event.{Event}
use Rattle.carried_orders.specs.Orders.{AreStrong}
use Rattle.store_laws.specs.Stored.{Stored}
use Rattle.store.specs.Carries.{Carries, RefusesCarry}
use Rattle.store.specs.CarriesAll.{CarriesAll, IsUnseen, RefusesAll, open_ones}
use Rattle.store.specs.declared.refusals.CarryRefusal.{CarryRefusal}
use Rattle.journal.specs.declared.prepared_row.Prepared.{Prepared}
use Rattle.durable_store.specs.Held.{AreTheirNumbers}

-- whose numbers go over, in their order: of all that is open, or of what is prepared
abbrev pub GoOver : Bool → List Event → List Prepared → List ℕ → Type 0
GoOver true H prepared those = those ≡ open_ones H
GoOver false H prepared those = AreTheirNumbers prepared those

-- those go on in a new store, its events not yet let go
abbrev pub BeginsNext : Bool → Stored → List ℕ → List Checked → Stored → Type 0
BeginsNext true old those added new = CarriesAll old added new × (AreStrong (old.types ++ added) → IsUnseen old added new)
BeginsNext false old those added new = Carries old 0 those added new

-- or none begins, with these objects more
abbrev pub RefusesNext : Bool → Stored → List ℕ → List Meaning → CarryRefusal → Type 0
RefusesNext true old those ms why = RefusesAll old ms why
RefusesNext false old those ms why = RefusesCarry old those ms why
