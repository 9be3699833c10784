use Rattle.store_laws.proofs.Events.{types_stay}
use Rattle.store_laws.proofs.laws.types_stay.Goals as goal

-- an event leaves the types
pub returns : goal.returns
returns c = types_stay
