use Rattle.std.proofs.Common.{refl}
use Rattle.store.proofs.room.has_room.Goals as goal

pub returns : goal.returns
returns c = refl
