use Rattle.key_commands.proofs.FoundFiles.{found}
use Rattle.key_commands.proofs.reading.read_at.Goals as goal

pub returns-in-Ok-clause-found : goal.returns-in-Ok-clause-found
returns-in-Ok-clause-found g c =
    found c.read_in-reading.result.0 _ _ _ _ _ _ _ _ _ c.close.ensures.clean c.close.ensures.held c.read_in-reading.ensures.clean c.read_in-reading.ensures.was_open c.in-Ok.ensures.held
    c.read_in-reading.ensures.same c.read_in-reading.ensures.read
