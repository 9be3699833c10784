use Rattle.type_commands.proofs.Accepted.{AreReadings, says_yes_of_made}
use Rattle.type_commands.proofs.laws.says_yes_of_made.Goals as goal

pub returns : goal.returns
returns c =
    let known : AreReadings = record { lines = c.lines_tell_the_file.ensures; parts = c.parts_tell_the_file.ensures; numbers = c.written_is_read.ensures } in
    says_yes_of_made known c.elements_are_accepted.ensures c.amounts_are_accepted.ensures c.numbers_are_accepted.ensures
