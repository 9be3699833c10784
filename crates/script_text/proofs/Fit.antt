-- The numbers and counts of a script that was read.
use Rattle.std.proofs.Common.{◌≡◌, List, refl}
use Rattle.serial_order.specs.declared.command.Command.{Command}
use Rattle.store_text.specs.Parts.{AreFit}
use Rattle.store_text.specs.declared.parts.Parts.{Parts}
use Rattle.script_text.specs.Commands.{commands}
use Rattle.script_text.specs.Script.{IsFit}

-- they are those of its parts
pub is_fit : (parts : Parts (List Command)) (cs : List Command) → cs ≡ parts.entries → AreFit commands (λ entries. entries) parts → IsFit (record { size = parts.size; max = parts.max; objects = parts.objects; commands = cs })
is_fit parts cs same fit =
    let limit = fit.max refl in
    record {
      size = fit.size;
      low = limit.0;
      high = limit.1;
      some_object = fit.some_object;
      objects_fit = fit.objects;
      files_fit = fit.files;
      named = fit.named;
      commands_fit = rw same fit.entries;
    }
