-- What an error of the system says of a file.
use Rattle.std.specs.declared.io.ErrorKind.{ErrorKind}
use Rattle.std.specs.declared.io.ErrorKind.TheVariants.{OutOfMemory}
use Rattle.command_files.specs.declared.source.SourceFault.{SourceFault}
use Rattle.command_files.specs.declared.source.SourceFault.TheVariants.{CannotRead, NoMemory}

-- refused memory is kept apart from every other error
abbrev pub source_fault : ErrorKind → SourceFault
source_fault OutOfMemory = NoMemory
source_fault _ = CannotRead
