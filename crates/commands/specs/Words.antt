-- The words after the program's name.
use Rattle.std.specs.Prelude.{◌≡◌, ⊤, codes}
use Rattle.command_files.specs.declared.fault.Fault.{Fault}
use Rattle.command_files.specs.declared.fault.Fault.TheVariants.{Usage, NoMemory}

-- why there are no words: one isn't UTF-8, or memory was refused
abbrev pub IsOfNoWords : Fault → Type 0
IsOfNoWords (Usage text) = text.bytes.items ≡ codes "error: an argument is not valid UTF-8\n"
IsOfNoWords NoMemory = ⊤
IsOfNoWords fault = ⊥
