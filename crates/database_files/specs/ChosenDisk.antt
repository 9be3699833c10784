-- What a disk shows of which it is chosen how its torn writes are judged.
use Rattle.database_files.specs.declared.chosen_disk.ChosenDisk.{ChosenDisk}

-- the disk to which each call is handed on
abbrev pub disk_of : {D : Type 0} → ChosenDisk D → D
disk_of f = f.disk
