-- A vote that is held, worked by hand.
use Rattle.std.specs.Prelude.{codes}
use Rattle.journal.specs.declared.prepared_row.Prepared.{Prepared}

-- transaction 2 of life 3 is prepared for Zoe, until 60
abbrev pub zoe : Prepared
zoe = record { key = codes "zoe"; given = record { life = 3; number = 2 }; number = 2; until = 60 }

-- and is transaction 0 in the next epoch
abbrev pub zoe_later : Prepared
zoe_later = record { key = codes "zoe"; given = record { life = 3; number = 2 }; number = 0; until = 60 }
