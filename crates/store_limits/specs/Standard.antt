-- The limits of a store, and those of one that names none.
use Rattle.std.specs.Prelude.{ℕ, Bool, ◌&&◌, nat_le}
use Rattle.store_limits.specs.declared.limits.Limits.{Limits}

-- 1,000,000 events, 1,024 open transactions and 256 objects
abbrev pub standard : Limits
standard = record { events = 1000000; «open» = 1024; objects = 256 }

-- the standard limits with another number of events
abbrev pub standard_with : ℕ → Limits
standard_with events = record standard { events = events }

-- what a store may have at most of open transactions, and of objects
abbrev pub most_of_each : ℕ
most_of_each = 65536

-- a store may have these limits, where this is the greatest number of events
abbrev pub are_limits : ℕ → Limits → Bool
are_limits greatest limits =
    (nat_le 2 limits.events && nat_le limits.events greatest)
    && ((nat_le 1 limits.«open» && nat_le limits.«open» most_of_each) && (nat_le 1 limits.objects && nat_le limits.objects most_of_each))
