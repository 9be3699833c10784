-- The limits of a store in a file.
use Rattle.store_limits.specs.Standard.{standard, most_of_each}
use Rattle.store_limits.specs.declared.limits.Limits.{Limits}

-- the standard ones, but for its objects
abbrev pub file_limits : Limits
file_limits = record standard { objects = most_of_each }
