-- Which event ends a transaction.
use Rattle.std.specs.Prelude.{ℕ, ◌==◌, Bool, false}
use Rattle.object_trait.specs.declared.event.EventKind.{EventKind}
use Rattle.object_trait.specs.declared.event.EventKind.TheVariants.{Abort, Commit}

-- it is the end of transaction u
abbrev pub is_end_of : ℕ → EventKind → Bool
is_end_of u (Commit t) = t == u
is_end_of u (Abort t) = t == u
is_end_of u _ = false
