-- Attempts at two counters, worked by hand.
use Rattle.std.specs.Prelude.{List, [], ◌∷◌, codes}
use Rattle.object_trait.specs.declared.event.EventKind.{EventKind}
use Rattle.object_trait.specs.declared.event.EventKind.TheVariants as kind
use Rattle.object_trait.specs.declared.event.EventKind.TheVariants.{Begin, Op, Commit, Abort}
use Rattle.store_laws.specs.Stored.{Stored}
use Rattle.store.specs.Examples.{roomy}
use Rattle.attempts.specs.Commands.{CallAt, with_kinds}

-- up at the second counter
abbrev pub one_up_call : List CallAt
one_up_call = (1, codes "inc:1") ∷ []

-- and down at the first
abbrev pub up_then_down : List CallAt
up_then_down = (1, codes "inc:1") ∷ (0, codes "dec:1") ∷ []

-- or at an object that isn't there
abbrev pub up_then_away : List CallAt
up_then_away = (1, codes "inc:1") ∷ (9, codes "inc:1") ∷ []

-- a store with room for more, after these events of worker 7
abbrev pub after_seven : List EventKind → Stored
after_seven kinds = with_kinds (roomy []) 7 kinds

-- it counted up, and committed
abbrev pub went_up : List EventKind
went_up = Begin 0 ∷ Op 0 0 1 ∷ Commit 0 ∷ []

-- then the first counter couldn't go down, and it aborted
abbrev pub not_down : List EventKind
not_down = Begin 0 ∷ Op 0 0 1 ∷ kind.None 0 0 1 ∷ Abort 0 ∷ []

-- or its second call had no event
abbrev pub came_back : List EventKind
came_back = Begin 0 ∷ Op 0 0 1 ∷ Abort 0 ∷ []
