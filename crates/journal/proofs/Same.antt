-- Two readings of a file that agree in each part.
use Rattle.std.proofs.Common.{◌≡◌, refl}
use Rattle.journal.specs.declared.contents.FileContents.{FileContents}
use Rattle.journal.specs.Said.{contents}

pub same-contents : (a b : FileContents) → a.events.items ≡ b.events.items → a.header ≡ b.header → a.types.items ≡ b.types.items → a.objects.items ≡ b.objects.items → a.states.items ≡ b.states.items → a.prepared.items ≡ b.prepared.items
    → contents a ≡ contents b
same-contents a b events header types objects states prepared = rw (events, header, types, objects, states, prepared) refl
