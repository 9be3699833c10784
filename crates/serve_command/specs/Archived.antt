-- What the archive of `serve DATABASE` keeps.
use Rattle.std.specs.Prelude.{ℕ, List, Option, IfSome}
use Rattle.sqlite_trees.specs.Tree.{Trees}
use Rattle.journal.specs.Contents.{Contents, contents_of, with_least}
use Rattle.durable_store.specs.Recovered.{recovered}
use Rattle.serving.specs.Archives.{KeepsEpochs, KeptHistory}
use Rattle.serving.specs.Epochs.{Reaches}

-- between one file and another epochs ended: the archive keeps, after what it kept, the history of each of them, as the file said it at its end, in
-- their order, and nothing else
abbrev pub KeepsBetween : Contents → Contents → Option (List KeptHistory) → Option (List KeptHistory) → Type 0
KeepsBetween first last kept kept_now = (ended : List Contents) × Reaches first ended last × KeepsEpochs kept kept_now ended

-- this of what is held at a path, as it was opened, where at least so many of the last outcomes stay, and as it is left; if no wrong answer of a disk
-- was taken as true
abbrev pub ArchivesEpochs : ℕ → Type 0 → Option Trees → Option Trees → Option (List KeptHistory) → Option (List KeptHistory) → Type 0
ArchivesEpochs least clean held left kept kept_now =
    clean → IfSome held (λ was. IfSome left (λ now. KeepsBetween (with_least (recovered (contents_of was)) least) (contents_of now) kept kept_now))
