-- What `history DATABASE` answers.
use Rattle.std.specs.Prelude.{◌≡◌, ℕ, List, Option, IfSome}
use Rattle.sqlite_trees.specs.Tree.{Trees}
use Rattle.event_text.specs.EventText.{events_of_kinds}
use Rattle.history_text.specs.Canonical.{canonical_text}
use Rattle.journal.specs.Contents.{Contents, contents_of}
use Rattle.command_files.specs.Answers.{Answers}
use Rattle.command_files.specs.declared.status.Verdict.TheVariants.{Yes, No}

-- the text of the present epoch: the objects, and the events since it began, by worker 0
abbrev pub text_of_epoch : Contents → List ℕ
text_of_epoch c = canonical_text c.objects (events_of_kinds c.events)

-- yes with the text of what is held, if no wrong answer of a disk was taken as true; never no
abbrev pub TellsHistory : Type 0 → Option Trees → Answers
TellsHistory clean held Yes text = clean → IfSome held (λ db. text ≡ text_of_epoch (contents_of db))
TellsHistory clean held No text = ⊥
