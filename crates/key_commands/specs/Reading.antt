-- What was read of the file of a store.
use Rattle.std.specs.Prelude.{◌≡◌, ℕ, List, Option, IfSome}
use Rattle.sqlite_trees.specs.Tree.{Trees}
use Rattle.transaction_key.specs.TransactionKey.{key_place}
use Rattle.journal.specs.Contents.{Contents, contents_of}
use Rattle.key_commands.specs.declared.reading.Reading.{Reading}
use Rattle.key_commands.specs.Held.{prepared_in}

-- of a file that says this, with what is kept at the place of a key, where one is asked for
pub record ReadsFile (c : Contents) (key : Option (List ℕ)) (r : Reading) : Type 0 where
  pub happened_are : r.happened.items ≡ c.events
  pub held_are : r.held.items ≡ prepared_in c
  pub kept_is : IfSome key (λ k. r.kept ≡ c.outcomes.at (key_place k))

-- a path has a file that says what the file said that it had
abbrev pub StaysAs : Option Trees → Contents → Type 0
StaysAs left c = IfSome left (λ now. contents_of now ≡ c)

-- of what a path held, if no wrong answer of a disk was taken as true, and the path is left so
abbrev pub ReadsPath : Type 0 → Option Trees → Option Trees → Option (List ℕ) → Reading → Type 0
ReadsPath clean found left key r = clean → IfSome found (λ was. ReadsFile (contents_of was) key r × StaysAs left (contents_of was))
