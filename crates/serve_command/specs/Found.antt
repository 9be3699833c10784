-- What `serve DATABASE` says that it found.
use Rattle.std.specs.Prelude.{◌≡◌, ℕ, List, [], ◌∷◌, length, codes, Option, IfSome}
use Rattle.std.specs.Fmt.{decimal}
use Rattle.std.specs.List.{flat_map}
use Rattle.sqlite_trees.specs.Tree.{Trees}
use Rattle.store.specs.Ends.{closing_but}
use Rattle.event_text.specs.EventText.{events_of_kinds}
use Rattle.journal.specs.Contents.{Contents, contents_of}
use Rattle.durable_store.specs.Durable as durable
use Rattle.durable_store.specs.Held.{prepared_numbers}
use Rattle.serving.specs.Told.{AppendsPart}

-- the line: how many events the file at a path had, how many transactions were open in it, weren't prepared, and are aborted, and how many milliseconds it took
abbrev pub found_text : List ℕ → ℕ → ℕ → ℕ → List ℕ
found_text path count aborted time = flat_map (λ (piece : List ℕ). piece)
    (codes "colock: " ∷ path ∷ codes ": " ∷ decimal count ∷ codes " events, " ∷ decimal aborted ∷ codes " aborted, " ∷ decimal time ∷ codes " ms\n" ∷ [])

-- this many events, and this many open transactions that aren't prepared
pub record Finds (file : Contents) (count aborted : ℕ) : Type 0 where
  pub happened : count ≡ length file.events
  pub were_open : aborted ≡ length (closing_but (prepared_numbers (durable.prepared_in file)) (events_of_kinds file.events))

-- standard error took the line, or where it failed a beginning; what it says is what is held, if no wrong answer of a disk was taken as true
pub record SaysFound (clean : Type 0) (held : Option Trees) (path : List ℕ) (err err_now : Option (List ℕ)) : Type 0 where
  pub count : ℕ
  pub aborted : ℕ
  pub time : ℕ
  pub finds : clean → IfSome held (λ db. Finds (contents_of db) count aborted)
  pub said : AppendsPart err err_now (found_text path count aborted time)
