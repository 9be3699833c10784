-- Where nothing is said, it is a beginning of what is said.
use Rattle.std.proofs.Common.{zero, ℕ, List, [], length, Option, Some, None, arith, refl, sym, append-nil}
use Rattle.std.specs.Prelude.{IfSome}
use Rattle.std.specs.Io.KnownBytes.{Appends}
use Rattle.sqlite_trees.specs.Tree.{Trees}
use Rattle.store.specs.Ends.{closing_but}
use Rattle.event_text.specs.EventText.{events_of_kinds}
use Rattle.durable_store.specs.Held.{prepared_numbers}
use Rattle.durable_store.specs.Durable as durable
use Rattle.journal.specs.Contents.{contents_of}
use Rattle.serve_command.specs.Found.{Finds, SaysFound}

-- what is held has some number of events and of open transactions
found : (held : Option Trees) → (count : ℕ) × (aborted : ℕ) × IfSome held (λ db. Finds (contents_of db) count aborted)
found (Some db) = (length (contents_of db).events, length (closing_but (prepared_numbers (durable.prepared_in (contents_of db))) (events_of_kinds (contents_of db).events)), record { happened = refl; were_open = refl })
found None = (zero, zero, tt)

-- known bytes grow by nothing
same_known : (old : Option (List ℕ)) → Appends old old []
same_known None = tt
same_known (Some xs) = sym (append-nil xs)

-- where nothing was taken, it is a beginning of what is said
pub nothing_said : (clean : Type 0) (held : Option Trees) (path : List ℕ) (err : Option (List ℕ)) → SaysFound clean held path err err
nothing_said clean held path err =
    let numbers = found held in
    record { count = numbers.0; aborted = numbers.1; time = zero; finds = λ c. numbers.2; said = (zero, omega arith, same_known err) }
