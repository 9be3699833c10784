use Rattle.std.proofs.Common.{◌≡◌, ℕ, Bool, cond, List, IfOk, IsTrue, ap₂, subst}
use Rattle.sqlite_disk.specs.Events.{Event, replay}
use Rattle.sqlite_trees.specs.Tree.{Trees}
use Rattle.sqlite_trees.specs.View.{IsClean}
use Rattle.sqlite_wal.specs.Recovery.{Image}
use Rattle.sqlite.specs.Files.{HoldsDatabase, over_files}
use Rattle.database_files.proofs.files.trees_at.Goals as goal

abbrev image : List ℕ → List ℕ → Image
image log db = record { log = log; db = db }

-- what is seen of a file is what it held, since nothing has happened
abbrev seen : List ℕ → List ℕ → Bool → List Event → List ℕ
seen log db is_log history = (replay (cond is_log log db) history).seen

pub returns-clause-found : goal.returns-clause-found
returns-clause-found g c =
    let (log, db) = c.in_ok-files.ensures.fresh in
    let same = ap₂ image (ap₂ (seen g.S.Start.log g.S.Start.db) log.0 log.1) (ap₂ (seen g.S.Start.log g.S.Start.db) db.0 db.1) in
    subst (λ (i : Image). IfOk c.trees_over.result (λ trees. IsClean (over_files.view trees) → IsTrue (over_files.view trees).is_open → (db : Trees) → HoldsDatabase i db → (over_files.view trees).committed ≡ db))
    same c.trees_over.ensures.found
