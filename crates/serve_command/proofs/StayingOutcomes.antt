-- A store that was opened, of which at least so many of the last outcomes stay from now on.
use Rattle.std.proofs.Common.{◌≡◌, ◌∙◌, ℕ, sym, ap, subst}
use Rattle.sqlite_trees.specs.declared.store.Store.{Ghosts}
use Rattle.journal.specs.Contents.{Contents, with_least}
use Rattle.journal.specs.declared.journal.Journal.{Journal}
use Rattle.journal.specs.Journal.{Clean, written}
use Rattle.durable_store.specs.declared.durable.Durable.{Durable}
use Rattle.durable_store.specs.Types.{HasTypes}
use Rattle.durable_store.specs.Recovered.{IsRecovered}
use Rattle.serve_command.specs.Served.{IsOpened}

-- the store of what a file said
pub opened-at : {S : Type 0} (g : Ghosts S) (least : ℕ) (c : Contents) (opened began : Durable S) → (Clean g began.journal → Clean g opened.journal) → (Clean g opened.journal → IsRecovered g c opened)
    → began.store.types ≡ opened.store.types → began.store.history ≡ opened.store.history → (Clean g began.journal → written g began.journal ≡ with_least (written g opened.journal) least)
    → Clean g began.journal → IsOpened least c (written g began.journal) began.store
opened-at g least c opened began sure found types same stays clean =
    let is = found (sure clean) in
    record {
      types = subst (HasTypes c) (sym types) is.types;
      history = same ∙ is.history;
      left = stays clean ∙ ap (λ (d : Contents). with_least d least) is.written;
    }

-- where so many stay already, nothing is to be written
pub stays-so : {S : Type 0} (g : Ghosts S) (j : Journal S) (least : ℕ) → j.numbers.least ≡ least → written g j ≡ with_least (written g j) least
stays-so g j least same = ap (with_least (written g j)) same
