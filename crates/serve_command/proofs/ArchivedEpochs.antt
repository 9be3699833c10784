-- What an archive keeps of the epochs of a database.
use Rattle.std.proofs.Common.{◌≡◌, ◌∙◌, ℕ, sym, ap, subst, List, Option, Some, None, Result, Ok, Err}
use Rattle.std.specs.Prelude.{IfSome, OnOk}
use Rattle.sqlite_trees.specs.declared.store.Store.{Ghosts}
use Rattle.sqlite_trees.specs.Tree.{Trees}
use Rattle.sqlite_trees.specs.View.{IsClean}
use Rattle.journal.specs.Contents.{contents_of, with_least}
use Rattle.journal.specs.Journal.{Clean, ShowsCommit, written}
use Rattle.serving.proofs.LaterEpochs.{shown-durable}
use Rattle.durable_store.specs.declared.durable.Durable.{Durable}
use Rattle.durable_store.specs.Recovered.{recovered}
use Rattle.command_files.specs.declared.fault.Fault.{Fault}
use Rattle.command_files.specs.declared.status.Verdict.{Verdict}
use Rattle.serving.specs.Archives.{KeptHistory}
use Rattle.serving.specs.Epochs.{Reaches, WritesEpochs}
use Rattle.serve_command.specs.Archived.{ArchivesEpochs, KeepsBetween}
use Rattle.serve_command.specs.Served.{IsOpened, ServesIn}
use Rattle.serve_command.proofs.ServedLemmas.{at-path}

-- where all that was written is the last commit of these trees
pub keeps-at : {S : Type 0} (g : Ghosts S) (began now : Durable S) (trees : S) (kept kept_now : Option (List KeptHistory)) → trees ≡ now.journal.store → ShowsCommit g now.journal
    → WritesEpochs g began now kept kept_now → IsClean (g.view trees) → KeepsBetween (written g began.journal) (contents_of (g.view trees).committed) kept kept_now
keeps-at {S} g began now trees kept kept_now are shows writes clean =
    let at_end : Clean g now.journal = subst (λ (x : S). IsClean (g.view x)) are clean in
    let (ended, reached, keeps) = writes at_end in
    let last : written g now.journal ≡ contents_of (g.view trees).committed = sym (shown-durable g now shows at_end) ∙ sym (ap (λ (x : S). contents_of (g.view x).committed) are) in
    (ended, subst (λ c. Reaches (written g began.journal) ended c) last reached, keeps)

-- from what is held as it was opened
pub archives-at : {S : Type 0} (g : Ghosts S) (least : ℕ) (given taken given_now taken_now : Option (List ℕ)) (trees : S) (db : Trees) (began : Durable S) (held : Option Trees) (r : Result Verdict Fault)
    (kept kept_now : Option (List KeptHistory)) → (Clean g began.journal → IfSome held (λ x. db ≡ x)) → (Clean g began.journal → IsOpened least (contents_of db) (written g began.journal) began.store)
    → OnOk r (ServesIn g began given taken trees given_now taken_now) → OnOk r (IsClean (g.view trees) → KeepsBetween (written g began.journal) (contents_of (g.view trees).committed) kept kept_now)
    → OnOk r (ArchivesEpochs least (IsClean (g.view trees)) held (Some (g.view trees).committed) kept kept_now)
archives-at {S} g least given taken given_now taken_now trees db began held (Ok v) kept kept_now same found served keeps =
    λ clean.
    let was : Clean g began.journal = served.clean (subst (λ (x : S). IsClean (g.view x)) served.are clean) in
    let last = contents_of (g.view trees).committed in
    at-path db (λ x. KeepsBetween (with_least (recovered (contents_of x)) least) last kept kept_now) held (same was) (subst (λ c. KeepsBetween c last kept kept_now) (found was).left (keeps clean))
archives-at g least given taken given_now taken_now trees db began held (Err fault) kept kept_now same found served keeps = tt

-- what is held gives this
held-gives : {P Q : Trees → Type 0} (held : Option Trees) → ((x : Trees) → P x → Q x) → IfSome held P → IfSome held Q
held-gives (Some x) gives p = gives x p
held-gives None gives p = tt

-- to what is held as it is left
pub archives-under : (least : ℕ) {clean clean' : Type 0} (held left : Option Trees) (db : Trees) (r : Result Verdict Fault) (kept kept_now : Option (List KeptHistory)) → (clean' → clean)
    → OnOk r (clean' → IfSome left (λ x. db ≡ x)) → OnOk r (ArchivesEpochs least clean held (Some db) kept kept_now) → OnOk r (ArchivesEpochs least clean' held left kept kept_now)
archives-under least held left db (Ok v) kept kept_now sure same archives =
    λ c. held-gives held (λ was keeps. at-path db (λ x. KeepsBetween (with_least (recovered (contents_of was)) least) (contents_of x) kept kept_now) left (same c) keeps) (archives (sure c))
archives-under least held left db (Err fault) kept kept_now sure same archives = tt
