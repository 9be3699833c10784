-- What is left where serving ended before it began.
use Rattle.std.proofs.Common.{◌≡◌, ◌∙◌, ◌⊎◌, inl, inr, ℕ, List, Option, Some, None, Result, Ok, Err, false, sym, ap, subst}
use Rattle.std.specs.Prelude.{IfErr, IfSome, IsTrue, OnErr}
use Rattle.std.proofs.lemmas.Option.{same_Some}
use Rattle.sqlite_trees.specs.declared.store.Store.{Ghosts}
use Rattle.sqlite_trees.specs.Tree.{Trees}
use Rattle.sqlite_trees.specs.View.{IsClean}
use Rattle.journal.specs.Contents.{Contents, IsFile, contents_of, with_least}
use Rattle.journal.specs.Journal.{Clean, IsOpen, ShowsCommit, written}
use Rattle.durable_store.specs.declared.durable.Durable.{Durable}
use Rattle.durable_store.specs.Durable.{IsDurable}
use Rattle.durable_store.specs.Recovered.{IsRecovered, recovered}
use Rattle.command_files.specs.Status.{is_input}
use Rattle.command_files.specs.declared.fault.Fault.{Fault}
use Rattle.command_files.specs.declared.status.Verdict.{Verdict}
use Rattle.serve_command.specs.Served.{FailsBefore, IsAsOpened, IsHeld, IsOpened, IsUnserved, LeavesHeld, LeavesStaying, LeavesUnserved, StopsIn}
use Rattle.serve_command.proofs.ServedLemmas.{begins-under, cut-at, is-left}

-- ---- a file

unserved-same : (least : ℕ) (was now : Trees) → now ≡ was → IsUnserved least was now
unserved-same least was now same = record { left = inl same; known = ap (λ (db : Trees). (contents_of db).outcomes.at) same }

known-as : (least : ℕ) (said file : Contents) → IsAsOpened least said file → file.outcomes.at ≡ said.outcomes.at
known-as least said file (inl is) = ap (λ (c : Contents). c.outcomes.at) is
known-as least said file (inr is) = ap (λ (c : Contents). c.outcomes.at) is

as-opened : (least : ℕ) (was now : Trees) → IsFile now → IsAsOpened least (contents_of was) (contents_of now) → IsUnserved least was now
as-opened least was now file is = record { left = inr (file, is); known = known-as least (contents_of was) (contents_of now) is }

-- ---- trees

-- a database that wasn't opened
pub unopened : (least : ℕ) (clean : Type 0) (held left : Option Trees) → left ≡ held → LeavesUnserved least clean held (λ db. left ≡ Some db)
unopened least clean (Some was) left same = λ c db is. unserved-same least was db (same_Some db was (sym is ∙ same))
unopened least clean None left same = λ c. tt

-- one of which the store wasn't opened
pub opening-left : {S : Type 0} (g : Ghosts S) (least : ℕ) (trees last : S) (held : Option Trees)
    → ((db : Trees) → g.recovers last db → (IsClean (g.view trees) × IsTrue (g.view trees).is_open × IsFile db × (contents_of db ≡ recovered (contents_of (g.view trees).committed))) ⊎ g.recovers trees db)
    → IsHeld (g.view trees) held → LeavesHeld g trees held → LeavesUnserved least (IsClean (g.view trees) × IsClean (g.view last)) held (g.recovers last)
opening-left g least trees last (Some was) crash is leaves = λ c db left. elim (crash db left) [
  | inl it ↦ as-opened least was db it.2 (inl (it.3 ∙ ap (λ (x : Trees). recovered (contents_of x)) (is it.0 it.1)))
  | inr before ↦ unserved-same least was db (leaves c.0 db before)
]
opening-left g least trees last None crash is leaves = λ c. tt

-- one whose store was opened, of which it isn't sure that so many outcomes stay
pub staying-left : {S : Type 0} (g : Ghosts S) (least : ℕ) (trees last : S) (opened now : Durable S) (held : Option Trees) → last ≡ now.journal.store → LeavesStaying g least opened now → (Clean g now.journal → Clean g opened.journal)
    → IsDurable g opened → (Clean g opened.journal → IsOpen g opened.journal) → (Clean g opened.journal → IsTrue (g.view trees).is_open) → (Clean g opened.journal → IsRecovered g (contents_of (g.view trees).committed) opened)
    → ((db : Trees) → IsOpen g opened.journal → g.recovers opened.journal.store db → db ≡ (g.view opened.journal.store).committed)
    → IsHeld (g.view trees) held → LeavesUnserved least (IsClean (g.view trees) × IsClean (g.view last)) held (g.recovers last)
staying-left {S} g least trees last opened now (Some was) same crash sure sound is_open was_open finds settled is = λ c db left.
    let clean = sure (subst (λ (x : S). IsClean (g.view x)) same c.1) in
    let found = finds clean in
    let file = ap (λ (x : Trees). recovered (contents_of x)) (is c.0 (was_open clean)) in
    elim (crash db (subst (λ (x : S). g.recovers x db) same left)) [
      | inl it ↦ as-opened least was db it.0 (inr (it.1 ∙ ap (λ (d : Contents). with_least d least) (found.written ∙ file)))
      | inr before ↦
          let last_commit = settled db (is_open clean) before in
          as-opened least was db (subst IsFile (sym last_commit) ((sound.journal clean).0.kept (is_open clean))) (inl (ap contents_of last_commit ∙ found.durable ∙ file))
    ]
staying-left g least trees last opened now None same crash sure sound is_open was_open finds settled is = λ c. tt

-- ---- by how it ended

pub fails-at : {S : Type 0} {g : Ghosts S} {least : ℕ} {first : Type 0} (given taken given_now taken_now : Option (List ℕ)) (trees : S) (db : Trees) (began : Durable S) (held : Option Trees) (r : Result Verdict Fault)
    → IsDurable g began → ShowsCommit g began.journal → (Clean g began.journal → IfSome held (λ x. db ≡ x)) → (Clean g began.journal → IsOpened least (contents_of db) (written g began.journal) began.store)
    → (trees ≡ began.journal.store → LeavesUnserved least (first × IsClean (g.view trees)) held (g.recovers trees))
    → IfErr r (λ fault. ((taken_now ≡ taken) × (trees ≡ began.journal.store)) ⊎ ((is_input fault ≡ false) × StopsIn g began given taken trees given_now taken_now))
    → OnErr r (FailsBefore least (first × IsClean (g.view trees)) held (g.recovers trees) given given_now)
fails-at given taken given_now taken_now trees db began held (Ok v) sound shows same found unserved cut = tt
fails-at {S} {g} given taken given_now taken_now trees db began held (Err fault) sound shows same found unserved cut = elim cut [
  | inl none ↦ inl (unserved none.1)
  | inr part ↦
      let (text, begins, more) = cut-at db began held sound shows same found part.1 in
      inr (text, begins-under (g.recovers trees) (g.recovers trees) (λ c. c.1) (λ c x is. is) begins)
]

-- at a path
unserved-under : (least : ℕ) {clean clean' : Type 0} (held left : Option Trees) (may_be_left : Trees → Type 0) → (clean' → clean) → (clean' → IfSome left may_be_left) → LeavesUnserved least clean held may_be_left
    → LeavesUnserved least clean' held (λ db. left ≡ Some db)
unserved-under least (Some was) left may_be_left sure may leaves = λ c db is. leaves (sure c) db (is-left left may_be_left db (may c) is)
unserved-under least None left may_be_left sure may leaves = λ c. tt

pub fails-under : (least : ℕ) {opened first last clean : Type 0} (held left : Option Trees) (may_be_left : Trees → Type 0) (given given_now : Option (List ℕ)) (r : Result Verdict Fault) → (opened → first) → (clean → last) → OnErr r (clean → opened)
    → OnErr r (clean → IfSome left may_be_left) → OnErr r (FailsBefore least (first × last) held may_be_left given given_now) → OnErr r (FailsBefore least clean held (λ db. left ≡ Some db) given given_now)
fails-under least held left may_be_left given given_now (Ok v) begins sure before may fails = tt
fails-under least held left may_be_left given given_now (Err fault) begins sure before may fails = elim fails [
  | inl unserved ↦ inl (unserved-under least held left may_be_left (λ c. (begins (before c), sure c)) may unserved)
  | inr part ↦ inr (part.0, begins-under may_be_left (λ db. left ≡ Some db) (λ c. (begins (before c), sure c)) (λ c x is. is-left left may_be_left x (may c) is) part.1)
]
