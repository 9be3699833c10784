-- What is served at trees is served at the path of their database.
use Rattle.std.proofs.Common.{◌≡◌, ◌∙◌, inl, inr, ℕ, suc, ◌-◌, List, length, ◌++◌, refl, sym, ap, subst, Option, Some, None, Result, Ok, Err, arith, ◌⊎◌, true, false}
use Rattle.std.proofs.Math.Seq.{take-append-le}
use Rattle.std.proofs.KnownBytes.{Appends-trans}
use Rattle.std.proofs.lemmas.List.{append-nil, length-append, length-map}
use Rattle.std.specs.Prelude.{IfErr, IfOk, IfSome, MatchBool, MatchResult, OnErr, OnOk}
use Rattle.std.specs.Io.KnownBytes.{Appends}
use Rattle.sqlite_trees.specs.declared.store.Store.{Ghosts}
use Rattle.sqlite_trees.specs.Tree.{Trees}
use Rattle.sqlite_trees.specs.View.{IsClean}
use Rattle.store_laws.specs.Stored.{Stored}
use Rattle.event_text.specs.EventText.{events_of_kinds}
use Rattle.journal.specs.Contents.{Contents, contents_of}
use Rattle.journal.specs.Journal.{Clean, ShowsCommit, written}
use Rattle.journal.specs.declared.prepared_row.Prepared.{Prepared}
use Rattle.durable_store.specs.declared.durable.Durable.{Durable}
use Rattle.store.specs.Ends.{closing_but}
use Rattle.durable_store.specs.Held.{prepared_numbers}
use Rattle.durable_store.specs.Durable as durable
use Rattle.durable_store.specs.Durable.{IsDurable, with_all}
use Rattle.request_text.specs.declared.request.Asked.{Asked}
use Rattle.serving.specs.declared.answer_line.Answered.{Answered}
use Rattle.serving.specs.declared.extension.Extension.{Extension}
use Rattle.serving.specs.EpochEnd.{EndsEpoch, EndsInEpoch, ends_epoch, last_answers}
use Rattle.serving.specs.Epochs.{closed_by}
use Rattle.serving.specs.NextEpoch.{late_answer}
use Rattle.serving.specs.Served.{Serves}
use Rattle.serving.specs.Told.{AppendsPart, answers_text, greeting}
use Rattle.serving.specs.Names.{KnownNames, given_names}
use Rattle.serving.specs.Server.{life_of, first_names}
use Rattle.serving.proofs.Premises.{serves-weaker}
use Rattle.serving.proofs.HeldSaid.{held-said, held-written}
use Rattle.command_files.specs.Answers.{IsEarlyFault}
use Rattle.command_files.specs.Status.{is_input}
use Rattle.command_files.specs.declared.fault.Fault.{Fault}
use Rattle.command_files.specs.declared.fault.Fault.TheVariants.{Usage, Text, NoType, NeedsEscrow, ObjectNeedsEscrow, NameTaken, OtherObjects, Order, HasEvents, BadParameter, TooLarge, CannotRead, Database, NoStore, NoMemory, Output}
use Rattle.command_files.specs.declared.status.Verdict.{Verdict}
use Rattle.command_files.specs.declared.status.Verdict.TheVariants.{Yes}
use Rattle.serve_command.specs.Found.{Finds, SaysFound, found_text}
use Rattle.serve_command.proofs.NewEpochs.{begins-epoch, stays-in-life}
use Rattle.serve_command.specs.Served.{BeginsEpoch, BeginsBefore, BeginsServing, ComesOfServing, IsOpened, IsServed, KeepsFile, RenewsFile, StaysInLife, ServesDatabase, ServesIn, StopsIn, ClientWork, epoch_events, told_text}

-- ---- under another premise

abbrev work-under : {least : ℕ} {clean clean' : Type 0} {held : Option Trees} → (clean' → clean) → ClientWork least clean held → ClientWork least clean' held
work-under sure w = record {
  names = w.names;
  file = w.file;
  began = w.began;
  lines = w.lines;
  told = w.told;
  last = w.last;
  said = w.said;
  reached = w.reached;
  ended = w.ended;
  waits = w.waits;
  lives = λ c. w.lives (sure c);
  named = λ c. w.named (sure c);
  opened = λ c. w.opened (sure c);
  serves = serves-weaker sure w.serves;
}

-- where the last commit is what is held
pub at-path : (db : Trees) (P : Trees → Type 0) (left : Option Trees) → IfSome left (λ x. db ≡ x) → P db → IfSome left P
at-path db P (Some x) same p = subst P same p
at-path db P None same p = tt

ends-under : {least : ℕ} {clean clean' : Type 0} {held : Option Trees} (db : Trees) (left : Option Trees) (sure : clean' → clean) → (clean' → IfSome left (λ x. db ≡ x)) → (w : ClientWork least clean held) (prepared : List Prepared)
    → MatchBool (ends_epoch w.waits w.ended) (RenewsFile w prepared (Some db)) (KeepsFile w prepared (Some db))
    → MatchBool (ends_epoch w.waits w.ended) (RenewsFile (work-under sure w) prepared left) (KeepsFile (work-under sure w) prepared left)
ends-under {least} {clean} {clean'} {held} db left sure same w prepared ends =
    elim (ends_epoch w.waits w.ended) as (λ v. MatchBool v (RenewsFile w prepared (Some db)) (KeepsFile w prepared (Some db)) → MatchBool v (RenewsFile (work-under sure w) prepared left) (KeepsFile (work-under sure w) prepared left)) [
      | true ↦ λ it. record {
        now = it.now;
        goes_on = it.goes_on;
        renews = it.renews;
        left_is = λ c. at-path db (λ x. BeginsEpoch w.file w.said w.waits w.last.life x it.now it.goes_on) left (same c) (it.left_is (sure c));
      }
      | false ↦ λ it c. at-path db (StaysInLife w.file w.said w.last.life (closed_by false prepared w.reached)) left (same c) (it (sure c))
    ] ends

served-under : {least : ℕ} {clean clean' : Type 0} {held : Option Trees} {db : Trees} {given given_now : Option (List ℕ)} {text : List ℕ} (left : Option Trees) → (clean' → clean) → (clean' → IfSome left (λ x. db ≡ x))
    → IsServed least clean held (Some db) given given_now text → IsServed least clean' held left given given_now text
served-under {least} {clean} {clean'} {held} {db} {given} {given_now} {text} left sure same s = record {
  work = work-under sure s.work;
  seen = s.seen;
  half = s.half;
  rest = s.rest;
  consumed = s.consumed;
  asked = s.asked;
  all = s.all;
  told = s.told;
  prepared = s.prepared;
  are = λ c. s.are (sure c);
  ends = ends-under db left sure same s.work s.prepared s.ends;
}

-- where what is held at a path may be left, and is this
pub is-left : (left : Option Trees) (may_be_left : Trees → Type 0) (x : Trees) → IfSome left may_be_left → left ≡ Some x → may_be_left x
is-left left may_be_left x may is = subst (λ (held : Option Trees). IfSome held may_be_left) is may

pub begins-under : {least : ℕ} {clean clean' : Type 0} {held : Option Trees} (may may_now : Trees → Type 0) {given given_now : Option (List ℕ)} {text : List ℕ} → (clean' → clean) → (clean' → (x : Trees) → may_now x → may x)
    → BeginsBefore least clean held may given given_now text → BeginsBefore least clean' held may_now given given_now text
begins-under may may_now sure less it = record {
  work = work-under sure it.work;
  told = it.told;
  read = it.read;
  leaves = λ c.
      let leaves = it.leaves (sure c) in
      record { left = λ x is. leaves.left x (less c x is); found = λ t tells x is. leaves.found t tells x (less c x is) };
}

under : (least : ℕ) {clean clean' : Type 0} (held left : Option Trees) (db : Trees) (may_be_left : Trees → Type 0) (given given_now taken taken_now : Option (List ℕ)) (r : Result Verdict Fault) → (clean' → clean)
    → OnOk r (clean' → IfSome left (λ x. db ≡ x)) → OnErr r (clean' → IfSome left may_be_left)
    → ComesOfServing (BeginsBefore least clean held may_be_left given given_now) (ServesDatabase least clean held (Some db) given given_now) r taken taken_now
    → ComesOfServing (BeginsServing least clean' held left given given_now) (ServesDatabase least clean' held left given given_now) r taken taken_now
under least held left db may_be_left given given_now taken taken_now (Ok v) sure same may c = (c.0, (c.1.0, served-under left sure same c.1.1), c.2)
under least held left db may_be_left given given_now taken taken_now (Err fault) sure same may c = elim c [
  | inl none ↦ inl none
  | inr part ↦ inr (part.0, (part.1.0, begins-under may_be_left (λ x. left ≡ Some x) sure (λ c x is. is-left left may_be_left x (may c) is) part.1.1, part.1.2))
]

-- and of an output that is this one
pub comes-under : (least : ℕ) {clean clean' : Type 0} {taken taken_now taken' taken_now' : Option (List ℕ)} (held left : Option Trees) (db : Trees) (may_be_left : Trees → Type 0) (given given_now : Option (List ℕ)) (r : Result Verdict Fault)
    → taken ≡ taken' → taken_now ≡ taken_now' → (clean' → clean) → OnOk r (clean' → IfSome left (λ x. db ≡ x)) → OnErr r (clean' → IfSome left may_be_left)
    → ComesOfServing (BeginsBefore least clean held may_be_left given given_now) (ServesDatabase least clean held (Some db) given given_now) r taken taken_now
    → ComesOfServing (BeginsServing least clean' held left given given_now) (ServesDatabase least clean' held left given given_now) r taken' taken_now'
comes-under least {clean} {clean'} {taken} {taken_now} {taken'} {taken_now'} held left db may_be_left given given_now r is is_now sure same may c =
    subst (λ t. ComesOfServing (BeginsServing least clean' held left given given_now) (ServesDatabase least clean' held left given given_now) r t taken_now') is
    (subst (λ t. ComesOfServing (BeginsServing least clean' held left given given_now) (ServesDatabase least clean' held left given given_now) r taken t) is_now
    (under least held left db may_be_left given given_now taken taken_now r sure same may c))

-- ---- by how it ended

pub of-fault : {T E : Type 0} {Q : Type 0} (P : Type 0) (r : Result T E) (e : E) → r ≡ Err e → MatchResult r (λ x. P) (λ x. Q) → Q
of-fault P (Ok x) e is p = absurd cc
of-fault P (Err x) e is p = p

-- ---- from a store to its trees

-- the work of lines that were served
abbrev work-of : {S : Type 0} (g : Ghosts S) (least : ℕ) (clean : Type 0) (lines : List (List ℕ)) (told : List Answered) (last : KnownNames) (said : Contents) (reached : Stored) (ended : Option Asked) (waits : Option Extension) (held : Option Trees) (db : Trees) (began : Durable S)
    → IsDurable g began → ShowsCommit g began.journal → (clean → Clean g began.journal) → (Clean g began.journal → IfSome held (λ x. db ≡ x)) → (Clean g began.journal → IsOpened least (contents_of db) (written g began.journal) began.store)
    → Serves clean epoch_events (written g began.journal) (first_names began) lines began.store told last said reached ended waits → ClientWork least clean held
work-of g least clean lines told last said reached ended waits held db began sound shows sure same found serves = record {
  names = first_names began;
  file = written g began.journal;
  began = began.store;
  lines = lines;
  told = told;
  last = last;
  said = said;
  reached = reached;
  ended = ended;
  waits = waits;
  lives = λ c. let now = sure c in (began.journal.header, (sound.journal now).0.header_is (shows now).0.sound, refl);
  named = λ c. ap (given_names (life_of began)) (held-written g began sound (sure c));
  opened = λ c. at-path db (λ x. IsOpened least (contents_of x) (written g began.journal) began.store) held (same (sure c)) (found (sure c));
  serves = serves;
}

-- a client that was served
served-at : {S : Type 0} {g : Ghosts S} {least : ℕ} {given taken given_now taken_now : Option (List ℕ)} {trees : S} (db : Trees) (began : Durable S) (held : Option Trees) → IsDurable g began → ShowsCommit g began.journal → (Clean g began.journal → IfSome held (λ x. db ≡ x))
    → (Clean g began.journal → IsOpened least (contents_of db) (written g began.journal) began.store) → ServesIn g began given taken trees given_now taken_now
    → (text : List ℕ) × IsServed least (IsClean (g.view trees)) held (Some (g.view trees).committed) given given_now text × Appends taken taken_now text
served-at {S} {g} {least} {given} {taken} {given_now} {taken_now} {trees} db began held sound shows same found s =
    subst (λ (x : S). (text : List ℕ) × IsServed least (IsClean (g.view x)) held (Some (g.view x).committed) given given_now text × Appends taken taken_now text) (sym s.are)
    (let sc = s.serves in
    let has = sc.tells in
    let work : ClientWork least (Clean g s.now.journal) held = work-of g least (Clean g s.now.journal) has.served.lines has.told sc.served.session.names has.served.said sc.served.session.store.store sc.served.end sc.served.session.waiting held db began sound shows s.clean same found
    (serves-weaker sc.clean
    (subst (λ all. Serves (Clean g sc.served.session.store.journal) epoch_events (written g began.journal) (first_names began) has.served.lines began.store all sc.served.session.names has.served.said sc.served.session.store.store sc.served.end sc.served.session.waiting)
    (ap (λ more. has.told ++ more) has.waits ∙ append-nil has.told) has.served.serves)) in
    let ps = sc.served.session.store.prepared.items in
    let left : Option Trees = Some (g.view s.now.journal.store).committed in
    let ends : MatchBool (ends_epoch sc.served.session.waiting sc.served.end) (RenewsFile work ps left) (KeepsFile work ps left) =
    elim (ends_epoch sc.served.session.waiting sc.served.end) as (λ v. MatchBool v (EndsEpoch g false sc.served.session.waiting sc.served.session.store s.now) (EndsInEpoch g sc.served.session.store s.now)
    → MatchBool v (RenewsFile work ps left) (KeepsFile work ps left)) [
      | true ↦ λ renews. record {
        now = s.now.store;
        goes_on = s.now.prepared.items;
        renews = renews.store;
        left_is = λ c.
            let (ended, reached, _) = has.served.lasts.reaches (sc.clean c) in
            let lives = ap suc (sym has.served.lasts.named) in
            begins-epoch g (written g began.journal) has.served.said sc.served.session.waiting ended sc.served.session.store s.now sc.served.session.names.life reached (has.served.says (sc.clean c)) s.sound s.shows c (renews.durable c) (renews.life c ∙ lives);
      }
      | false ↦ λ goes c.
          let (ended, reached, _) = has.served.lasts.reaches (sc.clean c) in
          stays-in-life g (written g began.journal) has.served.said ended sc.served.session.store s.now sc.served.session.names.life reached (has.served.says (sc.clean c)) s.sound s.shows c goes (sym has.served.lasts.named)
    ] sc.renews in (
      (greeting (life_of began) ++ answers_text has.told) ++ answers_text (last_answers (late_answer sc.served.session.waiting sc.served.session.store.store) sc.served.end),
      record {
        work = work;
        seen = has.seen;
        half = has.served.half;
        rest = has.rest;
        consumed = has.consumed;
        asked = has.served.asked;
        all = λ none. (has.all none, sc.asked none);
        told = refl;
        prepared = sc.served.session.store.prepared.items;
        are = λ c. held-said g has.served.said sc.served.session.store has.served.lasts.sound (sc.clean c) (has.served.says (sc.clean c));
        ends = ends;
      },
      Appends-trans taken sc.answered taken_now (greeting (life_of began) ++ answers_text has.told) (answers_text (last_answers (late_answer sc.served.session.waiting sc.served.session.store.store) sc.served.end))
          (Appends-trans taken sc.greeted sc.answered (greeting (life_of began)) (answers_text has.told) sc.greets has.appended) sc.ends,
    ))

-- a client that got a beginning
part-more : (a b : Option (List ℕ)) (x y : List ℕ) → AppendsPart a b x → AppendsPart a b (x ++ y)
part-more a b x y (n, within, part) = (n, omega (arith, length-append x y), subst (Appends a b) (sym (take-append-le n x y within)) part)

pub cut-at : {S : Type 0} {g : Ghosts S} {least : ℕ} {given taken given_now taken_now : Option (List ℕ)} {trees : S} (db : Trees) (began : Durable S) (held : Option Trees) → IsDurable g began → ShowsCommit g began.journal → (Clean g began.journal → IfSome held (λ x. db ≡ x))
    → (Clean g began.journal → IsOpened least (contents_of db) (written g began.journal) began.store) → StopsIn g began given taken trees given_now taken_now
    → (text : List ℕ) × BeginsBefore least (IsClean (g.view trees)) held (g.recovers trees) given given_now text × AppendsPart taken taken_now text
cut-at {S} {g} {least} {given} {taken} {given_now} {taken_now} {trees} db began held sound shows same found s =
    subst (λ (x : S). (text : List ℕ) × BeginsBefore least (IsClean (g.view x)) held (g.recovers x) given given_now text × AppendsPart taken taken_now text) (sym s.are)
    (let stops = s.stops in
    let work : ClientWork least (Clean g s.now.journal) held = work-of g least (Clean g s.now.journal) stops.lines stops.answers stops.names stops.said stops.reached stops.ended stops.waits held db began sound shows s.clean same found stops.serves in (
      told_text work,
      record { work = work; told = refl; read = stops.read; leaves = λ clean. record { left = s.left clean; found = s.found clean } },
      elim stops.told [
        | inl part ↦ part-more taken taken_now (greeting (life_of began) ++ answers_text stops.answers) (answers_text (last_answers (late_answer stops.waits stops.reached) stops.ended)) part
        | inr part ↦ part.3
      ],
    ))

-- what comes of a store that was opened
pub comes-at : {S : Type 0} {g : Ghosts S} {least : ℕ} (given taken given_now taken_now : Option (List ℕ)) (trees : S) (db : Trees) (began : Durable S) (held : Option Trees) (r : Result Verdict Fault)
    → IsDurable g began → ShowsCommit g began.journal → (Clean g began.journal → IfSome held (λ x. db ≡ x)) → (Clean g began.journal → IsOpened least (contents_of db) (written g began.journal) began.store) → IfOk r (λ v. v ≡ Yes)
    → OnOk r (ServesIn g began given taken trees given_now taken_now) → IfErr r (λ fault. ((taken_now ≡ taken) × (trees ≡ began.journal.store)) ⊎ ((is_input fault ≡ false) × StopsIn g began given taken trees given_now taken_now))
    → ComesOfServing (BeginsBefore least (IsClean (g.view trees)) held (g.recovers trees) given given_now) (ServesDatabase least (IsClean (g.view trees)) held (Some (g.view trees).committed) given given_now) r taken taken_now
comes-at given taken given_now taken_now trees db began held (Ok v) sound shows same found says told cut = let (text, served, more) = served-at db began held sound shows same found told in (text, (says, served), more)
comes-at given taken given_now taken_now trees db began held (Err fault) sound shows same found says told cut = elim cut [ inl none ↦ inl none.0 | inr part ↦ inr (part.0, cut-at db began held sound shows same found part.1) ]

-- a fault that is nothing of what the user gave
pub is-no-input : (fault : Fault) → IsEarlyFault ⊥ fault → is_input fault ≡ false
is-no-input (Usage text) refused = absurd refused
is-no-input (Text path f) refused = absurd refused
is-no-input (NoType path x place) refused = absurd refused
is-no-input (NeedsEscrow path) refused = absurd refused
is-no-input (ObjectNeedsEscrow path x) refused = absurd refused
is-no-input (NameTaken path x) refused = absurd refused
is-no-input (OtherObjects path first) refused = absurd refused
is-no-input (Order path fault) refused = absurd refused
is-no-input (HasEvents path) refused = absurd refused
is-no-input BadParameter refused = absurd refused
is-no-input TooLarge refused = absurd refused
is-no-input (CannotRead path) refused = refl
is-no-input (Database path f) refused = refl
is-no-input (NoStore path) refused = absurd refused
is-no-input NoMemory refused = refl
is-no-input Output refused = refl

-- ---- what was found

-- of the file that the store was opened of
found-at : {S : Type 0} (g : Ghosts S) (least : ℕ) (db : Trees) (began : Durable S) (held : Option Trees) (clean : Type 0) (count aborted time : ℕ) (path : List ℕ) (err err_now : Option (List ℕ))
    → (clean → Clean g began.journal) → (Clean g began.journal → IfSome held (λ x. db ≡ x)) → (Clean g began.journal → IsOpened least (contents_of db) (written g began.journal) began.store)
    → (Clean g began.journal → count ≡ length (contents_of db).events) → aborted ≡ length began.store.history - count → AppendsPart err err_now (found_text path count aborted time)
    → SaysFound clean held path err err_now
found-at g least db began held clean count aborted time path err err_now sure same found counted rest said = record {
  count = count;
  aborted = aborted;
  time = time;
  finds = λ c.
      let begins : Clean g began.journal = sure c in
      let file = (contents_of db).events in
      let all = ap length (found begins).history ∙ length-append (events_of_kinds file) (closing_but (prepared_numbers (durable.prepared_in (contents_of db))) (events_of_kinds file)) in
      let many : length (events_of_kinds file) ≡ length file = length-map file _ in
      at-path db (λ x. Finds (contents_of x) count aborted) held (same begins)
      (record { happened = counted begins; were_open = omega (arith, rest, all, many, counted begins) });
  said = said;
}

-- where it was served
pub says-at : {S : Type 0} (g : Ghosts S) (least : ℕ) (given taken given_now taken_now : Option (List ℕ)) (trees : S) (db : Trees) (began : Durable S) (held : Option Trees) (r : Result Verdict Fault) (count aborted time : ℕ)
    (path : List ℕ) (err err_now : Option (List ℕ)) → (Clean g began.journal → IfSome held (λ x. db ≡ x)) → (Clean g began.journal → IsOpened least (contents_of db) (written g began.journal) began.store)
    → (Clean g began.journal → count ≡ length (contents_of db).events) → aborted ≡ length began.store.history - count → AppendsPart err err_now (found_text path count aborted time)
    → OnOk r (ServesIn g began given taken trees given_now taken_now) → OnOk r (SaysFound (IsClean (g.view trees)) held path err err_now)
says-at {S} g least given taken given_now taken_now trees db began held (Ok v) count aborted time path err err_now same found counted rest said s =
    found-at g least db began held (IsClean (g.view trees)) count aborted time path err err_now (λ c. s.clean (subst (λ (x : S). IsClean (g.view x)) s.are c)) same found counted rest said
says-at g least given taken given_now taken_now trees db began held (Err fault) count aborted time path err err_now same found counted rest said s = tt

-- under another premise
pub says-under : {clean clean' : Type 0} (held : Option Trees) (r : Result Verdict Fault) (path : List ℕ) (err err_now : Option (List ℕ)) → (clean' → clean)
    → OnOk r (SaysFound clean held path err err_now) → OnOk r (SaysFound clean' held path err err_now)
says-under held (Ok v) path err err_now sure s = record { count = s.count; aborted = s.aborted; time = s.time; finds = λ c. s.finds (sure c); said = s.said }
says-under held (Err fault) path err err_now sure s = tt
