-- A session goes on, epoch after epoch.
use Rattle.std.proofs.Common.{◌≡◌, ◌∙◌, inl, inr, ℕ, suc, Bool, true, Option, None, Result, Ok, Err, List, [], ◌∷◌, ◌++◌, length, refl, sym, ap, subst}
use Rattle.std.proofs.lemmas.List.{append_assoc, append-nil}
use Rattle.std.specs.Prelude.{OnOk}
use Rattle.std.specs.declared.vec.Vec.{Vec}
use Rattle.std.specs.declared.alloc.Global.{Global}
use Rattle.std.specs.Io.KnownBytes.{Appends}
use Rattle.std.proofs.KnownBytes.{Appends-trans}
use Rattle.sqlite_trees.specs.declared.store.Store.{Ghosts}
use Rattle.journal.specs.declared.header.Header.{Header}
use Rattle.journal.specs.Contents.{Contents, contents_by, contents_of, with_pending}
use Rattle.journal.proofs.Outcomes.{all-counted}
use Rattle.journal.proofs.Writes.{none-pending}
use Rattle.journal.specs.Journal.{Clean, IsJournal, ShowsCommit, durable, written}
use Rattle.store_laws.specs.Stored.{Stored}
use Rattle.durable_store.specs.declared.durable.Durable.{Durable}
use Rattle.durable_store.specs.Durable.{IsDurable, prepared_in, with_all}
use Rattle.durable_store.specs.Recovered.{IsStoreOf}
use Rattle.journal.specs.declared.prepared_row.Prepared.{Prepared}
use Rattle.serving.specs.declared.answer_line.Answered.{Answered}
use Rattle.serving.specs.declared.extension.Extension.{Extension}
use Rattle.serving.specs.declared.session.Session.{Session}
use Rattle.serving.specs.declared.server.Server.{Server}
use Rattle.serving.specs.Archives.{KeepsEpochs, KeptHistory, life_in}
use Rattle.serving.specs.Does.{is_epoch_full}
use Rattle.serving.specs.EpochEnd.{EndsEpoch, LeavesNext, last_answers}
use Rattle.serving.specs.Epochs.{LeavesEpochs, Reaches, WritesEpochs, closed_by, closings}
use Rattle.serving.specs.Follows.{HasMore, LeavesMore}
use Rattle.serving.specs.Group.{HasTold}
use Rattle.serving.specs.NextEpoch.{IsNextFile, IsNextStore, SaysNext, SaysSame, answers_in, full_with, late_answer, limit_while}
use Rattle.serving.specs.Names.{AreCarriedOver, KnownNames}
use Rattle.serving.specs.Prepared.{now_says}
use Rattle.serving.specs.Requests.{LetsGo}
use Rattle.serving.specs.Served.{Serves}
use Rattle.serving.specs.Server.{StaysInEpoch, HasServed, Lasts, full_at, life_of}
use Rattle.serving.specs.Told.{answers_text}
use Rattle.serving.proofs.HeldSaid.{held-said, held-written}
use Rattle.serving.proofs.MoreEvents.{follows-with_all}
use Rattle.serving.proofs.NextEpochs.{next-file-as, next-headers, next-says, next-store-as, raised, says-next-then}
use Rattle.serving.proofs.Premises.{serves-weaker}
use Rattle.serving.proofs.TextParts.{late-alone, told-more}
use Rattle.serving.proofs.KeptEpochs.{keeps-none, keeps-then, least-more, least-none, least-these, least-then}

-- ---- files

pub reaches-then : {a b c : Contents} {later : List Contents} (ended : List Contents) → Reaches a ended b → Reaches b later c → Reaches a (ended ++ later) c
reaches-then {a} {b} ended first Reaches.none = subst (λ es. Reaches a es b) (sym (append-nil ended)) first
reaches-then ended first (Reaches.events later mid new before follows) = Reaches.events (ended ++ later) mid new (reaches-then ended first before) follows
reaches-then {a} ended first (Reaches.epoch later mid now waits old new ps before is next) =
    subst (λ es. Reaches a es now) (append_assoc ended later (mid ∷ [])) (Reaches.epoch (ended ++ later) mid now waits old new ps (reaches-then ended first before) is next)

pub reaches-more : {a b : Contents} → HasMore a b → Reaches a [] b
reaches-more {a} {b} follows = Reaches.events [] a b Reaches.none follows

-- ---- stores

-- what was written by one that went on, and what it went on from
pub writes-on : {S : Type 0} (g : Ghosts S) (old mid new : Durable S) (kept kept_mid kept_now : Option (List KeptHistory)) → (Clean g new.journal → Clean g mid.journal) → WritesEpochs g old mid kept kept_mid
    → WritesEpochs g mid new kept_mid kept_now → WritesEpochs g old new kept kept_now
writes-on g old mid new kept kept_mid kept_now clean first second now =
    let (ended, reached, keeps) = first (clean now) in
    let (later, reached_then, keeps_then) = second now in
    (ended ++ later, reaches-then ended reached reached_then, keeps-then kept kept_mid kept_now ended later keeps keeps_then)

-- a crash of one that went on, and of what it went on from
pub left-then : {S : Type 0} (g : Ghosts S) (old mid new : Durable S) (kept kept_mid kept_now : Option (List KeptHistory)) → (Clean g mid.journal → Clean g old.journal) → WritesEpochs g old mid kept kept_mid
    → LeavesEpochs g old mid kept kept_mid → LeavesEpochs g mid new kept_mid kept_now → LeavesEpochs g old new kept kept_now
left-then g old mid new kept kept_mid kept_now clean wrote first second db left =
    elim (second db left) [
      | inl it ↦ (
          let (ended, reached, keeps) = wrote it.0 in
          let (later, reached_then, keeps_then) = it.2 in
          inl (clean it.0, it.1, (ended ++ later, reaches-then ended reached reached_then, least-then kept kept_mid kept_now ended later keeps keeps_then)))
      | inr before ↦ elim (first db before.0) [
        | inl it ↦ (let (ended, reached, keeps) = it.2 in inl (it.0, it.1, (ended, reached, least-more kept kept_mid kept_now ended keeps before.1)))
        | inr at_first ↦ inr (at_first.0, least-more kept kept_mid kept_now [] at_first.1 before.1)
      ]
    ]

-- one that is as it was
pub writes-nowhere : {S : Type 0} (g : Ghosts S) (old new : Durable S) (kept : Option (List KeptHistory)) → new ≡ old → WritesEpochs g old new kept kept
writes-nowhere g old new kept same = subst (λ d. WritesEpochs g old d kept kept) (sym same) (λ clean. ([], Reaches.none, keeps-none kept))

pub left-nowhere : {S : Type 0} (g : Ghosts S) (old new : Durable S) (kept : Option (List KeptHistory)) → new ≡ old → LeavesEpochs g old new kept kept
left-nowhere g old new kept same = subst (λ d. LeavesEpochs g old d kept kept) (sym same) (λ db left. inr (left, least-none kept))

-- one that went on in one epoch
pub writes-one : {S : Type 0} (g : Ghosts S) (old new : Durable S) (kept : Option (List KeptHistory)) → (Clean g new.journal → HasMore (written g old.journal) (written g new.journal)) → WritesEpochs g old new kept kept
writes-one g old new kept more clean = ([], reaches-more (more clean), keeps-none kept)

pub left-more : {S : Type 0} (g : Ghosts S) (old new : Durable S) (kept : Option (List KeptHistory)) → LeavesMore g old new → LeavesEpochs g old new kept kept
left-more g old new kept more db left = elim (more db left) [ inl it ↦ inl (it.0, it.1, ([], reaches-more it.2, least-none kept)) | inr before ↦ inr (before, least-none kept) ]

-- of what an archive keeps nothing is said
pub writes-untold : {S : Type 0} (g : Ghosts S) (old new : Durable S) (kept kept_now : Option (List KeptHistory)) → WritesEpochs g old new kept kept_now → WritesEpochs g old new None None
writes-untold g old new kept kept_now writes clean = let (ended, reached, keeps) = writes clean in (ended, reached, refl)

pub left-untold : {S : Type 0} (g : Ghosts S) (old new : Durable S) (kept kept_now : Option (List KeptHistory)) → LeavesEpochs g old new kept kept_now → LeavesEpochs g old new None None
left-untold g old new kept kept_now leaves db left = elim (leaves db left) [
  | inl it ↦ (let (ended, reached, keeps) = it.2 in inl (it.0, it.1, (ended, reached, ([], refl))))
  | inr before ↦ inr (before.0, ([], refl))
]

-- the store of a file that has its whole history
pub is-store-of : {S : Type 0} (g : Ghosts S) (d : Durable S) → IsDurable g d → Clean g d.journal → IsStoreOf (written g d.journal) d.store
is-store-of g d sound clean = record { types = sound.types clean; history = sound.history clean; limit = sound.limit }

-- the new epoch of what was written with what happened as the old one ended
next-reached : {S : Type 0} (g : Ghosts S) (goes : Bool) (waits : Option Extension) (old mid : Durable S) (new : Stored) (ps : List Prepared) (now : Contents) → IsDurable g mid → Clean g mid.journal
    → written g mid.journal ≡ with_all (written g old.journal) (closings goes old.prepared.items old.store) → IsNextFile waits mid.prepared.items mid.store new ps (written g mid.journal) now → Reaches (written g old.journal) (written g mid.journal ∷ []) now
next-reached g goes waits old mid new ps now sound clean wrote next =
    Reaches.epoch [] (written g mid.journal) now waits mid.store new ps
    (subst (λ c. Reaches (written g old.journal) [] c) (sym wrote) (reaches-more (follows-with_all (written g old.journal) (closings goes old.prepared.items old.store)))) (is-store-of g mid sound clean)
    (subst (λ all. IsNextFile waits all mid.store new ps (written g mid.journal) now) (held-written g mid sound clean) next)

-- the epoch was closed and its history kept, and then the file began anew
pub left-renewed : {S : Type 0} (g : Ghosts S) (goes : Bool) (waits : Option Extension) (old mid new : Durable S) (kept kept_now : Option (List KeptHistory)) → IsDurable g mid → (Clean g mid.journal → Clean g old.journal)
    → (Clean g mid.journal → written g mid.journal ≡ with_all (written g old.journal) (closings goes old.prepared.items old.store)) → (Clean g mid.journal → KeepsEpochs kept kept_now (written g mid.journal ∷ []))
    → LeavesEpochs g old mid kept kept_now → LeavesNext g waits mid new → LeavesEpochs g old new kept kept_now
left-renewed g goes waits old mid new kept kept_now sound clean wrote keeps first crash db left = elim (crash db left) [
  | inl now ↦ (
      let (s, ps, next) = now.2 in
      let ended = written g mid.journal ∷ [] in
      inl (clean now.0, now.1, (ended, next-reached g goes waits old mid s ps (contents_of db) sound now.0 (wrote now.0) next, least-these kept kept_now ended (keeps now.0))))
  | inr before ↦ first db before
]

-- what was written is durable
pub shown-durable : {S : Type 0} (g : Ghosts S) (d : Durable S) → ShowsCommit g d.journal → Clean g d.journal → durable g d.journal ≡ written g d.journal
shown-durable g d shows now =
    let trees = (g.view d.journal.store).trees in
    let numbers = d.journal.numbers in
    sym (ap (with_pending (contents_by numbers trees)) (shows now).1 ∙ none-pending (contents_by numbers trees) ∙ all-counted trees numbers (shows now).2 ∙ ap contents_of (shows now).0.clean)

-- the file of a new epoch, and its life
module _ {S : Type 0} {g : Ghosts S} (goes : Bool) (waits : Option Extension) (old mid new : Durable S) (sound : IsDurable g mid) (clean : Clean g new.journal → Clean g mid.journal)
    (wrote : Clean g mid.journal → written g mid.journal ≡ with_all (written g old.journal) (closings goes old.prepared.items old.store)) (now : Clean g new.journal) (shows : ShowsCommit g new.journal)
    (is : Clean g new.journal → IsNextFile waits mid.prepared.items mid.store new.store new.prepared.items (written g mid.journal) (durable g new.journal)) where
  written-now : IsNextFile waits mid.prepared.items mid.store new.store new.prepared.items (written g mid.journal) (written g new.journal)
  written-now = subst (λ c. IsNextFile waits mid.prepared.items mid.store new.store new.prepared.items (written g mid.journal) c) (shown-durable g new shows now) (is now)

  reached : Reaches (written g old.journal) (written g mid.journal ∷ []) (written g new.journal)
  reached = next-reached g goes waits old mid new.store new.prepared.items (written g new.journal) sound (clean now) (wrote (clean now)) written-now

  next-life : IsJournal g new.journal → (written g mid.journal).headers ≡ mid.journal.header ∷ [] → life_of new ≡ suc (life_of mid)
  next-life journal last =
      let all : new.journal.header ∷ [] ≡ raised (mid.journal.header ∷ []) =
      sym ((journal now).0.header_is (shows now).0.sound) ∙ next-headers waits mid.prepared.items mid.store new.store new.prepared.items (written g mid.journal) (written g new.journal) written-now ∙ ap raised last in
      ap life_in all

-- ---- the end of an epoch

-- what ends an epoch, of how it ended
pub ends-epoch : {S E T : Type 0} {g : Ghosts S} (goes : Bool) (waits : Option Extension) (old mid new : Durable S) (r : Result T E) → IsDurable g mid → LetsGo (closed_by goes old.prepared.items old.store) mid.store → mid.prepared ≡ old.prepared → mid.journal.header ≡ old.journal.header
    → (Clean g new.journal → Clean g mid.journal) → (Clean g mid.journal → written g mid.journal ≡ with_all (written g old.journal) (closings goes old.prepared.items old.store))
    → OnOk r (IsNextStore waits mid.prepared.items mid.store new.store new.prepared.items) → OnOk r (IsDurable g new) → OnOk r (ShowsCommit g new.journal) → OnOk r (Clean g new.journal → (written g mid.journal).headers ≡ mid.journal.header ∷ [])
    → OnOk r (Clean g new.journal → IsNextFile waits mid.prepared.items mid.store new.store new.prepared.items (written g mid.journal) (durable g new.journal)) → OnOk r (EndsEpoch g goes waits old new)
ends-epoch {S} {E} {T} {g} goes waits old mid new (Ok u) sound aborts same header clean wrote begins is_durable shows last is = record {
  store = next-store-as waits old.prepared.items (closed_by goes old.prepared.items old.store) mid.store new.store new.prepared.items aborts
      (subst (λ (all : Vec Prepared Global). IsNextStore waits all.items mid.store new.store new.prepared.items) same begins);
  durable = λ now. next-file-as waits old.prepared.items (closed_by goes old.prepared.items old.store) mid.store new.store new.prepared.items
      (with_all (written g old.journal) (closings goes old.prepared.items old.store)) (durable g new.journal) aborts
      (subst (λ (all : Vec Prepared Global). IsNextFile waits all.items mid.store new.store new.prepared.items (with_all (written g old.journal) (closings goes old.prepared.items old.store)) (durable g new.journal)) same
      (subst (λ c. IsNextFile waits mid.prepared.items mid.store new.store new.prepared.items c (durable g new.journal)) (wrote (clean now)) (is now)));
  life = λ now. next-life goes waits old mid new sound clean wrote now shows is is_durable.journal (last now) ∙ ap (λ (h : Header). suc h.life) header;
}
ends-epoch goes waits old mid new (Err e) sound aborts same header clean wrote next is_durable shows last is = tt

pub writes-epoch : {S E T : Type 0} {g : Ghosts S} (goes : Bool) (waits : Option Extension) (old mid new : Durable S) (kept kept_now : Option (List KeptHistory)) (r : Result T E) → IsDurable g mid → (Clean g new.journal → Clean g mid.journal)
    → (Clean g mid.journal → written g mid.journal ≡ with_all (written g old.journal) (closings goes old.prepared.items old.store)) → (Clean g mid.journal → KeepsEpochs kept kept_now (written g mid.journal ∷ []))
    → OnOk r (ShowsCommit g new.journal) → OnOk r (Clean g new.journal → IsNextFile waits mid.prepared.items mid.store new.store new.prepared.items (written g mid.journal) (durable g new.journal))
    → OnOk r (WritesEpochs g old new kept kept_now)
writes-epoch {S} {E} {T} {g} goes waits old mid new kept kept_now (Ok u) sound clean wrote keeps shows is =
    λ now. (written g mid.journal ∷ [], reached goes waits old mid new sound clean wrote now shows is, keeps (clean now))
writes-epoch goes waits old mid new kept kept_now (Err e) sound clean wrote keeps shows is = tt

-- ---- sessions

-- requests in one epoch
pub lasts-stays : {S : Type 0} {g : Ghosts S} {began mid new : Session S} → Lasts g began mid → StaysInEpoch g mid new → Lasts g began new
lasts-stays {S} {g} {began} {mid} {new} first second = record {
  sound = second.sound;
  named = ap (λ (n : KnownNames). n.life) second.names ∙ first.named ∙ sym second.same;
  most = second.most ∙ first.most;
  reaches = writes-on g began.store mid.store new.store None None None second.clean first.reaches (writes-one g mid.store new.store None second.follows);
  clean = λ clean. first.clean (second.clean clean);
  crash = left-then g began.store mid.store new.store None None None first.clean first.reaches first.crash (left-more g mid.store new.store None second.crash);
}

-- a session that is as it was
pub lasts-nowhere : {S : Type 0} {g : Ghosts S} (s : Session S) → IsDurable g s.store → s.names.life ≡ life_of s.store → Lasts g s s
lasts-nowhere {S} {g} s sound named = record {
  sound = sound;
  named = named;
  most = refl;
  reaches = writes-nowhere g s.store s.store None refl;
  clean = λ clean. clean;
  crash = left-nowhere g s.store s.store None refl;
}

-- a session that went on in one epoch and then began another
pub writes-stays : {S : Type 0} {g : Ghosts S} (old mid : Session S) (new : Durable S) (kept kept_now : Option (List KeptHistory)) → StaysInEpoch g old mid → (Clean g new.journal → Clean g mid.store.journal)
    → WritesEpochs g mid.store new kept kept_now → WritesEpochs g old.store new kept kept_now
writes-stays {S} {g} old mid new kept kept_now stays clean writes = writes-on g old.store mid.store new kept kept kept_now clean (writes-one g old.store mid.store kept stays.follows) writes

-- a crash of it
pub left-stays : {S : Type 0} {g : Ghosts S} (old mid : Session S) (new : Durable S) (kept kept_now : Option (List KeptHistory)) → StaysInEpoch g old mid → LeavesEpochs g mid.store new kept kept_now
    → LeavesEpochs g old.store new kept kept_now
left-stays {S} {g} old mid new kept kept_now stays crash =
    left-then g old.store mid.store new kept kept kept_now stays.clean (writes-one g old.store mid.store kept stays.follows) (left-more g old.store mid.store kept stays.crash) crash

-- another epoch
pub lasts-epoch : {S : Type 0} {g : Ghosts S} {began mid : Session S} (new : Session S) (kept kept_now : Option (List KeptHistory)) → Lasts g began mid → IsDurable g new.store → new.names.life ≡ life_of new.store
    → new.most_events ≡ mid.most_events → WritesEpochs g mid.store new.store kept kept_now → (Clean g new.store.journal → Clean g mid.store.journal) → LeavesEpochs g mid.store new.store kept kept_now → Lasts g began new
lasts-epoch {S} {g} {began} {mid} new kept kept_now first sound named most writes clean crash = record {
  sound = sound;
  named = named;
  most = most ∙ first.most;
  reaches = writes-on g began.store mid.store new.store None None None clean first.reaches (writes-untold g mid.store new.store kept kept_now writes);
  clean = λ now. first.clean (clean now);
  crash = left-then g began.store mid.store new.store None None None first.clean first.reaches first.crash (left-untold g mid.store new.store kept kept_now crash);
}

-- ---- another epoch of a server

-- the answers that were told, with what is answered as the epoch begins, and those that wait: none
pub epoch-told : (told waiting now late : List Answered) → waiting ≡ [] → now ≡ waiting → (told ++ late) ++ now ≡ (told ++ waiting) ++ late
epoch-told told waiting now late none same =
    ap (λ xs. (told ++ late) ++ xs) (same ∙ none) ∙ append-nil (told ++ late) ∙ sym (ap (λ xs. (told ++ xs) ++ late) none ∙ ap (λ xs. xs ++ late) (append-nil told))

-- what it has served
abbrev pub served-epoch : {S : Type 0} {g : Ghosts S} {began : Session S} {told : List Answered} {bytes : List ℕ} {old : Server S} (new : Server S) (kept kept_now : Option (List KeptHistory)) → old.end ≡ None → old.answers.items ≡ []
    → is_epoch_full (full_at old.session) old.session.store.store ≡ true → EndsEpoch g old.session.store.strong old.session.waiting old.session.store new.session.store → IsDurable g new.session.store → new.session.names.life ≡ life_of new.session.store → AreCarriedOver old.session.names old.session.store.strong old.session.store.store.history old.session.store.prepared.items new.session.names.carried
    → new.session.names.begun_with ≡ length new.session.store.store.history
    → new.session.most_events ≡ old.session.most_events → new.session.waiting ≡ None → ShowsCommit g new.session.store.journal
    → WritesEpochs g old.session.store new.session.store kept kept_now → (Clean g new.session.store.journal → Clean g old.session.store.journal)
    → LeavesEpochs g old.session.store new.session.store kept kept_now → new.line ≡ old.line → new.answers ≡ old.answers → new.end ≡ old.end
    → HasServed g began told bytes old → HasServed g began (told ++ answers_in (late_answer old.session.waiting old.session.store.store)) bytes new
served-epoch {S} {g} {began} {told} {bytes} {old} new kept kept_now none empty full ends sound named over_names counted most no_more shows writes clean crash line answers ended served = record {
  lines = served.lines;
  half = served.half;
  asked = served.asked;
  kept = ap (λ v. v.items) line ∙ served.kept;
  lasts = lasts-epoch new.session kept kept_now served.lasts sound named most writes clean crash;
  said = written g new.session.store.journal;
  says = λ now. (refl, refl, refl, refl);
  serves =
      let file = written g began.store.journal in
      let waits = old.session.waiting in
      let late = answers_in (late_answer waits old.session.store.store) in
      let ps = old.session.store.prepared.items in
      let new_ps = new.session.store.prepared.items in
      let goes = old.session.store.strong in
      let over = closed_by goes ps old.session.store.store in
      let closed = with_all (written g old.session.store.journal) (closings goes ps old.session.store.store) in
      let are : Clean g new.session.store.journal → ps ≡ prepared_in (now_says served.said old.session.store.store) =
      λ now. held-said g served.said old.session.store served.lasts.sound (clean now) (served.says (clean now)) in
      let so_far : Serves (Clean g new.session.store.journal) began.most_events file began.names served.lines began.store.store (told ++ old.answers.items) old.session.names served.said old.session.store.store None waits =
      serves-weaker clean
      (subst (λ e. Serves (Clean g old.session.store.journal) began.most_events file began.names served.lines began.store.store (told ++ old.answers.items) old.session.names served.said old.session.store.store e waits) none served.serves) in
      let life : Clean g new.session.store.journal → new.session.names.life ≡ suc old.session.names.life = λ now. named ∙ ends.life now ∙ ap suc (sym served.lasts.named) in
      let says : Clean g new.session.store.journal → SaysNext waits new_ps served.said (written g new.session.store.journal) =
      λ now. let it = served.says (clean now) in
      says-next-then waits new_ps served.said closed (written g new.session.store.journal) (it.0, it.1, it.2, it.3)
      (next-says waits ps over new.session.store.store new_ps closed (written g new.session.store.journal)
      (subst (λ c. IsNextFile waits ps over new.session.store.store new_ps closed c) (shown-durable g new.session.store shows now) (ends.durable now))) in
      rw (ended ∙ none, no_more, epoch-told told old.answers.items new.answers.items late empty (ap (λ v. v.items) answers))
      (Serves.epoch served.lines began.store.store old.session.store.store new.session.store.store (told ++ old.answers.items) old.session.names new.session.names served.said (written g new.session.store.journal) waits goes ps new_ps so_far
      (subst (λ n. is_epoch_full (limit_while waits (full_with n old.session.names)) old.session.store.store ≡ true) served.lasts.most full) served.lasts.sound.strong ends.store over_names counted are life says);
}

-- what it has answered
abbrev pub told-epoch : {S : Type 0} {g : Ghosts S} {began : Session S} {given taken given_now taken_now : Option (List ℕ)} {old : Server S} (new : Server S) (taken_new : Option (List ℕ)) (kept kept_now : Option (List KeptHistory)) → old.end ≡ None
    → is_epoch_full (full_at old.session) old.session.store.store ≡ true → EndsEpoch g old.session.store.strong old.session.waiting old.session.store new.session.store → IsDurable g new.session.store → new.session.names.life ≡ life_of new.session.store → AreCarriedOver old.session.names old.session.store.strong old.session.store.store.history old.session.store.prepared.items new.session.names.carried
    → new.session.names.begun_with ≡ length new.session.store.store.history
    → new.session.most_events ≡ old.session.most_events → new.session.waiting ≡ None → ShowsCommit g new.session.store.journal
    → WritesEpochs g old.session.store new.session.store kept kept_now → (Clean g new.session.store.journal → Clean g old.session.store.journal)
    → LeavesEpochs g old.session.store new.session.store kept kept_now → new.line ≡ old.line → new.answers ≡ old.answers → new.end ≡ old.end
    → Appends taken_now taken_new (answers_text (last_answers (late_answer old.session.waiting old.session.store.store) None))
    → HasTold g began given taken old given_now taken_now → HasTold g began given taken new given_now taken_new
told-epoch {S} {g} {began} {given} {taken} {given_now} {taken_now} {old} new taken_new kept kept_now none full ends sound named over_names counted most no_more shows writes clean crash line answers ended appended has =
    let late = late_answer old.session.waiting old.session.store.store in
    record {
      told = has.told ++ answers_in late;
      seen = has.seen;
      rest = has.rest;
      consumed = has.consumed;
      all = λ e. has.all none;
      waits = ap (λ v. v.items) answers ∙ has.waits;
      served = served-epoch new kept kept_now none has.waits full ends sound named over_names counted most no_more shows writes clean crash line answers ended has.served;
      appended = subst (Appends taken taken_new) (sym (told-more has.told (answers_in late)))
          (Appends-trans taken taken_now taken_new (answers_text has.told) (answers_text (answers_in late)) has.appended (subst (λ xs. Appends taken_now taken_new (answers_text xs)) (late-alone late) appended));
    }

-- and where nothing of this has changed
abbrev pub told-as : {S : Type 0} {g : Ghosts S} {began : Session S} {given taken given_now taken_now : Option (List ℕ)} {old : Server S} (new : Server S) → new.session ≡ old.session → new.line ≡ old.line
    → new.answers ≡ old.answers → new.end ≡ old.end → HasTold g began given taken old given_now taken_now → HasTold g began given taken new given_now taken_now
told-as {S} {g} {began} {given} {taken} {given_now} {taken_now} {old} new session line answers ended has = record {
  told = has.told;
  seen = has.seen;
  rest = has.rest;
  consumed = has.consumed;
  all = λ e. has.all (sym ended ∙ e);
  waits = ap (λ v. v.items) answers ∙ has.waits;
  served = record {
    lines = has.served.lines;
    half = has.served.half;
    asked = has.served.asked;
    kept = ap (λ v. v.items) line ∙ has.served.kept;
    lasts = subst (λ (s : Session S). Lasts g began s) (sym session) has.served.lasts;
    said = has.served.said;
    says = subst (λ (s : Session S). Clean g s.store.journal → SaysSame has.served.said (written g s.store.journal)) (sym session) has.served.says;
    serves = rw (session, answers, ended) has.served.serves;
  };
  appended = has.appended;
}
