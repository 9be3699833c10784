-- Clients get answers, and a crash leaves what they asked for, with each commit that was answered.
use Rattle.std.proofs.Common.{◌≡◌, ◌∙◌, false, Bool, inl, inr, ℕ, true, None, Option, Result, Ok, Err, List, [], ◌++◌, take, drop, refl, sym, length, ap, subst, IsTrue}
use Rattle.std.proofs.KnownBytes.{Consumes-trans, Keeps-refl}
use Rattle.std.proofs.lemmas.List.{append-nil}
use Rattle.std.specs.Io.KnownBytes.{Appends, Consumes, IsAtEnd}
use Rattle.std.specs.Prelude.{MatchResult, OnErr, OnOk}
use Rattle.sqlite_trees.specs.declared.store.Store.{Ghosts}
use Rattle.sqlite_trees.specs.Tree.{Trees}
use Rattle.journal.specs.Contents.{Contents}
use Rattle.journal.specs.Journal.{Clean, ShowsCommit, may_leave, written}
use Rattle.durable_store.specs.declared.durable.Durable.{Durable}
use Rattle.durable_store.specs.Durable.{IsDurable}
use Rattle.request_text.specs.declared.request.Asked.{Asked}
use Rattle.serving.specs.declared.answer_line.Answered.{Answered}
use Rattle.serving.specs.declared.session.Session.{Session}
use Rattle.serving.specs.declared.server.Server.{Server}
use Rattle.serving.specs.Acknowledged.{NoneLast, ServesSafely, StopsSafely, StopsServingSafely, TellsSafely}
use Rattle.serving.specs.Archives.{KeptHistory}
use Rattle.serving.specs.Does.{is_epoch_full}
use Rattle.serving.specs.declared.extension.Extension.{Extension}
use Rattle.serving.specs.EpochEnd.{EndsEpoch, EndsServing, LeavesEnd, last_answers}
use Rattle.serving.specs.NextEpoch.{answers_in, full_with, late_answer, limit_while}
use Rattle.serving.specs.Epochs.{LeavesEpochs, WritesEpochs}
use Rattle.serving.specs.Follows.{LeavesWritten}
use Rattle.serving.specs.Group.{HasTold, IsUnasked}
use Rattle.serving.specs.Left.{MayEnd, LeavesLines, Survives, began_at}
use Rattle.serving.specs.Names.{AreCarriedOver, KnownNames}
use Rattle.serving.specs.Requests.{LetsGo}
use Rattle.serving.specs.Server.{HasServed, ServesBytes, StaysInEpoch, full_at, life_of}
use Rattle.serving.specs.Told.{AppendsPart, answers_text, greeting, has_lasting}
use Rattle.serving.specs.Whole.{session_of}
use Rattle.serving.proofs.EndLemmas.{EndsPart, last-as, left-as, part-as, serving-as, stops-answering, stops-ending, stops-greeting}
use Rattle.serving.proofs.Groups.{group-told, stops-answered, stops-before, stops-telling, told-none}
use Rattle.serving.proofs.LaterEpochs.{served-epoch, told-as, told-epoch}
use Rattle.serving.proofs.TextParts.{late-alone, part-of-whole, part-then, told-more}
use Rattle.serving.proofs.LeftLines.{lines-begun, lines-ended, lines-group, lines-last, lines-none, lines-on, lines-survive, rest-read, survives-last}

-- while the trees of a store are open, a crash leaves their last commit
abbrev pub LeavesLast : {S : Type 0} (g : Ghosts S) → Durable S → Type 0
LeavesLast g d = (db : Trees) → IsTrue (g.view d.journal.store).is_open → may_leave g d.journal db → db ≡ (g.view d.journal.store).committed

-- ---- a server

-- nothing was answered yet
pub tells-none : {S : Type 0} {g : Ghosts S} (given taken : Option (List ℕ)) (s : Server S) → IsDurable g s.session.store → IsUnasked s → LeavesLast g s.session.store
    → TellsSafely g s.session given taken s given taken
tells-none given taken s sound fresh last = record {
  tells = told-none given taken s sound fresh;
  safe = λ shows clean. lines-none s.session sound (ap (λ (n : KnownNames). n.life) fresh.named) clean shows last;
}

-- where a group begins: what was read is served, and no answer waits
at-start : {S : Type 0} {g : Ghosts S} {began : Session S} {given taken given_now taken_now : Option (List ℕ)} {old : Server S} → old.end ≡ None
    → (has : HasTold g began given taken old given_now taken_now) → LeavesLines g (began_at g began) NoneLast (has.seen ++ has.rest) has.told [] old.session.store
    → LeavesLines g (began_at g began) NoneLast has.seen has.told old.answers.items old.session.store
at-start {S} {g} {began} {old = old} none has so_far =
    subst (λ bs. LeavesLines g (began_at g began) NoneLast bs has.told old.answers.items old.session.store) (ap (λ xs. has.seen ++ xs) (has.all none) ∙ append-nil has.seen)
    (subst (λ xs. LeavesLines g (began_at g began) NoneLast (has.seen ++ has.rest) has.told xs old.session.store) (sym has.waits) so_far)

-- what lines of a group leave
abbrev LeavesGroup : {S : Type 0} (g : Ghosts S) → Session S → Server S → List ℕ → Server S → Type 0
LeavesGroup g began old bytes mid = (told : List Answered) (seen : List ℕ) → HasServed g began told seen old → LeavesLines g (began_at g began) NoneLast seen told old.answers.items old.session.store
    → LeavesLines g (began_at g began) NoneLast (seen ++ bytes) told mid.answers.items mid.session.store

-- where one of their answers is to a commit, all that was written becomes durable
lines-settled : {S : Type 0} {g : Ghosts S} {began : Session S} {old : Server S} (mid : Server S) (new : Durable S) (bytes : List ℕ)
    → ((told : List Answered) (seen : List ℕ) → HasServed g began told seen old → ServesBytes g began told seen bytes mid) → LeavesGroup g began old bytes mid → LeavesWritten g mid.session.store new
    → (told : List Answered) (seen : List ℕ) → (served : HasServed g began told seen old) → LeavesLines g (began_at g began) NoneLast seen told old.answers.items old.session.store → (count : ℕ)
    → HasServed g began told (seen ++ take count bytes) mid → LeavesLines g (began_at g began) NoneLast ((seen ++ take count bytes) ++ drop count bytes) told mid.answers.items new
lines-settled {S} {g} {began} mid new bytes serves left crash told seen served so_far count more =
    lines-on mid new (drop count bytes) more crash
    (subst (λ bs. LeavesLines g (began_at g began) NoneLast bs told mid.answers.items mid.session.store) (sym (rest-read seen bytes count)) (left told seen served so_far))

-- and the client may have got its answers
group-lines : {S : Type 0} {g : Ghosts S} {began : Session S} {given taken given_now taken_now : Option (List ℕ)} {old : Server S} (mid : Server S) (new : Session S) (bytes : List ℕ) → old.end ≡ None
    → (so_far : TellsSafely g began given taken old given_now taken_now)
    → (serves : (told : List Answered) (seen : List ℕ) → HasServed g began told seen old → ServesBytes g began told seen bytes mid) → LeavesGroup g began old bytes mid
    → StaysInEpoch g old.session mid.session → StaysInEpoch g mid.session new → (has_lasting mid.answers.items ≡ true → ShowsCommit g new.store.journal)
    → (Clean g new.store.journal → written g new.store.journal ≡ written g mid.session.store.journal) → LeavesWritten g mid.session.store new.store
    → ShowsCommit g began.store.journal → Clean g new.store.journal
    → let has = so_far.tells in let more = serves has.told has.seen has.served in
    LeavesLines g (began_at g began) NoneLast ((has.seen ++ take more.count bytes) ++ drop more.count bytes) (has.told ++ mid.answers.items) [] new.store
group-lines {S} {g} {began} mid new bytes none so_far serves left first second settled same crash shows clean =
    let has = so_far.tells in
    let more = serves has.told has.seen has.served in
    let before = at-start none has (so_far.safe shows (first.clean (second.clean clean))) in
    let done = more.served in
    lines-group (began_at g began) mid.session new (drop more.count bytes) mid.answers.items done.said mid.end done.says done.asked done.lasts.sound done.lasts.named second settled same done.serves
    (lines-settled mid new.store bytes serves left crash has.told has.seen has.served before more.count done) clean

-- a group was answered
pub tells-group : {S : Type 0} {g : Ghosts S} {began : Session S} {given taken given_now taken_now : Option (List ℕ)} {old : Server S} (mid new : Server S) (given_new taken_new : Option (List ℕ))
    (bytes : List ℕ) → old.end ≡ None → TellsSafely g began given taken old given_now taken_now
    → ((told : List Answered) (seen : List ℕ) → HasServed g began told seen old → ServesBytes g began told seen bytes mid) → LeavesGroup g began old bytes mid
    → Consumes given_now given_new bytes → Appends taken_now taken_new (answers_text mid.answers.items)
    → StaysInEpoch g old.session mid.session → StaysInEpoch g mid.session new.session → new.session.waiting ≡ mid.session.waiting → LetsGo mid.session.store.store new.session.store.store
    → (has_lasting mid.answers.items ≡ true → ShowsCommit g new.session.store.journal)
    → (Clean g new.session.store.journal → written g new.session.store.journal ≡ written g mid.session.store.journal) → LeavesWritten g mid.session.store new.session.store
    → new.line ≡ mid.line → new.end ≡ mid.end → new.answers.items ≡ [] → TellsSafely g began given taken new given_new taken_new
tells-group mid new given_new taken_new bytes none so_far serves left consumed appended first second waits lets settled same crash line ended clear = record {
  tells = group-told mid new given_new taken_new bytes none so_far.tells serves consumed appended second waits lets line ended clear (λ now. (ap (λ (x : Contents). x.outcomes) (same now), ap (λ (x : Contents). x.prepared) (same now)));
  safe = λ shows clean. group-lines mid new.session bytes none so_far serves left first second settled same crash shows clean;
}

-- where the session, the line, the answers and the end are the same
pub tells-as : {S : Type 0} {g : Ghosts S} {began : Session S} {given taken given_now taken_now : Option (List ℕ)} {old : Server S} (new : Server S) → new.session ≡ old.session → new.line ≡ old.line
    → new.answers ≡ old.answers → new.end ≡ old.end → TellsSafely g began given taken old given_now taken_now → TellsSafely g began given taken new given_now taken_now
tells-as {S} {g} {began} new session line answers ended so_far = record {
  tells = told-as new session line answers ended so_far.tells;
  safe = λ shows clean.
      subst (λ (s : Session S). LeavesLines g (began_at g began) NoneLast (so_far.tells.seen ++ so_far.tells.rest) so_far.tells.told [] s.store) (sym session)
      (so_far.safe shows (subst (λ (s : Session S). Clean g s.store.journal) session clean));
}

-- an epoch is over, as its file may show
ended-lines : {S : Type 0} {g : Ghosts S} (goes : Bool) {began : Session S} {given taken given_now taken_now : Option (List ℕ)} {old : Server S} {last : List (List ℕ) → Type 0} (new : Durable S)
    → (has : HasTold g began given taken old given_now taken_now) → MayEnd began.most_events old.session.waiting old.session.names old.session.store.store (last has.served.lines) goes → LeavesEnd g goes old.session.waiting old.session.store new
    → LeavesLines g (began_at g began) NoneLast (has.seen ++ has.rest) has.told [] old.session.store → LeavesLines g (began_at g began) last (has.seen ++ has.rest) has.told [] new
ended-lines {S} {g} goes {began} {old = old} {last} new has so crash so_far =
    subst (λ xs. LeavesLines g (began_at g began) last (has.seen ++ has.rest) has.told xs new) has.waits
    (lines-ended goes old new has.rest has.served so crash
    (subst (λ xs. LeavesLines g (began_at g began) last (has.seen ++ has.rest) has.told xs old.session.store) (sym has.waits) (lines-last g (began_at g began) old.session.store (λ lines none. absurd none) so_far)))

-- one that is full, by how many events make it so
full-since : {S : Type 0} {g : Ghosts S} {began : Session S} {given taken given_now taken_now : Option (List ℕ)} {old : Server S} → HasTold g began given taken old given_now taken_now
    → is_epoch_full (full_at old.session) old.session.store.store ≡ true → is_epoch_full (limit_while old.session.waiting (full_with began.most_events old.session.names)) old.session.store.store ≡ true
full-since {old = old} has full = subst (λ n. is_epoch_full (limit_while old.session.waiting (full_with n old.session.names)) old.session.store.store ≡ true) has.served.lasts.most full

-- another one has begun, and its client was told
begun-lines : {S : Type 0} {g : Ghosts S} (goes : Bool) {began : Session S} {last : List (List ℕ) → Type 0} {told : List Answered} {seen bytes : List ℕ} {others waiting : List Answered} (rest : List ℕ) (old : Durable S) (waits : Option Extension) (new : Server S)
    → HasServed g began told seen new → new.answers.items ≡ [] → ShowsCommit g new.session.store.journal → Clean g new.session.store.journal → LeavesEnd g goes waits old new.session.store
    → LeavesLines g (began_at g began) NoneLast bytes others waiting old → LeavesLines g (began_at g began) last (seen ++ rest) told [] new.session.store
begun-lines {S} {g} goes {began} {last} {told} {seen} rest old waits new served empty shows clean left so_far =
    subst (λ xs. LeavesLines g (began_at g began) last (seen ++ rest) told xs new.session.store) empty
    (lines-begun new rest served shows clean (λ db leaves. elim (left db leaves) [ inl it ↦ it.1 | inr before ↦ (so_far db before).0 ]))

-- another epoch began
pub tells-epoch : {S : Type 0} {g : Ghosts S} {began : Session S} {given taken given_now taken_now : Option (List ℕ)} {old : Server S} (new : Server S) (taken_new : Option (List ℕ)) (kept kept_now : Option (List KeptHistory)) → old.end ≡ None
    → is_epoch_full (full_at old.session) old.session.store.store ≡ true → EndsEpoch g old.session.store.strong old.session.waiting old.session.store new.session.store → IsDurable g new.session.store → new.session.names.life ≡ life_of new.session.store → AreCarriedOver old.session.names old.session.store.strong old.session.store.store.history old.session.store.prepared.items new.session.names.carried
    → new.session.names.begun_with ≡ length new.session.store.store.history
    → new.session.most_events ≡ old.session.most_events → new.session.waiting ≡ None → ShowsCommit g new.session.store.journal
    → WritesEpochs g old.session.store new.session.store kept kept_now → (Clean g new.session.store.journal → Clean g old.session.store.journal)
    → LeavesEpochs g old.session.store new.session.store kept kept_now → LeavesEnd g old.session.store.strong old.session.waiting old.session.store new.session.store → new.line ≡ old.line → new.answers ≡ old.answers → new.end ≡ old.end
    → Appends taken_now taken_new (answers_text (last_answers (late_answer old.session.waiting old.session.store.store) None))
    → TellsSafely g began given taken old given_now taken_now → TellsSafely g began given taken new given_now taken_new
tells-epoch {old = old} new taken_new kept kept_now none full ends sound named over_names counted most no_more shows writes clean crash left line answers ended appended so_far =
    let tells = told-epoch new taken_new kept kept_now none full ends sound named over_names counted most no_more shows writes clean crash line answers ended appended so_far.tells in
    record {
      tells = tells;
      safe = λ showed now. begun-lines old.session.store.strong tells.rest old.session.store old.session.waiting new tells.served tells.waits shows now left (so_far.safe showed (clean now));
    }

-- ---- a server stops

-- where it is
pub stops-here : {S : Type 0} {g : Ghosts S} {began : Session S} {given taken given_now taken_now : Option (List ℕ)} {old : Server S} → TellsSafely g began given taken old given_now taken_now
    → StopsSafely g began given taken old.session.store taken_now
stops-here {S} {g} {began} {given_now = given_now} {old = old} so_far = record {
  stops = stops-before old.session.store so_far.tells.rest given_now (λ clean. clean) so_far.tells so_far.tells.consumed;
  safe = λ shows clean. lines-survive g (began_at g began) old.session.store (so_far.safe shows clean);
}

-- while another epoch begins
pub stops-epoch : {S : Type 0} {g : Ghosts S} {began : Session S} {given taken given_now taken_now : Option (List ℕ)} {old : Server S} (new : Durable S)
    → is_epoch_full (full_at old.session) old.session.store.store ≡ true → (Clean g new.journal → Clean g old.session.store.journal) → LeavesEnd g old.session.store.strong old.session.waiting old.session.store new
    → TellsSafely g began given taken old given_now taken_now → StopsSafely g began given taken new taken_now
stops-epoch {S} {g} {began} {given_now = given_now} {old = old} new full clean left so_far = record {
  stops = stops-before new so_far.tells.rest given_now clean so_far.tells so_far.tells.consumed;
  safe = λ shows now. lines-survive g (began_at g began) new (ended-lines old.session.store.strong new so_far.tells (inl (full-since so_far.tells full, so_far.tells.served.lasts.sound.strong)) left (so_far.safe shows (clean now)));
}

-- as it tells that another one has begun
pub stops-begun : {S : Type 0} {g : Ghosts S} {began : Session S} {given taken given_now taken_now : Option (List ℕ)} {old : Server S} (new : Server S) (taken_new : Option (List ℕ)) (kept kept_now : Option (List KeptHistory)) → old.end ≡ None
    → is_epoch_full (full_at old.session) old.session.store.store ≡ true → EndsEpoch g old.session.store.strong old.session.waiting old.session.store new.session.store → IsDurable g new.session.store → new.session.names.life ≡ life_of new.session.store → AreCarriedOver old.session.names old.session.store.strong old.session.store.store.history old.session.store.prepared.items new.session.names.carried
    → new.session.names.begun_with ≡ length new.session.store.store.history
    → new.session.most_events ≡ old.session.most_events → new.session.waiting ≡ None → ShowsCommit g new.session.store.journal
    → WritesEpochs g old.session.store new.session.store kept kept_now → (Clean g new.session.store.journal → Clean g old.session.store.journal)
    → LeavesEpochs g old.session.store new.session.store kept kept_now → LeavesEnd g old.session.store.strong old.session.waiting old.session.store new.session.store → new.line ≡ old.line → new.answers ≡ old.answers → new.end ≡ old.end
    → AppendsPart taken_now taken_new (answers_text (last_answers (late_answer old.session.waiting old.session.store.store) None))
    → TellsSafely g began given taken old given_now taken_now → StopsSafely g began given taken new.session.store taken_new
stops-begun {S} {g} {began} {given} {taken} {given_now} {taken_now} {old} new taken_new kept kept_now none full ends sound named over_names counted most no_more shows writes clean crash left line answers ended part so_far =
    let has = so_far.tells in
    let late = late_answer old.session.waiting old.session.store.store in
    let empty = ap (λ v. v.items) answers ∙ has.waits in
    let served = served-epoch new kept kept_now none has.waits full ends sound named over_names counted most no_more shows writes clean crash line answers ended has.served in
    record {
      stops = stops-answered new has.rest given_now taken_new served empty has.consumed
          (subst (AppendsPart taken taken_new) (sym (told-more has.told (answers_in late)))
          (part-then taken taken_now taken_new (answers_text has.told) (answers_text (answers_in late)) has.appended (subst (λ xs. AppendsPart taken_now taken_new (answers_text xs)) (late-alone late) part)));
      safe = λ showed now. lines-survive g (began_at g began) new.session.store (begun-lines old.session.store.strong has.rest old.session.store old.session.waiting new served empty shows now left (so_far.safe showed (clean now)));
    }

-- while it does the lines of a group
pub stops-doing : {S : Type 0} {g : Ghosts S} {began : Session S} {given taken given_now taken_now : Option (List ℕ)} {old : Server S} (new : Durable S) (given_new : Option (List ℕ)) (bytes : List ℕ)
    → old.end ≡ None → (Clean g new.journal → Clean g old.session.store.journal) → Consumes given_now given_new bytes
    → ((told : List Answered) (seen : List ℕ) → HasServed g began told seen old → LeavesLines g (began_at g began) NoneLast seen told old.answers.items old.session.store → Survives g (began_at g began) NoneLast (seen ++ bytes) told new)
    → TellsSafely g began given taken old given_now taken_now → StopsSafely g began given taken new taken_now
stops-doing {given = given} {given_now = given_now} new given_new bytes none clean consumed left so_far =
    let has = so_far.tells in
    record {
      stops = stops-before new bytes given_new clean has
          (subst (Consumes given given_new) (ap (λ (xs : List ℕ). xs ++ bytes) (ap (λ (xs : List ℕ). has.seen ++ xs) (has.all none) ∙ append-nil has.seen))
          (Consumes-trans given given_now given_new (has.seen ++ has.rest) bytes has.consumed consumed));
      safe = λ shows now. left has.told has.seen has.served (at-start none has (so_far.safe shows (clean now)));
    }

-- while what it has done becomes durable
pub stops-settling : {S : Type 0} {g : Ghosts S} {began : Session S} {given taken given_now taken_now : Option (List ℕ)} {old : Server S} (mid : Server S) (new : Durable S) (given_new : Option (List ℕ)) (bytes : List ℕ)
    → old.end ≡ None → (Clean g new.journal → Clean g old.session.store.journal) → Consumes given_now given_new bytes
    → ((told : List Answered) (seen : List ℕ) → HasServed g began told seen old → ServesBytes g began told seen bytes mid) → LeavesGroup g began old bytes mid → LeavesWritten g mid.session.store new
    → TellsSafely g began given taken old given_now taken_now → StopsSafely g began given taken new taken_now
stops-settling {S} {g} {began} mid new given_new bytes none clean consumed serves left crash so_far =
    stops-doing new given_new bytes none clean consumed
    (λ told seen served before.
    let more = serves told seen served in
    lines-survive g (began_at g began) new (subst (λ bs. LeavesLines g (began_at g began) NoneLast bs told mid.answers.items new) (rest-read seen bytes more.count)
    (lines-settled mid new bytes serves left crash told seen served before more.count more.served)))
    so_far

-- while it answers what it had settled
pub stops-safely-telling : {S : Type 0} {g : Ghosts S} {began : Session S} {given taken given_now taken_now : Option (List ℕ)} {old : Server S} (mid : Server S) (new : Session S) (given_new taken_new : Option (List ℕ))
    (bytes : List ℕ) → old.end ≡ None → TellsSafely g began given taken old given_now taken_now → ((told : List Answered) (seen : List ℕ) → HasServed g began told seen old → ServesBytes g began told seen bytes mid)
    → LeavesGroup g began old bytes mid → Consumes given_now given_new bytes → AppendsPart taken_now taken_new (answers_text mid.answers.items) → StaysInEpoch g old.session mid.session → StaysInEpoch g mid.session new
    → (has_lasting mid.answers.items ≡ true → ShowsCommit g new.store.journal) → (Clean g new.store.journal → written g new.store.journal ≡ written g mid.session.store.journal)
    → LeavesWritten g mid.session.store new.store → StopsSafely g began given taken new.store taken_new
stops-safely-telling {S} {g} {began} mid new given_new taken_new bytes none so_far serves left consumed part first second settled same crash =
    let has = so_far.tells in
    record {
      stops = stops-telling mid new.store given_new taken_new bytes none second.clean has (serves has.told has.seen has.served) consumed part;
      safe = λ shows clean. lines-survive g (began_at g began) new.store (group-lines mid new bytes none so_far serves left first second settled same crash shows clean);
    }

-- ---- from the greeting to the end

-- at the greeting
pub stops-safely-greeting : {S : Type 0} {g : Ghosts S} {most : ℕ} (given given_now : Option (List ℕ)) {taken taken_now : Option (List ℕ)} (began : Durable S) → IsDurable g began → LeavesLast g began
    → AppendsPart taken taken_now (greeting (life_of began)) → StopsServingSafely g most began given taken began given_now taken_now
stops-safely-greeting {S} {g} {most} given given_now began sound last part = record {
  stops = stops-greeting given began part;
  safe = λ shows clean. lines-survive g (began_at g (session_of most began)) began (lines-none (session_of most began) sound refl clean shows last);
}

-- once it was greeted
pub stops-safely-greeted : {S : Type 0} {g : Ghosts S} {most : ℕ} (given given_now taken taken_now : Option (List ℕ)) (began now : Durable S) → now ≡ began → IsDurable g began → LeavesLast g began
    → Appends taken taken_now (greeting (life_of began)) → StopsServingSafely g most began given taken now given_now taken_now
stops-safely-greeted {S} {g} {most} given given_now taken taken_now began now same sound last told =
    subst (λ (d : Durable S). StopsServingSafely g most began given taken d given_now taken_now) (sym same)
    (stops-safely-greeting given given_now began sound last (part-of-whole taken taken_now taken_now (greeting (life_of began)) told (Keeps-refl taken_now)))

-- while a server answers
pub stops-safely-served : {S : Type 0} {g : Ghosts S} {most : ℕ} {given taken greeted taken_now : Option (List ℕ)} {session : Session S} {began now d : Durable S} (given_now : Option (List ℕ)) → session ≡ session_of most began
    → now ≡ d → Appends taken greeted (greeting (life_of began)) → StopsSafely g session given greeted d taken_now → StopsServingSafely g most began given taken now given_now taken_now
stops-safely-served {S} {g} {most} {given} {taken} {greeted} {taken_now} {session} {began} {now} {d} given_now same is_now greets so_far =
    let safe : StopsSafely g (session_of most began) given greeted now taken_now =
    subst (λ (x : Durable S). StopsSafely g (session_of most began) given greeted x taken_now) (sym is_now) (subst (λ (s : Session S). StopsSafely g s given greeted d taken_now) same so_far) in
    record { stops = stops-answering began now greets safe.stops; safe = λ shows clean. survives-last g (began_at g (session_of most began)) now (λ lines none. absurd none) (safe.safe shows clean) }

-- after all answers
stops-safely-ending : {S : Type 0} {g : Ghosts S} {most : ℕ} {given given_now taken greeted answered taken_now : Option (List ℕ)} {served : Server S} (began now : Durable S)
    → Appends taken greeted (greeting (life_of began)) → TellsSafely g (session_of most began) given greeted served given_now answered → (served.end ≡ None → IsAtEnd given_now)
    → (Clean g now.journal → Clean g served.session.store.journal) → LeavesEnd g false served.session.waiting served.session.store now
    → EndsPart g served.session.waiting served.session.store served.end now answered taken_now → StopsServingSafely g most began given taken now given_now taken_now
stops-safely-ending {S} {g} {most} {served = served} began now greets so_far asked clean left part = record {
  stops = stops-ending began now greets so_far.tells clean part;
  safe = λ shows at_end. lines-survive g (began_at g (session_of most began)) now (ended-lines false now so_far.tells (inr ((refl, asked), refl)) left (so_far.safe shows (clean at_end)));
}

-- to the end
serves-safely : {S : Type 0} {g : Ghosts S} {most : ℕ} {given given_now taken greeted answered taken_now : Option (List ℕ)} {served : Server S} (began now : Durable S)
    → Appends taken greeted (greeting (life_of began)) → TellsSafely g (session_of most began) given greeted served given_now answered → (served.end ≡ None → IsAtEnd given_now)
    → (Clean g now.journal → Clean g served.session.store.journal) → LeavesEnd g false served.session.waiting served.session.store now → EndsServing g served.session.waiting served.end served.session.store now
    → Appends answered taken_now (answers_text (last_answers (late_answer served.session.waiting served.session.store.store) served.end)) → ServesSafely g most began given taken now given_now taken_now
serves-safely {S} {g} {most} {greeted = greeted} {answered} {served = served} began now greets so_far asked clean left renews ends = record {
  serves = record { served = served; greeted = greeted; answered = answered; greets = greets; tells = so_far.tells; asked = asked; renews = renews; clean = clean; ends = ends };
  safe = λ shows at_end. lines-survive g (began_at g (session_of most began)) now (ended-lines false now so_far.tells (inr ((refl, asked), refl)) left (so_far.safe shows (clean at_end)));
}

-- however it ended, as a server and its end say it
pub whole-safely : {S E : Type 0} {g : Ghosts S} {most : ℕ} {given given_now greeted answered : Option (List ℕ)} {served : Server S} {session : Session S} {began d : Durable S} {w : Option Extension} {e : Option Asked}
    (taken taken_now : Option (List ℕ)) (now : Durable S) (r : Result (Unit {0}) E) → session ≡ session_of most began → Appends taken greeted (greeting (life_of began))
    → TellsSafely g session given greeted served given_now answered → (served.end ≡ None → IsAtEnd given_now) → w ≡ served.session.waiting → d ≡ served.session.store → e ≡ served.end → (Clean g now.journal → Clean g d.journal)
    → LeavesEnd g false w d now → OnOk r (EndsServing g w e d now) → OnOk r (Appends answered taken_now (answers_text (last_answers (late_answer w d.store) e)))
    → OnErr r (EndsPart g w d e now answered taken_now)
    → MatchResult r (λ u. ServesSafely g most began given taken now given_now taken_now) (λ x. StopsServingSafely g most began given taken now given_now taken_now)
whole-safely {S} {E} {g} {most} {given} {given_now} {greeted} {answered} {served} {session} {began} {d} {w} {e} taken taken_now now (Ok u) same greets tells asked waits at_end is_end clean left renews ends part =
    serves-safely began now greets (subst (λ (s : Session S). TellsSafely g s given greeted served given_now answered) same tells) asked
    (subst (λ (x : Durable S). Clean g now.journal → Clean g x.journal) at_end clean) (left-as g now waits at_end left) (serving-as g now waits at_end is_end renews) (last-as answered taken_now waits at_end is_end ends)
whole-safely {S} {E} {g} {most} {given} {given_now} {greeted} {answered} {served} {session} {began} {d} {w} {e} taken taken_now now (Err x) same greets tells asked waits at_end is_end clean left renews ends part =
    stops-safely-ending began now greets (subst (λ (s : Session S). TellsSafely g s given greeted served given_now answered) same tells) asked
    (subst (λ (x : Durable S). Clean g now.journal → Clean g x.journal) at_end clean) (left-as g now waits at_end left) (part-as g now answered taken_now waits at_end is_end part)
