-- How serving ends.
use Rattle.std.proofs.Common.{◌≡◌, ◌∙◌, ◌⊎◌, false, ℕ, None, Some, Result, Ok, Err, inl, inr, List, [], ◌∷◌, ◌++◌, refl, sym, ap, ap₂, subst, Option}
use Rattle.std.proofs.KnownBytes.{Appends-trans, Consumes-nil, Keeps-refl}
use Rattle.std.proofs.lemmas.List.{append-nil}
use Rattle.std.specs.Io.KnownBytes.{Appends, IsAtEnd}
use Rattle.std.specs.Prelude.{OnOk, OnErr, is_some}
use Rattle.sqlite_trees.specs.declared.store.Store.{Ghosts}
use Rattle.store_laws.specs.Stored.{Stored}
use Rattle.journal.specs.Journal.{Clean, written}
use Rattle.durable_store.specs.declared.durable.Durable.{Durable}
use Rattle.request_text.specs.declared.request.Asked.{Asked}
use Rattle.serving.specs.Archives.{KeptHistory}
use Rattle.serving.specs.Epochs.{LeavesEpochs, WritesEpochs}
use Rattle.serving.specs.declared.extension.Extension.{Extension}
use Rattle.serving.specs.declared.session.Session.{Session}
use Rattle.serving.specs.declared.server.Server.{Server}
use Rattle.serving.specs.EpochEnd.{EndsEpoch, EndsServing, LeavesEnd, end_answers, ends_epoch, last_answers}
use Rattle.serving.specs.declared.answer_line.AnswerLine.{AnswerLine}
use Rattle.serving.specs.declared.answer_line.AnswerLine.TheVariants.{Done}
use Rattle.serving.specs.declared.answer_line.Answered.{Answered}
use Rattle.serving.specs.Group.{HasTold, StopsTelling}
use Rattle.serving.specs.NextEpoch.{late_answer}
use Rattle.serving.specs.Served.{Serves}
use Rattle.serving.specs.Told.{AppendsPart, answers_text, greeting}
use Rattle.serving.specs.Server.{life_of, first_names}
use Rattle.serving.specs.Whole.{ServesClient, StopsServing, session_of}
use Rattle.serving.proofs.HeldSaid.{held-said}
use Rattle.serving.proofs.LaterEpochs.{left-then, writes-on}
use Rattle.serving.proofs.Premises.{serves-weaker}
use Rattle.serving.proofs.TextParts.{part-of-whole, part-then}

-- the answer to the line that asked for the end
pub one-answer : (it : Answered) (asked : Asked) → it.tag ≡ asked.tag → it.answer ≡ Done → it ∷ [] ≡ end_answers (Some asked)
one-answer it asked tag done = ap₂ (λ (t : Option (List ℕ)) (a : AnswerLine). let one : Answered = record { tag = t; answer = a } in one ∷ []) tag done

-- a server that served a store, and then its end
pub writes-served : {S E : Type 0} (g : Ghosts S) {began old mid d : Durable S} (new : Durable S) (kept kept_mid kept_now : Option (List KeptHistory)) (r : Result (Unit {0}) E) → old ≡ began → d ≡ mid
    → (Clean g new.journal → Clean g d.journal) → WritesEpochs g old mid kept kept_mid → OnOk r (WritesEpochs g d new kept_mid kept_now) → OnOk r (WritesEpochs g began new kept kept_now)
writes-served {S} {E} g {began} {old} {mid} {d} new kept kept_mid kept_now (Ok u) is_old is_mid clean first second =
    subst (λ (x : Durable S). WritesEpochs g x new kept kept_now) is_old
    (writes-on g old mid new kept kept_mid kept_now (subst (λ (x : Durable S). Clean g new.journal → Clean g x.journal) is_mid clean) first (subst (λ (x : Durable S). WritesEpochs g x new kept_mid kept_now) is_mid second))
writes-served g new kept kept_mid kept_now (Err e) is_old is_mid clean first second = tt

pub left-served : {S : Type 0} (g : Ghosts S) {began old mid d : Durable S} (new : Durable S) (kept kept_mid kept_now : Option (List KeptHistory)) → old ≡ began → d ≡ mid → (Clean g mid.journal → Clean g old.journal)
    → WritesEpochs g old mid kept kept_mid → LeavesEpochs g old mid kept kept_mid → LeavesEpochs g d new kept_mid kept_now → LeavesEpochs g began new kept kept_now
left-served {S} g {began} {old} {mid} {d} new kept kept_mid kept_now is_old is_mid clean wrote first second =
    subst (λ (x : Durable S). LeavesEpochs g x new kept kept_now) is_old
    (left-then g old mid new kept kept_mid kept_now clean wrote first (subst (λ (x : Durable S). LeavesEpochs g x new kept_mid kept_now) is_mid second))

-- ---- what was answered

-- a beginning of the greeting
abbrev pub stops-greeting : {S : Type 0} {g : Ghosts S} {most : ℕ} (given : Option (List ℕ)) {taken taken_now : Option (List ℕ)} (began : Durable S) → AppendsPart taken taken_now (greeting (life_of began))
    → StopsServing g most began given taken began taken_now
stops-greeting {S} {g} {most} given {taken} {taken_now} began part = record {
  lines = [];
  read = record { seen = []; half = []; rest = []; left = given; consumed = Consumes-nil given; asked = record { text = refl; whole = tt; within = refl } };
  answers = [];
  names = first_names began;
  reached = began.store;
  said = written g began.journal;
  ended = None;
  waits = None;
  serves = Serves.none began.store;
  told = inl (subst (AppendsPart taken taken_now) (sym (append-nil (greeting (life_of began)))) part);
}

-- the greeting, and nothing else
pub stops-greeted : {S : Type 0} {g : Ghosts S} {most : ℕ} (given taken taken_now : Option (List ℕ)) (began now : Durable S) → now ≡ began → Appends taken taken_now (greeting (life_of began)) → StopsServing g most began given taken now taken_now
stops-greeted {S} {g} {most} given taken taken_now began now same told =
    subst (λ (d : Durable S). StopsServing g most began given taken d taken_now) (sym same)
    (stops-greeting given began (part-of-whole taken taken_now taken_now (greeting (life_of began)) told (Keeps-refl taken_now)))

-- the greeting, and a beginning of what some lines are answered
abbrev pub stops-answering : {S : Type 0} {g : Ghosts S} {most : ℕ} {given taken greeted taken_now : Option (List ℕ)} (began now : Durable S) → Appends taken greeted (greeting (life_of began))
    → StopsTelling g (session_of most began) given greeted now taken_now → StopsServing g most began given taken now taken_now
stops-answering {S} {g} {most} {given} {taken} {greeted} {taken_now} began now greets stops = record {
  lines = stops.lines;
  read = stops.read;
  answers = stops.answers;
  names = stops.names;
  reached = stops.reached;
  said = stops.said;
  ended = stops.ended;
  waits = stops.waits;
  serves = stops.serves;
  told = inl (part-then taken greeted taken_now (greeting (life_of began)) (answers_text stops.answers) greets stops.part);
}

-- the same, as a server says it
pub stops-served : {S : Type 0} {g : Ghosts S} {most : ℕ} {given taken greeted taken_now : Option (List ℕ)} {session : Session S} {began now d : Durable S} → session ≡ session_of most began → now ≡ d
    → Appends taken greeted (greeting (life_of began)) → StopsTelling g session given greeted d taken_now → StopsServing g most began given taken now taken_now
stops-served {S} {g} {most} {given} {taken} {greeted} {taken_now} {session} {began} {now} {d} same is_now greets stops =
    stops-answering began now greets (subst (λ (x : Durable S). StopsTelling g (session_of most began) given greeted x taken_now) (sym is_now)
    (subst (λ (s : Session S). StopsTelling g s given greeted d taken_now) same stops))

-- of what is answered at the end nothing, or where the epoch has ended a beginning
abbrev pub EndsPart : {S : Type 0} (g : Ghosts S) → Option Extension → Durable S → Option Asked → Durable S → Option (List ℕ) → Option (List ℕ) → Type 0
EndsPart g waits d ended now answered taken_now =
    (taken_now ≡ answered) ⊎ (EndsEpoch g false waits d now × AppendsPart answered taken_now (answers_text (last_answers (late_answer waits d.store) ended)))

-- the same of equal parts
pub part-as : {S : Type 0} (g : Ghosts S) {w v : Option Extension} {d b : Durable S} {e f : Option Asked} (now : Durable S) (answered taken_now : Option (List ℕ)) → w ≡ v → d ≡ b → e ≡ f
    → EndsPart g w d e now answered taken_now → EndsPart g v b f now answered taken_now
part-as {S} g {w} {v} {d} {b} {e} {f} now answered taken_now waits at_end is_end part =
    subst (λ x. EndsPart g v b x now answered taken_now) is_end (subst (λ (x : Durable S). EndsPart g v x e now answered taken_now) at_end (subst (λ x. EndsPart g x d e now answered taken_now) waits part))

pub serving-as : {S : Type 0} (g : Ghosts S) {w v : Option Extension} {d b : Durable S} {e f : Option Asked} (now : Durable S) → w ≡ v → d ≡ b → e ≡ f → EndsServing g w e d now → EndsServing g v f b now
serving-as {S} g {w} {v} {d} {b} {e} {f} now waits at_end is_end ends =
    subst (λ x. EndsServing g v x b now) is_end (subst (λ (x : Durable S). EndsServing g v e x now) at_end (subst (λ x. EndsServing g x e d now) waits ends))

pub left-as : {S : Type 0} (g : Ghosts S) {w v : Option Extension} {d b : Durable S} (now : Durable S) → w ≡ v → d ≡ b → LeavesEnd g false w d now → LeavesEnd g false v b now
left-as {S} g {w} {v} {d} {b} now waits at_end left = subst (λ (x : Durable S). LeavesEnd g false v x now) at_end (subst (λ x. LeavesEnd g false x d now) waits left)

pub last-as : {S : Type 0} {w v : Option Extension} {d b : Durable S} {e f : Option Asked} (answered taken_now : Option (List ℕ)) → w ≡ v → d ≡ b → e ≡ f
    → Appends answered taken_now (answers_text (last_answers (late_answer w d.store) e)) → Appends answered taken_now (answers_text (last_answers (late_answer v b.store) f))
last-as {S} {w} {v} {d} {b} {e} {f} answered taken_now waits at_end is_end all =
    subst (λ x. Appends answered taken_now (answers_text (last_answers (late_answer v b.store) x))) is_end
    (subst (λ (x : Durable S). Appends answered taken_now (answers_text (last_answers (late_answer v x.store) e))) at_end
    (subst (λ x. Appends answered taken_now (answers_text (last_answers (late_answer x d.store) e))) waits all))

-- with no extension and no end
pub none-ends : (waits : Option Extension) (ended : Option Asked) → is_some waits ≡ false → is_some ended ≡ false → ends_epoch waits ended ≡ false
none-ends None None w e = refl
none-ends None (Some asked) w e = absurd cc
none-ends (Some x) ended w e = absurd cc

-- nothing is answered at the end where the epoch goes on
pub none-told : (waits : Option Extension) (ended : Option Asked) (s : Stored) → ends_epoch waits ended ≡ false → last_answers (late_answer waits s) ended ≡ []
none-told None None s goes = refl
none-told None (Some asked) s goes = absurd cc
none-told (Some e) ended s goes = absurd cc

-- no byte more
pub appends-none : (taken : Option (List ℕ)) → Appends taken taken []
appends-none None = tt
appends-none (Some xs) = sym (append-nil xs)

-- all of these, and the end
pub serves-whole : {S E : Type 0} {g : Ghosts S} {most : ℕ} {given given_now greeted answered : Option (List ℕ)} {served : Server S} {session : Session S} {began d : Durable S} {w : Option Extension} {e : Option Asked}
    (taken taken_now : Option (List ℕ)) (now : Durable S) (r : Result (Unit {0}) E) → session ≡ session_of most began → Appends taken greeted (greeting (life_of began)) → HasTold g session given greeted served given_now answered
    → (served.end ≡ None → IsAtEnd given_now) → w ≡ served.session.waiting → d ≡ served.session.store → e ≡ served.end → (Clean g now.journal → Clean g d.journal) → OnOk r (EndsServing g w e d now)
    → OnOk r (Appends answered taken_now (answers_text (last_answers (late_answer w d.store) e))) → OnOk r (ServesClient g most began given taken now given_now taken_now)
serves-whole {S} {E} {g} {most} {given} {given_now} {greeted} {answered} {served} {session} {began} {d} {w} {e} taken taken_now now (Ok u) same greets tells asked waits at_end is_end clean renews ends = record {
  served = served;
  greeted = greeted;
  answered = answered;
  greets = greets;
  tells = subst (λ (s : Session S). HasTold g s given greeted served given_now answered) same tells;
  asked = asked;
  renews = serving-as g now waits at_end is_end renews;
  clean = subst (λ (x : Durable S). Clean g now.journal → Clean g x.journal) at_end clean;
  ends = last-as answered taken_now waits at_end is_end ends;
}
serves-whole taken taken_now now (Err x) same greets tells asked waits at_end is_end clean renews ends = tt

-- all of these, and then nothing, or a beginning of what is answered at the end
abbrev pub stops-ending : {S : Type 0} {g : Ghosts S} {most : ℕ} {given given_now taken greeted answered taken_now : Option (List ℕ)} {served : Server S} (began now : Durable S) → Appends taken greeted (greeting (life_of began))
    → HasTold g (session_of most began) given greeted served given_now answered → (Clean g now.journal → Clean g served.session.store.journal)
    → EndsPart g served.session.waiting served.session.store served.end now answered taken_now → StopsServing g most began given taken now taken_now
stops-ending {S} {g} {most} {given} {given_now} {taken} {greeted} {answered} {taken_now} {served} began now greets has clean part =
    let whole : Appends taken answered (greeting (life_of began) ++ answers_text has.told) = Appends-trans taken greeted answered (greeting (life_of began)) (answers_text has.told) greets has.appended in
    record {
      lines = has.served.lines;
      read = record { seen = has.seen; half = has.served.half; rest = has.rest; left = given_now; consumed = has.consumed; asked = has.served.asked };
      answers = has.told;
      names = served.session.names;
      reached = served.session.store.store;
      said = has.served.said;
      ended = served.end;
      waits = served.session.waiting;
      serves = serves-weaker clean
          (subst (λ all. Serves (Clean g served.session.store.journal) most (written g began.journal) (first_names began) has.served.lines began.store all served.session.names has.served.said served.session.store.store served.end served.session.waiting)
          (ap (λ more. has.told ++ more) has.waits ∙ append-nil has.told) has.served.serves);
      told = elim part [
        | inl same ↦ inl (subst (λ now. AppendsPart taken now (greeting (life_of began) ++ answers_text has.told)) (sym same)
            (part-of-whole taken answered answered (greeting (life_of began) ++ answers_text has.told) whole (Keeps-refl answered)))
        | inr ends ↦ inr (
          served.session.store.prepared.items,
          (λ known. held-said g has.served.said served.session.store has.served.lasts.sound (clean known) (has.served.says (clean known))),
          ends.0.store,
          part-then taken answered taken_now (greeting (life_of began) ++ answers_text has.told) (answers_text (last_answers (late_answer served.session.waiting served.session.store.store) served.end)) whole ends.1,
        )
      ];
    }

-- the same, as the end says it
pub stops-whole : {S E : Type 0} {g : Ghosts S} {most : ℕ} {given given_now greeted answered : Option (List ℕ)} {served : Server S} {session : Session S} {began d : Durable S} {w : Option Extension} {e : Option Asked}
    (taken taken_now : Option (List ℕ)) (now : Durable S) (r : Result (Unit {0}) E) → session ≡ session_of most began → Appends taken greeted (greeting (life_of began)) → HasTold g session given greeted served given_now answered
    → w ≡ served.session.waiting → d ≡ served.session.store → e ≡ served.end → (Clean g now.journal → Clean g d.journal)
    → OnErr r (EndsPart g w d e now answered taken_now) → OnErr r (StopsServing g most began given taken now taken_now)
stops-whole taken taken_now now (Ok u) same greets tells waits at_end is_end clean part = tt
stops-whole {S} {E} {g} {most} {given} {given_now} {greeted} {answered} {served} {session} {began} {d} {w} {e} taken taken_now now (Err x) same greets tells waits at_end is_end clean part =
    stops-ending began now greets (subst (λ (s : Session S). HasTold g s given greeted served given_now answered) same tells) (subst (λ (x : Durable S). Clean g now.journal → Clean g x.journal) at_end clean)
    (part-as g now answered taken_now waits at_end is_end part)
