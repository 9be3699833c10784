-- What was answered, group by group.
use Rattle.std.proofs.Common.{◌≡◌, ◌∙◌, ℕ, List, [], ◌++◌, take, drop, refl, sym, ap, subst, Option, None, arith}
use Rattle.std.proofs.lemmas.List.{append_assoc, append-nil, take-append-drop, drop_all}
use Rattle.std.proofs.KnownBytes.{Appends-nil, Appends-trans, Consumes-nil, Consumes-trans, Keeps-refl}
use Rattle.std.specs.Io.KnownBytes.{Appends, Consumes}
use Rattle.sqlite_trees.specs.declared.store.Store.{Ghosts}
use Rattle.journal.specs.Journal.{Clean, written}
use Rattle.durable_store.specs.declared.durable.Durable.{Durable}
use Rattle.serving.specs.declared.answer_line.Answered.{Answered}
use Rattle.serving.specs.declared.session.Session.{Session}
use Rattle.serving.specs.declared.server.Server.{Server}
use Rattle.serving.specs.Names.{KnownNames}
use Rattle.serving.specs.Requests.{LetsGo}
use Rattle.serving.specs.Served.{Serves}
use Rattle.serving.specs.Server.{KeepsAll, StaysInEpoch, HasServed, ServesBytes}
use Rattle.durable_store.specs.Durable.{IsDurable}
use Rattle.serving.specs.Group.{HasTold, IsUnasked, StopsTelling}
use Rattle.serving.specs.Told.{AppendsPart, answers_text}
use Rattle.serving.proofs.LaterEpochs.{lasts-stays, lasts-nowhere}
use Rattle.serving.proofs.NextEpochs.{more-same, says-then}
use Rattle.serving.proofs.Premises.{serves-weaker}
use Rattle.serving.proofs.TextParts.{part-of-whole, part-then, told-more}

-- ---- what was read

-- the bytes of a group too, of which the first ones are served
pub read-more : {S : Type 0} {g : Ghosts S} {began : Session S} {given taken given_now taken_now : Option (List ℕ)} {old : Server S} (given_new : Option (List ℕ)) (bytes : List ℕ) (count : ℕ) → old.end ≡ None
    → (has : HasTold g began given taken old given_now taken_now) → Consumes given_now given_new bytes → Consumes given given_new ((has.seen ++ take count bytes) ++ drop count bytes)
read-more {given = given} {given_now = given_now} given_new bytes count none has consumed =
    subst (Consumes given given_new)
    (ap (λ (xs : List ℕ). (has.seen ++ xs) ++ bytes) (has.all none) ∙ (ap (λ (xs : List ℕ). xs ++ bytes) (append-nil has.seen)
    ∙ (ap (λ (xs : List ℕ). has.seen ++ xs) (sym (take-append-drop count bytes)) ∙ sym (append_assoc has.seen (take count bytes) (drop count bytes)))))
    (Consumes-trans given given_now given_new (has.seen ++ has.rest) bytes has.consumed consumed)

-- ---- a server stops

-- with no more answers, though more may have been read
abbrev pub stops-before : {S : Type 0} {g : Ghosts S} {began : Session S} {given taken given_now taken_now : Option (List ℕ)} {old : Server S} (new : Durable S) (rest : List ℕ) (given_new : Option (List ℕ))
    → (Clean g new.journal → Clean g old.session.store.journal) → (has : HasTold g began given taken old given_now taken_now) → Consumes given given_new (has.seen ++ rest) → StopsTelling g began given taken new taken_now
stops-before {S} {g} {began} {given} {taken} {given_now} {taken_now} {old} new rest given_new clean has consumed = record {
  lines = has.served.lines;
  read = record { seen = has.seen; half = has.served.half; rest = rest; left = given_new; consumed = consumed; asked = has.served.asked };
  answers = has.told;
  names = old.session.names;
  reached = old.session.store.store;
  ended = old.end;
  said = has.served.said;
  waits = old.session.waiting;
  serves = serves-weaker clean
      (subst (λ all. Serves (Clean g old.session.store.journal) began.most_events (written g began.store.journal) began.names has.served.lines began.store.store all old.session.names has.served.said old.session.store.store old.end old.session.waiting)
      (ap (λ more. has.told ++ more) has.waits ∙ append-nil has.told) has.served.serves);
  part = part-of-whole taken taken_now taken_now (answers_text has.told) has.appended (Keeps-refl taken_now);
}

-- while it answers
abbrev pub stops-telling : {S : Type 0} {g : Ghosts S} {began : Session S} {given taken given_now taken_now : Option (List ℕ)} {old : Server S} (mid : Server S) (new : Durable S) (given_new taken_new : Option (List ℕ))
    (bytes : List ℕ) → old.end ≡ None → (Clean g new.journal → Clean g mid.session.store.journal) → (has : HasTold g began given taken old given_now taken_now) → ServesBytes g began has.told has.seen bytes mid
    → Consumes given_now given_new bytes → AppendsPart taken_now taken_new (answers_text mid.answers.items) → StopsTelling g began given taken new taken_new
stops-telling {S} {g} {began} {given} {taken} {given_now} {taken_now} {old} mid new given_new taken_new bytes none clean has more consumed part = record {
  lines = more.served.lines;
  read = record {
    seen = has.seen ++ take more.count bytes;
    half = more.served.half;
    rest = drop more.count bytes;
    left = given_new;
    consumed = read-more given_new bytes more.count none has consumed;
    asked = more.served.asked;
  };
  answers = has.told ++ mid.answers.items;
  names = mid.session.names;
  reached = mid.session.store.store;
  said = more.served.said;
  ended = mid.end;
  waits = mid.session.waiting;
  serves = serves-weaker clean more.served.serves;
  part = subst (AppendsPart taken taken_new) (sym (told-more has.told mid.answers.items)) (part-then taken taken_now taken_new (answers_text has.told) (answers_text mid.answers.items) has.appended part);
}

-- once it has answered all that it did, or a beginning of it
abbrev pub stops-answered : {S : Type 0} {g : Ghosts S} {began : Session S} {given taken : Option (List ℕ)} {told : List Answered} {seen : List ℕ} (now : Server S) (rest : List ℕ) (given_now taken_now : Option (List ℕ))
    → HasServed g began told seen now → now.answers.items ≡ [] → Consumes given given_now (seen ++ rest) → AppendsPart taken taken_now (answers_text told) → StopsTelling g began given taken now.session.store taken_now
stops-answered {S} {g} {began} {given} {taken} {told} {seen} now rest given_now taken_now served empty consumed part = record {
  lines = served.lines;
  read = record { seen = seen; half = served.half; rest = rest; left = given_now; consumed = consumed; asked = served.asked };
  answers = told;
  names = now.session.names;
  reached = now.session.store.store;
  said = served.said;
  ended = now.end;
  waits = now.session.waiting;
  serves =
      subst (λ all. Serves (Clean g now.session.store.journal) began.most_events (written g began.store.journal) began.names served.lines began.store.store all now.session.names served.said now.session.store.store now.end now.session.waiting)
      (ap (λ more. told ++ more) empty ∙ append-nil told) served.serves;
  part = part;
}

-- ---- a group was answered

abbrev pub group-told : {S : Type 0} {g : Ghosts S} {began : Session S} {given taken given_now taken_now : Option (List ℕ)} {old : Server S} (mid new : Server S) (given_new taken_new : Option (List ℕ))
    (bytes : List ℕ) → old.end ≡ None → HasTold g began given taken old given_now taken_now
    → ((told : List Answered) (seen : List ℕ) → HasServed g began told seen old → ServesBytes g began told seen bytes mid)
    → Consumes given_now given_new bytes → Appends taken_now taken_new (answers_text mid.answers.items)
    → StaysInEpoch g mid.session new.session → new.session.waiting ≡ mid.session.waiting → LetsGo mid.session.store.store new.session.store.store
    → new.line ≡ mid.line → new.end ≡ mid.end → new.answers.items ≡ [] → KeepsAll g mid.session.store new.session.store
    → HasTold g began given taken new given_new taken_new
group-told {S} {g} {began} {given} {taken} {given_now} {taken_now} {old} mid new given_new taken_new bytes none has serves consumed appended stays waits lets line ended clear keyless =
    let more = serves has.told has.seen has.served in
    let served = more.served in
    record {
      told = has.told ++ mid.answers.items;
      seen = has.seen ++ take more.count bytes;
      rest = drop more.count bytes;
      consumed = read-more given_new bytes more.count none has consumed;
      all = λ e. drop_all more.count bytes (omega (arith, more.all (sym ended ∙ e)));
      waits = clear;
      served = record {
        lines = served.lines;
        half = served.half;
        asked = served.asked;
        kept = ap (λ v. v.items) line ∙ served.kept;
        lasts = lasts-stays served.lasts stays;
        said = served.said;
        says = λ now. says-then served.said (written g mid.session.store.journal) (written g new.session.store.journal) (served.says (stays.clean now)) (more-same (stays.follows now) (keyless now).0 (keyless now).1);
        serves =
            let so_far = serves-weaker stays.clean served.serves in
            rw (lets, ended, stays.names, waits, ap (λ xs. (has.told ++ mid.answers.items) ++ xs) clear ∙ append-nil (has.told ++ mid.answers.items))
            (Serves.forget served.lines began.store.store mid.session.store.store (has.told ++ mid.answers.items) mid.session.names new.session.store.store.forgotten served.said mid.end mid.session.waiting so_far);
      };
      appended = subst (Appends taken taken_new) (sym (told-more has.told mid.answers.items)) (Appends-trans taken taken_now taken_new (answers_text has.told) (answers_text mid.answers.items) has.appended appended);
    }

-- ---- nothing was answered yet

abbrev pub told-none : {S : Type 0} {g : Ghosts S} (given taken : Option (List ℕ)) (s : Server S) → IsDurable g s.session.store → IsUnasked s → HasTold g s.session given taken s given taken
told-none {S} {g} given taken s sound fresh = record {
  told = [];
  seen = [];
  rest = [];
  consumed = Consumes-nil given;
  all = λ e. refl;
  waits = fresh.answers;
  served = record {
    lines = [];
    half = [];
    asked = record { text = refl; whole = tt; within = refl };
    kept = fresh.line;
    lasts = lasts-nowhere s.session sound (ap (λ (n : KnownNames). n.life) fresh.named);
    said = written g s.session.store.journal;
    says = λ now. (refl, refl, refl, refl);
    serves = rw (fresh.answers, fresh.end, fresh.none_waits) (Serves.none s.session.store.store);
  };
  appended = Appends-nil taken;
}
