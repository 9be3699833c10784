-- A server goes on byte by byte.
use Rattle.std.proofs.Common.{◌≡◌, inr, ◌∙◌, ◌<◌, ◌+◌, get_or, ℕ, true, false, List, [], ◌∷◌, ◌++◌, length, take, refl, sym, ap, ap₂, subst, Option, None, Some, Result}
use Rattle.std.proofs.lemmas.List.{append_assoc, take_more}
use Rattle.std.proofs.lemmas.Bool.{eqb-true}
use Rattle.std.specs.Prelude.{◌==◌, MatchBool, MatchResult, nat_lt, if◌then◌else◌}
use Rattle.sqlite_trees.specs.declared.store.Store.{Ghosts}
use Rattle.journal.specs.Contents.{Contents}
use Rattle.journal.specs.Outcomes.{Outcomes}
use Rattle.journal.specs.Journal.{Clean, written}
use Rattle.request_text.specs.Requests.{asked_by}
use Rattle.request_text.specs.declared.fault.RequestFault.{RequestFault}
use Rattle.request_text.specs.declared.request.Asked.{Asked}
use Rattle.request_text.specs.declared.request.Request.{Request}
use Rattle.serving.specs.declared.answer_line.AnswerLine.TheVariants.{Fault}
use Rattle.serving.specs.declared.answer_line.Answered.{Answered}
use Rattle.serving.specs.declared.extension.Extension.{Extension}
use Rattle.serving.specs.declared.session.Session.{Session}
use Rattle.serving.specs.declared.server.Server.{Server}
use Rattle.serving.specs.Keys.{kept_answered, outcomes_after, said_after}
use Rattle.serving.specs.Lines.{asks_end, is_end, is_taken, may_wait}
use Rattle.serving.specs.NextEpoch.{begin_limit, full_with}
use Rattle.journal.specs.declared.prepared_row.Prepared.{Prepared}
use Rattle.serving.specs.Prepared.{prepared_answered}
use Rattle.serving.specs.Requests.{DoesRequest}
use Rattle.serving.specs.Served.{IsAnswered, IsAskedMore, Serves}
use Rattle.serving.specs.Server.{AnswersLine, DoesAsked, DoesLine, HasServed, KeepsByte, KeepsKeys, StaysInEpoch, TakesByte, TakesEnd, begins_until, most_kept}
use Rattle.durable_store.specs.Durable.{IsDurable}
use Rattle.serving.proofs.HeldSaid.{held-now}
use Rattle.serving.proofs.MoreEvents.{follows-none, leaves-then, writes-then}
use Rattle.serving.proofs.LaterEpochs.{lasts-stays}
use Rattle.serving.proofs.Premises.{answered-before, serves-weaker}
use Rattle.serving.proofs.ByteByByte.{AskSame, same-kept, asked-kept, byte-more, kept-more, line-more}

pub stays-then : {S : Type 0} {g : Ghosts S} {old mid new : Session S} → StaysInEpoch g old mid → StaysInEpoch g mid new → StaysInEpoch g old new
stays-then {g = g} {old} {mid} {new} first second = record {
  sound = second.sound;
  names = second.names ∙ first.names;
  most = second.most ∙ first.most;
  same = second.same ∙ first.same;
  follows = writes-then g old.store mid.store new.store second.clean first.follows second.follows;
  clean = λ clean. first.clean (second.clean clean);
  crash = leaves-then g old.store mid.store new.store first.clean first.follows first.crash second.crash;
}

-- a session that is as it was
pub stays-put : {S : Type 0} {g : Ghosts S} (s : Session S) → IsDurable g s.store → StaysInEpoch g s s
stays-put {g = g} s sound = record {
  sound = sound;
  names = refl;
  most = refl;
  same = refl;
  follows = λ clean. follows-none (written g s.store.journal);
  clean = λ clean. clean;
  crash = λ db left. inr left;
}

-- a byte of a line
byte-kept : {S : Type 0} {g : Ghosts S} {began : Session S} {told : List Answered} {bytes : List ℕ} {old new : Server S} (b : ℕ) → (b == 10) ≡ false → KeepsByte old b new
    → HasServed g began told bytes old → HasServed g began told (bytes ++ b ∷ []) new
byte-kept {S} {g} {began} {told} {bytes} {old} {new} b other keeps served =
    subst (λ (s : Server S). HasServed g began told (bytes ++ b ∷ []) s) (sym keeps.others) (record {
      lines = served.lines;
      half = served.half ++ b ∷ [];
      asked = byte-more b other served.asked;
      kept = keeps.line ∙ (ap (λ xs. if nat_lt (length xs) most_kept then xs ++ b ∷ [] else xs) served.kept ∙ kept-more most_kept served.half b);
      lasts = served.lasts;
      said = served.said;
      says = served.says;
      serves = served.serves;
    })

-- the LF of a line that is answered in this epoch
line-answered : {S : Type 0} {g : Ghosts S} {began : Session S} {told : List Answered} {bytes : List ℕ} {old new : Server S} (b : ℕ) (a : Answered) → b ≡ 10 → old.end ≡ None → new.end ≡ None → new.line.items ≡ []
    → asks_end old.line.items ≡ false → may_wait old.session.waiting old.line.items ≡ false → StaysInEpoch g old.session new.session → new.session.waiting ≡ old.session.waiting
    → IsAnswered (Clean g new.session.store.journal) (begins_until old.session) old.session.names (written g old.session.store.journal) old.line.items old.session.store.store a new.session.store.store
    → KeepsKeys g old.session.names old.session.store old.line.items a.answer new.session.store
    → new.answers.items ≡ old.answers.items ++ a ∷ [] → HasServed g began told bytes old → HasServed g began told (bytes ++ b ∷ []) new
line-answered {S} {g} {began} {told} {bytes} {old} {new} b a is none ended clear other may stays waits does keeps told_now served =
    let same : asked_by old.line.items ≡ asked_by served.half = ap asked_by served.kept ∙ asked-kept served.half in
    let most = began.most_events in
    let limit = begin_limit old.session.store.strong old.session.waiting (full_with most old.session.names) in
    let file = written g began.store.journal in
    record {
      lines = served.lines ++ served.half ∷ [];
      half = [];
      asked = line-more b is served.asked;
      kept = clear;
      lasts = lasts-stays served.lasts stays;
      said = said_after old.session.names served.said served.half a.answer;
      says = λ now.
          let before = served.says (stays.clean now) in
          let others = (stays.follows now).others in (
            ap (λ (x : Contents). x.objects) others ∙ before.0,
            ap (λ (x : Contents). x.types) others ∙ before.1,
            (keeps now).0 ∙ ap₂ (λ (q : Result Request RequestFault) (outcomes : Outcomes). outcomes_after (kept_answered q a.answer) outcomes) (ap (λ (x : Asked). x.request) same) before.2,
            (keeps now).1 ∙ ap₂ (λ (q : Result Request RequestFault) (ps : List Prepared). prepared_answered old.session.names q a.answer ps) (ap (λ (x : Asked). x.request) same) before.3,
          );
      serves =
          let so_far : Serves (Clean g new.session.store.journal) most file began.names served.lines began.store.store (told ++ old.answers.items) old.session.names served.said old.session.store.store None old.session.waiting =
          serves-weaker stays.clean
          (subst (λ e. Serves (Clean g old.session.store.journal) most file began.names served.lines began.store.store (told ++ old.answers.items) old.session.names served.said old.session.store.store e old.session.waiting) none served.serves) in
          let answered : IsAnswered (Clean g new.session.store.journal) limit old.session.names served.said served.half old.session.store.store a new.session.store.store =
          answered-before (λ now. now) limit old.session.names served.said (written g old.session.store.journal) old.line.items served.half old.session.store.store a new.session.store.store
          (λ now. served.says (stays.clean now)) (subst (λ line. AskSame line served.half) (sym served.kept) (same-kept served.half))
          (subst (λ n. IsAnswered (Clean g new.session.store.journal) (begin_limit old.session.store.strong old.session.waiting (full_with n old.session.names)) old.session.names (written g old.session.store.journal) old.line.items old.session.store.store a new.session.store.store) served.lasts.most does) in
          let ends : asks_end served.half ≡ false = ap (λ (x : Asked). is_end x.request) (sym same) ∙ other in
          let taken : may_wait old.session.waiting served.half ≡ false = ap (λ (x : Asked). is_taken old.session.waiting x.request) (sym same) ∙ may in
          let all : told ++ new.answers.items ≡ (told ++ old.answers.items) ++ a ∷ [] = ap (λ xs. told ++ xs) told_now ∙ sym (append_assoc told old.answers.items (a ∷ [])) in
          rw (ended, all, stays.names, waits)
          (Serves.line served.lines served.half began.store.store old.session.store.store new.session.store.store (told ++ old.answers.items) a old.session.names served.said old.session.waiting old.session.store.strong so_far ends taken served.lasts.sound.strong answered);
    }

-- only where nothing waits may a line wait
taken-none : (waits : Option Extension) (line : List ℕ) → may_wait waits line ≡ true → waits ≡ None
taken-none None line may = refl
taken-none (Some e) line may = absurd cc

-- the LF of a line that asks for more objects
line-waits : {S : Type 0} {g : Ghosts S} {began : Session S} {told : List Answered} {bytes : List ℕ} {old new : Server S} (b : ℕ) (a : Answered) → b ≡ 10 → old.end ≡ None → new.line.items ≡ []
    → may_wait old.session.waiting old.line.items ≡ true → IsAskedMore old.line.items a new.session.waiting → new.session ≡ record old.session { waiting = new.session.waiting }
    → new ≡ record old { session = new.session; line = new.line; answers = new.answers } → new.answers.items ≡ old.answers.items ++ a ∷ []
    → HasServed g began told bytes old → HasServed g began told (bytes ++ b ∷ []) new
line-waits {S} {g} {began} {told} {bytes} {old} {new} b a is none clear may more session others told_now served =
    let same : asked_by old.line.items ≡ asked_by served.half = ap asked_by served.kept ∙ asked-kept served.half in
    let most = began.most_events in
    let file = written g began.store.journal in
    let total : new ≡ record old { session = record old.session { waiting = new.session.waiting }; line = new.line; answers = new.answers } =
    others ∙ ap (λ (x : Session S). let it : Server S = record old { session = x; line = new.line; answers = new.answers } in it) session in
    subst (λ (s : Server S). HasServed g began told (bytes ++ b ∷ []) s) (sym total) (record {
      lines = served.lines ++ served.half ∷ [];
      half = [];
      asked = line-more b is served.asked;
      kept = clear;
      lasts = record {
        sound = served.lasts.sound;
        named = served.lasts.named;
        most = served.lasts.most;
        reaches = served.lasts.reaches;
        clean = served.lasts.clean;
        crash = served.lasts.crash;
      };
      said = served.said;
      says = served.says;
      serves =
          let free : old.session.waiting ≡ None = taken-none old.session.waiting old.line.items may in
          let so_far : Serves (Clean g old.session.store.journal) most file began.names served.lines began.store.store (told ++ old.answers.items) old.session.names served.said old.session.store.store None None =
          subst (λ w. Serves (Clean g old.session.store.journal) most file began.names served.lines began.store.store (told ++ old.answers.items) old.session.names served.said old.session.store.store None w) free
          (subst (λ e. Serves (Clean g old.session.store.journal) most file began.names served.lines began.store.store (told ++ old.answers.items) old.session.names served.said old.session.store.store e old.session.waiting) none served.serves) in
          let taken : may_wait None served.half ≡ true = ap (λ (x : Asked). is_taken None x.request) (sym same) ∙ subst (λ w. may_wait w old.line.items ≡ true) free may in
          let asked : IsAskedMore served.half a new.session.waiting = record { tag = more.tag ∙ ap (λ (x : Asked). x.tag) same; told = more.told } in
          let all : told ++ new.answers.items ≡ (told ++ old.answers.items) ++ a ∷ [] = ap (λ xs. told ++ xs) told_now ∙ sym (append_assoc told old.answers.items (a ∷ [])) in
          rw (none, all) (Serves.more served.lines served.half began.store.store old.session.store.store (told ++ old.answers.items) a old.session.names served.said new.session.waiting so_far taken asked);
    })

-- the LF of a line that is answered
line-told : {S : Type 0} {g : Ghosts S} {began : Session S} {told : List Answered} {bytes : List ℕ} {old new : Server S} (b : ℕ) → b ≡ 10 → old.end ≡ None → new.line.items ≡ []
    → asks_end old.line.items ≡ false → AnswersLine g old new → HasServed g began told bytes old → HasServed g began told (bytes ++ b ∷ []) new
line-told {S} {g} {began} {told} {bytes} {old} {new} b is none clear other answers served =
    elim (may_wait old.session.waiting old.line.items) as (λ v. may_wait old.session.waiting old.line.items ≡ v
    → MatchBool v (IsAskedMore old.line.items answers.a new.session.waiting × (new.session ≡ record old.session { waiting = new.session.waiting }))
    (StaysInEpoch g old.session new.session × (new.session.waiting ≡ old.session.waiting) × IsAnswered (Clean g new.session.store.journal) (begins_until old.session) old.session.names (written g old.session.store.journal) old.line.items old.session.store.store answers.a new.session.store.store × KeepsKeys g old.session.names old.session.store old.line.items answers.a.answer new.session.store)
    → HasServed g began told (bytes ++ b ∷ []) new) [
      | true ↦ λ may does. line-waits b answers.a is none clear may does.0 does.1 answers.others answers.told served
      | false ↦ λ may does. line-answered b answers.a is none (ap (λ (s : Server S). s.end) answers.others ∙ none) clear other may does.0 does.1 does.2 does.3 answers.told served
    ] refl answers.does

-- the LF of a line that asks for the end
end-taken : {S : Type 0} {g : Ghosts S} {began : Session S} {told : List Answered} {bytes : List ℕ} {old new : Server S} (b : ℕ) → b ≡ 10 → old.end ≡ None → new.line.items ≡ []
    → asks_end old.line.items ≡ true → TakesEnd old new → HasServed g began told bytes old → HasServed g began told (bytes ++ b ∷ []) new
end-taken {S} {g} {began} {told} {bytes} {old} {new} b is none clear ends does served =
    let same : asked_by old.line.items ≡ asked_by served.half = ap asked_by served.kept ∙ asked-kept served.half in
    let most = began.most_events in
    let file = written g began.store.journal in
    subst (λ (s : Server S). HasServed g began told (bytes ++ b ∷ []) s) (sym does.others) (record {
      lines = served.lines ++ served.half ∷ [];
      half = [];
      asked = line-more b is served.asked;
      kept = clear;
      lasts = served.lasts;
      said = served.said;
      says = served.says;
      serves =
          let so_far : Serves (Clean g old.session.store.journal) most file began.names served.lines began.store.store (told ++ old.answers.items) old.session.names served.said old.session.store.store None old.session.waiting =
          subst (λ ended. Serves (Clean g old.session.store.journal) most file began.names served.lines began.store.store (told ++ old.answers.items) old.session.names served.said old.session.store.store ended old.session.waiting) none served.serves in
          rw same (Serves.end served.lines served.half began.store.store old.session.store.store (told ++ old.answers.items) old.session.names served.said old.session.waiting so_far (ap (λ (x : Asked). is_end x.request) (sym same) ∙ ends));
    })

-- the LF of a line
line-done : {S : Type 0} {g : Ghosts S} {began : Session S} {told : List Answered} {bytes : List ℕ} {old new : Server S} (b : ℕ) → b ≡ 10 → old.end ≡ None → DoesLine g old new
    → HasServed g began told bytes old → HasServed g began told (bytes ++ b ∷ []) new
line-done {S} {g} {began} {told} {bytes} {old} {new} b is none does served =
    elim (asks_end old.line.items) as (λ v. asks_end old.line.items ≡ v → MatchBool v (TakesEnd old new) (AnswersLine g old new) → HasServed g began told (bytes ++ b ∷ []) new) [
      | true ↦ λ ends takes. end-taken b is none does.line ends takes served
      | false ↦ λ other answers. line-told b is none does.line other answers served
    ] refl does.done

-- a byte
pub byte-served : {S : Type 0} {g : Ghosts S} {began : Session S} {told : List Answered} {bytes : List ℕ} {old new : Server S} (b : ℕ) → old.end ≡ None → TakesByte g old b new
    → HasServed g began told bytes old → HasServed g began told (bytes ++ b ∷ []) new
byte-served {S} {g} {began} {told} {bytes} {old} {new} b none takes served =
    elim (b == 10) as (λ v. (b == 10) ≡ v → MatchBool v (DoesLine g old new) (KeepsByte old b new) → HasServed g began told (bytes ++ b ∷ []) new) [
      | true ↦ λ test does. line-done b (eqb-true b 10 test) none does served
      | false ↦ λ test keeps. byte-kept b test keeps served
    ] refl takes

-- while something waits now
stays-waiting : {S : Type 0} {g : Ghosts S} (s : Session S) (waits : Option Extension) → IsDurable g s.store → StaysInEpoch g s (record s { waiting = waits })
stays-waiting {g = g} s waits sound = record {
  sound = sound;
  names = refl;
  most = refl;
  same = refl;
  follows = λ clean. follows-none (written g s.store.journal);
  clean = λ clean. clean;
  crash = λ db left. inr left;
}

asked-stays : {S : Type 0} {g : Ghosts S} (old : Session S) (line : List ℕ) (a : Answered) (new : Session S) → IsDurable g old.store → DoesAsked g old line a new → StaysInEpoch g old new
asked-stays {S} {g} old line a new sound does =
    elim (may_wait old.waiting line) as (λ v. MatchBool v (IsAskedMore line a new.waiting × (new ≡ record old { waiting = new.waiting }))
    (StaysInEpoch g old new × (new.waiting ≡ old.waiting) × IsAnswered (Clean g new.store.journal) (begins_until old) old.names (written g old.store.journal) line old.store.store a new.store.store × KeepsKeys g old.names old.store line a.answer new.store)
    → StaysInEpoch g old new) [
      | true ↦ λ it. subst (λ (s : Session S). StaysInEpoch g old s) (sym it.1) (stays-waiting old new.waiting sound)
      | false ↦ λ it. it.0
    ] does

-- a line that doesn't wait, as a session answers it
pub asked-answered : {S : Type 0} (g : Ghosts S) (old : Session S) (line : List ℕ) (asked : Asked) (a : Answered) (new : Session S) → IsDurable g old.store → asked ≡ asked_by line → is_taken old.waiting asked.request ≡ false
    → StaysInEpoch g old new → new.waiting ≡ old.waiting → a.tag ≡ asked.tag
    → (Clean g new.store.journal → (written g new.store.journal).outcomes ≡ outcomes_after (kept_answered asked.request a.answer) (written g old.store.journal).outcomes)
    → (Clean g new.store.journal → (written g new.store.journal).prepared ≡ prepared_answered old.names asked.request a.answer (written g old.store.journal).prepared)
    → MatchResult asked.request (λ r. DoesRequest (Clean g new.store.journal) (begins_until old) old.names (written g old.store.journal) old.store.prepared.items line old.store.store r a.answer new.store.store)
    (λ fault. (a.answer ≡ Fault fault) × (new.store.store ≡ old.store.store)) → DoesAsked g old line a new
asked-answered {S} g old line asked a new sound is other stays waits tag keys rows does =
    let answered : IsAnswered (Clean g new.store.journal) (begins_until old) old.names (written g old.store.journal) line old.store.store a new.store.store = record {
      tag = tag ∙ ap (λ (x : Asked). x.tag) is;
      prepared = old.store.prepared.items;
      are = λ now. held-now g old.store sound (stays.clean now);
      request =
          subst (λ (x : Asked). MatchResult x.request (λ r. DoesRequest (Clean g new.store.journal) (begins_until old) old.names (written g old.store.journal) old.store.prepared.items line old.store.store r a.answer new.store.store)
          (λ fault. (a.answer ≡ Fault fault) × (new.store.store ≡ old.store.store))) is does;
    } in
    let test : false ≡ may_wait old.waiting line = sym other ∙ ap (λ (x : Asked). is_taken old.waiting x.request) is in
    subst (λ v. MatchBool v (IsAskedMore line a new.waiting × (new ≡ record old { waiting = new.waiting }))
    (StaysInEpoch g old new × (new.waiting ≡ old.waiting) × IsAnswered (Clean g new.store.journal) (begins_until old) old.names (written g old.store.journal) line old.store.store a new.store.store × KeepsKeys g old.names old.store line a.answer new.store))
    test (
      stays,
      waits,
      answered,
      λ now. (
        keys now ∙ ap (λ (x : Asked). outcomes_after (kept_answered x.request a.answer) (written g old.store.journal).outcomes) is,
        rows now ∙ ap (λ (x : Asked). prepared_answered old.names x.request a.answer (written g old.store.journal).prepared) is,
      ),
    )

-- a byte goes on
line-stays : {S : Type 0} {g : Ghosts S} {old new : Server S} → IsDurable g old.session.store → DoesLine g old new → StaysInEpoch g old.session new.session
line-stays {S} {g} {old} {new} sound does =
    elim (asks_end old.line.items) as (λ v. MatchBool v (TakesEnd old new) (AnswersLine g old new) → StaysInEpoch g old.session new.session) [
      | true ↦ λ takes. subst (λ (s : Server S). StaysInEpoch g old.session s.session) (sym takes.others) (stays-put old.session sound)
      | false ↦ λ answers. asked-stays old.session old.line.items answers.a new.session sound answers.does
    ] does.done

pub byte-stays : {S : Type 0} {g : Ghosts S} (old new : Server S) (b : ℕ) → IsDurable g old.session.store → TakesByte g old b new → StaysInEpoch g old.session new.session
byte-stays {S} {g} old new b sound takes =
    elim (b == 10) as (λ v. MatchBool v (DoesLine g old new) (KeepsByte old b new) → StaysInEpoch g old.session new.session) [
      | true ↦ λ does. line-stays sound does
      | false ↦ λ keeps. subst (λ (s : Server S). StaysInEpoch g old.session s.session) (sym keeps.others) (stays-put old.session sound)
    ] takes

-- the byte at a place after those before it
pub bytes-more : {S : Type 0} {g : Ghosts S} {began : Session S} {told : List Answered} (seen : List ℕ) (old new : Server S) (bytes : List ℕ) (i : ℕ) → i < length bytes → old.end ≡ None
    → TakesByte g old (get_or bytes i 0) new → HasServed g began told (seen ++ take i bytes) old → HasServed g began told (seen ++ take (i + 1) bytes) new
bytes-more {S} {g} {began} {told} seen old new bytes i inside none takes served =
    subst (λ bs. HasServed g began told bs new) (append_assoc seen (take i bytes) (get_or bytes i 0 ∷ []) ∙ ap (λ bs. seen ++ bs) (sym (take_more bytes i 0 inside)))
    (byte-served (get_or bytes i 0) none takes served)
