-- What a crash leaves of lines that were done.
use Rattle.std.proofs.Common.{◌≡◌, ◌∙◌, ◌⊎◌, inl, inr, ℕ, zero, suc, ◌+◌, ◌<◌, get_or, Bool, true, false, ◌||◌, ◌==◌, Option, None, List, [], ◌∷◌, ◌++◌, length, take, drop, refl, sym, ap, ap₂, subst, IsTrue, arith}
use Rattle.std.proofs.Math.Seq.{take-append_seam}
use Rattle.std.proofs.lemmas.Bool.{or_parts}
use Rattle.std.proofs.lemmas.List.{append_assoc, append-nil, drop_all, length-append, take-append-drop, take-append-le, take_more}
use Rattle.std.proofs.lemmas.List.Folds.{list_any-append}
use Rattle.std.specs.Prelude.{MatchBool}
use Rattle.sqlite_trees.specs.declared.store.Store.{Ghosts}
use Rattle.sqlite_trees.specs.Tree.{Trees}
use Rattle.store_laws.specs.Stored.{Stored}
use Rattle.journal.specs.Contents.{Contents, IsFile, contents_of}
use Rattle.journal.specs.Journal.{Clean, ShowsCommit, may_leave, written}
use Rattle.durable_store.specs.declared.durable.Durable.{Durable}
use Rattle.durable_store.specs.Durable.{IsDurable}
use Rattle.durable_store.specs.Recovered.{IsStoreOf}
use Rattle.request_text.specs.declared.request.Asked.{Asked}
use Rattle.serving.specs.declared.answer_line.Answered.{Answered}
use Rattle.serving.specs.declared.extension.Extension.{Extension}
use Rattle.serving.specs.declared.session.Session.{Session}
use Rattle.serving.specs.declared.server.Server.{Server}
use Rattle.serving.specs.EpochEnd.{BeginsAnew, IsEpochOver, LeavesEnd}
use Rattle.serving.specs.Follows.{LeavesWritten}
use Rattle.serving.specs.Left.{AreFirstAnswers, IsStoreFile, MayEnd, closed_store, IsLeftAfter, LeavesLines, Survives, Began, began_at}
use Rattle.serving.specs.Lines.{AreLines, asks_end}
use Rattle.durable_store.specs.Durable.{prepared_in}
use Rattle.serving.specs.Epochs.{closed_by}
use Rattle.serving.specs.NextEpoch.{IsNextFile, SaysSame}
use Rattle.serving.specs.Names.{KnownNames}
use Rattle.serving.specs.Prepared.{now_says}
use Rattle.serving.specs.Served.{Serves}
use Rattle.serving.specs.Server.{AnswersLine, DoesLine, HasServed, KeepsByte, StaysInEpoch, TakesByte, TakesEnd, life_of}
use Rattle.serving.specs.Told.{has_lasting, is_lasting}
use Rattle.serving.proofs.HeldSaid.{held-said}
use Rattle.serving.proofs.LaterEpochs.{is-store-of, shown-durable}
use Rattle.serving.proofs.Premises.{serves-weaker}

-- ---- answers

-- where none is to a commit, none of the later ones is
none-later : (n : ℕ) (answers : List Answered) → has_lasting answers ≡ false → has_lasting (drop n answers) ≡ false
none-later zero answers none = none
none-later (suc n) [] none = refl
none-later (suc n) (a ∷ answers) none = none-later n answers (or_parts (is_lasting a.answer) (has_lasting answers) none).1

none-after : (n : ℕ) (told waiting : List Answered) → has_lasting (drop n told) ≡ false → has_lasting waiting ≡ false → has_lasting (drop n (told ++ waiting)) ≡ false
none-after zero told waiting none rest = list_any-append (λ (a : Answered). is_lasting a.answer) told waiting ∙ ap₂ (λ p q. p || q) none rest
none-after (suc n) [] waiting none rest = none-later (suc n) waiting rest
none-after (suc n) (a ∷ told) waiting none rest = none-after n told waiting none rest

-- all of them
first-all : (told waiting : List Answered) → AreFirstAnswers told waiting (told ++ waiting)
first-all told waiting = record {
  others = [];
  all = sym (append-nil (told ++ waiting));
  none = ap has_lasting (drop_all (length (told ++ waiting)) told (omega (arith, length-append told waiting)));
}

-- while more wait
first-more : {told waiting done : List Answered} (more : List Answered) → AreFirstAnswers told waiting done → AreFirstAnswers told (waiting ++ more) done
first-more {told} {waiting} {done} more first = record {
  others = first.others ++ more;
  all = sym (append_assoc told waiting more) ∙ (ap (λ xs. xs ++ more) first.all ∙ append_assoc done first.others more);
  none = first.none;
}

-- once the client may have got what waited, where none of it is to a commit
first-told : {told waiting done : List Answered} → has_lasting waiting ≡ false → AreFirstAnswers told waiting done → AreFirstAnswers (told ++ waiting) [] done
first-told {told} {waiting} {done} none first = record {
  others = first.others;
  all = append-nil (told ++ waiting) ∙ first.all;
  none = none-after (length done) told waiting first.none none;
}

-- ---- one file

-- the others were read too
pub rest-read : (seen bytes : List ℕ) (i : ℕ) → (seen ++ take i bytes) ++ drop i bytes ≡ seen ++ bytes
rest-read seen bytes i = append_assoc seen (take i bytes) (drop i bytes) ∙ ap (λ bs. seen ++ bs) (take-append-drop i bytes)

-- where it is over for another reason too
file-last : {over others : Bool → Type 0} {waits : Option Extension} {life : ℕ} {said : Contents} {s : Stored} {c : Contents} → ((goes : Bool) → over goes → others goes) → IsStoreFile over waits life said s c → IsStoreFile others waits life said s c
file-last turn (IsStoreFile.present c is lives knows) = IsStoreFile.present c is lives knows
file-last turn (IsStoreFile.closed goes c so is lives knows) = IsStoreFile.closed goes c (turn goes so) is lives knows
file-last turn (IsStoreFile.anew goes c now next ps so is lives knows begins) = IsStoreFile.anew goes c now next ps (turn goes so) is lives knows begins

module _ {b : Began} where
  -- of more bytes
  left-bytes : {last : List (List ℕ) → Type 0} {told waiting : List Answered} {c : Contents} (bytes more : List ℕ) → IsLeftAfter b last bytes told waiting c → IsLeftAfter b last (bytes ++ more) told waiting c
  left-bytes bytes more left = record {
    count = left.count;
    within = omega (arith, left.within, length-append bytes more);
    lines = left.lines;
    half = left.half;
    asked = subst (λ bs. AreLines bs left.lines left.half) (sym (take-append-le left.count bytes more left.within)) left.asked;
    done = left.done;
    first = left.first;
    file = left.file;
  }

  -- of other answers
  left-first : {last : List (List ℕ) → Type 0} {bytes : List ℕ} {told waiting said rest : List Answered} {c : Contents} → ((done : List Answered) → AreFirstAnswers told waiting done → AreFirstAnswers said rest done)
      → IsLeftAfter b last bytes told waiting c → IsLeftAfter b last bytes said rest c
  left-first other left = record {
    count = left.count;
    within = left.within;
    lines = left.lines;
    half = left.half;
    asked = left.asked;
    done = left.done;
    first = other left.done left.first;
    file = left.file;
  }

  -- after which other lines may be the last
  left-last : {last others : List (List ℕ) → Type 0} {bytes : List ℕ} {told waiting : List Answered} {c : Contents} → ((lines : List (List ℕ)) → last lines → others lines)
      → IsLeftAfter b last bytes told waiting c → IsLeftAfter b others bytes told waiting c
  left-last {last} {others} turn left = record {
    count = left.count;
    within = left.within;
    lines = left.lines;
    half = left.half;
    asked = left.asked;
    done = left.done;
    first = left.first;
    file = record {
      names = left.file.names;
      reached = left.file.reached;
      said = left.file.said;
      ended = left.file.ended;
      waits = left.file.waits;
      serves = left.file.serves;
      file = file-last (λ goes (so : MayEnd b.most left.file.waits left.file.names left.file.reached (last left.lines) goes). elim so [ inl full ↦ inl full | inr it ↦ inr (turn left.lines it.0, it.1) ]) left.file.file;
    };
  }

  -- after these lines
  left-of : {last : List (List ℕ) → Type 0} (seen rest : List ℕ) (lines : List (List ℕ)) (half : List ℕ) (c : Contents) (told waiting done : List Answered) (names : KnownNames) (said : Contents) (reached : Stored) (ended : Option Asked) (waits : Option Extension)
      → AreLines seen lines half → told ++ waiting ≡ done → Serves (Unit {0}) b.most b.file b.names lines b.store done names said reached ended waits
      → IsStoreFile (MayEnd b.most waits names reached (last lines)) waits names.life said reached c → IsLeftAfter b last (seen ++ rest) told waiting c
  left-of seen rest lines half c told waiting done names said reached ended waits asked all serves file = record {
    count = length seen;
    within = omega (arith, length-append seen rest);
    lines = lines;
    half = half;
    asked = subst (λ bs. AreLines bs lines half) (sym (take-append_seam seen rest)) asked;
    done = done;
    first = subst (λ xs. AreFirstAnswers told waiting xs) all (first-all told waiting);
    file = record { names = names; reached = reached; said = said; ended = ended; waits = waits; serves = serves; file = file };
  }

-- ---- a byte

-- it may be the last of a line, which is answered
byte-answers : {S : Type 0} (g : Ghosts S) (old new : Server S) (b : ℕ) → TakesByte g old b new → (more : List Answered) × (new.answers.items ≡ old.answers.items ++ more)
byte-answers {S} g old new b takes =
    elim (b == 10) as (λ v. MatchBool v (DoesLine g old new) (KeepsByte old b new) → (more : List Answered) × (new.answers.items ≡ old.answers.items ++ more)) [
      | true ↦ λ does. elim (asks_end old.line.items) as (λ v. MatchBool v (TakesEnd old new) (AnswersLine g old new) → (more : List Answered) × (new.answers.items ≡ old.answers.items ++ more)) [
        | true ↦ λ ends. ([], ap (λ (s : Server S). s.answers.items) ends.others ∙ sym (append-nil old.answers.items))
        | false ↦ λ answers. (answers.a ∷ [], answers.told)
      ] does.done
      | false ↦ λ keeps. ([], ap (λ (s : Server S). s.answers.items) keeps.others ∙ sym (append-nil old.answers.items))
    ] takes

-- ---- what a crash leaves

module _ {S : Type 0} (g : Ghosts S) (b : Began) (now : Durable S) where
  pub lines-bytes : {last : List (List ℕ) → Type 0} {told waiting : List Answered} (bytes more : List ℕ) → LeavesLines g b last bytes told waiting now
      → LeavesLines g b last (bytes ++ more) told waiting now
  lines-bytes bytes more so_far db left = let it = so_far db left in (it.0, left-bytes bytes more it.1)

  pub lines-first : {last : List (List ℕ) → Type 0} {bytes : List ℕ} {told waiting said rest : List Answered} → ((done : List Answered) → AreFirstAnswers told waiting done → AreFirstAnswers said rest done)
      → LeavesLines g b last bytes told waiting now → LeavesLines g b last bytes said rest now
  lines-first other so_far db left = let it = so_far db left in (it.0, left-first other it.1)

  pub lines-last : {last others : List (List ℕ) → Type 0} {bytes : List ℕ} {told waiting : List Answered} → ((lines : List (List ℕ)) → last lines → others lines)
      → LeavesLines g b last bytes told waiting now → LeavesLines g b others bytes told waiting now
  lines-last turn so_far db left = let it = so_far db left in (it.0, left-last turn it.1)

  pub lines-survive : {last : List (List ℕ) → Type 0} {bytes : List ℕ} {told waiting : List Answered} → LeavesLines g b last bytes told waiting now → Survives g b last bytes told now
  lines-survive {waiting = waiting} so_far db left = let it = so_far db left in (it.0, (waiting, it.1))

  pub survives-last : {last others : List (List ℕ) → Type 0} {bytes : List ℕ} {told : List Answered} → ((lines : List (List ℕ)) → last lines → others lines)
      → Survives g b last bytes told now → Survives g b others bytes told now
  survives-last turn so_far db left = let it = so_far db left in (it.0, (it.1.0, left-last turn it.1.1))

  pub rest-left : {last : List (List ℕ) → Type 0} {told waiting : List Answered} (seen bytes : List ℕ) (i : ℕ) → LeavesLines g b last (seen ++ take i bytes) told waiting now
      → LeavesLines g b last (seen ++ bytes) told waiting now
  rest-left {last} {told} {waiting} seen bytes i so_far =
      subst (λ bs. LeavesLines g b last bs told waiting now) (rest-read seen bytes i) (lines-bytes (seen ++ take i bytes) (drop i bytes) so_far)

module _ {S : Type 0} {g : Ghosts S} where
  -- all that was written by then
  file-written : {over : Bool → Type 0} {waits : Option Extension} (s : Server S) (said c : Contents) → SaysSame said (written g s.session.store.journal) → IsDurable g s.session.store → s.session.names.life ≡ life_of s.session.store → Clean g s.session.store.journal
      → c ≡ written g s.session.store.journal → c.headers ≡ s.session.store.journal.header ∷ [] → IsStoreFile over waits s.session.names.life said s.session.store.store c
  file-written s said c says sound named clean is headers =
      IsStoreFile.present c (subst (λ (x : Contents). IsStoreOf x s.session.store.store) (sym is) (is-store-of g s.session.store sound clean)) (s.session.store.journal.header, headers, sym named)
      (ap (λ (x : Contents). x.outcomes) is ∙ says.2, ap (λ (x : Contents). x.prepared) is ∙ says.3)

  -- where one is to a commit, all that was written is durable
  pub lines-group : (b : Began) {last : List (List ℕ) → Type 0} {all : List (List ℕ)} {half seen : List ℕ} {told : List Answered} (mid new : Session S) (rest : List ℕ) (answers : List Answered) (said : Contents) (ended : Option Asked)
      → (Clean g mid.store.journal → SaysSame said (written g mid.store.journal)) → AreLines seen all half → IsDurable g mid.store → mid.names.life ≡ life_of mid.store → StaysInEpoch g mid new → (has_lasting answers ≡ true → ShowsCommit g new.store.journal)
      → (Clean g new.store.journal → written g new.store.journal ≡ written g mid.store.journal)
      → Serves (Clean g mid.store.journal) b.most b.file b.names all b.store (told ++ answers) mid.names said mid.store.store ended mid.waiting
      → LeavesLines g b last (seen ++ rest) told answers new.store → Clean g new.store.journal → LeavesLines g b last (seen ++ rest) (told ++ answers) [] new.store
  lines-group b {last} {all} {half} {seen} {told} mid new rest answers said ended says asked sound named stays settled same serves so_far clean =
      elim (has_lasting answers) as (λ v. has_lasting answers ≡ v → LeavesLines g b last (seen ++ rest) (told ++ answers) [] new.store) [
        | true ↦ λ some db left.
            let was = stays.clean clean in
            let shows = settled some clean in
            let is : contents_of db ≡ written g new.store.journal = stays.sound.settled clean db left ∙ shown-durable g new.store (settled some) clean in
            let header = ap (λ (c : Contents). c.headers) is ∙ (stays.sound.journal clean).0.header_is shows.0.sound in
            let store : IsStoreOf (contents_of db) mid.store.store = subst (λ (x : Contents). IsStoreOf x mid.store.store) (sym (is ∙ same clean)) (is-store-of g mid.store sound was) in (
              (so_far db left).0,
              left-of seen rest all half (contents_of db) (told ++ answers) [] (told ++ answers) mid.names said mid.store.store ended mid.waiting asked (append-nil (told ++ answers)) (serves-weaker (λ known. was) serves)
                  (IsStoreFile.present (contents_of db) store (new.store.journal.header, header, stays.same ∙ sym named) (ap (λ (x : Contents). x.outcomes) (is ∙ same clean) ∙ (says was).2, ap (λ (x : Contents). x.prepared) (is ∙ same clean) ∙ (says was).3)),
            )
        | false ↦ λ none. lines-first g b new.store (λ done first. first-told none first) so_far
      ] refl

  -- before the first line, where nothing waits to become durable
  pub lines-none : (began : Session S) {last : List (List ℕ) → Type 0} → IsDurable g began.store → began.names.life ≡ life_of began.store → Clean g began.store.journal → ShowsCommit g began.store.journal
      → ((db : Trees) → IsTrue (g.view began.store.journal.store).is_open → may_leave g began.store.journal db → db ≡ (g.view began.store.journal.store).committed)
      → LeavesLines g (began_at g began) last [] [] [] began.store
  lines-none began sound named clean shows last_commit db left =
      let it = (shows clean).0 in
      let file = (sound.journal clean).0 in
      let is : contents_of db ≡ written g began.store.journal = sound.settled clean db left ∙ shown-durable g began.store shows clean in
      let store : IsStoreOf (contents_of db) began.store.store = subst (λ (x : Contents). IsStoreOf x began.store.store) (sym is) (is-store-of g began.store sound clean) in (
        subst IsFile (sym (last_commit db it.is_open left)) (file.kept it.is_open),
        left-of [] [] [] [] (contents_of db) [] [] [] began.names (written g began.store.journal) began.store.store None None (record { text = refl; whole = tt; within = refl }) refl (Serves.none began.store.store)
            (IsStoreFile.present (contents_of db) store (began.store.journal.header, ap (λ (c : Contents). c.headers) is ∙ file.header_is it.sound, sym named) (ap (λ (c : Contents). c.outcomes) is, ap (λ (c : Contents). c.prepared) is)),
      )

-- the file of an epoch that is over
file-ended : {S : Type 0} (g : Ghosts S) {over : Bool → Type 0} (goes : Bool) (waits : Option Extension) (s : Server S) (said c : Contents) → SaysSame said (written g s.session.store.journal) → over goes → s.session.names.life ≡ life_of s.session.store
    → IsDurable g s.session.store → Clean g s.session.store.journal
    → (IsEpochOver g goes s.session.store c ⊎ BeginsAnew g goes waits s.session.store c) → IsStoreFile over waits s.session.names.life said s.session.store.store c
file-ended g goes waits s said c says so named sound clean ended =
    let store = s.session.store.store in
    let are : s.session.store.prepared.items ≡ prepared_in (now_says said store) = held-said g said s.session.store sound clean says in
    let closed : (c : Contents) → IsStoreOf c (closed_by goes s.session.store.prepared.items store) → IsStoreOf c (closed_store goes said store) = λ c it. subst (λ ps. IsStoreOf c (closed_by goes ps store)) are it in
    elim ended [
      | inl it ↦ IsStoreFile.closed goes c so (closed c it.0) (s.session.store.journal.header, it.1, sym named) (it.2 ∙ says.2, it.3 ∙ says.3)
      | inr it ↦ IsStoreFile.anew goes it.before c it.next it.prepared so (closed it.before it.over.0) (s.session.store.journal.header, it.over.1, sym named) (it.over.2 ∙ says.2, it.over.3 ∙ says.3)
          (subst (λ ps. IsNextFile waits ps (closed_by goes ps store) it.next it.prepared it.before c) are it.is)
    ]

module _ {S : Type 0} {g : Ghosts S} {began : Session S} where
  -- after all lines so far
  left-now : {last : List (List ℕ) → Type 0} {told : List Answered} {seen : List ℕ} (s : Server S) (rest : List ℕ) (c : Contents) → (served : HasServed g began told seen s) → Clean g s.session.store.journal
      → IsStoreFile (MayEnd began.most_events s.session.waiting s.session.names s.session.store.store (last served.lines)) s.session.waiting s.session.names.life served.said s.session.store.store c
      → IsLeftAfter (began_at g began) last (seen ++ rest) told s.answers.items c
  left-now {last} {told} {seen} s rest c served clean file =
      left-of seen rest served.lines served.half c told s.answers.items (told ++ s.answers.items) s.session.names served.said s.session.store.store s.end s.session.waiting served.asked refl
      (serves-weaker (λ known. clean) served.serves) file

  -- ---- a crash

  -- of a call that writes, whatever comes of it
  pub lines-on : {last : List (List ℕ) → Type 0} {told : List Answered} {seen : List ℕ} (s : Server S) (new : Durable S) (rest : List ℕ) → HasServed g began told seen s → LeavesWritten g s.session.store new
      → LeavesLines g (began_at g began) last (seen ++ rest) told s.answers.items s.session.store → LeavesLines g (began_at g began) last (seen ++ rest) told s.answers.items new
  lines-on s new rest served crash so_far db left = elim (crash db left) [
    | inl it ↦ (it.1, left-now s rest (contents_of db) served it.0 (file-written s served.said (contents_of db) (served.says it.0) served.lasts.sound served.lasts.named it.0 it.2 it.3))
    | inr before ↦ so_far db before
  ]

  -- ---- bytes

  byte-left : {last : List (List ℕ) → Type 0} {told : List Answered} {seen : List ℕ} (old new : Server S) (b : ℕ) → TakesByte g old b new → HasServed g began told seen old
      → LeavesWritten g old.session.store new.session.store → LeavesLines g (began_at g began) last seen told old.answers.items old.session.store
      → LeavesLines g (began_at g began) last (seen ++ b ∷ []) told new.answers.items new.session.store
  byte-left {last} {told} {seen} old new b takes served crash so_far =
      let (more, is) = byte-answers g old new b takes in
      subst (λ xs. LeavesLines g (began_at g began) last (seen ++ b ∷ []) told xs new.session.store) (sym is)
      (lines-first g (began_at g began) new.session.store (λ done first. first-more more first) (lines-on old new.session.store (b ∷ []) served crash (lines-bytes g (began_at g began) old.session.store seen (b ∷ []) so_far)))

  -- the byte at a place after those before it
  pub bytes-left : {last : List (List ℕ) → Type 0} {told : List Answered} (seen : List ℕ) (old new : Server S) (bytes : List ℕ) (i : ℕ) → i < length bytes → TakesByte g old (get_or bytes i 0) new
      → HasServed g began told (seen ++ take i bytes) old → LeavesWritten g old.session.store new.session.store → LeavesLines g (began_at g began) last (seen ++ take i bytes) told old.answers.items old.session.store
      → LeavesLines g (began_at g began) last (seen ++ take (i + 1) bytes) told new.answers.items new.session.store
  bytes-left {last} {told} seen old new bytes i inside takes served crash so_far =
      subst (λ bs. LeavesLines g (began_at g began) last bs told new.answers.items new.session.store) (append_assoc seen (take i bytes) (get_or bytes i 0 ∷ []) ∙ ap (λ bs. seen ++ bs) (sym (take_more bytes i 0 inside)))
      (byte-left old new (get_or bytes i 0) takes served crash so_far)

  -- the one at a place failed
  pub failed-left : {last : List (List ℕ) → Type 0} {told : List Answered} (seen bytes : List ℕ) (i : ℕ) (s : Server S) (new : Durable S) → HasServed g began told (seen ++ take i bytes) s
      → LeavesWritten g s.session.store new → LeavesLines g (began_at g began) last (seen ++ take i bytes) told s.answers.items s.session.store → Survives g (began_at g began) last (seen ++ bytes) told new
  failed-left {last} {told} seen bytes i s new served crash so_far =
      lines-survive g (began_at g began) new (subst (λ bs. LeavesLines g (began_at g began) last bs told s.answers.items new) (rest-read seen bytes i)
      (lines-on s new (drop i bytes) served crash (lines-bytes g (began_at g began) s.session.store (seen ++ take i bytes) (drop i bytes) so_far)))

  -- ---- the end of an epoch

  pub lines-ended : (goes : Bool) {last : List (List ℕ) → Type 0} {told : List Answered} {seen : List ℕ} (s : Server S) (new : Durable S) (rest : List ℕ)
      → (served : HasServed g began told seen s) → MayEnd began.most_events s.session.waiting s.session.names s.session.store.store (last served.lines) goes
      → LeavesEnd g goes s.session.waiting s.session.store new → LeavesLines g (began_at g began) last (seen ++ rest) told s.answers.items s.session.store → LeavesLines g (began_at g began) last (seen ++ rest) told s.answers.items new
  lines-ended goes s new rest served so crash so_far db left = elim (crash db left) [
    | inl it ↦ (it.1, left-now s rest (contents_of db) served it.0 (file-ended g goes s.session.waiting s served.said (contents_of db) (served.says it.0) so served.lasts.named served.lasts.sound it.0 it.2))
    | inr before ↦ so_far db before
  ]

  -- after which another one has begun, durable
  pub lines-begun : {last : List (List ℕ) → Type 0} {told : List Answered} {seen : List ℕ} (s : Server S) (rest : List ℕ) → HasServed g began told seen s → ShowsCommit g s.session.store.journal → Clean g s.session.store.journal
      → ((db : Trees) → may_leave g s.session.store.journal db → IsFile db) → LeavesLines g (began_at g began) last (seen ++ rest) told s.answers.items s.session.store
  lines-begun s rest served shows clean files db left =
      let sound = served.lasts.sound in
      let it = (shows clean).0 in
      let is : contents_of db ≡ written g s.session.store.journal = sound.settled clean db left ∙ shown-durable g s.session.store shows clean in
      let header = ap (λ (c : Contents). c.headers) is ∙ (sound.journal clean).0.header_is it.sound in
      (files db left, left-now s rest (contents_of db) served clean (file-written s served.said (contents_of db) (served.says clean) sound served.lasts.named clean is header))
