-- Commits that were answered are events of the file.
use Rattle.serving.specs.AnswersFound.{GoesFurther}
use Rattle.serving.specs.CommitsFound.{TellsCommit}
use Rattle.serving.proofs.Places.{Lasts}
use Rattle.serving.proofs.Moments.{file-goes, kinds-append, serves-moment, tells-left}
use Rattle.std.proofs.Common.{◌≡◌, ◌∙◌, ℕ, Bool, false, None, Some, Result, Ok, Err, List, [], ◌∷◌, ◌++◌, refl, sym, ap, subst}
use Rattle.std.proofs.lemmas.List.Elements.{Contains-append_left, Contains-push}
use Rattle.std.specs.Prelude.{Contains, MatchOption, MatchResult, if◌then◌else◌, is_some}
use Rattle.serial_order.specs.declared.refusal.Refusal.TheVariants.{NotOpen}
use Rattle.sqlite_trees.specs.declared.store.Store.{Ghosts}
use Rattle.object_trait.specs.declared.event.Event.{Event}
use Rattle.object_trait.specs.declared.event.EventKind.TheVariants as kind
use Rattle.serial_order.specs.declared.command.Command.TheVariants as command
use Rattle.serial_order.specs.declared.refusal.Refusal.{Refusal}
use Rattle.serial_order.specs.Operations.{is_among}
use Rattle.store_laws.specs.Stored.{Steps, Stored, refusal_of}
use Rattle.journal.specs.Contents.{Contents}
use Rattle.durable_store.specs.declared.durable.Durable.{Durable}
use Rattle.durable_store.specs.Durable.{kinds}
use Rattle.durable_store.specs.Held.{Unless, prepared_numbers}
use Rattle.durable_store.specs.declared.denial.Denial.{Denial}
use Rattle.durable_store.specs.declared.denial.Denial.TheVariants as denied
use Rattle.journal.specs.declared.prepared_row.Prepared.{Prepared}
use Rattle.request_text.specs.declared.fault.RequestFault.{RequestFault}
use Rattle.request_text.specs.declared.request.Request.{Request}
use Rattle.request_text.specs.declared.request.TransactionName.{TransactionName}
use Rattle.serving.specs.declared.answer_line.AnswerLine.{AnswerLine}
use Rattle.serving.specs.declared.answer_line.AnswerLine.TheVariants.{Committed, Fault, IsPrepared, Refused}
use Rattle.serving.specs.declared.answer_line.Answered.{Answered}
use Rattle.serving.specs.CommitsFound.{AnswersCommit, CommitsAreFound, KeepsCommit}
use Rattle.serving.specs.Does.{DoesCommit, UnlessPrepared, done_or}
use Rattle.serving.specs.Names.{KnownNames, number_named}
use Rattle.serving.specs.Left.{Began, Survives}
use Rattle.serving.specs.Lines.{AreLines}
use Rattle.serving.specs.Requests.{DoesRequest}
use Rattle.serving.specs.Served.{IsAnswered}
use Rattle.serving.specs.Told.{is_lasting}

-- the event, as one by worker 0
abbrev commit_of : ℕ → Event
commit_of n = record { worker = 0; kind = kind.Commit n }

commit-step : (prepared : Bool) (old : Stored) (n : ℕ) (r : Result (Unit {0}) Denial) (answer : AnswerLine) (new : Stored) → answer ≡ Committed → Unless prepared old (λ (x : Result (Unit {0}) Refusal). Steps old 0 (command.Commit n) x new) r new → answer ≡ done_or Committed r
    → new.history ≡ old.history ++ commit_of n ∷ []
commit-step prepared old n (Ok u) answer new told did said =
    ap (λ (s : Stored). s.history) did.1.1 ∙ ap (λ (b : Bool). if b then old.history else old.history ++ commit_of n ∷ []) (let none : is_some (refusal_of old (command.Commit n)) ≡ false = ap is_some (sym did.1.0) in none)
commit-step prepared old n (Err denied.Prepared) answer new told did said = absurd (let it : IsPrepared ≡ Committed = sym said ∙ told in cc)
commit-step prepared old n (Err (denied.Refused e)) answer new told did said = absurd (let it : Refused e ≡ Committed = sym said ∙ told in cc)

commit-done : (names : KnownNames) (ps : List Prepared) (old : Stored) (t : TransactionName) (answer : AnswerLine) (new : Stored) → answer ≡ Committed → DoesCommit names ps old t answer new
    → (n : ℕ) × (number_named names t ≡ Some n) × (new.history ≡ old.history ++ commit_of n ∷ [])
commit-done names ps old t answer new told does =
    elim (number_named names t) as (λ found. number_named names t ≡ found
    → MatchOption found ((answer ≡ Refused NotOpen) × (new ≡ old)) (λ n. (r : Result (Unit {0}) Denial) × UnlessPrepared ps n old (λ (x : Result (Unit {0}) Refusal). Steps old 0 (command.Commit n) x new) r new × (answer ≡ done_or Committed r))
    → (n : ℕ) × (number_named names t ≡ Some n) × (new.history ≡ old.history ++ commit_of n ∷ [])) [
      | None ↦ λ none it. absurd (let no : Refused NotOpen ≡ Committed = sym it.0 ∙ told in cc)
      | Some n ↦ λ known it. (n, known, commit-step (is_among (prepared_numbers ps) n) old n it.0 answer new told it.1 it.2)
    ] refl does

commit-answered : (clean : Type 0) (most : ℕ) (names : KnownNames) (c : Contents) (line : List ℕ) (old : Stored) (a : Answered) (new : Stored) (t : TransactionName) → AnswersCommit line a t → IsAnswered clean most names c line old a new
    → (n : ℕ) × (number_named names t ≡ Some n) × (new.history ≡ old.history ++ commit_of n ∷ [])
commit-answered clean most names c line old a new t commits answered =
    commit-done names answered.prepared old t a.answer new commits.1
    (subst (λ (q : Result Request RequestFault). MatchResult q (λ r. DoesRequest clean most names c answered.prepared line old r a.answer new) (λ fault. (a.answer ≡ Fault fault) × (new ≡ old))) commits.0 answered.request)

-- so it stays
goes-keep : {made n : ℕ} {moment : Stored} {life : ℕ} {now : Stored} → Contains (kinds moment.history) (kind.Commit n) → GoesFurther made moment life now → KeepsCommit made n life now
goes-keep {n = n} {moment} there (GoesFurther.same now more is) = KeepsCommit.event now (subst (λ ks. Contains ks (kind.Commit n)) (sym is) (Contains-append_left (kinds moment.history) more (kind.Commit n) there))
goes-keep there (GoesFurther.epoch life waits ps next old first now before renews begins) = KeepsCommit.epoch life waits ps next old first now (goes-keep there before) renews begins

commit-lasts : (t : TransactionName) → Lasts (λ line a. AnswersCommit line a t)
commit-lasts t line a commits = ap is_lasting commits.1

pub commits-found : {S : Type 0} (g : Ghosts S) (b : Began) (last : List (List ℕ) → Type 0) (seen rest half : List ℕ) (lines : List (List ℕ)) (answers : List Answered) (now : Durable S) → AreLines seen lines half
    → Survives g b last (seen ++ rest) answers now → CommitsAreFound g b last lines answers now
commits-found g b last seen rest half lines answers now asked survives t told db left =
    let (waiting, it) = (survives db left).1 in
    let tells : TellsCommit it.lines it.done t = tells-left seen rest half lines (λ line a. AnswersCommit line a t) (commit-lasts t) asked it told in
    let m = serves-moment tt it.file.serves (λ line a. AnswersCommit line a t) (commit-lasts t) tells in
    let (n, known, is) = commit-answered (Unit {0}) m.most m.names m.said m.line m.old m.a m.new t m.claims m.answered in
    let there : Contains (kinds m.new.history) (kind.Commit n) =
    subst (λ ks. Contains ks (kind.Commit n)) (sym (ap kinds is ∙ kinds-append m.old.history (commit_of n ∷ []))) (Contains-push (kinds m.old.history) (kind.Commit n)) in
    let (since, happened) = file-goes m.names.life m.new it.file.file m.goes_on in
    record {
      lines = it.lines;
      done = it.done;
      file = it.file;
      tells = tells;
      names = m.names;
      knew = m.knew;
      number = n;
      known = known;
      keeps = goes-keep there m.goes_on;
      since = since;
      happened =
          λ now_so.
          let (more, begins) = happened now_so in
          subst (λ ks. Contains ks (kind.Commit n)) (sym begins) (Contains-append_left (kinds m.new.history) more (kind.Commit n) there);
    }
