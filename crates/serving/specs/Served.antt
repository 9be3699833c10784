-- Lines that were done one after another.
use Rattle.std.specs.Prelude.{◌≡◌, Bool, true, false, suc, ℕ, List, [], ◌∷◌, ◌++◌, length, Option, Some, None, MatchResult}
use Rattle.store_laws.specs.Stored.{Stored}
use Rattle.journal.specs.Contents.{Contents}
use Rattle.request_text.specs.Requests.{asked_by}
use Rattle.request_text.specs.declared.request.Asked.{Asked}
use Rattle.serving.specs.declared.answer_line.Answered.{Answered}
use Rattle.serving.specs.declared.answer_line.AnswerLine.TheVariants.{Fault}
use Rattle.serving.specs.Does.{is_epoch_full}
use Rattle.serving.specs.Epochs.{closed_by}
use Rattle.serving.specs.Keys.{said_after}
use Rattle.serving.specs.Requests.{DoesRequest}
use Rattle.serving.specs.declared.extension.Extension.{Extension}
use Rattle.serving.specs.Lines.{asks_end, may_wait}
use Rattle.serving.specs.NextEpoch.{IsNextStore, MayWait, SaysNext, WhereStrong, answers_in, begin_limit, full_with, late_answer, limit_while}
use Rattle.serving.specs.Names.{AreCarriedOver, KnownNames}
use Rattle.serving.specs.Prepared.{now_says}
use Rattle.durable_store.specs.Durable.{prepared_in}
use Rattle.journal.specs.declared.prepared_row.Prepared.{Prepared}

-- a line is answered under its tag: its request is done, or its fault is answered and nothing changes; what is read of the file is so if clean, and so is
-- who is prepared
pub record IsAnswered (clean : Type 0) (most : ℕ) (names : KnownNames) (c : Contents) (line : List ℕ) (old : Stored) (a : Answered) (new : Stored) : Type 0 where
  pub tag : a.tag ≡ (asked_by line).tag
  pub prepared : List Prepared
  pub are : clean → prepared ≡ prepared_in (now_says c old)
  pub request : MatchResult (asked_by line).request (λ r. DoesRequest clean most names c prepared line old r a.answer new) (λ fault. (a.answer ≡ Fault fault) × (new ≡ old))

-- a line that asks for more objects, while no extension waits, is answered under its tag
pub record IsAskedMore (line : List ℕ) (a : Answered) (waits : Option Extension) : Type 0 where
  pub tag : a.tag ≡ (asked_by line).tag
  pub told : MayWait a.tag a.answer waits

-- these lines were done in their order, from a file that says this, and so they were answered: by a store whose client knew these names, which is now this
-- store, whose client knows those, over a file that says these objects, types, outcomes and prepared transactions. An extension may wait. Where an epoch is full another begins, in another
-- life, with the objects of what waits, which is answered then: with all that is open where each yes is strong, and else with what is prepared, so that no transaction begins while it is full
-- or an extension waits. What goes over keeps its names. A line after one that asks for the end isn't done, and
-- that one is answered later. If no wrong answer of the disk was taken as true, what is read of the file is so, and the other life is the next one
pub data Serves (clean : Type 0) (most : ℕ) (c : Contents) (first : KnownNames) : List (List ℕ) → Stored → List Answered → KnownNames → Contents → Stored → Option Asked → Option Extension → Type 0 where
  none : (s : Stored) → Serves clean most c first [] s [] first c s None None
  line : (lines : List (List ℕ)) (asked : List ℕ) (old mid new : Stored) (answers : List Answered) (a : Answered) (names : KnownNames) (said : Contents) (waits : Option Extension) (goes : Bool)
      → Serves clean most c first lines old answers names said mid None waits → asks_end asked ≡ false → may_wait waits asked ≡ false → WhereStrong goes mid
      → IsAnswered clean (begin_limit goes waits (full_with most names)) names said asked mid a new
      → Serves clean most c first (lines ++ asked ∷ []) old (answers ++ a ∷ []) names (said_after names said asked a.answer) new None waits
  more : (lines : List (List ℕ)) (asked : List ℕ) (old new : Stored) (answers : List Answered) (a : Answered) (names : KnownNames) (said : Contents) (waits : Option Extension)
      → Serves clean most c first lines old answers names said new None None → may_wait None asked ≡ true → IsAskedMore asked a waits
      → Serves clean most c first (lines ++ asked ∷ []) old (answers ++ a ∷ []) names said new None waits
  end : (lines : List (List ℕ)) (asked : List ℕ) (old new : Stored) (answers : List Answered) (names : KnownNames) (said : Contents) (waits : Option Extension)
      → Serves clean most c first lines old answers names said new None waits → asks_end asked ≡ true
      → Serves clean most c first (lines ++ asked ∷ []) old answers names said new (Some (asked_by asked)) waits
  forget : (lines : List (List ℕ)) (old mid : Stored) (answers : List Answered) (names : KnownNames) (n : ℕ) (said : Contents) (ended : Option Asked) (waits : Option Extension)
      → Serves clean most c first lines old answers names said mid ended waits → Serves clean most c first lines old answers names said (record mid { forgotten = n }) ended waits
  epoch : (lines : List (List ℕ)) (old mid new : Stored) (answers : List Answered) (names next : KnownNames) (said now : Contents) (waits : Option Extension) (goes : Bool) (ps new_ps : List Prepared)
      → Serves clean most c first lines old answers names said mid None waits → is_epoch_full (limit_while waits (full_with most names)) mid ≡ true → WhereStrong goes mid
      → IsNextStore waits ps (closed_by goes ps mid) new new_ps → AreCarriedOver names goes mid.history ps next.carried → next.begun_with ≡ length new.history → (clean → ps ≡ prepared_in (now_says said mid)) → (clean → next.life ≡ suc names.life) → (clean → SaysNext waits new_ps said now)
      → Serves clean most c first lines old (answers ++ answers_in (late_answer waits mid)) next now new None None

-- these names its client knew after some of the lines
pub record KnewNames (clean : Type 0) (most : ℕ) (c : Contents) (first : KnownNames) (old : Stored) (names : KnownNames) : Type 0 where
  pub lines : List (List ℕ)
  pub answers : List Answered
  pub said : Contents
  pub reached : Stored
  pub waits : Option Extension
  pub serves : Serves clean most c first lines old answers names said reached None waits
