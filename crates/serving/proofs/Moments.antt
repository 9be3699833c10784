-- The moment at which a line was answered is found in the file.
use Rattle.std.proofs.Common.{◌≡◌, ◌∙◌, ◌⊎◌, inl, inr, ℕ, suc, ◌<◌, ◌≤◌, Bool, true, false, Option, None, Some, List, [], ◌∷◌, ◌++◌, drop, take, refl, sym, ap, subst, arith}
use Rattle.std.proofs.lemmas.List.{append-nil, append_assoc, map-append, take-append-drop}
use Rattle.object_trait.specs.declared.event.Event.{Event}
use Rattle.object_trait.specs.declared.event.EventKind.{EventKind}
use Rattle.store_laws.specs.Stored.{Stored}
use Rattle.event_text.specs.EventText.{events_of_kinds}
use Rattle.journal.specs.declared.prepared_row.Prepared.{Prepared}
use Rattle.journal.specs.Contents.{Contents}
use Rattle.durable_store.specs.Durable.{prepared_in, kinds}
use Rattle.durable_store.specs.Recovered.{IsStoreOf}
use Rattle.request_text.specs.declared.request.Asked.{Asked}
use Rattle.serving.specs.declared.answer_line.AnswerLine.{AnswerLine}
use Rattle.serving.specs.declared.answer_line.AnswerLine.TheVariants.{NotAdded}
use Rattle.serving.specs.declared.answer_line.Answered.{Answered}
use Rattle.serving.specs.declared.extension.Extension.{Extension}
use Rattle.serving.specs.AnswersFound.{GoesFurther}
use Rattle.serving.specs.Archives.{life_in}
use Rattle.serving.specs.Epochs.{closed_by, closings}
use Rattle.serving.specs.Left.{Began, IsInLife, IsLeftAfter, IsStoreFile, closed_store}
use Rattle.serving.specs.Lines.{AreLines}
use Rattle.serving.specs.NextEpoch.{MayWait, begin_limit, full_with, is_not_added}
use Rattle.serving.specs.Places.{TellsSuch}
use Rattle.serving.specs.Names.{KnownNames}
use Rattle.serving.specs.Prepared.{now_says}
use Rattle.serving.specs.Served.{IsAnswered, KnewNames, Serves}
use Rattle.serving.specs.Told.{is_lasting}
use Rattle.serving.proofs.FirstLines.{either-lines}
use Rattle.serving.proofs.Growth.{Grows, answered-grows}
use Rattle.serving.proofs.InTurns.{answered-turn, more-turn, serves-count}
use Rattle.serving.proofs.NextEpochs.{next-headers, raised}
use Rattle.serving.proofs.Places.{Lasts, told-done, told-epoch, told-first, told-last, told-longer}

pub kinds-append : (H more : List Event) → kinds (H ++ more) ≡ kinds H ++ kinds more
kinds-append H more = map-append (λ (e : Event). e.kind) H more

pub kinds-events : (happened : List EventKind) → kinds (events_of_kinds happened) ≡ happened
kinds-events [] = refl
kinds-events (k ∷ ks) = ap (λ xs. k ∷ xs) (kinds-events ks)

-- ---- a store goes on from the moment of an answer

pub goes-grow : {born : ℕ} {moment : Stored} {life : ℕ} {old : Stored} (new : Stored) → GoesFurther born moment life old → Grows old new → GoesFurther born moment life new
goes-grow {moment = moment} new (GoesFurther.same old more is) (events, grown, same) =
    GoesFurther.same new (more ++ kinds events) (ap kinds grown ∙ kinds-append old.history events ∙ ap (λ ks. ks ++ kinds events) is ∙ append_assoc (kinds moment.history) more (kinds events))
goes-grow new (GoesFurther.epoch life waits ps next before first old goes renews begins) (events, grown, same) = GoesFurther.epoch life waits ps next before first new goes renews (same ∙ begins)

-- an epoch is closed
goes-close : {born : ℕ} {moment : Stored} {life : ℕ} {old : Stored} (all : Bool) (ps : List Prepared) → GoesFurther born moment life old → GoesFurther born moment life (closed_by all ps old)
goes-close {old = old} all ps goes = goes-grow (closed_by all ps old) goes (closings all ps old, refl, refl)

-- at some moment a line of this kind was done and so answered; a store in this life goes on from there
pub record AnsweredAt (clean : Type 0) (epoch : ℕ) (c : Contents) (first : KnownNames) (began : Stored) (P : List ℕ → Answered → Type 0) (life : ℕ) (now : Stored) : Type 0 where
  pub line : List ℕ
  pub a : Answered
  pub claims : P line a
  pub most : ℕ
  pub names : KnownNames
  pub knew : KnewNames clean epoch c first began names
  pub said : Contents
  pub old : Stored
  pub new : Stored
  pub answered : IsAnswered clean most names said line old a new
  pub goes_on : GoesFurther names.life new life now

moment-grows : {clean : Type 0} {epoch : ℕ} {c : Contents} {first : KnownNames} {began : Stored} {P : List ℕ → Answered → Type 0} {life : ℕ} {old : Stored} (new : Stored) → AnsweredAt clean epoch c first began P life old → Grows old new
    → AnsweredAt clean epoch c first began P life new
moment-grows new m grown =
    record { line = m.line; a = m.a; claims = m.claims; most = m.most; names = m.names; knew = m.knew; said = m.said; old = m.old; new = m.new; answered = m.answered; goes_on = goes-grow new m.goes_on grown }

-- what waits, or isn't added, isn't lasting
not-added-lasts : (answer : AnswerLine) → is_not_added answer ≡ true → is_lasting answer ≡ false
not-added-lasts (NotAdded why) it = refl
not-added-lasts answer it = absurd cc

pub more-lasts : (a : Answered) (waits : Option Extension) → MayWait a.tag a.answer waits → is_lasting a.answer ≡ false
more-lasts a None it = not-added-lasts a.answer it
more-lasts a (Some e) it = ap is_lasting it.0

pub serves-moment : {clean : Type 0} {most : ℕ} {c : Contents} {begins : KnownNames} {lines : List (List ℕ)} {old : Stored} {answers : List Answered} {names : KnownNames} {said : Contents} {new : Stored} {ended : Option Asked} {waits : Option Extension}
    → clean → Serves clean most c begins lines old answers names said new ended waits → (P : List ℕ → Answered → Type 0) (lasts : Lasts P) → TellsSuch lines answers P → AnsweredAt clean most c begins old P names.life new
serves-moment now (Serves.none s) P lasts told = absurd told
serves-moment {clean} {most} {c} {begins} now (Serves.line lines asked old mid new answers a names said waits goes before other may strong answered) P lasts told =
    let limit = begin_limit goes waits (full_with most names) in
    elim (told-last lines answers asked a P ((serves-count before).1 refl) (answered-turn clean limit names said asked mid a new answered) told) [
      | inl earlier ↦ moment-grows new (serves-moment now before P lasts earlier) (answered-grows clean now limit names said asked mid a new answered)
      | inr here ↦ record {
        line = asked;
        a = a;
        claims = here;
        most = limit;
        names = names;
        knew = record { lines = lines; answers = answers; said = said; reached = mid; waits = waits; serves = before };
        said = said;
        old = mid;
        new = new;
        answered = answered;
        goes_on = GoesFurther.same new [] (sym (append-nil (kinds new.history)));
      }
    ]
serves-moment now (Serves.more lines asked old new answers a names said waits before may more) P lasts told =
    elim (told-last lines answers asked a P ((serves-count before).1 refl) (more-turn a waits more.told) told) [
      | inl earlier ↦ serves-moment now before P lasts earlier
      | inr here ↦ absurd (let it : true ≡ false = sym (lasts asked a here) ∙ more-lasts a waits more.told in cc)
    ]
serves-moment now (Serves.end lines asked old new answers names said waits before ends) P lasts told =
    serves-moment now before P lasts
    (told-first lines (asked ∷ []) answers [] P lasts (serves-count before).0 refl (subst (λ xs. TellsSuch (lines ++ asked ∷ []) xs P) (sym (append-nil answers)) told))
serves-moment now (Serves.forget lines old mid answers names n said ended waits before) P lasts told =
    moment-grows (record mid { forgotten = n }) (serves-moment now before P lasts told) ([], sym (append-nil mid.history), refl)
serves-moment {clean} {most} {c} {begins} now (Serves.epoch lines old mid new answers names next said file waits all ps new_ps before full strong renews over counted are follows says) P lasts told =
    let m = moment-grows (closed_by all ps mid) (serves-moment now before P lasts (told-epoch waits mid lines answers P told)) (closings all ps mid, refl, refl) in
    subst (λ n. AnsweredAt clean most c begins old P n new) (sym (follows now))
    (record {
      line = m.line;
      a = m.a;
      claims = m.claims;
      most = m.most;
      names = m.names;
      knew = m.knew;
      said = m.said;
      old = m.old;
      new = m.new;
      answered = m.answered;
      goes_on = GoesFurther.epoch names.life waits ps new_ps (closed_by all ps mid) new new m.goes_on renews refl;
    })

-- ---- of a file

-- its life is over, or its events are a beginning of these
abbrev IsGone : ℕ → Stored → ℕ → List EventKind → Type 0
IsGone born moment life happened = (born < life) ⊎ ((born ≡ life) × ((more : List EventKind) × (happened ≡ kinds moment.history ++ more)))

goes-gone : {born : ℕ} {moment : Stored} {life : ℕ} {now : Stored} → GoesFurther born moment life now → IsGone born moment life (kinds now.history)
goes-gone (GoesFurther.same now more is) = inr (refl, (more, is))
goes-gone (GoesFurther.epoch life waits ps next old first now before renews begins) = elim (goes-gone before) [ inl over ↦ inl (omega (arith, over)) | inr it ↦ inl (omega (arith, it.0)) ]

store-gone : (c : Contents) (s : Stored) (life : ℕ) {born : ℕ} {moment : Stored} → IsStoreOf c s → GoesFurther born moment life s → IsGone born moment life c.events
store-gone c s life {born} {moment} is goes = subst (λ ks. IsGone born moment life ks) (ap kinds is.history ∙ kinds-events c.events) (goes-gone goes)

-- its events begin with these, while it is in that life
abbrev pub FileGoesOn : Contents → ℕ → Stored → Type 0
FileGoesOn c born moment = (born ≤ life_in c.headers) × (born ≡ life_in c.headers → (more : List EventKind) × (c.events ≡ kinds moment.history ++ more))

gone-in : (c : Contents) (life born : ℕ) (moment : Stored) → IsInLife c life → IsGone born moment life c.events → FileGoesOn c born moment
gone-in c life born moment (h, said, lives) gone =
    let is : life_in c.headers ≡ life = ap life_in said ∙ lives in (
      elim gone [ inl over ↦ omega (arith, over, is) | inr it ↦ omega (arith, it.0, is) ],
      λ same. elim gone [ inl over ↦ absurd (omega (arith, over, is, same)) | inr it ↦ it.1 ],
    )

pub file-goes : {over : Bool → Type 0} {waits : Option Extension} {life : ℕ} {said : Contents} {s : Stored} {c : Contents} (born : ℕ) (moment : Stored) → IsStoreFile over waits life said s c → GoesFurther born moment life s → FileGoesOn c born moment
file-goes {over} {waits} {life} {said} {s} born moment (IsStoreFile.present c is lives knows) goes = gone-in c life born moment lives (store-gone c s life is goes)
file-goes {over} {waits} {life} {said} {s} born moment (IsStoreFile.closed all c so is lives knows) goes =
    gone-in c life born moment lives (store-gone c (closed_store all said s) life is (goes-close all (prepared_in (now_says said s)) goes))
file-goes {over} {waits} {life} {said} {s} born moment (IsStoreFile.anew all c now next ps so is (h, headers, lives) knows begins) goes =
    let gone = store-gone c (closed_store all said s) life is (goes-close all (prepared_in (now_says said s)) goes) in
    let later : life_in now.headers ≡ suc life = ap life_in (next-headers waits (prepared_in (now_says said s)) (closed_store all said s) next ps c now begins) ∙ ap (λ hs. life_in (raised hs)) headers ∙ ap suc lives in (
      elim gone [ inl over ↦ omega (arith, over, later) | inr it ↦ omega (arith, it.0, later) ],
      λ same. elim gone [ inl over ↦ absurd (omega (arith, over, later, same)) | inr it ↦ absurd (omega (arith, it.0, later, same)) ],
    )

-- ---- after a crash

-- of the lines of first bytes, and of those of other first bytes, the one are the first of the other
pub tells-left : {b : Began} {last : List (List ℕ) → Type 0} {answers waiting : List Answered} {c : Contents} (seen rest half : List ℕ) (lines : List (List ℕ)) (P : List ℕ → Answered → Type 0) (lasts : Lasts P)
    → AreLines seen lines half → (it : IsLeftAfter b last (seen ++ rest) answers waiting c) → TellsSuch lines answers P → TellsSuch it.lines it.done P
tells-left {answers = answers} {waiting} seen rest half lines P lasts asked it told =
    elim (either-lines seen rest (drop it.count (seen ++ rest)) (take it.count (seen ++ rest)) lines half it.lines it.half asked it.asked (take-append-drop it.count (seen ++ rest))) [
      | inl more ↦ told-done it.lines answers waiting it.done it.first.others P lasts it.first.all it.first.none
          (subst (λ ls. TellsSuch ls answers P) (sym more.1) (told-longer lines more.0 answers P told))
      | inr more ↦ told-first it.lines more.0 it.done [] P lasts (serves-count it.file.serves).0 refl
          (subst (λ xs. TellsSuch (it.lines ++ more.0) xs P) (sym (append-nil it.done))
          (told-done (it.lines ++ more.0) answers waiting it.done it.first.others P lasts it.first.all it.first.none (subst (λ ls. TellsSuch ls answers P) more.1 told)))
    ]
