-- Audits of histories one after another: what they say of the serial order over all.
use Rattle.std.proofs.Common.{◌≡◌, ◌≢◌, ◌↔◌, ℕ, zero, suc, List, [], ◌∷◌, ◌++◌, take, ◌⊎◌, inl, inr, Option, Some, None, Result, Ok, Err, IsOk, Vec, slice_get, refl, sym, ap, subst, ◌∙◌, append_assoc}
use Rattle.std.specs.declared.alloc.Global.{Global}
use Rattle.std.proofs.lemmas.Bool.{false≢true}
use Rattle.std.proofs.lemmas.Option.{none-some, same_Some}
use Rattle.type_table.specs.Table.{Table, table_at}
use Rattle.type_table.specs.Run.{run, IsLegal}
use Rattle.type_table.specs.Laws.{RunsAlong, RunsAlike}
use Rattle.object_trait.specs.declared.event.Event.{Event}
use Rattle.object_trait.specs.declared.event.EventKind.{EventKind}
use Rattle.object_trait.specs.declared.event.EventKind.TheVariants as kind
use Rattle.object_trait.specs.declared.event.EventKind.TheVariants.{Begin, Op, Busy, Commit, Abort, Rollback}
use Rattle.serial_order.specs.Operations.{ops}
use Rattle.serial_order.specs.History.{Summary, commits, summary, IsOperation, IsOperationPlace, ContinuesHistory, AllContinue, IsHistory}
use Rattle.serial_order.specs.Serial.{serial_at}
use Rattle.history_judge.specs.Audit.{AreSerial, Audits}
use Rattle.history_audit.specs.Epochs.{Told, tables_at, tables_after, AreAudits, HasEpochFault, AuditsEpochs, serial_over_histories, AreSerialOver, AreHistories, YesIsSerialOver, EpochsDecide}
use Rattle.history_judge.specs.declared.outcome.Audit.{Audit}
use Rattle.history_judge.specs.declared.outcome.AuditFault.{AuditFault}
use Rattle.history_judge.specs.declared.outcome.AuditFault.TheVariants.{BadEvent, IllegalOp, NoMemory}
use Rattle.history_audit.specs.declared.epoch_fault.EpochFault.{EpochFault}
use Rattle.type_table.proofs.Legal.{legal-front, legal-behind}
use Rattle.history_audit.proofs.Serials.{serial-each, never-bad}
use Rattle.history_judge.proofs.Lists.{found}
use Rattle.history_audit.proofs.FirstTables.{first-at, in-first, in-all, no-state, missing}
use Rattle.history_audit.proofs.NotThere.{not_there}

-- ---- tables that begin at other states

-- the table of an object that has a state
pub at-state : (tables : List Table) (states : List ℕ) (x : ℕ) (T : Table) (s : ℕ) → slice_get tables x ≡ Some T → slice_get states x ≡ Some s
    → slice_get (tables_at tables states) x ≡ Some (table_at T s)
at-state [] states x T s at there = absurd (none-some T at)
at-state (U ∷ tables) [] x T s at there = absurd (none-some s there)
at-state (U ∷ tables) (r ∷ states) zero T s at there = ap Some (ap (λ V. table_at V r) (same_Some U T at) ∙ ap (table_at T) (same_Some r s there))
at-state (U ∷ tables) (r ∷ states) (suc x) T s at there = at-state tables states x T s at there

-- what doesn't depend on where a type begins is the same of the tables
same-at : (P : Option Table → Type 0) → ((T : Table) (s : ℕ) → P (Some (table_at T s)) ≡ P (Some T)) → (tables : List Table) (states : List ℕ) (x : ℕ)
    → P (slice_get (tables_at tables states) x) ≡ P (slice_get tables x)
same-at P same [] states x = refl
same-at P same (T ∷ tables) [] x = refl
same-at P same (T ∷ tables) (s ∷ states) zero = same T s
same-at P same (T ∷ tables) (s ∷ states) (suc x) = same-at P same tables states x

-- so are their operations, and the places of these
same-operations : (tables : List Table) (states : List ℕ) (x k : ℕ) → IsOperation (slice_get (tables_at tables states) x) k ≡ IsOperation (slice_get tables x) k
same-operations tables states x k = same-at (λ table. IsOperation table k) (λ T s. refl) tables states x

same-places : (tables : List Table) (states : List ℕ) (x place : ℕ) → IsOperationPlace (slice_get (tables_at tables states) x) place ≡ IsOperationPlace (slice_get tables x) place
same-places tables states x place = same-at (λ table. IsOperationPlace table place) (λ T s. refl) tables states x

-- and the same events may come next
same-events : (tables : List Table) (states : List ℕ) (s : Summary) (e : EventKind) → ContinuesHistory (tables_at tables states) s e ≡ ContinuesHistory tables s e
same-events tables states s (Begin t) = refl
same-events tables states s (Op k t x) = rw (same-operations tables states x k) refl
same-events tables states s (Busy c t x u) = rw (same-places tables states x c) refl
same-events tables states s (kind.None t x c) = rw (same-places tables states x c) refl
same-events tables states s (Commit t) = refl
same-events tables states s (Abort t) = refl
same-events tables states s (Rollback t n) = refl

goes-alike : (tables : List Table) (states : List ℕ) (before H : List Event) → AllContinue (tables_at tables states) before H ≡ AllContinue tables before H
goes-alike tables states before [] = refl
goes-alike tables states before (e ∷ H) = rw (same-events tables states (summary before) e.kind, goes-alike tables states (before ++ e ∷ []) H) refl

-- so they have the same histories
pub histories-alike : (tables : List Table) (states : List ℕ) (H : List Event) → IsHistory (tables_at tables states) H ≡ IsHistory tables H
histories-alike tables states H = goes-alike tables states [] H

first-alike : (n : ℕ) (tables : List Table) (states : List ℕ) (H : List Event) → IsHistory (take n (tables_at tables states)) H ≡ IsHistory (take n tables) H
first-alike n tables states H = ap (λ them. IsHistory them H) (first-at n tables states) ∙ histories-alike (take n tables) states H

pub all-alike : (tables : List Table) (states : List ℕ) (hs : List Told) → AreHistories (tables_at tables states) hs → AreHistories tables hs
all-alike tables states [] them = tt
all-alike tables states (h ∷ hs) them = (subst (λ P. P) (first-alike h.objects tables states h.events) them.0, all-alike tables states hs them.1)

after-alike : (n : ℕ) (tables : List Table) (audits : List Audit) (H : List Event) → IsHistory (take n tables) H → IsHistory (take n (tables_after tables audits)) H
after-alike n tables [] H its = its
after-alike n tables (a ∷ more) H its = after-alike n (tables_at tables a.finals.items) more H (subst (λ P. P) (sym (first-alike n tables a.finals.items H)) its)

-- a table for each object, as before
table-at_first : (tables : List Table) (states : List ℕ) (x : ℕ) (U : Table) → slice_get (tables_at tables states) x ≡ Some U → (T : Table) × (slice_get tables x ≡ Some T)
table-at_first [] states x U at = absurd (none-some U at)
table-at_first (T ∷ tables) [] x U at = (U, at)
table-at_first (T ∷ tables) (s ∷ states) zero U at = (T, refl)
table-at_first (T ∷ tables) (s ∷ states) (suc x) U at = table-at_first tables states x U at

table-before : (tables : List Table) (audits : List Audit) (x : ℕ) (U : Table) → slice_get (tables_after tables audits) x ≡ Some U → (T : Table) × (slice_get tables x ≡ Some T)
table-before tables [] x U at = (U, at)
table-before tables (a ∷ more) x U at =
    let (V, there) = table-before (tables_at tables a.finals.items) more x U at in
    table-at_first tables a.finals.items x V there

-- ---- a yes

histories-of : (tables : List Table) (hs : List Told) (audits : List Audit) → AreAudits tables hs audits → AreHistories tables hs
histories-of tables [] [] them = tt
histories-of tables (h ∷ hs) (a ∷ more) them = (them.0.0, all-alike tables a.finals.items hs (histories-of (tables_at tables a.finals.items) hs more them.1))
histories-of tables [] (a ∷ more) them = absurd them
histories-of tables (h ∷ hs) [] them = absurd them

module _ (along : RunsAlong) (alike : RunsAlike) where
  -- where the serial order over some histories leads an object from its initial state
  abbrev Leads : List Table → List Told → List Audit → ℕ → Table → Type 0
  Leads tables hs audits x T = (s : ℕ) × (run T (Some T.initial) (serial_over_histories x hs) ≡ Some s) × (slice_get (tables_after tables audits) x ≡ Some (table_at T s))

  -- an object of the first history goes on from where this ends
  goes-on : (tables : List Table) (h : Told) (hs : List Told) (a : Audit) (more : List Audit) (x : ℕ) (T : Table) → Audits (take h.objects tables) h.events (Ok a)
      → slice_get tables x ≡ Some T → slice_get (take h.objects tables) x ≡ Some T
      → ((U : Table) → slice_get (tables_at tables a.finals.items) x ≡ Some U → Leads (tables_at tables a.finals.items) hs more x U) → Leads tables (h ∷ hs) (a ∷ more) x T
  goes-on tables h hs a more x T its at among rest =
      let finals = a.finals.items in
      let (s, there) = found (take h.objects tables) finals x T its.1.leads.as_many among in
      let (e, runs, behind) = rest (table_at T s) (at-state tables finals x T s at there) in (
        e,
        along T (Some T.initial) (ops (serial_at x h.events)) (serial_over_histories x hs)
            ∙ ap (λ from. run T from (serial_over_histories x hs)) (its.1.leads.states x T s among there)
            ∙ sym (alike T s (Some s) (serial_over_histories x hs))
            ∙ runs,
        behind,
      )

  -- one that isn't there yet begins later
  begins-later : (tables : List Table) (h : Told) (hs : List Told) (a : Audit) (more : List Audit) (x : ℕ) (T : Table) → Audits (take h.objects tables) h.events (Ok a)
      → slice_get tables x ≡ Some T → slice_get (take h.objects tables) x ≡ None
      → ((U : Table) → slice_get (tables_at tables a.finals.items) x ≡ Some U → Leads (tables_at tables a.finals.items) hs more x U) → Leads tables (h ∷ hs) (a ∷ more) x T
  begins-later tables h hs a more x T its at none rest =
      let finals = a.finals.items in
      let (e, runs, behind) = rest T (no-state tables finals x (missing (take h.objects tables) finals x its.1.leads.as_many none) ∙ at) in
      (e, ap (λ them. run T (Some T.initial) (them ++ serial_over_histories x hs)) (not_there (take h.objects tables) h.events x its.0 none) ∙ runs, behind)

  by-place : (tables : List Table) (h : Told) (hs : List Told) (a : Audit) (more : List Audit) (x : ℕ) (T : Table) → Audits (take h.objects tables) h.events (Ok a)
      → slice_get tables x ≡ Some T → (slice_get (take h.objects tables) x ≡ Some T) ⊎ (slice_get (take h.objects tables) x ≡ None)
      → ((U : Table) → slice_get (tables_at tables a.finals.items) x ≡ Some U → Leads (tables_at tables a.finals.items) hs more x U) → Leads tables (h ∷ hs) (a ∷ more) x T
  by-place tables h hs a more x T its at (inl among) rest = goes-on tables h hs a more x T its at among rest
  by-place tables h hs a more x T its at (inr none) rest = begins-later tables h hs a more x T its at none rest

  -- where the serial order over all leads
  pub leads : (tables : List Table) (hs : List Told) (audits : List Audit) → AreAudits tables hs audits → (x : ℕ) (T : Table) → slice_get tables x ≡ Some T → Leads tables hs audits x T
  leads tables [] [] them x T at = (T.initial, refl, at)
  leads tables (h ∷ hs) (a ∷ more) them x T at =
      by-place tables h hs a more x T them.0 at (in-first h.objects tables x T at) (leads (tables_at tables a.finals.items) hs more them.1 x)
  leads tables [] (a ∷ more) them x T at = absurd them
  leads tables (h ∷ hs) [] them x T at = absurd them

  pub yes_is_serial_over : YesIsSerialOver
  yes_is_serial_over = λ tables hs audits them. (histories-of tables hs audits them, leads tables hs audits them)

  serial-of : (tables : List Table) (hs : List Told) (audits : List Audit) → AreAudits tables hs audits → AreSerialOver tables hs
  serial-of tables hs audits them x T at =
      let (s, runs, behind) = leads tables hs audits them x T at in
      rw runs refl

  -- ---- what has no yes

  -- a history among others
  history-at : (tables : List Table) (hs : List Told) (n : ℕ) (h : Told) → AreHistories tables hs → slice_get hs n ≡ Some h → IsHistory (take h.objects tables) h.events
  history-at tables [] n h them at = absurd (none-some h at)
  history-at tables (g ∷ hs) zero h them at = subst (λ (f : Told). IsHistory (take f.objects tables) f.events) (same_Some g h at) them.0
  history-at tables (g ∷ hs) (suc n) h them at = history-at tables hs n h them.1 at

  -- the serial order over all begins with that over the first of them, and one more
  serial-first : (x : ℕ) (hs : List Told) (n : ℕ) (h : Told) → slice_get hs n ≡ Some h
      → (rest : List ℕ) × (serial_over_histories x hs ≡ (serial_over_histories x (take n hs) ++ ops (serial_at x h.events)) ++ rest)
  serial-first x [] n h at = absurd (none-some h at)
  serial-first x (g ∷ hs) zero h at = (serial_over_histories x hs, ap (λ (f : Told). ops (serial_at x f.events) ++ serial_over_histories x hs) (same_Some g h at))
  serial-first x (g ∷ hs) (suc n) h at =
      let (rest, is) = serial-first x hs n h at in (
        rest,
        ap (λ them. ops (serial_at x g.events) ++ them) is
            ∙ sym (append_assoc (ops (serial_at x g.events)) (serial_over_histories x (take n hs) ++ ops (serial_at x h.events)) rest)
            ∙ ap (λ them. them ++ rest) (sym (append_assoc (ops (serial_at x g.events)) (serial_over_histories x (take n hs)) (ops (serial_at x h.events)))),
      )

  -- after the audits of the first histories the next one is serially legal
  serial-next : (tables : List Table) (hs : List Told) (n : ℕ) (audits : List Audit) (h : Told) → AreSerialOver tables hs → AreAudits tables (take n hs) audits
      → slice_get hs n ≡ Some h → AreSerial (take h.objects (tables_after tables audits)) h.events
  serial-next tables hs n audits h serial before there x U among =
      let at = in-all h.objects (tables_after tables audits) x U among in
      let (T, its) = table-before tables audits x U at in
      let (s, runs, behind) = leads tables (take n hs) audits before x T its in
      let (rest, is) = serial-first x hs n h there in
      let front = legal-front T (Some T.initial) (serial_over_histories x (take n hs) ++ ops (serial_at x h.events)) rest (subst (IsLegal T (Some T.initial)) is (serial x T its)) in
      let next : IsLegal T (Some s) (ops (serial_at x h.events)) = legal-behind along T (Some T.initial) (serial_over_histories x (take n hs)) (ops (serial_at x h.events)) s runs front in
      let same : table_at T s ≡ U = same_Some (table_at T s) U (sym behind ∙ at) in
      let P : Table → Type 0 = λ V. IsLegal V (Some V.initial) (ops (serial_at x h.events)) in
      subst P same (rw (alike T s (Some s) (ops (serial_at x h.events))) next)

  -- so none of its events is bad, and none of its operations isn't legal
  never-faulty : (tables : List Table) (hs : List Told) (n : ℕ) (fault : AuditFault) → AreHistories tables hs → AreSerialOver tables hs → HasEpochFault tables hs n fault → fault ≡ NoMemory
  never-faulty tables hs n (BadEvent at) them serial f =
      let h = f.history in
      absurd (never-bad (take h.objects (tables_after tables f.audits)) h.events at (after-alike h.objects tables f.audits h.events (history-at tables hs n h them f.there)) f.faulty)
  never-faulty tables hs n (IllegalOp i x j) them serial f =
      let h = f.history in
      absurd (serial-each along (take h.objects (tables_after tables f.audits)) h.events (commits h.events) i x j (serial-next tables hs n f.audits h serial f.before f.there) f.faulty.1.illegal)
  never-faulty tables hs n NoMemory them serial f = refl

  decides : (tables : List Table) (hs : List Told) (outcome : Result (Vec Audit Global) EpochFault) → AuditsEpochs tables hs outcome
      → ((f : EpochFault) → outcome ≡ Err f → f.fault ≢ NoMemory) → IsOk outcome ↔ (AreHistories tables hs × AreSerialOver tables hs)
  decides tables hs (Ok audits) said memory = (λ ok. (histories-of tables hs audits.items said, serial-of tables hs audits.items said), λ known. refl)
  decides tables hs (Err f) said memory = (λ ok. absurd (false≢true ok), λ known. absurd (memory f refl (never-faulty tables hs f.epoch f.fault known.0 known.1 said)))

  pub epochs_decide : EpochsDecide
  epochs_decide = decides
