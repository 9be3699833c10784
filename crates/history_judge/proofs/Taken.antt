-- One more event that a judge takes, and what it hands out.
use Rattle.std.proofs.Common.{◌≡◌, ℕ, ◌+◌, List, [], take, Option, Some, None, Result, Ok, Err, slice_get, refl, sym, ap, subst}
use Rattle.std.proofs.lemmas.Option.{same_Some}
use Rattle.type_table.specs.Table.{Table}
use Rattle.type_table.proofs.Elements.{each-map, each-filter, take-found}
use Rattle.object_trait.specs.declared.event.Event.{Event}
use Rattle.object_trait.specs.declared.event.EventKind.{EventKind}
use Rattle.object_trait.specs.declared.event.EventKind.TheVariants as kind
use Rattle.object_trait.specs.declared.event.EventKind.TheVariants.{Begin, Op, Busy, Commit, Abort, Rollback}
use Rattle.serial_order.specs.Operations.{is_by, of}
use Rattle.serial_order.specs.History.{Summary, summary, surviving, IsOperation, ContinuesHistory}
use Rattle.serial_order.specs.After.{SummaryAfter}
use Rattle.serial_order.specs.declared.entry.Entry.{Entry}
use Rattle.history_judge.specs.Judges.{Judges}
use Rattle.history_judge.specs.Judged.{IsJudged, IsHanded, StopsJudge, committed_as, fault_at}
use Rattle.history_judge.specs.Rows.{executed_of, operations_of, AreRowsOf}
use Rattle.history_judge.specs.declared.executed.Executed.{Executed}
use Rattle.history_judge.specs.declared.event_fault.EventFault.{EventFault}
use Rattle.history_judge.specs.declared.event_fault.EventFault.TheVariants as judge_fault
use Rattle.history_judge.specs.declared.event_fault.EventFault.TheVariants.{Bad}
use Rattle.history_judge.specs.Replay.{AreOperations}
use Rattle.history_judge.proofs.Kept.{goes-more, there-after}

-- before the first event
pub nothing-judged : (tables : List Table) (rows : List (Option (List Executed))) → AreRowsOf rows (summary []) → IsJudged tables [] rows
nothing-judged tables rows agree = record { history = tt; agree = agree; there = tt }

-- the operations of a transaction that live are of objects that are there
pub operations-there : (tables : List Table) (H : List Event) (rows : List (Option (List Executed))) (t : ℕ) → IsJudged tables H rows → AreOperations tables (operations_of t (summary H))
operations-there tables H rows t known =
    each-map (λ (o : Executed). IsOperation (slice_get tables o.x) o.k) executed_of (of t (surviving H))
    (each-filter (λ (f : Entry). IsOperation (slice_get tables f.at) f.op) (is_by t) (surviving H) known.there)

-- an event that is no commit hands out nothing
pub nothing-committed : (happened : EventKind) (s : Summary) → ((t : ℕ) → happened ≡ Commit t → ⊥) → None ≡ committed_as happened s
nothing-committed (Commit t) s other = absurd (other t refl)
nothing-committed (Begin t) s other = refl
nothing-committed (Op k t x) s other = refl
nothing-committed (Busy c t x u) s other = refl
nothing-committed (kind.None t x c) s other = refl
nothing-committed (Abort t) s other = refl
nothing-committed (Rollback t n) s other = refl

module _ (tables : List Table) (events : List Event) (at : ℕ) (e : Event) (here : slice_get events at ≡ Some e) (old rows : List (Option (List Executed))) (known : IsJudged tables (take at events) old) where
  -- it goes on
  pub judged-more : SummaryAfter → (its : Option (List Executed)) → Judges tables old e.kind (Ok its) rows → IsJudged tables (take (at + 1) events) rows
  judged-more summary_after its judged =
      let H = take at events in
      let said = judged H e.worker known.agree in
      let P : List Event → Type 0 = λ K. IsJudged tables K rows in
      subst P (sym (take-found events at e here)) (record {
        history = goes-more tables [] H e known.history said.0;
        agree = said.1;
        there = rw (ap (λ (s : Summary). s.survives) (summary_after H e)) (there-after tables (summary H) e.kind said.0 known.there);
      })

  -- no commit hands out nothing
  pub handed-none : (its : Option (List Executed)) → Judges tables old e.kind (Ok its) rows → ((t : ℕ) → e.kind ≡ Commit t → ⊥) → IsHanded tables events at None
  handed-none its judged other = record {
    event = e;
    here = here;
    may = (judged (take at events) 0 known.agree).0;
    is = nothing-committed e.kind (summary (take at events)) other;
    there = tt;
  }

  -- a commit its transaction
  pub handed-some : (t : ℕ) (its : List Executed) → e.kind ≡ Commit t → Judges tables old (Commit t) (Ok (Some its)) rows
      → IsHanded tables events at (Some (record { number = t; operations = its }))
  handed-some t its is judged =
      let H = take at events in
      let are : its ≡ operations_of t (summary H) = same_Some its (operations_of t (summary H)) ((judged H 0 known.agree).2) in
      let P : EventKind → Type 0 = λ happened. Some (record { number = t; operations = its }) ≡ committed_as happened (summary H) in
      let Q : List Executed → Type 0 = λ them. AreOperations tables them in
      record {
        event = e;
        here = here;
        may = subst (λ happened. ContinuesHistory tables (summary H) happened) (sym is) (judged H 0 known.agree).0;
        is = subst P (sym is) (ap (λ them. Some (record { number = t; operations = them })) are);
        there = subst Q (sym are) (operations-there tables H old t known);
      }

  -- it stops
  pub judge-stops : (fault : EventFault) → Judges tables old e.kind (Err fault) rows → StopsJudge tables events (fault_at fault at)
  judge-stops Bad judged = record { history = known.history; event = e; there = here; bad = judged (take at events) known.agree }
  judge-stops judge_fault.NoMemory judged = tt

-- what is judged of a kind of event is judged of each event of that kind
pub judged-of : (tables : List Table) (old rows : List (Option (List Executed))) (result : Result (Option (List Executed)) EventFault) (event happened : EventKind) → event ≡ happened
    → Judges tables old happened result rows → Judges tables old event result rows
judged-of tables old rows result event happened is judged = let P : EventKind → Type 0 = λ k. Judges tables old k result rows in subst P (sym is) judged
