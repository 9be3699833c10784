-- What is known of a worker after its own turn, and after another worker's.
use Rattle.std.proofs.Common.{◌≡◌, ℕ, List, [], ◌∷◌, ◌++◌, Option, Some, refl, sym, ap, ◌∙◌, subst, inl, inr, arith}
use Rattle.std.proofs.lemmas.Bool.{eq-eqb, ne_eqb}
use Rattle.object_trait.specs.declared.event.Event.{Event}
use Rattle.object_trait.specs.declared.event.EventKind.{EventKind}
use Rattle.object_trait.specs.declared.event.EventKind.TheVariants.{Commit}
use Rattle.serial_order.specs.Operations.{of}
use Rattle.serial_order.specs.History.{surviving}
use Rattle.store_laws.specs.Stored.{objects}
use Rattle.worker_turns.specs.Progress.{Progress, IsTold, receipt_kinds, open_in_phase}
use Rattle.worker_turns.specs.Turns.{receipt}
use Rattle.workers.specs.Events.{done_by, IsReplayed}
use Rattle.workers.specs.SharedState.{Start, past, IsWorker}
use Rattle.workers.proofs.Causes.{cause-stays}
use Rattle.workers.proofs.Events.{begins-more, by-own, by-others, kinds-more}
use Rattle.workers.proofs.Follows.{Follows, IsApart, own-stays, open-stays}
use Rattle.workers.proofs.Own.{event, stays-own, leads-own, leads-apart, own-apart, leads-operations, replayed-stays, replayed-more, ahead-more, committed-now}
use Rattle.workers.proofs.Turned.{Leads, IsNoted, IsQuiet}

-- what is replayed of a transaction that the worker commits now
commits-now : (H : List Event) (w : ℕ) (happened : EventKind) → Follows H (event w happened) → (es : List EventKind) (before now : Option ℕ) → Leads happened before now
    → ((t : ℕ) → before ≡ Some t → of t (surviving H) ≡ done_by t es) → (t : ℕ) → happened ≡ Commit t → IsReplayed (H ++ event w happened ∷ []) t (es ++ happened ∷ [])
commits-now H w happened last es before now leads own t is =
    subst (λ k. Follows H (event w k) → Leads k before now → IsReplayed (H ++ event w k ∷ []) t (es ++ k ∷ [])) (sym is)
    (λ now_last now_leads. committed-now H w t now_last es (own t now_leads.0)) last leads

module _ (o : Start) (H : List Event) (goes_on : o.store.history ++ past o H ≡ H) where
  -- after a turn of its own with this event
  pub own-worker : (w : ℕ) (happened : EventKind) → Follows H (event w happened) → (p q : Progress) → IsWorker o H w p → IsNoted o H w happened p q
      → IsTold (objects o.store) q → IsWorker o (H ++ event w happened ∷ []) w q
  own-worker w happened last p q its noted told =
      let es = receipt_kinds p.receipts in
      let more : receipt_kinds q.receipts ≡ es ++ happened ∷ [] = ap receipt_kinds noted.receipts ∙ kinds-more p.receipts (receipt H w happened) in
      record {
        tries = noted.tries ∙ its.tries;
        receipts =
            by-own o H goes_on w (event w happened) (eq-eqb w w refl) ∙ ap (λ l. l ++ receipt H w happened ∷ []) its.receipts ∙ sym noted.receipts;
        told = told;
        owns = leads-own o H w happened last goes_on (open_in_phase p.phase) (open_in_phase q.phase) noted.leads its.owns;
        own_operations = λ t now.
            leads-operations H w happened last es (open_in_phase p.phase) (open_in_phase q.phase) noted.leads its.own_operations its.none_ahead t now
            ∙ sym (ap (done_by t) more);
        replayed = λ t inside.
            subst (IsReplayed (H ++ event w happened ∷ []) t) (sym more)
            (elim (noted.committed t inside) [
              | inl before ↦ replayed-more H (event w happened) last t es (its.replayed t before)
              | inr now ↦ commits-now H w happened last es (open_in_phase p.phase) (open_in_phase q.phase) noted.leads its.own_operations t now
            ]);
        none_ahead = λ t ahead. ap (done_by t) more ∙ ahead-more H (event w happened) last es its.none_ahead t ahead;
        ran = λ inside. its.ran (noted.ran inside);
        causes = λ r inside. cause-stays o H (event w happened) last r (noted.causes r inside);
        refusing = λ t done r is. cause-stays o H (event w happened) last r (noted.refusing t done r is);
      }

  -- after another worker's event, which isn't of its transaction
  pub other-worker : (w : ℕ) (happened : EventKind) → Follows H (event w happened) → (v : ℕ) (r : Progress) → (w ≡ v → ⊥)
      → ((t : ℕ) → open_in_phase r.phase ≡ Some t → IsApart t happened) → IsWorker o H v r → IsWorker o (H ++ event w happened ∷ []) v r
  other-worker w happened last v r other apart its =
      let e = event w happened in
      record {
        tries = its.tries;
        receipts = by-others o H goes_on v e (ne_eqb w v other) ∙ its.receipts;
        told = its.told;
        owns = λ t now. let own = its.owns t now in stays-own o H e last v t own (open-stays H e last t (apart t now) own.still_open);
        own_operations = λ t now. own-stays H e last t (apart t now) ∙ its.own_operations t now;
        replayed = λ t inside. replayed-stays H e last t (receipt_kinds r.receipts) (its.replayed t inside);
        none_ahead = λ t ahead. let more = begins-more H (e ∷ []) in its.none_ahead t (omega (arith, more, ahead));
        ran = its.ran;
        causes = λ reason inside. cause-stays o H e last reason (its.causes reason inside);
        refusing = λ t done reason is. cause-stays o H e last reason (its.refusing t done reason is);
      }

  -- what one worker's event is of isn't another's
  pub others-apart : (w : ℕ) (happened : EventKind) (p q : Progress) → IsWorker o H w p → IsNoted o H w happened p q → (v : ℕ) (r : Progress) → IsWorker o H v r
      → (w ≡ v → ⊥) → (t : ℕ) → open_in_phase r.phase ≡ Some t → IsApart t happened
  others-apart w happened p q its noted v r known other t now =
      leads-apart happened (open_in_phase p.phase) (open_in_phase q.phase) noted.leads t (λ same. other (own-apart o H w v t (its.owns t same) (known.owns t now)))

  -- after a turn of its own with no event
  pub quiet-worker : (w : ℕ) (p q : Progress) → IsWorker o H w p → IsQuiet o H p q → IsTold (objects o.store) q → IsWorker o H w q
  quiet-worker w p q its quiet told =
      let same : receipt_kinds q.receipts ≡ receipt_kinds p.receipts = ap receipt_kinds quiet.receipts in
      record {
        tries = quiet.tries ∙ its.tries;
        receipts = its.receipts ∙ sym quiet.receipts;
        told = told;
        owns = λ t now. its.owns t (sym quiet.leads ∙ now);
        own_operations = λ t now. its.own_operations t (sym quiet.leads ∙ now) ∙ sym (ap (done_by t) same);
        replayed = λ t inside. subst (IsReplayed H t) (sym same) (its.replayed t (quiet.committed t inside));
        none_ahead = λ t ahead. ap (done_by t) same ∙ its.none_ahead t ahead;
        ran = λ inside. its.ran (quiet.ran inside);
        causes = quiet.causes;
        refusing = quiet.refusing;
      }
