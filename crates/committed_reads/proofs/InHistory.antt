-- The history with the reader: that it is one, and what it says.
use Rattle.std.proofs.Common.{◌≡◌, ℕ, suc, ◌<◌, true, false, ◌&&◌, ◌==◌, nat_lt, List, [], ◌∷◌, ◌++◌, map, slice_get, refl, sym, ap, subst, ◌∙◌, append_assoc, append-nil, arith}
use Rattle.std.specs.List.{AllByRecursion}
use Rattle.std.proofs.lemmas.Bool.{eq-eqb}
use Rattle.std.proofs.lemmas.Bool.Decides.{nat_tests}
use Rattle.std.proofs.lemmas.List.Elements.{filter-append}
use Rattle.type_table.specs.Table.{Table}
use Rattle.type_table.proofs.Elements.{eqb-sym, each-weaker, filter-all, filter-none}
use Rattle.object_trait.specs.declared.event.Event.{Event}
use Rattle.object_trait.specs.declared.event.EventKind.TheVariants.{Begin, Commit}
use Rattle.serial_order.specs.Operations.{is_by, of}
use Rattle.serial_order.specs.History.{Summary, summary, begins, commits, aborts, surviving, is_open, IsOperation, AllContinue, IsHistory}
use Rattle.serial_order.specs.After.{AreInRun, summary_next}
use Rattle.serial_order.specs.declared.entry.Entry.{Entry}
use Rattle.serial_order.proofs.After.{fresh_among, seen_after_one}
use Rattle.committed_reads.specs.Readers.{shifted, shifted_event, read_event, reader_events, with_reader}
use Rattle.committed_states.proofs.Fronts.{continue-front, continue-rest, continue-append}
use Rattle.committed_reads.proofs.Shifting.{IsWith, moved, map-below, moved-same, of-moved, shifted-apart, with-next, with-continues}

-- ---- the reader

-- an operation of r, at an object that is there
pub record IsDone (tables : List Table) (r : ℕ) (e : Entry) : Type 0 where
  pub by : e.by ≡ r
  pub operation : IsOperation (slice_get tables e.at) e.op

module _ (tables : List Table) (H : List Event) (known : AreInRun (summary H)) (w : ℕ) where
  abbrev r : ℕ
  r = begins H

  -- r began, and this survives
  abbrev with_r : List Entry → Summary
  with_r V = record { begun = suc r; committed = commits H; aborted = aborts H; survives = V }

  -- and it committed
  abbrev with_commit : List Entry → Summary
  with_commit V = record { begun = suc r; committed = commits H ++ r ∷ []; aborted = aborts H; survives = V }

  r-open : (V : List Entry) → is_open (with_r V) r ≡ true
  r-open V = rw (fresh_among (commits H) r known.committed_began, fresh_among (aborts H) r known.aborted_began) (less r)
    where
      less : (n : ℕ) → (nat_lt n (suc n) && true) ≡ true
      less n = grind (arith, nat_tests)

  abbrev committing : Event
  committing = record { worker = w; kind = Commit r }

  -- it reads, and commits
  reads-on : (before : List Event) (V R : List Entry) → summary before ≡ with_r V → AllByRecursion (IsDone tables r) R →
      AllContinue tables before (map (read_event w r) R ++ committing ∷ []) × (summary (before ++ (map (read_event w r) R ++ committing ∷ [])) ≡ with_commit (V ++ R))
  reads-on before V [] is all = (
    (subst (λ (s : Summary). is_open s r ≡ true) (sym is) (r-open V), tt),
    seen_after_one before committing ∙ ap (λ (s : Summary). summary_next s (Commit r)) is ∙ ap with_commit (sym (append-nil V)),
  )
  reads-on before V (e ∷ R) is all =
      let event = read_event w r e in
      let entry : Entry = record { by = r; at = e.at; op = e.op } in
      let same : entry ≡ e = ap (λ n. record { by = n; at = e.at; op = e.op }) (sym all.0.by) in
      let next : summary (before ++ event ∷ []) ≡ with_r (V ++ e ∷ []) =
      seen_after_one before event ∙ ap (λ (s : Summary). summary_next s event.kind) is ∙ ap (λ f. with_r (V ++ f ∷ [])) same in
      let rest = reads-on (before ++ event ∷ []) (V ++ e ∷ []) R next all.1 in (
        ((subst (λ (s : Summary). is_open s r ≡ true) (sym is) (r-open V), all.0.operation), rest.0),
        ap summary (sym (append_assoc before (event ∷ []) (map (read_event w r) R ++ committing ∷ []))) ∙ rest.1 ∙ ap with_commit (append_assoc V (e ∷ []) R),
      )

  -- from its begin
  pub reading-on : (R : List Entry) → AllByRecursion (IsDone tables r) R →
      AllContinue tables H (reader_events w r R) × (summary (H ++ reader_events w r R) ≡ with_commit (surviving H ++ R))
  reading-on R all =
      let event : Event = record { worker = w; kind = Begin r } in
      let rest = reads-on (H ++ event ∷ []) (surviving H) R (seen_after_one H event) all in (
        (refl, rest.0),
        ap summary (sym (append_assoc H (event ∷ []) (map (read_event w r) R ++ committing ∷ []))) ∙ rest.1,
      )

  -- what is said then
  pub reading-is : (R : List Entry) → AllByRecursion (IsDone tables r) R → IsWith r R (commits H) (summary H) (with_commit (surviving H ++ R))
  reading-is R all =
      let same : map (moved r) (surviving H) ≡ surviving H = moved-same r (surviving H) (each-weaker (λ e h. h.0) (surviving H) known.survive) in
      let by_r = each-weaker (λ (e : Entry) h. h.by) R all in
      record {
        later = omega arith;
        begun = refl;
        rest = [];
        committed = sym (append-nil (commits H));
        now = ap (λ C. C ++ r ∷ []) (sym (map-below r (commits H) known.committed_began));
        aborted = sym (map-below r (aborts H) known.aborted_began);
        own = λ t. filter-append (is_by (shifted r t)) (surviving H) R
            ∙ ap (λ V. of (shifted r t) (surviving H) ++ V) (filter-none (is_by (shifted r t)) R (each-weaker (λ (e : Entry) h. rw h (eqb-sym r (shifted r t) ∙ shifted-apart r t)) R by_r))
            ∙ append-nil (of (shifted r t) (surviving H))
            ∙ ap (of (shifted r t)) (sym same) ∙ of-moved r t (surviving H);
        reads = filter-append (is_by r) (surviving H) R
            ∙ ap (λ V. V ++ of r R) (filter-none (is_by r) (surviving H) (each-weaker (λ e h. apart e.by h.0) (surviving H) known.survive))
            ∙ filter-all (is_by r) R (each-weaker (λ (e : Entry) h. rw h (eq-eqb r r refl)) R by_r);
      }
    where
      apart : (t : ℕ) → t < r → (t == r) ≡ false
      apart t low = grind (arith, nat_tests, low)

-- ---- what comes after it

after-reading : (tables : List Table) (r : ℕ) (R : List Entry) (C : List ℕ) (before new K : List Event) → IsWith r R C (summary before) (summary new) → AllContinue tables before K →
    AllContinue tables new (map (shifted_event r) K) × IsWith r R C (summary (before ++ K)) (summary (new ++ map (shifted_event r) K))
after-reading tables r R C before new [] known on = (tt, rw (append-nil before, append-nil new) known)
after-reading tables r R C before new (e ∷ K) known on =
    let event = shifted_event r e in
    let may = with-continues r R C (summary before) (summary new) known tables e.kind on.0 in
    let next : IsWith r R C (summary (before ++ e ∷ [])) (summary (new ++ event ∷ [])) =
    rw (seen_after_one before e, seen_after_one new event) (with-next r R C (summary before) (summary new) known e.kind) in
    let rest = after-reading tables r R C (before ++ e ∷ []) (new ++ event ∷ []) K next on.1 in
    ((may, rest.0), rw (append_assoc before (e ∷ []) K, append_assoc new (event ∷ []) (map (shifted_event r) K)) at rest.1)

-- ---- all of it

pub record IsRead_In (tables : List Table) (H K : List Event) (w : ℕ) (R : List Entry) : Type 0 where
  pub history : IsHistory tables (with_reader w H R K)
  pub is : IsWith (begins H) R (commits H) (summary (H ++ K)) (summary (with_reader w H R K))

pub read-in : (tables : List Table) (H K : List Event) (w : ℕ) (R : List Entry) → AreInRun (summary H) → IsHistory tables (H ++ K) → AllByRecursion (IsDone tables (begins H)) R →
    IsRead_In tables H K w R
read-in tables H K w R known going all =
    let first = reading-on tables H known w R all in
    let is : IsWith (begins H) R (commits H) (summary H) (summary (H ++ reader_events w (begins H) R)) = rw first.1 (reading-is tables H known w R all) in
    let rest = after-reading tables (begins H) R (commits H) H (H ++ reader_events w (begins H) R) K is (continue-rest tables [] H K going) in
    record {
      history = continue-append tables [] H (reader_events w (begins H) R ++ map (shifted_event (begins H)) K) (continue-front tables [] H K going)
          (continue-append tables H (reader_events w (begins H) R) (map (shifted_event (begins H)) K) first.0 rest.0);
      is = rw (append_assoc H (reader_events w (begins H) R) (map (shifted_event (begins H)) K)) at rest.1;
    }
