-- A renewal is unseen: the old epoch goes on as the next one does.
use Rattle.std.proofs.Common.{◌≡◌, ℕ, ◌<◌, true, false, ◌==◌, List, [], ◌∷◌, ◌++◌, map, Option, Some, None, slice_get, refl, sym, ap, subst, ◌∙◌, inl, inr, append_assoc, append-nil, arith}
use Rattle.std.specs.List.{AllByRecursion}
use Rattle.std.proofs.lemmas.Bool.{cases_Bool, eq-eqb, false≢true}
use Rattle.type_table.specs.Laws.{RunsAlong, RunsAlike, LegalEnds}
use Rattle.type_table.specs.declared.kind.Kind.TheVariants.{Escrow}
use Rattle.type_table.proofs.Elements.{found-map}
use Rattle.escrow_laws.specs.Laws.{FreshIsFirm, FirmAfterApply, FirmAfterCommit, FirmAfterStrike, FirmIsLegal, NothingKeeps, FirmIsSafe, SafeIsFirm, FirmKeepsNobody}
use Rattle.table_checker.specs.At.{AtIsChecked}
use Rattle.table_checker.specs.Checked.{Checked}
use Rattle.object_trait.specs.Object.{Object, IsCoveredStrongly, object_of}
use Rattle.object_trait.specs.Laws.{PartsSort, StruckPart, SortsLook, SortsEqui, CheckedIsCovered}
use Rattle.object_trait.specs.declared.event.Event.{Event}
use Rattle.object_trait.specs.declared.event.EventKind.{EventKind}
use Rattle.object_trait.specs.declared.event.EventKind.TheVariants as kind
use Rattle.object_trait.specs.declared.event.EventKind.TheVariants.{Begin, Op, Busy, Commit, Abort, Rollback}
use Rattle.serial_order.specs.Operations.{is_among, at_object, pending}
use Rattle.serial_order.specs.History.{Summary, summary, begins, commits, aborts, surviving, is_open}
use Rattle.serial_order.specs.Machine.{MayDo, MayFollow, RunsOn, IsRun, AreCovered}
use Rattle.serial_order.specs.After.{AreInRun, summary_next}
use Rattle.serial_order.specs.Serial.{surviving_at}
use Rattle.serial_order.specs.Laws.{AreChecked}
use Rattle.serial_order.specs.Epochs.{types_at, types_behind}
use Rattle.serial_order.specs.declared.entry.Entry.{Entry}
use Rattle.serial_order.proofs.After.{seen_after_one}
use Rattle.serial_order.proofs.Runs.{transactions_in_run, runs_on-snoc, of_open, open_is_uncommitted, pending_is_open}
use Rattle.serial_order.proofs.Lists.{filter-more}
use Rattle.serial_order.proofs.CommitOrder.{undo_in_run}
use Rattle.serial_order.proofs.Escrow.{EscrowFacts}
use Rattle.serial_order.proofs.Views.{escrow_in_run}
use Rattle.serial_order.proofs.EpochTypes.{is-at}
use Rattle.committed_states.specs.Committed.{of_these, IsCommitted}
use Rattle.committed_states.proofs.Leaving.{leaving-sorts}
use Rattle.committed_states.proofs.Fronts.{runs-front, runs-rest}
use Rattle.carried_runs.specs.Carried.{renumbered, carried_run, carried_summary, AreOpenOnce}
use Rattle.carried_runs.specs.OldNumbers.{owner_of, named_event, named_events}
use Rattle.carried_runs.specs.OpenEpochs.{IsOpenEpoch}
use Rattle.carried_runs.specs.Laws.{RenewalIsUnseen}
use Rattle.serial_order.proofs.Checked.{checked_covered}
use Rattle.carried_runs.proofs.Types.{type-there}
use Rattle.carried_runs.proofs.Renumbering.{owner-number}
use Rattle.carried_runs.proofs.Naming.{by_name}
use Rattle.carried_runs.proofs.InRun.{each-among, are-outside, are-less}
use Rattle.carried_runs.proofs.Again.{BeginsAt}
use Rattle.carried_runs.proofs.Carrying.{begins-at}
use Rattle.carried_runs.proofs.Showing.{carried-summary}
use Rattle.carried_runs.proofs.Beside.{AreBeside, beside-open, beside-next, after-begin, after-op, after-commit, after-abort, after-rollback, may-rollback}
use Rattle.carried_runs.proofs.Seen.{may-old}
use Rattle.carried_runs.proofs.Added.{all-checked, types-at-more, wider, widened}

-- an object of the next epoch, and that of the old one
pub record IsPair (objects : List Object) (H : List Event) (x : ℕ) (now : Object) : Type 0 where
  pub o : Object
  pub s : ℕ
  pub there : slice_get objects x ≡ Some o
  pub begins : BeginsAt o now s
  pub left : IsCommitted o s x H
  pub strong : IsCoveredStrongly o

module _ (along : RunsAlong) (ends : LegalEnds) (parts : PartsSort Entry) (struck : StruckPart Entry) (look : SortsLook Entry) (equi : SortsEqui Entry)
    (apply : FirmAfterApply) (firm_commits : FirmAfterCommit) (strikes : FirmAfterStrike) (nothing : NothingKeeps) (firm_legal : FirmIsLegal) (fresh : FreshIsFirm)
    (safe : FirmIsSafe) (is_firm : SafeIsFirm) (keeps_nobody : FirmKeepsNobody)
    (objects news : List Object) (covered : AreCovered objects) (news_covered : AreCovered news)
    (H : List Event) (going : IsRun objects H) (P : List ℕ) (once : AreOpenOnce P H) (all : (t : ℕ) → is_open (summary H) t ≡ true → is_among P t ≡ true)
    (pairs : (x : ℕ) (now : Object) → slice_get news x ≡ Some now → IsPair objects H x now) where
  abbrev n : ℕ
  n = begins H

  abbrev C : List ℕ
  C = commits H

  abbrev A : List ℕ
  A = aborts H

  abbrev g : ℕ → ℕ
  g = owner_of P n

  abbrev Beside : Summary → Summary → Type 0
  Beside old new = AreBeside objects P n C A (of_these C (surviving H)) old new

  in_run : AreInRun (summary H)
  in_run = transactions_in_run objects H going

  a_out : (t : ℕ) → is_among P t ≡ true → is_among A t ≡ false
  a_out t inside = (of_open (summary H) t (each-among (λ u. is_open (summary H) u ≡ true) P t once.are_open inside)).kept

  -- ---- the beginning

  -- what is pending is of carried ones
  pending-carried : (V : List Entry) → AllByRecursion (λ e. (e.by < n) × (is_among A e.by ≡ false)) V → pending C V ≡ map (by_name g) (map (renumbered P) (of_these P V))
  pending-carried [] known = refl
  pending-carried (e ∷ V) known =
      elim (cases_Bool (is_among P e.by)) [
        | inl inside ↦
            let same : by_name g (renumbered P e) ≡ e = ap (λ t. record { by = t; at = e.at; op = e.op }) (owner-number P n e.by once.apart (are-less P H once) inside) in
            rw (inside, are-outside P H once e.by inside, same) (ap (λ rest. e ∷ rest) (pending-carried V known.1))
        | inr out ↦
            let ended : is_among C e.by ≡ true = committed e.by known.0.0 known.0.1 out in
            rw (out, ended) (pending-carried V known.1)
      ]
    where
      committed : (t : ℕ) → t < n → is_among A t ≡ false → is_among P t ≡ false → is_among C t ≡ true
      committed t began kept outside =
          elim (cases_Bool (is_among C t)) [
            | inl is ↦ is
            | inr isnt ↦ absurd (false≢true (sym outside ∙ all t (pending_is_open (summary H) t began kept isnt)))
          ]

  first-beside : Beside (summary H) (carried_summary P (of_these P (surviving H)))
  first-beside = record {
    many = omega arith;
    begun = refl;
    committed = sym (append-nil C);
    aborted = sym (append-nil A);
    fixed = refl;
    rest = pending-carried (surviving H) in_run.survive;
    sorted = λ x o there undo. leaving-sorts parts o C (λ t. is_among C t) (surviving_at x H) (λ t fails. fails) (undo_in_run along parts struck look objects H x o covered going there undo).locked;
  }

  -- ---- one event

  module _ (G N : List Event) (G_run : IsRun objects G) (N_run : IsRun news N) (known : Beside (summary G) (summary N)) where
    b-open : (j : ℕ) → is_open (summary G) (g j) ≡ is_open (summary N) j
    b-open j = beside-open objects P n C A (of_these C (surviving H)) (summary G) (summary N) once.apart (are-less P H once) in_run.committed_began in_run.aborted_began (are-outside P H once) a_out known j

    -- an operation
    op-old : (w j k x : ℕ) → MayFollow news N (record { worker = w; kind = Op k j x }) → MayDo (slice_get objects x) (summary G) x (g j) k
    op-old w j k x may = found (slice_get news x) refl may.1
      where
        found : (r : Option Object) → slice_get news x ≡ r → MayDo r (summary N) x j k → MayDo (slice_get objects x) (summary G) x (g j) k
        found None is h = absurd h
        found (Some now) is h =
            let pair = pairs x now is in
            let o = pair.o in
            let event : Event = record { worker = w; kind = Op k j x } in
            let entry : Entry = record { by = j; at = x; op = k } in
            let uncommitted = open_is_uncommitted (summary N) j may.0 in
            let after : now.kind ≡ Escrow → EscrowFacts now (commits N) (surviving_at x N ++ entry ∷ []) = λ escrow.
            let facts = escrow_in_run along ends apply firm_commits strikes nothing firm_legal fresh news (N ++ event ∷ []) x now news_covered (runs_on-snoc news [] N event N_run may) is escrow in
            let said = seen_after_one N event in
            subst (λ V. EscrowFacts now (commits N) V) (filter-more (λ (f : Entry). f.at == x) (surviving N) entry (eq-eqb x x refl))
            (subst (λ (s : Summary). EscrowFacts now s.committed (at_object x s.survives)) said facts) in
            subst (λ (r : Option Object). MayDo r (summary G) x (g j) k) (sym pair.there)
            (may-old along objects P n C A (surviving H) (summary G) (summary N) once.apart (are-less P H once) in_run.committed_began in_run.aborted_began (are-outside P H once) a_out known
            x o now pair.s pair.there pair.begins j k may.0 equi safe is_firm keeps_nobody o.kind refl (covered x o pair.there) pair.strong uncommitted
            (λ undo. (undo_in_run along parts struck look objects G x o covered G_run pair.there undo).legal) pair.left.reached after h)

    -- the old epoch goes on by it, if it changes something
    record GoesOn (e : Event) : Type 0 where
      on : RunsOn objects G (named_event g e)
      beside : Beside (summary (G ++ named_event g e)) (summary (N ++ e ∷ []))

    one : (w : ℕ) (new_kind old_kind : EventKind) → MayFollow objects G (record { worker = w; kind = old_kind }) → Beside (summary_next (summary G) old_kind) (summary_next (summary N) new_kind)
        → (MayFollow objects G (record { worker = w; kind = old_kind }) × Unit {0}) × Beside (summary (G ++ (record { worker = w; kind = old_kind }) ∷ [])) (summary (N ++ (record { worker = w; kind = new_kind }) ∷ []))
    one w new_kind old_kind may beside = (
      (may, tt),
      rw (seen_after_one G (record { worker = w; kind = old_kind }), seen_after_one N (record { worker = w; kind = new_kind })) beside,
    )

    still : (w : ℕ) (happened : EventKind) → summary_next (summary N) happened ≡ summary N → Beside (summary (G ++ [])) (summary (N ++ (record { worker = w; kind = happened }) ∷ []))
    still w happened same = rw (append-nil G, seen_after_one N (record { worker = w; kind = happened }), same) known

    goes-on : (w : ℕ) (happened : EventKind) → MayFollow news N (record { worker = w; kind = happened }) → GoesOn (record { worker = w; kind = happened })
    goes-on w (Begin t) may =
        let next = beside-next objects P n C A (of_these C (surviving H)) (summary G) (summary N) once.apart (are-less P H once) in_run.committed_began in_run.aborted_began (are-outside P H once) a_out known in
        let after = after-begin objects P n C A (of_these C (surviving H)) (summary G) (summary N) once.apart (are-less P H once) in_run.committed_began in_run.aborted_began (are-outside P H once) a_out known in
        let it = one w (Begin t) (Begin (g t)) (ap g may ∙ next) after in
        record { on = it.0; beside = it.1 }
    goes-on w (Op k j x) may =
        let after = after-op objects P n C A (of_these C (surviving H)) (summary G) (summary N) once.apart (are-less P H once) in_run.committed_began in_run.aborted_began (are-outside P H once) a_out known k j x in
        let it = one w (Op k j x) (Op k (g j) x) (b-open j ∙ may.0, op-old w j k x may) after in
        record { on = it.0; beside = it.1 }
    goes-on w (Busy c t x u) may = record { on = tt; beside = still w (Busy c t x u) refl }
    goes-on w (kind.None t x c) may = record { on = tt; beside = still w (kind.None t x c) refl }
    goes-on w (Commit j) may =
        let after = after-commit objects P n C A (of_these C (surviving H)) (summary G) (summary N) once.apart (are-less P H once) in_run.committed_began in_run.aborted_began (are-outside P H once) a_out known j in
        let it = one w (Commit j) (Commit (g j)) (b-open j ∙ may) after in
        record { on = it.0; beside = it.1 }
    goes-on w (Abort j) may =
        let after = after-abort objects P n C A (of_these C (surviving H)) (summary G) (summary N) once.apart (are-less P H once) in_run.committed_began in_run.aborted_began (are-outside P H once) a_out known j in
        let it = one w (Abort j) (Abort (g j)) (b-open j ∙ may) after in
        record { on = it.0; beside = it.1 }
    goes-on w (Rollback j m) may =
        let after = after-rollback objects P n C A (of_these C (surviving H)) (summary G) (summary N) once.apart (are-less P H once) in_run.committed_began in_run.aborted_began (are-outside P H once) a_out known j m in
        let few = may-rollback objects P n C A (of_these C (surviving H)) (summary G) (summary N) once.apart (are-less P H once) in_run.committed_began in_run.aborted_began (are-outside P H once) a_out known j m may.2 in
        let it = one w (Rollback j m) (Rollback (g j) m) (b-open j ∙ may.0, may.1, few) after in
        record { on = it.0; beside = it.1 }

  -- ---- all events

  runs-more : (before V : List Event) → IsRun objects before → RunsOn objects before V → IsRun objects (before ++ V)
  runs-more before [] run on = rw (append-nil before) run
  runs-more before (e ∷ V) run on = rw (append_assoc before (e ∷ []) V) at (runs-more (before ++ e ∷ []) V (runs_on-snoc objects [] before e run on.0) on.1)

  pub unseen : (G N K : List Event) → IsRun objects G → IsRun news N → Beside (summary G) (summary N) → RunsOn news N K → IsRun objects (G ++ named_events g K)
  unseen G N [] G_run N_run known on = rw (append-nil G) G_run
  unseen G N (e ∷ K) G_run N_run known on =
      let it = goes-on G N G_run N_run known e.worker e.kind on.0 in
      rw (append_assoc G (named_event g e) (named_events g K)) at
      (unseen (G ++ named_event g e) (N ++ e ∷ []) K (runs-more G (named_event g e) G_run it.on) (runs_on-snoc news [] N e N_run on.0) it.beside on.1)

pub renewal_is_unseen : RunsAlong → RunsAlike → LegalEnds → PartsSort Entry → StruckPart Entry → SortsLook Entry → SortsEqui Entry → FirmAfterApply → FirmAfterCommit → FirmAfterStrike → NothingKeeps → FirmIsLegal → FreshIsFirm
    → FirmIsSafe → SafeIsFirm → FirmKeepsNobody → CheckedIsCovered → AtIsChecked → RenewalIsUnseen
renewal_is_unseen along alike ends parts struck look equi apply firm_commits strikes nothing firm_legal fresh safe is_firm keeps_nobody covered at = λ were ending K worker P were_checked strong were_ended once all behind.
    let H = ending.history in
    let types = were ++ ending.added in
    let kept = (widened ending).kept in
    let checked : AreChecked types = all-checked were ending were_checked were_ended in
    let ended : IsOpenEpoch types (widened ending) = wider were ending were_checked were_ended covered in
    let objects = map object_of types in
    let news = map object_of (types_at types kept) in
    let same : types_at types kept ≡ types_behind were ending = types-at-more were ending.added ending.kept were_ended.as_many in
    let run : IsRun news (carried_run worker P H ++ K) = subst (λ (ts : List Checked). IsRun (map object_of ts) (carried_run worker P H ++ K)) (sym same) behind in
    let are_covered : AreCovered objects = checked_covered covered types checked in
    let pairs : (x : ℕ) (now : Object) → slice_get news x ≡ Some now → IsPair objects H x now = λ x now there.
    let found = found-map object_of (types_at types kept) x now there in
    let it = is-at types kept x found.0 found.1 in
    let old_there : slice_get objects x ≡ Some (object_of it.c) = type-there types x it.c it.type in
    let its = ended.kept x (object_of it.c) it.s old_there it.state in
    record {
      o = object_of it.c;
      s = it.s;
      there = old_there;
      begins = subst (λ (q : Object). BeginsAt (object_of it.c) q it.s) (ap object_of it.is ∙ found.2) (begins-at alike covered at it.c it.s (checked x it.c it.type) its.inside);
      left = its;
      strong = (covered it.c (checked x it.c it.type)).1 (strong x it.c it.type);
    } in
    let news_covered : AreCovered news = λ x now there. (pairs x now there).begins.covered in
    let beside = subst (AreBeside objects P (begins H) (commits H) (aborts H) (of_these (commits H) (surviving H)) (summary H)) (sym (carried-summary H worker P))
    (first-beside along ends parts struck look equi apply firm_commits strikes nothing firm_legal fresh safe is_firm keeps_nobody objects news are_covered news_covered H ended.run P once all pairs) in
    unseen along ends parts struck look equi apply firm_commits strikes nothing firm_legal fresh safe is_firm keeps_nobody objects news are_covered news_covered H ended.run P once all pairs
    H (carried_run worker P H) K ended.run (runs-front news [] (carried_run worker P H) K run) beside (runs-rest news [] (carried_run worker P H) K run)
