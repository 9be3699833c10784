-- Carried transactions are a run of the objects that begin at the committed states.
use Rattle.std.proofs.Common.{◌≡◌, ℕ, suc, ◌+◌, true, ◌==◌, List, [], ◌∷◌, ◌++◌, map, cond, length, Option, Some, None, option_map, slice_get, refl, sym, ap, subst, ◌∙◌, append_assoc, append-nil, arith, lt-ltb}
use Rattle.std.specs.List.{AllByRecursion}
use Rattle.std.proofs.lemmas.Option.{slice_get-map}
use Rattle.std.proofs.lemmas.List.{map-append}
use Rattle.std.proofs.lemmas.List.Elements.{filter-append}
use Rattle.std.proofs.lemmas.Bool.{eq-eqb}
use Rattle.type_table.specs.Table.{has_op}
use Rattle.type_table.specs.ConflictTable.{conflicts}
use Rattle.type_table.specs.Laws.{RunsAlong, RunsAlike, EndsInside, LegalEnds}
use Rattle.type_table.specs.Lists.{ListsForward}
use Rattle.type_table.specs.declared.kind.Kind.{Kind}
use Rattle.type_table.specs.declared.kind.Kind.TheVariants.{Undo, Intentions, Escrow}
use Rattle.type_table.proofs.Elements.{each-filter, each-passes, filter-turned}
use Rattle.declared_types.specs.TypeFile.{file_at}
use Rattle.declared_types.specs.declared.type_file.TypeFile.{TypeFile}
use Rattle.escrow_laws.specs.Laws.{FreshIsFirm, FirmAfterApply, FirmAfterCommit, FirmAfterStrike, FirmIsLegal, NothingKeeps, FirmIsSafe, SafeIsFirm, FirmKeepsNobody}
use Rattle.table_checker.specs.Checked.{Checked, IsChecked}
use Rattle.table_checker.specs.At.{checked_at, IsInside, AtIsChecked}
use Rattle.object_trait.specs.Object.{Object, object_of, conflicts_by}
use Rattle.object_trait.specs.Laws.{PartsSort, StruckPart, SortsLook, CheckedIsCovered}
use Rattle.object_trait.specs.declared.event.Event.{Event}
use Rattle.object_trait.specs.declared.event.EventKind.TheVariants.{Begin}
use Rattle.serial_order.specs.Operations.{is_among, at_object}
use Rattle.serial_order.specs.History.{Summary, summary, is_open, surviving, IsOperation}
use Rattle.serial_order.specs.After.{summary_next}
use Rattle.serial_order.specs.Machine.{MayDo, MayFollow, May, RunsOn, IsRun}
use Rattle.serial_order.specs.Serial.{surviving_at}
use Rattle.serial_order.specs.Laws.{AreChecked}
use Rattle.serial_order.specs.Epochs.{Epoch, types_behind}
use Rattle.serial_order.proofs.EpochTypes.{goes-on}
use Rattle.serial_order.specs.declared.entry.Entry.{Entry}
use Rattle.serial_order.proofs.After.{seen_after_one}
use Rattle.serial_order.proofs.Pairs.{each-all}
use Rattle.serial_order.proofs.Opens.{operations_in_run}
use Rattle.committed_states.specs.Committed.{of_these}
use Rattle.committed_states.proofs.Fronts.{runs-append}
use Rattle.carried_runs.specs.Carried.{number_in, renumbered, begins_from, done_again, carried_by, carried_summary, AreOpenOnce}
use Rattle.carried_runs.specs.OpenEpochs.{IsOpenEpoch}
use Rattle.carried_runs.specs.Laws.{CarriedIsRun, CarriedInAnyOrder}
use Rattle.serial_order.proofs.Checked.{checked_covered}
use Rattle.carried_runs.proofs.Types.{type-there}
use Rattle.carried_runs.proofs.Renumbering.{number-below}
use Rattle.carried_runs.proofs.Again.{BeginsAt, may-again}
use Rattle.carried_runs.proofs.InRun.{are-less, held-in-run}

-- ---- objects that begin anew

same-conflicts : (kind : Kind) (file : TypeFile) (s : ℕ) → conflicts_by kind (file_at file s) ≡ conflicts_by kind file
same-conflicts Undo file s = refl
same-conflicts Intentions file s = refl
same-conflicts Escrow file s = refl

pub begins-at : RunsAlike → CheckedIsCovered → AtIsChecked → (c : Checked) (s : ℕ) → IsChecked c → IsInside c s → BeginsAt (object_of c) (object_of (checked_at c s)) s
begins-at alike covered at c s checked inside = record {
  kind = refl;
  initial = refl;
  runs = λ from ks. alike c.file.table s from ks;
  has = λ k. refl;
  conflicts = λ p q. ap (λ rows. conflicts rows p q) (same-conflicts c.kind c.file s);
  covered = (covered (checked_at c s) (at c s checked inside)).0;
}

-- an operation at an object is of a type
operation-type : (types : List Checked) (x k : ℕ) → IsOperation (slice_get (map (λ (o : Object). o.table) (map object_of types)) x) k
    → (c : Checked) × (slice_get types x ≡ Some c) × (has_op c.file.table k ≡ true)
operation-type types x k is = found (slice_get types x) refl (rw (slice_get-map (λ (o : Object). o.table) (map object_of types) x, slice_get-map object_of types x) at is)
  where
    found : (r : Option Checked) → slice_get types x ≡ r → IsOperation (option_map (λ (o : Object). o.table) (option_map object_of r)) k
        → (c : Checked) × (slice_get types x ≡ Some c) × (has_op c.file.table k ≡ true)
    found None is h = absurd h
    found (Some c) is h = (c, is, h)

-- ---- the run

-- n began, and nothing was done
abbrev begun : ℕ → Summary
begun n = record { begun = n; committed = []; aborted = []; survives = [] }

-- they begin
runs-begins : (objects : List Object) (worker : ℕ → ℕ) (before : List Event) (n : ℕ) (P : List ℕ) → summary before ≡ begun n →
    RunsOn objects before (begins_from worker n P) × (summary (before ++ begins_from worker n P) ≡ begun (length P + n))
runs-begins objects worker before n [] is = (tt, rw (append-nil before) (is ∙ ap begun (omega arith)))
runs-begins objects worker before n (t ∷ P) is =
    let e : Event = record { worker = worker t; kind = Begin n } in
    let next : summary (before ++ e ∷ []) ≡ begun (suc n) = seen_after_one before e ∙ ap (λ (s : Summary). summary_next s (Begin n)) is in
    let rest = runs-begins objects worker (before ++ e ∷ []) (suc n) P next in (
      (sym (ap (λ (s : Summary). s.begun) is), rest.0),
      ap summary (sym (append_assoc before (e ∷ []) (begins_from worker (suc n) P))) ∙ rest.1 ∙ ap begun (omega arith),
    )

-- each operation may be done again, where those before it were
abbrev MayDoAgain : List Object → List ℕ → List Entry → Entry → Type 0
MayDoAgain objects P W e = MayDo (slice_get objects e.at) (carried_summary P W) e.at (number_in P e.by) e.op

-- so they are
runs-again : (objects : List Object) (worker : ℕ → ℕ) (P : List ℕ) (before : List Event) (W U : List Entry) → summary before ≡ carried_summary P W → AllByRecursion (λ e. is_among P e.by ≡ true) U →
    ((A B : List Entry) (e : Entry) → A ++ e ∷ B ≡ W ++ U → MayDoAgain objects P A e) → RunsOn objects before (map (done_again worker P) U)
runs-again objects worker P before W [] is inside may = tt
runs-again objects worker P before W (e ∷ U) is inside may =
    let event = done_again worker P e in
    let open_now : is_open (carried_summary P W) (number_in P e.by) ≡ true = rw (lt-ltb (number_in P e.by) (length P) (number-below P e.by inside.0)) refl in
    let now : MayFollow objects before event = subst (λ (s : Summary). May objects s event.kind) (sym is) (open_now, may W U e refl) in
    let next : summary (before ++ event ∷ []) ≡ carried_summary P (W ++ e ∷ []) =
    seen_after_one before event ∙ ap (λ (s : Summary). summary_next s event.kind) is
    ∙ ap (λ V. record { begun = length P; committed = []; aborted = []; survives = V }) (sym (map-append (renumbered P) W (e ∷ []))) in
    (now, runs-again objects worker P (before ++ event ∷ []) (W ++ e ∷ []) U next inside.1 (λ A B f same. may A B f (same ∙ append_assoc W (e ∷ []) U)))

-- ---- what may be done

-- what holds of each holds of the one between others
each-between : {E : Type 0} (Q : E → Type 0) (A B : List E) (e : E) → AllByRecursion Q (A ++ e ∷ B) → Q e
each-between Q [] B e p = p.0
each-between Q (x ∷ A) B e p = each-between Q A B e p.1

-- what is at an object, of some, one there, and others
at-between : (A B : List Entry) (e : Entry) → at_object e.at (A ++ e ∷ B) ≡ at_object e.at A ++ e ∷ at_object e.at B
at-between A B e =
    filter-append (λ (f : Entry). f.at == e.at) A (e ∷ B)
    ∙ ap (λ b. at_object e.at A ++ cond b (e ∷ at_object e.at B) (at_object e.at B)) (eq-eqb e.at e.at refl)

module _ (along : RunsAlong) (alike : RunsAlike) (inside : EndsInside) (ends : LegalEnds) (parts : PartsSort Entry) (struck : StruckPart Entry) (look : SortsLook Entry) (forward : ListsForward)
    (apply : FirmAfterApply) (firm_commits : FirmAfterCommit) (strikes : FirmAfterStrike) (nothing : NothingKeeps) (firm_legal : FirmIsLegal) (fresh : FreshIsFirm)
    (safe : FirmIsSafe) (is_firm : SafeIsFirm) (keeps_nobody : FirmKeepsNobody) (covered : CheckedIsCovered) (at : AtIsChecked)
    (types : List Checked) (epoch : Epoch) (P : List ℕ) (checked : AreChecked types) (ended : IsOpenEpoch types epoch) (once : AreOpenOnce P epoch.history) where
  abbrev H : List Event
  H = epoch.history

  -- in any order that keeps each object's
  module _ (U : List Entry) (order : (x : ℕ) → at_object x U ≡ of_these P (surviving_at x H)) where
    split-at : (A B : List Entry) (e : Entry) → A ++ e ∷ B ≡ U → of_these P (surviving_at e.at H) ≡ at_object e.at A ++ e ∷ at_object e.at B
    split-at A B e same = sym (order e.at) ∙ ap (at_object e.at) (sym same) ∙ at-between A B e

    mine-at : (x : ℕ) → AllByRecursion (λ e. is_among P e.by ≡ true) (of_these P (surviving_at x H))
    mine-at x = each-passes (λ (f : Entry). is_among P f.by ≡ true) (λ f. is_among P f.by) (surviving_at x H) (each-all (λ f passes. passes) (surviving_at x H))

    may-do : (A B : List Entry) (e : Entry) → A ++ e ∷ B ≡ U → MayDoAgain (map object_of (types_behind types epoch)) P A e
    may-do A B e same =
        let x = e.at in
        let Q : Entry → Type 0 = λ f. IsOperation (slice_get (map (λ (o : Object). o.table) (map object_of types)) f.at) f.op in
        let here = split-at A B e same in
        let operations = each-filter Q (λ f. is_among P f.by) (surviving_at x H) (each-filter Q (λ f. f.at == x) (surviving H) (operations_in_run (map object_of types) H ended.run)) in
        let its = operation-type types x e.op (each-between Q (at_object x A) (at_object x B) e (rw here at operations)) in
        let c = its.0 in
        let k = goes-on types epoch x c ended.as_many its.1 in
        let o : Object = object_of c in
        let there : slice_get (map object_of types) x ≡ Some o = type-there types x c its.1 in
        let now : slice_get (map object_of (types_behind types epoch)) x ≡ Some (object_of (checked_at c k.s)) = type-there (types_behind types epoch) x (checked_at c k.s) k.behind in
        let its_left = ended.kept x o k.s there k.state in
        let held = held-in-run along inside ends parts struck look forward apply firm_commits strikes nothing firm_legal fresh (map object_of types) H (checked_covered covered types checked) ended.run P once x o there k.s safe o.kind refl its_left.reached in
        subst (λ (found : Option Object). MayDo found (carried_summary P A) x (number_in P e.by) e.op) (sym now)
        (may-again o (object_of (checked_at c k.s)) k.s (begins-at alike covered at c k.s (checked x c its.1) its_left.inside) P (summary H).begun once.apart (are-less P H once) x A e (at_object x B)
        (rw here at (mine-at x)) keeps_nobody strikes is_firm o.kind refl (rw here at held) its.2)

    -- each is of a carried one
    each-split : (Q : Entry → Type 0) (before V : List Entry) → ((A B : List Entry) (e : Entry) → A ++ e ∷ B ≡ before ++ V → Q e) → AllByRecursion Q V
    each-split Q before [] all = tt
    each-split Q before (e ∷ V) all = (all before V e refl, each-split Q (before ++ e ∷ []) V (λ A B f same. all A B f (same ∙ append_assoc before (e ∷ []) V)))

    mine-all : AllByRecursion (λ e. is_among P e.by ≡ true) U
    mine-all = each-split (λ e. is_among P e.by ≡ true) [] U (λ A B e same. each-between (λ (f : Entry). is_among P f.by ≡ true) (at_object e.at A) (at_object e.at B) e (rw (split-at A B e same) at (mine-at e.at)))

    carried-runs : (worker : ℕ → ℕ) → IsRun (map object_of (types_behind types epoch)) (carried_by worker P U)
    carried-runs worker =
        let objects = map object_of (types_behind types epoch) in
        let first = runs-begins objects worker [] 0 P refl in
        runs-append objects [] (begins_from worker 0 P) (map (done_again worker P) U) first.0
        (runs-again objects worker P (begins_from worker 0 P) [] U (first.1 ∙ ap begun (omega arith)) mine-all may-do)

pub carried_in_any_order : RunsAlong → RunsAlike → EndsInside → LegalEnds → PartsSort Entry → StruckPart Entry → SortsLook Entry → ListsForward → FirmAfterApply → FirmAfterCommit → FirmAfterStrike → NothingKeeps → FirmIsLegal → FreshIsFirm
    → FirmIsSafe → SafeIsFirm → FirmKeepsNobody → CheckedIsCovered → AtIsChecked → CarriedInAnyOrder
carried_in_any_order along alike inside ends parts struck look forward apply firm_commits strikes nothing firm_legal fresh safe is_firm keeps_nobody covered at = λ types epoch worker P U checked ended once order.
    carried-runs along alike inside ends parts struck look forward apply firm_commits strikes nothing firm_legal fresh safe is_firm keeps_nobody covered at types epoch P checked ended once U order worker

pub carried_is_run : CarriedInAnyOrder → CarriedIsRun
carried_is_run any = λ types epoch worker P checked ended once.
    any types epoch worker P (of_these P (surviving epoch.history)) checked ended once (λ x. filter-turned (λ (f : Entry). f.at == x) (λ f. is_among P f.by) (surviving epoch.history))
