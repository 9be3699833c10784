-- Dynamic atomicity: in a run, each order of the committed transactions that keeps what precedes is legal.
use Rattle.std.proofs.Common.{◌≡◌, ℕ, ◌-◌, Bool, true, false, not, ◌==◌, List, [], ◌∷◌, ◌++◌, filter, length, Some, refl, sym, ap, ◌∙◌, subst, ⊎_elim, inl, inr, append-nil, append_assoc}
use Rattle.std.specs.List.{AllByRecursion}
use Rattle.std.proofs.lemmas.Bool.{cases_Bool, false≢true, eqb-true, eq-eqb, not_from_true}
use Rattle.std.proofs.lemmas.Grind.{flat_map-append}
use Rattle.type_table.specs.Run.{run, Looks, AreEqui}
use Rattle.type_table.specs.Commute.{Covers}
use Rattle.type_table.specs.Laws.{RunsAlong, EndsInside, LegalEnds, EquiExtends}
use Rattle.type_table.specs.Lists.{ListsForward}
use Rattle.type_table.specs.declared.kind.Kind.{Kind}
use Rattle.type_table.specs.declared.kind.Kind.TheVariants.{Undo, Intentions, Escrow}
use Rattle.type_table.specs.declared.table_kind.TableKind.TheVariants as tabled
use Rattle.escrow_laws.specs.Laws.{FreshIsFirm, FirmAfterApply, FirmAfterCommit, FirmAfterStrike, FirmIsLegal, FirmIsSafe, NothingKeeps}
use Rattle.object_trait.specs.Object.{Object, IsCovered, IsCoveredStrongly}
use Rattle.object_trait.specs.Orders.{Pairs, Sorts}
use Rattle.object_trait.specs.Laws.{PartsSort, StruckPart, SortsLook, SortsEqui}
use Rattle.object_trait.specs.declared.event.Event.{Event}
use Rattle.object_trait.specs.declared.event.EventKind.{EventKind}
use Rattle.object_trait.specs.declared.event.EventKind.TheVariants as kind
use Rattle.object_trait.specs.declared.event.EventKind.TheVariants.{Begin, Op, Busy, Commit, Abort, Rollback}
use Rattle.object_trait.proofs.Lists.{pairs-weaker}
use Rattle.object_trait.proofs.Striking.{each-keep_first}
use Rattle.object_trait.proofs.Sorting.{parts-mine}
use Rattle.type_table.proofs.Elements.{eqb-sym, filter-none, mine-within, each-append, each-weaker, each-passes}
use Rattle.type_table.proofs.Legal.{legal-front}
use Rattle.serial_order.specs.Operations.{is_among, is_by, ops, serial, pending}
use Rattle.serial_order.specs.History.{commits, committed_by, summary, Summary, is_open}
use Rattle.serial_order.specs.Machine.{IsRun, RunsOn, MayFollow, May}
use Rattle.serial_order.specs.Serial.{surviving_at}
use Rattle.serial_order.specs.Laws.{may_pass}
use Rattle.dynamic_atomicity.specs.Dynamic.{comes_first, AreOnce, IsOrderOf, is_op_at, PrecedesAtObject, KeepsObjectPrecedes, Dated, dated_by, undated, dated_after, dated, dated_at, ComesAfterCommitted, KeepsDated, end_state, EndsAgree, CoveredIsAtomic, RunsAreAtomicLiving, CommitOrderKeeps}
use Rattle.serial_order.specs.declared.entry.Entry.{Entry}
use Rattle.serial_order.proofs.Facts.{IsLegalAt}
use Rattle.serial_order.proofs.Lists.{ops-append, is_among-apart}
use Rattle.serial_order.proofs.Pairs.{each-all, pairs-passes}
use Rattle.serial_order.proofs.Undo.{covers_undo, passes-commute}
use Rattle.serial_order.proofs.Runs.{in_run, open_is_uncommitted}
use Rattle.serial_order.proofs.Events.{commits-snoc}
use Rattle.serial_order.proofs.Views.{by_kind}
use Rattle.serial_order.proofs.Escrow.{covers_escrow, escrow_op}
use Rattle.dynamic_atomicity.proofs.Before.{first-inside, first-among, first-apart, first-one_way, once-more}
use Rattle.dynamic_atomicity.proofs.Turned.{IsTurnedFree, sorts-into_order}
use Rattle.dynamic_atomicity.proofs.Grown.{IsFront, front-outside, Grown, grown-fresh, IsApartFree, grown-locked}
use Rattle.dynamic_atomicity.proofs.AnyOrder.{kept-past, any_order}
use Rattle.dynamic_atomicity.proofs.AnyNumber.{same_number, any_number}
use Rattle.dynamic_atomicity.proofs.Dating.{AreDated, dated-snoc, plain-dated_at, dated_in_run}
use Rattle.dynamic_atomicity.proofs.InRun.{covers_undo_strongly, passes_both_ways, escrow_in_run, undo_in_run, passes_from}

-- ---- what precedes

-- what precedes in a history precedes in a longer one
precedes-more : (x : ℕ) (H : List Event) (e : Event) (t u : ℕ) → PrecedesAtObject x H t u → PrecedesAtObject x (H ++ e ∷ []) t u
precedes-more x H e t u h = record {
  before = h.before;
  happened = h.happened;
  behind = h.behind ++ e ∷ [];
  whole = ap (λ G. G ++ e ∷ []) h.whole ∙ append_assoc h.before (h.happened ∷ h.behind) (e ∷ []);
  ended = h.ended;
  operation = h.operation;
}

-- the dates of an operation say what precedes
abbrev Tells : List Event → Dated → Type 0
Tells H d = (t : ℕ) → is_among d.after t ≡ true → PrecedesAtObject d.entry.at H t d.entry.by

each_event : (G : List Event) (e : Event) (happened : EventKind) → e.kind ≡ happened → AllByRecursion (Tells (G ++ e ∷ [])) (dated G)
    → AllByRecursion (Tells (G ++ e ∷ [])) (dated_after (commits G) (dated G) happened)
each_event G e (Begin t) is h = h
each_event G e (Op k t x) is h =
    each-append (Tells (G ++ e ∷ [])) (dated G) ((record { entry = record { by = t; at = x; op = k }; after = commits G }) ∷ []) h
    ((λ u before. record { before = G; happened = e; behind = []; whole = refl; ended = before; operation = rw is mine }), tt)
  where
    mine : is_op_at x t (Op k t x) ≡ true
    mine = simp (eq-eqb x x refl, eq-eqb t t refl)
each_event G e (Busy c t x u) is h = h
each_event G e (kind.None t x c) is h = h
each_event G e (Commit t) is h = h
each_event G e (Abort t) is h = each-keep_first (Tells (G ++ e ∷ [])) (dated_by t) 0 (dated G) h
each_event G e (Rollback t n) is h = each-keep_first (Tells (G ++ e ∷ [])) (dated_by t) (length (filter (dated_by t) (dated G)) - n) (dated G) h

dates-tell : (objects : List Object) (H : List Event) → IsRun objects H → AllByRecursion (Tells H) (dated H)
dates-tell objects = in_run objects (λ G. AllByRecursion (Tells G) (dated G)) tt
    (λ G e going may h. rw (dated-snoc G e) (each_event G e e.kind refl (each-weaker {P = Tells G} {Q = Tells (G ++ e ∷ [])} (λ (d : Dated) tells t before. precedes-more d.entry.at G e t d.entry.by (tells t before)) (dated G) h)))

-- an order that keeps what precedes at x keeps it by the operations that survive there
keeps-living : (objects : List Object) (H : List Event) (x : ℕ) (ts : List ℕ) → IsRun objects H → KeepsObjectPrecedes x H ts → KeepsDated ts (dated_at x H)
keeps-living objects H x ts run keeps =
    each-passes (ComesAfterCommitted ts) (λ (d : Dated). d.entry.at == x) (dated H)
    (each-weaker {P = Tells H} {Q = λ (d : Dated). (d.entry.at == x) ≡ true → ComesAfterCommitted ts d} (λ (d : Dated) tells here inside t before. keeps t d.entry.by (subst (λ y. PrecedesAtObject y H t d.entry.by) (eqb-true d.entry.at x here) (tells t before)) inside) (dated H) (dates-tell objects H run))

-- ---- commit order

-- each committed once
once_after : (objects : List Object) (G : List Event) (happened : EventKind) → May objects (summary G) happened → AreOnce (commits G) → AreOnce (commits G ++ committed_by happened)
once_after objects G (Begin t) may once = rw (append-nil (commits G)) once
once_after objects G (Op k t x) may once = rw (append-nil (commits G)) once
once_after objects G (Busy c t x u) may once = rw (append-nil (commits G)) once
once_after objects G (kind.None t x c) may once = rw (append-nil (commits G)) once
once_after objects G (Commit t) may once = once-more (commits G) t (open_is_uncommitted (summary G) t may) once
once_after objects G (Abort t) may once = rw (append-nil (commits G)) once
once_after objects G (Rollback t n) may once = rw (append-nil (commits G)) once

commits_once : (objects : List Object) (H : List Event) → IsRun objects H → AreOnce (commits H)
commits_once objects = in_run objects (λ G. AreOnce (commits G)) tt (λ G e going may h. rw (commits-snoc G e) (once_after objects G e.kind may h))

-- each event of a run may follow those before it
follows : (objects : List Object) (start before : List Event) (e : Event) (behind : List Event) → RunsOn objects start (before ++ e ∷ behind) → MayFollow objects (start ++ before) e
follows objects start [] e behind run = rw (append-nil start) run.0
follows objects start (f ∷ before) e behind run = rw (append_assoc start (f ∷ []) before) at (follows objects (start ++ f ∷ []) before e behind run.1)

-- the transaction of an operation is open
op_is_open : (objects : List Object) (s : Summary) (x u : ℕ) (happened : EventKind) → is_op_at x u happened ≡ true → May objects s happened → is_open s u ≡ true
op_is_open objects s x u (Begin t) is may = absurd (false≢true is)
op_is_open objects s x u (Op k t y) is may =
    elim (cases_Bool (y == x)) [
      | inl at_x ↦ rw (eqb-true t u (simp at_x at is)) at may.0
      | inr elsewhere ↦ absurd (false≢true (simp elsewhere at is))
    ]
op_is_open objects s x u (Busy c t y v) is may = absurd (false≢true is)
op_is_open objects s x u (kind.None t y c) is may = absurd (false≢true is)
op_is_open objects s x u (Commit t) is may = absurd (false≢true is)
op_is_open objects s x u (Abort t) is may = absurd (false≢true is)
op_is_open objects s x u (Rollback t n) is may = absurd (false≢true is)

pub commit_order_keeps : CommitOrderKeeps
commit_order_keeps objects H run = (record { once = commits_once objects H run; same = λ t. refl }, kept)
  where
    kept : (x : ℕ) → KeepsObjectPrecedes x H (commits H)
    kept x t u h inside =
        let going : RunsOn objects [] (h.before ++ h.happened ∷ h.behind) = subst (IsRun objects) h.whole run in
        let open_then = op_is_open objects (summary h.before) x u h.happened.kind h.operation (follows objects [] h.before h.happened h.behind going) in
        let whole : commits H ≡ commits h.before ++ commits (h.happened ∷ h.behind) = ap commits h.whole ∙ flat_map-append (λ (e : Event). committed_by e.kind) h.before (h.happened ∷ h.behind) in
        subst (λ C. comes_first C t u ≡ true) (sym whole) (first-inside (commits h.before) (commits (h.happened ∷ h.behind)) t u h.ended (open_is_uncommitted (summary h.before) u open_then))

-- ---- pairs of dated operations

-- a fact of each and each later one, with one of the later one
pairs-with : {E : Type 0} (R : E → E → Type 0) (P : E → Type 0) (V : List E) → Pairs R V → AllByRecursion P V → Pairs (λ a b. R a b × P b) V
pairs-with R P [] pairs each = tt
pairs-with {E} R P (a ∷ V) pairs each = (both V pairs.0 each.1, pairs-with R P V pairs.1 each.1)
  where
    both : (W : List E) → AllByRecursion (R a) W → AllByRecursion P W → AllByRecursion (λ b. R a b × P b) W
    both [] r p = tt
    both (b ∷ W) r p = ((r.0, p.0), both W r.1 p.1)

each-plain : (P : Entry → Type 0) (D : List Dated) → AllByRecursion (λ (d : Dated). P d.entry) D → AllByRecursion P (undated D)
each-plain P [] p = tt
each-plain P (d ∷ D) p = (p.0, each-plain P D p.1)

pairs-plain : (R : Entry → Entry → Type 0) (D : List Dated) → Pairs (λ (a b : Dated). R a.entry b.entry) D → Pairs R (undated D)
pairs-plain R [] p = tt
pairs-plain R (d ∷ D) p = (each-plain (R d.entry) D p.0, pairs-plain R D p.1)

-- an operation that the order puts after a later one may be passed by it
turned : (o : Object) (ts : List ℕ) (a b : Dated) → IsApartFree o a b → ComesAfterCommitted ts b → comes_first ts b.entry.by a.entry.by ≡ true → may_pass o a.entry b.entry ≡ true
turned o ts a b locked kept first =
    let apart = first-apart ts b.entry.by a.entry.by first in
    passes_from o a.entry b.entry apart (elim (cases_Bool (is_among b.after a.entry.by)) [
      | inl before ↦ absurd (first-one_way ts b.entry.by a.entry.by first (kept (first-among ts b.entry.by a.entry.by first) a.entry.by before))
      | inr open_then ↦ locked open_then apart
    ])

turned_free : (o : Object) → o.kind ≡ Undo → (ts : List ℕ) (D : List Dated) → Grown o D → KeepsDated ts D → Pairs (IsTurnedFree (may_pass o) ts) (undated D)
turned_free o undo ts D grown kept =
    pairs-plain (IsTurnedFree (may_pass o) ts) D
    (pairs-weaker {P = λ (a b : Dated). IsApartFree o a b × ComesAfterCommitted ts b} (λ (a b : Dated) h. turned o ts a b h.0 h.1) D (pairs-with (IsApartFree o) (ComesAfterCommitted ts) D (grown-locked o undo D grown) kept))

-- one of an open transaction may be passed by a later one of a committed one
open_passed : (o : Object) (C : List ℕ) (a b : Dated) → IsApartFree o a b → IsFront b.after C → is_among C a.entry.by ≡ false → is_among C b.entry.by ≡ true → may_pass o a.entry b.entry ≡ true
open_passed o C a b locked front pending ended =
    let apart = is_among-apart C a.entry.by b.entry.by pending ended in
    passes_from o a.entry b.entry apart (locked (front-outside b.after C a.entry.by front pending) apart)

open_free : (o : Object) → o.kind ≡ Undo → (C : List ℕ) (D : List Dated) → AreDated o C D → Pairs (λ (a b : Entry). is_among C a.by ≡ false → is_among C b.by ≡ true → may_pass o a b ≡ true) (undated D)
open_free o undo C D h =
    pairs-plain (λ (a b : Entry). is_among C a.by ≡ false → is_among C b.by ≡ true → may_pass o a b ≡ true) D
    (pairs-weaker {P = λ (a b : Dated). IsApartFree o a b × IsFront b.after C} (λ (a b : Dated) both. open_passed o C a b both.0 both.1) D
    (pairs-with (IsApartFree o) (λ (b : Dated). IsFront b.after C) D (grown-locked o undo D h.grown) h.fronts))

-- ---- what is left out

-- the serial order of transactions of which all operations are kept
serial-kept : (test : Entry → Bool) (ts : List ℕ) (V : List Entry) → ((e : Entry) → is_among ts e.by ≡ true → test e ≡ true) → serial ts (filter test V) ≡ serial ts V
serial-kept test [] V within = refl
serial-kept test (t ∷ ts) V within =
    rw (mine-within test (is_by t) V (λ e mine. within e (own e mine)), serial-kept test ts V (λ e inside. within e (later e inside))) refl
  where
    own : (e : Entry) → is_by t e ≡ true → is_among (t ∷ ts) e.by ≡ true
    own e mine = let same : (t == e.by) ≡ true = eqb-sym t e.by ∙ mine in simp same

    later : (e : Entry) → is_among ts e.by ≡ true → is_among (t ∷ ts) e.by ≡ true
    later e inside = elim (cases_Bool (t == e.by)) [ inl is ↦ simp is | inr isnt ↦ simp isnt inside ]

-- what the committed transactions executed, in any order of theirs
executed-order : (C ts : List ℕ) (V : List Entry) → IsOrderOf C ts →
    serial ts (filter (λ e. is_among C e.by) V) ++ pending ts (filter (λ e. is_among C e.by) V) ≡ serial ts V
executed-order C ts V order =
    let W : List Entry = filter (λ e. is_among C e.by) V in
    let none : pending ts W ≡ [] =
    filter-none (λ e. not (is_among ts e.by)) W (each-passes (λ e. not (is_among ts e.by) ≡ false) (λ e. is_among C e.by) V (each-all (λ e ended. not_from_true (is_among ts e.by) (order.same e.by ∙ ended)) V)) in
    rw (none, serial-kept (λ e. is_among C e.by) ts V (λ e inside. sym (order.same e.by) ∙ inside)) (append-nil (serial ts V))

-- ---- update in place

module _ (along : RunsAlong) (parts : PartsSort Entry) (look : SortsLook Entry) (equi : SortsEqui Entry)
    (o : Object) (C ts : List ℕ) (V : List Entry) (covered : IsCovered o) (undo : o.kind ≡ Undo) (order : IsOrderOf C ts)
    (legal : IsLegalAt o (ops V)) (first : Pairs (λ (a b : Entry). is_among C a.by ≡ false → is_among C b.by ≡ true → may_pass o a b ≡ true) V)
    (free : Pairs (IsTurnedFree (may_pass o) ts) V) where
  abbrev W : List Entry
  W = filter (λ e. is_among C e.by) V

  covers : Covers tabled.Undo o.table o.set o.conflicts
  covers = covers_undo o covered undo

  -- what committed transactions executed is legal
  executed-legal : IsLegalAt o (ops W)
  executed-legal =
      let others : List Entry = filter (λ e. not (is_among C e.by)) V in
      let sorted = parts (may_pass o) V W others (parts-mine (may_pass o) (λ e. is_among C e.by) V first) in
      let moved = look o.table o.set (λ e. e.op) (may_pass o) o.table.initial V (W ++ others) covers.closed covers.begins_inside (passes-commute o covers) sorted legal in
      legal-front o.table (Some o.table.initial) (ops W) (ops others) (rw (ops-append W others) at moved.0)

  -- and sorts into the order
  sorted_order : Sorts (may_pass o) W (serial ts V)
  sorted_order =
      rw (executed-order C ts V order) at
      (sorts-into_order parts (may_pass o) ts W order.once (pairs-passes (IsTurnedFree (may_pass o) ts) (λ e. is_among C e.by) V (pairs-weaker (λ a b h _ _. h) V free)))

  pub undo_order : IsLegalAt o (ops (serial ts V)) × Looks o.table (end_state o W) (end_state o (serial ts V))
  undo_order =
      look o.table o.set (λ e. e.op) (may_pass o) o.table.initial W (serial ts V) covers.closed covers.begins_inside (passes-commute o covers) sorted_order executed-legal

  pub undo_order_strongly : IsCoveredStrongly o → AreEqui o.table (end_state o W) (end_state o (serial ts V))
  undo_order_strongly strong =
      (equi o.table o.set (λ e. e.op) (may_pass o) o.table.initial W (serial ts V) (covers_undo_strongly o strong undo).closed (covers_undo_strongly o strong undo).begins_inside (passes_both_ways o strong undo) sorted_order executed-legal).1

-- ---- all kinds

module _ (along : RunsAlong) (inside : EndsInside) (ends : LegalEnds) (extends : EquiExtends) (parts : PartsSort Entry) (struck : StruckPart Entry) (look : SortsLook Entry) (equi : SortsEqui Entry) (forward : ListsForward)
    (apply : FirmAfterApply) (firm_commits : FirmAfterCommit) (strikes : FirmAfterStrike) (nothing : NothingKeeps) (firm_legal : FirmIsLegal) (fresh : FreshIsFirm) (safe : FirmIsSafe) where
  pub runs_are_atomic_living : RunsAreAtomicLiving
  runs_are_atomic_living objects H x o run there covered ts order kept =
      let known = dated_in_run strikes objects x o there
      (λ escrow C V e admitted legal facts. escrow_op along apply strikes nothing o C V e covered escrow admitted legal facts)
      (λ G going escrow. escrow_in_run along ends apply firm_commits strikes nothing firm_legal fresh objects G x o covered going there escrow) H run in
      let are : undated (dated_at x H) ≡ surviving_at x H = plain-dated_at x H in
      let C = commits H in
      let commit_kept : KeepsDated C (dated_at x H) = rw (append-nil C) at (kept-past C [] (dated_at x H) known.fronts (grown-fresh o (dated_at x H) known.grown)) in
      ⊎_elim
      (λ (undo : o.kind ≡ Undo).
      let legal = (undo_in_run along parts struck look objects H x o covered run there undo).legal in
      let first = subst (Pairs (λ (a b : Entry). is_among C a.by ≡ false → is_among C b.by ≡ true → may_pass o a b ≡ true)) are (open_free o undo C (dated_at x H) known) in
      let free = subst (Pairs (IsTurnedFree (may_pass o) ts)) are (turned_free o undo ts (dated_at x H) known.grown kept) in
      let moved = undo_order along parts look equi o C ts (surviving_at x H) covered undo order legal first free in
      let strongly = undo_order_strongly along parts look equi o C ts (surviving_at x H) covered undo order legal first free in
      record { legal = moved.0; ends = subst (λ (kind : Kind). EndsAgree kind o x H ts) (sym undo) (moved.1, strongly) })
      (⊎_elim
      (λ (deferred : o.kind ≡ Intentions).
      let claim = any_order along inside ends extends forward o covered deferred (dated_at x H) known.grown in
      let one = claim ts C order.once known.once kept commit_kept order.same in
      let two = claim C ts known.once order.once commit_kept kept (λ t. sym (order.same t)) in
      record { legal = rw are at one.0; ends = subst (λ (kind : Kind). EndsAgree kind o x H ts) (sym deferred) (rw are at two.1) })
      (λ (escrow : o.kind ≡ Escrow).
      let claim = any_number along ends safe o covered escrow (dated_at x H) known.grown in
      let one : IsLegalAt o (ops (serial ts (surviving_at x H))) = rw are at (claim ts order.once kept) in
      let two : IsLegalAt o (ops (serial C (surviving_at x H))) = rw are at (claim C known.once commit_kept) in
      let same = same_number ends o.table o.amounts (covers_escrow o covered escrow) o.table.initial C ts (surviving_at x H) known.once order.once (λ t. sym (order.same t)) two one in
      record { legal = one; ends = subst (λ (kind : Kind). EndsAgree kind o x H ts) (sym escrow) same }))
      (by_kind o.kind)

pub covered_is_atomic : RunsAreAtomicLiving → CoveredIsAtomic
covered_is_atomic living objects H x o run there covered ts order keeps = living objects H x o run there covered ts order (keeps-living objects H x ts run keeps)
