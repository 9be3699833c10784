-- Necessity: where each run is dynamically atomic at an object, its conflict table is enough.
use Rattle.std.proofs.Common.{◌≡◌, ℕ, Bool, true, false, ◌||◌, ◌==◌, List, [], ◌∷◌, ◌++◌, filter, Option, Some, slice_get, refl, sym, ap, ◌∙◌, subst, append-nil, append_assoc}
use Rattle.std.specs.List.{AllByRecursion}
use Rattle.type_table.specs.Run.{run, IsLegal, AreEqui}
use Rattle.type_table.specs.Laws.{RunsAlong, LegalEnds}
use Rattle.type_table.specs.Kind.{of_table}
use Rattle.type_table.specs.declared.kind.Kind.{Kind}
use Rattle.type_table.specs.declared.kind.Kind.TheVariants.{Undo, Intentions}
use Rattle.type_table.specs.declared.table_kind.TableKind.{TableKind}
use Rattle.type_table.specs.declared.table_kind.TableKind.TheVariants as tabled
use Rattle.type_table.specs.Commute.{Covers, CoversStrongly, Commutes, CommuteForward, CommutesBackward, CommutesBackwardBothWays}
use Rattle.type_table.proofs.Elements.{each-append, each-map}
use Rattle.object_trait.specs.Object.{Object, CoversBy, CoversStronglyBy, IsCovered}
use Rattle.object_trait.specs.declared.event.Event.{Event}
use Rattle.serial_order.specs.Operations.{is_among, at_object, ops, serial}
use Rattle.serial_order.specs.History.{Summary, commits}
use Rattle.serial_order.specs.Machine.{IsRun}
use Rattle.serial_order.specs.Serial.{surviving_at, serial_at}
use Rattle.dynamic_atomicity.specs.Dynamic.{executed_at, end_state, EndsAgree, CoveredIsAtomic, CommitOrderKeeps}
use Rattle.dynamic_atomicity.specs.Converse.{breaking, Goes, AdmitsLegalBreaks, StepsHaveOps, IsReached, BreaksAreEnough, UndoBreaksAreEnough, CoverIsExact, UndoSerialIsExact, StrongIsExact, StrongSerialIsExact}
use Rattle.serial_order.specs.declared.entry.Entry.{Entry}
use Rattle.serial_order.proofs.Facts.{IsLegalAt}
use Rattle.type_table.proofs.Legal.{legal-behind, legal-after}
use Rattle.serial_order.proofs.Pairs.{each-all}
use Rattle.serial_order.proofs.Undo.{covers_undo}
use Rattle.dynamic_atomicity.proofs.Turned.{filter-all}
use Rattle.dynamic_atomicity.proofs.Breaking.{done_by, goes_from, first_of_1, first_of_2, survived, at-two, survived-ops, summary_at_end, one_two, two_one, undo_breaks, one_two_runs, two_one_runs}
use Rattle.dynamic_atomicity.proofs.Keeping.{keeps_breaking}

-- ---- the condition is exact

pub either : (t : ℕ) → is_among (0 ∷ 2 ∷ 1 ∷ 3 ∷ []) t ≡ is_among (0 ∷ 1 ∷ 2 ∷ 3 ∷ []) t
either t = turned (0 == t) (2 == t) (1 == t) (3 == t || false)
  where
    turned : (a b c d : Bool) → (a || (b || (c || d))) ≡ (a || (c || (b || d)))
    turned true b c d = refl
    turned false true true d = refl
    turned false true false d = refl
    turned false false c d = refl

abbrev one_then_two : List ℕ
one_then_two = 0 ∷ 1 ∷ 2 ∷ 3 ∷ []

abbrev two_then_one : List ℕ
two_then_one = 0 ∷ 2 ∷ 1 ∷ 3 ∷ []

module _ (objects : List Object) (x : ℕ) (along : RunsAlong) (ends : LegalEnds) (o : Object) (there : slice_get objects x ≡ Some o) (named : StepsHaveOps o.table) (admits : AdmitsLegalBreaks objects x o) (w : List ℕ) (p q : ℕ) (free : o.conflicts p q ≡ false) where
  -- update in place: commit order breaks
  undo_exchanged : o.kind ≡ Undo → (r : List ℕ) → IsLegalAt o (w ++ q ∷ p ∷ r) → IsLegalAt o (w ++ p ∷ q ∷ r)
  undo_exchanged undo r legal =
      let known = undo_breaks along ends objects x o w p q r there named undo free legal in
      let H = breaking x 2 1 w p q r in
      let in_order : IsLegalAt o (ops (serial (commits H) (surviving_at x H))) =
      admits 2 1 w p q r known.0 (commits H) (rw known.1 (record { once = (refl, (refl, (refl, (refl, tt)))); same = λ t. refl }))
      (rw known.1 (keeps_breaking x two_then_one 2 1 w p q r refl refl (refl, (refl, (refl, tt))))) in
      rw known.2 at in_order

  -- deferred update: the first commits first, and each of the two orders
  module _ (deferred : o.kind ≡ Intentions) (q_legal : IsLegalAt o (w ++ q ∷ [])) (p_legal : IsLegalAt o (w ++ p ∷ [])) (r : List ℕ) where
    committed_12 : commits (breaking x 1 2 w p q r) ≡ one_then_two
    committed_12 = ap (λ (s : Summary). s.committed) (summary_at_end objects x along ends o there named w p q 1 2 r)

    committed_21 : commits (breaking x 2 1 w p q r) ≡ two_then_one
    committed_21 = ap (λ (s : Summary). s.committed) (summary_at_end objects x along ends o there named w p q 2 1 r)

    other_order : Goes o.table (w ++ q ∷ p ∷ []) r → IsLegalAt o (w ++ p ∷ q ∷ r)
    other_order goes =
        rw (ap (λ (s : Summary). ops (serial two_then_one (at_object x s.survives))) (summary_at_end objects x along ends o there named w p q 1 2 r) ∙ two_one objects x along ends o there named w p q r) at
        (admits 1 2 w p q r (one_two_runs objects x along ends o there named w p q r free deferred q_legal p_legal goes) two_then_one
        (rw committed_12 (record { once = (refl, (refl, (refl, (refl, tt)))); same = either }))
        (keeps_breaking x two_then_one 1 2 w p q r refl refl (refl, (refl, (refl, tt)))))

    one_order : Goes o.table (w ++ p ∷ q ∷ []) r → IsLegalAt o (w ++ q ∷ p ∷ r)
    one_order goes =
        rw (ap (λ (s : Summary). ops (serial one_then_two (at_object x s.survives))) (summary_at_end objects x along ends o there named w p q 2 1 r) ∙ one_two objects x along ends o there named w p q r) at
        (admits 2 1 w p q r (two_one_runs objects x along ends o there named w p q r free deferred q_legal p_legal goes) one_then_two
        (rw committed_21 (record { once = (refl, (refl, (refl, (refl, tt)))); same = λ t. sym (either t) }))
        (keeps_breaking x one_then_two 2 1 w p q r refl refl (refl, (refl, (refl, tt)))))

-- ---- a conflict table is enough

-- what covers for a kind with a conflict table
covers_way : (way : TableKind) (o : Object) → Covers way o.table o.set o.conflicts → CoversBy (of_table way) o
covers_way tabled.Undo o covers = covers
covers_way tabled.Intentions o covers = covers

module _ (objects : List Object) (x : ℕ) (along : RunsAlong) (ends : LegalEnds) (o : Object) (there : slice_get objects x ≡ Some o) (named : StepsHaveOps o.table) (reached : IsReached o) where
  abbrev begin : Option ℕ
  begin = Some o.table.initial

  -- what exchanges after each list that leads to a state commutes backward
  backward_by : (p q : ℕ) → ((w r : List ℕ) → IsLegalAt o (w ++ q ∷ p ∷ r) → IsLegalAt o (w ++ p ∷ q ∷ r)) → CommutesBackward o.table o.set p q
  backward_by p q exchanges s member legal =
      let w = (reached.reach s member).0 in
      let at_s = (reached.reach s member).1 in
      let exchanged : (r : List ℕ) → IsLegal o.table (Some s) (q ∷ p ∷ r) → IsLegal o.table (Some s) (p ∷ q ∷ r) =
      λ r here. legal-behind along o.table begin w (p ∷ q ∷ r) s at_s (exchanges w r (legal-after along o.table begin w (q ∷ p ∷ r) s at_s here)) in
      (exchanged [] legal, λ ks here. exchanged ks here)

  module _ (admits : AdmitsLegalBreaks objects x o) (p q : ℕ) (free : o.conflicts p q ≡ false) where
    forward : o.kind ≡ Intentions → CommuteForward o.table o.set p q
    forward deferred s member p_next q_next =
        let w = (reached.reach s member).0 in
        let at_s = (reached.reach s member).1 in
        let p_legal = legal-after along o.table begin w (p ∷ []) s at_s p_next in
        let q_legal = legal-after along o.table begin w (q ∷ []) s at_s q_next in
        let to_pq : (r : List ℕ) → Goes o.table (w ++ q ∷ p ∷ []) r → IsLegal o.table (Some s) (p ∷ q ∷ r) =
        λ r goes. legal-behind along o.table begin w (p ∷ q ∷ r) s at_s (other_order objects x along ends o there named admits w p q free deferred q_legal p_legal r goes) in
        let to_qp : (r : List ℕ) → Goes o.table (w ++ p ∷ q ∷ []) r → IsLegal o.table (Some s) (q ∷ p ∷ r) =
        λ r goes. legal-behind along o.table begin w (q ∷ p ∷ r) s at_s (one_order objects x along ends o there named admits w p q free deferred q_legal p_legal r goes) in
        let goes_pq : (r : List ℕ) → IsLegal o.table (Some s) (p ∷ q ∷ r) → Goes o.table (w ++ p ∷ q ∷ []) r =
        λ r here. goes_from objects x along ends o there named (w ++ p ∷ q ∷ []) r (rw (append_assoc w (p ∷ q ∷ []) r) (legal-after along o.table begin w (p ∷ q ∷ r) s at_s here)) in
        let goes_qp : (r : List ℕ) → IsLegal o.table (Some s) (q ∷ p ∷ r) → Goes o.table (w ++ q ∷ p ∷ []) r =
        λ r here. goes_from objects x along ends o there named (w ++ q ∷ p ∷ []) r (rw (append_assoc w (q ∷ p ∷ []) r) (legal-after along o.table begin w (q ∷ p ∷ r) s at_s here)) in
        (to_pq [] tt, to_qp [] tt, ((λ ks here. to_qp ks (goes_pq ks here)), (λ ks here. to_pq ks (goes_qp ks here))))

    commuting : (way : TableKind) → o.kind ≡ of_table way → Commutes way o.table o.set p q
    commuting tabled.Undo undo = backward_by p q (λ w r legal. undo_exchanged objects x along ends o there named admits w p q free undo r legal)
    commuting tabled.Intentions deferred = forward deferred

  -- the table is enough where each pair outside it commutes
  enough : (way : TableKind) → o.kind ≡ of_table way → ((p q : ℕ) → o.conflicts p q ≡ false → Commutes way o.table o.set p q) → IsCovered o
  enough way is commute = subst (λ (kind : Kind). CoversBy kind o) (sym is) (covers_way way o (record { begins_inside = reached.begins_inside; closed = reached.closed; commute = commute }))

pub breaks_are_enough : RunsAlong → LegalEnds → BreaksAreEnough
breaks_are_enough along ends objects x o way there named is reached admits =
    enough objects x along ends o there named reached way is (λ p q free. commuting objects x along ends o there named reached admits p q free way is)

pub cover_is_exact : CoveredIsAtomic → BreaksAreEnough → CoverIsExact
cover_is_exact atomic breaks objects x o way there named is reached = (
  (λ covered H run ts order keeps. (atomic objects H x o run there covered ts order keeps).legal),
  (λ admits. breaks objects x o way there named is reached (λ first second w p q r run. admits (breaking x first second w p q r) run)),
)

-- ---- update in place, by commit order alone

pub undo_breaks_are_enough : RunsAlong → LegalEnds → UndoBreaksAreEnough
undo_breaks_are_enough along ends objects x o there named undo reached legal_only =
    enough objects x along ends o there named reached tabled.Undo undo (λ p q free. backward_by objects x along ends o there named reached p q (λ w r legal.
    let known = undo_breaks along ends objects x o w p q r there named undo free legal in
    rw known.2 at (legal_only w p q r known.0)))

pub undo_serial_is_exact : CoveredIsAtomic → CommitOrderKeeps → UndoBreaksAreEnough → UndoSerialIsExact
undo_serial_is_exact atomic keeps breaks objects x o there named undo reached = (
  (λ covered H run. let order = keeps objects H run in (atomic objects H x o run there covered (commits H) order.0 (order.1 x)).legal),
  (λ legal_only. breaks objects x o there named undo reached (λ w p q r run. legal_only (breaking x 2 1 w p q r) run)),
)

-- ---- the strong form

module _ (objects : List Object) (x : ℕ) (along : RunsAlong) (ends : LegalEnds) (o : Object) (there : slice_get objects x ≡ Some o) (named : StepsHaveOps o.table) (undo : o.kind ≡ Undo) (reached : IsReached o) (covered : IsCovered o)
    (equi : (H : List Event) → IsRun objects H → AreEqui o.table (end_state o (executed_at x H)) (end_state o (serial_at x H))) where
  -- what was executed
  executed-ops : (w : List ℕ) (p q : ℕ) → ops (executed_at x (breaking x 2 1 w p q [])) ≡ w ++ q ∷ p ∷ []
  executed-ops w p q =
      let S = survived objects x along ends o there named w p q in
      let among : Entry → Bool = λ e. is_among (0 ∷ 2 ∷ 1 ∷ 3 ∷ []) e.by in
      let all : AllByRecursion (λ e. among e ≡ true) S =
      each-append (λ e. among e ≡ true) (done_by x 0 w ++ first_of_1 objects x along ends o there named w p q ∷ []) (first_of_2 objects x along ends o there named w p q ∷ [])
      (each-append (λ e. among e ≡ true) (done_by x 0 w) (first_of_1 objects x along ends o there named w p q ∷ [])
      (each-map (λ e. among e ≡ true) (λ k. record { by = 0; at = x; op = k }) w (each-all (λ k. refl) w)) (refl, tt)) (refl, tt) in
      ap (λ (s : Summary). ops (filter (λ (e : Entry). is_among s.committed e.by) (at_object x s.survives))) (summary_at_end objects x along ends o there named w p q 2 1 [])
      ∙ ap (λ V. ops (filter among (at_object x V))) (append-nil S) ∙ ap (λ V. ops (filter among V)) (at-two objects x along ends o there named w p q) ∙ ap ops (filter-all among S all)
      ∙ survived-ops objects x along ends o there named w p q

  both_ways_at : (p q : ℕ) → o.conflicts p q ≡ false → CommutesBackwardBothWays o.table o.set p q
  both_ways_at p q free s member legal =
      let T = o.table in
      let begin_here : Option ℕ = Some o.table.initial in
      let w = (reached.reach s member).0 in
      let at_s = (reached.reach s member).1 in
      let H = breaking x 2 1 w p q [] in
      let known = undo_breaks along ends objects x o w p q [] there named undo free (legal-after along T begin_here w (q ∷ p ∷ []) s at_s legal) in
      let same : AreEqui T (end_state o (executed_at x H)) (end_state o (serial_at x H)) = equi H known.0 in
      let covers = covers_undo o covered undo in
      let turned : AreEqui T (run T begin_here (w ++ q ∷ p ∷ [])) (run T begin_here (w ++ p ∷ q ∷ [])) = rw (executed-ops w p q, known.2) at same in
      ((covers.commute p q free s member legal).0, rw (along T begin_here w (q ∷ p ∷ []), along T begin_here w (p ∷ q ∷ []), at_s) at turned)

  covers_strongly : CoversStrongly tabled.Undo o.table o.set o.conflicts
  covers_strongly = record { begins_inside = reached.begins_inside; closed = reached.closed; commute = both_ways_at }

pub strong_serial_is_exact : RunsAlong → LegalEnds → CoveredIsAtomic → CommitOrderKeeps → StrongSerialIsExact
strong_serial_is_exact along ends atomic keeps objects x o there named undo reached covered = (
  (λ strong H run.
      let order = keeps objects H run in
      let agree : EndsAgree Undo o x H (commits H) = subst (λ (kind : Kind). EndsAgree kind o x H (commits H)) undo (atomic objects H x o run there covered (commits H) order.0 (order.1 x)).ends in
      agree.1 strong),
  (λ equi. subst (λ (kind : Kind). CoversStronglyBy kind o) (sym undo) (covers_strongly objects x along ends o there named undo reached covered equi)),
)

-- by each order that keeps what precedes
pub strong_is_exact : CoveredIsAtomic → CommitOrderKeeps → StrongSerialIsExact → StrongIsExact
strong_is_exact atomic keeps serial_exact objects x o there named undo reached covered = (
  (λ strong H run ts order kept.
      let agree : EndsAgree Undo o x H ts = subst (λ (kind : Kind). EndsAgree kind o x H ts) undo (atomic objects H x o run there covered ts order kept).ends in
      agree.1 strong),
  (λ equi. (serial_exact objects x o there named undo reached covered).1 (λ H run. let order = keeps objects H run in equi H run (commits H) order.0 (order.1 x))),
)
