-- The old epoch and the next one, side by side: what they say, and that it stays so by each event.
use Rattle.std.proofs.Common.{◌≡◌, ℕ, ◌+◌, ◌-◌, ◌<◌, ◌≤◌, true, false, ◌==◌, nat_lt, List, [], ◌∷◌, ◌++◌, map, filter, take, length, Some, slice_get, refl, sym, ap, ◌∙◌, inl, inr, append_assoc, arith, lt-ltb}
use Rattle.std.specs.List.{AllByRecursion}
use Rattle.std.proofs.lemmas.Bool.{cases_Bool, cases_lt}
use Rattle.std.proofs.lemmas.Bool.Decides.{nat_tests}
use Rattle.std.proofs.lemmas.List.{map-append, length-map}
use Rattle.std.proofs.lemmas.List.Folds.{list_any-append}
use Rattle.type_table.proofs.Elements.{each-passes}
use Rattle.type_table.specs.declared.kind.Kind.TheVariants.{Undo}
use Rattle.object_trait.specs.Object.{Object}
use Rattle.object_trait.specs.Orders.{Sorts}
use Rattle.object_trait.specs.Strike.{keep_first}
use Rattle.object_trait.specs.declared.event.EventKind.TheVariants.{Begin, Op, Commit, Abort, Rollback}
use Rattle.serial_order.specs.Operations.{is_among, is_by, at_object, of, pending}
use Rattle.serial_order.specs.History.{Summary, is_open}
use Rattle.serial_order.specs.After.{summary_next}
use Rattle.serial_order.specs.Laws.{may_pass}
use Rattle.serial_order.specs.declared.entry.Entry.{Entry}
use Rattle.serial_order.proofs.Pairs.{each-all}
use Rattle.serial_order.proofs.Strikes.{keep_first-others, keep_first-part, keep_first-behind}
use Rattle.serial_order.proofs.Lists.{filter-more, filter-apart, of-pending, pending-more, pending-strike, is_one-outside, is_among-apart}
use Rattle.serial_order.proofs.Sorts.{sorts-append, sorts-keep_first}
use Rattle.serial_order.proofs.Undo.{exchanged-apart}
use Rattle.committed_states.specs.Committed.{of_these}
use Rattle.carried_runs.specs.OldNumbers.{owner_of}
use Rattle.carried_runs.proofs.Renumbering.{AreApart, AreLess, owner-one}
use Rattle.carried_runs.proofs.Naming.{owner-less, owner-more, owner-outside, AreNames, by_name, among-named, of-named, strike-named}

-- at an object of update in place the operations of the first epoch's committed ones may stand first
abbrev pub AreFirst : Object → List ℕ → ℕ → List Entry → Type 0
AreFirst o C x V = Sorts (may_pass o) (at_object x V) (of_these C (at_object x V) ++ pending C (at_object x V))

-- what the old epoch says of C, which had committed in it, and of A, which had aborted; and what the next says by its names
pub record AreBeside (objects : List Object) (P : List ℕ) (n : ℕ) (C A : List ℕ) (base : List Entry) (old new : Summary) : Type 0 where
  pub many : length P ≤ new.begun
  pub begun : old.begun + length P ≡ n + new.begun
  pub committed : old.committed ≡ C ++ map (owner_of P n) new.committed
  pub aborted : old.aborted ≡ A ++ map (owner_of P n) new.aborted
  pub fixed : of_these C old.survives ≡ base
  pub rest : pending C old.survives ≡ map (by_name (owner_of P n)) new.survives
  pub sorted : (x : ℕ) (o : Object) → slice_get objects x ≡ Some o → o.kind ≡ Undo → AreFirst o C x old.survives

-- ---- lists

-- one more
first-more : (o : Object) (C : List ℕ) (x : ℕ) (V : List Entry) (e : Entry) → is_among C e.by ≡ false → AreFirst o C x V → AreFirst o C x (V ++ e ∷ [])
first-more o C x V e out sorted =
    elim (cases_Bool (e.at == x)) [
      | inl here ↦
          rw (
            filter-more (λ (f : Entry). f.at == x) V e here,
            filter-apart (λ (f : Entry). is_among C f.by) (at_object x V) e out,
            pending-more C (at_object x V) e out,
            ← (append_assoc (of_these C (at_object x V)) (pending C (at_object x V)) (e ∷ [])),
          ) (sorts-append (at_object x V) (of_these C (at_object x V) ++ pending C (at_object x V)) (e ∷ []) sorted)
      | inr elsewhere ↦ rw (filter-apart (λ (f : Entry). f.at == x) V e elsewhere) sorted
    ]

-- a strike
first-struck : (o : Object) (C : List ℕ) (x t n : ℕ) (V : List Entry) → is_among C t ≡ false → AreFirst o C x V → AreFirst o C x (keep_first (is_by t) n V)
first-struck o C x t n V out sorted =
    let m = length (filter (λ (e : Entry). e.at == x) (take n (of t V))) in
    let W = at_object x V in
    let others : AllByRecursion (λ e. is_by t e ≡ false) (of_these C W) =
    each-passes (λ e. is_by t e ≡ false) (λ e. is_among C e.by) W (each-all (λ e inside. is_among-apart C t e.by out inside) W) in
    rw (
      keep_first-part (λ (e : Entry). e.at == x) (is_by t) n V,
      keep_first-others (λ (e : Entry). is_among C e.by) (is_by t) m W (λ e mine. is_one-outside C e.by t out mine),
      pending-strike C t m W out,
      ← (keep_first-behind (is_by t) m (of_these C W) (pending C W) others),
    ) (sorts-keep_first (is_by t) (exchanged-apart o t) m W (of_these C W ++ pending C W) sorted)

module _ (objects : List Object) (P : List ℕ) (n : ℕ) (C A : List ℕ) (base : List Entry) (old new : Summary)
    (apart : AreApart P) (less : AreLess n P) (c_less : (t : ℕ) → is_among C t ≡ true → t < n) (a_less : (t : ℕ) → is_among A t ≡ true → t < n)
    (c_out : (t : ℕ) → is_among P t ≡ true → is_among C t ≡ false) (a_out : (t : ℕ) → is_among P t ≡ true → is_among A t ≡ false) (known : AreBeside objects P n C A base old new) where
  abbrev g : ℕ → ℕ
  g = owner_of P n

  pub g-names : AreNames g
  g-names = λ i j is. owner-one P n i j apart less is

  -- ---- who is open

  beside-begun : (j : ℕ) → nat_lt (g j) old.begun ≡ nat_lt j new.begun
  beside-begun j =
      elim (cases_lt j (length P)) [
        | inl carried_run ↦
            let low = owner-less P n j less carried_run in
            let begun = known.begun in
            let many = known.many in
            rw (lt-ltb (g j) old.begun (omega (arith, low, begun, many)), lt-ltb j new.begun (omega (arith, carried_run, many))) refl
        | inr later ↦
            let split : j ≡ length P + (j - length P) = omega (arith, later) in
            let is : g j ≡ n + (j - length P) = ap g split ∙ owner-more P n (j - length P) in
            let begun = known.begun in
            let many = known.many in
            rw is (grind (arith, nat_tests, later, begun, many))
      ]

  pub beside-committed : (j : ℕ) → is_among old.committed (g j) ≡ is_among new.committed j
  beside-committed j =
      ap (λ D. is_among D (g j)) known.committed ∙ list_any-append (λ u. u == g j) C (map g new.committed)
      ∙ rw (owner-outside C P n j c_less c_out, among-named g g-names new.committed j) refl

  beside-aborted : (j : ℕ) → is_among old.aborted (g j) ≡ is_among new.aborted j
  beside-aborted j =
      ap (λ D. is_among D (g j)) known.aborted ∙ list_any-append (λ u. u == g j) A (map g new.aborted)
      ∙ rw (owner-outside A P n j a_less a_out, among-named g g-names new.aborted j) refl

  pub beside-open : (j : ℕ) → is_open old (g j) ≡ is_open new j
  beside-open j = rw (beside-begun j, beside-committed j, beside-aborted j) refl

  pub g-out : (j : ℕ) → is_among C (g j) ≡ false
  g-out j = owner-outside C P n j c_less c_out

  -- what one did
  pub beside-own : (j : ℕ) → of (g j) old.survives ≡ map (by_name g) (of j new.survives)
  beside-own j = sym (of-pending C (g j) old.survives (g-out j)) ∙ ap (of (g j)) known.rest ∙ of-named g g-names j new.survives

  -- the next number
  pub beside-next : g new.begun ≡ old.begun
  beside-next =
      let many = known.many in
      let begun = known.begun in
      let split : new.begun ≡ length P + (new.begun - length P) = omega (arith, many) in
      ap g split ∙ owner-more P n (new.begun - length P) ∙ omega (arith, begun, many)

  -- ---- one more event

  pub after-begin : AreBeside objects P n C A base (summary_next old (Begin (g new.begun))) (summary_next new (Begin new.begun))
  after-begin = record {
    many = let many = known.many in omega (arith, many);
    begun = let begun = known.begun in omega (arith, begun);
    committed = known.committed;
    aborted = known.aborted;
    fixed = known.fixed;
    rest = known.rest;
    sorted = known.sorted;
  }

  pub after-op : (k j x : ℕ) → AreBeside objects P n C A base (summary_next old (Op k (g j) x)) (summary_next new (Op k j x))
  after-op k j x =
      let e : Entry = record { by = g j; at = x; op = k } in
      record {
        many = known.many;
        begun = known.begun;
        committed = known.committed;
        aborted = known.aborted;
        fixed = filter-apart (λ (f : Entry). is_among C f.by) old.survives e (g-out j) ∙ known.fixed;
        rest = pending-more C old.survives e (g-out j) ∙ ap (λ V. V ++ e ∷ []) known.rest ∙ sym (map-append (by_name g) new.survives ((record { by = j; at = x; op = k }) ∷ []));
        sorted = λ y o there undo. first-more o C y old.survives e (g-out j) (known.sorted y o there undo);
      }

  pub after-commit : (j : ℕ) → AreBeside objects P n C A base (summary_next old (Commit (g j))) (summary_next new (Commit j))
  after-commit j = record {
    many = known.many;
    begun = known.begun;
    committed = ap (λ D. D ++ g j ∷ []) known.committed ∙ append_assoc C (map g new.committed) (g j ∷ []) ∙ ap (λ D. C ++ D) (sym (map-append g new.committed (j ∷ [])));
    aborted = known.aborted;
    fixed = known.fixed;
    rest = known.rest;
    sorted = known.sorted;
  }

  -- a strike
  struck-fixed : (j m : ℕ) → of_these C (keep_first (is_by (g j)) m old.survives) ≡ base
  struck-fixed j m = keep_first-others (λ (e : Entry). is_among C e.by) (is_by (g j)) m old.survives (λ e mine. is_one-outside C e.by (g j) (g-out j) mine) ∙ known.fixed

  struck-rest : (j m : ℕ) → pending C (keep_first (is_by (g j)) m old.survives) ≡ map (by_name g) (keep_first (is_by j) m new.survives)
  struck-rest j m = pending-strike C (g j) m old.survives (g-out j) ∙ ap (keep_first (is_by (g j)) m) known.rest ∙ strike-named g g-names j m new.survives

  pub after-abort : (j : ℕ) → AreBeside objects P n C A base (summary_next old (Abort (g j))) (summary_next new (Abort j))
  after-abort j = record {
    many = known.many;
    begun = known.begun;
    committed = known.committed;
    aborted = ap (λ D. D ++ g j ∷ []) known.aborted ∙ append_assoc A (map g new.aborted) (g j ∷ []) ∙ ap (λ D. A ++ D) (sym (map-append g new.aborted (j ∷ [])));
    fixed = struck-fixed j 0;
    rest = struck-rest j 0;
    sorted = λ y o there undo. first-struck o C y (g j) 0 old.survives (g-out j) (known.sorted y o there undo);
  }

  same-count : (j : ℕ) → length (of (g j) old.survives) ≡ length (of j new.survives)
  same-count j = ap length (beside-own j) ∙ length-map (of j new.survives) (by_name g)

  pub after-rollback : (j m : ℕ) → AreBeside objects P n C A base (summary_next old (Rollback (g j) m)) (summary_next new (Rollback j m))
  after-rollback j m =
      let left = length (of j new.survives) - m in
      let count : length (of (g j) old.survives) - m ≡ left = ap (λ c. c - m) (same-count j) in
      record {
        many = known.many;
        begun = known.begun;
        committed = known.committed;
        aborted = known.aborted;
        fixed = rw count (struck-fixed j left);
        rest = rw count (struck-rest j left);
        sorted = λ y o there undo. rw count (first-struck o C y (g j) left old.survives (g-out j) (known.sorted y o there undo));
      }

  -- a rollback takes back no more than there is
  pub may-rollback : (j m : ℕ) → m ≤ length (of j new.survives) → m ≤ length (of (g j) old.survives)
  may-rollback j m few = rw (same-count j) few
