-- Any order: a list of operations sorts into any order of transactions of which each turned pair is free.
use Rattle.std.proofs.Common.{◌≡◌, ℕ, Bool, true, false, not, ◌&&◌, ◌||◌, ◌==◌, List, [], ◌∷◌, ◌++◌, filter, refl, sym, ap, ◌∙◌}
use Rattle.std.specs.List.{AllByRecursion}
use Rattle.std.proofs.lemmas.Bool.{not-true, or_parts, eqb-true}
use Rattle.std.proofs.lemmas.List.{append_assoc}
use Rattle.std.proofs.lemmas.List.Elements.{filter_agree}
use Rattle.object_trait.specs.Orders.{Pairs, Sorts, same, chain}
use Rattle.object_trait.specs.Laws.{PartsSort}
use Rattle.object_trait.proofs.Lists.{pairs-weaker}
use Rattle.object_trait.proofs.Sorting.{parts-mine}
use Rattle.type_table.proofs.Elements.{eqb-sym, mine-within}
use Rattle.serial_order.specs.Operations.{is_among, is_by, of, serial, pending}
use Rattle.dynamic_atomicity.specs.Dynamic.{comes_first, AreOnce}
use Rattle.serial_order.specs.declared.entry.Entry.{Entry}
use Rattle.dynamic_atomicity.proofs.Before.{first-later, first-head}
use Rattle.serial_order.proofs.Lists.{is_one-apart, both_filters}
use Rattle.serial_order.proofs.Pairs.{each-all, pairs-passes}
use Rattle.serial_order.proofs.Sorts.{sorts-behind}

-- a pair is turned where the later one's transaction is first in the order
abbrev pub IsTurnedFree : (Entry → Entry → Bool) → List ℕ → Entry → Entry → Type 0
IsTurnedFree free ts a b = comes_first ts b.by a.by ≡ true → free a b ≡ true

-- a filter that keeps all
pub filter-all : {E : Type 0} (test : E → Bool) (V : List E) → AllByRecursion (λ e. test e ≡ true) V → filter test V ≡ V
filter-all test [] each = refl
filter-all test (e ∷ V) each = rw each.0 (ap (λ rest. e ∷ rest) (filter-all test V each.1))

-- the serial order of others, among whom t is none
serial-others : (ts : List ℕ) (t : ℕ) (V : List Entry) → is_among ts t ≡ false → serial ts (filter (λ e. not (is_by t e)) V) ≡ serial ts V
serial-others [] t V apart = refl
serial-others (u ∷ ts) t V apart =
    let parts = or_parts (u == t) (is_among ts t) apart in
    let its : of u (filter (λ e. not (is_by t e)) V) ≡ of u V = mine-within (λ e. not (is_by t e)) (is_by u) V (λ e mine. ap not (is_one-apart e.by u t parts.0 mine)) in
    rw (its, serial-others ts t V parts.1) refl

-- and what is of none of them
pending-others : (ts : List ℕ) (t : ℕ) (V : List Entry) → pending ts (filter (λ e. not (is_by t e)) V) ≡ pending (t ∷ ts) V
pending-others ts t V =
    sym (both_filters (λ e. not (is_by t e)) (λ e. not (is_among ts e.by)) V)
    ∙ filter_agree (λ e. not (is_by t e) && not (is_among ts e.by)) (λ e. not (is_among (t ∷ ts) e.by)) neither V
  where
    not-or : (a b : Bool) → (not a && not b) ≡ not (a || b)
    not-or true b = refl
    not-or false b = refl

    neither : (e : Entry) → (not (is_by t e) && not (is_among ts e.by)) ≡ not (is_among (t ∷ ts) e.by)
    neither e = rw (eqb-sym t e.by) (not-or (is_by t e) (is_among ts e.by))

-- the law
pub sorts-into_order : PartsSort Entry → (free : Entry → Entry → Bool) (ts : List ℕ) (V : List Entry) → AreOnce ts → Pairs (IsTurnedFree free ts) V →
    Sorts free V (serial ts V ++ pending ts V)
sorts-into_order parts free [] V once turned = rw (filter-all (λ (e : Entry). true) V (each-all (λ e. refl) V)) same
sorts-into_order parts free (t ∷ ts) V once turned =
    let others : List Entry = filter (λ e. not (is_by t e)) V in
    let first = pairs-weaker (λ a b here other mine. to_front a b here other mine) V turned in
    let two = parts (free) V (of t V) others (parts-mine free (is_by t) V first) in
    let left = pairs-passes (IsTurnedFree free ts) (λ e. not (is_by t e)) V (pairs-weaker (λ a b here a_other b_other turned_now. rest a b here a_other b_other turned_now) V turned) in
    let sorted = sorts-into_order parts free ts others once.1 left in
    let end : serial ts others ++ pending ts others ≡ serial ts V ++ pending (t ∷ ts) V = rw (serial-others ts t V once.0, pending-others ts t V) refl in
    rw (append_assoc (of t V) (serial ts V) (pending (t ∷ ts) V))
    (chain two (sorts-behind (of t V) others (serial ts V ++ pending (t ∷ ts) V) (rw end at sorted)))
  where
    to_front : (a b : Entry) → IsTurnedFree free (t ∷ ts) a b → is_by t a ≡ false → is_by t b ≡ true → free a b ≡ true
    to_front a b here other mine =
        here (rw (eqb-true b.by t mine) (first-head t ts a.by (eqb-sym t a.by ∙ other)))

    rest : (a b : Entry) → IsTurnedFree free (t ∷ ts) a b → not (is_by t a) ≡ true → not (is_by t b) ≡ true → IsTurnedFree free ts a b
    rest a b here a_other b_other turned_now =
        here (first-later t ts b.by a.by (eqb-sym t b.by ∙ not-true (is_by t b) b_other) (eqb-sym t a.by ∙ not-true (is_by t a) a_other) turned_now)
