-- Serial orders, and lists that sort by exchanges of neighbours.
use Rattle.std.proofs.Common.{◌≡◌, ℕ, Bool, true, false, not, ◌==◌, List, [], ◌∷◌, ◌++◌, map, filter, refl, sym, ap, subst, ◌∙◌, inl, inr, append-nil}
use Rattle.std.specs.List.{AllByRecursion}
use Rattle.std.proofs.lemmas.Bool.{cases_Bool, eqb-true, eq-eqb, not-true, or_right}
use Rattle.std.proofs.lemmas.Grind.{flat_map-append}
use Rattle.std.proofs.lemmas.List.Elements.{filter-append}
use Rattle.type_table.proofs.Elements.{each-append, each-passes, filter-all, filter-none, mine-within}
use Rattle.object_trait.specs.Orders.{Sorts, same, swap, under, chain}
use Rattle.serial_order.specs.Operations.{is_among, is_by, ops, of, serial, pending}
use Rattle.serial_order.specs.declared.entry.Entry.{Entry}
use Rattle.serial_order.proofs.Pairs.{each-all}
use Rattle.serial_order.proofs.Lists.{ops-append}
use Rattle.committed_states.specs.Committed.{of_these}

-- ---- what sorts

-- what passes a test sorts as the whole does
pub sorts-filter : {E : Type 0} {free : E → E → Bool} (test : E → Bool) (V W : List E) → Sorts free V W → Sorts free (filter test V) (filter test W)
sorts-filter test V _ same = same
sorts-filter test _ _ (swap {a} {b} {V} passes) =
    elim (cases_Bool (test a)) [
      | inl first ↦ elim (cases_Bool (test b)) [
        | inl second ↦ simp (first, second) (swap passes)
        | inr out ↦ simp (first, out) same
      ]
      | inr out ↦ simp out same
    ]
sorts-filter test _ _ (under {a} {V} {W} s) =
    elim (cases_Bool (test a)) [
      | inl first ↦ rw first (under (sorts-filter test V W s))
      | inr out ↦ rw out (sorts-filter test V W s)
    ]
sorts-filter test _ _ (chain {U} {V} {W} s r) = chain (sorts-filter test U V s) (sorts-filter test V W r)

-- ---- serial orders

-- each operation of the serial order is of one of its transactions
pub serial-each : (Q : ℕ → Type 0) (C : List ℕ) (V : List Entry) → ((t : ℕ) → is_among C t ≡ true → Q t) → AllByRecursion (λ e. Q e.by) (serial C V)
serial-each Q [] V all = tt
serial-each Q (t ∷ C) V all =
    let head : Q t = all t (rw (eq-eqb t t refl) refl) in
    each-append (λ e. Q e.by) (of t V) (serial C V)
    (each-passes (λ e. Q e.by) (is_by t) V (each-all (λ e mine. subst Q (sym (eqb-true e.by t mine)) head) V))
    (serial-each Q C V (λ u inside. all u (or_right (t == u) (is_among C u) inside)))

-- the committed ones of what is in commit order, with the open ones last
pub serial-left : (C : List ℕ) (V : List Entry) → of_these C (serial C V ++ pending C V) ≡ serial C V
serial-left C V =
    filter-append (λ (e : Entry). is_among C e.by) (serial C V) (pending C V)
    ∙ ap (λ W. W ++ of_these C (pending C V)) (filter-all (λ (e : Entry). is_among C e.by) (serial C V) (serial-each (λ t. is_among C t ≡ true) C V (λ t inside. inside)))
    ∙ ap (λ W. serial C V ++ W) (filter-none (λ (e : Entry). is_among C e.by) (pending C V)
    (each-passes (λ e. is_among C e.by ≡ false) (λ e. not (is_among C e.by)) V (each-all (λ e left. not-true (is_among C e.by) left) V)))
    ∙ append-nil (serial C V)

-- the serial order is of the committed ones
pub serial-of_these : (C : List ℕ) (V : List Entry) → serial C (of_these C V) ≡ serial C V
serial-of_these C V = go C (λ t inside. inside)
  where
    go : (D : List ℕ) → ((t : ℕ) → is_among D t ≡ true → is_among C t ≡ true) → serial D (of_these C V) ≡ serial D V
    go [] within = refl
    go (t ∷ D) within =
        let head : is_among C t ≡ true = within t (rw (eq-eqb t t refl) refl) in
        rw (mine-within (λ (e : Entry). is_among C e.by) (is_by t) V (λ e mine. rw (eqb-true e.by t mine) head), go D (λ u inside. within u (or_right (t == u) (is_among D u) inside))) refl

-- it is told by what each transaction did, by whatever names
pub serial-like : (f : ℕ → ℕ) (C : List ℕ) (V W : List Entry) → ((t : ℕ) → is_among C t ≡ true → ops (of (f t) V) ≡ ops (of t W)) → ops (serial (map f C) V) ≡ ops (serial C W)
serial-like f [] V W alike = refl
serial-like f (t ∷ C) V W alike =
    ops-append (of (f t) V) (serial (map f C) V)
    ∙ ap (λ w. w ++ ops (serial (map f C) V)) (alike t (rw (eq-eqb t t refl) refl))
    ∙ ap (λ w. ops (of t W) ++ w) (serial-like f C V W (λ u inside. alike u (or_right (t == u) (is_among C u) inside)))
    ∙ sym (ops-append (of t W) (serial C W))

-- of two lists of transactions
pub serial-two : (C D : List ℕ) (V : List Entry) → ops (serial (C ++ D) V) ≡ ops (serial C V) ++ ops (serial D V)
serial-two C D V = ap ops (flat_map-append (λ t. of t V) C D) ∙ ops-append (serial C V) (serial D V)
