-- What survives is what stays by the events after it.
use Rattle.std.proofs.Common.{◌≡◌, ℕ, zero, suc, ◌+◌, ◌-◌, Bool, true, false, not, cond, ◌&&◌, ◌||◌, ◌==◌, nat_lt, List, [], ◌∷◌, ◌++◌, filter, fold, length, refl, sym, ap, subst, ◌∙◌, inl, inr, arith, append-nil, append_assoc, length-append, zero-add}
use Rattle.std.specs.Prelude.{if◌then◌else◌}
use Rattle.std.proofs.lemmas.Bool.{cases_Bool, cases_lt, or_parts, eqb-true, eq-eqb}
use Rattle.std.proofs.lemmas.Bool.Decides.{nat_tests}
use Rattle.std.proofs.lemmas.List.Elements.{filter-append}
use Rattle.std.proofs.lemmas.List.Folds.{list_any-append}
use Rattle.type_table.proofs.Elements.{eqb-sym}
use Rattle.object_trait.specs.Strike.{keep_first}
use Rattle.object_trait.specs.declared.event.Event.{Event}
use Rattle.object_trait.specs.declared.event.EventKind.{EventKind}
use Rattle.object_trait.specs.declared.event.EventKind.TheVariants as kind
use Rattle.object_trait.specs.declared.event.EventKind.TheVariants.{Begin, Op, Busy, Commit, Abort, Rollback}
use Rattle.serial_order.specs.Operations.{is_among, is_by, of}
use Rattle.serial_order.specs.History.{aborts, aborted_by, survive_after}
use Rattle.serial_order.specs.Readings.{taken_back, stays, survivor_op, survivors}
use Rattle.serial_order.specs.Laws.{SurvivesAsRead}
use Rattle.serial_order.specs.declared.entry.Entry.{Entry}
use Rattle.serial_order.proofs.Strikes.{keep_first-none}
use Rattle.serial_order.proofs.Events.{aborts-snoc}
use Rattle.serial_order.proofs.Lists.{is_among-snoc}
use Rattle.serial_order.proofs.Reach.{op_count, reach, reach-snoc, rolled_back-reach}

-- ---- what stays, by how far back the rollbacks reach

-- an operation stays where its transaction doesn't abort and no rollback reaches back to it
stays-reach : (t : ℕ) (K : List Event) → stays t K ≡ (not (is_among (aborts K) t) && not (nat_lt 0 (reach t K 0)))
stays-reach t K = rw (rolled_back-reach t K) refl

-- and so with one more event
stays-snoc : (t : ℕ) (K : List Event) (e : Event) →
    stays t (K ++ e ∷ []) ≡ (not (is_among (aborts K ++ aborted_by e.kind) t) && not (nat_lt 0 (reach t K ((taken_back t e.kind + 0) - op_count t e.kind))))
stays-snoc t K e = rw (stays-reach t (K ++ e ∷ []), aborts-snoc K e, reach-snoc t K e 0) refl

-- an event that neither aborts nor takes back leaves what stays
stays-same : (t : ℕ) (K : List Event) (e : Event) → aborted_by e.kind ≡ [] → (taken_back t e.kind + 0) - op_count t e.kind ≡ 0 → stays t (K ++ e ∷ []) ≡ stays t K
stays-same t K e none zeroth = rw (stays-snoc t K e, none, zeroth, append-nil (aborts K), stays-reach t K) refl

-- where t doesn't abort, a further rollback of n reaches as much further back as it takes back more operations of t than stay
module _ (t n : ℕ) where
  -- of the operations of another transaction none is of t
  of_other : (u x k : ℕ) (K : List Event) → (u == t) ≡ false → length (of t (survivor_op (Op k u x) K)) ≡ 0
  of_other u x k K other = elim (cases_Bool (stays u K)) [ inl is ↦ simp (is, other) refl | inr isnt ↦ rw isnt refl ]

  -- one of its own counts where it stays
  of_own : (x k : ℕ) (K : List Event) → is_among (aborts K) t ≡ false → length (of t (survivor_op (Op k t x) K)) ≡ cond (not (nat_lt 0 (reach t K 0))) 1 0
  of_own x k K none = rw (stays-reach t K, none) (by_reach (nat_lt 0 (reach t K 0)))
    where
      by_reach : (far : Bool) → length (of t (if not far then (record { by = t; at = x; op = k }) ∷ [] else [])) ≡ cond (not far) 1 0
      by_reach true = refl
      by_reach false = rw (eq-eqb t t refl) refl

  -- with the event in front
  abbrev Further : EventKind → List Event → Type 0
  Further happened K =
      (taken_back t happened + reach t K n) - op_count t happened
      ≡ ((taken_back t happened + reach t K 0) - op_count t happened) + (n - (length (of t (survivor_op happened K)) + length (of t (survivors K))))

  -- an operation of t
  own-step : (x k : ℕ) (K : List Event) → is_among (aborts K) t ≡ false → reach t K n ≡ reach t K 0 + (n - length (of t (survivors K))) → Further (Op k t x) K
  own-step x k K none known = rw (of_own x k K none, eq-eqb t t refl) grind (arith, nat_tests, known)

  -- each event
  reach-step : (happened : EventKind) (K : List Event) → is_among (aborts K) t ≡ false → reach t K n ≡ reach t K 0 + (n - length (of t (survivors K))) → Further happened K
  reach-step (Op k u x) K none known =
      elim (cases_Bool (u == t)) [
        | inl same ↦ subst (λ v. Further (Op k v x) K) (sym (eqb-true u t same)) (own-step x k K none known)
        | inr other ↦ rw (of_other u x k K other, other) grind (arith, known)
      ]
  reach-step (Rollback u m) K none known = grind (arith, known)
  reach-step (Begin u) K none known = grind (arith, known)
  reach-step (Busy c u x v) K none known = grind (arith, known)
  reach-step (kind.None u x c) K none known = grind (arith, known)
  reach-step (Commit u) K none known = grind (arith, known)
  reach-step (Abort u) K none known = grind (arith, known)

  -- so for all events
  reach-further : (K : List Event) → is_among (aborts K) t ≡ false → reach t K n ≡ reach t K 0 + (n - length (of t (survivors K)))
  reach-further [] none = grind arith
  reach-further (e ∷ K) none =
      let rest = (or_parts (is_among (aborted_by e.kind) t) (is_among (aborts K) t) (sym (list_any-append (λ u. u == t) (aborted_by e.kind) (aborts K)) ∙ none)).1 in
      rw (filter-append (is_by t) (survivor_op e.kind K) (survivors K), length-append) (reach-step e.kind K rest (reach-further K rest))

-- ---- what stays with one more event

-- where it leaves what stays, its own operation is one more
module _ (e : Event) (same : (t : ℕ) (K : List Event) → stays t (K ++ e ∷ []) ≡ stays t K) where
  op-same : (happened : EventKind) (K : List Event) → survivor_op happened (K ++ e ∷ []) ≡ survivor_op happened K
  op-same (Op k t x) K = rw (same t K) refl
  op-same (Begin t) K = refl
  op-same (Busy c t x u) K = refl
  op-same (kind.None t x c) K = refl
  op-same (Commit t) K = refl
  op-same (Abort t) K = refl
  op-same (Rollback t n) K = refl

  survivors-same : (H : List Event) → survivors (H ++ e ∷ []) ≡ survivors H ++ survivor_op e.kind []
  survivors-same [] = append-nil (survivor_op e.kind [])
  survivors-same (f ∷ H) = rw (op-same f.kind H, survivors-same H) (sym (append_assoc (survivor_op f.kind H) (survivors H) (survivor_op e.kind [])))

-- after an abort what is of other transactions
op-abort : (w t : ℕ) (happened : EventKind) (K : List Event) →
    survivor_op happened (K ++ (record { worker = w; kind = Abort t }) ∷ []) ≡ filter (λ e. not (is_by t e)) (survivor_op happened K)
op-abort w t (Op k u x) K = rw (stays-snoc u K (record { worker = w; kind = Abort t }), is_among-snoc (aborts K) t u, eqb-sym t u, stays-reach u K)
    (by_tests (is_among (aborts K) u) (nat_lt 0 (reach u K 0)) (u == t) refl)
  where
    by_tests : (aborted far same : Bool) → (u == t) ≡ same →
        (if not (aborted || same) && not far then (record { by = u; at = x; op = k }) ∷ [] else [])
        ≡ filter (λ e. not (is_by t e)) (if not aborted && not far then (record { by = u; at = x; op = k }) ∷ [] else [])
    by_tests true far same is = refl
    by_tests false true true is = refl
    by_tests false true false is = refl
    by_tests false false true is = rw is refl
    by_tests false false false is = rw is refl
op-abort w t (Begin u) K = refl
op-abort w t (Busy c u x v) K = refl
op-abort w t (kind.None u x c) K = refl
op-abort w t (Commit u) K = refl
op-abort w t (Abort u) K = refl
op-abort w t (Rollback u n) K = refl

survivors-abort : (w t : ℕ) (H : List Event) → survivors (H ++ (record { worker = w; kind = Abort t }) ∷ []) ≡ filter (λ e. not (is_by t e)) (survivors H)
survivors-abort w t [] = refl
survivors-abort w t (f ∷ H) =
    rw (op-abort w t f.kind H, survivors-abort w t H) (sym (filter-append (λ e. not (is_by t e)) (survivor_op f.kind H) (survivors H)))

-- ---- a rollback

-- what the first m of mine are where the first element is mine
abbrev first_mine : ℕ → ℕ → Entry → List Entry → List Entry
first_mine t zero e V = keep_first (is_by t) zero V
first_mine t (suc m) e V = e ∷ keep_first (is_by t) m V

keep_mine : (t m : ℕ) (e : Entry) (V : List Entry) → is_by t e ≡ true → keep_first (is_by t) m (e ∷ V) ≡ first_mine t m e V
keep_mine t zero e V mine = rw mine refl
keep_mine t (suc m) e V mine = rw mine refl

-- of one of mine and later ones, all but the last n of mine: it is left where n are after it
last_mine : (t n : ℕ) (e : Entry) (V : List Entry) → is_by t e ≡ true →
    (if not (nat_lt 0 (n - length (of t V))) then e ∷ [] else []) ++ keep_first (is_by t) (length (of t V) - n) V ≡ keep_first (is_by t) (length (of t (e ∷ V)) - n) (e ∷ V)
last_mine t n e V mine =
    let count : length (of t (e ∷ V)) ≡ suc (length (of t V)) = rw mine refl in
    rw (count, keep_mine t (suc (length (of t V)) - n) e V mine) (by_place (length (of t V)))
  where
    by_place : (c : ℕ) → (if not (nat_lt 0 (n - c)) then e ∷ [] else []) ++ keep_first (is_by t) (c - n) V ≡ first_mine t (suc c - n) e V
    by_place c =
        elim (cases_lt c n) [
          | inl below ↦
              let reached : nat_lt 0 (n - c) ≡ true = grind (arith, nat_tests) in
              let none : c - n ≡ 0 = omega arith in
              let none_more : suc c - n ≡ 0 = omega arith in
              rw (reached, none, none_more) refl
          | inr above ↦
              let free : nat_lt 0 (n - c) ≡ false = grind (arith, nat_tests) in
              let more : suc c - n ≡ suc (c - n) = omega arith in
              rw (free, more) refl
        ]

-- and of one that isn't mine and later ones
last_other : (t n : ℕ) (e : Entry) (V : List Entry) → is_by t e ≡ false →
    e ∷ keep_first (is_by t) (length (of t V) - n) V ≡ keep_first (is_by t) (length (of t (e ∷ V)) - n) (e ∷ V)
last_other t n e V other = rw other refl

-- after a rollback of n all but the last n of its transaction
abbrev IsRolledBack : ℕ → ℕ → ℕ → EventKind → List Event → Type 0
IsRolledBack w t n happened K =
    survivor_op happened (K ++ (record { worker = w; kind = Rollback t n }) ∷ []) ++ keep_first (is_by t) (length (of t (survivors K)) - n) (survivors K)
    ≡ keep_first (is_by t) (length (of t (survivor_op happened K ++ survivors K)) - n) (survivor_op happened K ++ survivors K)

-- after an operation of another transaction
other-rollback : (w t n u x k : ℕ) (K : List Event) → (u == t) ≡ false → IsRolledBack w t n (Op k u x) K
other-rollback w t n u x k K other =
    let e : Event = record { worker = w; kind = Rollback t n } in
    let none : (taken_back u e.kind + 0) - op_count u e.kind ≡ 0 = rw (eqb-sym t u, other) refl in
    rw (stays-same u K e refl none) (by_stay (stays u K))
  where
    entry : Entry
    entry = record { by = u; at = x; op = k }

    by_stay : (b : Bool) → (if b then entry ∷ [] else []) ++ keep_first (is_by t) (length (of t (survivors K)) - n) (survivors K)
        ≡ keep_first (is_by t) (length (of t ((if b then entry ∷ [] else []) ++ survivors K)) - n) ((if b then entry ∷ [] else []) ++ survivors K)
    by_stay true = last_other t n (record { by = u; at = x; op = k }) (survivors K) other
    by_stay false = refl

-- after one of its own
own-rollback : (w t n x k : ℕ) (K : List Event) → IsRolledBack w t n (Op k t x) K
own-rollback w t n x k K =
    let e : Event = record { worker = w; kind = Rollback t n } in
    let taken : (taken_back t e.kind + 0) - op_count t e.kind ≡ n = rw (eq-eqb t t refl) (omega arith) in
    elim (cases_Bool (is_among (aborts K) t)) [
      | inl gone ↦ rw (stays-snoc t K e, append-nil (aborts K), stays-reach t K, gone) refl
      | inr none ↦ rw (stays-snoc t K e, append-nil (aborts K), stays-reach t K, none, taken, reach-further t n K none) (by_reach (reach t K 0))
    ]
  where
    entry : Entry
    entry = record { by = t; at = x; op = k }

    by_reach : (r : ℕ) → (if not (nat_lt 0 (r + (n - length (of t (survivors K))))) then entry ∷ [] else []) ++ keep_first (is_by t) (length (of t (survivors K)) - n) (survivors K)
        ≡ keep_first (is_by t) (length (of t ((if not (nat_lt 0 r) then entry ∷ [] else []) ++ survivors K)) - n) ((if not (nat_lt 0 r) then entry ∷ [] else []) ++ survivors K)
    by_reach zero = rw zero-add (last_mine t n entry (survivors K) (eq-eqb t t refl))
    by_reach (suc r) =
        let far : nat_lt 0 (suc r + (n - length (of t (survivors K)))) ≡ true = grind (arith, nat_tests) in
        let near : nat_lt 0 (suc r) ≡ true = grind (arith, nat_tests) in
        rw (far, near) refl

-- after each event
op-rollback : (w t n : ℕ) (happened : EventKind) (K : List Event) → IsRolledBack w t n happened K
op-rollback w t n (Op k u x) K =
    elim (cases_Bool (u == t)) [
      | inl same ↦ subst (λ v. IsRolledBack w t n (Op k v x) K) (sym (eqb-true u t same)) (own-rollback w t n x k K)
      | inr other ↦ other-rollback w t n u x k K other
    ]
op-rollback w t n (Begin u) K = refl
op-rollback w t n (Busy c u x v) K = refl
op-rollback w t n (kind.None u x c) K = refl
op-rollback w t n (Commit u) K = refl
op-rollback w t n (Abort u) K = refl
op-rollback w t n (Rollback u m) K = refl

survivors-rollback : (w t n : ℕ) (H : List Event) →
    survivors (H ++ (record { worker = w; kind = Rollback t n }) ∷ []) ≡ keep_first (is_by t) (length (of t (survivors H)) - n) (survivors H)
survivors-rollback w t n [] = refl
survivors-rollback w t n (f ∷ H) = rw (survivors-rollback w t n H) (op-rollback w t n f.kind H)

-- so one more event does to what stays what it does to what survives
one_more : (H : List Event) (w : ℕ) (happened : EventKind) → survivors (H ++ (record { worker = w; kind = happened }) ∷ []) ≡ survive_after (survivors H) happened
one_more H w (Op k t x) = survivors-same (record { worker = w; kind = Op k t x }) (λ u K. stays-same u K (record { worker = w; kind = Op k t x }) refl (grind (arith))) H
one_more H w (Begin t) = survivors-same (record { worker = w; kind = Begin t }) (λ u K. stays-same u K _ refl refl) H ∙ append-nil (survivors H)
one_more H w (Busy c t x u) = survivors-same (record { worker = w; kind = Busy c t x u }) (λ v K. stays-same v K _ refl refl) H ∙ append-nil (survivors H)
one_more H w (kind.None t x c) = survivors-same (record { worker = w; kind = kind.None t x c }) (λ u K. stays-same u K _ refl refl) H ∙ append-nil (survivors H)
one_more H w (Commit t) = survivors-same (record { worker = w; kind = Commit t }) (λ u K. stays-same u K _ refl refl) H ∙ append-nil (survivors H)
one_more H w (Abort t) = survivors-abort w t H ∙ sym (keep_first-none (is_by t) (survivors H))
one_more H w (Rollback t n) = survivors-rollback w t n H

-- and each event from a history on
from_on : (G H : List Event) → fold (λ V e. survive_after V e.kind) (survivors G) H ≡ survivors (G ++ H)
from_on G [] = ap survivors (sym (append-nil G))
from_on G (e ∷ H) =
    ap (λ V. fold (λ V e. survive_after V e.kind) V H) (sym (one_more G e.worker e.kind)) ∙ from_on (G ++ e ∷ []) H ∙ ap survivors (append_assoc G (e ∷ []) H)

-- what survives is what stays by the events after it
pub survives_as_read : SurvivesAsRead
survives_as_read = λ H. from_on [] H
