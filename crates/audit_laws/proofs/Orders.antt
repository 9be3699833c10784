-- Orders that keep what precedes, as an audit tests it and as dynamic atomicity says it.
use Rattle.std.proofs.Common.{◌≡◌, ℕ, zero, suc, true, false, not, ◌==◌, List, [], ◌∷◌, take, Some, slice_get, refl, sym, ap, subst, ◌∙◌, inl, inr}
use Rattle.std.proofs.lemmas.Bool.{cases_Bool, eqb-true, eq-eqb, false≢true, or_parts}
use Rattle.std.proofs.lemmas.Option.{none-some, same_Some}
use Rattle.type_table.specs.Table.{Table}
use Rattle.type_table.specs.Run.{IsLegal}
use Rattle.type_table.proofs.Elements.{each-filter, each-weaker}
use Rattle.object_trait.specs.Object.{Object}
use Rattle.object_trait.specs.declared.event.Event.{Event}
use Rattle.serial_order.specs.Laws.{RunIsHistory}
use Rattle.serial_order.specs.Machine.{IsRun, AreCovered}
use Rattle.serial_order.specs.Operations.{is_among, ops, serial}
use Rattle.serial_order.specs.History.{commits}
use Rattle.serial_order.specs.Serial.{surviving_at}
use Rattle.dynamic_atomicity.specs.Dynamic.{AreOnce, Dated, ComesAfterCommitted, IsOrderOf, KeepsLiving, RunsAreAtomicLiving, comes_first, dated}
use Rattle.history_judge.specs.Audit.{AreLegal}
use Rattle.history_audit.specs.InOrder.{KeepsPrecedes, LegalOrdersPass, Precedes}
use Rattle.history_audit.specs.Laws.{tables_of}
use Rattle.audit_laws.specs.Laws.{KeptOrdersPass, LivingPrecedes}

-- ---- lists of transactions

-- what is one of them is at a place
place-of : (ts : List ℕ) (t : ℕ) → is_among ts t ≡ true → (n : ℕ) × (slice_get ts n ≡ Some t)
place-of [] t is = absurd (false≢true is)
place-of (v ∷ ts) t is =
    elim (cases_Bool (v == t)) [
      | inl same ↦ (0, ap Some (eqb-true v t same))
      | inr other ↦ let (n, at) = place-of ts t (rw other at is) in (suc n, at)
    ]

-- each once
all-once : (ts : List ℕ) → ((n t : ℕ) → slice_get ts n ≡ Some t → is_among (take n ts) t ≡ false) → AreOnce ts
all-once [] once = tt
all-once (t ∷ ts) once = (
  elim (cases_Bool (is_among ts t)) [
    | inl again ↦
        let (n, at) = place-of ts t again in
        absurd (false≢true (sym (once (suc n) t at) ∙ rw (eq-eqb t t refl) refl))
    | inr fresh ↦ fresh
  ],
  all-once ts (λ n u at. (or_parts (t == u) (is_among (take n ts) u) (once (suc n) u at)).1),
)

-- one that is before another one, which isn't before itself, comes first
comes : (ts : List ℕ) (n t u : ℕ) → slice_get ts n ≡ Some u → is_among (take n ts) u ≡ false → is_among (take n ts) t ≡ true → comes_first ts t u ≡ true
comes [] n t u at fresh before = absurd (none-some u at)
comes (v ∷ ts) zero t u at fresh before = absurd (false≢true before)
comes (v ∷ ts) (suc n) t u at fresh before =
    let (apart, rest) = or_parts (v == u) (is_among (take n ts) u) fresh in
    elim (cases_Bool (v == t)) [
      | inl same ↦ rw same (ap not (sym (ap (λ w. w == u) (eqb-true v t same)) ∙ apart))
      | inr other ↦ rw (other, apart) (comes ts n t u at rest (rw other at before))
    ]

module _ (H : List Event) (ts : List ℕ) (kept : KeepsPrecedes H ts) where
  -- it is an order of the committed transactions
  same-members : (t : ℕ) → is_among ts t ≡ is_among (commits H) t
  same-members t =
      elim (cases_Bool (is_among ts t)) [
        | inl is ↦ let (n, at) = place-of ts t is in is ∙ sym (kept.are.each n t at)
        | inr isnt ↦
            elim (cases_Bool (is_among (commits H) t)) [
              | inl committed ↦ absurd (false≢true (sym isnt ∙ kept.all t committed))
              | inr not_committed ↦ isnt ∙ sym not_committed
            ]
      ]

  is-order : IsOrderOf (commits H) ts
  is-order = record { once = all-once ts kept.are.once; same = same-members }

  -- each operation that survives is kept
  kept-dated : LivingPrecedes → (x : ℕ) → KeepsLiving x H ts
  kept-dated living x =
      let P : Dated → Type 0 = λ d. (t : ℕ) → is_among d.after t ≡ true → Precedes H t d.entry.by in
      let kept-one : (d : Dated) → P d → ComesAfterCommitted ts d = λ d precedes there t after.
      let (n, at) = place-of ts d.entry.by there in
      comes ts n t d.entry.by at (kept.are.once n d.entry.by at) (kept.keeps n t d.entry.by at (precedes t after)) in
      each-filter (ComesAfterCommitted ts) (λ d. d.entry.at == x) (dated H) (each-weaker {P = P} {Q = ComesAfterCommitted ts} kept-one (dated H) (living H))

-- the object that has a table
object-at : (objects : List Object) (x : ℕ) (T : Table) → slice_get (tables_of objects) x ≡ Some T → (o : Object) × (slice_get objects x ≡ Some o) × (o.table ≡ T)
object-at [] x T at = absurd (none-some T at)
object-at (o ∷ objects) zero T at = (o, refl, same_Some o.table T at)
object-at (o ∷ objects) (suc x) T at = object-at objects x T at

-- so it is legal at each object
kept-legal : RunsAreAtomicLiving → LivingPrecedes → (objects : List Object) (H : List Event) (ts : List ℕ) → AreCovered objects → IsRun objects H → KeepsPrecedes H ts → AreLegal (tables_of objects) H ts
kept-legal atomic living objects H ts covered run kept x T at =
    let (o, there, is) = object-at objects x T at in
    let P : Table → Type 0 = λ U. IsLegal U (Some U.initial) (ops (serial ts (surviving_at x H))) in
    subst P is (atomic objects H x o run there (covered x o there) ts (is-order H ts kept) (kept-dated H ts kept living x)).legal

pub kept_orders_pass : RunIsHistory → RunsAreAtomicLiving → LegalOrdersPass → LivingPrecedes → KeptOrdersPass
kept_orders_pass histories atomic pass living = λ objects H ts outcome covered run kept said.
    pass (tables_of objects) H ts outcome (histories objects H run) kept (kept-legal atomic living objects H ts covered run kept) said
