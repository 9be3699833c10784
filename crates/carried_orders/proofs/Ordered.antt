-- What is merged keeps the orders.
use Rattle.std.proofs.Common.{◌≡◌, ℕ, zero, suc, ◌<◌, ◌≤◌, true, false, ◌==◌, List, [], ◌∷◌, map, filter, length, take, drop, get_or, Option, Some, None, option_map, slice_get, refl, sym, ap, subst, ◌∙◌, inl, inr, arith}
use Rattle.std.specs.List.{AllByRecursion}
use Rattle.std.proofs.lemmas.Bool.{cases_Bool, cases_lt, eqb-true, eq-eqb, false≢true}
use Rattle.std.proofs.lemmas.Bool.Decides.{nat_tests}
use Rattle.std.proofs.lemmas.List.{length-map, length-take-le, take_all}
use Rattle.std.proofs.lemmas.Option.{none-some, slice_get_cases, slice_get-map}
use Rattle.type_table.proofs.Elements.{each-weaker, filter-none, filter-turned}
use Rattle.object_trait.specs.Object.{Object, object_of}
use Rattle.object_trait.specs.Meaning.{Meaning}
use Rattle.object_trait.specs.declared.event.Event.{Event}
use Rattle.serial_order.specs.Operations.{is_among, is_by, at_object, of}
use Rattle.serial_order.specs.History.{surviving, IsOperation}
use Rattle.serial_order.specs.Machine.{IsRun}
use Rattle.serial_order.specs.declared.entry.Entry.{Entry}
use Rattle.serial_order.proofs.Opens.{operations_in_run}
use Rattle.committed_states.specs.Committed.{of_these}
use Rattle.carried_runs.specs.Objects.{objects_meant}
use Rattle.carried_runs.specs.Carried.{AreOpenOnce, IsCarriedOrder}
use Rattle.carried_runs.specs.Laws.{LogsTellCarried}
use Rattle.carried_runs.proofs.InRun.{of-chosen}
use Rattle.carried_runs.proofs.Ordering.{equally-long}
use Rattle.open_transactions.specs.Transactions.{Row, row, objects_of_row}
use Rattle.carried_orders.specs.Merging.{worked_at, IsMerged, HaveRowsOf}
use Rattle.carried_orders.specs.Orders.{MergedKeepsOrders}
use Rattle.carried_orders.proofs.Stepping.{place-of}

-- ---- lists

-- a front that is as long as the list is the list
front-whole : (c : ℕ) (L : List ℕ) → length (take c L) ≡ length L → take c L ≡ L
front-whole c L long =
    elim (cases_lt c (length L)) [
      | inl less ↦ absurd (let few = length-take-le c L (omega (arith, less)) in omega (arith, few, long, less))
      | inr all ↦ take_all c L all
    ]

-- two lists are one that have operations at the same objects, and the same at each
same-list : (A B : List Entry) → worked_at A ≡ worked_at B → ((x : ℕ) → at_object x A ≡ at_object x B) → A ≡ B
same-list [] [] same each = refl
same-list [] (b ∷ B) same each = absurd (let long = ap length same in omega (arith, long))
same-list (a ∷ A) [] same each = absurd (let long = ap length same in omega (arith, long))
same-list (a ∷ A) (b ∷ B) same each =
    let at : a.at ≡ b.at = ap (λ L. get_or L 0 0) same in
    let here : (a.at == a.at) ≡ true = eq-eqb a.at a.at refl in
    let there : (b.at == a.at) ≡ true = eq-eqb b.at a.at (sym at) in
    let both : a ∷ at_object a.at A ≡ b ∷ at_object a.at B = rw (here, there) at (each a.at) in
    let first : a ≡ b = ap (λ L. get_or L 0 a) both in
    let rest : A ≡ B = same-list A B (ap (drop 1) same) (λ x. others at x) in
    ap (λ e. e ∷ A) first ∙ ap (λ L. b ∷ L) rest
  where
    others : a.at ≡ b.at → (x : ℕ) → at_object x A ≡ at_object x B
    others at x =
        elim (cases_Bool (a.at == x)) [
          | inl here ↦
              let there : (b.at == x) ≡ true = ap (λ y. y == x) (sym at) ∙ here in
              let both : a ∷ at_object x A ≡ b ∷ at_object x B = rw (here, there) at (each x) in
              ap (drop 1) both
          | inr other ↦
              let there : (b.at == x) ≡ false = ap (λ y. y == x) (sym at) ∙ other in
              rw (other, there) at (each x)
        ]

-- ---- at each object

-- where no object is, nothing was done
none-there : (ms : List Meaning) (H : List Event) (x : ℕ) → IsRun (objects_meant ms) H → slice_get ms x ≡ None → at_object x (surviving H) ≡ []
none-there ms H x going none =
    filter-none (λ (e : Entry). e.at == x) (surviving H) (each-weaker (λ e operation. elsewhere e operation) (surviving H) (operations_in_run (objects_meant ms) H going))
  where
    no-table : slice_get (map (λ (o : Object). o.table) (objects_meant ms)) x ≡ None
    no-table =
        slice_get-map (λ (o : Object). o.table) (objects_meant ms) x
        ∙ ap (option_map (λ (o : Object). o.table)) (slice_get-map object_of (map (λ (m : Meaning). m.checked) ms) x
        ∙ ap (option_map object_of) (slice_get-map (λ (m : Meaning). m.checked) ms x ∙ ap (option_map (λ (m : Meaning). m.checked)) none))

    elsewhere : (e : Entry) → IsOperation (slice_get (map (λ (o : Object). o.table) (objects_meant ms)) e.at) e.op → (e.at == x) ≡ false
    elsewhere e operation =
        elim (cases_Bool (e.at == x)) [
          | inl here ↦ absurd (rw (eqb-true e.at x here, no-table) at operation)
          | inr other ↦ other
        ]

-- nor is it in the order
none-ordered : (n x : ℕ) (U : List Entry) → n ≤ x → AllByRecursion (λ (e : Entry). e.at < n) U → at_object x U ≡ []
none-ordered n x U past inside = filter-none (λ (e : Entry). e.at == x) U (each-weaker (λ e low. apart e low) U inside)
  where
    apart : (e : Entry) → e.at < n → (e.at == x) ≡ false
    apart e low = grind (arith, nat_tests, low, past)

pub merged_keeps_orders : LogsTellCarried → MergedKeepsOrders
merged_keeps_orders tell = λ ms rows H P U going represent once kept merged.
    let at : IsCarriedOrder P H U = λ x.
    elim ((slice_get_cases ms x).1) [
      | inl found ↦ merged.at_each x found.0 found.2 ∙ tell found.0 x H P (represent x found.0 found.2) once
      | inr past ↦ none-ordered (length ms) x U past.0 merged.inside ∙ sym (ap (of_these P) (none-there ms H x going past.1))
    ] in
    record { at_each = at; of_each = λ t inside. own rows H P U kept at t inside (place-of P t inside) merged.of_each }
  where
    own : (rows : List (Option Row)) (H : List Event) (P : List ℕ) (U : List Entry) → HaveRowsOf rows P H → IsCarriedOrder P H U → (t : ℕ) → is_among P t ≡ true
        → (i : ℕ) × (slice_get P i ≡ Some t)
        → ((i t : ℕ) → slice_get P i ≡ Some t → (c : ℕ) × (worked_at (of t U) ≡ take c (objects_of_row (row rows t)))) → of t U ≡ of t (surviving H)
    own rows H P U kept at t inside place told =
        let each : (x : ℕ) → at_object x (of t U) ≡ at_object x (of t (surviving H)) = λ x.
        filter-turned (λ (e : Entry). e.at == x) (is_by t) U ∙ ap (of t) (at x) ∙ of-chosen P t (at_object x (surviving H)) inside
        ∙ filter-turned (is_by t) (λ (e : Entry). e.at == x) (surviving H) in
        let its = told place.0 t place.1 in
        let front : worked_at (of t U) ≡ take its.0 (worked_at (of t (surviving H))) = its.1 ∙ ap (take its.0) (kept t inside) in
        let long = equally-long (of t U) (of t (surviving H)) each in
        let same : length (take its.0 (worked_at (of t (surviving H)))) ≡ length (worked_at (of t (surviving H))) =
        ap length (sym front) ∙ length-map (of t U) (λ (e : Entry). e.at) ∙ long ∙ sym (length-map (of t (surviving H)) (λ (e : Entry). e.at)) in
        same-list (of t U) (of t (surviving H)) (front ∙ front-whole its.0 (worked_at (of t (surviving H))) same) each
