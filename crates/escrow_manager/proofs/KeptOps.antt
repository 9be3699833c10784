-- The operations of a number's calls, by place and amount: which there are, and from where they are legal.
use Rattle.std.proofs.Common.{◌≡◌, ℕ, ◌+◌, ◌-◌, ◌/◌, ◌%◌, ◌<◌, ◌≤◌, ◌⊎◌, true, leb, cond, List, [], ◌∷◌, length, Option, Some, None, refl, sym, ap, subst, ◌∙◌, inl, inr, arith}
use Rattle.std.specs.Prelude.{slice_get, option_and_then}
use Rattle.std.specs.List.{list_any}
use Rattle.std.proofs.lemmas.Bool.{cases_Bool, and_from, and_parts, le-leb, leb-true}
use Rattle.std.proofs.lemmas.List.FromFn.{length-map-range_with_len}
use Rattle.type_table.specs.Operation.{operation_at, place-of-operation, amount-of-operation}
use Rattle.type_table.specs.Table.{next}
use Rattle.type_table.specs.Run.{IsLegal}
use Rattle.type_table.proofs.Legal.{is_there, nothing_legal}
use Rattle.escrow_laws.specs.Bounds.{moved_by, bounds_of}
use Rattle.escrow_laws.specs.declared.bounded.Bounded.{Bounded}
use Rattle.escrow_laws.specs.declared.mark.OpenMark.{OpenMark}
use Rattle.escrow_laws.proofs.Numbers.{within}
use Rattle.escrow_laws.proofs.Runs.{legal-step}
use Rattle.number_types.specs.declared.number_call.NumberCall.{NumberCall}
use Rattle.number_types.specs.declared.number_call.NumberCall.TheVariants as calls
use Rattle.number_types.specs.declared.number_op.NumberOp.{NumberOp}
use Rattle.number_types.specs.declared.number_op.NumberOp.TheVariants as ops
use Rattle.number_types.specs.Calls.{is_amount}
use Rattle.number_types.specs.Number.{Number, IsNumber}
use Rattle.number_types.specs.Operations.{where_so, is_elsewhere, op_in, op_at, op_bounds, op_done, op_count, names_or_none, bounds_or_none, number_bounds, number_table, NumberHasTable, NumberTellsBounds}
use Rattle.number_types.proofs.Tables.{found_by, bounds_at_number, next_of_none}
use Rattle.declared_types.specs.Declarations.{number_file}
use Rattle.object_trait.specs.Meaning.{Meaning, view_of}
use Rattle.object_trait.specs.Steps.{IsLegalFor, IsKeptByAmount}
use Rattle.escrow_manager.specs.Numeric.{bounds_in, greatest}
use Rattle.escrow_manager.specs.Kept.{IsKeptInEscrow}
use Rattle.escrow_manager.specs.KeptAmount.{any_call, moving, refusing, lists, HasAmount}
use Rattle.escrow_manager.specs.declared.totals.Totals.{Totals}
use Rattle.escrow_manager.specs.declared.way.Way.{Way}
use Rattle.escrow_manager.specs.declared.way.Way.TheVariants.{Take, Give}

-- ---- of a number

-- an amount's operation is one of the table's
pub inside-ops : (v : Number) (place n : ℕ) → place < 256 → n ≤ v.max → operation_at place (Some n) < length (number_table v).ops
inside-ops v place n low fits =
    let count = length-map-range_with_len (λ p. names_or_none (op_at v p)) 0 (op_count v) in
    omega (arith, count, low, fits)

-- what is done with an amount
done-at : (v : Number) (place n : ℕ) (call : NumberCall) → place < 256 → slice_get v.calls (place / 2) ≡ Some call →
    op_done v (operation_at place (Some n)) ≡ cond (is_elsewhere v (Some n) call) None (op_in v.max (place % 2) (Some n) call)
done-at v place n call low at = rw (place-of-operation place (Some n) low, amount-of-operation place (Some n) low, at) refl

-- at the place after the first one of a line there is that line's other operation
next-place : (place : ℕ) → place % 2 ≡ 0 → ((place + 1) / 2 ≡ place / 2) × ((place + 1) % 2 ≡ 1)
next-place place even = (omega (arith, even), omega (arith, even))

amount-is : (max n : ℕ) → 1 ≤ n → n ≤ max → is_amount max n ≡ true
amount-is max n some most = and_from (leb 1 n) (leb n max) (le-leb 1 n some) (le-leb n max most)

module _ (v : Number) (place : ℕ) (low : place < 256) (even : place % 2 ≡ 0) where
  -- a call of any amount moves one that it has
  pub moving-at : (way : Way) (n : ℕ) → slice_get v.calls (place / 2) ≡ Some (any_call way) → HasAmount v way n → op_done v (operation_at place (Some n)) ≡ Some (moving way n)
  moving-at Take n at has = done-at v place n calls.TakeAny low at ∙ rw (has.2, even, amount-is v.max n has.0 has.1) refl
  moving-at Give n at has = done-at v place n calls.GiveAny low at ∙ rw (has.2, even, amount-is v.max n has.0 has.1) refl

  -- or refuses it
  pub refusing-at : (way : Way) (n : ℕ) → slice_get v.calls (place / 2) ≡ Some (any_call way) → HasAmount v way n → op_done v (operation_at (place + 1) (Some n)) ≡ Some (refusing way n)
  refusing-at Take n at has =
      let next = next-place place even in
      done-at v (place + 1) n calls.TakeAny (omega (arith, low, even)) (ap (slice_get v.calls) next.0 ∙ at) ∙ rw (has.2, next.1, amount-is v.max n has.0 has.1) refl
  refusing-at Give n at has =
      let next = next-place place even in
      done-at v (place + 1) n calls.GiveAny (omega (arith, low, even)) (ap (slice_get v.calls) next.0 ∙ at) ∙ rw (has.2, next.1, amount-is v.max n has.0 has.1) refl

-- what is done has such an amount
has-by : (v : Number) (n second : ℕ) (op : NumberOp) (way : Way) → cond (list_any (lists way n) v.calls) None (option_and_then (λ j. slice_get (moving way j ∷ refusing way j ∷ []) second) (where_so (is_amount v.max n) n)) ≡ Some op → HasAmount v way n
has-by v n second op way done = elim (cases_Bool (list_any (lists way n) v.calls)) [
  | inl listed ↦ absurd (let none = rw listed at done in cc)
  | inr unlisted ↦ elim (cases_Bool (is_amount v.max n)) [
    | inl is ↦ let parts = and_parts (leb 1 n) (leb n v.max) is in (leb-true 1 n parts.0, leb-true n v.max parts.1, unlisted)
    | inr isnt ↦ absurd (let none = rw (unlisted, isnt) at done in cc)
  ]
]

pub has-amount : (v : Number) (place n : ℕ) (way : Way) (op : NumberOp) → place < 256 → slice_get v.calls (place / 2) ≡ Some (any_call way) → op_done v (operation_at place (Some n)) ≡ Some op → HasAmount v way n
has-amount v place n Take op low at done = has-by v n (place % 2) op Take (sym (done-at v place n calls.TakeAny low at) ∙ done)
has-amount v place n Give op low at done = has-by v n (place % 2) op Give (sym (done-at v place n calls.GiveAny low at) ∙ done)

-- ---- other calls

-- a read of the value has one operation for each value
pub value-at : (v : Number) (place n : ℕ) → place < 256 → place % 2 ≡ 0 → slice_get v.calls (place / 2) ≡ Some calls.Value → n ≤ v.max → op_done v (operation_at place (Some n)) ≡ Some (ops.Value n)
value-at v place n low even at most = done-at v place n calls.Value low at ∙ rw (even, le-leb n v.max most) refl

-- and no more
pub value-most : (v : Number) (place n : ℕ) (op : NumberOp) → place < 256 → slice_get v.calls (place / 2) ≡ Some calls.Value → op_done v (operation_at place (Some n)) ≡ Some op → n ≤ v.max
value-most v place n op low at done = elim (cases_Bool (leb n v.max)) [
  | inl is ↦ leb-true n v.max is
  | inr isnt ↦ absurd (let none = rw isnt at (sym (done-at v place n calls.Value low at) ∙ done) in cc)
]

-- they are at the first place
pub value-none : (v : Number) (place n : ℕ) → place < 256 → place % 2 ≡ 0 → slice_get v.calls (place / 2) ≡ Some calls.Value → op_done v (operation_at (place + 1) (Some n)) ≡ None
value-none v place n low even at =
    let next = next-place place even in
    done-at v (place + 1) n calls.Value (omega (arith, low, even)) (ap (slice_get v.calls) next.0 ∙ at) ∙ rw (next.1) (nothing (where_so (leb n v.max) n))
  where
    nothing : (o : Option ℕ) → option_and_then (λ j. slice_get (ops.Value j ∷ []) 1) o ≡ None
    nothing None = refl
    nothing (Some j) = refl

-- where there is no line, no amount has an operation
pub unlined : (v : Number) (place n : ℕ) → place < 256 → slice_get v.calls (place / 2) ≡ None → op_done v (operation_at place (Some n)) ≡ None
unlined v place n low at = rw (place-of-operation place (Some n) low, amount-of-operation place (Some n) low, at) refl

-- a line that lists its amount
abbrev pub ListsAmount : NumberCall → Type 0
ListsAmount call = ((k : ℕ) × (call ≡ calls.Take k)) ⊎ (((k : ℕ) × (call ≡ calls.Give k)) ⊎ ((k : ℕ) × (call ≡ calls.AtLeast k)))

-- there none has one either
pub listed : (v : Number) (place n : ℕ) (call : NumberCall) → ListsAmount call → place < 256 → slice_get v.calls (place / 2) ≡ Some call → op_done v (operation_at place (Some n)) ≡ None
listed v place n call (inl (k, is)) low at = done-at v place n call low at ∙ rw is refl
listed v place n call (inr (inl (k, is))) low at = done-at v place n call low at ∙ rw is refl
listed v place n call (inr (inr (k, is))) low at = done-at v place n call low at ∙ rw is refl

-- where none is done nothing is legal
pub none-legal : NumberHasTable → (v : Number) → IsNumber v → (m : Meaning) → m.checked.file ≡ number_file v → (t k : ℕ) → op_done v k ≡ None → IsLegalFor m t k → ⊥
none-legal tables v known m file t k none legal = by (view_of m t) legal
  where
    by : (o : Option ℕ) → IsLegal m.checked.file.table o (k ∷ []) → ⊥
    by None here = nothing_legal m.checked.file.table (k ∷ []) here
    by (Some s) here =
        let step = legal-step m.checked.file.table s k [] here in
        let stays : next m.checked.file.table s k ≡ None = ap (λ f. next f.table s k) file ∙ next_of_none tables v s k known none in
        let both : Some step.0 ≡ None = sym (step.1) ∙ stays in
        cc

-- so nobody is kept from any amount at such a line
pub none-kept : NumberHasTable → (v : Number) → IsNumber v → (m : Meaning) → m.checked.file ≡ number_file v → (t place u : ℕ) → place < 256 → place % 2 ≡ 0 →
    ((p n : ℕ) → p < 256 → slice_get v.calls (p / 2) ≡ slice_get v.calls (place / 2) → op_done v (operation_at p (Some n)) ≡ None) → (n : ℕ) → IsKeptByAmount m t place u n → ⊥
none-kept tables v known m file t place u low even none n (k, inl same, here, stops) = none-legal tables v known m file t (operation_at place (Some n)) (none place n low refl) (subst (IsLegalFor m t) same here)
none-kept tables v known m file t place u low even none n (k, inr same, here, stops) =
    let next = next-place place even in
    none-legal tables v known m file t (operation_at (place + 1) (Some n)) (none (place + 1) n (omega (arith, low, even)) (ap (slice_get v.calls) next.0)) (subst (IsLegalFor m t) same here)

-- ---- of an object

-- the operation with a number that is legal where s is seen, and its bounds
pub record IsOpAt (m : Meaning) (v : Number) (k s : ℕ) : Type 0 where
  pub op : NumberOp
  pub done : op_done v k ≡ Some op
  pub found : slice_get (bounds_in m.checked) k ≡ Some (op_bounds v.max op)
  pub low : (op_bounds v.max op).low ≤ s
  pub high : s ≤ (op_bounds v.max op).high

module _ {m : Meaning} {marks : List OpenMark} {totals : Totals} (h : IsKeptInEscrow m marks totals) (v : Number) (known : IsNumber v) (file : m.checked.file ≡ number_file v) (tells : NumberTellsBounds) where
  bounds-are : bounds_in m.checked ≡ number_bounds v
  bounds-are = ap (λ f. bounds_of f.table) file ∙ tells v known

  pub greatest-is : greatest m.checked ≡ v.max
  greatest-is = let top : v.max + 1 - 1 ≡ v.max = omega arith in ap (λ f. f.table.states - 1) file ∙ top

  pub found-at : (k : ℕ) (op : NumberOp) → k < length (number_table v).ops → op_done v k ≡ Some op → slice_get (bounds_in m.checked) k ≡ Some (op_bounds v.max op)
  found-at k op below done = ap (λ (B : List Bounded). slice_get B k) bounds-are ∙ bounds_at_number v k below ∙ ap (λ o. Some (bounds_or_none v.max o)) done

  pub legal-op : (t k s : ℕ) → view_of m t ≡ Some s → IsLegalFor m t k → IsOpAt m v k s
  legal-op t k s sees legal = by (slice_get (bounds_in m.checked) k) refl
    where
      leads : (e : ℕ) × (next m.checked.file.table s k ≡ Some e)
      leads = let step = legal-step m.checked.file.table s k [] (subst (λ x. IsLegal m.checked.file.table x (k ∷ [])) sees legal) in (step.0, step.1)

      done-by : (b : Bounded) → slice_get (bounds_in m.checked) k ≡ Some b → b.low ≤ s → s ≤ b.high → (o : Option NumberOp) → op_done v k ≡ o → bounds_or_none v.max o ≡ b → IsOpAt m v k s
      done-by b at low high None done is =
          let least = ap (λ (x : Bounded). x.low) is in
          let most = ap (λ (x : Bounded). x.high) is in
          absurd (omega (arith, low, high, least, most))
      done-by b at low high (Some op) done is = record {
        op = op;
        done = done;
        found = at ∙ ap (λ (x : Bounded). Some x) (sym is);
        low = subst (λ (x : Bounded). x.low ≤ s) (sym is) low;
        high = subst (λ (x : Bounded). s ≤ x.high) (sym is) high;
      }

      by : (o : Option Bounded) → slice_get (bounds_in m.checked) k ≡ o → IsOpAt m v k s
      by None at =
          let none : next m.checked.file.table s k ≡ None = h.numeric.bounds.steps s k ∙ ap (λ o. moved_by o s) at in
          absurd (let both = sym none ∙ leads.1 in cc)
      by (Some b) at =
          let moves : moved_by (Some b) s ≡ Some leads.0 = sym (h.numeric.bounds.steps s k ∙ ap (λ o. moved_by o s) at) ∙ leads.1 in
          let between = within b s (is_there (moved_by (Some b) s) leads.0 moves) in
          let here = found_by (λ p. bounds_or_none v.max (op_done v p)) (op_count v) k b (sym (ap (λ (B : List Bounded). slice_get B k) bounds-are) ∙ at) in
          done-by b at between.0 between.1 (op_done v k) refl here.1
