-- Which call an answer without a reply tells of.
use Rattle.std.proofs.Common.{◌≡◌, ℕ, ◌+◌, ◌%◌, ◌<◌, ◌≤◌, ◌⊎◌, true, [], length, Option, Some, None, IfSome, is_some, refl, sym, ap, subst, ◌∙◌, inl, inr, arith}
use Rattle.std.proofs.lemmas.Bool.{false≢true, cases_eq}
use Rattle.std.specs.Prelude.{slice_get}
use Rattle.std.proofs.lemmas.List.{get_or-map}
use Rattle.std.proofs.lemmas.Option.{get_or_from_slice_get, slice_get_within}
use Rattle.type_table.specs.Limits.{most_ops}
use Rattle.type_table.specs.Operation.{operation_at, place_of, amount_of, operation-again}
use Rattle.type_table.specs.Table.{Table, call_of, first_op, has_op, is_same_call}
use Rattle.type_table.specs.declared.op.Op.{Op}
use Rattle.number_types.specs.Called.{IsOneLegal, NumbersAnswer}
use Rattle.number_types.specs.Number.{Number, IsNumber}
use Rattle.number_types.specs.Operations.{number_table, NumberHasTable}
use Rattle.number_types.proofs.FirstNamed.{first_named}
use Rattle.number_types.proofs.FirstOfLine.{IsAtLine, IsFirstWith, first_even, legal_at_line, first_with}
use Rattle.declared_types.proofs.TableOps.{op_below}
use Rattle.object_trait.specs.Meaning.{Meaning, view_of}
use Rattle.object_trait.specs.Steps.{IsLegalFor, TellsKept, stopper}
use Rattle.object_calls.specs.Answers.{busy_answer, answer_of}
use Rattle.object_calls.proofs.LookUps.{legal_at}
use Rattle.object_calls.proofs.OneAnswer.{reply_or_busy, one_answer}

-- the name of the call of an operation
pub name_there : (T : Table) (k : ℕ) (op : Op) → slice_get T.ops k ≡ Some op → call_of T k ≡ op.call
name_there T k op at =
    get_or-map (λ (o : Op). o.call) T.ops k op [] (slice_get_within T.ops k op at) ∙ ap (λ (o : Op). o.call) (get_or_from_slice_get T.ops k op op at)

-- c is the first operation of its call
abbrev pub IsFirstOp : Table → ℕ → Type 0
IsFirstOp T c = first_op T (call_of T c) ≡ Some c

-- what is promised of what is found
abbrev pub IsFound : Meaning → ℕ → ℕ → Option ℕ → Option ℕ → Type 0
IsFound m t place holder result =
    (d : ℕ) → IsFirstOp m.checked.file.table d → place_of d ≡ place → answer_of m t d ≡ busy_answer holder
    → (c : ℕ) × (result ≡ Some c) × IsFirstOp m.checked.file.table c × (answer_of m t c ≡ busy_answer holder)

-- ---- of a table

-- an operation of a table is told by its place
pub at_place : (T : Table) (d place : ℕ) → length T.ops ≤ most_ops → IsFirstOp T d → place_of d ≡ place → place ≡ d
at_place T d place few first placed = omega (arith, placed, few, op_below T d (first_named T (call_of T d) d first).1)

-- ---- of a number

-- who is waited for
busy_by : (k u : ℕ) (who : Option ℕ) → reply_or_busy k who ≡ busy_answer (Some u) → who ≡ Some u
busy_by k u None is = cc
busy_by k u (Some w) is = let same : w ≡ u = cc in ap Some same

-- `None` is no answer of a call of which an operation is legal
not_none : (k : ℕ) (who : Option ℕ) → reply_or_busy k who ≡ busy_answer None → ⊥
not_none k None is = cc
not_none k (Some u) is = cc

module _ (tables : NumberHasTable) (law : NumbersAnswer) (m : Meaning) (t : ℕ) (v : Number) (known : IsNumber v) (is : m.checked.file.table ≡ number_table v)
    (seen : ℕ) (sees : view_of m t ≡ Some seen) (inside : seen < m.checked.file.table.states) where
  -- one operation of a call is legal for t, and by it the call is answered
  one_legal : (c : ℕ) → IsFirstOp m.checked.file.table c → (k : ℕ) × IsOneLegal m.checked.file.table (view_of m t) c k × (answer_of m t c ≡ reply_or_busy k (stopper m t k))
  one_legal c first =
      let named = (first_named m.checked.file.table (call_of m.checked.file.table c) c first).1 in
      let most : seen < v.max + 1 = subst (λ (T : Table). seen < T.states) is inside in
      let of_number = law v known seen c (omega (arith, most)) (subst (λ T. has_op T c ≡ true) is named) in
      let one = subst (λ T. (k : ℕ) × IsOneLegal T (view_of m t) c k) (sym is) (subst (λ from. (k : ℕ) × IsOneLegal (number_table v) from c k) (sym sees) of_number) in
      (one.0, one.1, one_answer m t c one.0 named one.1)

  -- so none is answered that nothing is legal
  pub none_finds : (place : ℕ) (result : Option ℕ) → IsFound m t place None result
  none_finds place result d first placed answers =
      let one = one_legal d first in
      absurd (not_none one.0 (stopper m t one.0) (sym one.2 ∙ answers))

  -- and no first operation is at the second place of a line
  pub odd_finds : (place : ℕ) (holder result : Option ℕ) → (place % 2 ≡ 0 → ⊥) → IsFound m t place holder result
  odd_finds place holder result odd d first placed answers =
      absurd (odd (ap (λ p. p % 2) (sym placed) ∙ first_even v d known (subst (λ T. IsFirstOp T d) is first)))

  module _ (place u : ℕ) (small : place < 256) (even : place % 2 ≡ 0) (kept : Option ℕ) (tells : TellsKept m t place u kept) where
    -- a call that waits for u does so by its legal operation
    waits : (d : ℕ) → IsFirstOp m.checked.file.table d → answer_of m t d ≡ busy_answer (Some u)
        → (k : ℕ) × IsOneLegal m.checked.file.table (view_of m t) d k × IsAtLine d k × (stopper m t k ≡ Some u)
    waits d first answers =
        let one = one_legal d first in
        let k = one.0 in
        let same = subst (λ T. is_same_call T k d ≡ true) is one.1.same in
        let line = legal_at_line tables v seen d k known (subst (λ T. IsFirstOp T d) is first) same (legal_at m t v is seen sees k one.1.legal) in
        (k, one.1, line, busy_by k u (stopper m t k) (sym one.2 ∙ answers))

    -- where it has an amount, u keeps t from one
    amount_kept : (d n : ℕ) → IsFirstOp m.checked.file.table d → place_of d ≡ place → answer_of m t d ≡ busy_answer (Some u) → amount_of d ≡ Some n → is_some kept ≡ true
    amount_kept d n first placed answers told =
        let found = waits d first answers in
        let k = found.0 in
        let line = found.2 in
        let amount = line.amount n told in
        let at = line.line in
        let here : (place_of k ≡ place) ⊎ (place_of k ≡ place + 1) = elim (cases_eq (place_of k) place) [
          | inl same ↦ inl same
          | inr other ↦ inr (omega (arith, at, placed, even, other))
        ] in
        let again : operation_at (place_of k) (Some amount.0) ≡ k = ap (operation_at (place_of k)) (sym amount.1) ∙ operation-again k in
        tells.all amount.0 (
          k,
          elim here [
            | inl same ↦ inl (sym again ∙ ap (λ p. operation_at p (Some amount.0)) same)
            | inr next ↦ inr (sym again ∙ ap (λ p. operation_at p (Some amount.0)) next)
          ],
          found.1.legal,
          found.3,
        )

    -- where u keeps t from none, the call's amount is listed
    pub listed_finds : kept ≡ None → IsFound m t place (Some u) (Some place)
    listed_finds none d first placed answers = go (amount_of d) refl
      where
        go : (told : Option ℕ) → amount_of d ≡ told → (c : ℕ) × (Some place ≡ Some c) × IsFirstOp m.checked.file.table c × (answer_of m t c ≡ busy_answer (Some u))
        go None told = (d, ap Some (sym placed ∙ ap (operation_at (place_of d)) (sym told) ∙ operation-again d), first, answers)
        go (Some n) told = absurd (false≢true (sym (ap is_some none) ∙ amount_kept d n first placed answers told))

    -- and where u keeps t from one, the call of that one waits for u
    module _ (n : ℕ) (kept_is : kept ≡ Some n) (result : Option ℕ) (result_is : result ≡ first_op (number_table v) (call_of (number_table v) (operation_at place (Some n)))) where
      kept_with : (k : ℕ) × IsFirstWith v place n k × IsLegalFor m t k × (stopper m t k ≡ Some u)
      kept_with =
          let at = tells.kept n kept_is in
          (at.0, first_with tables v seen place n at.0 known small even at.1 (legal_at m t v is seen sees at.0 at.2), at.2, at.3)

      pub with_place : IfSome result (λ c. place_of c ≡ place)
      with_place =
          let first = kept_with.1 in
          rw (result_is, first.named) first.place_is

      pub with_finds : IsFound m t place (Some u) result
      with_finds d other placed answers =
          let T = m.checked.file.table in
          let k = kept_with.0 in
          let with = kept_with.1 in
          let c = with.c in
          let first : IsFirstOp T c = subst (λ T. IsFirstOp T c) (sym is) with.first in
          let one = one_legal c first in
          let same : k ≡ one.0 = one.1.only k (subst (λ T. is_same_call T k c ≡ true) (sym is) with.same) kept_with.2 in
          let stopped : stopper m t one.0 ≡ Some u = ap (stopper m t) (sym same) ∙ kept_with.3 in
          (c, result_is ∙ with.named, first, one.2 ∙ ap (reply_or_busy one.0) stopped)
