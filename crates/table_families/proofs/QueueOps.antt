-- The operations of a semiqueue.
use Rattle.std.proofs.Common.{◌≡◌, ◌≢◌, inl, inr, ℕ, suc, ◌+◌, ◌-◌, ◌<◌, ◌≤◌, false, codes, List, [], ◌∷◌, ◌++◌, length, map, refl, sym, ◌∙◌, arith, length-append}
use Rattle.std.specs.List.{list_any, slice_index_or}
use Rattle.std.specs.Str.{bytes_eq}
use Rattle.std.proofs.lemmas.Bool.{cases_lt, or_from, and_left, and_right}
use Rattle.std.proofs.lemmas.List.{length-map, get_or-map, get_or_append_left, get_or-append_right, get_or_default, append_cancel_left}
use Rattle.std.proofs.lemmas.List.Folds.{list_any_none}
use Rattle.type_table.specs.Op.{is_same_op, has_twin}
use Rattle.type_table.specs.declared.op.Op.{Op}
use Rattle.table_maker.specs.Made.{op_named}
use Rattle.table_families.specs.Elements.{element_at}
use Rattle.table_families.specs.Semiqueue.{enq_op, deq_op}
use Rattle.table_families.proofs.QueueStates.{differ}

-- the operation at a place
abbrev op_at : List Op → ℕ → Op
op_at ops i = slice_index_or ops i (op_named [] [])

-- where each operation differs from those before it, none occurs twice
no_twin-from_places : (ops : List Op) → ((i j : ℕ) → i < j → j < length ops → is_same_op (op_at ops j) (op_at ops i) ≡ false) → has_twin ops ≡ false
no_twin-from_places [] apart = refl
no_twin-from_places (o ∷ ops) apart =
    or_from (list_any (λ other. is_same_op other o) ops) (has_twin ops)
    (list_any_none (λ other. is_same_op other o) ops (λ k d below. rw (get_or_default ops k d (op_named [] []) below) (apart 0 (suc k) (omega arith) (omega (arith, below)))))
    (no_twin-from_places ops (λ i j below inside. apart (suc i) (suc j) (omega (arith, below)) (omega (arith, inside))))

-- enqueues of two elements
enqueues_apart : (a b : List ℕ) → (a ≡ b → ⊥) → is_same_op (enq_op a) (enq_op b) ≡ false
enqueues_apart a b apart = and_left (bytes_eq (enq_op a).call (enq_op b).call) (bytes_eq (enq_op a).reply (enq_op b).reply) (differ (enq_op a).call (enq_op b).call (λ e. apart (append_cancel_left (codes "enq:") a b e)))

-- dequeues of two elements
dequeues_apart : (a b : List ℕ) → (a ≡ b → ⊥) → is_same_op (deq_op a) (deq_op b) ≡ false
dequeues_apart a b apart = and_right (bytes_eq (deq_op a).call (deq_op b).call) (bytes_eq a b) (differ a b apart)

-- no operation occurs twice
pub no_twin-queue : (elements : List (List ℕ)) → ((i j : ℕ) → i < j → j < length elements → element_at elements i ≢ element_at elements j) → has_twin (map enq_op elements ++ map deq_op elements) ≡ false
no_twin-queue elements distinct = no_twin-from_places ops apart
  where
    count : ℕ
    count = length elements

    ops : List Op
    ops = map enq_op elements ++ map deq_op elements

    enqueue : (i : ℕ) → i < count → op_at ops i ≡ enq_op (element_at elements i)
    enqueue i below =
        get_or_append_left (map enq_op elements) (map deq_op elements) (op_named [] []) i (rw length-map below) ∙ get_or-map enq_op elements i [] (op_named [] []) below

    dequeue : (i : ℕ) → count ≤ i → i < count + count → op_at ops i ≡ deq_op (element_at elements (i - count))
    dequeue i above below =
        get_or-append_right (map enq_op elements) (map deq_op elements) count i (op_named [] []) (length-map elements enq_op) above ∙ get_or-map deq_op elements (i - count) [] (op_named [] []) (omega arith)

    apart : (i j : ℕ) → i < j → j < length ops → is_same_op (op_at ops j) (op_at ops i) ≡ false
    apart i j below inside =
        let within : j < count + count = omega (arith, inside, length-append (map enq_op elements) (map deq_op elements), length-map elements enq_op, length-map elements deq_op) in
        elim (cases_lt j count) [
          | inl left ↦ rw (enqueue j left, enqueue i (omega arith)) (enqueues_apart (element_at elements j) (element_at elements i) (λ e. distinct i j below left (sym e)))
          | inr right ↦ elim (cases_lt i count) [
            | inl left ↦ rw (dequeue j right within, enqueue i left) refl
            | inr behind ↦ rw (dequeue j right within, dequeue i behind (omega arith)) (dequeues_apart (element_at elements (j - count)) (element_at elements (i - count)) (λ e. distinct (i - count) (j - count) (omega arith) (omega arith) (sym e)))
          ]
        ]
