-- What the audits of small histories of the purse say.
use Rattle.std.proofs.Common.{◌≡◌, ℕ, zero, suc, List, [], ◌∷◌, Some, None, slice_get, is_some, true, refl, sym, ap, ◌∙◌, arith}
use Rattle.std.proofs.lemmas.Bool.{false≢true}
use Rattle.std.proofs.lemmas.Option.{none-some}
use Rattle.type_table.specs.Table.{Table, next, has_op}
use Rattle.type_table.specs.Run.{run}
use Rattle.number_types.specs.declared.number_op.NumberOp.{NumberOp}
use Rattle.number_types.specs.declared.number_op.NumberOp.TheVariants.{Take, Give, Value}
use Rattle.number_types.specs.Operations.{op_at, number_table, NumberHasTable}
use Rattle.number_types.specs.Examples.{purse}
use Rattle.number_types.proofs.Tables.{next_of_op, has_what_is_there}
use Rattle.number_types.proofs.PurseExamples.{purse_is}
use Rattle.object_trait.specs.declared.event.EventKind.TheVariants as kind
use Rattle.serial_order.specs.Operations.{ops}
use Rattle.serial_order.specs.History.{commits, IsHistory}
use Rattle.serial_order.specs.Serial.{serial_at}
use Rattle.history_judge.specs.Audit.{IsAudit, IsIllegalAt, IsFirstIllegal}
use Rattle.history_judge.specs.Examples.{one_purse, purse_history, early_history, give_any, take_any, purse_value, IsBadFirst}
use Rattle.history_audit.proofs.Examples.{state-at, none-before}

-- what the purse has an operation for
pub has : (k : ℕ) (op : NumberOp) → op_at purse k ≡ Some op → has_op (number_table purse) k ≡ true
has k op is = sym (has_what_is_there purse k purse_is) ∙ ap is_some is

-- what it has none for is bad
pub bad : (k : ℕ) → op_at purse k ≡ None → IsBadFirst (kind.Op k 0 0)
bad k none = record {
  history = (refl, tt);
  event = record { worker = 0; kind = kind.Op k 0 0 };
  there = refl;
  bad = λ may. false≢true (ap is_some (sym none) ∙ (has_what_is_there purse k purse_is ∙ may.1));
}

-- one operation, and those after it
step : (s k t : ℕ) (ks : List ℕ) → next (number_table purse) s k ≡ Some t → run (number_table purse) (Some s) (k ∷ ks) ≡ run (number_table purse) (Some t) ks
step s k t ks leads = ap (λ o. run (number_table purse) o ks) leads

-- 0, 1, 8, 6, 6 and 3
along : NumberHasTable → run (number_table purse) (Some 0) (give_any 1 ∷ give_any 7 ∷ take_any 2 ∷ purse_value 6 ∷ 0 ∷ []) ≡ Some 3
along tables =
    step 0 (give_any 1) 1 (give_any 7 ∷ take_any 2 ∷ purse_value 6 ∷ 0 ∷ []) (next_of_op tables purse 0 (give_any 1) (Give 1) purse_is refl)
    ∙ (step 1 (give_any 7) 8 (take_any 2 ∷ purse_value 6 ∷ 0 ∷ []) (next_of_op tables purse 1 (give_any 7) (Give 7) purse_is refl)
    ∙ (step 8 (take_any 2) 6 (purse_value 6 ∷ 0 ∷ []) (next_of_op tables purse 8 (take_any 2) (Take 2) purse_is refl)
    ∙ (step 6 (purse_value 6) 6 (0 ∷ []) (next_of_op tables purse 6 (purse_value 6) (Value 6) purse_is refl)
    ∙ step 6 0 3 [] (next_of_op tables purse 6 0 (Take 3) purse_is refl))))

purse-states : NumberHasTable → (x : ℕ) (T : Table) (s : ℕ) → slice_get one_purse x ≡ Some T → slice_get (3 ∷ []) x ≡ Some s
    → run T (Some T.initial) (ops (serial_at x purse_history)) ≡ Some s
purse-states tables zero T s table at = state-at purse_history 0 (number_table purse) T 3 s (along tables) table at
purse-states tables (suc x) T s table at = absurd (none-some T table)

pub purse-audit : NumberHasTable → IsAudit one_purse purse_history (1 ∷ 0 ∷ 2 ∷ []) (3 ∷ [])
purse-audit tables = record { order_is = refl; leads = record { as_many = refl; states = purse-states tables } }

pub purse-is_history : IsHistory one_purse purse_history
purse-is_history = (
  refl,
  (
    (refl, has (give_any 7) (Give 7) refl),
    (
      refl,
      (
        (refl, has (give_any 1) (Give 1) refl),
        (
          (refl, has (take_any 2) (Take 2) refl),
          (
            refl,
            (
              refl,
              (refl, ((refl, has (purse_value 6) (Value 6) refl), ((refl, has 0 (Take 3) refl), (refl, tt)))),
            ),
          ),
        ),
      ),
    ),
  ),
)

pub early-is_history : IsHistory one_purse early_history
early-is_history = (refl, ((refl, has (give_any 5) (Give 5) refl), (refl, ((refl, has (take_any 4) (Take 4) refl), (refl, (refl, tt))))))

-- the transaction that commits first takes 4 of 0
early-illegal : NumberHasTable → IsIllegalAt one_purse early_history (commits early_history) 0 0 0
early-illegal tables = record {
  t = 1;
  table = number_table purse;
  transaction = refl;
  object = refl;
  there = omega arith;
  illegal = next_of_op tables purse 0 (take_any 4) (Take 4) purse_is refl;
}

pub early-first : NumberHasTable → IsFirstIllegal one_purse early_history (commits early_history) 0 0 0
early-first tables = record { illegal = early-illegal tables; first = λ k y l before wrong. none-before k y l before }
