-- One more operation of a transaction: what was run before it, and it.
use Rattle.std.proofs.Common.{◌≡◌, ℕ, zero, suc, ◌+◌, ◌<◌, ◌≤◌, true, false, ◌==◌, nat_le, List, [], ◌∷◌, ◌++◌, length, map, take, set, get_or, IfSome, Option, Some, None, slice_get, refl, sym, ap, subst, ◌∙◌, inl, inr, arith}
use Rattle.std.specs.List.{AllByRecursion}
use Rattle.std.specs.Option.{option_map}
use Rattle.std.proofs.lemmas.List.{length-map}
use Rattle.std.proofs.lemmas.Bool.{cases_Bool, eqb-true, false≢true}
use Rattle.std.proofs.lemmas.Bool.Decides.{nat_tests}
use Rattle.std.proofs.lemmas.Option.{none-some, same_Some, slice_get_within, slice_get_read, slice_get-map}
use Rattle.type_table.specs.Table.{Table, next}
use Rattle.type_table.specs.Run.{run, next_of}
use Rattle.type_table.specs.Laws.{RunsAlong}
use Rattle.type_table.proofs.Elements.{each-found, found-set, found-set_other, take-found}
use Rattle.declared_types.proofs.TableOps.{op_below}
use Rattle.serial_order.specs.History.{IsOperation}
use Rattle.history_judge.specs.declared.executed.Executed.{Executed}
use Rattle.history_judge.specs.Replay.{ops_at, AreOperations, AreStates, next_by, next_at, is_stopped_at, with_state, stop_by, states_after, stop_after, StopsReplayAt, AreReplayed}
use Rattle.history_judge.specs.SerialRun.{AreInitial}
use Rattle.history_judge.specs.declared.replay.Stop.{Stop}
use Rattle.history_judge.proofs.Lists.{apart, found, ops_at-here, ops_at-apart}

-- ---- where it stops

-- where it stops at one object and not at another, they are two
two_objects : (stop : Option Stop) (a b : ℕ) → is_stopped_at stop a ≡ true → is_stopped_at stop b ≡ false → (a == b) ≡ false
two_objects stop a b stops goes =
    elim (cases_Bool (a == b)) [
      | inl is ↦ let P : ℕ → Type 0 = λ c. is_stopped_at stop c ≡ true in absurd (false≢true (sym goes ∙ subst P (eqb-true a b is) stops))
      | inr other ↦ other
    ]

-- where it doesn't stop at an object, it doesn't at a lower one
lower : (stop : Option Stop) (a b : ℕ) → is_stopped_at stop a ≡ false → nat_le a b ≡ false → is_stopped_at stop b ≡ false
lower None a b goes less = refl
lower (Some q) a b goes less = grind (arith, nat_tests, goes, less)

above : (a b : ℕ) → nat_le a b ≡ false → (a == b) ≡ false
above a b less = grind (arith, nat_tests, less)

-- the table of an operation's object
table-of : (table : Option Table) (k : ℕ) → IsOperation table k → (T : Table) × (table ≡ Some T)
table-of None k there = absurd there
table-of (Some T) k there = (T, refl)

-- it has the operation
pub operation-below : (table : Option Table) (T : Table) (k : ℕ) → table ≡ Some T → IsOperation table k → k < length T.ops
operation-below table T k is there = op_below T k (subst (λ t. IsOperation t k) is there)

-- there are as many types as tables
object-below : {A : Type 0} (table : A → Table) (types : List A) (x k : ℕ) → IsOperation (slice_get (map table types) x) k → x < length types
object-below table types x k there =
    let (T, at) = table-of (slice_get (map table types) x) k there in
    let inside = slice_get_within (map table types) x T at in
    omega (arith, inside, length-map types table)

pub table-read : {A : Type 0} (table : A → Table) (types : List A) (x k : ℕ) (a : A) → IsOperation (slice_get (map table types) x) k → a ≡ get_or types x a
    → slice_get (map table types) x ≡ Some (table a)
table-read table types x k a there is =
    slice_get-map table types x ∙ ap (option_map table) (slice_get_read types (length types) x a refl (object-below table types x k there) is)

pub state-below : {A : Type 0} (table : A → Table) (types : List A) (states : List ℕ) (x k : ℕ) → AreStates (map table types) states → IsOperation (slice_get (map table types) x) k
    → x < length states
state-below table types states x k ready there =
    let many = ready.as_many in
    let below = object-below table types x k there in
    omega (arith, many, below, length-map types table)

-- ---- runs

-- one more operation, from where the run came
run-more : RunsAlong → (T : Table) (s e k : ℕ) (w : List ℕ) → run T (Some s) w ≡ Some e → run T (Some s) (w ++ k ∷ []) ≡ next T e k
run-more along T s e k w reached = along T (Some s) w (k ∷ []) ∙ ap (λ from. next_of T from k) reached

-- the next state at an object, where its table and its state are these
pub next-there : (table : Option Table) (state : Option ℕ) (T : Table) (s k : ℕ) → table ≡ Some T → state ≡ Some s → next_by table state k ≡ next T s k
next-there table state T s k is at = ap (λ t. next_by t state k) is ∙ ap (λ a. next_by (Some T) a k) at

-- ---- one more operation

module _ (along : RunsAlong) (tables : List Table) (old : List ℕ) (its : List Executed) (n : ℕ) (states : List ℕ) (stop : Option Stop) (o : Executed)
    (begun : AreStates tables old) (ready : AreStates tables states) (there : IsOperation (slice_get tables o.x) o.k) (at : slice_get its n ≡ Some o)
    (known : AreReplayed tables old its n states stop) where
  -- it adds nothing at another object
  ops-apart : (x : ℕ) → (o.x == x) ≡ false → ops_at x (take (n + 1) its) ≡ ops_at x (take n its)
  ops-apart x other = ap (ops_at x) (take-found its n o at) ∙ ops_at-apart x (take n its) o other

  ops-here : (x : ℕ) → (o.x == x) ≡ true → ops_at x (take (n + 1) its) ≡ ops_at x (take n its) ++ o.k ∷ []
  ops-here x is = ap (ops_at x) (take-found its n o at) ∙ ops_at-here x (take n its) o is

  -- the run at its object comes to the state there, and goes on with it
  run-here : (x : ℕ) (T : Table) (s e : ℕ) → slice_get tables x ≡ Some T → slice_get old x ≡ Some s → is_stopped_at stop x ≡ false → slice_get states x ≡ Some e
      → run T (Some s) (ops_at x (take n its) ++ o.k ∷ []) ≡ next T e o.k
  run-here x T s e table from goes now = run-more along T s e o.k (ops_at x (take n its)) (known.states_are x T s table from goes ∙ now)

  -- it stopped at this object or below it
  passed : is_stopped_at stop o.x ≡ true → AreReplayed tables old its (n + 1) states stop
  passed stops = record {
    states_are = λ x T s table from goes. ap (run T (Some s)) (ops-apart x (two_objects stop o.x x stops goes)) ∙ known.states_are x T s table from goes;
    stopped = known.stopped;
  }

  -- it is legal
  legal : (e : ℕ) → is_stopped_at stop o.x ≡ false → next_at tables states o ≡ Some e → AreReplayed tables old its (n + 1) (set states o.x e) stop
  legal e going moves = record { states_are = states_are; stopped = known.stopped }
    where
      states_are : (x : ℕ) (T : Table) (s : ℕ) → slice_get tables x ≡ Some T → slice_get old x ≡ Some s → is_stopped_at stop x ≡ false
          → run T (Some s) (ops_at x (take (n + 1) its)) ≡ slice_get (set states o.x e) x
      states_are x T s table from goes =
          elim (cases_Bool (o.x == x)) [
            | inl is ↦
                let same = eqb-true o.x x is in
                let (now, here) = found tables states x T ready.as_many table in
                let P : ℕ → Type 0 = λ y. next_by (slice_get tables y) (slice_get states y) o.k ≡ Some e in
                let Q : ℕ → Type 0 = λ y. slice_get (set states y e) x ≡ Some e in
                let step = subst P same moves in
                ap (run T (Some s)) (ops-here x is)
                ∙ run-here x T s now table from goes here
                ∙ sym (next-there (slice_get tables x) (slice_get states x) T now o.k table here)
                ∙ step
                ∙ sym (subst Q (sym same) (found-set states x e (slice_get_within states x now here)))
            | inr other ↦
                ap (run T (Some s)) (ops-apart x other) ∙ known.states_are x T s table from goes
                ∙ sym (found-set_other states o.x x e (λ same. apart o.x x other (sym same)))
          ]

  -- it isn't legal
  illegal : is_stopped_at stop o.x ≡ false → next_at tables states o ≡ None → StopsReplayAt tables old its (record { object = o.x; place = n })
  illegal going moves =
      let (T, table) = table-of (slice_get tables o.x) o.k there in
      let (s, from) = found tables old o.x T begun.as_many table in
      let (now, here) = found tables states o.x T ready.as_many table in
      record {
        table = T;
        from = s;
        operation = o;
        object = table;
        state = from;
        there = at;
        at = refl;
        legal = rw (known.states_are o.x T s table from going ∙ here) refl;
        illegal = run-here o.x T s now table from going here ∙ sym (next-there (slice_get tables o.x) (slice_get states o.x) T now o.k table here) ∙ moves;
      }

  stops : is_stopped_at stop o.x ≡ false → next_at tables states o ≡ None → AreReplayed tables old its (n + 1) states (Some (record { object = o.x; place = n }))
  stops going moves = record {
    states_are = λ x T s table from goes.
        ap (run T (Some s)) (ops-apart x (above o.x x goes)) ∙ known.states_are x T s table from (lower stop o.x x going goes);
    stopped = λ q is. let P : Stop → Type 0 = λ r. StopsReplayAt tables old its r in subst P (same_Some _ q is) (illegal going moves);
  }

  by_next : (next : Option ℕ) → is_stopped_at stop o.x ≡ false → next_at tables states o ≡ next → AreReplayed tables old its (n + 1) (with_state states o.x next) (stop_by stop n o.x next)
  by_next None going moves = stops going moves
  by_next (Some e) going moves = legal e going moves

  pub replayed-more : AreReplayed tables old its (n + 1) (states_after tables states stop o) (stop_after tables states stop n o)
  replayed-more =
      elim (cases_Bool (is_stopped_at stop o.x)) [
        | inl is ↦ rw is (passed is)
        | inr going ↦ rw going (by_next (next_at tables states o) going refl)
      ]

-- before the first operation
pub replayed-none : (tables : List Table) (old : List ℕ) (its : List Executed) → AreReplayed tables old its 0 old None
replayed-none tables old its = record {
  states_are = λ x T s table from goes. sym from;
  stopped = λ q is. absurd (none-some q is);
}

-- ---- the operation at a place

pub there-at : (tables : List Table) (its : List Executed) (n : ℕ) (o : Executed) → AreOperations tables its → slice_get its n ≡ Some o → IsOperation (slice_get tables o.x) o.k
there-at tables its n o there at = each-found (λ (o : Executed). IsOperation (slice_get tables o.x) o.k) its n o there at

pub replayed-at : RunsAlong → (tables : List Table) (old : List ℕ) (its : List Executed) (n : ℕ) (o : Executed) (states : List ℕ) (stop : Option Stop)
    → AreStates tables old → AreStates tables states → AreOperations tables its → slice_get its n ≡ Some o → AreReplayed tables old its n states stop
    → AreReplayed tables old its (n + 1) (states_after tables states stop o) (stop_after tables states stop n o)
replayed-at along tables old its n o states stop begun ready there at known = replayed-more along tables old its n states stop o begun ready (there-at tables its n o there at) at known

-- ---- all of them

pub stopped-within : (tables : List Table) (old : List ℕ) (its : List Executed) (n : ℕ) (states : List ℕ) (stop : Option Stop)
    → AreReplayed tables old its n states stop → IfSome stop (λ q. q.place ≤ length its)
stopped-within tables old its n states None known = tt
stopped-within tables old its n states (Some q) known =
    let is = known.stopped q refl in
    let inside = slice_get_within its q.place is.operation is.there in
    omega (arith, inside)

-- the initial states
initial-at : {A : Type 0} (table : A → Table) (xs : List A) (x : ℕ) (T : Table) (s : ℕ) → AllByRecursion (λ a. (table a).initial < (table a).states) xs
    → slice_get (map table xs) x ≡ Some T → slice_get (map (λ a. (table a).initial) xs) x ≡ Some s → (s ≡ T.initial) × (T.initial < T.states)
initial-at table [] x T s each is at = absurd (none-some T is)
initial-at table (a ∷ xs) zero T s each is at =
    let same = same_Some (table a) T is in
    let P : Table → Type 0 = λ t. t.initial < t.states in
    (sym (same_Some (table a).initial s at) ∙ ap (λ (t : Table). t.initial) same, subst P same each.0)
initial-at table (a ∷ xs) (suc x) T s each is at = initial-at table xs x T s each.1 is at

pub initial-all : {A : Type 0} (table : A → Table) (xs : List A) (states : List ℕ) → states ≡ map (λ a. (table a).initial) xs
    → AllByRecursion (λ a. (table a).initial < (table a).states) xs → AreInitial (map table xs) states
initial-all table xs states are each = record {
  ready = record {
    as_many = ap length are ∙ length-map xs (λ a. (table a).initial) ∙ sym (length-map xs table);
    inside = λ x T s is at.
        let known = initial-at table xs x T s each is (sym (ap (λ l. slice_get l x) are) ∙ at) in
        rw (known.0) (known.1);
  };
  initial = λ x T s is at. (initial-at table xs x T s each is (sym (ap (λ l. slice_get l x) are) ∙ at)).0;
}
