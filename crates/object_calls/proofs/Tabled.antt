-- Calls that were collected from all operations of a table.
use Rattle.std.proofs.Common.{◌≡◌, ℕ, ◌+◌, ◌<◌, ◌≤◌, Bool, true, false, ◌&&◌, ◌==◌, cond, ltb, List, [], ◌∷◌, ◌++◌, length, get_or, take, map, Option, Some, None, is_some, refl, sym, ap, subst, ◌∙◌, arith}
use Rattle.std.specs.Prelude.{slice_get}
use Rattle.std.specs.List.{position, position_or_len, find}
use Rattle.std.specs.Option.{option_map}
use Rattle.std.specs.Str.{bytes_eq}
use Rattle.std.proofs.lemmas.Bool.{false≢true, eq-eqb, cond-true}
use Rattle.std.proofs.lemmas.List.{length-map, length-take-le, take_more, get_or-map}
use Rattle.std.proofs.lemmas.List.Folds.{find_at}
use Rattle.std.proofs.lemmas.Option.{none-some, same_Some, slice_get-get_or}
use Rattle.std.proofs.lemmas.Slice.Eq.{bytes_eq-Decides}
use Rattle.type_table.specs.Limits.{most_ops}
use Rattle.type_table.specs.Table.{Table, call_of, first_op}
use Rattle.type_table.specs.declared.op.Op.{Op}
use Rattle.type_table.proofs.Elements.{position-map}
use Rattle.object_calls.specs.declared.call.Call.{Call}
use Rattle.object_calls.specs.declared.call.NamedCall.{NamedCall}
use Rattle.object_calls.specs.Calls.{IsCall, IsCallTable}
use Rattle.object_calls.specs.Collected.{IsCallOf, AreCallsOf}
use Rattle.object_calls.proofs.FirstPlaces.{place_within, place_passes, find-place, find-missing, find-some}

-- the names of the operations' calls
abbrev pub names_of : List Op → List (List ℕ)
names_of ops = map (λ (o : Op). o.call) ops

-- ---- one operation after another

-- before the first
pub none_collected : AreCallsOf [] []
none_collected = record {
  each = λ i n at. cc;
  once = λ i n at. cc;
  all = λ name none. none;
}

-- the operation at k comes next
module _ (ops : List Op) (k : ℕ) (o : Op) (k_in : k < length ops) (read : o ≡ get_or ops k o) where
  -- there are k before it
  pub length-names_before : length (take k (names_of ops)) ≡ k
  length-names_before = length-take-le k (names_of ops) (omega (arith, k_in, length-map ops (λ (o : Op). o.call)))

  -- and with it there is one more
  pub names_with_next : take k (names_of ops) ++ o.call ∷ [] ≡ take (k + 1) (names_of ops)
  names_with_next =
      let next : get_or (names_of ops) k [] ≡ o.call = get_or-map (λ (o : Op). o.call) ops k o [] k_in ∙ ap (λ (o : Op). o.call) (sym read) in
      ap (λ name. take k (names_of ops) ++ name ∷ []) (sym next) ∙ sym (take_more (names_of ops) k [] (omega (arith, k_in, length-map ops (λ (o : Op). o.call))))

-- ---- all operations

-- a call is found where it is found with its name
is_some-call : (o : Option NamedCall) → is_some (option_map (λ n. n.call) o) ≡ is_some o
is_some-call (Some n) = refl
is_some-call None = refl

-- what is found by a name that has a byte is at a place
found_with : (some : Bool) (place : Option ℕ) (k : ℕ) → cond some place None ≡ Some k → place ≡ Some k
found_with true place k is = is
found_with false place k is = absurd (none-some k is)

module _ (T : Table) (few : length T.ops ≤ most_ops) (calls : List NamedCall) (h : AreCallsOf (names_of T.ops) calls) where
  -- the place of the first operation with a name, by the names alone
  first_op-names : (name : List ℕ) → position (λ (o : Op). bytes_eq o.call name) T.ops ≡ position (λ other. bytes_eq other name) (names_of T.ops)
  first_op-names name = sym (position-map (λ other. bytes_eq other name) (λ (o : Op). o.call) T.ops)

  -- what was collected of a call is the table's
  is_call : (n : NamedCall) → IsCallOf (names_of T.ops) n → IsCall T n.call
  is_call n call =
      let names : List (List ℕ) = names_of T.ops in
      let c : ℕ = n.call.first in
      let at : slice_get names c ≡ Some (call_of T c) = slice_get-get_or names c [] (place_within (λ other. bytes_eq other n.name) names c call.first) in
      let name_is : call_of T c ≡ n.name = (bytes_eq-Decides (call_of T c) n.name).0 (place_passes (λ other. bytes_eq other n.name) names c (call_of T c) call.first at) in
      record {
        least = ap (first_op T) name_is ∙ cond-true _ _ _ call.named ∙ first_op-names n.name ∙ call.first;
        operations = λ _ k low.
            call.operations k low ∙ ap (λ m. ltb k m && bytes_eq (call_of T k) n.name) (length-map T.ops (λ (o : Op). o.call))
            ∙ ap (λ name. ltb k (length T.ops) && bytes_eq (call_of T k) name) (sym name_is);
        line = λ many. absurd (omega (arith, few, many));
      }

  -- what a look-up finds
  module _ (p : NamedCall → Bool) where
    -- it is at the first place that passes
    place_found : (n : NamedCall) → find p calls ≡ Some n → slice_get calls (position_or_len p calls) ≡ Some n
    place_found n found = sym (find_at p calls) ∙ found

    -- and it is a call of the table
    found_is : (call : Call) (o : Option NamedCall) → find p calls ≡ o → option_map (λ n. n.call) o ≡ Some call → IsCall T call
    found_is call (Some n) found is = subst (λ x. IsCall T x) (same_Some n.call call is) (is_call n (h.each (position_or_len p calls) n (place_found n found)))
    found_is call None found is = cc

  -- and by a name
  module _ (name : List ℕ) where
    -- it has the name
    name_is : (n : NamedCall) → find (λ m. bytes_eq m.name name) calls ≡ Some n → n.name ≡ name
    name_is n found =
        let p : NamedCall → Bool = λ m. bytes_eq m.name name in
        (bytes_eq-Decides n.name name).0 (place_passes p calls (position_or_len p calls) n (find-place p calls n found) (place_found p n found))

    -- it is numbered by the first operation of the name
    first_found : (n : NamedCall) → find (λ m. bytes_eq m.name name) calls ≡ Some n → Some n.call.first ≡ position (λ (o : Op). bytes_eq o.call name) T.ops
    first_found n found =
        let p : NamedCall → Bool = λ m. bytes_eq m.name name in
        sym ((h.each (position_or_len p calls) n (place_found p n found)).first) ∙ ap (λ x. position (λ other. bytes_eq other x) (names_of T.ops)) (name_is n found) ∙ sym (first_op-names name)

    -- so numbers and first operations are the same, also where there are none
    named_by : (o : Option NamedCall) → find (λ m. bytes_eq m.name name) calls ≡ o → option_map (λ (c : Call). c.first) (option_map (λ n. n.call) o) ≡ position (λ (o : Op). bytes_eq o.call name) T.ops
    named_by (Some n) found = first_found n found
    named_by None none = sym (first_op-names name ∙ h.all name (find-missing (λ m. bytes_eq m.name name) calls none))

    -- no call has a name without a byte
    by_first_op : (some : Bool) (o : Option NamedCall) → ltb 0 (length name) ≡ some → find (λ m. bytes_eq m.name name) calls ≡ o →
        option_map (λ (c : Call). c.first) (option_map (λ n. n.call) o) ≡ cond some (position (λ (o : Op). bytes_eq o.call name) T.ops) None
    by_first_op true o some found = named_by o found
    by_first_op false None some found = refl
    by_first_op false (Some n) some found =
        let p : NamedCall → Bool = λ m. bytes_eq m.name name in
        absurd (false≢true (sym some ∙ ap (λ (w : List ℕ). ltb 0 (length w)) (sym (name_is n found)) ∙ (h.each (position_or_len p calls) n (place_found p n found)).named))

    -- what is found by its name is found by its number
    some_numbered : (c : ℕ) (o : Option NamedCall) → find (λ m. bytes_eq m.name name) calls ≡ o → option_map (λ (x : Call). x.first) (option_map (λ n. n.call) o) ≡ Some c → is_some (find (λ m. m.call.first == c) calls) ≡ true
    some_numbered c (Some n) found is =
        let p : NamedCall → Bool = λ m. bytes_eq m.name name in
        find-some (λ m. m.call.first == c) calls (position_or_len p calls) n (place_found p n found) (eq-eqb n.call.first c (same_Some n.call.first c is))
    some_numbered c None none is = cc

  pub is_call_table : IsCallTable T calls
  is_call_table = record {
    named = λ name. by_first_op name (ltb 0 (length name)) (find (λ m. bytes_eq m.name name) calls) refl refl;
    of_name = λ name call is. found_is (λ m. bytes_eq m.name name) call (find (λ m. bytes_eq m.name name) calls) refl is;
    numbered = λ name c is.
        is_some-call (find (λ m. m.call.first == c) calls)
        ∙ some_numbered name c (find (λ m. bytes_eq m.name name) calls) refl
        (named_by name (find (λ m. bytes_eq m.name name) calls) refl ∙ found_with (ltb 0 (length name)) (position (λ (o : Op). bytes_eq o.call name) T.ops) c is);
    of_number = λ c call is. found_is (λ m. m.call.first == c) call (find (λ m. m.call.first == c) calls) refl is;
  }
