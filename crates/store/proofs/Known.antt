-- The calls that a store knows of its objects' types.
use Rattle.std.proofs.Common.{◌≡◌, ℕ, ◌<◌, true, nat_lt, List, length, map, get_or, Option, Some, None, is_some, slice_get, refl, sym, ap, subst, ◌∙◌, arith}
use Rattle.std.proofs.lemmas.Bool.{true≢false, ltb-true, lt-ltb}
use Rattle.std.proofs.lemmas.List.{length-map}
use Rattle.std.proofs.lemmas.Option.{slice_get_read, slice_get_within}
use Rattle.type_table.proofs.Elements.{found-map}
use Rattle.type_table.specs.Table.{call_of, first_op}
use Rattle.table_checker.specs.Checked.{Checked}
use Rattle.object_calls.specs.Calls.{IsCall, HoldsCalls}
use Rattle.object_calls.specs.declared.call.Call.{Call}
use Rattle.object_calls.specs.declared.call.NamedCall.{NamedCall}
use Rattle.object_trait.specs.Object.{Object, object_of}
use Rattle.serial_order.specs.Replay.{call_at}
use Rattle.store.specs.Whole.{HasCalls}

-- ---- the calls of an object

module _ (types : List Checked) (calls : List (List NamedCall)) (known : HasCalls types calls) (x : ℕ) (o : Object) (there : slice_get (map object_of types) x ≡ Some o) where
  -- some are held for it
  pub calls-inside : true ≡ nat_lt x (length calls)
  calls-inside =
      let low = slice_get_within (map object_of types) x o there in
      let inside : x < length calls = omega (arith, known.as_many, length-map types object_of, low) in
      sym (lt-ltb x (length calls) inside)

  -- which are its type's calls, where a table declares it
  pub its-calls : (now : List (List NamedCall)) (its : List NamedCall) → now ≡ calls → its ≡ get_or now x its → HoldsCalls o.table its
  its-calls now its same found =
      let type = found-map object_of types x o there in
      let here : slice_get now x ≡ Some its = slice_get_read now (length now) x its refl (ltb-true x (length now) (ap (λ cs. nat_lt x (length cs)) same ∙ sym calls-inside)) found in
      subst (λ (p : Object). HoldsCalls p.table its) type.2 (known.each x type.0 its type.1 (ap (λ cs. slice_get cs x) (sym same) ∙ here))

-- ---- how one of them is found

module _ (at : Option Object) (o : Object) (there : at ≡ Some o) where
  -- a call has a name
  pub numbered-there : (call : Call) → IsCall o.table call → call_at at (call_of o.table call.first) ≡ Some call.first
  numbered-there call is = ap (λ a. call_at a (call_of o.table call.first)) there ∙ is.least

  -- and none has a number that isn't found
  pub none-numbered : {A : Type 0} (name : List ℕ) (c : ℕ) (found : Option A) → None ≡ found → ((n : List ℕ) → first_op o.table n ≡ Some c → is_some found ≡ true) → call_at at name ≡ Some c → ⊥
  none-numbered name c found is numbered named =
      let first : first_op o.table name ≡ Some c = sym (ap (λ a. call_at a name) there) ∙ named in
      true≢false (sym (numbered name first) ∙ ap is_some (sym is))
