-- Calls that are held by their names.
use Rattle.std.proofs.Common.{◌≡◌, ℕ, ◌≤◌, ◌==◌, inl, inr, Bool, true, All, is_some, List, length, Option, Some, None, refl, sym, ap, subst, ◌∙◌}
use Rattle.type_table.specs.Limits.{most_ops}
use Rattle.std.proofs.lemmas.Bool.{cases_lt, false≢true}
use Rattle.std.specs.Prelude.{slice_get}
use Rattle.std.specs.List.{position_or_len, find}
use Rattle.std.specs.Option.{option_map}
use Rattle.std.specs.Str.{bytes_eq}
use Rattle.std.proofs.lemmas.List.Elements.{All-get_or}
use Rattle.std.proofs.lemmas.List.Folds.{find_at}
use Rattle.std.proofs.lemmas.Option.{none-some, slice_get_within, get_or_from_slice_get}
use Rattle.std.proofs.lemmas.Slice.Eq.{bytes_eq-Decides}
use Rattle.type_table.specs.Table.{Table, first_op}
use Rattle.object_calls.specs.declared.call.Call.{Call}
use Rattle.object_calls.specs.declared.call.NamedCall.{NamedCall}
use Rattle.object_calls.specs.Calls.{HoldsCalls, IsCall, IsNamedCall, by_name, by_number}
use Rattle.object_calls.proofs.FirstPlaces.{find-place, place_passes}

module _ (T : Table) (calls : List NamedCall) (holds : HoldsCalls T calls) where
  -- each call that is found is one of those that are held
  found_is : (p : NamedCall → Bool) (each : All (IsNamedCall T) calls) (n : NamedCall) → find p calls ≡ Some n → (p n ≡ true) × IsNamedCall T n
  found_is p each n found =
      let k = position_or_len p calls in
      let at : slice_get calls k ≡ Some n = sym (find_at p calls) ∙ found in
      (place_passes p calls k n (find-place p calls n found) at, subst (IsNamedCall T) (get_or_from_slice_get calls k n n at) (All-get_or (IsNamedCall T) calls k n (slice_get_within calls k n at) each))

  -- what is taken out of what is found
  taken_out : (o : Option NamedCall) (call : Call) → option_map (λ (n : NamedCall). n.call) o ≡ Some call → (n : NamedCall) × (o ≡ Some n) × (n.call ≡ call)
  taken_out None call is = absurd (none-some call is)
  taken_out (Some n) call is = (n, refl, let same : n.call ≡ call = cc in same)

  -- a call that is found by a name is that of the name
  pub found_by_name : (name : List ℕ) (call : Call) → by_name calls name ≡ Some call → (first_op T name ≡ Some call.first) × IsCall T call
  found_by_name name call is = elim (cases_lt most_ops (length T.ops)) [
    | inl many ↦
        let p : NamedCall → Bool = λ n. bytes_eq n.name name in
        let out = taken_out (find p calls) call is in
        let found = found_is p (holds.some many) out.0 out.1 in
        let same : out.0.name ≡ name = (bytes_eq-Decides out.0.name name).0 found.0 in
        subst (λ (c : Call). (first_op T name ≡ Some c.first) × IsCall T c) out.2 (subst (λ m. first_op T m ≡ Some out.0.call.first) same found.1.named, found.1.call)
    | inr few ↦
        let all = holds.all few in
        (sym (all.named name) ∙ ap (option_map (λ (c : Call). c.first)) is, all.of_name name call is)
  ]

  -- one that is found by a number is one of the type
  pub found_by_number : (c : ℕ) (call : Call) → by_number calls c ≡ Some call → IsCall T call
  found_by_number c call is = elim (cases_lt most_ops (length T.ops)) [
    | inl many ↦
        let p : NamedCall → Bool = λ n. n.call.first == c in
        let out = taken_out (find p calls) call is in
        subst (IsCall T) out.2 (found_is p (holds.some many) out.0 out.1).1.call
    | inr few ↦ (holds.all few).of_number c call is
  ]

  -- where a number isn't found, no call of a table has it
  pub not_numbered : (c : ℕ) (o : Option Call) → o ≡ by_number calls c → ((call : Call) → o ≡ Some call → ⊥) → length T.ops ≤ most_ops → (name : List ℕ) → first_op T name ≡ Some c → ⊥
  not_numbered c None is none few name first = false≢true (ap is_some is ∙ (holds.all few).numbered name c first)
  not_numbered c (Some call) is none few name first = none call refl
