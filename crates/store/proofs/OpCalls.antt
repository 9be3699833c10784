-- Objects as callers see them, and the calls of their operations.
use Rattle.store_limits.specs.declared.limits.Limits.{Limits}
use Rattle.std.proofs.Common.{◌≡◌, ℕ, ◌≤◌, true, false, nat_lt, List, [], length, map, get_or, Option, Some, None, slice_get, sym, ap, subst, ◌∙◌}
use Rattle.std.proofs.lemmas.Bool.{ltb-true, ltb-false}
use Rattle.std.proofs.lemmas.List.{length-map}
use Rattle.std.specs.Option.{option_map}
use Rattle.std.proofs.lemmas.Option.{slice_get_past, slice_get-map, get_or_from_slice_get}
use Rattle.type_table.specs.Table.{Table, call_of}
use Rattle.type_table.specs.declared.op.Op.{Op}
use Rattle.object_trait.specs.Object.{object_of}
use Rattle.object_trait.specs.Meaning.{Meaning, object}
use Rattle.object_trait.specs.declared.event.Event.{Event}
use Rattle.open_transactions.specs.Transactions.{Row}
use Rattle.store_laws.proofs.Objects.{object-at}
use Rattle.store_laws.specs.Stored.{Stored, objects, types_of}
use Rattle.store_laws.specs.Kept.{keeping, objects_of}
use Rattle.store.proofs.Beginnings.{image-in}
use Rattle.store.proofs.Stored.{shown}

-- the name of an operation's call
pub call-name : (T : Table) (k : ℕ) (op : Op) → slice_get T.ops k ≡ Some op → call_of T k ≡ op.call
call-name T k op is =
    get_or_from_slice_get (map (λ (o : Op). o.call) T.ops) k op.call [] (slice_get-map (λ (o : Op). o.call) T.ops k ∙ ap (option_map (λ (o : Op). o.call)) is)

-- the object of a meaning, as callers see it
pub object-shown : (ms : List Meaning) (rows : List (Option Row)) (H : List Event) (limits : Limits) (forgotten : ℕ) (s : Stored) (x : ℕ) (m : Meaning)
    → shown (keeping ms rows) H limits forgotten ≡ s → slice_get ms x ≡ Some m → slice_get (objects s) x ≡ Some (object m)
object-shown ms rows H limits forgotten s x m same there = subst (λ (z : Stored). slice_get (objects z) x ≡ Some (object m)) same (object-at ms x m there)

module _ {A : Type 0} (meaning : A → Meaning) (items now : List A) (rows : List (Option Row)) (H : List Event) (limits : Limits) (forgotten : ℕ) (s : Stored) (x : ℕ)
    (same : shown (keeping (map meaning items) rows) H limits forgotten ≡ s) (read : now ≡ items) where
  -- what is found at a place is an object of the store
  pub object-found : (a : A) → true ≡ nat_lt x (length now) → a ≡ get_or now x a → slice_get (objects s) x ≡ Some (object (meaning a))
  object-found a inside found =
      object-shown (map meaning items) rows H limits forgotten s x (meaning a) same
      (image-in meaning items now x a read (ltb-true x (length now) (sym inside)) found)

  -- and where nothing is there is none
  pub object-missed : false ≡ nat_lt x (length now) → slice_get (objects s) x ≡ None
  object-missed outside =
      let past : length now ≤ x = ltb-false x (length now) (sym outside) in
      let many : length now ≡ length (objects_of (map meaning items)) =
      ap length read ∙ sym (length-map items meaning) ∙ sym (length-map (map meaning items) (λ (m : Meaning). m.checked)) ∙ sym (length-map (types_of (map meaning items)) object_of) in
      subst (λ (z : Stored). slice_get (objects z) x ≡ None) same (slice_get_past (objects_of (map meaning items)) x (subst (λ n. n ≤ x) many past))

  -- there are as many as callers see
  pub as-many-seen : length now ≡ length (objects s)
  as-many-seen =
      ap length read ∙ sym (length-map items meaning) ∙ sym (length-map (map meaning items) (λ (m : Meaning). m.checked)) ∙ sym (length-map (types_of (map meaning items)) object_of)
      ∙ ap (λ (z : Stored). length (objects z)) same
