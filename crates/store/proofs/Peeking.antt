-- What a transaction that only reads is answered.
use Rattle.std.proofs.Common.{◌≡◌, ℕ, Bool, true, false, nat_lt, List, length, Option, Some, None, is_some, Result, Ok, Err, slice_get, refl, sym, ap, ◌∙◌}
use Rattle.std.specs.Option.{option_map}
use Rattle.std.proofs.lemmas.Bool.{and_parts}
use Rattle.std.specs.Prelude.{if◌then◌else◌}
use Rattle.std.specs.List.{position}
use Rattle.std.specs.Str.{bytes_eq}
use Rattle.std.proofs.lemmas.Option.{none-some, slice_get-map}
use Rattle.std.proofs.lemmas.Slice.Eq.{bytes_eq-Decides}
use Rattle.type_table.specs.Table.{Table, next, call_of, has_op, first_op, is_same_call}
use Rattle.type_table.specs.declared.op.Op.{Op}
use Rattle.type_table.proofs.Least.{first_below-passes}
use Rattle.object_trait.specs.Object.{object_of}
use Rattle.object_trait.specs.Meaning.{Meaning, object}
use Rattle.committed_reads.specs.Laws.{StillChangesNothing}
use Rattle.committed_reads.specs.Readers.{IsReadOf}
use Rattle.object_calls.specs.Replies.{is_reply_at}
use Rattle.object_calls.proofs.LookUps.{named_as}
use Rattle.store_laws.specs.Stored.{Stored, objects}
use Rattle.store.proofs.FollowedOps as followed
use Rattle.store.specs.Peeks.{IsFoundAt, ComesAt, IsObjectAt, ComesOfPeek}
use Rattle.store.specs.declared.refusals.PeekRefusal.{PeekRefusal}
use Rattle.store.specs.declared.refusals.PeekRefusal.TheVariants.{NoObject, NoCall, Changes}

-- the operation that a name finds has a call
first-has : (T : Table) (name : List ℕ) (c : ℕ) → first_op T name ≡ Some c → has_op T c ≡ true
first-has T name c found = ap (λ (n : List ℕ). nat_lt 0 (length n)) (followed.named T name c found) ∙ by (nat_lt 0 (length name)) refl
  where
    by : (b : Bool) → nat_lt 0 (length name) ≡ b → nat_lt 0 (length name) ≡ true
    by false none = absurd (none-some c (sym (ap (λ b. if b then position (λ (q : Op). bytes_eq q.call name) T.ops else None) none) ∙ found))
    by true some = some

-- the object at a place, as callers see it
pub object-here : (s : Stored) (x : ℕ) (m : Meaning) → IsObjectAt s x m → slice_get (objects s) x ≡ Some (object m)
object-here s x m at = slice_get-map object_of s.types x ∙ ap (option_map object_of) at.there

module _ (changes_nothing : StillChangesNothing) (s : Stored) (x : ℕ) (name : List ℕ) (m : Meaning) (c : ℕ) (at : IsObjectAt s x m) (named : first_op m.checked.file.table name ≡ Some c) where
  -- what is found is a read
  found-reads : (found : Option ℕ) → (is : IsFoundAt m c found) → (k : ℕ) → found ≡ Some k → (kept : List ℕ) (r : ℕ) → slice_get kept x ≡ Some is.state → IsReadOf (objects s) kept r (record { by = r; at = x; op = k })
  found-reads found is k found_is kept r there =
      let T = m.checked.file.table in
      let passes = first_below-passes (is_reply_at T is.state c) (length T.ops) k (sym is.reply ∙ found_is) in
      let parts = and_parts (is_same_call T k c) (is_some (next T is.state k)) passes in
      let same = (bytes_eq-Decides (call_of T k) (call_of T c)).0 parts.0 in
      record {
        by = refl;
        o = object m;
        s = is.state;
        object = object-here s x m at;
        state = there;
        operation = named_as T c k (first-has T name c named) same;
        legal = parts.1;
        still = changes_nothing m.checked k at.checked (is.still k parts.0);
      }

  pub peek-comes : (r : Result (Option ℕ) PeekRefusal) → ComesAt m c r → ComesOfPeek s x name r
  peek-comes (Ok found) is = record {
    checked = m.checked;
    c = c;
    at = record { there = at.there; named = named };
    still = is.still;
    state = is.state;
    committed = at.committed is.state is.committed is.fits;
    reply = is.reply;
    reads = found-reads found is;
  }
  peek-comes (Err Changes) moves = (m.checked, c, record { there = at.there; named = named }, moves)
  peek-comes (Err NoObject) none = absurd none
  peek-comes (Err NoCall) none = absurd none
