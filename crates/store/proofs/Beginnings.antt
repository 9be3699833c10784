-- The beginning of a store.
use Rattle.store_limits.specs.declared.limits.Limits.{Limits}
use Rattle.std.proofs.Common.{◌≡◌, ℕ, ◌+◌, ◌<◌, ◌≤◌, Bool, true, false, List, [], ◌∷◌, ◌++◌, map, length, get_or, Option, Some, slice_get, refl, sym, ap, subst, ◌∙◌, inl, inr, arith}
use Rattle.std.specs.Option.{option_map}
use Rattle.std.proofs.lemmas.List.{length-map, length-append}
use Rattle.std.proofs.lemmas.Option.{same_Some, slice_get-map, slice_get_within, slice_get_read}
use Rattle.type_table.proofs.Elements.{cases-more, found-map, FirstAre, first-more}
use Rattle.table_checker.specs.Checked.{Checked, IsChecked}
use Rattle.object_trait.specs.Meaning.{Meaning}
use Rattle.object_trait.specs.declared.event.Event.{Event}
use Rattle.serial_order.specs.Laws.{AreChecked}
use Rattle.object_calls.specs.Calls.{HoldsCalls}
use Rattle.object_calls.specs.declared.call.NamedCall.{NamedCall}
use Rattle.open_transactions.specs.Transactions.{Row}
use Rattle.store_laws.specs.Stored.{types_of}
use Rattle.store_laws.specs.Kept.{keeping, IsKept}
use Rattle.store_laws.specs.Before.{NewIsKept}
use Rattle.store_limits.specs.Standard.{are_limits, most_of_each}
use Rattle.std.proofs.lemmas.Bool.Decides.{nat_tests}
use Rattle.store.specs.Ends.{MayBegin}
use Rattle.store.specs.Whole.{HasCalls, IsWholeStore}

-- ---- elements by their places

-- what is read at a place is there in the image
pub image-in : {A B : Type 0} (f : A → B) (xs ys : List A) (i : ℕ) (a : A) → ys ≡ xs → i < length ys → a ≡ get_or ys i a → slice_get (map f xs) i ≡ Some (f a)
image-in f xs ys i a same inside is =
    slice_get-map f xs i ∙ ap (option_map f) (subst (λ zs. slice_get zs i ≡ Some a) same (slice_get_read ys (length ys) i a refl inside is))

-- ---- what holds of the first of a list

-- where there are no others, each is so
pub first-all : {A : Type 0} (P : A → Type 0) (xs : List A) (i : ℕ) → FirstAre P xs i → length xs ≤ i → (x : ℕ) (a : A) → slice_get xs x ≡ Some a → P a
first-all P xs i first all x a there = let inside = slice_get_within xs x a there in first x a (omega (arith, inside, all)) there

-- where one fails a test that each passes that is so, not all are so
pub first-fails : {A : Type 0} (P : A → Type 0) (xs : List A) (i : ℕ) (a : A) (test : Bool) → slice_get xs i ≡ Some a → (P a → test ≡ true) → test ≡ false
    → ((x : ℕ) (b : A) → slice_get xs x ≡ Some b → P b) → false ≡ true
first-fails P xs i a test is passes fails all = sym fails ∙ passes (all i a is)

-- ---- the calls of types

-- the calls of the first i objects, whose types were accepted, with room for those of all
pub record HasFirstCalls (ms : List Meaning) (calls : List (List NamedCall)) (capacity i : ℕ) : Type 0 where
  pub as_many : length calls ≡ i
  pub room : length ms ≤ capacity
  pub checked : FirstAre (λ m. IsChecked m.checked) ms i
  pub each : (x : ℕ) (m : Meaning) (its : List NamedCall) → slice_get ms x ≡ Some m → slice_get calls x ≡ Some its → HoldsCalls m.checked.file.table its

-- those of one more
pub calls-more : (ms : List Meaning) (calls more : List (List NamedCall)) (its : List NamedCall) (capacity i : ℕ) (m : Meaning) → HasFirstCalls ms calls capacity i
    → slice_get ms i ≡ Some m → IsChecked m.checked → HoldsCalls m.checked.file.table its → more ≡ calls ++ its ∷ [] → HasFirstCalls ms more capacity (i + 1)
calls-more ms calls more its capacity i m first is checked table pushed =
    record {
      as_many = ap length pushed ∙ length-append calls (its ∷ []) ∙ ap (λ n. n + 1) first.as_many;
      room = first.room;
      checked = first-more (λ m. IsChecked m.checked) ms i m first.checked is checked;
      each = λ x n those there here.
          elim (cases-more calls its x those (ap (λ cs. slice_get cs x) (sym pushed) ∙ here)) [
            | inl before ↦ first.each x n those there before
            | inr last ↦
                let same : x ≡ i = last.0 ∙ first.as_many in
                let one : m ≡ n = same_Some m n (sym is ∙ subst (λ y. slice_get ms y ≡ Some n) same there) in
                subst (λ ts. HoldsCalls n.checked.file.table ts) last.1 (subst (λ (k : Meaning). HoldsCalls k.checked.file.table its) one table)
          ];
    }

module _ (ms : List Meaning) (calls : List (List NamedCall)) (capacity i : ℕ) (first : HasFirstCalls ms calls capacity i) (all : i ≡ length ms) where
  -- those of all of them are their types' calls
  pub calls-all : HasCalls (types_of ms) calls
  calls-all =
      record {
        as_many = first.as_many ∙ all ∙ sym (length-map ms (λ (m : Meaning). m.checked));
        each = λ x c its there here.
            let found = found-map (λ (m : Meaning). m.checked) ms x c there in
            subst (λ (k : Checked). HoldsCalls k.file.table its) found.2 (first.each x found.0 its found.1 here);
      }

  -- and each type was accepted
  pub calls-checked : AreChecked (types_of ms)
  calls-checked x c there =
      let found = found-map (λ (m : Meaning). m.checked) ms x c there in
      let holds = first-all (λ m. IsChecked m.checked) ms i first.checked (omega (arith, all)) x found.0 found.1 in
      subst IsChecked found.2 holds

-- ---- a new store

-- its limits are no greater than may be
pub record AreMost (limits : Limits) : Type 0 where
  pub numbered : limits.objects ≤ most_of_each
  pub slotted : limits.«open» ≤ most_of_each

pub most-of-each : (greatest : ℕ) (limits : Limits) → are_limits greatest limits ≡ true → AreMost limits
most-of-each greatest limits are = record { numbered = grind (arith, nat_tests, are); slotted = grind (arith, nat_tests, are) }

-- it is whole, with the empty history
pub new-whole : NewIsKept → (greatest : ℕ) (ms : List Meaning) (calls : List (List NamedCall)) (rows : List (Option Row)) (H : List Event) (capacity : ℕ) (limits : Limits) (places : ℕ)
    → MayBegin greatest ms limits → AreChecked (types_of ms) → HasCalls (types_of ms) calls → length ms ≤ places → rows ≡ [] → H ≡ []
    → IsWholeStore ms calls rows H capacity limits places
new-whole is_kept greatest ms calls rows H capacity limits places may checked known placed none nothing =
    let are = most-of-each greatest limits may.limit in
    let kept : IsKept (keeping ms rows) [] =
    is_kept (keeping ms rows) (record {
      checked = λ x m there. checked x m.checked (slice_get-map (λ (n : Meaning). n.checked) ms x ∙ ap (option_map (λ (n : Meaning). n.checked)) there);
      fresh = may.fresh;
      rows = none;
    })
    in
    subst (λ K. IsWholeStore ms calls rows K capacity limits places) (sym nothing)
    (record {
      store = record { kept = kept; reserved = omega arith; limited = omega arith };
      within = record { few = may.few; numbered = are.numbered; slotted = are.slotted; placed = placed };
      few_open = omega arith;
      known = known;
    })
