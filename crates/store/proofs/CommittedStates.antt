-- The committed states of a store's objects.
use Rattle.store_limits.specs.declared.limits.Limits.{Limits}
use Rattle.std.proofs.Common.{◌≡◌, ℕ, ◌+◌, ◌<◌, ◌^◌, List, [], ◌∷◌, ◌++◌, map, take, length, get_or, All, Option, Some, slice_get, sym, ap, subst, ◌∙◌, rules}
use Rattle.std.specs.Option.{option_map}
use Rattle.std.proofs.lemmas.List.{length-map, map-append, take_more}
use Rattle.std.proofs.lemmas.List.Elements.{All-push}
use Rattle.std.proofs.lemmas.Option.{same_Some, slice_get-map, slice_get_within, get_or_from_slice_get}
use Rattle.type_table.proofs.Elements.{found-map}
use Rattle.object_trait.specs.Object.{Object, IsCovered, object_of}
use Rattle.object_trait.specs.Meaning.{Meaning, object}
use Rattle.object_trait.specs.Committed.{committed_of}
use Rattle.object_trait.specs.Laws.{CheckedIsCovered}
use Rattle.object_trait.specs.declared.event.Event.{Event}
use Rattle.serial_order.specs.Machine.{AreCovered}
use Rattle.committed_states.specs.Committed.{IsCommitted}
use Rattle.committed_states.specs.Laws.{CommittedIsThere, CommittedAgrees}
use Rattle.open_transactions.specs.Transactions.{Row}
use Rattle.store_laws.specs.Stored.{Stored, objects, types_of}
use Rattle.store_laws.specs.Kept.{keeping, objects_of, IsKept}
use Rattle.store.specs.CommittedStates.{IsCommittedState, IsSnapshot, HaveCommitted}
use Rattle.store.specs.Peeks.{IsObjectAt}
use Rattle.store_laws.proofs.Objects.{object-at}
use Rattle.store.proofs.Stored.{shown}

-- ---- those of a list of objects

-- of none
pub committed-none : {R : Type 0} (meaning : R → Meaning) (all : List R) → HaveCommitted (map meaning (take 0 all)) []
committed-none meaning all = record { exact = search rules; fit = search rules }

-- of one more
pub committed-more : {R : Type 0} (meaning : R → Meaning) (all : List R) (i : ℕ) (one : R) (states more : List ℕ) (s : ℕ) → i < length all → one ≡ get_or all i one
    → HaveCommitted (map meaning (take i all)) states → committed_of (meaning one) ≡ Some s → s < 2 ^ 32 → more ≡ states ++ s ∷ [] → HaveCommitted (map meaning (take (i + 1) all)) more
committed-more meaning all i one states more s inside is before here fits pushed =
    let front : take (i + 1) all ≡ take i all ++ one ∷ [] = take_more all i one inside ∙ ap (λ x. take i all ++ x ∷ []) (sym is) in
    record {
      exact =
          ap (λ xs. map committed_of (map meaning xs)) front
          ∙ ap (map committed_of) (map-append meaning (take i all) (one ∷ []))
          ∙ map-append committed_of (map meaning (take i all)) (meaning one ∷ [])
          ∙ ap (λ xs. xs ++ committed_of (meaning one) ∷ []) before.exact
          ∙ ap (λ o. map Some states ++ o ∷ []) here
          ∙ sym (map-append Some states (s ∷ []))
          ∙ ap (map Some) (sym pushed);
      fit = subst (λ xs. All (λ n. n < 2 ^ 32) xs) (sym pushed) (All-push (λ n. n < 2 ^ 32) states s before.fit fits);
    }

-- so each of them is that of its object
committed-at : (ms : List Meaning) (states : List ℕ) (x s : ℕ) → HaveCommitted ms states → slice_get states x ≡ Some s → (m : Meaning) × (slice_get ms x ≡ Some m) × (committed_of m ≡ Some s)
committed-at ms states x s have is =
    let found : slice_get (map committed_of ms) x ≡ Some (Some s) = ap (λ os. slice_get os x) have.exact ∙ slice_get-map Some states x ∙ ap (option_map Some) is in
    let at = found-map committed_of ms x (Some s) found in
    (at.0, at.1, at.2)

fits-at : {ms : List Meaning} (states : List ℕ) (x s : ℕ) → HaveCommitted ms states → slice_get states x ≡ Some s → s < 2 ^ 32
fits-at states x s have is = subst (λ n. n < 2 ^ 32) (get_or_from_slice_get states x s s is) (have.fit x s (slice_get_within states x s is))

-- ---- a store

module _ (covers : CheckedIsCovered) (ms : List Meaning) (rows : List (Option Row)) (H : List Event) (kept : IsKept (keeping ms rows) H) where
  -- the checker said yes for the type of each object
  pub covered : AreCovered (objects_of ms)
  covered x o there =
      let type = found-map object_of (types_of ms) x o there in
      let its = found-map (λ (m : Meaning). m.checked) ms x type.0 type.1 in
      subst IsCovered (ap object_of its.2 ∙ type.2) (covers its.0.checked (kept.objects x its.0 its.1).checked).0

  -- what an object has is its committed state
  pub is-committed : CommittedIsThere → (x state : ℕ) (m : Meaning) → slice_get ms x ≡ Some m → committed_of m ≡ Some state → IsCommitted (object m) state x H
  is-committed there_is x state m there is =
      let its = kept.objects x m there in
      let found = there_is (objects_of ms) H x m covered kept.run (object-at ms x m there) its.represents its.sound in
      subst (λ n. IsCommitted (object m) n x H) (same_Some found.0 state (sym found.1 ∙ is)) found.2

module _ (covers : CheckedIsCovered) (there_is : CommittedIsThere) (agrees : CommittedAgrees) (ms : List Meaning) (rows : List (Option Row)) (H : List Event) (limits : Limits)
    (forgotten : ℕ) (kept : IsKept (keeping ms rows) H) (s : Stored) (same : shown (keeping ms rows) H limits forgotten ≡ s) where
  -- as callers see it
  pub committed-shown : (x state : ℕ) (m : Meaning) → slice_get ms x ≡ Some m → committed_of m ≡ Some state → state < 2 ^ 32 → IsCommittedState s x state
  committed-shown x state m there is fits =
      let at = object-at ms x m there in
      let left = is-committed covers ms rows H kept there_is x state m there is in
      subst (λ (z : Stored). IsCommittedState z x state) same
      (record { o = object m; there = at; committed = left; agrees = agrees (objects_of ms) H x (object m) state (covered covers ms rows H kept) kept.run at left; fits = fits })

  -- so the object at a place is known
  pub object-known : (x : ℕ) (m : Meaning) → slice_get ms x ≡ Some m → IsObjectAt s x m
  object-known x m there = record {
    there = subst (λ (z : Stored). slice_get z.types x ≡ Some m.checked) same (slice_get-map (λ (n : Meaning). n.checked) ms x ∙ ap (option_map (λ (n : Meaning). n.checked)) there);
    checked = (kept.objects x m there).checked;
    sound = (kept.objects x m there).sound;
    committed = λ state is fits. committed-shown x state m there is fits;
  }

  -- and so it is of all
  pub all-committed-shown : (states : List ℕ) → HaveCommitted ms states → IsSnapshot s states
  all-committed-shown states have = record {
    as_many =
        sym (length-map states Some) ∙ sym (ap length have.exact) ∙ length-map ms committed_of
        ∙ sym (length-map (types_of ms) object_of ∙ length-map ms (λ (m : Meaning). m.checked))
        ∙ ap (λ (z : Stored). length (objects z)) same;
    each = each;
    read = λ x o state there is.
        let at = each x state is in
        subst (λ (p : Object). IsCommitted p state x s.history) (same_Some at.o o (sym at.there ∙ there)) at.committed;
  }
    where
      each : (x state : ℕ) → slice_get states x ≡ Some state → IsCommittedState s x state
      each x state is =
          let at = committed-at ms states x state have is in
          committed-shown x state at.0 at.1 at.2 (fits-at states x state have is)
