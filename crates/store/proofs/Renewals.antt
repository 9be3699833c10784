-- A store that begins anew at the states of its objects.
use Rattle.store_limits.specs.declared.limits.Limits.{Limits}
use Rattle.std.proofs.Common.{◌≡◌, ℕ, zero, suc, ◌+◌, ◌^◌, ◌<◌, ◌≤◌, List, [], ◌∷◌, ◌++◌, length, false, Option, Some, slice_get, refl, sym, ap, subst, ◌∙◌, inl, inr, arith}
use Rattle.std.proofs.lemmas.List.{length-append, length-map}
use Rattle.std.proofs.lemmas.Option.{none-some, same_Some, slice_get_within}
use Rattle.type_table.specs.Laws.{RunsAlong}
use Rattle.type_table.proofs.Elements.{cases-more, element_at, found-map}
use Rattle.table_checker.specs.At.{checked_at}
use Rattle.table_checker.specs.Checked.{Checked, IsChecked}
use Rattle.object_trait.specs.Meaning.{Meaning, state_of}
use Rattle.object_trait.specs.declared.event.Event.{Event}
use Rattle.serial_order.specs.History.{summary, is_open}
use Rattle.serial_order.specs.Laws.{AreChecked, CheckedHeadline}
use Rattle.serial_order.specs.Epochs.{types_at, ClosedIsEpoch}
use Rattle.open_transactions.specs.Transactions.{Row}
use Rattle.store_laws.specs.Kept.{keeping, IsKept}
use Rattle.store_laws.specs.Stored.{Stored, types_of}
use Rattle.store.specs.KeptState.{IsKeptState}
use Rattle.std.proofs.lemmas.List.{map-append}
use Rattle.store.specs.Renews.{Extends, IsRenewed, AreRenewed, Renews}
use Rattle.store.proofs.KeptStates.{kept-shown}
use Rattle.store.proofs.Stored.{stored, shown}

-- ---- one object after another

-- the first i of them
pub record AreFirstRenewed (the_state : Meaning → Option ℕ) (ms now : List Meaning) (capacity i : ℕ) : Type 0 where
  pub as_many : length now ≡ i
  pub room : length ms ≤ capacity
  pub each : (x : ℕ) (m new : Meaning) → slice_get ms x ≡ Some m → slice_get now x ≡ Some new → IsRenewed the_state m new

-- of none
pub renewed-none : (the_state : Meaning → Option ℕ) (ms : List Meaning) (capacity : ℕ) → length ms ≤ capacity → AreFirstRenewed the_state ms [] capacity 0
renewed-none the_state ms capacity room = record { as_many = refl; room = room; each = λ x m new there none. absurd (none-some new none) }

-- and one more
pub renewed-more : (the_state : Meaning → Option ℕ) (ms now more : List Meaning) (new : Meaning) (capacity i : ℕ) (m : Meaning) → AreFirstRenewed the_state ms now capacity i → slice_get ms i ≡ Some m
    → IsRenewed the_state m new → more ≡ now ++ new ∷ [] → AreFirstRenewed the_state ms more capacity (i + 1)
renewed-more the_state ms now more new capacity i m first is renewed pushed =
    record {
      as_many = ap length pushed ∙ length-append now (new ∷ []) ∙ ap (λ n. n + 1) first.as_many;
      room = first.room;
      each = λ x old n there here.
          elim (cases-more now new x n (ap (λ ns. slice_get ns x) (sym pushed) ∙ here)) [
            | inl before ↦ first.each x old n there before
            | inr last ↦
                let same : x ≡ i = last.0 ∙ first.as_many in
                let one : m ≡ old = same_Some m old (sym is ∙ subst (λ y. slice_get ms y ≡ Some old) same there) in
                subst (λ k. IsRenewed the_state old k) last.1 (subst (λ k. IsRenewed the_state k new) one renewed)
          ];
    }

-- so all of them
pub renewed-all : (the_state : Meaning → Option ℕ) (ms now : List Meaning) (capacity i : ℕ) → AreFirstRenewed the_state ms now capacity i → i ≡ length ms → AreRenewed the_state ms now
renewed-all the_state ms now capacity i first all = record { as_many = first.as_many ∙ all; each = first.each }

-- ---- the states at which they begin

-- the state of an object, of 32 bits
abbrev IsStateOf : (Meaning → Option ℕ) → Meaning → ℕ → Type 0
IsStateOf the_state m s = (the_state m ≡ Some s) × (s < 2 ^ 32)

-- their list, and the types at them
pub record AreKept (the_state : Meaning → Option ℕ) (ms now : List Meaning) : Type 0 where
  pub kept : List ℕ
  pub as_many : length kept ≡ length ms
  pub types : types_of now ≡ types_at (types_of ms) kept
  pub states : (x : ℕ) (m : Meaning) (s : ℕ) → slice_get ms x ≡ Some m → slice_get kept x ≡ Some s → IsStateOf the_state m s

-- one in front
states-more : (the_state : Meaning → Option ℕ) (m : Meaning) (ms : List Meaning) (k : ℕ) (kept : List ℕ) → IsStateOf the_state m k
    → ((x : ℕ) (n : Meaning) (s : ℕ) → slice_get ms x ≡ Some n → slice_get kept x ≡ Some s → IsStateOf the_state n s)
    → (x : ℕ) (n : Meaning) (s : ℕ) → slice_get (m ∷ ms) x ≡ Some n → slice_get (k ∷ kept) x ≡ Some s → IsStateOf the_state n s
states-more the_state m ms k kept first rest zero n s there here =
    subst (λ (o : Meaning). IsStateOf the_state o s) (same_Some m n there) (subst (λ i. IsStateOf the_state m i) (same_Some k s here) first)
states-more the_state m ms k kept first rest (suc x) n s there here = rest x n s there here

pub kept-of : (the_state : Meaning → Option ℕ) (ms now : List Meaning) → AreRenewed the_state ms now → AreKept the_state ms now
kept-of the_state [] [] all = record { kept = []; as_many = refl; types = refl; states = λ x m s there here. absurd (none-some m there) }
kept-of the_state [] (n ∷ now) all = absurd (omega (arith, all.as_many))
kept-of the_state (m ∷ ms) [] all = absurd (omega (arith, all.as_many))
kept-of the_state (m ∷ ms) (n ∷ now) all =
    let first = all.each 0 m n refl refl in
    let rest = kept-of the_state ms now (record { as_many = omega (arith, all.as_many); each = λ x. all.each (suc x) }) in
    record {
      kept = first.state ∷ rest.kept;
      as_many = ap suc rest.as_many;
      types = ap (λ (c : Checked). c ∷ types_of now) first.renewed.checked ∙ ap (λ ts. checked_at m.checked first.state ∷ ts) rest.types;
      states = states-more the_state m ms first.state rest.kept (first.is, first.renewed.fits) rest.states;
    }

-- ---- the store

module _ (ms : List Meaning) (rows : List (Option Row)) (K : List Event) (kept : IsKept (keeping ms rows) K) where
  -- the checker said yes for each of its types
  pub accepted : AreChecked (types_of ms)
  accepted x c there =
      let found = found-map (λ (m : Meaning). m.checked) ms x c there in
      subst IsChecked found.2 (kept.objects x found.0 found.1).checked

  -- each state is the one that is kept there
  are-kept : CheckedHeadline → RunsAlong → (now : List Meaning) (limits : Limits) (forgotten : ℕ) (its : AreKept state_of ms now) (x s : ℕ) → slice_get its.kept x ≡ Some s
      → IsKeptState (shown (keeping ms rows) K limits forgotten) x s
  are-kept headline along now limits forgotten its x s here =
      let low : x < length ms = omega (arith, its.as_many, slice_get_within its.kept x s here) in
      let found = element_at ms x low in
      let is = its.states x found.0 s found.1 here in
      kept-shown headline ms rows K limits forgotten kept (shown (keeping ms rows) K limits forgotten) refl along x s found.0 found.1 is.0 is.1

  -- its history is an epoch, and the new one is of the types at the kept states
  pub renews-shown : CheckedHeadline → RunsAlong → ClosedIsEpoch → (now : List Meaning) (limits : Limits) (forgotten : ℕ) (new : Stored) → ((t : ℕ) → is_open (summary K) t ≡ false) → AreRenewed state_of ms now
      → new ≡ stored (types_of now) [] limits 0 → Renews (shown (keeping ms rows) K limits forgotten) new
  renews-shown headline along closed now limits forgotten new none all made =
      let its = kept-of state_of ms now all in
      record {
        kept = its.kept;
        as_many = its.as_many ∙ sym (length-map ms (λ (m : Meaning). m.checked));
        states = are-kept headline along now limits forgotten its;
        epoch = closed ms (record { history = K; kept = its.kept; added = [] }) accepted kept.run none its.as_many (λ x c there. absurd (none-some c there))
            (λ x m there. let o = kept.objects x m there in (o.sound, o.represents)) (λ x m s there here. (its.states x m s there here).0);
        is = made ∙ ap (λ ts. stored ts [] limits 0) its.types;
      }

  -- and so where objects of these types come after those
  pub extends-shown : CheckedHeadline → RunsAlong → ClosedIsEpoch → (now more : List Meaning) (limits : Limits) (forgotten : ℕ) (new : Stored) → ((t : ℕ) → is_open (summary K) t ≡ false)
      → AreRenewed state_of ms now → AreChecked (types_of more) → new ≡ stored (types_of (now ++ more)) [] limits 0 → Extends (shown (keeping ms rows) K limits forgotten) (types_of more) new
  extends-shown headline along closed now more limits forgotten new none all checked made =
      let its = kept-of state_of ms now all in
      record {
        kept = its.kept;
        as_many = its.as_many ∙ sym (length-map ms (λ (m : Meaning). m.checked));
        states = are-kept headline along now limits forgotten its;
        epoch = closed ms (record { history = K; kept = its.kept; added = types_of more }) accepted kept.run none its.as_many checked
            (λ x m there. let o = kept.objects x m there in (o.sound, o.represents)) (λ x m s there here. (its.states x m s there here).0);
        is = made ∙ ap (λ ts. stored ts [] limits 0) (map-append (λ (m : Meaning). m.checked) now more ∙ ap (λ ts. ts ++ types_of more) its.types);
      }

-- the types of the last ones are checked where all are
pub checked-behind : (now more : List Meaning) → AreChecked (types_of (now ++ more)) → AreChecked (types_of more)
checked-behind [] more checked = checked
checked-behind (m ∷ now) more checked = checked-behind now more (λ x c there. checked (suc x) c there)

-- and so as its callers see it
pub extends : CheckedHeadline → RunsAlong → ClosedIsEpoch → (ms now more : List Meaning) (rows : List (Option Row)) (K : List Event) (limits : Limits) (forgotten : ℕ) (s new : Stored)
    → shown (keeping ms rows) K limits forgotten ≡ s → IsKept (keeping ms rows) K → ((t : ℕ) → is_open (summary s.history) t ≡ false) → AreRenewed state_of ms now
    → AreChecked new.types → new ≡ stored (types_of (now ++ more)) [] limits 0 → Extends s (types_of more) new
extends headline along closed ms now more rows K limits forgotten s new same kept none all checked made =
    let yes = checked-behind now more (subst AreChecked (ap (λ (z : Stored). z.types) made) checked) in
    subst (λ (z : Stored). Extends z (types_of more) new) same
    (extends-shown ms rows K kept headline along closed now more limits forgotten new (subst (λ (z : Stored). (t : ℕ) → is_open (summary z.history) t ≡ false) (sym same) none) all yes made)

pub renews : CheckedHeadline → RunsAlong → ClosedIsEpoch → (ms now : List Meaning) (rows : List (Option Row)) (K : List Event) (limits : Limits) (forgotten : ℕ) (s new : Stored)
    → shown (keeping ms rows) K limits forgotten ≡ s → IsKept (keeping ms rows) K → ((t : ℕ) → is_open (summary s.history) t ≡ false) → AreRenewed state_of ms now
    → new ≡ stored (types_of now) [] limits 0 → Renews s new
renews headline along closed ms now rows K limits forgotten s new same kept none all made =
    subst (λ (z : Stored). Renews z new) same
    (renews-shown ms rows K kept headline along closed now limits forgotten new (subst (λ (z : Stored). (t : ℕ) → is_open (summary z.history) t ≡ false) (sym same) none) all made)
