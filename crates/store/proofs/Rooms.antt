-- Room that a call has, or makes, and places for more objects.
use Rattle.std.proofs.Common.{◌≡◌, ℕ, ◌+◌, ◌-◌, ◌<◌, ◌≤◌, Bool, true, false, nat_le, List, length, Option, Ok, Err, Result, OnOk, sym, ap, subst, ◌∙◌, arith}
use Rattle.std.specs.Result.{is_err}
use Rattle.std.proofs.lemmas.Bool.{true≢false}
use Rattle.std.proofs.lemmas.Bool.Decides.{nat_tests}
use Rattle.object_trait.specs.Meaning.{Meaning}
use Rattle.object_trait.specs.declared.event.Event.{Event}
use Rattle.open_transactions.specs.Transactions.{Row}
use Rattle.store_laws.specs.Kept.{keeping, IsKept}
use Rattle.store_laws.specs.Stored.{Stored}
use Rattle.store_laws.specs.Before.{RowsAreFew}

-- a call that is no error did what it does then
pub succeeded : {T E P : Type 0} (r : Result T E) → is_err r ≡ false → OnOk r P → P
succeeded (Ok x) fine fact = fact
succeeded (Err e) fine fact = absurd (true≢false fine)

-- fewer began than there may be events
pub rows-fit : RowsAreFew → (ms : List Meaning) (rows now : List (Option Row)) (H : List Event) (max : ℕ) → IsKept (keeping ms rows) H → now ≡ rows
    → length H < max → length now < max
rows-fit few ms rows now H max kept same short =
    let most = few (keeping ms rows) H kept in
    subst (λ r. length r < max) (sym same) (omega (arith, most, short))

-- what the test of room says
pub room-is : (n max : ℕ) → nat_le n max ≡ true → n ≤ max
room-is n max test = grind (arith, nat_tests, test)

-- the test, of the slice of a history, is one of the history
pub room-test : (K H : List Event) (opened further max : ℕ) (answer told : Bool) → answer ≡ nat_le (length K + opened + further) max → K ≡ H → answer ≡ told
    → nat_le (length H + opened + further) max ≡ told
room-test K H opened further max answer told says same test = sym (says ∙ ap (λ J. nat_le (length J + opened + further) max) same) ∙ test

-- ---- places for more objects

-- two tests that mean the same
same-test : (a b c d : ℕ) → (a ≤ b → c ≤ d) → (c ≤ d → a ≤ b) → nat_le a b ≡ nat_le c d
same-test a b c d there back = grind (arith, nat_tests, there, back)

-- the test of what is left is one of all
pub places-tested : (n there more max : ℕ) → n ≡ there → n ≤ max → nat_le more (max - n) ≡ nat_le (there + more) max
places-tested n there more max same few = same-test more (max - n) (there + more) max (λ fits. omega (arith, fits, same, few)) (λ fits. omega (arith, fits, same, few))

-- what it says of these objects
pub too-many : (s : Stored) (n : ℕ) (ms : List Meaning) (answer : Bool) → answer ≡ nat_le (length s.types + n) s.limits.objects → answer ≡ false → n ≡ length ms → s.limits.objects < length s.types + length ms
too-many s n ms answer says fails same = let test : nat_le (length s.types + n) s.limits.objects ≡ false = sym says ∙ fails in grind (arith, nat_tests, test, same)

pub few-enough : (s : Stored) (n : ℕ) (ms : List Meaning) (answer : Bool) → answer ≡ nat_le (length s.types + n) s.limits.objects → answer ≡ true → n ≡ length ms → length s.types + length ms ≤ s.limits.objects
few-enough s n ms answer says passes same = let test : nat_le (length s.types + n) s.limits.objects ≡ true = sym says ∙ passes in grind (arith, nat_tests, test, same)
