-- Transactions that are prepared: nothing but a decision ends them.
use Rattle.std.specs.Prelude.{◌≡◌, ◌≢◌, ℕ, ◌<◌, ◌==◌, Bool, true, false, if◌then◌else◌, not, List, [], ◌∷◌, filter, map, Option, Some, None, Result, Ok, Err}
use Rattle.std.specs.List.{AllByRecursion}
use Rattle.std.specs.List.Sorted.{IsStrictlyIncreasing}
use Rattle.std.specs.Str.{bytes_eq}
use Rattle.object_trait.specs.Orders.{Pairs}
use Rattle.object_trait.specs.declared.event.Event.{Event}
use Rattle.transaction_key.specs.TransactionKey.{key_place}
use Rattle.serial_order.specs.History.{begins, is_open, summary}
use Rattle.serial_order.specs.Operations.{is_among}
use Rattle.serial_order.specs.declared.refusal.Refusal.{Refusal}
use Rattle.carried_runs.specs.Carried.{number_in}
use Rattle.store_laws.specs.Stored.{Stored}
use Rattle.journal.specs.declared.prepared_row.Prepared.{Prepared}
use Rattle.journal.specs.Contents.{Contents}
use Rattle.durable_store.specs.declared.denial.Denial.{Denial}
use Rattle.durable_store.specs.declared.denial.Denial.TheVariants as denied

-- ---- who is prepared

-- of these, those whose transactions are open: they are prepared and not decided
abbrev pub undecided : List Event → List Prepared → List Prepared
undecided H ps = filter (λ (p : Prepared). is_open (summary H) p.number) ps

-- the numbers of these
abbrev pub prepared_numbers : List Prepared → List ℕ
prepared_numbers ps = map (λ (p : Prepared). p.number) ps

-- it is prepared under this key
abbrev pub has_key : List ℕ → Prepared → Bool
has_key key p = bytes_eq p.key key

-- or under one whose row is at the same place of the file, which only one of them can have
abbrev pub has_place : List ℕ → Prepared → Bool
has_place key p = key_place p.key == key_place key

-- it is this transaction
abbrev pub has_number : ℕ → Prepared → Bool
has_number t p = p.number == t

-- the first of these that passes
abbrev pub first_passing : (Prepared → Bool) → List Prepared → Option Prepared
first_passing test [] = None
first_passing test (p ∷ ps) = if test p then Some p else first_passing test ps

-- but for this transaction
abbrev pub but_number : ℕ → List Prepared → List Prepared
but_number t ps = filter (λ p. not (has_number t p)) ps

-- these are prepared in a file that says this, with this history: each began before it was prepared, no two have their rows of outcomes at the same
-- place, and nothing is kept there, so who decides writes over nobody's outcome
pub record ArePrepared (H : List Event) (c : Contents) (ps : List Prepared) : Type 0 where
  pub begun : AllByRecursion (λ (p : Prepared). p.number < begins H) c.prepared
  pub are : ps ≡ undecided H c.prepared
  pub apart : Pairs (λ (p q : Prepared). key_place p.key ≢ key_place q.key) ps
  pub free : AllByRecursion (λ (p : Prepared). c.outcomes.at (key_place p.key) ≡ None) ps

-- ---- the gate

-- what the store answered, where its refusal is a denial
abbrev pub as_denied : {T : Type 0} → Result T Refusal → Result T Denial
as_denied (Ok it) = Ok it
as_denied (Err refusal) = Err (denied.Refused refusal)

-- a command of a transaction does what the store's own does, unless the transaction is prepared: then it is denied, and nothing changes
abbrev pub Unless : {T : Type 0} → Bool → Stored → (Result T Refusal → Type 0) → Result T Denial → Stored → Type 0
Unless prepared old Does (Ok x) new = (prepared ≡ false) × Does (Ok x)
Unless prepared old Does (Err (denied.Refused refusal)) new = (prepared ≡ false) × Does (Err refusal)
Unless prepared old Does (Err denied.Prepared) new = (prepared ≡ true) × (new ≡ old)

-- ---- another epoch

-- the numbers of these, in their order
pub record AreTheirNumbers (ps : List Prepared) (those : List ℕ) : Type 0 where
  pub ascend : IsStrictlyIncreasing those
  pub same : (t : ℕ) → is_among those t ≡ is_among (prepared_numbers ps) t

-- with the number that it has where those are carried
abbrev pub moved_among : List ℕ → Prepared → Prepared
moved_among those p = record p { number = number_in those p.number }
