-- A call at an object.
use Rattle.store_limits.specs.declared.limits.Limits.{Limits}
use Rattle.std.proofs.Common.{◌≡◌, ℕ, true, false, List, Option, Some, None, slice_get, refl, subst}
use Rattle.object_trait.specs.Meaning.{Meaning}
use Rattle.object_trait.specs.declared.event.Event.{Event}
use Rattle.serial_order.specs.History.{summary, is_open}
use Rattle.serial_order.specs.declared.command.Command.TheVariants.{Call}
use Rattle.serial_order.specs.declared.refusal.Refusal.TheVariants.{NotOpen, NoObject}
use Rattle.open_transactions.specs.Transactions as table
use Rattle.open_transactions.specs.Transactions.{Row}
use Rattle.object_calls.specs.declared.call.NamedCall.{NamedCall}
use Rattle.store_laws.specs.Stored.{Stored, objects, types_of, refusal_of}
use Rattle.store_laws.specs.Kept.{keeping, IsKept}
use Rattle.store_laws.specs.Before.{RowsSayWhoIsOpen}
use Rattle.store.specs.Calls.{unnumbered}
use Rattle.store.specs.Whole.{HasCalls}
use Rattle.store.proofs.Stored.{shown}
use Rattle.store.proofs.Opens.{open-alike}

-- ---- what callers see

module _ (ms : List Meaning) (rows : List (Option Row)) (H : List Event) (limits : Limits) (forgotten : ℕ) (s : Stored) (same : shown (keeping ms rows) H limits forgotten ≡ s) where
  -- whether a transaction is open
  pub open-shown : RowsSayWhoIsOpen → (t : ℕ) → IsKept (keeping ms rows) H → is_open (summary s.history) t ≡ table.has_row rows t
  open-shown says t kept = subst (λ (z : Stored). is_open (summary z.history) t ≡ table.has_row rows t) same (open-alike says ms rows H t kept)

  -- the calls of each object
  pub calls-shown : (calls : List (List NamedCall)) → HasCalls (types_of ms) calls → HasCalls s.types calls
  calls-shown calls known = subst (λ (z : Stored). HasCalls z.types calls) same known

-- ---- whether it is refused before its call is looked for

module _ (s : Stored) (t x : ℕ) where
  -- where its transaction isn't open
  pub closed-refusal : is_open (summary s.history) t ≡ false → (name : List ℕ) → refusal_of s (Call t x name) ≡ Some NotOpen
  closed-refusal closed name = rw closed refl

  -- and so where it names its call by a number
  pub closed-unnumbered : is_open (summary s.history) t ≡ false → unnumbered s t x ≡ NotOpen
  closed-unnumbered closed = rw closed refl

  -- where there is no such object
  pub objectless-refusal : is_open (summary s.history) t ≡ true → slice_get (objects s) x ≡ None → (name : List ℕ) → refusal_of s (Call t x name) ≡ Some NoObject
  objectless-refusal going nowhere name = rw (going, nowhere) refl

  -- by a number too
  pub objectless-unnumbered : is_open (summary s.history) t ≡ true → slice_get (objects s) x ≡ None → unnumbered s t x ≡ NoObject
  objectless-unnumbered going nowhere = rw (going, nowhere) refl
