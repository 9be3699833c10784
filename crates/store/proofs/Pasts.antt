-- Events that were forgotten, and those in memory after them.
use Rattle.store_limits.specs.declared.limits.Limits.{Limits}
use Rattle.std.proofs.Common.{◌≡◌, ℕ, ◌+◌, ◌≤◌, min, Bool, nat_le, List, [], ◌∷◌, ◌++◌, length, take, drop, Option, sym, ap, subst, ◌∙◌, arith}
use Rattle.std.proofs.lemmas.List.{length-append, length-take-le, append_assoc, drop_at, take-append-drop}
use Rattle.table_checker.specs.Checked.{Checked}
use Rattle.object_trait.specs.declared.event.Event.{Event}
use Rattle.object_trait.specs.Meaning.{Meaning}
use Rattle.object_calls.specs.declared.call.NamedCall.{NamedCall}
use Rattle.open_transactions.specs.Transactions.{Row}
use Rattle.store_laws.specs.Stored.{Stored}
use Rattle.store.specs.Whole.{IsWholeStore}
use Rattle.store.proofs.Stored.{stored}

-- one more in memory is one more of all
pub past-more : (past K after : List Event) (e : Event) → after ≡ K ++ e ∷ [] → past ++ after ≡ (past ++ K) ++ e ∷ []
past-more past K after e appended = ap (λ L. past ++ L) appended ∙ sym (append_assoc past K (e ∷ []))

-- as many as both
pub past-length : (past K : List Event) (forgotten : ℕ) → forgotten ≡ length past → length (past ++ K) ≡ forgotten + length K
past-length past K forgotten many = length-append past K ∙ ap (λ n. n + length K) (sym many)

-- those in memory are the ones that weren't forgotten
pub past-drop : (past K : List Event) (forgotten : ℕ) → forgotten ≡ length past → drop forgotten (past ++ K) ≡ K
past-drop past K forgotten many = drop_at past K forgotten (sym many)

-- the test of room is one of all events
pub past-test : (past K H : List Event) (forgotten opened further : ℕ) (max : ℕ) (answer told : Bool) → forgotten ≡ length past
    → answer ≡ nat_le (forgotten + length K + opened + further) max → K ≡ H → answer ≡ told
    → nat_le (length (past ++ H) + opened + further) max ≡ told
past-test past K H forgotten opened further max answer told many says same test =
    ap (λ n. nat_le (n + opened + further) max) (past-length past H forgotten many ∙ ap (λ J. forgotten + length J) (sym same)) ∙ sym says ∙ test

-- and so of a store as its callers see it
pub drop-shown : (types : List Checked) (past K : List Event) (limits : Limits) (forgotten : ℕ) (s : Stored) (tail : List Event) → forgotten ≡ length past → stored types (past ++ K) limits forgotten ≡ s
    → tail ≡ K → tail ≡ drop s.forgotten s.history
drop-shown types past K limits forgotten s tail many same is = subst (λ (z : Stored). tail ≡ drop z.forgotten z.history) same (is ∙ sym (past-drop past K forgotten many))

-- ---- the first n of those in memory are let go of

module _ (past K read gone left : List Event) (n : ℕ) (added : gone ≡ past ++ take n read) (read_is : read ≡ K) (rest : left ≡ drop n K) where
  taken : gone ≡ past ++ take n K
  taken = added ∙ ap (λ all. past ++ take n all) read_is

  -- all are the same events
  pub gone-same : gone ++ left ≡ past ++ K
  gone-same =
      ap (λ p. p ++ left) taken ∙ append_assoc past (take n K) left ∙ ap (λ r. past ++ (take n K ++ r)) rest ∙ ap (λ all. past ++ all) (take-append-drop n K)

  -- and n more were forgotten
  pub gone-many : (forgotten : ℕ) → forgotten ≡ length past → n ≤ length K → forgotten + n ≡ length gone
  gone-many forgotten many inside =
      ap (λ m. m + n) many
      ∙ ap (λ m. length past + m) (sym (length-take-le n K inside))
      ∙ sym (length-append past (take n K))
      ∙ sym (ap length taken)

-- what is kept agrees with the same events, where there is at least as much room
pub same-whole : (ms : List Meaning) (calls : List (List NamedCall)) (rows : List (Option Row)) (H after : List Event) (room more : ℕ) (limits : Limits) (places : ℕ)
    → IsWholeStore ms calls rows H room limits places → after ≡ H → room ≤ more → IsWholeStore ms calls rows after more limits places
same-whole ms calls rows H after room more limits places whole same wider =
    subst (λ J. IsWholeStore ms calls rows J more limits places) (sym same) (record {
      store = record { kept = whole.store.kept; reserved = omega (arith, whole.store.reserved, wider); limited = whole.store.limited };
      within = whole.within;
      few_open = whole.few_open;
      known = whole.known;
    })

-- as callers see it
pub gone-shown : (types : List Checked) (H after : List Event) (limits : Limits) (forgotten more n : ℕ) (s : Stored) → stored types H limits forgotten ≡ s → after ≡ H
    → more ≡ min (forgotten + n) (length H)
    → stored types after limits more ≡ (record { types = s.types; history = s.history; limits = s.limits; forgotten = min (s.forgotten + n) (length s.history) })
gone-shown types H after limits forgotten more n s same stays is =
    subst (λ (z : Stored). stored types after limits more ≡ (record { types = z.types; history = z.history; limits = z.limits; forgotten = min (z.forgotten + n) (length z.history) })) same
    (ap (λ J. stored types J limits more) stays ∙ ap (λ f. stored types H limits f) is)
