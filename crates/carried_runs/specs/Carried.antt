-- Open transactions that are carried into the next epoch: they begin there, and do again what survives of them.
use Rattle.std.specs.Prelude.{◌≡◌, ◌&&◌, ◌==◌, ℕ, suc, Bool, true, false, not, cond, List, [], ◌∷◌, ◌++◌, map, filter, length}
use Rattle.std.specs.List.{AllByRecursion}
use Rattle.object_trait.specs.Orders.{Pairs}
use Rattle.object_trait.specs.Meaning.{Meaning}
use Rattle.object_trait.specs.declared.event.Event.{Event}
use Rattle.object_trait.specs.declared.event.EventKind.TheVariants.{Begin, Op}
use Rattle.object_trait.specs.declared.log_entry.LogEntry.{LogEntry}
use Rattle.serial_order.specs.Operations.{is_among, at_object}
use Rattle.serial_order.specs.History.{Summary, summary, is_open, surviving}
use Rattle.serial_order.specs.Serial.{surviving_at}
use Rattle.serial_order.specs.Represent.{plain}
use Rattle.serial_order.specs.declared.entry.Entry.{Entry}
use Rattle.committed_states.specs.Committed.{of_these}

-- open transactions of a history, none twice
pub record AreOpenOnce (P : List ℕ) (H : List Event) : Type 0 where
  pub apart : Pairs (λ a b. (b == a) ≡ false) P
  pub are_open : AllByRecursion (λ t. is_open (summary H) t ≡ true) P

-- their open entries in the log of an object
abbrev pub is_carried : List ℕ → LogEntry → Bool
is_carried P e = is_among P e.by && not e.done

-- what the logs of objects, from number x on, tell of them, object after object
abbrev pub carried_of_logs : ℕ → List ℕ → List Meaning → List Entry
carried_of_logs x P [] = []
carried_of_logs x P (m ∷ ms) = map (plain x) (filter (is_carried P) m.log) ++ carried_of_logs (suc x) P ms

-- U is what survives of P, in an order that keeps the order at each object
abbrev pub IsCarriedOrder : List ℕ → List Event → List Entry → Type 0
IsCarriedOrder P H U = (x : ℕ) → at_object x U ≡ of_these P (surviving_at x H)

-- ---- numbers

-- how many of these stand before t, which is its number in the next epoch
abbrev pub number_in : List ℕ → ℕ → ℕ
number_in [] t = 0
number_in (u ∷ P) t = cond (u == t) 0 (suc (number_in P t))

-- the operation, of its transaction's new number
abbrev pub renumbered : List ℕ → Entry → Entry
renumbered P e = record { by = number_in P e.by; at = e.at; op = e.op }

-- ---- events

-- they begin, from number n on; `worker` tells whose a transaction is
abbrev pub begins_from : (ℕ → ℕ) → ℕ → List ℕ → List Event
begins_from worker n [] = []
begins_from worker n (t ∷ P) = (record { worker = worker t; kind = Begin n }) ∷ begins_from worker (suc n) P

-- an operation, done again
abbrev pub done_again : (ℕ → ℕ) → List ℕ → Entry → Event
done_again worker P e = record { worker = worker e.by; kind = Op e.op (number_in P e.by) e.at }

-- what the log of the object at x tells of them, done again
abbrev pub again_at : ℕ → (ℕ → ℕ) → List ℕ → List LogEntry → List Event
again_at x worker P log = map (done_again worker P) (map (plain x) (filter (is_carried P) log))

-- the first events of the next epoch, where these operations are done again
abbrev pub carried_by : (ℕ → ℕ) → List ℕ → List Entry → List Event
carried_by worker P U = begins_from worker 0 P ++ map (done_again worker P) U

-- in the order in which they were executed
abbrev pub carried_run : (ℕ → ℕ) → List ℕ → List Event → List Event
carried_run worker P H = carried_by worker P (of_these P (surviving H))

-- what these say: P began, nobody ended, and what was done again survives
abbrev pub carried_summary : List ℕ → List Entry → Summary
carried_summary P U = record { begun = length P; committed = []; aborted = []; survives = map (renumbered P) U }
