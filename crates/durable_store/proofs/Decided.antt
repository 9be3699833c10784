-- A decision ends the one who is prepared under its key.
use Rattle.std.proofs.Common.{◌≡◌, ◌∙◌, ℕ, true, false, not, if◌then◌else◌, List, [], ◌∷◌, ◌++◌, Some, None, is_some, drop, length, Result, Ok, sym, ap, subst}
use Rattle.sqlite_trees.specs.declared.store.Store.{Ghosts}
use Rattle.object_trait.specs.declared.event.EventKind.{EventKind}
use Rattle.object_trait.specs.declared.event.EventKind.TheVariants as kind
use Rattle.serial_order.specs.History.{is_open, summary}
use Rattle.serial_order.specs.Operations.{is_among}
use Rattle.serial_order.specs.declared.refusal.Refusal.{Refusal}
use Rattle.serial_order.specs.declared.refusal.Refusal.TheVariants.{NotOpen}
use Rattle.store_laws.specs.Stored.{Steps, Stored, refusal_of}
use Rattle.journal.specs.declared.prepared_row.Prepared.{Prepared}
use Rattle.journal.specs.Contents.{Contents}
use Rattle.journal.specs.declared.outcome_row.Outcome.{Outcome}
use Rattle.journal.specs.Journal.{Clean, written}
use Rattle.durable_store.specs.declared.durable.Durable.{Durable}
use Rattle.durable_store.specs.Durable.{IsDurable, event_of_kind, with_all}
use Rattle.durable_store.specs.Held.{ArePrepared, but_number, first_passing, has_key, prepared_numbers}
use Rattle.durable_store.specs.Keys.{with_key}
use Rattle.durable_store.specs.Votes.{EndsPrepared, decided_command, decided_outcome}
use Rattle.durable_store.specs.declared.votes.Decision.{Decision}
use Rattle.durable_store.specs.declared.votes.Decision.TheVariants as decision
use Rattle.durable_store.proofs.HeldKeys.{first-open, held-is}
use Rattle.durable_store.proofs.Spared.{SparesAll}
use Rattle.durable_store.proofs.Undecided.{prepared-snoc}

-- how t ends
abbrev ended : Decision → ℕ → EventKind
ended decision.Commit t = kind.Commit t
ended decision.Abort t = kind.Abort t

-- it ends none of these, where t is none of them
pub decided-spares : (d : Decision) (t : ℕ) (ps : List Prepared) → is_among (prepared_numbers ps) t ≡ false → SparesAll ps (decided_command d t)
decided-spares decision.Commit t ps other = other
decided-spares decision.Abort t ps other = other

-- nobody refuses to end who is open
unrefused : (old : Stored) (d : Decision) (t : ℕ) → is_open (summary old.history) t ≡ true → refusal_of old (decided_command d t) ≡ None
unrefused old decision.Commit t opened = ap (λ b. if not b then Some NotOpen else None) opened
unrefused old decision.Abort t opened = ap (λ b. if not b then Some NotOpen else None) opened

ends : (old : Stored) (d : Decision) (t : ℕ) (r : Result (Unit {0}) Refusal) (new : Stored) → is_open (summary old.history) t ≡ true → Steps old 0 (decided_command d t) r new
    → new.history ≡ old.history ++ event_of_kind (ended d t) ∷ []
ends old decision.Commit t r new opened step =
    ap (λ (s : Stored). s.history) step.1 ∙ ap (λ b. if is_some (if not b then Some NotOpen else None) then old.history else old.history ++ event_of_kind (kind.Commit t) ∷ []) opened
ends old decision.Abort t r new opened step =
    ap (λ (s : Stored). s.history) step.1 ∙ ap (λ b. if is_some (if not b then Some NotOpen else None) then old.history else old.history ++ event_of_kind (kind.Abort t) ∷ []) opened

-- so it ends
pub decided-step : (old : Stored) (d : Decision) (t : ℕ) (r : Result (Unit {0}) Refusal) (new : Stored) → is_open (summary old.history) t ≡ true → Steps old 0 (decided_command d t) r new
    → Steps {T = Unit {0}} old 0 (decided_command d t) (Ok (tt {0})) new
decided-step old d t r new opened step = (sym (unrefused old d t opened), step.1)

-- and nobody else does
pub decided-prepared : (old : Stored) (d : Decision) (t : ℕ) (r : Result (Unit {0}) Refusal) (new : Stored) (c : Contents) (ps : List Prepared) → is_open (summary old.history) t ≡ true
    → Steps old 0 (decided_command d t) r new → ArePrepared old.history c ps → ArePrepared new.history c (but_number t ps)
decided-prepared old d t r new c ps opened step are = by d (ends old d t r new opened step)
  where
    by : (d : Decision) → new.history ≡ old.history ++ event_of_kind (ended d t) ∷ [] → ArePrepared new.history c (but_number t ps)
    by decision.Commit is = subst (λ H. ArePrepared H c (but_number t ps)) (sym is) (prepared-snoc old.history (event_of_kind (kind.Commit t)) c ps are)
    by decision.Abort is = subst (λ H. ArePrepared H c (but_number t ps)) (sym is) (prepared-snoc old.history (event_of_kind (kind.Abort t)) c ps are)

-- its end and what its key says are written
pub ends-prepared : {S : Type 0} (g : Ghosts S) (old mid new : Durable S) (ended : Stored) (key : List ℕ) (d : Decision) (t count : ℕ) (outcome : Outcome) (r : Result (Unit {0}) Refusal) (p : Prepared) → IsDurable g old
    → Clean g old.journal → first_passing (has_key key) old.prepared.items ≡ Some p → p.number ≡ t → Steps old.store 0 (decided_command d t) r ended → count ≡ length old.store.history → mid.store ≡ ended
    → new.store ≡ mid.store → outcome ≡ decided_outcome d → written g mid.journal ≡ with_all (written g old.journal) (drop count ended.history)
    → written g new.journal ≡ with_key key (Some outcome) (written g mid.journal) → EndsPrepared old.store new.store (written g old.journal) (written g new.journal) key d
ends-prepared g old mid new ended key d t count outcome r p sound clean found number step many first second is writes keeps =
    let c = written g old.journal in
    let opened : is_open (summary old.store.history) t ≡ true =
    subst (λ n. is_open (summary old.store.history) n ≡ true) number (first-open old.store.history c old.prepared.items (has_key key) p (sound.prepared clean) found) in
    let store : new.store ≡ ended = second ∙ first in
    let since : drop count ended.history ≡ drop (length old.store.history) new.store.history = ap (λ n. drop n ended.history) many ∙ ap (λ (s : Stored). drop (length old.store.history) s.history) (sym store) in
    record {
      p = p;
      there = subst (λ ps. first_passing (has_key key) ps ≡ Some p) (sym (held-is g old sound clean)) found;
      step = subst (λ (s : Stored). Steps {T = Unit {0}} old.store 0 (decided_command d p.number) (Ok (tt {0})) s) (sym store)
          (subst (λ n. Steps {T = Unit {0}} old.store 0 (decided_command d n) (Ok (tt {0})) ended) (sym number) (decided-step old.store d t r ended opened step));
      written = keeps ∙ ap (λ (o : Outcome). with_key key (Some o) (written g mid.journal)) is ∙ ap (with_key key (Some (decided_outcome d))) (writes ∙ ap (with_all c) since);
    }
