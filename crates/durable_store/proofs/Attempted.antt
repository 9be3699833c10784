-- A whole transaction makes events that the journal hasn't yet.
use Rattle.std.proofs.Common.{◌≡◌, ◌∙◌, ℕ, ◌≤◌, suc, Bool, true, false, List, [], ◌∷◌, ◌++◌, if◌then◌else◌, map, take, length, sym, ap, subst, append-nil}
use Rattle.sqlite_trees.specs.declared.store.Store.{Ghosts}
use Rattle.object_trait.specs.declared.event.Event.{Event}
use Rattle.object_trait.specs.declared.event.EventKind.{EventKind}
use Rattle.object_trait.specs.declared.event.EventKind.TheVariants.{Begin, Commit, Abort}
use Rattle.serial_order.specs.History.{begins}
use Rattle.serial_order.specs.Replay.{after_command, replay_from}
use Rattle.serial_order.specs.declared.command.Command.{Command}
use Rattle.store_laws.specs.Stored.{Stored, objects}
use Rattle.store.specs.Retraces.{IsTracedHistory, StepsAreTraced}
use Rattle.attempts.specs.declared.outcome.Attempt.{Attempt}
use Rattle.attempts.specs.declared.outcome.Attempt.TheVariants.{Done, Ended, NotBegun}
use Rattle.attempts.specs.Commands.{CallAt, attempt_commands, is_memory_refused_at, commands_replayed}
use Rattle.attempts.specs.Answers.{AttemptAnswers, operation_events}
use Rattle.event_text.specs.EventText.{events_of_kinds}
use Rattle.durable_store.specs.declared.durable.Durable.{Durable}
use Rattle.durable_store.specs.Durable.{IsBehind, IsDurable}
use Rattle.durable_store.proofs.Stepped.{behind-more}

-- the store with this history
abbrev after : Stored → List Event → Stored
after s H = record s { history = H }

-- the chosen one of two is its own
either-own : (s : Stored) (b : Bool) (H K : List Event) → IsTracedHistory (after s H) → IsTracedHistory (after s K) → IsTracedHistory (after s (if b then H else K))
either-own s true H K first second = first
either-own s false H K first second = second

-- so it stays by commands, one after another, wherever memory is refused
replay-own : StepsAreTraced → (s : Stored) (refused : ℕ → Bool) (place : ℕ) (H : List Event) (commands : List (ℕ × Command)) → IsTracedHistory (after s H)
    → IsTracedHistory (after s (replay_from (objects s) s.limits refused place H commands))
replay-own steps s refused place H [] own = own
replay-own steps s refused place H (c ∷ commands) own =
    let next = after_command (objects s) s.limits H c.0 c.1 in
    replay-own steps s refused (suc place) (if refused place then H else next) commands (either-own s (refused place) H next own (steps (after s H) c.0 c.1 own))

-- its events are of worker 0
attempt-events : (old : Stored) (calls : List CallAt) (came : Attempt) (new : Stored) → AttemptAnswers old 0 calls came new → (more : List EventKind) × (new ≡ record old { history = old.history ++ events_of_kinds more })
attempt-events old calls (Done ks) new done =
    (Begin (begins old.history) ∷ (operation_events (begins old.history) calls ks.items ++ Commit (begins old.history) ∷ []), done.events)
attempt-events old calls (Ended at how) new ended =
    (Begin (begins old.history) ∷ ((operation_events (begins old.history) (take at calls) ended.operations ++ ended.answer) ++ Abort (begins old.history) ∷ []), ended.events)
attempt-events old calls (NotBegun r) new none = ([], none.1 ∙ ap (λ H. record old { history = H }) (sym (append-nil old.history)))

pub attempt-behind : {S : Type 0} (g : Ghosts S) (d : Durable S) (calls : List CallAt) (came : Attempt) (s : Stored) (count : ℕ) → StepsAreTraced → IsDurable g d → count ≡ length d.store.history → d.store.forgotten ≤ count
    → s ≡ commands_replayed d.store (is_memory_refused_at came) 0 (attempt_commands (begins d.store.history) calls came) → AttemptAnswers d.store 0 calls came s → IsBehind g (record { store = s; journal = d.journal; names = d.names; prepared = d.prepared; strong = d.strong }) count
attempt-behind g d calls came s count steps sound is remembered replays answers =
    let it = attempt-events d.store calls came s answers in
    behind-more g d s count it.0 sound is remembered it.1
    (subst IsTracedHistory (sym replays) (replay-own steps d.store (is_memory_refused_at came) 0 d.store.history (map (λ command. (0, command)) (attempt_commands (begins d.store.history) calls came)) sound.own))
