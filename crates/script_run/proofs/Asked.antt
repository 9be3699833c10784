-- One command that is asked, and its line.
use Rattle.std.proofs.Common.{◌≡◌, ℕ, Bool, true, false, List, [], ◌∷◌, ◌++◌, inl, inr, Option, Some, None, is_some, Result, sym, ap, ◌∙◌, subst}
use Rattle.std.specs.Prelude.{if◌then◌else◌}
use Rattle.std.proofs.lemmas.Bool.{false≢true}
use Rattle.std.proofs.lemmas.Option.{none-some, same_Some}
use Rattle.object_trait.specs.declared.event.EventKind.{EventKind}
use Rattle.outputs.specs.Out.{Puts}
use Rattle.outputs.specs.declared.out.OutFault.{OutFault}
use Rattle.serial_order.specs.History.{summary}
use Rattle.serial_order.specs.Laws.{CommandAppends}
use Rattle.serial_order.specs.Replay.{event_of, appended}
use Rattle.serial_order.specs.declared.command.Command.{Command}
use Rattle.serial_order.specs.declared.refusal.Refusal.{Refusal}
use Rattle.serial_order.specs.declared.refusal.Refusal.TheVariants.{NoMemory}
use Rattle.store_laws.specs.Stored.{Stored, objects, refusal_of, stored_after}
use Rattle.script_run.specs.Turns.{Turn, line_of, by_script, event_turn, refused_turn, accepted_turn, answered_turn, command_turn}
use Rattle.script_run.specs.Runs.{takes_memory, Asks, Writes, RunsCommands}
use Rattle.script_run.proofs.Turns.{one_turn}

-- one command whose turn is this one
one_command : (s new : Stored) (command : Command) (memory_refused : Bool) (turn : Turn) {a b : Option (List ℕ)} {f : Option OutFault} {result : Result (Unit {0}) OutFault}
    → (memory_refused ≡ true → (takes_memory command ≡ true) × (refusal_of s command ≡ None)) → command_turn (objects s) s.limits memory_refused s.history command ≡ turn
    → new ≡ record s { history = turn.history } → Puts a b f (line_of turn) result → RunsCommands s (command ∷ []) a b f new result
one_command s new command memory_refused turn {a = a} {b = b} {f = f} {result = result} right is now p =
    record {
      memory_refused = λ place. memory_refused;
      may_refuse_memory = (right, tt);
      writes = subst (λ (d : Turn). Writes s (d ∷ []) a b f new result) (sym is) (one_turn s new turn now p);
    }

-- ---- a command that is refused

-- for a reason that holds
refused_by : (s : Stored) (command : Command) (r : Refusal) → refusal_of s command ≡ Some r → command_turn (objects s) s.limits false s.history command ≡ refused_turn s.history r
refused_by s command r e = ap (λ o. answered_turn s.history o (event_of (objects s) (summary s.history) command)) e

-- it changes nothing
refused_stays : (s : Stored) (command : Command) (r : Refusal) → refusal_of s command ≡ Some r → stored_after s 0 command ≡ s
refused_stays s command r e =
    ap (λ (o : Option Refusal). record s { history = if is_some o then s.history else appended s.history 0 (event_of (objects s) (summary s.history) command) }) e

-- its line
pub asked-refused : (s new : Stored) (command : Command) (r : Refusal) {a b : Option (List ℕ)} {f : Option OutFault} {result : Result (Unit {0}) OutFault}
    → Asks s command (Some r) new → Puts a b f (line_of (refused_turn s.history r)) result → RunsCommands s (command ∷ []) a b f new result
asked-refused s new command r (inl (reason, now)) p =
    one_command s new command false (refused_turn s.history r) (λ memory_refused. absurd (false≢true memory_refused)) (refused_by s command r (sym reason))
    (now ∙ refused_stays s command r (sym reason)) p
asked-refused s new command r (inr (takes, no_other, reason, now)) p =
    one_command s new command true (refused_turn s.history r) (λ memory_refused. (takes, no_other)) (ap (refused_turn s.history) (sym (same_Some r NoMemory reason))) now p

-- ---- a command that is accepted

-- its event is appended
pub record IsAccepted (s : Stored) (command : Command) (new : Stored) : Type 0 where
  pub happened : EventKind
  pub event : event_of (objects s) (summary s.history) command ≡ Some happened
  pub no_refusal : refusal_of s command ≡ None
  pub now : new ≡ record s { history = s.history ++ by_script happened ∷ [] }

-- what isn't refused is accepted
pub asked-accepted : CommandAppends → (s new : Stored) (command : Command) → Asks s command None new → IsAccepted s command new
asked-accepted appends s new command (inl (reason, now)) =
    let fine : refusal_of s command ≡ None = sym reason in
    let its = appends (objects s) s.limits s.history 0 command fine in
    record {
      happened = its.happened;
      event = its.is;
      no_refusal = fine;
      now = now
          ∙ ap (λ (o : Option Refusal). record s { history = if is_some o then s.history else appended s.history 0 (event_of (objects s) (summary s.history) command) }) fine
          ∙ ap (λ (o : Option EventKind). record s { history = appended s.history 0 o }) its.is;
    }
asked-accepted appends s new command (inr (takes, no_other, reason, now)) = absurd (none-some NoMemory reason)

-- its line
pub accepted-line : (s new : Stored) (command : Command) {a b : Option (List ℕ)} {f : Option OutFault} {result : Result (Unit {0}) OutFault}
    → (its : IsAccepted s command new) → Puts a b f (line_of (event_turn s.history its.happened)) result → RunsCommands s (command ∷ []) a b f new result
accepted-line s new command its p =
    one_command s new command false (event_turn s.history its.happened) (λ memory_refused. absurd (false≢true memory_refused))
    (ap (λ o. answered_turn s.history o (event_of (objects s) (summary s.history) command)) its.no_refusal ∙ ap (accepted_turn s.history) its.event) its.now p
