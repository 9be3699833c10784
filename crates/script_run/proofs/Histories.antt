-- The history of a script.
use Rattle.store_limits.specs.declared.limits.Limits.{Limits}
use Rattle.std.proofs.Common.{◌≡◌, ℕ, zero, suc, ◌+◌, take, Bool, true, false, List, [], ◌∷◌, map, Option, Some, None, is_some, refl, sym, ap, ◌∙◌, zero-add, add-suc, suc-add, add-zero}
use Rattle.std.specs.Prelude.{if◌then◌else◌}
use Rattle.object_trait.specs.Object.{Object}
use Rattle.object_trait.specs.declared.event.Event.{Event}
use Rattle.object_trait.specs.declared.event.EventKind.{EventKind}
use Rattle.serial_order.specs.History.{summary}
use Rattle.serial_order.specs.Replay.{refusal, event_of, appended, after_command, replay_from}
use Rattle.serial_order.specs.declared.command.Command.{Command}
use Rattle.serial_order.specs.declared.refusal.Refusal.{Refusal}
use Rattle.script_run.specs.Turns.{history_after, answered_turn, command_turn, command_turns}
use Rattle.script_run.specs.Laws.{AllReplayed, EachReplayed}
use Rattle.script_run.proofs.Turns.{history_at}

-- where memory isn't refused, the turn of a command leaves the history after the command
answered-leaves : (H : List Event) (refused : Option Refusal) (happened : Option EventKind)
    → (answered_turn H refused happened).history ≡ (if is_some refused then H else appended H 0 happened)
answered-leaves H (Some r) happened = refl
answered-leaves H None (Some k) = refl
answered-leaves H None None = refl

-- and where it is, the history
turn-leaves : (objects : List Object) (limits : Limits) (memory_refused : Bool) (H : List Event) (command : Command)
    → (command_turn objects limits memory_refused H command).history ≡ (if memory_refused then H else after_command objects limits H 0 command)
turn-leaves objects limits true H command = refl
turn-leaves objects limits false H command = answered-leaves H (refusal objects limits H command) (event_of objects (summary H) command)

-- a replay whose places are counted from another number
replay-from : (objects : List Object) (limits : Limits) (memory_refused shifted : ℕ → Bool) (n : ℕ) (H : List Event) (commands : List Command)
    → ((i : ℕ) → shifted i ≡ memory_refused (n + i))
    → history_after H (command_turns objects limits shifted H commands) ≡ replay_from objects limits memory_refused n H (map (λ command. (0, command)) commands)
replay-from objects limits memory_refused shifted n H [] same = refl
replay-from objects limits memory_refused shifted n H (c ∷ commands) same =
    let turn = command_turn objects limits (shifted 0) H c in
    let here : turn.history ≡ (if memory_refused n then H else after_command objects limits H 0 c) =
    turn-leaves objects limits (shifted 0) H c
    ∙ ap (λ b. if b then H else after_command objects limits H 0 c) (same 0 ∙ ap memory_refused (add-zero n))
    in
    replay-from objects limits memory_refused (λ place. shifted (suc place)) (suc n) turn.history commands
    (λ i. same (suc i) ∙ ap memory_refused (add-suc n i ∙ sym (suc-add n i)))
    ∙ ap (λ K. replay_from objects limits memory_refused (suc n) K (map (λ command. (0, command)) commands)) here

-- from the first
pub commands-replay : AllReplayed
commands-replay = λ objects limits memory_refused H commands. replay-from objects limits memory_refused memory_refused 0 H commands (λ i. ap memory_refused (sym (zero-add i)))

-- the first turns are those of the first commands
first-turns : (objects : List Object) (limits : Limits) (memory_refused : ℕ → Bool) (H : List Event) (commands : List Command) (n : ℕ)
    → take n (command_turns objects limits memory_refused H commands) ≡ command_turns objects limits memory_refused H (take n commands)
first-turns objects limits memory_refused H [] zero = refl
first-turns objects limits memory_refused H [] (suc n) = refl
first-turns objects limits memory_refused H (c ∷ commands) zero = refl
first-turns objects limits memory_refused H (c ∷ commands) (suc n) =
    let turn = command_turn objects limits (memory_refused 0) H c in
    ap (λ turns. turn ∷ turns) (first-turns objects limits (λ place. memory_refused (suc place)) turn.history commands n)

-- so the history at a command's turn is the replay of the commands up to it
pub command-replays : EachReplayed
command-replays = λ objects limits memory_refused H commands i turn at.
    history_at H (command_turns objects limits memory_refused H commands) i turn at
    ∙ ap (history_after H) (first-turns objects limits memory_refused H commands (suc i)) ∙ commands-replay objects limits memory_refused H (take (suc i) commands)
