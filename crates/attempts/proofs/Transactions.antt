-- The calls of a transaction that began, one after another, and its end.
use Rattle.std.proofs.Common.{◌≡◌, ℕ, suc, ◌+◌, ◌<◌, ◌≤◌, Bool, true, false, not, ◌&&◌, ◌==◌, List, [], ◌∷◌, ◌++◌, length, map, take, get_or, Some, None, is_some, slice_get, Result, Ok, Err, refl, sym, ap, subst, ◌∙◌, arith, append-nil, add-zero}
use Rattle.std.specs.Prelude.{if◌then◌else◌}
use Rattle.std.specs.Option.{option_map}
use Rattle.std.proofs.lemmas.Bool.Decides.{nat_tests}
use Rattle.std.proofs.lemmas.List.{map-append, length-map, length-append, length-take-le, take_all}
use Rattle.std.proofs.lemmas.Option.{slice_get-map, slice_get-get_or, slice_get_within}
use Rattle.type_table.proofs.Elements.{take-found, take-suc_found}
use Rattle.object_trait.specs.declared.event.EventKind.TheVariants.{Commit, Abort}
use Rattle.serial_order.specs.Laws.{ReplaysJoin}
use Rattle.serial_order.specs.History.{summary, is_open}
use Rattle.serial_order.specs.Replay.{is_history_full}
use Rattle.serial_order.specs.declared.command.Command.{Command}
use Rattle.serial_order.specs.declared.command.Command.TheVariants as command
use Rattle.serial_order.specs.declared.refusal.Refusal.TheVariants.{NotOpen}
use Rattle.store_laws.specs.Stored.{Stored, objects, stored_after}
use Rattle.attempts.specs.declared.outcome.AttemptCall.{AttemptCall}
use Rattle.attempts.specs.declared.outcome.Ending.{Ending}
use Rattle.attempts.specs.declared.outcome.Stop.{Stop}
use Rattle.attempts.specs.Commands.{CallAt, asked_call, asked_calls, call_command, is_for_memory, with_kinds, commands_replayed}
use Rattle.attempts.specs.Answers.{operation_events, EndsSo}
use Rattle.attempts.specs.Made.{never, CallsAreMade, CallsAreStopped, MakesCalls, TransactionCommits, TransactionAborts, EndsCalls}
use Rattle.attempts.proofs.Replays.{replayed-more, never-more}
use Rattle.attempts.proofs.Events.{events-more, operations-more}

-- ---- calls

-- the call at a place of those that are asked
pub there-at : (calls : List AttemptCall) (at : ℕ) (other : AttemptCall) → at < length calls → slice_get (asked_calls calls) at ≡ Some (asked_call (get_or calls at other))
there-at calls at other low = slice_get-map asked_call calls at ∙ ap (option_map asked_call) (slice_get-get_or calls at other low)

-- none
pub made-none : (s : Stored) (w t : ℕ) → is_open (summary s.history) t ≡ true → CallsAreMade s w t [] [] s
made-none s w t going =
    record {
      as_many = refl;
      replays = refl;
      events = sym (ap (λ H. record s { history = H }) (append-nil s.history));
      going = going;
      room = sym (add-zero _);
    }

module _ (joins : ReplaysJoin) where
  -- some, and others after them
  made-join : (s mid now : Stored) (w t : ℕ) (a b : List CallAt) (ks js : List ℕ) → CallsAreMade s w t a ks mid → CallsAreMade mid w t b js now → CallsAreMade s w t (a ++ b) (ks ++ js) now
  made-join s mid now w t a b ks js first last =
      let many : length (a ++ b) ≡ length a + length b = length-append a b in
      let all : length (ks ++ js) ≡ length ks + length js = length-append ks js in
      record {
        as_many = omega (arith, many, all, first.as_many, last.as_many);
        replays = never-more joins s mid now w (map (call_command t) a) (map (call_command t) b) first.replays last.replays
            ∙ ap (λ cs. commands_replayed s never w cs) (sym (map-append (call_command t) a b));
        events = events-more s mid now w (operation_events t a ks) (operation_events t b js) first.events last.events
            ∙ ap (λ es. with_kinds s w es) (sym (operations-more t a b ks js first.as_many));
        going = last.going;
        room = omega (arith, many, first.room, last.room);
      }

  -- those before a place, and the one there
  pub made-more : (s mid now : Stored) (w t : ℕ) (calls : List CallAt) (at : ℕ) (call : CallAt) (ks : List ℕ) (k : ℕ) → slice_get calls at ≡ Some call
      → CallsAreMade s w t (take at calls) ks mid → CallsAreMade mid w t (call ∷ []) (k ∷ []) now → CallsAreMade s w t (take (at + 1) calls) (ks ++ k ∷ []) now
  made-more s mid now w t calls at call ks k there before one =
      subst (λ cs. CallsAreMade s w t cs (ks ++ k ∷ []) now) (sym (take-found calls at call there)) (made-join s mid now w t (take at calls) (call ∷ []) ks (k ∷ []) before one)

-- those before the end
pub made-all : (s now : Stored) (w t : ℕ) (calls : List CallAt) (at : ℕ) (ks : List ℕ) → length calls ≤ at → CallsAreMade s w t (take at calls) ks now → CallsAreMade s w t calls ks now
made-all s now w t calls at ks past made = subst (λ cs. CallsAreMade s w t cs ks now) (take_all at calls past) made

-- there is room for the next
pub room-next : (s mid : Stored) (w t : ℕ) (calls : List CallAt) (at : ℕ) (ks : List ℕ) → CallsAreMade s w t (take at calls) ks mid → at < length calls
    → is_history_full s.limits s.history (length calls) ≡ false → is_history_full mid.limits mid.history 1 ≡ false
room-next s mid w t calls at ks made low room =
    let same : mid.limits.events ≡ s.limits.events = ap (λ (z : Stored). z.limits.events) made.replays in
    let done : length (take at calls) ≡ at = length-take-le at calls (omega (arith, low)) in
    let used = made.room in
    grind (arith, nat_tests, same, done, used, low, room)

-- ---- the end

-- an open transaction commits
commit-appends : (s : Stored) (w t : ℕ) → is_open (summary s.history) t ≡ true → stored_after s w (command.Commit t) ≡ with_kinds s w (Commit t ∷ [])
commit-appends s w t going =
    ap (λ b. record s { history = if is_some (if not b then Some NotOpen else None) then s.history else s.history ++ (record { worker = w; kind = Commit t }) ∷ [] }) going

-- or aborts
abort-appends : (s : Stored) (w t : ℕ) → is_open (summary s.history) t ≡ true → stored_after s w (command.Abort t) ≡ with_kinds s w (Abort t ∷ [])
abort-appends s w t going =
    ap (λ b. record s { history = if is_some (if not b then Some NotOpen else None) then s.history else s.history ++ (record { worker = w; kind = Abort t }) ∷ [] }) going

-- after all calls
pub committed : ReplaysJoin → (s mid now : Stored) (w t : ℕ) (calls : List CallAt) (ks : List ℕ) → CallsAreMade s w t calls ks mid → now ≡ stored_after mid w (command.Commit t)
    → TransactionCommits s w t calls ks now
committed joins s mid now w t calls ks made is =
    record {
      as_many = made.as_many;
      replays = never-more joins s mid now w (map (call_command t) calls) (command.Commit t ∷ []) made.replays is;
      events = events-more s mid now w (operation_events t calls ks) (Commit t ∷ []) made.events (is ∙ commit-appends mid w t made.going);
    }

-- ---- the place at which memory was refused

elsewhere : (m : Bool) (i at : ℕ) → (i ≡ at → ⊥) → (m && i == at) ≡ false
elsewhere true i at other = grind (arith, nat_tests, other)
elsewhere false i at other = refl

just-there : (m : Bool) (i at : ℕ) → i ≡ at → (m && i == at) ≡ m
just-there true i at same = grind (arith, nat_tests, same)
just-there false i at same = refl

-- a call that isn't replied to, and the abort behind it
aborted : ReplaysJoin → (s mid now : Stored) (w t : ℕ) (calls : List CallAt) (ks : List ℕ) (at : ℕ) (how : Ending) → CallsAreStopped s w t calls ks at how mid
    → now ≡ stored_after mid w (command.Abort t) → TransactionAborts s w t calls at how now
aborted joins s mid now w t calls ks at how stopped is =
    let call = stopped.call in
    let m = is_for_memory how in
    let first = map (call_command t) (take at calls) in
    let last : List Command = call_command t call ∷ [] in
    let low : at < length calls = slice_get_within calls at call stopped.there in
    let done : length (take at calls) ≡ at = length-take-le at calls (omega (arith, low)) in
    let many : length first ≡ at = length-map (take at calls) (call_command t) ∙ done in
    let more : length (first ++ last) ≡ length first + 1 = length-append first last in
    let asked : first ++ last ≡ map (call_command t) (take (suc at) calls) =
    sym (map-append (call_command t) (take at calls) (call ∷ [])) ∙ ap (λ cs. map (call_command t) cs) (sym (take-suc_found calls at call stopped.there))
    in
    let called : mid ≡ commands_replayed s (λ i. m && i == at) w (first ++ last) =
    replayed-more joins s stopped.before mid w first last (λ i. m && i == at) never (λ i. m)
    (λ i before. elsewhere m i at (λ same. omega (arith, before, many, same))) (λ i one. just-there m (length first + i) at (omega (arith, many, one)))
    stopped.made.replays stopped.last.replays
    in
    let ended : now ≡ commands_replayed s (λ i. m && i == at) w ((first ++ last) ++ command.Abort t ∷ []) =
    replayed-more joins s mid now w (first ++ last) (command.Abort t ∷ []) (λ i. m && i == at) (λ i. m && i == at) never (λ i before. refl)
    (λ i one. elsewhere m (length (first ++ last) + i) at (λ same. omega (arith, more, many, same))) called is
    in
    let answered : mid ≡ with_kinds s w (operation_events t (take at calls) ks ++ stopped.last.answer) =
    events-more s stopped.before mid w (operation_events t (take at calls) ks) stopped.last.answer stopped.made.events stopped.last.events
    in
    record {
      call = call;
      there = stopped.there;
      operations = ks;
      as_many = stopped.made.as_many ∙ done;
      answer = stopped.last.answer;
      ends = subst (λ os. EndsSo os t call how stopped.last.answer) (ap objects stopped.made.replays) stopped.last.ends;
      replays = ended ∙ ap (λ cs. commands_replayed s (λ i. m && i == at) w (cs ++ command.Abort t ∷ [])) asked;
      events = events-more s mid now w (operation_events t (take at calls) ks ++ stopped.last.answer) (Abort t ∷ []) answered (is ∙ abort-appends mid w t stopped.last.going);
    }

-- either, of calls that were made or stopped
module _ (joins : ReplaysJoin) (s mid now : Stored) (w t : ℕ) (calls : List CallAt) (ks : List ℕ) where
  pub ends-commit : (made : Result (Unit {0}) Stop) (x : Unit {0}) → made ≡ Ok x → now ≡ stored_after mid w (command.Commit t) → MakesCalls s w t calls ks made mid
      → EndsCalls s w t calls ks (Ok x) now
  ends-commit (Ok y) x is to did = committed joins s mid now w t calls ks did to
  ends-commit (Err stop) x is to did = absurd cc

  pub ends-abort : (made : Result (Unit {0}) Stop) (stop : Stop) → made ≡ Err stop → now ≡ stored_after mid w (command.Abort t) → MakesCalls s w t calls ks made mid
      → EndsCalls s w t calls ks (Err stop) now
  ends-abort (Ok y) stop is to did = absurd cc
  ends-abort (Err other) stop is to did =
      let same : other ≡ stop = cc in
      subst (λ (z : Stop). TransactionAborts s w t calls z.at z.how now) same (aborted joins s mid now w t calls ks other.at other.how did to)
