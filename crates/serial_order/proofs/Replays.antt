-- What comes of a list of commands is a run.
use Rattle.std.proofs.Common.{◌≡◌, ℕ, suc, ◌+◌, ◌<◌, ◌≤◌, Bool, true, false, not, ◌||◌, ◌==◌, List, [], ◌∷◌, ◌++◌, length, get_or, Option, Some, None, is_some, refl, ap, ◌∙◌, inl, inr, arith, add-zero, zero-add, add-suc, suc-add}
use Rattle.std.specs.Prelude.{slice_get, nat_lt, if◌then◌else◌}
use Rattle.std.specs.List.{position}
use Rattle.std.specs.Str.{bytes_eq}
use Rattle.std.proofs.lemmas.Bool.{cases_Bool, false≢true, true≢false, not-false, or_parts, and_right, eqb-false, ltb-false}
use Rattle.std.proofs.lemmas.List.{get_or-map}
use Rattle.std.proofs.lemmas.List.Quantifiers.{position-Some}
use Rattle.std.proofs.lemmas.Slice.Eq.{bytes_eq-Decides}
use Rattle.type_table.specs.Table.{Table, call_of}
use Rattle.type_table.specs.declared.op.Op.{Op}
use Rattle.object_trait.specs.Object.{Object}
use Rattle.object_trait.specs.declared.event.Event.{Event}
use Rattle.object_trait.specs.declared.event.EventKind.{EventKind}
use Rattle.object_trait.specs.declared.event.EventKind.TheVariants as kind
use Rattle.store_limits.specs.declared.limits.Limits.{Limits}
use Rattle.serial_order.specs.Operations.{of}
use Rattle.serial_order.specs.History.{summary, is_open}
use Rattle.serial_order.specs.Machine.{May, IsRun}
use Rattle.serial_order.specs.Replay.{call_at, refusal, call_event, event_of, after_command, replay_from, replay}
use Rattle.serial_order.specs.Laws.{FirstOpIsLeast, RunGoesOn, ReplayRuns, CommandAppends, RefusedAppendsNothing, ReplaysJoin}
use Rattle.serial_order.specs.Answer.{event_of_call}
use Rattle.serial_order.specs.declared.command.Command.{Command}
use Rattle.serial_order.specs.declared.command.Command.TheVariants.{Begin, Call, Commit, Abort, Rollback}
use Rattle.serial_order.specs.declared.refusal.Refusal.TheVariants.{NotOpen, NoObject, NoCall, BadRollback}
use Rattle.serial_order.proofs.Answers.{answer_may_follow}

-- ---- the first operation of a call

-- the name of the call of an operation of the table
call_of-within : (T : Table) (k : ℕ) (d : Op) → k < length T.ops → call_of T k ≡ (get_or T.ops k d).call
call_of-within T k d below = get_or-map (λ (o : Op). o.call) T.ops k d [] below

-- what a name finds, which isn't empty
named_first : (T : Table) (name : List ℕ) (c : ℕ) (some : Bool) → nat_lt 0 (length name) ≡ some → (if some then position (λ (q : Op). bytes_eq q.call name) T.ops else None) ≡ Some c
    → (nat_lt 0 (length name) ≡ true) × (position (λ (q : Op). bytes_eq q.call name) T.ops ≡ Some c)
named_first T name c true is found = (is, found)
named_first T name c false is found = absurd cc

-- the operation that a name finds is an operation, and the least of its call
pub first_op_is_least : FirstOpIsLeast
first_op_is_least = λ o name c found.
    let d : Op = record { call = []; reply = [] } in
    let named = named_first o.table name c (nat_lt 0 (length name)) refl found in
    let place = position-Some (λ (q : Op). bytes_eq q.call name) o.table.ops c d named.1 in
    let name_of_c = call_of-within o.table c d place.0 ∙ (bytes_eq-Decides (get_or o.table.ops c d).call name).0 place.1 in (
      ap (λ (n : List ℕ). nat_lt 0 (length n)) name_of_c ∙ named.0,
      λ k before. and_right (nat_lt k (length o.table.ops)) (bytes_eq (call_of o.table k) (call_of o.table c))
          (rw (name_of_c, call_of-within o.table k d (omega (arith, before, place.0))) (place.2 k before)),
    )

-- ---- commands that aren't refused

-- where a reason isn't given, it doesn't hold, and none after it is given
passed : {E : Type 0} (reason : Bool) (e : E) (rest : Option E) → is_some (if reason then Some e else rest) ≡ false → (reason ≡ false) × (is_some rest ≡ false)
passed true e rest fine = absurd (true≢false fine)
passed false e rest fine = (refl, fine)

-- a command whose transaction is open
passed_open : {E : Type 0} (is_open_now : Bool) (e : E) (rest : Option E) → is_some (if not is_open_now then Some e else rest) ≡ false → (is_open_now ≡ true) × (is_some rest ≡ false)
passed_open is_open_now e rest fine = let h = passed (not is_open_now) e rest fine in (not-false is_open_now h.0, h.1)

-- an event comes of a command, and may follow
pub record Comes (objects : List Object) (H : List Event) (event : Option EventKind) : Type 0 where
  pub happened : EventKind
  pub is : event ≡ Some happened
  pub follows : May objects (summary H) happened

-- of a call of an open transaction at an object that is there, by a name that one of its operations has
call_follows : (objects : List Object) (H : List Event) (t x : ℕ) (name : List ℕ) → is_open (summary H) t ≡ true →
    (there : Option Object) → slice_get objects x ≡ there → is_some there ≡ true →
    (first : Option ℕ) → call_at there name ≡ first → is_some first ≡ true →
    Comes objects H (call_event there (summary H) x t first)
call_follows objects H t x name open_now None at_x some first finds named = absurd (false≢true some)
call_follows objects H t x name open_now (Some o) at_x some None finds named = absurd (false≢true named)
call_follows objects H t x name open_now (Some o) at_x some (Some c) finds named =
    record { happened = event_of_call o (summary H) x t c; is = refl; follows = answer_may_follow objects H x o 0 t c at_x open_now (first_op_is_least o name c finds) }

-- a rollback of some operations, and of no more than there are
rollback_range : (n most : ℕ) → (n == 0 || nat_lt most n) ≡ false → (0 < n) × (n ≤ most)
rollback_range n most fine =
    let h = or_parts (n == 0) (nat_lt most n) fine in
    (omega (arith, eqb-false n 0 h.0), ltb-false most n h.1)

-- of a command that isn't refused
event_follows : (objects : List Object) (limits : Limits) (H : List Event) (command : Command) → is_some (refusal objects limits H command) ≡ false →
    Comes objects H (event_of objects (summary H) command)
event_follows objects limits H Begin fine = record { happened = kind.Begin (summary H).begun; is = refl; follows = refl }
event_follows objects limits H (Call t x name) fine =
    let a = passed_open (is_open (summary H) t) NotOpen _ fine in
    let b = passed_open (is_some (slice_get objects x)) NoObject _ a.1 in
    let c = passed_open (is_some (call_at (slice_get objects x) name)) NoCall _ b.1 in
    call_follows objects H t x name a.0 (slice_get objects x) refl b.0 (call_at (slice_get objects x) name) refl c.0
event_follows objects limits H (Commit t) fine = record { happened = kind.Commit t; is = refl; follows = (passed_open (is_open (summary H) t) NotOpen _ fine).0 }
event_follows objects limits H (Abort t) fine = record { happened = kind.Abort t; is = refl; follows = (passed_open (is_open (summary H) t) NotOpen _ fine).0 }
event_follows objects limits H (Rollback t n) fine =
    let a = passed_open (is_open (summary H) t) NotOpen _ fine in
    let b = passed (n == 0 || nat_lt (length (of t (summary H).survives)) n) BadRollback _ a.1 in
    let range = rollback_range n (length (of t (summary H).survives)) b.0 in
    record { happened = kind.Rollback t n; is = refl; follows = (a.0, range.0, range.1) }

-- ---- the history after commands

-- a command that isn't refused appends its event
pub command_appends : CommandAppends
command_appends = λ objects limits H w command fine.
    let accepted : is_some (refusal objects limits H command) ≡ false = rw fine refl in
    let comes = event_follows objects limits H command accepted in
    record { happened = comes.happened; is = comes.is; may_follow = comes.follows; appends = rw (accepted, comes.is) refl }

-- and a refused one nothing
pub refused_appends_nothing : RefusedAppendsNothing
refused_appends_nothing = λ objects limits H w command reason refused. rw refused refl

-- a run goes on by a command, refused or not
command_runs : RunGoesOn → (objects : List Object) (limits : Limits) (H : List Event) (w : ℕ) (command : Command) → IsRun objects H →
    IsRun objects (after_command objects limits H w command)
command_runs goes_on objects limits H w command runs =
    elim (cases_Bool (is_some (refusal objects limits H command))) [
      | inl refused ↦ rw refused runs
      | inr fine ↦
          let comes = event_follows objects limits H command fine in
          rw (fine, comes.is) (goes_on objects H (record { worker = w; kind = comes.happened }) runs comes.follows)
    ]

-- one of two runs is a run
either_runs : (objects : List Object) (test : Bool) (H K : List Event) → IsRun objects H → IsRun objects K → IsRun objects (if test then H else K)
either_runs objects true H K first second = first
either_runs objects false H K first second = second

-- so the history after commands from a place on
commands_run : RunGoesOn → (objects : List Object) (limits : Limits) (memory_refused : ℕ → Bool) (place : ℕ) (H : List Event) (commands : List (ℕ × Command)) →
    IsRun objects H → IsRun objects (replay_from objects limits memory_refused place H commands)
commands_run goes_on objects limits memory_refused place H [] runs = runs
commands_run goes_on objects limits memory_refused place H (c ∷ commands) runs =
    let after = after_command objects limits H (c.0) (c.1) in
    commands_run goes_on objects limits memory_refused (suc place) (if memory_refused place then H else after) commands
    (either_runs objects (memory_refused place) H after runs (command_runs goes_on objects limits H (c.0) (c.1) runs))

-- the history after any commands is a run
pub replay_runs : RunGoesOn → ReplayRuns
replay_runs goes_on = λ objects limits memory_refused H commands runs. commands_run goes_on objects limits memory_refused 0 H commands runs

-- ---- one list of commands after another

-- where memory is refused at the same places from two places on, the history after commands is the same
same_memory_refused : (objects : List Object) (limits : Limits) (memory_refused other : ℕ → Bool) (place from : ℕ) → ((i : ℕ) → memory_refused (place + i) ≡ other (from + i)) →
    (H : List Event) (commands : List (ℕ × Command)) → replay_from objects limits memory_refused place H commands ≡ replay_from objects limits other from H commands
same_memory_refused objects limits memory_refused other place from same H [] = refl
same_memory_refused objects limits memory_refused other place from same H (c ∷ commands) =
    let here : memory_refused place ≡ other from = rw (add-zero place, add-zero from) at (same 0) in
    let later : (i : ℕ) → memory_refused (suc place + i) ≡ other (suc from + i) = λ i. rw (suc-add place i, suc-add from i, ← (add-suc place i), ← (add-suc from i)) (same (suc i)) in
    rw here (same_memory_refused objects limits memory_refused other (suc place) (suc from) later
    (if other from then H else after_command objects limits H (c.0) (c.1)) commands)

-- the history after two lists from a place on
joined_from : (objects : List Object) (limits : Limits) (memory_refused : ℕ → Bool) (place : ℕ) (H : List Event) (first second : List (ℕ × Command)) →
    replay_from objects limits memory_refused place H (first ++ second) ≡ replay_from objects limits memory_refused (place + length first) (replay_from objects limits memory_refused place H first) second
joined_from objects limits memory_refused place H [] second = rw add-zero refl
joined_from objects limits memory_refused place H (c ∷ first) second =
    rw (add-suc place (length first), ← (suc-add place (length first)))
    (joined_from objects limits memory_refused (suc place) (if memory_refused place then H else after_command objects limits H (c.0) (c.1)) first second)

-- the replay of two lists
pub replays_join : ReplaysJoin
replays_join = λ objects limits memory_refused H first second.
    joined_from objects limits memory_refused 0 H first second
    ∙ same_memory_refused objects limits memory_refused (λ i. memory_refused (length first + i)) (0 + length first) 0 (λ i. rw (zero-add (length first), zero-add i) refl)
    (replay objects limits memory_refused H first) second
