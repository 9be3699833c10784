-- What a store's commands make ends nobody who is prepared, but the end of one of them.
use Rattle.std.proofs.Common.{◌≡◌, ℕ, take, Bool, true, false, not, List, [], ◌∷◌, ◌++◌, cond, length, filter, map, Option, Some, None, is_some, if◌then◌else◌, Result, inl, inr, refl, sym, subst}
use Rattle.std.specs.Prelude.{◌&&◌, slice_get}
use Rattle.std.specs.List.{AllByRecursion, range_with_len}
use Rattle.type_table.proofs.Elements.{each-append, each-push}
use Rattle.object_trait.specs.Object.{Object}
use Rattle.object_trait.specs.declared.event.Event.{Event}
use Rattle.object_trait.specs.declared.event.EventKind.{EventKind}
use Rattle.object_trait.specs.declared.event.EventKind.TheVariants as kind
use Rattle.type_table.specs.Least.{first_below}
use Rattle.serial_order.specs.Answer.{blocker, busy_with, event_of_first, is_free_reply, is_reply, refused}
use Rattle.serial_order.specs.History.{Summary, begins, is_open, summary}
use Rattle.serial_order.specs.Operations.{is_among}
use Rattle.serial_order.specs.Replay.{appended, call_at, call_event, event_of}
use Rattle.serial_order.specs.declared.command.Command.{Command}
use Rattle.serial_order.specs.declared.command.Command.TheVariants as command
use Rattle.serial_order.specs.declared.entry.Entry.{Entry}
use Rattle.serial_order.specs.declared.refusal.Refusal.{Refusal}
use Rattle.store.specs.Ends.{closing_abort, closing_but, is_other}
use Rattle.attempts.specs.declared.outcome.Attempt.{Attempt}
use Rattle.attempts.specs.declared.outcome.Attempt.TheVariants.{Done, Ended, NotBegun}
use Rattle.attempts.specs.declared.outcome.Ending.{Ending}
use Rattle.attempts.specs.declared.outcome.Ending.TheVariants as ending
use Rattle.attempts.specs.Commands.{CallAt}
use Rattle.attempts.specs.Answers.{AttemptAnswers, EndsSo, operation_events}
use Rattle.store_laws.specs.Stored.{MayStep, Steps, Stored, objects, refusal_of}
use Rattle.event_text.specs.EventText.{events_of_kinds}
use Rattle.journal.specs.declared.prepared_row.Prepared.{Prepared}
use Rattle.journal.specs.Contents.{Contents}
use Rattle.durable_store.specs.Held.{ArePrepared, prepared_numbers}
use Rattle.durable_store.proofs.Undecided.{Spares, began-each, none-has, none-later, prepared-append, prepared-next}

-- ---- a command

-- a command ends none of these
abbrev pub SparesAll : List Prepared → Command → Type 0
SparesAll ps (command.Commit t) = is_among (prepared_numbers ps) t ≡ false
SparesAll ps (command.Abort t) = is_among (prepared_numbers ps) t ≡ false
SparesAll ps other = Unit {0}

-- nor does what came of it, if anything
abbrev SparesMaybe : List Prepared → Option EventKind → Type 0
SparesMaybe ps None = Unit {0}
SparesMaybe ps (Some happened) = Spares ps happened

-- what ends nobody ends none of these
nobody : (ps : List Prepared) → AllByRecursion (λ (p : Prepared). not false ≡ true) ps
nobody [] = tt
nobody (p ∷ ps) = (refl, nobody ps)

busy-spares : (ps : List Prepared) (e : Option Entry) (t x c : ℕ) → Spares ps (busy_with e t x c)
busy-spares ps None t x c = nobody ps
busy-spares ps (Some e) t x c = nobody ps

refused-spares : (ps : List Prepared) (o : Object) (s : Summary) (x t c : ℕ) (first : Option ℕ) → Spares ps (refused o s x t c first)
refused-spares ps o s x t c None = nobody ps
refused-spares ps o s x t c (Some k) = busy-spares ps (blocker o s x t k) t x c

first-spares : (ps : List Prepared) (o : Object) (s : Summary) (x t c : ℕ) (first : Option ℕ) → Spares ps (event_of_first o s x t c first)
first-spares ps o s x t c (Some k) = nobody ps
first-spares ps o s x t c None = refused-spares ps o s x t c (first_below (length o.table.ops) (is_reply o s x t c))

call-spares : (ps : List Prepared) (o : Option Object) (s : Summary) (x t : ℕ) (c : Option ℕ) → SparesMaybe ps (call_event o s x t c)
call-spares ps None s x t c = tt
call-spares ps (Some o) s x t None = tt
call-spares ps (Some o) s x t (Some c) = first-spares ps o s x t c (first_below (length o.table.ops) (is_free_reply o s x t c))

command-spares : (objects : List Object) (s : Summary) (ps : List Prepared) (given : Command) → SparesAll ps given → SparesMaybe ps (event_of objects s given)
command-spares objects s ps command.Begin spares = nobody ps
command-spares objects s ps (command.Call t x name) spares = call-spares ps (slice_get objects x) s x t (call_at (slice_get objects x) name)
command-spares objects s ps (command.Commit t) spares = none-has ps t spares
command-spares objects s ps (command.Abort t) spares = none-has ps t spares
command-spares objects s ps (command.Rollback t n) spares = nobody ps

-- the history after it
after-prepared : (H : List Event) (c : Contents) (ps : List Prepared) (r : Option Refusal) (happened : Option EventKind) → SparesMaybe ps happened → ArePrepared H c ps
    → ArePrepared (if is_some r then H else appended H 0 happened) c ps
after-prepared H c ps (Some why) happened spares are = are
after-prepared H c ps None None spares are = are
after-prepared H c ps None (Some happened) spares are = prepared-next H (record { worker = 0; kind = happened }) c ps spares are

-- who is prepared stays so by a command that ends none of them
pub done-prepared : {T : Type 0} (old : Stored) (given : Command) (r : Result T Refusal) (new : Stored) (c : Contents) (ps : List Prepared) → SparesAll ps given → Steps old 0 given r new
    → ArePrepared old.history c ps → ArePrepared new.history c ps
done-prepared old given r new c ps spares step are =
    subst (λ (s : Stored). ArePrepared s.history c ps) (sym step.1)
    (after-prepared old.history c ps (refusal_of old given) (event_of (objects old) (summary old.history) given) (command-spares (objects old) (summary old.history) ps given spares) are)

-- or that may have been done
pub step-prepared : {T : Type 0} (old : Stored) (given : Command) (r : Result T Refusal) (new : Stored) (c : Contents) (ps : List Prepared) → SparesAll ps given → MayStep old 0 given r new
    → ArePrepared old.history c ps → ArePrepared new.history c ps
step-prepared old given r new c ps spares may are = elim may [
  | inl step ↦ done-prepared old given r new c ps spares step are
  | inr refused ↦ subst (λ (s : Stored). ArePrepared s.history c ps) (sym refused.2) are
]

-- ---- all that is open, but for those

-- an abort of one of others ends none of these
aborts-spare : (H : List Event) (ps : List Prepared) (ts : List ℕ) → AllByRecursion (λ (e : Event). Spares ps e.kind) (map (closing_abort H) (filter (is_other (prepared_numbers ps) (summary H)) ts))
aborts-spare H ps [] = tt
aborts-spare H ps (t ∷ ts) = by (is_among (prepared_numbers ps) t) refl (is_open (summary H) t) (aborts-spare H ps ts)
  where
    rest : List ℕ
    rest = filter (is_other (prepared_numbers ps) (summary H)) ts

    by : (b : Bool) → is_among (prepared_numbers ps) t ≡ b → (o : Bool) → AllByRecursion (λ (e : Event). Spares ps e.kind) (map (closing_abort H) rest)
        → AllByRecursion (λ (e : Event). Spares ps e.kind) (map (closing_abort H) (cond (not b && o) (t ∷ rest) rest))
    by true is o others = others
    by false is false others = others
    by false is true others = (none-has ps t is, others)

pub closing-prepared : (H : List Event) (c : Contents) (ps : List Prepared) → ArePrepared H c ps → ArePrepared (H ++ closing_but (prepared_numbers ps) H) c ps
closing-prepared H c ps are = prepared-append H (closing_but (prepared_numbers ps) H) c ps (aborts-spare H ps (range_with_len 0 (summary H).begun)) are

-- ---- a whole transaction

-- its operations end nobody
operations-spare : (ps : List Prepared) (t : ℕ) (calls : List CallAt) (ks : List ℕ) → AllByRecursion (Spares ps) (operation_events t calls ks)
operations-spare ps t [] ks = tt
operations-spare ps t (call ∷ calls) [] = tt
operations-spare ps t (call ∷ calls) (k ∷ ks) = (nobody ps, operations-spare ps t calls ks)

-- nor does the answer of its last call
answer-spares : (ps : List Prepared) (os : List Object) (t : ℕ) (call : CallAt) (how : Ending) (answer : List EventKind) → EndsSo os t call how answer → AllByRecursion (Spares ps) answer
answer-spares ps os t call (ending.Busy u) answer ends = subst (AllByRecursion (Spares ps)) (sym ends.2) (nobody ps, tt)
answer-spares ps os t call ending.None answer ends = subst (AllByRecursion (Spares ps)) (sym ends.2) (nobody ps, tt)
answer-spares ps os t call (ending.Refused r) answer ends = subst (AllByRecursion (Spares ps)) (sym ends.0) tt

-- as events of worker 0
kinds-spare : (ps : List Prepared) (happened : List EventKind) → AllByRecursion (Spares ps) happened → AllByRecursion (λ (e : Event). Spares ps e.kind) (events_of_kinds happened)
kinds-spare ps [] spare = tt
kinds-spare ps (k ∷ more) spare = (spare.0, kinds-spare ps more spare.1)

-- who is prepared stays so by events that end none of them
more-prepared : (old new : Stored) (c : Contents) (ps : List Prepared) (happened : List EventKind) → new ≡ record old { history = old.history ++ events_of_kinds happened } → AllByRecursion (Spares ps) happened
    → ArePrepared old.history c ps → ArePrepared new.history c ps
more-prepared old new c ps happened is spare are =
    subst (λ (s : Stored). ArePrepared s.history c ps) (sym is) (prepared-append old.history (events_of_kinds happened) c ps (kinds-spare ps happened spare) are)

-- and by a whole transaction, which is none of them
pub attempt-prepared : (old : Stored) (calls : List CallAt) (came : Attempt) (new : Stored) (c : Contents) (ps : List Prepared) → AttemptAnswers old 0 calls came new → ArePrepared old.history c ps → ArePrepared new.history c ps
attempt-prepared old calls (Done ks) new c ps done are =
    let n = begins old.history in
    let its : Spares ps (kind.Commit n) = none-later n ps (began-each old.history c ps are) in
    more-prepared old new c ps (kind.Begin n ∷ (operation_events n calls ks.items ++ kind.Commit n ∷ [])) done.events
    (nobody ps, each-push (Spares ps) (operation_events n calls ks.items) (kind.Commit n) (operations-spare ps n calls ks.items) its) are
attempt-prepared old calls (Ended at how) new c ps ended are =
    let n = begins old.history in
    let its : Spares ps (kind.Abort n) = none-later n ps (began-each old.history c ps are) in
    let before = operation_events n (take at calls) ended.operations in
    more-prepared old new c ps (kind.Begin n ∷ ((before ++ ended.answer) ++ kind.Abort n ∷ [])) ended.events (
      nobody ps,
      each-push (Spares ps) (before ++ ended.answer) (kind.Abort n)
          (each-append (Spares ps) before ended.answer (operations-spare ps n (take at calls) ended.operations) (answer-spares ps (objects old) n ended.call how ended.answer ended.ends)) its,
    ) are
attempt-prepared old calls (NotBegun r) new c ps none are = subst (λ (s : Stored). ArePrepared s.history c ps) (sym none.1) are
