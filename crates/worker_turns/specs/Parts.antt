-- The parts of a worker's jobs: which events come of a job with each outcome.
use Rattle.std.specs.Prelude.{◌≡◌, ℕ, zero, suc, ◌<◌, List, [], ◌∷◌, ◌++◌, take, true, not, if◌then◌else◌, ◌⊎◌, Option, Some, None, is_some, slice_get}
use Rattle.type_table.specs.Operation.{place_of}
use Rattle.object_trait.specs.Object.{Object}
use Rattle.object_trait.specs.declared.event.EventKind.{EventKind}
use Rattle.object_trait.specs.declared.event.EventKind.TheVariants as kind
use Rattle.object_trait.specs.declared.event.EventKind.TheVariants.{Begin, Op, Busy, Commit, Abort}
use Rattle.serial_order.specs.View.{is_of_call}
use Rattle.serial_order.specs.Replay.{call_at}
use Rattle.serial_order.specs.declared.refusal.Refusal.{Refusal}
use Rattle.serial_order.specs.declared.refusal.Refusal.TheVariants.{NoObject, NoCall, TooManyOpen, HistoryFull, NoMemory}
use Rattle.jobs_text.specs.Jobs.{Call}
use Rattle.worker_turns.specs.declared.outcome.Outcome.{Outcome}
use Rattle.worker_turns.specs.declared.outcome.Outcome.TheVariants.{Committed, GaveUp, Refused, NotRun}

-- ---- calls

-- the number of a call at its object, where both are there
abbrev pub number_at_object : List Object → Call → Option ℕ
number_at_object objects call = call_at (slice_get objects (call.0)) (call.1)

-- t's call had a reply: an operation of that call
pub record IsReply (objects : List Object) (t : ℕ) (call : Call) (e : EventKind) : Type 0 where
  pub o : Object
  pub there : slice_get objects (call.0) ≡ Some o
  pub c : ℕ
  pub number : number_at_object objects call ≡ Some c
  pub k : ℕ
  pub of_call : is_of_call o c k ≡ true
  pub is : e ≡ Op k t (call.0)

-- t's call had none: it was answered `Busy` or `None`, by the place of its first operation
pub record IsNoReply (objects : List Object) (t : ℕ) (call : Call) (e : EventKind) : Type 0 where
  pub c : ℕ
  pub number : number_at_object objects call ≡ Some c
  pub is : ((u : ℕ) × (e ≡ Busy (place_of c) t (call.0) u)) ⊎ (e ≡ kind.None t (call.0) (place_of c))

-- t's calls had a reply each, in order
abbrev pub AreReplies : List Object → ℕ → List Call → List EventKind → Type 0
AreReplies objects t [] [] = Unit {0}
AreReplies objects t [] (e ∷ es) = ⊥
AreReplies objects t (call ∷ calls) [] = ⊥
AreReplies objects t (call ∷ calls) (e ∷ es) = IsReply objects t call e × AreReplies objects t calls es

-- ---- tries

-- a whole try of t: it began, each call had a reply, and it committed
pub record IsWholeTry (objects : List Object) (calls : List Call) (t : ℕ) (es : List EventKind) : Type 0 where
  pub replies : List EventKind
  pub are_replies : AreReplies objects t calls replies
  pub is : es ≡ (Begin t ∷ replies) ++ Commit t ∷ []

-- a broken try: one call had no reply, and it was aborted
pub record IsBrokenTry (objects : List Object) (calls : List Call) (es : List EventKind) : Type 0 where
  pub t : ℕ
  pub done : ℕ
  pub call : Call
  pub next : slice_get calls done ≡ Some call
  pub replies : List EventKind
  pub are_replies : AreReplies objects t (take done calls) replies
  pub answer : EventKind
  pub no_reply : IsNoReply objects t call answer
  pub is : es ≡ (Begin t ∷ replies) ++ answer ∷ Abort t ∷ []

-- a cut try, of which this is the next call: it was aborted before that
pub record IsCutTry (objects : List Object) (calls : List Call) (call : Call) (es : List EventKind) : Type 0 where
  pub t : ℕ
  pub done : ℕ
  pub next : slice_get calls done ≡ Some call
  pub replies : List EventKind
  pub are_replies : AreReplies objects t (take done calls) replies
  pub is : es ≡ (Begin t ∷ replies) ++ Abort t ∷ []

-- this many broken tries, one after another
abbrev pub AreBroken : List Object → List Call → ℕ → List EventKind → Type 0
AreBroken objects calls zero es = es ≡ []
AreBroken objects calls (suc k) es =
    (before : List EventKind) × (last : List EventKind) × (es ≡ before ++ last) × AreBroken objects calls k before × IsBrokenTry objects calls last

-- ---- refusals

-- why no transaction may make the call: its object isn't there, or the call isn't
abbrev pub call_fault : List Object → Call → Option Refusal
call_fault objects call =
    if not (is_some (slice_get objects (call.0))) then Some NoObject
    else (if not (is_some (number_at_object objects call)) then Some NoCall else None)

-- a begin was refused for this reason
abbrev pub IsBeginRefusal : Refusal → Type 0
IsBeginRefusal r = (r ≡ TooManyOpen) ⊎ ((r ≡ HistoryFull) ⊎ (r ≡ NoMemory))

-- the call was refused for this reason: where it has a fault, for that or as memory was refused
abbrev pub IsCallRefusal : List Object → Call → Refusal → Type 0
IsCallRefusal objects call r =
    (call_fault objects call ≡ Some r) ⊎ (((call_fault objects call ≡ None) × (r ≡ HistoryFull)) ⊎ (r ≡ NoMemory))

-- what comes of the last try of a job that was refused: nothing, where its begin was, else a cut try, whose next call was
abbrev pub IsRefusedTry : List Object → List Call → Refusal → List EventKind → Type 0
IsRefusedTry objects calls r es =
    ((es ≡ []) × IsBeginRefusal r) ⊎ ((call : Call) × IsCutTry objects calls call es × IsCallRefusal objects call r)

-- ---- jobs

-- some broken tries, fewer than a job may have in all, and a last one
pub record BreaksBefore (objects : List Object) (tries : ℕ) (calls : List Call) (Last : List EventKind → Type 0) (es : List EventKind) : Type 0 where
  pub count : ℕ
  pub fewer : count < tries
  pub broken : List EventKind
  pub are_broken : AreBroken objects calls count broken
  pub last : List EventKind
  pub is_last : Last last
  pub is : es ≡ broken ++ last

-- the part of a job with this outcome
abbrev pub IsPart : List Object → ℕ → List Call → Outcome → List EventKind → Type 0
IsPart objects tries calls (Committed t) es = BreaksBefore objects tries calls (IsWholeTry objects calls t) es
IsPart objects tries calls GaveUp es = AreBroken objects calls tries es
IsPart objects tries calls (Refused r) es = BreaksBefore objects tries calls (IsRefusedTry objects calls r) es
IsPart objects tries calls NotRun es = es ≡ []

-- the parts of a worker's jobs with these outcomes, in order: one outcome for each of its first jobs
abbrev pub AreParts : List Object → ℕ → List (List Call) → List Outcome → List EventKind → Type 0
AreParts objects tries jobs [] es = es ≡ []
AreParts objects tries [] (o ∷ outcomes) es = ⊥
AreParts objects tries (job ∷ jobs) (o ∷ outcomes) es =
    (part : List EventKind) × (rest : List EventKind) × (es ≡ part ++ rest)
    × IsPart objects tries job o part × AreParts objects tries jobs outcomes rest
