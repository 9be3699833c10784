-- What becomes of an event, from what its command does.
use Rattle.std.proofs.Common.{◌≡◌, ℕ, List, length, Option, Some, None, Result, Ok, Err, refl, sym, ap, subst, ◌∙◌, inl, inr}
use Rattle.std.specs.Prelude.{slice_get}
use Rattle.std.proofs.lemmas.Option.{none-some}
use Rattle.object_trait.specs.Object.{Object}
use Rattle.object_trait.specs.declared.event.Event.{Event}
use Rattle.object_trait.specs.declared.event.EventKind.{EventKind}
use Rattle.object_trait.specs.declared.event.EventKind.TheVariants as kind
use Rattle.serial_order.specs.History.{Summary, summary}
use Rattle.type_table.specs.Least.{first_below}
use Rattle.serial_order.specs.Answer.{blocker, busy_with, refused, event_of_first, is_reply}
use Rattle.serial_order.specs.Replay.{call_event, call_at, event_of}
use Rattle.serial_order.specs.declared.entry.Entry.{Entry}
use Rattle.serial_order.specs.declared.command.Command.{Command}
use Rattle.serial_order.specs.declared.command.Command.TheVariants as command
use Rattle.serial_order.specs.declared.refusal.Refusal.{Refusal}
use Rattle.serial_order.specs.declared.refusal.Refusal.TheVariants as refusal
use Rattle.store_laws.specs.Stored.{Stored, objects, refusal_of, stored_after, Steps, MayStep}
use Rattle.store.specs.Follows.{IsMade, with_event, stray_of, told_stray, Follows}
use Rattle.store.specs.declared.event_replay.Stray.{Stray}

-- ---- which command makes an event

-- the event is that of a call of t at x
abbrev pub IsOfCall : ℕ → ℕ → EventKind → Type 0
IsOfCall t x (kind.Op k u y) = (u ≡ t) × (y ≡ x)
IsOfCall t x (kind.Busy c u y v) = (u ≡ t) × (y ≡ x)
IsOfCall t x (kind.None u y c) = (u ≡ t) × (y ≡ x)
IsOfCall t x _ = ⊥

busy-of : (found : Option Entry) (t x c : ℕ) → IsOfCall t x (busy_with found t x c)
busy-of None t x c = (refl, refl)
busy-of (Some e) t x c = (refl, refl)

refused-of : (o : Object) (s : Summary) (x t c : ℕ) (found : Option ℕ) → IsOfCall t x (refused o s x t c found)
refused-of o s x t c None = (refl, refl)
refused-of o s x t c (Some k) = busy-of (blocker o s x t k) t x c

answered-of : (o : Object) (s : Summary) (x t c : ℕ) (found : Option ℕ) → IsOfCall t x (event_of_first o s x t c found)
answered-of o s x t c None = refused-of o s x t c (first_below (length o.table.ops) (is_reply o s x t c))
answered-of o s x t c (Some k) = (refl, refl)

-- what comes of a call is an event of a call
pub call-of : (there : Option Object) (s : Summary) (x t : ℕ) (first : Option ℕ) (happened : EventKind) → call_event there s x t first ≡ Some happened → IsOfCall t x happened
call-of None s x t first happened is = cc
call-of (Some o) s x t None happened is = cc
call-of (Some o) s x t (Some c) happened is =
    subst (λ (e : Option EventKind). IsOfCall t x (some_or e)) is (answered-of o s x t c _)
  where
    some_or : Option EventKind → EventKind
    some_or None = kind.Begin 0
    some_or (Some e) = e

-- the number in a begin
abbrev begun-of : Option EventKind → ℕ
begun-of (Some (kind.Begin t)) = t
begun-of _ = 0

-- a begin is made by a begin alone, and is that of the next number
pub only-begin : (os : List Object) (s : Summary) (t : ℕ) (c : Command) → event_of os s c ≡ Some (kind.Begin t) → (c ≡ command.Begin) × (s.begun ≡ t)
only-begin os s t command.Begin is = (refl, ap begun-of is)
only-begin os s t (command.Call u x name) is = absurd (call-of (slice_get os x) s x u (call_at (slice_get os x) name) (kind.Begin t) is)
only-begin os s t (command.Commit u) is = cc
only-begin os s t (command.Abort u) is = cc
only-begin os s t (command.Rollback u n) is = cc

-- a commit is made by that commit alone
abbrev ended-of : Option EventKind → ℕ
ended-of (Some (kind.Commit t)) = t
ended-of (Some (kind.Abort t)) = t
ended-of _ = 0

pub only-abort : (os : List Object) (s : Summary) (t : ℕ) (c : Command) → event_of os s c ≡ Some (kind.Abort t) → c ≡ command.Abort t
only-abort os s t command.Begin is = cc
only-abort os s t (command.Call u x name) is = absurd (call-of (slice_get os x) s x u (call_at (slice_get os x) name) (kind.Abort t) is)
only-abort os s t (command.Commit u) is = cc
only-abort os s t (command.Abort u) is = ap command.Abort (ap ended-of is)
only-abort os s t (command.Rollback u n) is = cc

-- and so for a rollback
abbrev struck-of : Option EventKind → ℕ × ℕ
struck-of (Some (kind.Rollback t n)) = (t, n)
struck-of _ = (0, 0)

pub only-rollback : (os : List Object) (s : Summary) (t n : ℕ) (c : Command) → event_of os s c ≡ Some (kind.Rollback t n) → c ≡ command.Rollback t n
only-rollback os s t n command.Begin is = cc
only-rollback os s t n (command.Call u x name) is = absurd (call-of (slice_get os x) s x u (call_at (slice_get os x) name) (kind.Rollback t n) is)
only-rollback os s t n (command.Commit u) is = cc
only-rollback os s t n (command.Abort u) is = cc
only-rollback os s t n (command.Rollback u m) is = ap (λ (p : ℕ × ℕ). command.Rollback p.0 p.1) (ap struck-of is)

pub only-commit : (os : List Object) (s : Summary) (t : ℕ) (c : Command) → event_of os s c ≡ Some (kind.Commit t) → c ≡ command.Commit t
only-commit os s t command.Begin is = cc
only-commit os s t (command.Call u x name) is = absurd (call-of (slice_get os x) s x u (call_at (slice_get os x) name) (kind.Commit t) is)
only-commit os s t (command.Commit u) is = ap command.Commit (ap ended-of is)
only-commit os s t (command.Abort u) is = cc
only-commit os s t (command.Rollback u n) is = cc

-- ---- what becomes of the event

module _ (old : Stored) (w : ℕ) (C : Command) (happened : EventKind) (makes : event_of (objects old) (summary old.history) C ≡ Some happened)
    (only : (c : Command) → event_of (objects old) (summary old.history) c ≡ Some happened → c ≡ C) where
  -- a refused command makes nothing
  not-made : (r : Refusal) → refusal_of old C ≡ Some r → IsMade old (record { worker = w; kind = happened }) → ⊥
  not-made r reason made =
      let same : made.command ≡ C = only made.command made.makes in
      none-some r (sym (ap (refusal_of old) (sym same) ∙ made.accepted) ∙ reason)

  -- and changes nothing
  stays : (r : Refusal) → refusal_of old C ≡ Some r → stored_after old w C ≡ old
  stays r reason = rw reason refl

  -- one that isn't refused makes the event
  goes : refusal_of old C ≡ None → stored_after old w C ≡ with_event old (record { worker = w; kind = happened })
  goes accepted = rw (accepted, makes) refl

  refused-follows : (r : Refusal) (new : Stored) → refusal_of old C ≡ Some r → new ≡ stored_after old w C
      → Follows old (record { worker = w; kind = happened }) (Err (stray_of r)) new
  refused-follows refusal.NotOpen new reason is = (not-made refusal.NotOpen reason, is ∙ stays refusal.NotOpen reason)
  refused-follows refusal.NoObject new reason is = (not-made refusal.NoObject reason, is ∙ stays refusal.NoObject reason)
  refused-follows refusal.NoCall new reason is = (not-made refusal.NoCall reason, is ∙ stays refusal.NoCall reason)
  refused-follows refusal.TooManyOpen new reason is = (not-made refusal.TooManyOpen reason, is ∙ stays refusal.TooManyOpen reason)
  refused-follows refusal.HistoryFull new reason is = (not-made refusal.HistoryFull reason, is ∙ stays refusal.HistoryFull reason)
  refused-follows refusal.NoMemory new reason is = is ∙ stays refusal.NoMemory reason
  refused-follows refusal.BadRollback new reason is = (not-made refusal.BadRollback reason, is ∙ stays refusal.BadRollback reason)

  -- what becomes of it by what its command does
  pub steps-follow : {T : Type 0} (r : Result T Refusal) (new : Stored) → Steps old w C r new → Follows old (record { worker = w; kind = happened }) (told_stray r) new
  steps-follow (Ok x) new steps = (record { command = C; accepted = sym steps.0; makes = makes }, steps.1 ∙ goes (sym steps.0))
  steps-follow (Err r) new steps = refused-follows r new (sym steps.0) steps.1

  pub may-follow : {T : Type 0} (r : Result T Refusal) (new : Stored) → MayStep old w C r new → Follows old (record { worker = w; kind = happened }) (told_stray r) new
  may-follow r new (inl steps) = steps-follow r new steps
  may-follow r new (inr memory_refused) =
      subst (λ z. Follows old (record { worker = w; kind = happened }) (told_stray z) new) (sym memory_refused.1) memory_refused.2

-- so of an event of this kind
module _ (old : Stored) (e : Event) (C : Command) (happened : EventKind) (makes : event_of (objects old) (summary old.history) C ≡ Some happened)
    (only : (c : Command) → event_of (objects old) (summary old.history) c ≡ Some happened → c ≡ C) {T : Type 0} (r : Result T Refusal) (out : Result (Unit {0}) Stray) (new : Stored)
    (is : e.kind ≡ happened) (tells : out ≡ told_stray r) where
  as-told : Follows old (record { worker = e.worker; kind = happened }) (told_stray r) new → Follows old e out new
  as-told follows =
      subst (λ o. Follows old e o new) (sym tells)
      (subst (λ k. Follows old (record { worker = e.worker; kind = k }) (told_stray r) new) (sym is) follows)

  pub steps-followed : Steps old e.worker C r new → Follows old e out new
  steps-followed steps = as-told (steps-follow old e.worker C happened makes only r new steps)

  pub may-followed : MayStep old e.worker C r new → Follows old e out new
  may-followed step = as-told (may-follow old e.worker C happened makes only r new step)
