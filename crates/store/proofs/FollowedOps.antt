-- Which command makes an operation.
use Rattle.std.proofs.Common.{◌≡◌, ℕ, zero, suc, Bool, true, false, List, [], ◌∷◌, ◌++◌, length, get_or, Option, Some, None, Result, Ok, Err, slice_get, inl, inr, refl, sym, ap, subst, ◌∙◌}
use Rattle.std.specs.Prelude.{if◌then◌else◌, nat_lt, not, is_some, IfOk, OnErr}
use Rattle.std.specs.List.{position}
use Rattle.std.specs.Str.{bytes_eq}
use Rattle.std.proofs.lemmas.Bool.{and_parts}
use Rattle.std.proofs.lemmas.List.{get_or-map}
use Rattle.std.proofs.lemmas.List.Quantifiers.{position-Some}
use Rattle.std.proofs.lemmas.Option.{none-some, same_Some}
use Rattle.std.proofs.lemmas.Slice.Eq.{bytes_eq-Decides}
use Rattle.type_table.specs.Table.{Table, call_of, first_op}
use Rattle.type_table.specs.declared.op.Op.{Op}
use Rattle.object_trait.specs.Object.{Object}
use Rattle.object_trait.specs.declared.event.EventKind.{EventKind}
use Rattle.object_trait.specs.declared.event.EventKind.TheVariants as kind
use Rattle.object_trait.specs.declared.event.Event.{Event}
use Rattle.object_calls.specs.declared.answer.Answer.{Answer}
use Rattle.type_table.specs.Operation.{place_of}
use Rattle.object_calls.specs.Answers as calls
use Rattle.serial_order.specs.History.{Summary, summary, is_open}
use Rattle.serial_order.specs.declared.refusal.Refusal.{Refusal}
use Rattle.serial_order.specs.declared.refusal.Refusal.TheVariants as refusal
use Rattle.serial_order.specs.Answer as definition
use Rattle.store_laws.specs.Stored.{Stored, objects, refusal_of}
use Rattle.store_laws.specs.Words.{as_event}
use Rattle.store.specs.Calls.{op_call_at, CallsIf}
use Rattle.store.specs.Follows.{Follows, IsMade, IsByCall, HasAnswer, unreplied, made_or_stray}
use Rattle.serial_order.specs.View.{is_of_call}
use Rattle.type_table.specs.Least.{first_below, found_or}
use Rattle.serial_order.specs.Answer.{blocker, busy_with, refused, is_free_reply, event_of_call}
use Rattle.serial_order.specs.Replay.{is_history_full, call_event, call_at, event_of}
use Rattle.serial_order.specs.declared.entry.Entry.{Entry}
use Rattle.serial_order.specs.declared.command.Command.{Command}
use Rattle.serial_order.specs.declared.command.Command.TheVariants as command
use Rattle.store.proofs.Follows.{IsOfCall, call-of}

-- what is found below n passes
found-or-passes : (test : ℕ → Bool) (n k : ℕ) (found : Option ℕ) → ((j : ℕ) → found ≡ Some j → test j ≡ true) → (passes : Bool) → test n ≡ passes → found_or found passes n ≡ Some k → test k ≡ true
found-or-passes test n k (Some j) before passes here same = subst (λ i. test i ≡ true) (same_Some j k same) (before j refl)
found-or-passes test n k None before true here same = subst (λ i. test i ≡ true) (same_Some n k same) here
found-or-passes test n k None before false here same = absurd (none-some k same)

found-passes : (n : ℕ) (test : ℕ → Bool) (k : ℕ) → first_below n test ≡ Some k → test k ≡ true
found-passes zero test k is = absurd (none-some k is)
found-passes (suc n) test k is = found-or-passes test n k (first_below n test) (found-passes n test) (test n) refl is

-- the operation of an event
abbrev op-of : EventKind → Option ℕ
op-of (kind.Op k t x) = Some k
op-of _ = None

busy-no-op : (found : Option Entry) (t x c : ℕ) → op-of (busy_with found t x c) ≡ None
busy-no-op None t x c = refl
busy-no-op (Some e) t x c = refl

refused-no-op : (o : Object) (s : Summary) (x t c : ℕ) (found : Option ℕ) → op-of (refused o s x t c found) ≡ None
refused-no-op o s x t c None = refl
refused-no-op o s x t c (Some k) = busy-no-op (blocker o s x t k) t x c

-- an operation that comes of a call is one of the call
op-of-call : (o : Object) (s : Summary) (x t c k : ℕ) → op-of (event_of_call o s x t c) ≡ Some k → is_of_call o c k ≡ true
op-of-call o s x t c k is = by (first_below (length o.table.ops) (is_free_reply o s x t c)) refl is
  where
    by : (found : Option ℕ) → first_below (length o.table.ops) (is_free_reply o s x t c) ≡ found → op-of (definition.event_of_first o s x t c found) ≡ Some k → is_of_call o c k ≡ true
    by None at same = absurd (none-some k (sym (refused-no-op o s x t c _) ∙ same))
    by (Some j) at same =
        let passes = found-passes (length o.table.ops) (is_free_reply o s x t c) k (at ∙ same) in
        (and_parts _ _ (and_parts _ _ passes).0).0

-- the operation that a name finds has that name as its call
pub named : (T : Table) (name : List ℕ) (c : ℕ) → first_op T name ≡ Some c → call_of T c ≡ name
named T name c found = by (nat_lt 0 (length name)) refl
  where
    by : (b : Bool) → nat_lt 0 (length name) ≡ b → call_of T c ≡ name
    by false none = absurd (none-some c (sym (ap (λ b. if b then position (λ (q : Op). bytes_eq q.call name) T.ops else None) none) ∙ found))
    by true some =
        let d : Op = record { call = []; reply = [] } in
        let place = position-Some (λ (q : Op). bytes_eq q.call name) T.ops c d (sym (ap (λ b. if b then position (λ (q : Op). bytes_eq q.call name) T.ops else None) some) ∙ found) in
        get_or-map (λ (o : Op). o.call) T.ops c d [] place.0 ∙ (bytes_eq-Decides (get_or T.ops c d).call name).0 place.1

-- an event is of one transaction at one object
abbrev of-call-or : ℕ → ℕ → Option EventKind → Type 0
of-call-or t x None = ⊥
of-call-or t x (Some e) = IsOfCall t x e

one-call : (happened : EventKind) (t x u y : ℕ) → IsOfCall t x happened → IsOfCall u y happened → ◌≡◌ {A = ℕ × ℕ} (t, x) (u, y)
one-call (kind.Begin n) t x u y a b = absurd a
one-call (kind.Op k n z) t x u y a b = rw (sym a.0 ∙ b.0, sym a.1 ∙ b.1) refl
one-call (kind.Busy c n z v) t x u y a b = rw (sym a.0 ∙ b.0, sym a.1 ∙ b.1) refl
one-call (kind.None n z c) t x u y a b = rw (sym a.0 ∙ b.0, sym a.1 ∙ b.1) refl
one-call (kind.Commit n) t x u y a b = absurd a
one-call (kind.Abort n) t x u y a b = absurd a
one-call (kind.Rollback n m) t x u y a b = absurd a

-- whatever command makes an event of t at x is a call of t at x
pub call-alone : (os : List Object) (s : Summary) (t x : ℕ) (happened : EventKind) → IsOfCall t x happened → (d : Command) → event_of os s d ≡ Some happened
    → (name : List ℕ) × (d ≡ command.Call t x name) × (call_event (slice_get os x) s x t (call_at (slice_get os x) name) ≡ Some happened)
call-alone os s t x happened of command.Begin is = absurd (subst (λ (e : Option EventKind). of-call-or t x e) (sym is) of)
call-alone os s t x happened of (command.Call u y name) is =
    let its = call-of (slice_get os y) s y u (call_at (slice_get os y) name) happened is in
    let same = one-call happened t x u y of its in (
      name,
      ap (λ (p : ℕ × ℕ). command.Call p.0 p.1 name) (sym same),
      subst (λ (p : ℕ × ℕ). call_event (slice_get os p.1) s p.1 p.0 (call_at (slice_get os p.1) name) ≡ Some happened) (sym same) is,
    )
call-alone os s t x happened of (command.Commit u) is = absurd (subst (λ (e : Option EventKind). of-call-or t x e) (sym is) of)
call-alone os s t x happened of (command.Abort u) is = absurd (subst (λ (e : Option EventKind). of-call-or t x e) (sym is) of)
call-alone os s t x happened of (command.Rollback u n) is = absurd (subst (λ (e : Option EventKind). of-call-or t x e) (sym is) of)

-- ---- the call of an operation

-- the name of a call that makes an operation finds that operation's call
pub op-alone : (at : Option Object) (s : Summary) (t x k : ℕ) (name : List ℕ) → call_event at s x t (call_at at name) ≡ Some (kind.Op k t x)
    → (c : ℕ) × (call_at at name ≡ Some c) × (op_call_at at k ≡ Some c)
op-alone None s t x k name is = absurd (none-some (kind.Op k t x) is)
op-alone (Some o) s t x k name is = found (first_op o.table name) refl is
  where
    found : (first : Option ℕ) → first_op o.table name ≡ first → call_event (Some o) s x t first ≡ Some (kind.Op k t x)
        → (c : ℕ) × (first_op o.table name ≡ Some c) × (op_call_at (Some o) k ≡ Some c)
    found None finds makes = absurd (none-some (kind.Op k t x) makes)
    found (Some c) finds makes =
        let of = and_parts _ _ (op-of-call o s x t c k (ap op-of (same_Some (event_of_call o s x t c) (kind.Op k t x) makes))) in
        let call : call_of o.table k ≡ name = (bytes_eq-Decides (call_of o.table k) (call_of o.table c)).0 of.1 ∙ named o.table name c finds in
        (c, finds, ap (first_op o.table) call ∙ finds)

-- so t's call of an operation makes it where some command does
pub op-made : (s : Stored) (e : Event) (t x k c : ℕ) → e.kind ≡ kind.Op k t x → op_call_at (slice_get (objects s) x) k ≡ Some c → IsByCall s e t x c
op-made s e t x k c is finds made =
    let call = call-alone (objects s) (summary s.history) t x (kind.Op k t x) (refl, refl) made.command (made.makes ∙ ap Some is) in
    let its = op-alone (slice_get (objects s) x) (summary s.history) t x k call.0 call.2 in
    let one : its.0 ≡ c = same_Some its.0 c (sym its.2 ∙ finds) in (
      call.0,
      its.1 ∙ ap Some one,
      (sym (ap (refusal_of s) call.1) ∙ made.accepted, sym (ap (event_of (objects s) (summary s.history)) call.1) ∙ made.makes),
    )

-- and where no call has the operation none does
pub op-not-made : (s : Stored) (e : Event) (t x k : ℕ) → e.kind ≡ kind.Op k t x → op_call_at (slice_get (objects s) x) k ≡ None → IsMade s e → ⊥
op-not-made s e t x k is none made =
    let call = call-alone (objects s) (summary s.history) t x (kind.Op k t x) (refl, refl) made.command (made.makes ∙ ap Some is) in
    let its = op-alone (slice_get (objects s) x) (summary s.history) t x k call.0 call.2 in
    none-some its.0 (sym none ∙ its.2)

-- ---- an answer without a reply

-- the place that its event says
abbrev place-in : ℕ → EventKind → ℕ
place-in other (kind.Busy c t x u) = c
place-in other (kind.None t x c) = c
place-in other _ = other

-- is that of the call's first operation
busy-place : (found : Option Entry) (t x c : ℕ) → place-in (place_of c) (busy_with found t x c) ≡ place_of c
busy-place None t x c = refl
busy-place (Some e) t x c = refl

refused-place : (o : Object) (s : Summary) (x t c : ℕ) (found : Option ℕ) → place-in (place_of c) (refused o s x t c found) ≡ place_of c
refused-place o s x t c None = refl
refused-place o s x t c (Some k) = busy-place (blocker o s x t k) t x c

event-place : (o : Object) (s : Summary) (x t c : ℕ) (found : Option ℕ) → place-in (place_of c) (definition.event_of_first o s x t c found) ≡ place_of c
event-place o s x t c None = refused-place o s x t c _
event-place o s x t c (Some k) = refl

as-unreplied : (t x c : ℕ) (holder : Option ℕ) → as_event t x c (calls.busy_answer holder) ≡ unreplied t x (place_of c) holder
as-unreplied t x c None = refl
as-unreplied t x c (Some u) = refl

unreplied-of : (t x place : ℕ) (holder : Option ℕ) → IsOfCall t x (unreplied t x place holder)
unreplied-of t x place None = (refl, refl)
unreplied-of t x place (Some u) = (refl, refl)

place-told : (t x place other : ℕ) (holder : Option ℕ) → place-in other (unreplied t x place holder) ≡ place
place-told t x place other None = refl
place-told t x place other (Some u) = refl

-- a command that makes it is a call with that place, which has the answer
unreplied-alone : (at : Option Object) (s : Summary) (t x place : ℕ) (holder : Option ℕ) (name : List ℕ) → call_event at s x t (call_at at name) ≡ Some (unreplied t x place holder)
    → (d : ℕ) × (call_at at name ≡ Some d) × (place_of d ≡ place) × (call_event at s x t (Some d) ≡ Some (as_event t x d (calls.busy_answer holder)))
unreplied-alone None s t x place holder name is = absurd (none-some (unreplied t x place holder) is)
unreplied-alone (Some o) s t x place holder name is = found (first_op o.table name) refl is
  where
    found : (first : Option ℕ) → first_op o.table name ≡ first → call_event (Some o) s x t first ≡ Some (unreplied t x place holder)
        → (d : ℕ) × (first_op o.table name ≡ Some d) × (place_of d ≡ place) × (call_event (Some o) s x t (Some d) ≡ Some (as_event t x d (calls.busy_answer holder)))
    found None finds makes = absurd (none-some (unreplied t x place holder) makes)
    found (Some d) finds makes =
        let one : event_of_call o s x t d ≡ unreplied t x place holder = same_Some (event_of_call o s x t d) (unreplied t x place holder) makes in
        let its : place_of d ≡ place = sym (event-place o s x t d _) ∙ ap (place-in (place_of d)) one ∙ place-told t x place (place_of d) holder in
        (d, finds, its, makes ∙ ap (λ p. Some (unreplied t x p holder)) (sym its) ∙ ap Some (sym (as-unreplied t x d holder)))

-- where a command makes it, an open transaction's call has the answer
module _ (s : Stored) (e : Event) (t x place : ℕ) (holder : Option ℕ) (is : unreplied t x place holder ≡ e.kind) (made : IsMade s e) where
  its-call : (name : List ℕ) × (made.command ≡ command.Call t x name) × (call_event (slice_get (objects s) x) (summary s.history) x t (call_at (slice_get (objects s) x) name) ≡ Some (unreplied t x place holder))
  its-call = call-alone (objects s) (summary s.history) t x (unreplied t x place holder) (unreplied-of t x place holder) made.command (made.makes ∙ ap Some (sym is))

  its-refusal : refusal_of s (command.Call t x its-call.0) ≡ None
  its-refusal = sym (ap (refusal_of s) its-call.1) ∙ made.accepted

  pub unreplied-answered : (d : ℕ) × (place_of d ≡ place) × (is : HasAnswer s t x d (calls.busy_answer holder)) × (refusal_of s (command.Call t x is.0) ≡ None)
  unreplied-answered =
      let its = unreplied-alone (slice_get (objects s) x) (summary s.history) t x place holder its-call.0 its-call.2 in
      (its.0, its.2, (its-call.0, its.1, its.3), its-refusal)

-- a call that isn't refused is of an open transaction
pub accepted-open : (s : Stored) (t x : ℕ) (name : List ℕ) → refusal_of s (command.Call t x name) ≡ None → is_open (summary s.history) t ≡ true
accepted-open s t x name accepted = by (is_open (summary s.history) t) refl
  where
    by : (b : Bool) → is_open (summary s.history) t ≡ b → is_open (summary s.history) t ≡ true
    by true is = is
    by false is = absurd (none-some refusal.NotOpen (sym accepted ∙ rw is refl))

-- which says that a call with the place has the answer
pub unreplied-told : (happened : EventKind) (t x place c : ℕ) (holder : Option ℕ) → unreplied t x place holder ≡ happened → place_of c ≡ place → as_event t x c (calls.busy_answer holder) ≡ happened
unreplied-told happened t x place c holder told placed = as-unreplied t x c holder ∙ ap (λ p. unreplied t x p holder) placed ∙ told

-- why a call is refused, by what is found by its name
abbrev refusal-with : Stored → ℕ → ℕ → Option ℕ → Option Refusal
refusal-with s t x found =
    if not (is_open (summary s.history) t) then Some refusal.NotOpen
    else (if not (is_some (slice_get (objects s) x)) then Some refusal.NoObject
    else (if not (is_some found) then Some refusal.NoCall
    else (if is_history_full s.limits s.history 1 then Some refusal.HistoryFull else None)))

-- of two calls that are there one is refused where the other is
refused-alike : (s : Stored) (t x c d : ℕ) (name other : List ℕ) → call_at (slice_get (objects s) x) name ≡ Some c → call_at (slice_get (objects s) x) other ≡ Some d
    → refusal_of s (command.Call t x name) ≡ refusal_of s (command.Call t x other)
refused-alike s t x c d name other first second = ap (refusal-with s t x) first ∙ sym (ap (refusal-with s t x) second)

-- what is found among the calls with a place, where some has the answer
module _ (s : Stored) (e : Event) (t x place : ℕ) (holder : Option ℕ) (result : Option ℕ) (is : unreplied t x place holder ≡ e.kind)
    (finds : is_open (summary s.history) t ≡ true → (d : ℕ) → place_of d ≡ place → HasAnswer s t x d (calls.busy_answer holder)
    → (c : ℕ) × (result ≡ Some c) × HasAnswer s t x c (calls.busy_answer holder)) where
  its-found : IsMade s e → (c : ℕ) × (result ≡ Some c) × HasAnswer s t x c (calls.busy_answer holder)
  its-found made =
      let d = unreplied-answered s e t x place holder is made in
      finds (accepted-open s t x d.2.0 d.3) d.0 d.1 d.2

  -- makes the event where some command does
  pub unreplied-made : (c : ℕ) → result ≡ Some c → place_of c ≡ place → IsByCall s e t x c
  unreplied-made c there placed made =
      let d = unreplied-answered s e t x place holder is made in
      let found = its-found made in
      let answered : HasAnswer s t x c (calls.busy_answer holder) = subst (λ n. HasAnswer s t x n (calls.busy_answer holder)) (same_Some found.0 c (sym found.1 ∙ there)) found.2 in (
        answered.0,
        answered.1,
        (
          refused-alike s t x c d.0 answered.0 d.2.0 answered.1 d.2.1 ∙ d.3,
          ap (call_event (slice_get (objects s) x) (summary s.history) x t) answered.1 ∙ answered.2 ∙ ap Some (unreplied-told e.kind t x place c holder is placed),
        ),
      )

  -- and where nothing is found none does
  pub unreplied-not-made : result ≡ None → IsMade s e → ⊥
  unreplied-not-made nothing made = let found = its-found made in none-some found.0 (sym nothing ∙ found.1)

-- ---- what becomes of the event of a call

module _ (old new : Stored) (e : Event) (t x c : ℕ) (a : Answer) (by : IsByCall old e t x c) (same : as_event t x c a ≡ e.kind) where
  -- one that is refused makes nothing
  refused-makes : (r : Refusal) → (r ≡ refusal.NoMemory → ⊥) → ((name : List ℕ) → call_at (slice_get (objects old) x) name ≡ Some c → CallsIf old e.worker t x name c a (Err r) new)
      → IsMade old e → ⊥
  refused-makes r other calls made =
      let one = by made in
      elim (calls one.0 one.1).1 [
        | inl reason ↦ none-some r (sym one.2.0 ∙ reason)
        | inr memory_refused ↦ other memory_refused.1
      ]

  pub called-follows : (result : Result Bool Refusal) → IfOk result (λ made. (name : List ℕ) × (call_at (slice_get (objects old) x) name ≡ Some c)) → OnErr result (new ≡ old)
      → ((name : List ℕ) → call_at (slice_get (objects old) x) name ≡ Some c → CallsIf old e.worker t x name c a result new) → Follows old e (made_or_stray result) new
  called-follows (Ok true) its err calls =
      let made = calls its.0 its.1 in (
        record { command = command.Call t x its.0; accepted = made.0; makes = made.1 ∙ ap Some same },
        made.2 ∙ ap (λ (k : EventKind). record old { history = old.history ++ (record { worker = e.worker; kind = k }) ∷ [] }) same,
      )
  called-follows (Ok false) its err calls = (
    (λ made.
        let one = by made in
        (calls one.0 one.1).0 (one.2.1 ∙ ap Some (sym same))),
    (calls its.0 its.1).1,
  )
  called-follows (Err refusal.NotOpen) its err calls = (refused-makes refusal.NotOpen (λ is. cc) calls, err)
  called-follows (Err refusal.NoObject) its err calls = (refused-makes refusal.NoObject (λ is. cc) calls, err)
  called-follows (Err refusal.NoCall) its err calls = (refused-makes refusal.NoCall (λ is. cc) calls, err)
  called-follows (Err refusal.TooManyOpen) its err calls = (refused-makes refusal.TooManyOpen (λ is. cc) calls, err)
  called-follows (Err refusal.HistoryFull) its err calls = (refused-makes refusal.HistoryFull (λ is. cc) calls, err)
  called-follows (Err refusal.NoMemory) its err calls = err
  called-follows (Err refusal.BadRollback) its err calls = (refused-makes refusal.BadRollback (λ is. cc) calls, err)
