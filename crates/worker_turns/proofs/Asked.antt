-- What is known after a call that the store answered.
use Rattle.std.proofs.Common.{◌≡◌, ℕ, ◌+◌, ◌≤◌, true, not, ◌⊎◌, List, [], ◌∷◌, ◌++◌, length, Option, Some, None, is_some, Ok, slice_get, inl, inr, refl, sym, ap, ◌∙◌, subst}
use Rattle.std.specs.Prelude.{if◌then◌else◌, slice_index_or}
use Rattle.std.proofs.lemmas.Bool.{false≢true, and_parts}
use Rattle.std.proofs.lemmas.List.{append_cancel_left}
use Rattle.object_trait.specs.Object.{Object}
use Rattle.object_trait.specs.declared.event.Event.{Event}
use Rattle.object_trait.specs.declared.event.EventKind.{EventKind}
use Rattle.object_trait.specs.declared.event.EventKind.TheVariants.{Op}
use Rattle.type_table.specs.Least.{first_below}
use Rattle.type_table.proofs.Least.{first_below-passes}
use Rattle.serial_order.specs.Answer.{blocker, is_reply, is_free_reply, busy_with, refused, event_of_first, event_of_call}
use Rattle.serial_order.specs.History.{Summary, summary, is_open}
use Rattle.serial_order.specs.Replay.{call_at, is_history_full, call_event, appended}
use Rattle.serial_order.specs.View.{is_legal_for, is_of_call}
use Rattle.serial_order.specs.declared.command.Command.TheVariants as command
use Rattle.serial_order.specs.declared.entry.Entry.{Entry}
use Rattle.serial_order.specs.declared.refusal.Refusal.{Refusal}
use Rattle.object_calls.specs.declared.answer.Answer.{Answer}
use Rattle.object_calls.specs.declared.answer.Answer.TheVariants as answer
use Rattle.store_laws.specs.Stored.{Stored, objects, MayStep}
use Rattle.store_laws.specs.Words.{as_event}
use Rattle.store.specs.Calls.{noted, NotesAnswer}
use Rattle.jobs_text.specs.Jobs.{Call}
use Rattle.worker_turns.specs.Parts.{number_at_object, IsReply, IsNoReply}
use Rattle.worker_turns.specs.Progress.{Progress}
use Rattle.worker_turns.specs.Turns.{receipt, Calls}
use Rattle.worker_turns.specs.declared.outcome.Receipt.{Receipt}
use Rattle.worker_turns.specs.declared.phase.Phase.TheVariants.{Going, Breaking}
use Rattle.worker_turns.proofs.Refusals.{not_refused}

-- ---- the operation of a reply

module _ (o : Object) (s : Summary) (x t c k : ℕ) where
  -- a refusal isn't a reply
  busy-no_op : (e : Option Entry) → busy_with e t x c ≡ Op k t x → ⊥
  busy-no_op None is = cc
  busy-no_op (Some e) is = cc

  refused-no_op : (found : Option ℕ) → refused o s x t c found ≡ Op k t x → ⊥
  refused-no_op None is = cc
  refused-no_op (Some j) is = busy-no_op (blocker o s x t j) is

  -- the operation of a reply is the first that is free, and so one of the call
  free-of_call : is_free_reply o s x t c k ≡ true → is_of_call o c k ≡ true
  free-of_call free =
      let reply = and_parts (is_reply o s x t c k) (not (is_some (blocker o s x t k))) free in
      (and_parts (is_of_call o c k) (is_legal_for o s x t k) reply.0).0

  answered-of_call : (found : Option ℕ) → first_below (length o.table.ops) (is_free_reply o s x t c) ≡ found → event_of_first o s x t c found ≡ Op k t x
      → is_of_call o c k ≡ true
  answered-of_call None none is = absurd (refused-no_op (first_below (length o.table.ops) (is_reply o s x t c)) is)
  answered-of_call (Some j) finds is =
      let same : j ≡ k = cc in
      free-of_call (first_below-passes (is_free_reply o s x t c) (length o.table.ops) k (finds ∙ ap (λ n. Some n) same))

  reply-of_call : event_of_call o s x t c ≡ Op k t x → is_of_call o c k ≡ true
  reply-of_call is = answered-of_call (first_below (length o.table.ops) (is_free_reply o s x t c)) refl is

-- ---- a call that was answered

-- the call was answered with the event that the history defines, which was appended
pub record IsAnswered (old : Stored) (w t : ℕ) (call : Call) (a : Answer) (new : Stored) : Type 0 where
  pub o : Object
  pub there : slice_get (objects old) (call.0) ≡ Some o
  pub c : ℕ
  pub number : number_at_object (objects old) call ≡ Some c
  pub event : event_of_call o (summary old.history) (call.0) t c ≡ as_event t (call.0) c a
  pub makes : new ≡ noted old w (as_event t (call.0) c a)

-- where the same was appended, the same happened
same-event : (old : Stored) (w : ℕ) (a b : EventKind) → noted old w a ≡ noted old w b → a ≡ b
same-event old w a b same =
    let first : Event = record { worker = w; kind = a } in
    let last : Event = record { worker = w; kind = b } in
    let lists : first ∷ [] ≡ last ∷ [] = append_cancel_left old.history (first ∷ []) (last ∷ []) (ap (λ (s : Stored). s.history) same) in
    ap (λ (es : List Event). (slice_index_or es 0 first).kind) lists

module _ (old : Stored) (w t : ℕ) (call : Call) (a : Answer) (new : Stored) where
  -- by the event that was appended and that of the answer
  answered-at : (there : Option Object) → slice_get (objects old) (call.0) ≡ there → is_some there ≡ true
      → (number : Option ℕ) → number_at_object (objects old) call ≡ number → is_some number ≡ true
      → new ≡ record old { history = appended old.history w (call_event there (summary old.history) (call.0) t number) }
      → ((c : ℕ) → number ≡ Some c → NotesAnswer old w t (call.0) c (Ok a) new) → IsAnswered old w t call a new
  answered-at None at_object some number numbered is_number after told = absurd (false≢true some)
  answered-at (Some o) at_object some None numbered is_number after told = absurd (false≢true is_number)
  answered-at (Some o) at_object some (Some c) numbered is_number after told =
      record {
        o = o;
        there = at_object;
        c = c;
        number = numbered;
        event = same-event old w (event_of_call o (summary old.history) (call.0) t c) (as_event t (call.0) c a) (sym after ∙ told c refl);
        makes = told c refl;
      }

  -- by what the store says of it
  by-name : MayStep old w (command.Call t (call.0) (call.1)) (Ok a) new
      → ((c : ℕ) → number_at_object (objects old) call ≡ Some c → NotesAnswer old w t (call.0) c (Ok a) new) → IsAnswered old w t call a new
  by-name (inl (reason, now)) told =
      let there = slice_get (objects old) (call.0) in
      let number = number_at_object (objects old) call in
      let fine = not_refused (is_open (summary old.history) t) (is_some there) (is_some number) (is_history_full old.limits old.history 1) (sym reason) in
      answered-at there refl fine.0 number refl fine.1
      (now ∙ ap (λ (r : Option Refusal). record old { history = if is_some r then old.history else appended old.history w (call_event there (summary old.history) (call.0) t number) }) (sym reason))
      told
  by-name (inr (none, memory, now)) told = absurd cc

  -- and of the call with this name
  pub is-answered : (name : List ℕ) → name ≡ call.1 → MayStep old w (command.Call t (call.0) name) (Ok a) new
      → ((c : ℕ) → call_at (slice_get (objects old) (call.0)) name ≡ Some c → NotesAnswer old w t (call.0) c (Ok a) new) → IsAnswered old w t call a new
  is-answered name is step told =
      by-name (subst (λ n. MayStep old w (command.Call t (call.0) n) (Ok a) new) is step)
      (subst (λ n. (c : ℕ) → call_at (slice_get (objects old) (call.0)) n ≡ Some c → NotesAnswer old w t (call.0) c (Ok a) new) is told)

-- ---- what it was answered with

-- a reply
reply-answered : (old : Stored) (w t : ℕ) (call : Call) (k : ℕ) (new : Stored) → IsAnswered old w t call (answer.Reply k) new
    → IsReply (objects old) t call (Op k t (call.0)) × (new ≡ noted old w (Op k t (call.0)))
reply-answered old w t call k new its = (
  record {
    o = its.o;
    there = its.there;
    c = its.c;
    number = its.number;
    k = k;
    of_call = reply-of_call its.o (summary old.history) (call.0) t its.c k its.event;
    is = refl;
  },
  its.makes,
)

-- `Busy` or `None`
busy-answered : (old : Stored) (w t : ℕ) (call : Call) (u : ℕ) (new : Stored) → IsAnswered old w t call (answer.Busy u) new
    → (e : EventKind) × IsNoReply (objects old) t call e × (new ≡ noted old w e)
busy-answered old w t call u new its =
    (as_event t (call.0) its.c (answer.Busy u), record { c = its.c; number = its.number; is = inl (u, refl) }, its.makes)

none-answered : (old : Stored) (w t : ℕ) (call : Call) (new : Stored) → IsAnswered old w t call answer.None new
    → (e : EventKind) × IsNoReply (objects old) t call e × (new ≡ noted old w e)
none-answered old w t call new its =
    (as_event t (call.0) its.c answer.None, record { c = its.c; number = its.number; is = inr refl }, its.makes)

-- ---- what the worker makes of it

-- at a reply it gets the receipt of the operation, and its try goes on
pub calls-reply : (old : Stored) (w t done : ℕ) (call : Call) (p : Progress) (new : Stored) (k : ℕ) → IsAnswered old w t call (answer.Reply k) new
    → (receipts : List Receipt) → receipts ≡ p.receipts ++ receipt old.history w (Op k t (call.0)) ∷ []
    → Calls t done call old w p new (record p { receipts = receipts; phase = Going t (done + 1) })
calls-reply old w t done call p new k its receipts gets =
    let (reply, makes) = reply-answered old w t call k new its in
    inl (Op k t (call.0), reply, makes, ap (λ rs. record p { receipts = rs; phase = Going t (done + 1) }) gets)

module _ (old : Stored) (w t done : ℕ) (call : Call) (p : Progress) (new : Stored) (a : Answer) (its : IsAnswered old w t call a new)
    (held receipts : List Receipt) (kept : held ≡ p.receipts) (within : old.forgotten ≤ length old.history)
    (notes : (H : List Event) (v : ℕ) (happened : EventKind) → new.history ≡ H ++ (record { worker = v; kind = happened }) ∷ []
    → new.forgotten ≤ length H → receipts ≡ held ++ receipt H v happened ∷ []) where
  -- it gets the receipt of the event
  got : (happened : EventKind) → new ≡ noted old w happened → receipts ≡ p.receipts ++ receipt old.history w happened ∷ []
  got happened makes =
      notes old.history w happened (ap (λ (s : Stored). s.history) makes) (subst (λ n. n ≤ length old.history) (sym (ap (λ (s : Stored). s.forgotten) makes)) within)
      ∙ ap (λ rs. rs ++ receipt old.history w happened ∷ []) kept

  -- without a reply its try is broken
  breaking : (e : EventKind) × IsNoReply (objects old) t call e × (new ≡ noted old w e)
      → Calls t done call old w p new (record p { receipts = receipts; phase = Breaking t done })
  breaking (e, no_reply, makes) = inr (inl (e, no_reply, makes, ap (λ rs. record p { receipts = rs; phase = Breaking t done }) (got e makes)))

  pub calls-busy : ((u : ℕ) × (a ≡ answer.Busy u)) ⊎ (a ≡ answer.None) → Calls t done call old w p new (record p { receipts = receipts; phase = Breaking t done })
  calls-busy (inl (u, is)) = breaking (busy-answered old w t call u new (subst (λ b. IsAnswered old w t call b new) is its))
  calls-busy (inr is) = breaking (none-answered old w t call new (subst (λ b. IsAnswered old w t call b new) is its))
