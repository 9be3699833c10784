-- By each turn, what a worker noted goes on being the parts of its jobs.
use Rattle.std.proofs.Common.{◌≡◌, ℕ, ◌+◌, ◌<◌, true, List, [], ◌∷◌, ◌++◌, length, Option, Some, None, inl, inr, refl, sym, ap, ◌∙◌, subst, arith, length-append, append_assoc}
use Rattle.std.specs.Prelude.{slice_get}
use Rattle.std.proofs.lemmas.List.{append-nil, map-append}
use Rattle.object_trait.specs.Object.{Object}
use Rattle.object_trait.specs.declared.event.Event.{Event}
use Rattle.object_trait.specs.declared.event.EventKind.{EventKind}
use Rattle.object_trait.specs.declared.event.EventKind.TheVariants.{Begin, Commit, Abort}
use Rattle.serial_order.specs.History.{begins, summary, is_open}
use Rattle.serial_order.specs.declared.refusal.Refusal.{Refusal}
use Rattle.serial_order.specs.declared.refusal.Refusal.TheVariants.{NoMemory}
use Rattle.store_laws.specs.Stored.{Stored, objects}
use Rattle.jobs_text.specs.Jobs.{Call}
use Rattle.worker_turns.specs.Parts.{IsNoReply, AreBroken, IsBrokenTry, BreaksBefore, IsWholeTry, IsRefusedTry, IsPart}
use Rattle.worker_turns.specs.Progress.{Progress, receipt_kinds, current_job, open_in_phase, IsAtEnd, IsTryBegun, IsSoFar, IsTold}
use Rattle.worker_turns.specs.Turns.{receipt, goes_to, gets, ends, breaks, HasOpen, StoreNotes, Begins, Calls, Commits, GivesBack, RefusesJob, CallsOrCommits, TurnsIn, TurnsAreTold}
use Rattle.worker_turns.specs.declared.outcome.Outcome.{Outcome}
use Rattle.worker_turns.specs.declared.outcome.Outcome.TheVariants.{Committed, GaveUp, Refused}
use Rattle.worker_turns.specs.declared.outcome.Receipt.{Receipt}
use Rattle.worker_turns.specs.declared.phase.Phase.{Phase}
use Rattle.worker_turns.specs.declared.phase.Phase.TheVariants.{Idle, Going, Breaking, Refusing}
use Rattle.worker_turns.proofs.Replies.{none-begun, begun-more, begun-all}
use Rattle.worker_turns.proofs.Tries.{broken-more, parts-more}
use Rattle.worker_turns.proofs.Refusals.{begin_refused, call_refused}

-- what happened by one receipt more
kinds-more : (receipts : List Receipt) (H : List Event) (w : ℕ) (happened : EventKind)
    → receipt_kinds (receipts ++ receipt H w happened ∷ []) ≡ receipt_kinds receipts ++ happened ∷ []
kinds-more receipts H w happened = map-append (λ (r : Receipt). r.event.kind) receipts (receipt H w happened ∷ [])

-- the objects stay, whatever event is made
carried : (old : Stored) (w : ℕ) (happened : EventKind) (new : Stored) (q r : Progress)
    → StoreNotes old w happened new → q ≡ r → IsTold (objects old) r → IsTold (objects new) q
carried old w happened new q r makes is told = subst (λ (s : Stored). IsTold (objects s) q) (sym makes) (subst (IsTold (objects old)) (sym is) told)

module _ (o : List Object) (p : Progress) (told : IsTold o p) (going : IsAtEnd p → ⊥) where
  -- a job is left
  some-left : length p.outcomes < length p.jobs
  some-left = omega (arith, told.within, going)

  -- its try goes on
  goes-told : (phase : Phase) (now : List EventKind) (receipts : List Receipt) → IsSoFar o (current_job p) phase now
      → receipt_kinds receipts ≡ (told.ended ++ told.behind) ++ now → IsTold o (goes_to phase (record p { receipts = receipts }))
  goes-told phase now receipts so_far are =
      record {
        within = told.within;
        left = told.left;
        ended = told.ended;
        are_parts = told.are_parts;
        behind = told.behind;
        are_broken = told.are_broken;
        now = now;
        so_far = so_far;
        are = are;
        idle = λ at_end. absurd (going at_end);
      }

  -- one more try was broken
  breaks-told : (now : List EventKind) (receipts : List Receipt) → IsBrokenTry o (current_job p) now → p.broken + 1 < p.tries
      → receipt_kinds receipts ≡ (told.ended ++ told.behind) ++ now → IsTold o (breaks (record p { receipts = receipts }))
  breaks-told now receipts broken fewer are =
      record {
        within = told.within;
        left = fewer;
        ended = told.ended;
        are_parts = told.are_parts;
        behind = told.behind ++ now;
        are_broken = broken-more o (current_job p) p.broken told.behind now told.are_broken broken;
        now = [];
        so_far = refl;
        are = are ∙ append_assoc told.ended told.behind now ∙ sym (append-nil (told.ended ++ (told.behind ++ now)));
        idle = λ at_end. absurd (going at_end);
      }

  -- its job is done
  ends-told : (outcome : Outcome) (now : List EventKind) (receipts : List Receipt) → IsPart o p.tries (current_job p) outcome (told.behind ++ now)
      → receipt_kinds receipts ≡ (told.ended ++ told.behind) ++ now → IsTold o (ends outcome (record p { receipts = receipts }))
  ends-told outcome now receipts part are =
      let part_of_all = told.behind ++ now in
      record {
        within = omega (arith, some-left, length-append p.outcomes (outcome ∷ []));
        left = omega (arith, told.left);
        ended = told.ended ++ part_of_all;
        are_parts = parts-more o p.tries p.jobs p.outcomes outcome told.ended part_of_all some-left told.are_parts part;
        behind = [];
        are_broken = refl;
        now = [];
        so_far = refl;
        are = are ∙ append_assoc told.ended told.behind now ∙ simp append-nil;
        idle = λ at_end. (refl, refl);
      }

-- where its try is, with one event more of worker w
module _ (old : Stored) (w : ℕ) (p : Progress) (told : IsTold (objects old) p) (going : IsAtEnd p → ⊥) where
  -- some tries were broken, and this was the last one
  breaks-before : (Last : List EventKind → Type 0) (now : List EventKind) → Last now
      → BreaksBefore (objects old) p.tries (current_job p) Last (told.behind ++ now)
  breaks-before Last now is =
      record { count = p.broken; fewer = told.left; broken = told.behind; are_broken = told.are_broken; last = now; is_last = is; is = refl }

  -- what happened by one receipt more
  told-more : (happened : EventKind) (now : List EventKind) → told.now ++ happened ∷ [] ≡ now
      → receipt_kinds (p.receipts ++ receipt old.history w happened ∷ []) ≡ (told.ended ++ told.behind) ++ now
  told-more happened now is =
      kinds-more p.receipts old.history w happened
      ∙ ap (λ es. es ++ happened ∷ []) told.are
      ∙ append_assoc (told.ended ++ told.behind) told.now (happened ∷ [])
      ∙ ap (λ es. (told.ended ++ told.behind) ++ es) is

  -- its try goes on
  goes-on : (happened : EventKind) (phase : Phase) (now : List EventKind) (new : Stored) (q : Progress) → told.now ++ happened ∷ [] ≡ now
      → IsSoFar (objects old) (current_job p) phase now → StoreNotes old w happened new → q ≡ goes_to phase (gets old.history w happened p) → IsTold (objects new) q
  goes-on happened phase now new q is so_far makes goes =
      carried old w happened new q _ makes goes
      (goes-told (objects old) p told going phase now (p.receipts ++ receipt old.history w happened ∷ []) so_far (told-more happened now is))

  -- its job ends
  ends-with : (happened : EventKind) (outcome : Outcome) (now : List EventKind) (new : Stored) (q : Progress) → told.now ++ happened ∷ [] ≡ now
      → IsPart (objects old) p.tries (current_job p) outcome (told.behind ++ now) → StoreNotes old w happened new → q ≡ ends outcome (gets old.history w happened p) → IsTold (objects new) q
  ends-with happened outcome now new q is part makes goes =
      carried old w happened new q _ makes goes
      (ends-told (objects old) p told going outcome now (p.receipts ++ receipt old.history w happened ∷ []) part (told-more happened now is))

  -- ---- the turn in each phase

  -- before a try
  told-idle : (new : Stored) (q : Progress) → IsSoFar (objects old) (current_job p) Idle told.now → Begins old w p new q → IsTold (objects new) q
  told-idle new q none (inl (makes, goes)) =
      let t = begins old.history in
      goes-on (Begin t) (Going t 0) (Begin t ∷ []) new q (ap (λ es. es ++ Begin t ∷ []) none) ([], none-begun (objects old) (current_job p) t, refl) makes goes
  told-idle new q none (inr (inl (r, refuses, goes))) =
      subst (λ (s : Stored). IsTold (objects s) q) (sym refuses.0)
      (subst (IsTold (objects old)) (sym goes)
      (ends-told (objects old) p told going (Refused r) told.now p.receipts
      (breaks-before (IsRefusedTry (objects old) (current_job p) r) told.now (inl (none, begin_refused old r refuses.1))) told.are))
  told-idle new q none (inr (inr (same, goes))) =
      subst (λ (s : Stored). IsTold (objects s) q) (sym same)
      (subst (IsTold (objects old)) (sym goes)
      (ends-told (objects old) p told going (Refused NoMemory) told.now p.receipts
      (breaks-before (IsRefusedTry (objects old) (current_job p) NoMemory) told.now (inl (none, inr (inr refl)))) told.are))

  -- where a call is left
  told-calling : (t done : ℕ) (call : Call) (new : Stored) (q : Progress) → is_open (summary old.history) t ≡ true → slice_get (current_job p) done ≡ Some call
      → IsSoFar (objects old) (current_job p) (Going t done) told.now → Calls t done call old w p new q → IsTold (objects new) q
  told-calling t done call new q open_now next (replies, begun, now) (inl (e, reply, makes, goes)) =
      goes-on e (Going t (done + 1)) (Begin t ∷ (replies ++ e ∷ [])) new q (ap (λ es. es ++ e ∷ []) now)
      (replies ++ e ∷ [], begun-more (objects old) (current_job p) t done replies call e begun next reply, refl) makes goes
  told-calling t done call new q open_now next (replies, begun, now) (inr (inl (e, no_reply, makes, goes))) =
      goes-on e (Breaking t done) (Begin t ∷ (replies ++ e ∷ [])) new q (ap (λ es. es ++ e ∷ []) now)
      (replies, begun, call, next, e, no_reply, refl) makes goes
  told-calling t done call new q open_now next (replies, begun, now) (inr (inr (inl (r, refuses, goes)))) =
      subst (λ (s : Stored). IsTold (objects s) q) (sym refuses.0)
      (subst (IsTold (objects old)) (sym goes)
      (goes-told (objects old) p told going (Refusing t done r) told.now p.receipts
      (replies, begun, call, next, call_refused old t call r open_now refuses.1, now) told.are))
  told-calling t done call new q open_now next (replies, begun, now) (inr (inr (inr (makes, goes)))) =
      ends-with (Abort t) (Refused NoMemory) (told.now ++ Abort t ∷ []) new q refl
      (breaks-before (IsRefusedTry (objects old) (current_job p) NoMemory) (told.now ++ Abort t ∷ [])
      (inr (call, record { t = t; done = done; next = next; replies = replies; are_replies = begun.are_replies; is = ap (λ es. es ++ Abort t ∷ []) now }, inr (inr refl))))
      makes goes

  -- where none is left
  told-committing : (t done : ℕ) (new : Stored) (q : Progress) → slice_get (current_job p) done ≡ None
      → IsSoFar (objects old) (current_job p) (Going t done) told.now → Commits t old w p new q → IsTold (objects new) q
  told-committing t done new q none (replies, begun, now) (makes, goes) =
      ends-with (Commit t) (Committed t) (told.now ++ Commit t ∷ []) new q refl
      (breaks-before (IsWholeTry (objects old) (current_job p) t) (told.now ++ Commit t ∷ [])
      (record { replies = replies; are_replies = begun-all (objects old) (current_job p) t done replies begun none; is = ap (λ es. es ++ Commit t ∷ []) now }))
      makes goes

  told-going : (t done : ℕ) (new : Stored) (q : Progress) (next : Option Call) → is_open (summary old.history) t ≡ true → slice_get (current_job p) done ≡ next
      → IsSoFar (objects old) (current_job p) (Going t done) told.now → CallsOrCommits t done next old w p new q → IsTold (objects new) q
  told-going t done new q None open_now next so_far turns = told-committing t done new q next so_far turns
  told-going t done new q (Some call) open_now next so_far turns = told-calling t done call new q open_now next so_far turns

  -- a try that is aborted since a call had no reply
  broken-try : (t done : ℕ) (replies : List EventKind) (call : Call) (answer : EventKind) → IsTryBegun (objects old) (current_job p) t done replies
      → slice_get (current_job p) done ≡ Some call → IsNoReply (objects old) t call answer → told.now ≡ (Begin t ∷ replies) ++ answer ∷ []
      → IsBrokenTry (objects old) (current_job p) (told.now ++ Abort t ∷ [])
  broken-try t done replies call answer begun next no_reply now =
      record {
        t = t;
        done = done;
        call = call;
        next = next;
        replies = replies;
        are_replies = begun.are_replies;
        answer = answer;
        no_reply = no_reply;
        is = ap (λ es. es ++ Abort t ∷ []) now ∙ append_assoc (Begin t ∷ replies) (answer ∷ []) (Abort t ∷ []);
      }

  -- where the try was broken
  told-breaking : (t done : ℕ) (new : Stored) (q : Progress) → IsSoFar (objects old) (current_job p) (Breaking t done) told.now
      → GivesBack t old w p new q → IsTold (objects new) q
  told-breaking t done new q (replies, begun, call, next, answer, no_reply, now) (makes, inl (fewer, goes)) =
      carried old w (Abort t) new q _ makes goes
      (breaks-told (objects old) p told going (told.now ++ Abort t ∷ []) (p.receipts ++ receipt old.history w (Abort t) ∷ [])
      (broken-try t done replies call answer begun next no_reply now) fewer (told-more (Abort t) (told.now ++ Abort t ∷ []) refl))
  told-breaking t done new q (replies, begun, call, next, answer, no_reply, now) (makes, inr (last, goes)) =
      let all : p.broken + 1 ≡ p.tries = omega (arith, told.left, last) in
      ends-with (Abort t) GaveUp (told.now ++ Abort t ∷ []) new q refl
      (subst (λ n. AreBroken (objects old) (current_job p) n (told.behind ++ (told.now ++ Abort t ∷ []))) all
      (broken-more (objects old) (current_job p) p.broken told.behind (told.now ++ Abort t ∷ []) told.are_broken
      (broken-try t done replies call answer begun next no_reply now)))
      makes goes

  -- where its call was refused
  told-refusing : (t done : ℕ) (r : Refusal) (new : Stored) (q : Progress) → IsSoFar (objects old) (current_job p) (Refusing t done r) told.now
      → RefusesJob t r old w p new q → IsTold (objects new) q
  told-refusing t done r new q (replies, begun, call, next, refused, now) (makes, goes) =
      ends-with (Abort t) (Refused r) (told.now ++ Abort t ∷ []) new q refl
      (breaks-before (IsRefusedTry (objects old) (current_job p) r) (told.now ++ Abort t ∷ [])
      (inr (call, record { t = t; done = done; next = next; replies = replies; are_replies = begun.are_replies; is = ap (λ es. es ++ Abort t ∷ []) now }, refused)))
      makes goes

  -- in any phase
  told-in : (phase : Phase) (new : Stored) (q : Progress) → IsSoFar (objects old) (current_job p) phase told.now → HasOpen old.history (open_in_phase phase)
      → TurnsIn phase old w p new q → IsTold (objects new) q
  told-in Idle new q so_far open_now turns = told-idle new q so_far turns
  told-in (Going t done) new q so_far open_now turns = told-going t done new q (slice_get (current_job p) done) open_now refl so_far turns
  told-in (Breaking t done) new q so_far open_now turns = told-breaking t done new q so_far turns
  told-in (Refusing t done r) new q so_far open_now turns = told-refusing t done r new q so_far turns

pub turns_are_told : TurnsAreTold
turns_are_told = λ old w p new q told going open_now turns. told-in old w p told going p.phase new q told.so_far open_now turns
