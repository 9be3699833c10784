-- Each event of a run that the objects' states tell is made by a command.
use Rattle.std.proofs.Common.{◌≡◌, ℕ, suc, ◌+◌, ◌<◌, ◌≤◌, true, false, not, ◌||◌, ◌==◌, nat_lt, nat_le, List, [], ◌∷◌, ◌++◌, filter, length, Option, Some, None, IsSome, is_some, refl, sym, ap, ◌∙◌, inl, inr, arith, append-nil, append_assoc, length-append}
use Rattle.std.specs.Prelude.{slice_get}
use Rattle.std.specs.List.{AllByRecursion, range_with_len}
use Rattle.std.proofs.lemmas.Bool.{cases_Bool, and_parts, false≢true}
use Rattle.std.proofs.lemmas.Bool.Decides.{nat_tests}
use Rattle.std.proofs.lemmas.List.Elements.{filter-append}
use Rattle.std.proofs.lemmas.List.FromFn.{length-range_with_len}
use Rattle.std.proofs.lemmas.Option.{same_Some}
use Rattle.std.proofs.lemmas.Slice.Eq.{bytes_eq-Decides}
use Rattle.type_table.specs.Laws.{RunsAlong, LegalEnds}
use Rattle.store_limits.specs.declared.limits.Limits.{Limits}
use Rattle.type_table.specs.Run.{run}
use Rattle.type_table.specs.Table.{next, call_of, has_op, is_same_call}
use Rattle.type_table.proofs.Elements.{filter-length}
use Rattle.type_table.proofs.Least.{first_below-found, first_below-none}
use Rattle.type_table.proofs.Legal.{legal-front, legal-behind}
use Rattle.number_types.proofs.FirstNamed.{first_named, first_exists}
use Rattle.object_trait.specs.Object.{Object}
use Rattle.object_trait.specs.declared.event.Event.{Event}
use Rattle.object_trait.specs.declared.event.EventKind.{EventKind}
use Rattle.object_trait.specs.declared.event.EventKind.TheVariants as kind
use Rattle.serial_order.specs.Operations.{at_object, of, ops}
use Rattle.serial_order.specs.History.{Summary, summary, is_open, begins, is_begin}
use Rattle.serial_order.specs.View.{view, conflicts_with, is_alone, is_of_call, is_legal_for}
use Rattle.serial_order.specs.Machine.{May, MayDo, RunsOn}
use Rattle.progress.proofs.Blockers.{nobody-blocks}
use Rattle.serial_order.specs.Answer.{blocker, is_reply, is_free_reply, event_of_first, event_of_call}
use Rattle.serial_order.specs.Replay.{open_count, is_history_full, refusal, event_of, replay}
use Rattle.serial_order.specs.Laws.{CommandAppends, ReplaysJoin}
use Rattle.serial_order.specs.declared.command.Command.{Command}
use Rattle.serial_order.specs.declared.command.Command.TheVariants.{Begin, Call, Commit, Abort, Rollback}
use Rattle.made_runs.specs.Made.{IsMadeByCommands, HasOneReply, IsToldBy}
use Rattle.made_runs.specs.Laws.{RunsAreMade}

-- ---- the answer of a call

module _ (along : RunsAlong) (ends : LegalEnds) (o : Object) (s : Summary) (x t k c : ℕ) (once : HasOneReply o.table) (has : has_op o.table k ≡ true) (named : call_of o.table c ≡ call_of o.table k)
    (legal : is_legal_for o s x t k ≡ true) (free : AllByRecursion (λ e. conflicts_with o s x t k e ≡ false) (at_object x s.survives)) where
  -- what is legal for t is legal in one state
  legal_next : (j : ℕ) (st : ℕ) → run o.table (Some o.table.initial) (ops (view o.kind s x t)) ≡ Some st → is_legal_for o s x t j ≡ true → IsSome (next o.table st j)
  legal_next j st reached is = legal-behind along o.table (Some o.table.initial) (ops (view o.kind s x t)) (j ∷ []) st reached is

  state : (st : ℕ) × (run o.table (Some o.table.initial) (ops (view o.kind s x t)) ≡ Some st)
  state = ends o.table (Some o.table.initial) (ops (view o.kind s x t)) (legal-front o.table (Some o.table.initial) (ops (view o.kind s x t)) (k ∷ []) legal)

  -- the operation is one of the call
  below : nat_lt k (length o.table.ops) ≡ true
  unfolding next
  below =
      elim (cases_Bool (nat_lt k (length o.table.ops))) [
        | inl inside ↦ inside
        | inr outside ↦ absurd (false≢true (rw outside at (legal_next k state.0 state.1 legal)))
      ]

  same_call : (j : ℕ) → is_same_call o.table j c ≡ true → is_same_call o.table k j ≡ true
  same_call j is = (bytes_eq-Decides (call_of o.table k) (call_of o.table j)).1 (sym named ∙ sym ((bytes_eq-Decides (call_of o.table j) (call_of o.table c)).0 is))

  is_free : is_free_reply o s x t c k ≡ true
  is_free =
      let of_call : is_same_call o.table k c ≡ true = (bytes_eq-Decides (call_of o.table k) (call_of o.table c)).1 (sym named) in
      rw (below, of_call, legal, nobody-blocks (is_alone o s x t k) (conflicts_with o s x t k) (at_object x s.survives) free) refl

  others : (j : ℕ) → j < k → is_free_reply o s x t c j ≡ false
  others j less =
      elim (cases_Bool (is_free_reply o s x t c j)) [
        | inl is ↦
            let reply = and_parts (is_of_call o c j) (is_legal_for o s x t j) (and_parts (is_reply o s x t c j) (not (is_some (blocker o s x t j))) is).0 in
            let of_call = (and_parts (nat_lt j (length o.table.ops)) (is_same_call o.table j c) reply.0).1 in
            let same = once state.0 k j (legal_next k state.0 state.1 legal) (legal_next j state.0 state.1 reply.1) (same_call j of_call) in
            absurd (omega (arith, less, same))
        | inr isnt ↦ isnt
      ]

  pub answered : event_of_call o s x t c ≡ kind.Op k t x
  answered =
      let first = first_below-found (is_free_reply o s x t c) k (length o.table.ops) (first_below-none (is_free_reply o s x t c) k others) is_free (let inside = below in grind (arith, nat_tests, inside)) in
      ap (event_of_first o s x t c) first

-- ---- room

-- no more are open than began
few_open : (H : List Event) → open_count (summary H) ≤ begins H
few_open H =
    let counted = filter-length (is_open (summary H)) (range_with_len 0 (begins H)) in
    omega (arith, counted, length-range_with_len 0 (begins H))

-- and no more began than there are events
few_begin : (H : List Event) → begins H ≤ length H
few_begin H = filter-length (λ (e : Event). is_begin e.kind) H

begins-append : (G K : List Event) → begins (G ++ K) ≡ begins G + begins K
begins-append G K = ap length (filter-append (λ (e : Event). is_begin e.kind) G K) ∙ length-append (filter (λ (e : Event). is_begin e.kind) G) (filter (λ (e : Event). is_begin e.kind) K)

-- a history that is shorter than this isn't full
not_full : (limits : Limits) (further : ℕ) (G : List Event) → length G + length G + further ≤ limits.events → is_history_full limits G further ≡ false
not_full limits further G few =
    let opened = few_open G in
    let began = few_begin G in
    let n : ℕ = length G + open_count (summary G) + further in
    let less : n ≤ limits.events = omega (arith, few, opened, began) in
    grind (arith, nat_tests, less)

-- ---- one event

-- a command that isn't refused, and makes the event
record IsMadeNext (objects : List Object) (limits : Limits) (G : List Event) (happened : EventKind) : Type 0 where
  pub command : Command
  pub fine : refusal objects limits G command ≡ None
  pub makes : event_of objects (summary G) command ≡ Some happened

module _ (along : RunsAlong) (ends : LegalEnds) (objects : List Object) (limits : Limits) (G : List Event) (room : length G + length G + 2 ≤ limits.events) where
  abbrev s : Summary
  s = summary G

  made-begin : (t : ℕ) → t ≡ s.begun → begins G < limits.«open» → IsMadeNext objects limits G (kind.Begin t)
  made-begin t is few =
      let opened = few_open G in
      let allowed : nat_le limits.«open» (open_count s) ≡ false = (let less : open_count s < limits.«open» = omega (arith, few, opened) in grind (arith, nat_tests, less)) in
      record { command = Begin; fine = rw (allowed, not_full limits 2 G room) refl; makes = ap (λ n. Some (kind.Begin n)) (sym is) }

  made-op : (k t x : ℕ) → is_open s t ≡ true → (o : Object) → slice_get objects x ≡ Some o → HasOneReply o.table → MayDo (Some o) s x t k → IsMadeNext objects limits G (kind.Op k t x)
  made-op k t x open_now o there once may =
      let name : List ℕ = call_of o.table k in
      let found = first_exists o.table k may.0 in
      let named = (first_named o.table name found.0 found.1).0 in
      record {
        command = Call t x name;
        fine = rw (open_now, there, found.1, not_full limits 1 G (omega (arith, room))) refl;
        makes = rw (there, found.1) (ap Some (answered along ends o s x t k found.0 once may.0 named may.1 may.2));
      }

  made-call : (k t x : ℕ) (found : Option Object) → slice_get objects x ≡ found → is_open s t ≡ true → MayDo found s x t k → ((o : Object) → slice_get objects x ≡ Some o → HasOneReply o.table) → IsMadeNext objects limits G (kind.Op k t x)
  made-call k t x None there open_now may told = absurd may
  made-call k t x (Some o) there open_now may told = made-op k t x open_now o there (told o there) may

  made-rollback : (t n : ℕ) → is_open s t ≡ true → 0 < n → n ≤ length (of t s.survives) → IsMadeNext objects limits G (kind.Rollback t n)
  made-rollback t n open_now some few =
      let within : (n == 0 || nat_lt (length (of t s.survives)) n) ≡ false = grind (arith, nat_tests, some, few) in
      record { command = Rollback t n; fine = rw (open_now, within, not_full limits 1 G (omega (arith, room))) refl; makes = refl }

  made-next : (happened : EventKind) → May objects s happened → IsToldBy objects happened → (is_begin happened ≡ true → begins G < limits.«open») → IsMadeNext objects limits G happened
  made-next (kind.Begin t) may told few = made-begin t may (few refl)
  made-next (kind.Op k t x) may told few = made-call k t x (slice_get objects x) refl may.0 may.1 told
  made-next (kind.Busy c t x u) may told few = absurd told
  made-next (kind.None t x c) may told few = absurd told
  made-next (kind.Commit t) may told few = record { command = Commit t; fine = rw may refl; makes = refl }
  made-next (kind.Abort t) may told few = record { command = Abort t; fine = rw may refl; makes = refl }
  made-next (kind.Rollback t n) may told few = made-rollback t n may.0 may.1 may.2

-- ---- event after event

-- the command is replayed to the event
made-more : CommandAppends → ReplaysJoin → (objects : List Object) (limits : Limits) (G : List Event) (e : Event) → IsMadeByCommands objects limits G → IsMadeNext objects limits G e.kind → IsMadeByCommands objects limits (G ++ e ∷ [])
made-more appends joins objects limits G e (commands, made) step =
    let here = appends objects limits G e.worker step.command step.fine in
    let same : here.happened ≡ e.kind = same_Some here.happened e.kind (sym here.is ∙ step.makes) in (
      commands ++ (e.worker, step.command) ∷ [],
      joins objects limits (λ _. false) [] commands ((e.worker, step.command) ∷ [])
          ∙ ap (λ H. replay objects limits (λ _. false) H ((e.worker, step.command) ∷ [])) made
          ∙ here.appends ∙ ap (λ happened. G ++ (record { worker = e.worker; kind = happened }) ∷ []) same,
    )

made-on : RunsAlong → LegalEnds → CommandAppends → ReplaysJoin → (objects : List Object) (limits : Limits) (G H : List Event) → IsMadeByCommands objects limits G → RunsOn objects G H → AllByRecursion (λ e. IsToldBy objects e.kind) H
    → begins (G ++ H) ≤ limits.«open» → length (G ++ H) + length (G ++ H) + 2 ≤ limits.events → IsMadeByCommands objects limits (G ++ H)
made-on along ends appends joins objects limits G [] made runs told few room = rw (append-nil G) made
made-on along ends appends joins objects limits G (e ∷ H) made runs told few room =
    let whole : (G ++ e ∷ []) ++ H ≡ G ++ e ∷ H = append_assoc G (e ∷ []) H in
    let long = length-append G (e ∷ H) in
    let counted = begins-append G (e ∷ H) in
    let here : is_begin e.kind ≡ true → begins G < limits.«open» =
    λ is. (let one : begins (e ∷ H) ≡ suc (begins H) = rw is refl in omega (arith, few, counted, one)) in
    let step = made-next along ends objects limits G (omega (arith, room, long)) e.kind runs.0 told.0 here in
    rw whole at (made-on along ends appends joins objects limits (G ++ e ∷ []) H (made-more appends joins objects limits G e made step) runs.1 told.1 (rw whole few) (rw whole room))

pub runs_are_made : RunsAlong → LegalEnds → CommandAppends → ReplaysJoin → RunsAreMade
runs_are_made along ends appends joins = λ objects limits H runs told room. made-on along ends appends joins objects limits [] H ([], refl) runs told room.open_at_once room.events
