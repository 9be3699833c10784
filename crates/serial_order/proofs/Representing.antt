-- Objects represent a history when they are new, and by each event.
use Rattle.std.proofs.Common.{◌≡◌, ℕ, ◌+◌, ◌-◌, true, false, ◌==◌, List, [], ◌∷◌, ◌++◌, take, drop, length, Some, refl, sym, ap, subst, ◌∙◌, inl, inr, arith}
use Rattle.std.proofs.lemmas.Bool.{cases_Bool, eqb-true}
use Rattle.std.proofs.lemmas.List.{append-nil, length-append, take-append-drop}
use Rattle.std.proofs.lemmas.List.Elements.{filter-append}
use Rattle.type_table.specs.Laws.{RunsAlong}
use Rattle.type_table.proofs.Elements.{filter-turned}
use Rattle.type_table.specs.declared.kind.Kind.{Kind}
use Rattle.type_table.specs.declared.kind.Kind.TheVariants.{Undo, Intentions, Escrow}
use Rattle.table_checker.specs.Checked.{Checked}
use Rattle.object_trait.specs.Object.{Object, object_of}
use Rattle.object_trait.specs.Strike.{keep_first}
use Rattle.object_trait.specs.Meaning.{Meaning, object, open_of}
use Rattle.object_trait.specs.Steps.{IsCommit, IsCommitBy, Keeps, IsStrikeBy}
use Rattle.object_trait.specs.declared.event.EventKind.{EventKind}
use Rattle.object_trait.specs.declared.event.EventKind.TheVariants as kind
use Rattle.object_trait.specs.declared.event.EventKind.TheVariants.{Begin, Op, Busy, Commit, Abort, Rollback}
use Rattle.object_trait.specs.declared.log_entry.LogEntry.{LogEntry}
use Rattle.serial_order.specs.Operations.{is_among, at_object, is_by, of}
use Rattle.serial_order.specs.History.{Summary, summary, is_open, committed_by, survive_after}
use Rattle.serial_order.specs.Machine.{May}
use Rattle.serial_order.specs.Represent.{RepresentsBy, struck_at, Changes}
use Rattle.serial_order.specs.Laws.{FreshRepresents, RepresentsOn}
use Rattle.serial_order.specs.declared.entry.Entry.{Entry}
use Rattle.serial_order.proofs.Strikes.{keep_first-part}
use Rattle.serial_order.proofs.Events.{summary-snoc}
use Rattle.serial_order.proofs.Runs.{open_is_uncommitted}
use Rattle.serial_order.proofs.RepresentUndo.{undo_represents-settled, undo_represents-op, undo_represents-commit, undo_represents-strike, undo_represents-count}
use Rattle.serial_order.proofs.RepresentEscrow.{as_deferred, escrow_represents-op, escrow_represents-commit, escrow_represents-strike}
use Rattle.serial_order.proofs.RepresentDeferred.{deferred_represents-op, deferred_represents-commit, deferred_represents-strike, deferred_represents-count}

-- ---- a new object

-- with nothing in its log, in the initial state, nothing survives and none committed
fresh_by : (recovery : Kind) (o : Object) (base : ℕ) (log : List LogEntry) (x : ℕ) → base ≡ o.table.initial → log ≡ [] → RepresentsBy recovery o base log x [] []
fresh_by Undo o base log x at_start empty = rw empty (record { past = []; reached = ap Some (sym at_start); whole = refl; ended = tt; flags = tt })
fresh_by Intentions o base log x at_start empty = rw (at_start, empty) (record { reached = (λ ks legal. legal, λ ks legal. legal); whole = refl; flags = tt })
fresh_by Escrow o base log x at_start empty = rw (at_start, empty) (record { reached = refl; whole = refl; flags = tt })

-- a new object represents the empty history
pub fresh_represents : FreshRepresents
fresh_represents = λ m x fresh. fresh_by m.checked.kind (object m) m.base m.log x fresh.base fresh.log

-- ---- the moves, by kinds of recovery

-- an operation of a transaction that didn't commit
represents-op : (recovery : Kind) (o : Object) (base : ℕ) (log : List LogEntry) (x : ℕ) (C : List ℕ) (V : List Entry) (t k : ℕ) → is_among C t ≡ false →
    RepresentsBy recovery o base log x C V →
    RepresentsBy recovery o base (log ++ (record { by = t; op = k; done = false }) ∷ []) x C (V ++ (record { by = t; at = x; op = k }) ∷ [])
represents-op Undo o base log x C V t k apart represents = undo_represents-op o base log x C V represents t k apart
represents-op Intentions o base log x C V t k apart represents = deferred_represents-op o base log x C V represents t k apart
represents-op Escrow o base log x C V t k apart represents = escrow_represents-op o base log x C V represents t k apart

-- a commit
represents-commit : RunsAlong → (recovery : Kind) (o : Object) (base : ℕ) (log : List LogEntry) (x : ℕ) (C : List ℕ) (V : List Entry) (t new_base : ℕ) (new_log : List LogEntry) → is_among C t ≡ false →
    RepresentsBy recovery o base log x C V → IsCommitBy recovery o base log t new_base new_log → RepresentsBy recovery o new_base new_log x (C ++ t ∷ []) V
represents-commit along Undo o base log x C V t new_base new_log apart represents commit =
    undo_represents-settled o base _ x (C ++ t ∷ []) V (undo_represents-commit o base log x C V represents t) along new_base new_log commit
represents-commit along Intentions o base log x C V t new_base new_log apart represents commit = deferred_represents-commit o base log x C V represents along t new_base new_log apart commit
represents-commit along Escrow o base log x C V t new_base new_log apart represents commit = escrow_represents-commit o base log x C V represents along t new_base new_log apart commit

-- a strike of a transaction that didn't commit
represents-strike : RunsAlong → (recovery : Kind) (o : Object) (base : ℕ) (log : List LogEntry) (x : ℕ) (C : List ℕ) (V : List Entry) (t n new_base : ℕ) (new_log : List LogEntry) → is_among C t ≡ false →
    RepresentsBy recovery o base log x C V → IsStrikeBy recovery o base log t n new_base new_log → RepresentsBy recovery o new_base new_log x C (keep_first (is_by t) n V)
represents-strike along Undo o base log x C V t n new_base new_log apart represents strike =
    undo_represents-settled o base _ x C (keep_first (is_by t) n V) (undo_represents-strike o base log x C V represents t n apart) along new_base new_log strike
represents-strike along Intentions o base log x C V t n new_base new_log apart represents strike = rw (strike.same_base, strike.rest) (deferred_represents-strike o base log x C V represents t n apart)
represents-strike along Escrow o base log x C V t n new_base new_log apart represents strike = rw (strike.same_base, strike.rest) (escrow_represents-strike o base log x C V represents t n apart)

-- as many open entries as there are operations of a transaction that didn't commit
represents-count : (recovery : Kind) (o : Object) (base : ℕ) (log : List LogEntry) (x : ℕ) (C : List ℕ) (V : List Entry) (t : ℕ) → is_among C t ≡ false →
    RepresentsBy recovery o base log x C V → length (of t V) ≡ length (open_of t log)
represents-count Undo o base log x C V t apart represents = undo_represents-count o base log x C V represents t apart
represents-count Intentions o base log x C V t apart represents = deferred_represents-count o base log x C V represents t apart
represents-count Escrow o base log x C V t apart represents = deferred_represents-count o base log x C V (as_deferred o base log x C V represents) t apart

-- ---- what an event changes at one object

-- of a transaction's operations at x, those that aren't among its last stay
pub stay-count : (x t n : ℕ) (V : List Entry) → length (of t (at_object x V)) - length (at_object x (drop n (of t V))) ≡ length (at_object x (take n (of t V)))
stay-count x t n V =
    let all : length (of t (at_object x V)) ≡ length (at_object x (take n (of t V))) + length (at_object x (drop n (of t V))) =
    ap length (filter-turned (is_by t) (λ e. e.at == x) V ∙ ap (at_object x) (sym (take-append-drop n (of t V))) ∙ filter-append (λ e. e.at == x) (take n (of t V)) (drop n (of t V)))
    ∙ length-append (at_object x (take n (of t V))) (at_object x (drop n (of t V))) in
    omega (arith, all)

-- ---- the object at x, by an event

-- the object represents, where C committed and V survives at x
abbrev RepresentsAt : Meaning → ℕ → List ℕ → List Entry → Type 0
RepresentsAt m x C V = RepresentsBy m.checked.kind (object m) m.base m.log x C V

-- whatever it keeps, of the same checked type
same_type : (new old : Checked) (base : ℕ) (log : List LogEntry) (x : ℕ) (C : List ℕ) (V : List Entry) → new ≡ old →
    RepresentsBy old.kind (object_of old) base log x C V → RepresentsBy new.kind (object_of new) base log x C V
same_type new old base log x C V e represents = rw e represents

module _ (along : RunsAlong) (x : ℕ) (s : Summary) (old new : Meaning) (represents : RepresentsAt old x s.committed (at_object x s.survives)) where
  -- no change
  by_nothing : new ≡ old → RepresentsAt new x (s.committed ++ []) (at_object x s.survives)
  by_nothing e = rw (append-nil s.committed, e) represents

  -- an operation, here or elsewhere
  by_op : (t y k : ℕ) → is_open s t ≡ true → Changes x s (Op k t y) old new → RepresentsAt new x (s.committed ++ []) (at_object x (survive_after s.survives (Op k t y)))
  by_op t y k open_now change =
      let entry : Entry = record { by = t; at = y; op = k } in
      elim (cases_Bool (y == x)) [
        | inl here ↦
            rw (append-nil s.committed, filter-append (λ (e : Entry). e.at == x) s.survives (entry ∷ []), here, rw here at change, eqb-true y x here)
            (represents-op old.checked.kind (object old) old.base old.log x s.committed (at_object x s.survives) t k (open_is_uncommitted s t open_now) represents)
        | inr elsewhere ↦
            rw (append-nil s.committed, filter-append (λ (e : Entry). e.at == x) s.survives (entry ∷ []), elsewhere, append-nil (at_object x s.survives), rw elsewhere at change) represents
      ]

  -- a commit
  by_commit : (t : ℕ) → is_open s t ≡ true → IsCommit old t new → RepresentsAt new x (s.committed ++ t ∷ []) (at_object x s.survives)
  by_commit t open_now change =
      same_type new.checked old.checked new.base new.log x (s.committed ++ t ∷ []) (at_object x s.survives) change.checked
      (represents-commit along old.checked.kind (object old) old.base old.log x s.committed (at_object x s.survives) t new.base new.log (open_is_uncommitted s t open_now) represents change.commit)

  -- a strike of an open transaction: of its operations the first n stay, and of those at x as many as are among these
  by_strike : (t n m : ℕ) → is_open s t ≡ true → m ≡ length (at_object x (take n (of t s.survives))) → Keeps old t m new →
      RepresentsAt new x (s.committed ++ []) (at_object x (keep_first (is_by t) n s.survives))
  by_strike t n m open_now count change =
      let strike = rw count at change.strike in
      rw (append-nil s.committed, keep_first-part (λ (e : Entry). e.at == x) (is_by t) n s.survives)
      (same_type new.checked old.checked new.base new.log x s.committed _ change.checked
      (represents-strike along old.checked.kind (object old) old.base old.log x s.committed (at_object x s.survives) t
      (length (at_object x (take n (of t s.survives)))) new.base new.log (open_is_uncommitted s t open_now) represents strike))

  -- how many of an open transaction's open entries a rollback leaves
  rollback-count : (t n : ℕ) → is_open s t ≡ true →
      length (open_of t old.log) - struck_at x s t n ≡ length (at_object x (take (length (of t s.survives) - n) (of t s.survives)))
  rollback-count t n open_now =
      ap (λ all. all - struck_at x s t n) (sym (represents-count old.checked.kind (object old) old.base old.log x s.committed (at_object x s.survives) t (open_is_uncommitted s t open_now) represents))
      ∙ stay-count x t (length (of t s.survives) - n) s.survives

  -- any event that may come next
  by_event : (objects : List Object) (happened : EventKind) → May objects s happened → Changes x s happened old new →
      RepresentsAt new x (s.committed ++ committed_by happened) (at_object x (survive_after s.survives happened))
  by_event objects (Begin t) may change = by_nothing change
  by_event objects (Op k t y) may change = by_op t y k may.0 change
  by_event objects (Busy c t y u) may change = by_nothing change
  by_event objects (kind.None t y c) may change = by_nothing change
  by_event objects (Commit t) may change = by_commit t may change
  by_event objects (Abort t) may change = by_strike t 0 0 may refl change
  by_event objects (Rollback t n) may change = by_strike t (length (of t s.survives) - n) (length (open_of t old.log) - struck_at x s t n) may.0 (rollback-count t n may.0) change

-- and goes on so by each event
pub represents_on : RunsAlong → RepresentsOn
represents_on along = λ objects H e x old new run may place represents change.
    let after = by_event along x (summary H) old new represents objects e.kind may change in
    subst (λ (s : Summary). RepresentsAt new x s.committed (at_object x s.survives)) (sym (summary-snoc H e)) after
