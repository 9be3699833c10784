-- Committed states stay by each event but a commit; and where nobody is open they are the states.
use Rattle.std.proofs.Common.{◌≡◌, ℕ, ◌-◌, true, false, ◌==◌, ◌<◌, List, [], ◌∷◌, ◌++◌, length, Some, refl, sym, ap, ◌∙◌, inl, inr, append_assoc, append-nil}
use Rattle.std.specs.List.{AllByRecursion}
use Rattle.std.proofs.lemmas.Bool.{cases_Bool, false≢true}
use Rattle.std.proofs.lemmas.Option.{same_Some}
use Rattle.type_table.specs.Laws.{RunsAlong}
use Rattle.type_table.specs.declared.kind.Kind.{Kind}
use Rattle.type_table.specs.declared.kind.Kind.TheVariants.{Undo, Intentions, Escrow}
use Rattle.type_table.proofs.Elements.{each-weaker, each-filter, filter-all, filter-turned}
use Rattle.object_trait.specs.Object.{Object}
use Rattle.object_trait.specs.Meaning.{object, state_by}
use Rattle.object_trait.specs.declared.event.Event.{Event}
use Rattle.object_trait.specs.declared.event.EventKind.{EventKind}
use Rattle.object_trait.specs.declared.event.EventKind.TheVariants as kind
use Rattle.object_trait.specs.declared.event.EventKind.TheVariants.{Begin, Op, Busy, Commit, Abort, Rollback}
use Rattle.object_trait.specs.declared.log_entry.LogEntry.{LogEntry}
use Rattle.serial_order.specs.Operations.{is_among, is_by, at_object, of, serial}
use Rattle.serial_order.specs.History.{Summary, summary, commits, surviving, survive_after, committed_by, is_open}
use Rattle.serial_order.specs.Machine.{May, MayFollow, RunsOn, IsRun}
use Rattle.serial_order.specs.Serial.{surviving_at}
use Rattle.serial_order.specs.Represent.{RepresentsBy}
use Rattle.serial_order.specs.Epochs.{StatesAreInside}
use Rattle.serial_order.specs.declared.entry.Entry.{Entry}
use Rattle.serial_order.proofs.Strikes.{keep_first-others}
use Rattle.serial_order.proofs.Lists.{filter-apart, is_one-outside}
use Rattle.serial_order.proofs.Events.{commits-snoc, surviving-snoc}
use Rattle.serial_order.proofs.Runs.{open_is_uncommitted, pending_is_open, transactions_in_run}
use Rattle.serial_order.proofs.RepresentUndo.{undo_represents-run}
use Rattle.committed_states.specs.Committed.{of_these, IsCommittedBy, IsCommitted, is_commit}
use Rattle.committed_states.specs.Laws.{CommittedStays, ClosedIsCommitted}
use Rattle.committed_states.proofs.Orders.{serial-of_these}

-- ---- what it depends on

-- it depends on the operations of the committed ones alone
committed-alike : (kind : Kind) (o : Object) (s : ℕ) (C : List ℕ) (V W : List Entry) → of_these C V ≡ of_these C W → IsCommittedBy kind o s C V → IsCommittedBy kind o s C W
committed-alike Undo o s C V W same is = rw same at is
committed-alike Intentions o s C V W same is = rw (sym (serial-of_these C V) ∙ ap (serial C) same ∙ serial-of_these C W) at is
committed-alike Escrow o s C V W same is = rw (sym (serial-of_these C V) ∙ ap (serial C) same ∙ serial-of_these C W) at is

-- ---- one event

-- which strikes or adds none of them
chosen-after : (objects : List Object) (s : Summary) (happened : EventKind) → May objects s happened → of_these s.committed (survive_after s.survives happened) ≡ of_these s.committed s.survives
chosen-after objects s (Begin t) may = refl
chosen-after objects s (Op k t x) may = filter-apart (λ (e : Entry). is_among s.committed e.by) s.survives (record { by = t; at = x; op = k }) (open_is_uncommitted s t may.0)
chosen-after objects s (Busy c t x u) may = refl
chosen-after objects s (kind.None t x c) may = refl
chosen-after objects s (Commit t) may = refl
chosen-after objects s (Abort t) may =
    keep_first-others (λ (e : Entry). is_among s.committed e.by) (is_by t) 0 s.survives (λ e mine. is_one-outside s.committed e.by t (open_is_uncommitted s t may) mine)
chosen-after objects s (Rollback t n) may =
    keep_first-others (λ (e : Entry). is_among s.committed e.by) (is_by t) (length (of t s.survives) - n) s.survives (λ e mine. is_one-outside s.committed e.by t (open_is_uncommitted s t may.0) mine)

no-commit : (happened : EventKind) → is_commit happened ≡ false → committed_by happened ≡ []
no-commit (Begin t) isnt = refl
no-commit (Op k t x) isnt = refl
no-commit (Busy c t x u) isnt = refl
no-commit (kind.None t x c) isnt = refl
no-commit (Commit t) isnt = absurd (false≢true (sym isnt))
no-commit (Abort t) isnt = refl
no-commit (Rollback t n) isnt = refl

module _ (objects : List Object) (H : List Event) (e : Event) (may : MayFollow objects H e) (isnt : is_commit e.kind ≡ false) (x : ℕ) where
  same-commits : commits (H ++ e ∷ []) ≡ commits H
  same-commits = commits-snoc H e ∙ ap (λ D. commits H ++ D) (no-commit e.kind isnt) ∙ append-nil (commits H)

  same-chosen : of_these (commits H) (surviving_at x (H ++ e ∷ [])) ≡ of_these (commits H) (surviving_at x H)
  same-chosen =
      ap (λ V. of_these (commits H) (at_object x V)) (surviving-snoc H e)
      ∙ filter-turned (λ (f : Entry). is_among (commits H) f.by) (λ f. f.at == x) (survive_after (surviving H) e.kind)
      ∙ ap (at_object x) (chosen-after objects (summary H) e.kind may)
      ∙ sym (filter-turned (λ (f : Entry). is_among (commits H) f.by) (λ f. f.at == x) (surviving H))

  stays-forth : (kind : Kind) (o : Object) (s : ℕ) → IsCommittedBy kind o s (commits H) (surviving_at x H) → IsCommittedBy kind o s (commits (H ++ e ∷ [])) (surviving_at x (H ++ e ∷ []))
  stays-forth kind o s is = rw same-commits (committed-alike kind o s (commits H) (surviving_at x H) (surviving_at x (H ++ e ∷ [])) (sym same-chosen) is)

  stays-back : (kind : Kind) (o : Object) (s : ℕ) → IsCommittedBy kind o s (commits (H ++ e ∷ [])) (surviving_at x (H ++ e ∷ [])) → IsCommittedBy kind o s (commits H) (surviving_at x H)
  stays-back kind o s is = committed-alike kind o s (commits H) (surviving_at x (H ++ e ∷ [])) (surviving_at x H) same-chosen (rw same-commits at is)

pub committed_stays : CommittedStays
committed_stays = λ objects H e x o s may isnt. (
  λ is. record { inside = is.inside; reached = stays-forth objects H e may isnt x o.kind o s is.reached },
  λ is. record { inside = is.inside; reached = stays-back objects H e may isnt x o.kind o s is.reached },
)

-- and back over several
pub committed-back : (objects : List Object) (H D : List Event) (x : ℕ) (o : Object) (s : ℕ) → RunsOn objects H D → AllByRecursion (λ e. is_commit e.kind ≡ false) D →
    IsCommitted o s x (H ++ D) → IsCommitted o s x H
committed-back objects H [] x o s on none is = rw (append-nil H) at is
committed-back objects H (e ∷ D) x o s on none is =
    (committed_stays objects H e x o s on.0 none.0).1 (committed-back objects (H ++ e ∷ []) D x o s on.1 none.1 (rw (← (append_assoc H (e ∷ []) D)) at is))

-- ---- nobody is open

-- all that survives is committed
all-chosen : (objects : List Object) (H : List Event) (x : ℕ) → IsRun objects H → ((t : ℕ) → is_open (summary H) t ≡ false) → of_these (commits H) (surviving_at x H) ≡ surviving_at x H
all-chosen objects H x going none =
    filter-all (λ (e : Entry). is_among (commits H) e.by) (surviving_at x H)
    (each-filter (λ e. is_among (commits H) e.by ≡ true) (λ e. e.at == x) (surviving H)
    (each-weaker (λ e known. committed e.by known.0 known.1) (surviving H) (transactions_in_run objects H going).survive))
  where
    committed : (t : ℕ) → t < (summary H).begun → is_among (summary H).aborted t ≡ false → is_among (commits H) t ≡ true
    committed t began left =
        elim (cases_Bool (is_among (commits H) t)) [
          | inl is ↦ is
          | inr isnt ↦ absurd (false≢true (sym (none t) ∙ pending_is_open (summary H) t began left isnt))
        ]

closed-by : RunsAlong → (kind : Kind) (o : Object) (base : ℕ) (log : List LogEntry) (x : ℕ) (C : List ℕ) (V : List Entry) (s : ℕ) → of_these C V ≡ V → RepresentsBy kind o base log x C V →
    state_by kind o base log ≡ Some s → IsCommittedBy kind o s C V
closed-by along Undo o base log x C V s all represents is = rw all (undo_represents-run o base log x C V represents along ∙ is)
closed-by along Intentions o base log x C V s all represents is = rw (same_Some base s is) at represents.reached
closed-by along Escrow o base log x C V s all represents is = represents.reached ∙ is

pub closed_is_committed : RunsAlong → StatesAreInside → ClosedIsCommitted
closed_is_committed along inside = λ objects H x m s checked going none represents sound is. record {
  inside = inside m s checked sound is;
  reached = closed-by along m.checked.kind (object m) m.base m.log x (commits H) (surviving_at x H) s (all-chosen objects H x going none) represents is;
}
