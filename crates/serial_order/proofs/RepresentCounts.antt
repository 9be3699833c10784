-- Objects that represent a history: how long their logs are, and which entries are open.
use Rattle.std.proofs.Common.{◌≡◌, ℕ, ◌<◌, ◌≤◌, ◌==◌, true, false, not, List, [], ◌∷◌, map, length, refl, sym, ap, ◌∙◌, inl, inr, length-append, arith}
use Rattle.std.specs.List.{AllByRecursion}
use Rattle.std.proofs.lemmas.Bool.{cases_Bool, false≢true}
use Rattle.std.proofs.lemmas.List.{length-map}
use Rattle.type_table.proofs.Elements.{each-weaker, each-both, each-filter, filter-none, filter-length}
use Rattle.type_table.specs.declared.kind.Kind.{Kind}
use Rattle.type_table.specs.declared.kind.Kind.TheVariants.{Undo, Intentions, Escrow}
use Rattle.object_trait.specs.Object.{Object}
use Rattle.object_trait.specs.Meaning.{object, open_of}
use Rattle.object_trait.specs.Steps.{open_transactions}
use Rattle.object_trait.specs.declared.log_entry.LogEntry.{LogEntry}
use Rattle.serial_order.specs.Operations.{is_among, ops, of}
use Rattle.serial_order.specs.History.{Summary, summary, is_open, commits, surviving}
use Rattle.serial_order.specs.Serial.{surviving_at}
use Rattle.serial_order.specs.Represent.{plain, RepresentsBy}
use Rattle.serial_order.specs.After.{LogsAreCounted, IdleIsClosed}
use Rattle.serial_order.specs.declared.entry.Entry.{Entry}
use Rattle.serial_order.proofs.Living.{living_at-length}
use Rattle.serial_order.proofs.Pairs.{each-rest, each-from_map}
use Rattle.serial_order.proofs.Runs.{transactions_in_run, pending_is_open, open_is_uncommitted}
use Rattle.serial_order.proofs.RepresentLogs.{ops-plain}
use Rattle.serial_order.proofs.RepresentUndo.{undo_of}
use Rattle.serial_order.proofs.RepresentEscrow.{as_deferred}
use Rattle.serial_order.proofs.RepresentDeferred.{deferred_of}

-- ---- by kinds of recovery

-- a log is no longer than what survives at its object
log-length : (recovery : Kind) (o : Object) (base : ℕ) (log : List LogEntry) (x : ℕ) (C : List ℕ) (V : List Entry) → RepresentsBy recovery o base log x C V → length log ≤ length V
log-length Undo o base log x C V represents =
    let whole = ap length represents.whole in
    omega (arith, length-append represents.past (map (plain x) log), length-map log (plain x), whole)
log-length Intentions o base log x C V represents =
    let whole = ap length represents.whole in
    let part = filter-length (λ (e : Entry). not (is_among C e.by)) V in
    omega (arith, length-map log (plain x), whole, part)
log-length Escrow o base log x C V represents =
    let whole = ap length represents.whole in
    let part = filter-length (λ (e : Entry). not (is_among C e.by)) V in
    omega (arith, length-map log (plain x), whole, part)

-- the operations of a transaction that didn't commit are its open entries
own-entries : (recovery : Kind) (o : Object) (base : ℕ) (log : List LogEntry) (x : ℕ) (C : List ℕ) (V : List Entry) (t : ℕ) → is_among C t ≡ false →
    RepresentsBy recovery o base log x C V → of t V ≡ map (plain x) (open_of t log)
own-entries Undo o base log x C V t apart represents = undo_of o base log x C V represents t apart
own-entries Intentions o base log x C V t apart represents = deferred_of o base log x C V represents t apart
own-entries Escrow o base log x C V t apart represents = deferred_of o base log x C V (as_deferred o base log x C V represents) t apart

pub logs_are_counted : LogsAreCounted
logs_are_counted = λ m x H represents.
    record {
      short =
          let log = log-length m.checked.kind (object m) m.base m.log x (commits H) (surviving_at x H) represents in
          let living = living_at-length x H in
          omega (arith, log, living);
      own = λ t open_now.
          sym (ops-plain x (open_of t m.log))
          ∙ ap ops (sym (own-entries m.checked.kind (object m) m.base m.log x (commits H) (surviving_at x H) t (open_is_uncommitted (summary H) t open_now) represents));
    }

-- ---- where no open transaction has an operation

-- with all entries done none is open
done-closes : (log : List LogEntry) → AllByRecursion (λ e. e.done ≡ true) log → open_transactions log ≡ []
done-closes [] done = refl
done-closes (e ∷ log) done = rw (done.0, done-closes log done.1) refl

-- a list that a map makes empty is empty
empty-map : {A B : Type 0} (f : A → B) (V : List A) → map f V ≡ [] → V ≡ []
empty-map f [] none = refl
empty-map f (v ∷ V) none = let counted = ap length none in absurd (omega (arith, counted))

-- where all that survives is of committed transactions
closes : (recovery : Kind) (o : Object) (base : ℕ) (log : List LogEntry) (x : ℕ) (C : List ℕ) (V : List Entry) → RepresentsBy recovery o base log x C V
    → AllByRecursion (λ e. is_among C e.by ≡ true) V → open_transactions log ≡ []
closes Undo o base log x C V represents ended =
    let all = each-rest (λ e. is_among C e.by ≡ true) represents.past (map (plain x) log) (rw (sym represents.whole) at ended) in
    done-closes log (each-both (λ e flag is. flag ∙ is) log represents.flags (each-from_map (λ e. is_among C e.by ≡ true) (plain x) log all))
closes Intentions o base log x C V represents ended =
    let none = filter-none (λ (e : Entry). not (is_among C e.by)) V (each-weaker (λ e is. ap not is) V ended) in
    ap open_transactions (empty-map (plain x) log (represents.whole ∙ none))
closes Escrow o base log x C V represents ended =
    let none = filter-none (λ (e : Entry). not (is_among C e.by)) V (each-weaker (λ e is. ap not is) V ended) in
    ap open_transactions (empty-map (plain x) log (represents.whole ∙ none))

-- in a run it is, where none of it is of an open transaction
committed : (s : Summary) (e : Entry) → e.by < s.begun → is_among s.aborted e.by ≡ false → is_open s e.by ≡ false → is_among s.committed e.by ≡ true
committed s e began kept closed =
    elim (cases_Bool (is_among s.committed e.by)) [
      | inl is ↦ is
      | inr isnt ↦ absurd (false≢true (sym closed ∙ pending_is_open s e.by began kept isnt))
    ]

pub idle_is_closed : IdleIsClosed
idle_is_closed = λ objects m x H run represents idle.
    let living = each-filter _ (λ (e : Entry). e.at == x) (surviving H) (transactions_in_run objects H run).survive in
    closes m.checked.kind (object m) m.base m.log x (commits H) (surviving_at x H) represents
    (each-both (λ e known closed. committed (summary H) e known.0 known.1 closed) (surviving_at x H) living idle)
