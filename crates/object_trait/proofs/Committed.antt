-- The committed state of an object, by its base and its log.
use Rattle.std.proofs.Common.{◌≡◌, ℕ, Bool, true, false, not, ◌==◌, List, [], ◌∷◌, ◌++◌, filter, Some, refl, sym, ap, ◌∙◌, inl, inr, append-nil}
use Rattle.std.specs.List.{AllByRecursion}
use Rattle.std.proofs.lemmas.Bool.{cases_Bool, and_parts, not-true, false≢true}
use Rattle.std.proofs.lemmas.List.{map-append}
use Rattle.std.proofs.lemmas.List.Elements.{filter-append}
use Rattle.type_table.specs.Commute.{Covers, CommutesBackward}
use Rattle.type_table.specs.Run.{run, IsLegal}
use Rattle.type_table.specs.Laws.{RunsAlong, EndsInside, LegalEnds}
use Rattle.type_table.specs.declared.table_kind.TableKind.TheVariants as tabled
use Rattle.type_table.specs.declared.kind.Kind.{Kind}
use Rattle.type_table.specs.declared.kind.Kind.TheVariants.{Undo, Intentions, Escrow}
use Rattle.type_table.proofs.Elements.{filter-all}
use Rattle.type_table.proofs.Legal.{legal-front}
use Rattle.object_trait.specs.Object.{Object, CoversBy}
use Rattle.object_trait.specs.Meaning.{object, log_ops, is_open_of, run_log, state_by}
use Rattle.object_trait.specs.Sound.{IsLocked, IsInOrder, IsSoundUndo, IsSoundBy}
use Rattle.object_trait.specs.Steps.{IsStrikeBy}
use Rattle.object_trait.specs.Committed.{done_of, committed_state_by, committed_of}
use Rattle.object_trait.specs.Laws.{PartsSort, SortsLook, SoundHasCommitted, CommittedIsLeft, AllDoneIsCommitted}
use Rattle.object_trait.specs.declared.log_entry.LogEntry.{LogEntry}
use Rattle.object_trait.proofs.Lists.{pairs-both}
use Rattle.object_trait.proofs.Sorting.{parts-mine}
use Rattle.object_trait.proofs.Striking.{filter-keep_first}

-- ---- it is there

-- b, requested, doesn't conflict with a, held
abbrev pub free_of : Object → LogEntry → LogEntry → Bool
free_of o a b = not (o.conflicts b.op a.op)

-- an open entry may pass a later done one, which is another transaction's
open-passes : (o : Object) (a b : LogEntry) → IsLocked o a b → IsInOrder a b → a.done ≡ false → b.done ≡ true → free_of o a b ≡ true
open-passes o a b locked in_order open_now done =
    elim (cases_Bool (b.by == a.by)) [
      | inl same ↦ absurd (false≢true (sym (in_order open_now same) ∙ done))
      | inr other ↦ rw (locked open_now other) refl
    ]

pub done-legal : PartsSort LogEntry → SortsLook LogEntry → (o : Object) (base : ℕ) (log : List LogEntry) → Covers tabled.Undo o.table o.set o.conflicts → IsSoundUndo o base log →
    IsLegal o.table (Some base) (log_ops (done_of log))
done-legal parts look o base log covers sound =
    let done : LogEntry → Bool = λ e. e.done in
    let rest : List LogEntry = filter (λ e. not (done e)) log in
    let free = pairs-both {S = λ a b. done a ≡ false → done b ≡ true → free_of o a b ≡ true} (λ a b locked in_order. open-passes o a b locked in_order) log sound.locked sound.in_order in
    let commute : (a b : LogEntry) → free_of o a b ≡ true → CommutesBackward o.table o.set b.op a.op = λ a b passes. covers.commute b.op a.op (not-true (o.conflicts b.op a.op) passes) in
    let looks = look o.table o.set (λ e. e.op) (free_of o) base log (done_of log ++ rest) covers.closed sound.inside commute
    (parts (free_of o) log (done_of log) rest (parts-mine (free_of o) done log free)) sound.legal in
    legal-front o.table (Some base) (log_ops (done_of log)) (log_ops rest) (rw (map-append (λ (e : LogEntry). e.op) (done_of log) rest) at looks.0)

committed-is : PartsSort LogEntry → SortsLook LogEntry → EndsInside → LegalEnds → (kind : Kind) (o : Object) (base : ℕ) (log : List LogEntry) → CoversBy kind o → IsSoundBy kind o base log →
    (s : ℕ) × (committed_state_by kind o base log ≡ Some s) × (o.set s ≡ true)
committed-is parts look inside ends Undo o base log covers sound =
    let found = ends o.table (Some base) (log_ops (done_of log)) (done-legal parts look o base log covers sound) in
    (found.0, found.1, inside o.table o.set base found.0 (log_ops (done_of log)) covers.closed sound.inside found.1)
committed-is parts look inside ends Intentions o base log covers sound = (base, refl, sound.inside)
committed-is parts look inside ends Escrow o base log covers sound = (base, refl, sound.inside)

pub sound_has_committed : EndsInside → LegalEnds → PartsSort LogEntry → SortsLook LogEntry → SoundHasCommitted
sound_has_committed inside ends parts look = λ m covered sound. committed-is parts look inside ends m.checked.kind (object m) m.base m.log covered sound

-- ---- it is left

-- an open entry more
applied-by : (kind : Kind) (o : Object) (base : ℕ) (log : List LogEntry) (t k : ℕ) → committed_state_by kind o base (log ++ (record { by = t; op = k; done = false }) ∷ []) ≡ committed_state_by kind o base log
applied-by Undo o base log t k = ap (run_log o base) (filter-append (λ (e : LogEntry). e.done) log ((record { by = t; op = k; done = false }) ∷ []) ∙ append-nil (done_of log))
applied-by Intentions o base log t k = refl
applied-by Escrow o base log t k = refl

-- an open entry isn't done
open-undone : (t : ℕ) (e : LogEntry) → is_open_of t e ≡ true → e.done ≡ false
open-undone t e is = not-true e.done (and_parts (e.by == t) (not e.done) is).1

kept-by : RunsAlong → (kind : Kind) (o : Object) (base : ℕ) (log : List LogEntry) (t n new_base : ℕ) (new_log : List LogEntry) → IsStrikeBy kind o base log t n new_base new_log →
    committed_state_by kind o new_base new_log ≡ committed_state_by kind o base log
kept-by along Undo o base log t n new_base new_log strike =
    let same : done_of log ≡ strike.moved ++ done_of new_log =
    sym (filter-keep_first (is_open_of t) (λ (e : LogEntry). e.done) (open-undone t) n log) ∙ ap done_of strike.front
    ∙ filter-append (λ (e : LogEntry). e.done) strike.moved new_log ∙ ap (λ l. l ++ done_of new_log) (filter-all (λ (e : LogEntry). e.done) strike.moved strike.done) in
    sym (ap (run_log o base) same ∙ ap (run o.table (Some base)) (map-append (λ (e : LogEntry). e.op) strike.moved (done_of new_log))
    ∙ along o.table (Some base) (log_ops strike.moved) (log_ops (done_of new_log)) ∙ ap (λ from. run o.table from (log_ops (done_of new_log))) strike.reached)
kept-by along Intentions o base log t n new_base new_log strike = ap Some strike.same_base
kept-by along Escrow o base log t n new_base new_log strike = ap Some strike.same_base

pub committed_is_left : RunsAlong → CommittedIsLeft
committed_is_left along = (
  λ m t k. applied-by m.checked.kind (object m) m.base m.log t k,
  λ old new t n keeps. ap (λ c. committed_of (record { checked = c; base = new.base; log = new.log })) keeps.checked
      ∙ kept-by along old.checked.kind (object old) old.base old.log t n new.base new.log keeps.strike,
)

-- ---- all are done

all-done-by : (kind : Kind) (o : Object) (base : ℕ) (log : List LogEntry) → AllByRecursion (λ e. e.done ≡ true) log → committed_state_by kind o base log ≡ state_by kind o base log
all-done-by Undo o base log all = ap (run_log o base) (filter-all (λ (e : LogEntry). e.done) log all)
all-done-by Intentions o base log all = refl
all-done-by Escrow o base log all = refl

pub all_done_is_committed : AllDoneIsCommitted
all_done_is_committed = λ m all. all-done-by m.checked.kind (object m) m.base m.log all
