-- The log of an object that represents a history says who keeps a transaction from an operation.
use Rattle.std.proofs.Common.{◌≡◌, ℕ, ◌<◌, Bool, true, false, not, ◌&&◌, ◌==◌, List, [], ◌∷◌, ◌++◌, map, filter, Option, Some, None, refl, sym, ap, ◌∙◌, inl, inr}
use Rattle.std.specs.List.{find, AllByRecursion}
use Rattle.std.specs.Option.{option_map, option_or}
use Rattle.std.proofs.lemmas.Bool.{cases_Bool, both_ways}
use Rattle.std.proofs.lemmas.List.Elements.{filter-append}
use Rattle.type_table.proofs.Elements.{each-weaker, each-filter, filter-none}
use Rattle.type_table.specs.declared.kind.Kind.{Kind}
use Rattle.type_table.specs.declared.kind.Kind.TheVariants.{Undo, Intentions, Escrow}
use Rattle.object_trait.specs.Object.{Object}
use Rattle.object_trait.specs.Meaning.{object}
use Rattle.object_trait.specs.Steps.{stops_by, alone_by, holder_of}
use Rattle.object_trait.specs.declared.log_entry.LogEntry.{LogEntry}
use Rattle.object_trait.proofs.Runs.{open-all}
use Rattle.serial_order.specs.Operations.{is_among, at_object, pending}
use Rattle.serial_order.specs.History.{Summary, summary, is_open}
use Rattle.serial_order.specs.View.{stops_at, alone_at, is_alone, conflicts_with}
use Rattle.serial_order.specs.Answer.{earliest, earliest_rather, blocker}
use Rattle.serial_order.specs.Represent.{plain, RepresentsBy}
use Rattle.serial_order.specs.After.{AreInRun}
use Rattle.serial_order.specs.Laws.{StopperIsBlocker}
use Rattle.serial_order.specs.declared.entry.Entry.{Entry}
use Rattle.serial_order.proofs.Runs.{transactions_in_run, pending_is_open, open_is_uncommitted}
use Rattle.serial_order.proofs.Held.{rather-filter}
use Rattle.serial_order.proofs.Allows.{stops_alike, alone-alike}

-- a test that agrees on each finds the same
earliest-alike : (first second : Entry → Bool) (V : List Entry) → AllByRecursion (λ e. first e ≡ second e) V → earliest first V ≡ earliest second V
earliest-alike first second [] same = refl
earliest-alike first second (e ∷ V) same = rw (same.0, earliest-alike first second V same.1) refl

rather-alike : (rather first second : Entry → Bool) (V : List Entry) → AllByRecursion (λ e. first e ≡ second e) V → earliest_rather rather first V ≡ earliest_rather rather second V
rather-alike rather first second V same =
    ap (λ found. option_or found (earliest first V)) (earliest-alike (λ e. rather e && first e) (λ e. rather e && second e) V (each-weaker (λ e is. ap (λ b. rather e && b) is) V same))
    ∙ ap (option_or (earliest (λ e. rather e && second e) V)) (earliest-alike first second V same)

-- in a run a transaction whose operation survives is open where it didn't commit
open_alike : (s : Summary) (t : ℕ) → t < s.begun → is_among s.aborted t ≡ false → is_open s t ≡ not (is_among s.committed t)
open_alike s t began kept =
    elim (cases_Bool (is_among s.committed t)) [
      | inl past ↦ closed past
      | inr now ↦ rw (pending_is_open s t began kept now, now) refl
    ]
  where
    closed : is_among s.committed t ≡ true → is_open s t ≡ not (is_among s.committed t)
    closed past = elim (cases_Bool (is_open s t)) [
      | inl is ↦ absurd (both_ways (is_among s.committed t) (open_is_uncommitted s t is) past)
      | inr isnt ↦ rw (isnt, past) refl
    ]

-- what blocks is among the pending operations
blocker-pending : (o : Object) (s : Summary) (x t k : ℕ) → AreInRun s →
    blocker o s x t k ≡ earliest_rather (is_alone o s x t k) (λ e. not (e.by == t) && stops_at o.kind o s.committed (at_object x s.survives) t k e) (pending s.committed (at_object x s.survives))
blocker-pending o s x t k known =
    let rest : Entry → Bool = λ e. not (e.by == t) && stops_at o.kind o s.committed (at_object x s.survives) t k e in
    let here = each-filter (λ e. (e.by < s.begun) × (is_among s.aborted e.by ≡ false)) (λ e. e.at == x) s.survives known.survive in
    rather-alike (is_alone o s x t k) (conflicts_with o s x t k) (λ e. not (is_among s.committed e.by) && rest e) (at_object x s.survives)
    (each-weaker (λ e known_e. ap (λ b. b && rest e) (open_alike s e.by known_e.0 known_e.1)) (at_object x s.survives) here)
    ∙ rather-filter (is_alone o s x t k) (λ e. not (is_among s.committed e.by)) rest (at_object x s.survives)

-- ---- in the log

-- the pending operations are the open entries
undo-pending : (C : List ℕ) (x : ℕ) (log : List LogEntry) → AllByRecursion (λ e. e.done ≡ is_among C e.by) log → pending C (map (plain x) log) ≡ map (plain x) (filter (λ e. not e.done) log)
undo-pending C x [] flags = refl
undo-pending C x (e ∷ log) flags =
    elim (cases_Bool e.done) [
      | inl done ↦ let past : is_among C e.by ≡ true = sym flags.0 ∙ done in rw (done, past) (undo-pending C x log flags.1)
      | inr undone ↦ let now : is_among C e.by ≡ false = sym flags.0 ∙ undone in rw (undone, now) (ap (λ rest. plain x e ∷ rest) (undo-pending C x log flags.1))
    ]

pending-log : (recovery : Kind) (o : Object) (base : ℕ) (log : List LogEntry) (x : ℕ) (C : List ℕ) (V : List Entry) → RepresentsBy recovery o base log x C V → pending C V ≡ map (plain x) (filter (λ e. not e.done) log)
pending-log Undo o base log x C V represents =
    ap (pending C) (sym represents.whole)
    ∙ filter-append (λ (e : Entry). not (is_among C e.by)) represents.past (map (plain x) log)
    ∙ ap (λ W. W ++ pending C (map (plain x) log)) (filter-none (λ (e : Entry). not (is_among C e.by)) represents.past (each-weaker (λ e is. ap not is) represents.past represents.ended))
    ∙ undo-pending C x log represents.flags
pending-log Intentions o base log x C V represents = sym represents.whole ∙ ap (map (plain x)) (sym (open-all log represents.flags))
pending-log Escrow o base log x C V represents = sym represents.whole ∙ ap (map (plain x)) (sym (open-all log represents.flags))

-- the earliest of a log's operations is that of its first entry
found-alike : (test : Entry → Bool) (own : LogEntry → Bool) (x : ℕ) (log : List LogEntry) → ((e : LogEntry) → test (plain x e) ≡ own e) →
    option_map (λ e. e.by) (earliest test (map (plain x) log)) ≡ option_map (λ e. e.by) (find own log)
found-alike test own x [] same = refl
found-alike test own x (e ∷ log) same =
    elim (cases_Bool (own e)) [
      | inl passes ↦ let there : test (plain x e) ≡ true = same e ∙ passes in rw (there, passes) refl
      | inr fails ↦ let there : test (plain x e) ≡ false = same e ∙ fails in rw (there, fails) (found-alike test own x log same)
    ]

-- so it is of those that are named first, and of the rest
map-or : (first second : Option Entry) → option_map (λ (e : Entry). e.by) (option_or first second) ≡ option_or (option_map (λ (e : Entry). e.by) first) (option_map (λ (e : Entry). e.by) second)
map-or None second = refl
map-or (Some e) second = refl

stops-in_log : (recovery : Kind) (o : Object) → o.kind ≡ recovery → (base : ℕ) (log : List LogEntry) (x : ℕ) (s : Summary) (t k : ℕ) → AreInRun s → RepresentsBy recovery o base log x s.committed (at_object x s.survives) →
    option_map (λ e. e.by) (blocker o s x t k)
    ≡ option_or (holder_of (λ e. alone_by recovery o base log t k e && (not (e.by == t) && stops_by recovery o base log t k e)) log)
    (holder_of (λ e. not (e.by == t) && stops_by recovery o base log t k e) log)
stops-in_log recovery o kind base log x s t k known represents =
    let V : List Entry = at_object x s.survives in
    let W : List Entry = map (plain x) (filter (λ e. not e.done) log) in
    let stops : Entry → Bool = λ e. not (e.by == t) && stops_at o.kind o s.committed V t k e in
    let own : LogEntry → Bool = λ e. not (e.by == t) && stops_by recovery o base log t k e in
    let same : (e : LogEntry) → stops (plain x e) ≡ own e = λ e.
    ap (λ b. not (e.by == t) && b) (ap (λ way. stops_at way o s.committed V t k (plain x e)) kind ∙ stops_alike recovery o base log x s.committed V t k e represents) in
    let alone : (e : LogEntry) → is_alone o s x t k (plain x e) ≡ alone_by recovery o base log t k e = λ e.
    ap (λ way. alone_at way o s.committed V t k (plain x e)) kind ∙ alone-alike recovery o base log x s.committed V t k e represents in
    ap (option_map (λ (e : Entry). e.by)) (blocker-pending o s x t k known ∙ ap (earliest_rather (is_alone o s x t k) stops) (pending-log recovery o base log x s.committed V represents))
    ∙ map-or (earliest (λ e. is_alone o s x t k e && stops e) W) (earliest stops W)
    ∙ ap (λ found. option_or found (option_map (λ (e : Entry). e.by) (earliest stops W)))
    (found-alike (λ e. is_alone o s x t k e && stops e) (λ e. alone_by recovery o base log t k e && own e) x (filter (λ e. not e.done) log)
    (λ e. ap (λ b. b && stops (plain x e)) (alone e) ∙ ap (λ b. alone_by recovery o base log t k e && b) (same e)))
    ∙ ap (option_or (holder_of (λ e. alone_by recovery o base log t k e && own e) log)) (found-alike stops own x (filter (λ e. not e.done) log) same)

pub stopper_blocks : StopperIsBlocker
stopper_blocks = λ objects H x t k m run represents. stops-in_log m.checked.kind (object m) refl m.base m.log x (summary H) t k (transactions_in_run objects H run) represents
