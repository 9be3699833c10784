use Rattle.std.proofs.Common.{◌≡◌, ℕ, ◌-◌, ◌<◌, ◌≤◌, List, length, All, sym, ap, subst, ◌∙◌, arith}
use Rattle.type_table.specs.Table.{Table}
use Rattle.table_checker.specs.Checked.{Checked}
use Rattle.object_trait.specs.Strike.{keep_first}
use Rattle.object_trait.specs.Meaning.{Meaning, is_open_of, open_of}
use Rattle.object_trait.specs.Steps.{Keeps}
use Rattle.object_trait.specs.declared.log_entry.LogEntry.{LogEntry}
use Rattle.object_trait.proofs.Leaving.{each-left}
use Rattle.intentions_manager.specs.Views.{seen_by, with_view}
use Rattle.intentions_manager.specs.Walk.{walked}
use Rattle.intentions_manager.specs.Kept.{IsKeptDeferred}
use Rattle.intentions_manager.specs.declared.views.View.{View}
use Rattle.intentions_manager.proofs.Seeing.{count-any}
use Rattle.intentions_manager.proofs.Keeping.{meant, all-open, low-ops, seen-count}
use Rattle.intentions_manager.proofs.Rewinding.{StrikeLaws, RewindLaws, with_log, struck-keeps, dropped-kept, rewound-kept}
use Rattle.declared_types.specs.Declarations.{IsByTable}
use Rattle.intentions_manager.proofs.manager.IntentionsManagerRecovery.strike.Goals as goal

-- as many of t's entries stay as there are more than m
left : {m : Meaning} {views : List View} (t less : ℕ) (v : View) (log : List LogEntry) → IsKeptDeferred m views → v ≡ seen_by t m.base views → log ≡ keep_first (is_open_of t) (v.count - less) m.log
    → log ≡ keep_first (is_open_of t) (length (open_of t m.log) - less) m.log
left {m} {views} t less v log h seen cut = cut ∙ ap (λ n. keep_first (is_open_of t) (n - less) m.log) (seen-count t v h seen)

pub table-requires : goal.table-requires
table-requires c = subst IsByTable (sym (ap (λ (x : Checked). x.kind) c.deref.ensures ∙ c.self.invariant.0.deferred)) tt

pub cut_behind-self-inside-requires-clause-open : goal.cut_behind-self-inside-requires-clause-open
cut_behind-self-inside-requires-clause-open c = all-open c.self.invariant.0

pub cut_behind-self-inside-requires-clause-few : goal.cut_behind-self-inside-requires-clause-few
cut_behind-self-inside-requires-clause-few c = low-ops c.self.invariant.0

-- ---- nothing is left

pub invariant_of-self : goal.invariant_of-self
invariant_of-self c =
    let inside = c.self.inside in
    let t = c.args.t in
    let laws : StrikeLaws = record { first = c.keeps_first.ensures; others = c.keeps_others.ensures; sound_after = c.sound_after_strike.ensures } in
    let counted = seen-count t c.seen_at-view.result c.self.invariant.0 c.seen_at-view.ensures in
    let nothing : length (open_of t inside.log.items) - c.args.m ≡ 0 = ap (λ n. n - c.args.m) (sym counted) ∙ c.if-count-eq0.true in (
      dropped-kept laws c.drop_view.new.views.items t (length (open_of t inside.log.items) - c.args.m) c.cut_behind-self-inside.new.log.items c.self.invariant.0 (left c.args.t c.args.m c.seen_at-view.result c.cut_behind-self-inside.new.log.items c.self.invariant.0 c.seen_at-view.ensures c.cut_behind-self-inside.ensures.cut) nothing c.drop_view.ensures,
      c.cut_behind-self-inside.ensures.bits,
    )

pub returns-then-count-eq0 : goal.returns-then-count-eq0
returns-then-count-eq0 c =
    let inside = c.self.inside in
    let t = c.args.t in
    subst (λ (old : Meaning). Keeps old t (length (open_of t old.log) - c.args.m) (with_log (meant c.self.inside) c.cut_behind-self-inside.new.log.items)) c.self.view_is
    (struck-keeps t (length (open_of t inside.log.items) - c.args.m) c.cut_behind-self-inside.new.log.items c.self.invariant.0 (left c.args.t c.args.m c.seen_at-view.result c.cut_behind-self-inside.new.log.items c.self.invariant.0 c.seen_at-view.ensures c.cut_behind-self-inside.ensures.cut))

-- ---- something is left

pub walked-state-requires-clause-operations : goal.walked-state-requires-clause-operations
walked-state-requires-clause-operations c =
    let inside = c.self.inside in
    let t = c.args.t in
    let T : Table = inside.checked.value.file.table in
    let table : c.table.result.now ≡ T = c.table.ensures ∙ ap (λ (x : Checked). x.file.table) c.deref.ensures in
    subst (λ (V : List LogEntry). All (λ (e : LogEntry). e.op < length c.table.result.now.ops) V) (sym c.deref-2.ensures.value)
    (subst (λ (x : Table). All (λ (e : LogEntry). e.op < length x.ops) c.cut_behind-self-inside.new.log.items) (sym table)
    (each-left (λ (e : LogEntry). e.op < length T.ops) t (length (open_of t inside.log.items) - c.args.m) inside.log.items c.cut_behind-self-inside.new.log.items (left c.args.t c.args.m c.seen_at-view.result c.cut_behind-self-inside.new.log.items c.self.invariant.0 c.seen_at-view.ensures c.cut_behind-self-inside.ensures.cut) c.self.invariant.0.ops_fit))

pub put_view-requires-clause-room : goal.put_view-requires-clause-room
put_view-requires-clause-room c =
    let inside = c.self.inside in
    let t = c.args.t in
    let some : 0 < c.seen_at-view.result.count = omega arith in
    let seen : c.seen_at-view.result.count ≡ (seen_by t 0 inside.views.items).count =
    ap (λ (v : View). v.count) c.seen_at-view.ensures ∙ count-any t inside.base 0 inside.views.items in
    λ none. absurd (omega (arith, some, seen, none))

pub invariant_of-self-2 : goal.invariant_of-self-2
invariant_of-self-2 c =
    let inside = c.self.inside in
    let t = c.args.t in
    let T : Table = inside.checked.value.file.table in
    let log = c.cut_behind-self-inside.new.log.items in
    let n = length (open_of t inside.log.items) - c.args.m in
    let strike : StrikeLaws = record { first = c.keeps_first.ensures; others = c.keeps_others.ensures; sound_after = c.sound_after_strike.ensures } in
    let laws : RewindLaws = record { inside = c.ends_inside.ensures; within = c.ends_within.ensures; strike = strike } in
    let counted = seen-count t c.seen_at-view.result c.self.invariant.0 c.seen_at-view.ensures in
    let count : c.seen_at-view.result.count - c.args.m ≡ n = ap (λ k. k - c.args.m) counted in
    let some : 0 < n = omega arith in
    let many : n ≤ length (open_of t inside.log.items) = omega arith in
    let table : c.table.result.now ≡ T = c.table.ensures ∙ ap (λ (x : Checked). x.file.table) c.deref.ensures in
    let state : c.walked-state.result ≡ walked T t inside.base log = c.walked-state.ensures.exact ∙ ap (λ x. walked x t inside.base c.deref-2.result.now) table ∙ ap (walked T t inside.base) c.deref-2.ensures.value in
    let put : c.put_view.new.views.items ≡ with_view (record { by = t; state = c.walked-state.result; count = n }) inside.views.items =
    c.put_view.ensures ∙ ap (λ k. with_view (record { by = t; state = c.walked-state.result; count = k }) inside.views.items) count in
    (rewound-kept laws c.put_view.new.views.items t n c.walked-state.result log c.self.invariant.0 (left c.args.t c.args.m c.seen_at-view.result c.cut_behind-self-inside.new.log.items c.self.invariant.0 c.seen_at-view.ensures c.cut_behind-self-inside.ensures.cut) many some state put, c.cut_behind-self-inside.ensures.bits)

pub returns : goal.returns
returns c =
    let inside = c.self.inside in
    let t = c.args.t in
    subst (λ (old : Meaning). Keeps old t (length (open_of t old.log) - c.args.m) (with_log (meant c.self.inside) c.cut_behind-self-inside.new.log.items)) c.self.view_is
    (struck-keeps t (length (open_of t inside.log.items) - c.args.m) c.cut_behind-self-inside.new.log.items c.self.invariant.0 (left c.args.t c.args.m c.seen_at-view.result c.cut_behind-self-inside.new.log.items c.self.invariant.0 c.seen_at-view.ensures c.cut_behind-self-inside.ensures.cut))
