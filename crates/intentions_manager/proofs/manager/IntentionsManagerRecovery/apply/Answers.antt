use Rattle.std.proofs.Common.{rules, ◌≡◌, ◌+◌, ◌<◌, ◌≤◌, false, not, List, [], ◌∷◌, ◌++◌, length, sym, ap, subst, ◌∙◌, refl, arith}
use Rattle.std.proofs.lemmas.List.Filters.{length-filter_both}
use Rattle.type_table.specs.Table.{Table}
use Rattle.table_checker.specs.Checked.{Checked}
use Rattle.object_trait.specs.Meaning.{Meaning, is_open_of}
use Rattle.object_trait.specs.Steps.{MayApply, applied}
use Rattle.object_trait.specs.declared.log_entry.LogEntry.{LogEntry}
use Rattle.intentions_manager.specs.Views.{seen_by, with_view}
use Rattle.intentions_manager.specs.Walk.{stepped}
use Rattle.intentions_manager.specs.Kept.{LogHasBits, IsKeptDeferred}
use Rattle.intentions_manager.specs.declared.views.View.{View}
use Rattle.intentions_manager.proofs.Bits.{bits-push}
use Rattle.intentions_manager.proofs.Keeping.{meant, seen-count, next_view, applied-kept}
use Rattle.declared_types.specs.Declarations.{IsByTable}
use Rattle.intentions_manager.proofs.manager.IntentionsManagerRecovery.apply.Goals as goal

pub table-requires : goal.table-requires
table-requires c = subst IsByTable (sym (ap (λ (x : Checked). x.kind) c.deref.ensures ∙ c.self.invariant.0.deferred)) tt

pub overflow_add-view : goal.overflow_add-view
overflow_add-view c =
    let inside = c.self.inside in
    let t = c.args.t in
    let may = subst (λ (v : Meaning). MayApply v t c.args.k) (sym c.self.view_is) c.requires in
    let room : length inside.log.items < 4294967295 = may.room in
    let both = length-filter_both (is_open_of t) (λ e. not (is_open_of t e)) (λ _. refl) inside.log.items in
    let seen : c.seen_at-seen.result ≡ seen_by t inside.base inside.views.items = c.seen_at-seen.ensures ∙ ap (seen_by t inside.base) c.in_ok-reserve-2.ensures.items in
    let counted = seen-count t c.seen_at-seen.result c.self.invariant.0 seen in
    let here : c.seen_at-seen.result.count + 1 ≤ 4294967295 = omega arith in
    search rules

pub invariant_of-self-2 : goal.invariant_of-self-2
invariant_of-self-2 c =
    let inside = c.self.inside in
    let t = c.args.t in
    let k = c.args.k in
    let T : Table = inside.checked.value.file.table in
    let views = inside.views.items in
    let may = subst (λ (v : Meaning). MayApply v t k) (sym c.self.view_is) c.requires in
    let entry : LogEntry = record { by = t; op = k; done = false } in
    let log : c.push_reserved.new.self.items ≡ inside.log.items ++ entry ∷ [] = c.push_reserved.ensures.items ∙ ap (λ V. V ++ entry ∷ []) c.in_ok-reserve.ensures.items in
    let seen : c.seen_at-seen.result ≡ seen_by t inside.base views = c.seen_at-seen.ensures ∙ ap (seen_by t inside.base) c.in_ok-reserve-2.ensures.items in
    let table : c.table.result.now ≡ T = c.table.ensures ∙ ap (λ (x : Checked). x.file.table) c.deref.ensures in
    let state : c.stepped-state.result ≡ stepped T (seen_by t inside.base views).state k =
    c.stepped-state.ensures.exact ∙ ap (λ x. stepped x c.seen_at-seen.result.state k) table ∙ ap (λ (v : View). stepped T v.state k) seen in
    let count : c.seen_at-seen.result.count + 1 ≡ (seen_by t inside.base views).count + 1 = ap (λ (v : View). v.count + 1) seen in
    let put : ◌≡◌ {A = View} (record { by = t; state = c.stepped-state.result; count = c.seen_at-seen.result.count + 1 }) (next_view (meant inside) views t k) = cc in
    let made : c.put_view.new.views.items ≡ with_view (next_view (meant inside) views t k) views = c.put_view.ensures ∙ ap (λ w. with_view w c.reserve-2.new.self.items) put ∙ ap (with_view (next_view (meant inside) views t k)) c.in_ok-reserve-2.ensures.items in (
      subst (λ L. IsKeptDeferred (record { checked = inside.checked.value; base = inside.base; log = L }) c.put_view.new.views.items) (sym log)
          (applied-kept c.runs_along.ensures c.equi_extends.ensures c.steps_within.ensures c.sound_after_apply.ensures c.put_view.new.views.items t k c.self.invariant.0 may made),
      subst (LogHasBits c.with_bit-self-inside.result) (sym log)
          (bits-push inside.word c.with_bit-self-inside.result inside.log.items entry c.with_bit-self-inside.ensures.added c.with_bit-self-inside.ensures.kept c.self.invariant.1),
    )

pub returns-clause-applied : goal.returns-clause-applied
returns-clause-applied c =
    let inside = c.self.inside in
    let entry : LogEntry = record { by = c.args.t; op = c.args.k; done = false } in
    ap (λ (log : List LogEntry). record { checked = inside.checked.value; base = inside.base; log = log }) (c.push_reserved.ensures.items ∙ ap (λ log. log ++ entry ∷ []) c.in_ok-reserve.ensures.items)
    ∙ ap (λ (m : Meaning). applied m c.args.t c.args.k) c.self.view_is
