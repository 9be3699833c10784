use Rattle.std.proofs.Common.{◌≡◌, ◌≤◌, not, eqb, length, All, sym, ap, subst, ◌∙◌}
use Rattle.std.proofs.lemmas.List.Elements.{All-filter}
use Rattle.type_table.specs.Table.{Table}
use Rattle.table_checker.specs.Checked.{Checked}
use Rattle.object_trait.specs.Meaning.{Meaning}
use Rattle.object_trait.specs.Steps.{IsCommit}
use Rattle.intentions_manager.specs.Walk.{carried, FitsTable}
use Rattle.intentions_manager.specs.declared.views.View.{View}
use Rattle.intentions_manager.proofs.Keeping.{meant, all-open}
use Rattle.intentions_manager.proofs.Committing.{CommitLaws, IsCommitted, committed, committed-commits, committed-kept}
use Rattle.declared_types.specs.Declarations.{IsByTable}
use Rattle.intentions_manager.proofs.manager.IntentionsManagerRecovery.commit.Goals as goal

pub table-requires : goal.table-requires
table-requires c = subst IsByTable (sym (ap (λ (x : Checked). x.kind) c.deref.ensures ∙ c.self.invariant.0.deferred)) tt

pub carry-self-inside-requires-clause-open : goal.carry-self-inside-requires-clause-open
carry-self-inside-requires-clause-open c = all-open c.self.invariant.0

pub carry-self-inside-requires-clause-states : goal.carry-self-inside-requires-clause-states
carry-self-inside-requires-clause-states c =
    let inside = c.self.inside in
    let T : Table = inside.checked.value.file.table in
    let table : c.table.result.now ≡ T = c.table.ensures ∙ ap (λ (x : Checked). x.file.table) c.deref.ensures in
    subst (λ x. All (FitsTable x) c.drop_view.new.views.items) (sym table)
    (subst (λ V. All (FitsTable T) V) (sym c.drop_view.ensures) (All-filter (λ (v : View). not (eqb v.by c.args.t)) (FitsTable T) inside.views.items c.self.invariant.0.fit))

pub carry-self-inside-requires-clause-few : goal.carry-self-inside-requires-clause-few
carry-self-inside-requires-clause-few c =
    let table : c.table.result.now ≡ c.self.inside.checked.value.file.table = c.table.ensures ∙ ap (λ (x : Checked). x.file.table) c.deref.ensures in
    subst (λ (x : Table). length x.ops ≤ 64) (sym table) c.self.invariant.0.table.ops_fit

pub invariant_of-self : goal.invariant_of-self
invariant_of-self c =
    let inside = c.self.inside in
    let T : Table = inside.checked.value.file.table in
    let table : c.table.result.now ≡ T = c.table.ensures ∙ ap (λ (x : Checked). x.file.table) c.deref.ensures in
    let laws : CommitLaws = record {
      along = c.runs_along.ensures;
      extends = c.equi_extends.ensures;
      inside = c.ends_inside.ensures;
      within = c.ends_within.ensures;
      opens = c.opens_commute.ensures;
      none = c.keeps_none.ensures;
      first = c.keeps_first.ensures;
      others = c.keeps_others.ensures;
      sound_after = c.sound_after_commit.ensures;
    } in
    let done : IsCommitted (meant inside) inside.views.items c.args.t c.seen_at-view.result c.carry-self-inside.new.log.items c.carry-self-inside.new.views.items = record {
      seen = c.seen_at-view.ensures;
      cut = c.carry-self-inside.ensures.cut;
      on = c.carry-self-inside.ensures.exact ∙ ap (λ x. carried x c.args.t inside.log.items c.drop_view.new.views.items) table ∙ ap (carried T c.args.t inside.log.items) c.drop_view.ensures;
      fit = subst (λ x. All (FitsTable x) c.carry-self-inside.new.views.items) table c.carry-self-inside.ensures.states;
    } in
    (committed-kept laws c.self.invariant.0 done, c.carry-self-inside.ensures.bits)

pub returns : goal.returns
returns c =
    let inside = c.self.inside in
    let T : Table = inside.checked.value.file.table in
    let table : c.table.result.now ≡ T = c.table.ensures ∙ ap (λ (x : Checked). x.file.table) c.deref.ensures in
    let laws : CommitLaws = record {
      along = c.runs_along.ensures;
      extends = c.equi_extends.ensures;
      inside = c.ends_inside.ensures;
      within = c.ends_within.ensures;
      opens = c.opens_commute.ensures;
      none = c.keeps_none.ensures;
      first = c.keeps_first.ensures;
      others = c.keeps_others.ensures;
      sound_after = c.sound_after_commit.ensures;
    } in
    let done : IsCommitted (meant inside) inside.views.items c.args.t c.seen_at-view.result c.carry-self-inside.new.log.items c.carry-self-inside.new.views.items = record {
      seen = c.seen_at-view.ensures;
      cut = c.carry-self-inside.ensures.cut;
      on = c.carry-self-inside.ensures.exact ∙ ap (λ x. carried x c.args.t inside.log.items c.drop_view.new.views.items) table ∙ ap (carried T c.args.t inside.log.items) c.drop_view.ensures;
      fit = subst (λ x. All (FitsTable x) c.carry-self-inside.new.views.items) table c.carry-self-inside.ensures.states;
    } in
    subst (λ (old : Meaning). IsCommit old c.args.t (committed (meant c.self.inside) c.seen_at-view.result c.carry-self-inside.new.log.items)) c.self.view_is
    (committed-commits laws c.self.invariant.0 done)
