use Rattle.std.proofs.Common.{◌≡◌, Some, sym, ap, subst, ◌∙◌, arith}
use Rattle.type_table.specs.Table.{Table}
use Rattle.table_checker.specs.Checked.{Checked}
use Rattle.declared_types.specs.Declarations.{IsByTable}
use Rattle.intentions_manager.specs.Walk.{walked}
use Rattle.intentions_manager.proofs.Keeping.{view-told}
use Rattle.intentions_manager.proofs.manager.IntentionsManagerRecovery.view.Goals as goal

pub table-requires : goal.table-requires
table-requires c = subst IsByTable (sym (ap (λ (x : Checked). x.kind) c.deref.ensures ∙ c.self.invariant.0.deferred)) tt

pub returns-clause-exact : goal.returns-clause-exact
returns-clause-exact c =
    let inside = c.self.inside in
    let T : Table = inside.checked.value.file.table in
    let table : c.table.result.now ≡ T = c.table.ensures ∙ ap (λ (x : Checked). x.file.table) c.deref.ensures in
    let state : c.from.result ≡ walked T c.args.t inside.base inside.log.items = c.from.ensures ∙ c.walked.ensures.exact ∙ ap (λ x. walked x c.args.t inside.base c.deref-2.result.now) table ∙ ap (walked T c.args.t inside.base) c.deref-2.ensures.value in
    rw (← c.self.view_is) (view-told c.args.t c.self.invariant.0 ∙ ap Some (sym state))

pub returns-clause-inside : goal.returns-clause-inside
returns-clause-inside c =
    let states : c.table.result.now.states ≡ c.self.inside.checked.value.file.table.states = ap (λ (x : Table). x.states) (c.table.ensures ∙ ap (λ (x : Checked). x.file.table) c.deref.ensures) in
    let inside = c.walked.ensures.inside in
    let from = c.from.ensures in
    rw (← c.self.view_is) (omega (arith, states, inside, from))
