use Rattle.std.proofs.Common.{◌≡◌, ◌<◌, sym, ap, subst, ◌∙◌}
use Rattle.type_table.specs.Table.{Table}
use Rattle.table_checker.specs.Checked.{Checked}
use Rattle.declared_types.specs.Declarations.{IsByTable}
use Rattle.object_trait.specs.Meaning.{Meaning}
use Rattle.object_trait.specs.Steps.{MayApply, applied, IsCommit}
use Rattle.intentions_manager.specs.Walk.{stepped}
use Rattle.intentions_manager.proofs.Keeping.{meant}
use Rattle.intentions_manager.proofs.Idling.{with_base, alone-commits, alone-kept}
use Rattle.intentions_manager.proofs.manager.IntentionsManager.commit_alone.Goals as goal

pub table-requires : goal.table-requires
table-requires c = subst IsByTable (sym (ap (λ (x : Checked). x.kind) c.deref.ensures ∙ c.self.invariant.0.deferred)) tt

pub invariant_of-self : goal.invariant_of-self
invariant_of-self c =
    let inside = c.self.inside in
    let s = c.stepped-self-inside.result in
    let T : Table = inside.checked.value.file.table in
    let table : c.table.result.now ≡ T = c.table.ensures ∙ ap (λ (x : Checked). x.file.table) c.deref.ensures in
    let idle = ap (λ (m : Meaning). m.log) c.self.view_is ∙ c.requires.idle in
    let may = subst (λ (m : Meaning). MayApply m c.args.t c.args.k) (sym c.self.view_is) c.requires.may in
    let made : s ≡ stepped T inside.base c.args.k = c.stepped-self-inside.ensures.exact ∙ ap (λ x. stepped x inside.base c.args.k) table in
    let fits : s < T.states = subst (λ (x : Table). s < x.states) table c.stepped-self-inside.ensures.inside in
    (alone-kept c.self.invariant.0 idle c.args.t c.args.k s may made fits, c.self.invariant.1)

pub returns : goal.returns
returns c =
    let inside = c.self.inside in
    let s = c.stepped-self-inside.result in
    let T : Table = inside.checked.value.file.table in
    let table : c.table.result.now ≡ T = c.table.ensures ∙ ap (λ (x : Checked). x.file.table) c.deref.ensures in
    let idle = ap (λ (m : Meaning). m.log) c.self.view_is ∙ c.requires.idle in
    let may = subst (λ (m : Meaning). MayApply m c.args.t c.args.k) (sym c.self.view_is) c.requires.may in
    let made : s ≡ stepped T inside.base c.args.k = c.stepped-self-inside.ensures.exact ∙ ap (λ x. stepped x inside.base c.args.k) table in
    subst (λ (m : Meaning). IsCommit (applied m c.args.t c.args.k) c.args.t (with_base (meant inside) s)) c.self.view_is (alone-commits c.self.invariant.0 idle c.args.t c.args.k s may made)
