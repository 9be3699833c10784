use Rattle.std.proofs.Common.{rules, ◌≡◌, ◌<◌, ◌+◌, ◌*◌, length, slice_index_or, None, ap, ◌∙◌}
use Rattle.std.specs.Option.{unwrap_or}
use Rattle.type_table.specs.Table.{next}
use Rattle.std.proofs.lemmas.List.{length-set, get_or_default}
use Rattle.std.proofs.lemmas.List.Edits.{map_over_more}
use Rattle.std.proofs.lemmas.List.Elements.{All-set}
use Rattle.std.proofs.lemmas.Option.{get_or_from_slice_get}
use Rattle.intentions_manager.specs.Walk.{stepped, view_moved, FitsTable}
use Rattle.intentions_manager.specs.declared.views.View.{View}
use Rattle.intentions_manager.proofs.Walking.{stepped-within}
use Rattle.intentions_manager.proofs.views.step_all.Goals as goal

pub loop-i-preserved : goal.loop-i-preserved
loop-i-preserved c =
    let T = c.args.table.now in
    let views = c.loop-i.views in
    let view : View = slice_index_or views c.loop-i.i (record { by = 0; state = 0; count = 0 }) in
    let h = c.loop-i.invariant in
    let long = h.long in
    let within : c.loop-i.i < length views = search rules in
    let inside : view.state < T.states = h.fit c.loop-i.i _ within in
    let position : c.from.result * c.from-ops.result + c.from-in-loop-i.result ≡ view.state * length T.ops + c.args.k =
    ap (λ n. n * c.from-ops.result + c.from-in-loop-i.result) c.from.ensures ∙ ap (λ n. view.state * n + c.from-in-loop-i.result) (c.from-ops.ensures ∙ c.op_count.ensures.exact)
    ∙ ap (λ n. view.state * length T.ops + n) (c.from-in-loop-i.ensures ∙ c.column-column.ensures) in
    let entry : slice_index_or c.steps-steps.result.now (c.from.result * c.from-ops.result + c.from-in-loop-i.result) None ≡ next T view.state c.args.k =
    ap (λ n. slice_index_or c.steps-steps.result.now n None) position
    ∙ get_or_from_slice_get c.steps-steps.result.now (view.state * length T.ops + c.args.k) (next T view.state c.args.k) None (c.steps-steps.ensures.next view.state c.args.k inside c.requires.operation) in
    let state : c.unwrap_or.result ≡ stepped T view.state c.args.k = c.unwrap_or.ensures ∙ ap (λ e. unwrap_or e view.state) entry in
    rw state
    (record {
      fit = All-set (FitsTable T) views c.loop-i.i (view_moved T c.args.k view) (stepped-within c.steps_within.ensures T view.state c.args.k c.op_count.ensures.table inside) h.fit;
      long = length-set views c.loop-i.i (view_moved T c.args.k view) ∙ h.long;
      exact = map_over_more (view_moved T c.args.k) c.args.views.now views c.loop-i.i view (rw long at within) h.exact (get_or_default views c.loop-i.i (record { by = 0; state = 0; count = 0 }) view within);
    })
