use Rattle.std.proofs.Common.{◌≡◌, ◌+◌, ◌<◌, ◌∷◌, true, false, All, length, drop, rules, refl, sym, ap, subst, ◌∙◌, arith}
use Rattle.type_table.proofs.Elements.{each_there, next_there}
use Rattle.object_trait.specs.Meaning.{is_open_of}
use Rattle.object_trait.specs.declared.log_entry.LogEntry.{LogEntry}
use Rattle.intentions_manager.specs.Walk.{carried, FitsTable}
use Rattle.intentions_manager.proofs.Cutting.{cut-mine, cut-other}
use Rattle.intentions_manager.proofs.Walking.{moved-own, unmoved}
use Rattle.intentions_manager.proofs.packing.pack_carrying.Goals as goal
use Rattle.intentions_manager.proofs.packing.pack_carrying.Goals.{then-is_of, else-is_of}

pub is_of-requires : goal.is_of-requires
is_of-requires c =
    let h = c.loop-i.invariant.cut in
    let long = h.long in
    let within : c.loop-i.i < length c.loop-i.log = search rules in
    each_there (λ e. e.done ≡ false) c.args.log.now c.loop-i.log c.loop-i.i c.index-log-i.result c.requires.open h.rest (omega (arith, within, long)) c.index-log-i.is

pub step_all-requires-clause-operation : goal.step_all-requires-clause-operation
step_all-requires-clause-operation c =
    let h = c.loop-i.invariant.cut in
    let long = h.long in
    let within : c.loop-i.i < length c.loop-i.log = search rules in
    each_there (λ e. e.op < length c.args.table.now.ops) c.args.log.now c.loop-i.log c.loop-i.i c.index-log-i.result c.requires.operations h.rest (omega (arith, within, long)) c.index-log-i.is

pub column-requires : goal.column-requires
column-requires c =
    let h = c.loop-i.invariant.cut in
    let long = h.long in
    let within : c.loop-i.i < length c.loop-i.log = search rules in
    let inside =
    each_there (λ e. e.op < length c.args.table.now.ops) c.args.log.now c.loop-i.log c.loop-i.i c.index-log-i.result c.requires.operations h.rest (omega (arith, within, long)) c.index-log-i.is in
    let few = c.requires.few in
    omega (arith, inside, few)

pub overflow_shl-word : goal.overflow_shl-word
overflow_shl-word c =
    let h = c.loop-i.invariant.cut in
    let long = h.long in
    let within : c.loop-i.i < length c.loop-i.log = search rules in
    let inside =
    each_there (λ e. e.op < length c.args.table.now.ops) c.args.log.now c.loop-i.log c.loop-i.i c.index-log-i.result c.requires.operations h.rest (omega (arith, within, long)) c.index-log-i.is in
    let few = c.requires.few in
    let is = c.column.ensures in
    omega (arith, inside, few, is)

pub loop-i-preserved : goal.loop-i-preserved
loop-i-preserved c =
    let T = c.args.table.now in
    let t = c.args.t in
    let old = c.args.log.now in
    let entry : LogEntry = c.index-log-i.result in
    let h = c.loop-i.invariant.cut in
    let long = h.long in
    let within : c.loop-i.i < length c.loop-i.log = search rules in
    let inside = each_there (λ e. e.op < length T.ops) old c.loop-i.log c.loop-i.i entry c.requires.operations h.rest (omega (arith, within, long)) c.index-log-i.is in
    let next : drop c.loop-i.i old ≡ entry ∷ drop (c.loop-i.i + 1) old = next_there old c.loop-i.log c.loop-i.i entry h.rest (omega (arith, within, long)) c.index-log-i.is in
    let stepped = ap (λ V. carried T t V c.loop-i.views) next in
    elim c.if-is_of.branch [
      | then-is_of w ↦
          let is : is_open_of t entry ≡ true = sym c.is_of.ensures ∙ w.if-is_of.true in
          record {
            cut = rw (w.log-is, w.count-is, w.word-is) (cut-mine (is_open_of t) 0 old c.loop-i.log 0 c.loop-i.count c.loop-i.word c.loop-i.i entry h within c.index-log-i.is is refl);
            fit = subst (λ V. All (FitsTable T) V) (sym w.views-is) w.step_all.ensures.states;
            rest =
                ap (carried T t (drop (c.loop-i.i + 1) old)) (w.views-is ∙ w.step_all.ensures.exact ∙ moved-own T t entry is c.loop-i.views) ∙ sym stepped
                ∙ c.loop-i.invariant.rest;
          }
      | else-is_of w ↦
          let isnt : is_open_of t entry ≡ false = sym c.is_of.ensures ∙ w.if-is_of.false in
          let low : w.column.result < 64 = omega (arith, inside, c.requires.few, w.column.ensures) in
          record {
            cut =
                rw (w.log-is, w.count-is, w.word-is)
                (cut-other (is_open_of t) 0 old c.loop-i.log 0 c.loop-i.count c.loop-i.word c.loop-i.i entry h within c.index-log-i.is w.column.result w.column.ensures low isnt);
            fit = subst (λ V. All (FitsTable T) V) (sym w.views-is) c.loop-i.invariant.fit;
            rest = ap (carried T t (drop (c.loop-i.i + 1) old)) (w.views-is ∙ unmoved T t entry isnt c.loop-i.views) ∙ sym stepped ∙ c.loop-i.invariant.rest;
          }
    ]
