use Rattle.std.proofs.Common.{◌≡◌, ◌<◌, true, false, length, sym, ◌∙◌, arith}
use Rattle.object_trait.specs.Meaning.{is_open_of}
use Rattle.undo_manager.proofs.Rerunning.{run-begins, run-struck, run-next, run-kept, run-ends}
use Rattle.undo_manager.proofs.stepping.rerun.Goals as goal
use Rattle.undo_manager.proofs.stepping.rerun.Goals.{then-not-is_open_of, else-not-is_open_of}

pub loop-read-init : goal.loop-read-init
loop-read-init c = run-begins c.args.table.now c.args.t c.args.position c.args.log.now.items c.args.start c.requires.legal

pub index_mut-requires : goal.index_mut-requires
index_mut-requires c = omega (arith, c.loop-read.invariant.order, c.loop-read.invariant.long, c.loop-read.log.ok.0, c.args.log.now.ok.0)

pub overflow_add-kept : goal.overflow_add-kept
overflow_add-kept c = omega (arith, c.loop-read.invariant.order)

pub next_state-state-requires-clause-legal : goal.next_state-state-requires-clause-legal
next_state-state-requires-clause-legal c =
    let isnt : is_open_of c.args.t c.index-one.result.now.entry ≡ false = sym c.is_open_of.ensures ∙ c.if-not-is_open_of.true in
    run-next c.args.table.now c.args.t c.args.position c.args.log.now.items c.args.start c.loop-read.log.items c.loop-read.kept c.loop-read.read c.loop-read.state c.index-one.result.now
    c.loop-read.invariant (omega (arith, c.args.log.now.ok.0)) c.index-one.ensures isnt

pub loop-read-preserved : goal.loop-read-preserved
loop-read-preserved c =
    let inside : c.loop-read.read < length c.args.log.now.items = omega (arith, c.args.log.now.ok.0) in
    elim c.if-not-is_open_of.branch [
      | then-not-is_open_of w ↦
          let isnt : is_open_of c.args.t c.index-one.result.now.entry ≡ false = sym c.is_open_of.ensures ∙ w.if-not-is_open_of.true in
          rw (w.log-is, w.kept-is, w.state-is)
          (run-kept c.args.table.now c.args.t c.args.position c.args.log.now.items c.args.start c.loop-read.log.items c.loop-read.kept c.loop-read.read c.loop-read.state c.index-one.result.now
          w.next_state-state.result c.loop-read.invariant inside c.index-one.ensures isnt w.next_state-state.ensures)
      | else-not-is_open_of w ↦
          let is : is_open_of c.args.t c.index-one.result.now.entry ≡ true = sym c.is_open_of.ensures ∙ w.if-not-is_open_of.false in
          rw (w.log-is, w.kept-is, w.state-is)
          (run-struck c.args.table.now c.args.t c.args.position c.args.log.now.items c.args.start c.loop-read.log.items c.loop-read.kept c.loop-read.read c.loop-read.state c.index-one.result.now
          c.loop-read.invariant inside c.index-one.ensures is)
    ]

pub returns : goal.returns
returns c =
    rw c.truncate.ensures.items
    (run-ends c.args.table.now c.args.t c.args.position c.args.log.now.items c.args.start c.loop-read.log.items c.loop-read.kept c.loop-read.read c.loop-read.state
    c.loop-read.invariant (omega (arith, c.args.log.now.ok.0)))
