use Rattle.std.proofs.Common.{◌<◌, suc, length, sym, ◌∙◌, arith}
use Rattle.table_families.specs.Queue.{shorter}
use Rattle.table_families.proofs.QueueSteps.{first-below, heads-fit, none-there, taken-off}
use Rattle.table_families.proofs.queue.Queue.dequeued.Goals as goal

pub returns-then-lists-eq0 : goal.returns-then-lists-eq0
returns-then-lists-eq0 c =
    let known = c.args.self.now in
    sym (none-there (length known.elements.now) known.capacity c.args.e c.args.s c.as_long-lists.result.first c.as_long-lists.ensures.first (omega (arith, c.if-lists-eq0.true)))

pub overflow_sub-place : goal.overflow_sub-place
overflow_sub-place c =
    let known = c.args.self.now in
    let n = length known.elements.now in
    let lists = c.as_long-lists in
    let state : c.args.s < shorter n (suc known.capacity) = omega (arith, c.requires.state, known.exact) in
    first-below n known.capacity c.args.s lists.result.first state lists.ensures.first

pub overflow_sub-rest : goal.overflow_sub-rest
overflow_sub-rest c =
    let known = c.args.self.now in
    let n = length known.elements.now in
    let lists = c.as_long-lists in
    (heads-fit n known.capacity c.args.s lists.result.first lists.result.count known.some lists.ensures.first lists.ensures.count c.if-lists-eq0.false).fewer

pub nonzero_rem-rest : goal.nonzero_rem-rest
nonzero_rem-rest c =
    let known = c.args.self.now in
    let n = length known.elements.now in
    let lists = c.as_long-lists in
    (heads-fit n known.capacity c.args.s lists.result.first lists.result.count known.some lists.ensures.first lists.ensures.count c.if-lists-eq0.false).some

pub nonzero_div-place : goal.nonzero_div-place
nonzero_div-place c =
    let known = c.args.self.now in
    let n = length known.elements.now in
    let lists = c.as_long-lists in
    (heads-fit n known.capacity c.args.s lists.result.first lists.result.count known.some lists.ensures.first lists.ensures.count c.if-lists-eq0.false).some

pub returns : goal.returns
returns c =
    let known = c.args.self.now in
    let n = length known.elements.now in
    let lists = c.as_long-lists in
    let state : c.args.s < shorter n (suc known.capacity) = omega (arith, c.requires.state, known.exact) in
    c.where_legal.ensures ∙ taken-off n known.capacity c.args.e c.args.s lists.result.first lists.result.count known.some state lists.ensures.first lists.ensures.count c.if-lists-eq0.false
