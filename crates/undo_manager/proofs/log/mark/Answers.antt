use Rattle.std.proofs.Common.{true, false, ◌≡◌, ◌<◌, ◌-◌, ◌+◌, length, drop, sym, ◌∙◌, arith}
use Rattle.std.proofs.lemmas.List.{drop_all}
use Rattle.object_trait.specs.Meaning.{is_open_of}
use Rattle.undo_manager.proofs.Passing.{opens, some-front, none-front, passed-open, passed-other, marked_open, marked-begins, marked-read, marked-set, marked-same, marked-all}
use Rattle.undo_manager.proofs.log.mark.Goals as goal

pub loop-left-init : goal.loop-left-init
loop-left-init c =
    let all : c.len-position.result ≡ length c.args.log.now.items = omega (arith, c.args.log.now.ok.0, c.len-position.ensures) in
    rw all (record { inside = omega arith; passed = rw (drop_all (length c.args.log.now.items) c.args.log.now.items (omega arith)) (omega arith); marked = marked-begins c.args.t c.args.log.now.items })

pub index-one-requires : goal.index-one-requires
index-one-requires c =
    let some : 0 < c.loop-left.position = some-front c.args.t c.loop-left.position c.loop-left.left c.args.count c.args.log.now.items c.loop-left.invariant.passed (omega (arith, c.requires)) c.loop-left-test.true in
    omega (arith, c.loop-left.log.ok.0, c.loop-left.invariant.marked.long)

pub loop-left-preserved-then-is_open_of : goal.loop-left-preserved-then-is_open_of
loop-left-preserved-then-is_open_of c =
    let some : 0 < c.loop-left.position = some-front c.args.t c.loop-left.position c.loop-left.left c.args.count c.args.log.now.items c.loop-left.invariant.passed (omega (arith, c.requires)) c.loop-left-test.true in
    let e : c.loop-left.position ≡ (c.loop-left.position - 1) + 1 = omega arith in
    let marked = rw e at c.loop-left.invariant.marked in
    let read = marked-read c.args.t (c.loop-left.position - 1) c.args.log.now.items c.loop-left.log.items c.index-one.result.now marked c.index-one.ensures in
    let is : is_open_of c.args.t c.index-one.result.now.entry ≡ true = sym c.is_open_of.ensures ∙ c.if-is_open_of.true in
    record {
      inside = omega arith;
      passed = passed-open c.args.t c.loop-left.position c.loop-left.left c.args.count c.args.log.now.items c.index-one.result.now some c.loop-left.invariant.inside c.loop-left-test.true c.loop-left.invariant.passed read is;
      marked = marked-set c.args.t (c.loop-left.position - 1) c.args.log.now.items c.loop-left.log.items c.index-one.result.now _ (omega arith) marked c.index-one.ensures (marked_open c.args.t c.index-one.result.now is);
    }

pub loop-left-preserved : goal.loop-left-preserved
loop-left-preserved c =
    let some : 0 < c.loop-left.position = some-front c.args.t c.loop-left.position c.loop-left.left c.args.count c.args.log.now.items c.loop-left.invariant.passed (omega (arith, c.requires)) c.loop-left-test.true in
    let e : c.loop-left.position ≡ (c.loop-left.position - 1) + 1 = omega arith in
    let marked = rw e at c.loop-left.invariant.marked in
    let read = marked-read c.args.t (c.loop-left.position - 1) c.args.log.now.items c.loop-left.log.items c.index-one.result.now marked c.index-one.ensures in
    let isnt : is_open_of c.args.t c.index-one.result.now.entry ≡ false = sym c.is_open_of.ensures ∙ c.if-is_open_of.false in
    record {
      inside = omega arith;
      passed = passed-other c.args.t c.loop-left.position c.loop-left.left c.args.count c.args.log.now.items c.index-one.result.now some c.loop-left.invariant.inside c.loop-left.invariant.passed read isnt;
      marked = marked-same c.args.t (c.loop-left.position - 1) c.args.log.now.items c.loop-left.log.items c.index-one.result.now (omega arith) marked c.index-one.ensures isnt;
    }

pub returns : goal.returns
returns c =
    let all : opens c.args.t (drop c.loop-left.position c.args.log.now.items) ≡ opens c.args.t c.args.log.now.items = omega (arith, c.loop-left.invariant.passed, c.requires, c.loop-left-test.false) in
    marked-all c.args.t c.loop-left.position c.args.log.now.items c.loop-left.log.items c.loop-left.invariant.marked (none-front c.args.t c.loop-left.position c.args.log.now.items all)
