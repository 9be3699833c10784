use Rattle.std.proofs.Common.{◌≡◌, ◌+◌, Some, length, take, slice_get, refl, sym, subst, ◌∙◌}
use Rattle.std.proofs.Math.Numerals.{add-one}
use Rattle.std.proofs.lemmas.Bool.{false≢true}
use Rattle.std.proofs.lemmas.Option.{slice_get_read}
use Rattle.store_commands.specs.Audited.{BeginsWith}
use Rattle.store_commands.proofs.Growing.{begins-at, have-more, last-more}
use Rattle.store_commands.proofs.several.same_objects.Goals as goal

pub returns-then-not-begins_with-clause-other : goal.returns-then-not-begins_with-clause-other
returns-then-not-begins_with-clause-other c =
    let later = c.args.later.now in
    let next = c.index-later-n.result in
    let at = slice_get_read later (length later) c.loop-n.n next refl c.loop-n-test.true c.index-later-n.is in
    λ have. false≢true (sym c.if-not-begins_with.true ∙ c.begins_with.ensures.1 (subst (BeginsWith next) (sym c.loop-n.invariant.before) (begins-at c.args.first.now later c.loop-n.n next at have)))

pub loop-n-preserved : goal.loop-n-preserved
loop-n-preserved c =
    let first = c.args.first.now in
    let later = c.args.later.now in
    let n = c.loop-n.n in
    let next = c.index-later-n.result in
    let at = slice_get_read later (length later) n next refl c.loop-n-test.true c.index-later-n.is in
    let begins = subst (BeginsWith next) c.loop-n.invariant.before (c.begins_with.ensures.0 c.if-not-begins_with.false) in
    record {
      same = rw (add-one n) (have-more first later n next at c.loop-n.invariant.same begins);
      before = rw (add-one n) (sym (last-more first later n next at));
    }
