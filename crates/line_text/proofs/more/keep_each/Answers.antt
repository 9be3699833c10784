use Rattle.std.proofs.Common.{◌+◌, [], ◌∷◌, length, sym, ap, ◌∙◌, arith}
use Rattle.std.proofs.lemmas.List.{get_or_read, length-append}
use Rattle.line_text.proofs.Counts.{count_at-le}
use Rattle.line_text.proofs.PlainLines.{GoesOn-first, GoesOn-next, IsKnown-plain, Reads-plain, TakesMore-room}
use Rattle.line_text.proofs.Reading.{ReadsLines-more, ReadsLines-none}
use Rattle.line_text.proofs.more.keep_each.Goals as goal

pub loop-so_far-init : goal.loop-so_far-init
loop-so_far-init g c =
    let rules = g.G.Grammar.rules c.args.grammar.now in
    let items = g.G.Grammar.kept c.args.so_far.now.kept in
    record {
      read = ReadsLines-none rules c.args.text.now items;
      known = c.requires.known;
      last = c.requires.last;
      goes_on = GoesOn-first rules items c.args.rank c.requires.takes (sym c.requires.last ∙ c.requires.known.last_is);
    }

pub keep_plain-requires : goal.keep_plain-requires
keep_plain-requires g c =
    let at = c.loop-so_far in
    let room = c.loop-so_far-test.ensures in
    TakesMore-room (g.G.Grammar.rules c.args.grammar.now) (g.G.Grammar.kept at.so_far.kept) c.args.rank at.invariant.goes_on (cc)

pub overflow_add-index_mut : goal.overflow_add-index_mut
overflow_add-index_mut g c =
    let rules = g.G.Grammar.rules c.args.grammar.now in
    let at = c.loop-so_far in
    let items = g.G.Grammar.kept at.so_far.kept in
    let rank = c.args.rank in
    let kept = c.in-Some.ensures.items in
    let was = get_or_read at.so_far.counts.items rank c.index_mut.result.now (omega (arith, at.invariant.known.counted.each_rank, c.requires.ranked)) c.index_mut.ensures.value 0 in
    omega (arith, was, at.invariant.known.counted.counted rank c.requires.ranked, count_at-le rules items rank, ap length kept.kept, length-append items (kept.item ∷ []), c.in-Some.ensures.few)

pub loop-so_far-smaller : goal.loop-so_far-smaller
loop-so_far-smaller g c =
    let rules = g.G.Grammar.rules c.args.grammar.now in
    let at = c.loop-so_far in
    let read = Reads-plain rules c.args.rank at.rest.now c.in-Some.behind.now (g.G.Grammar.kept at.so_far.kept) (g.G.Grammar.kept c.keep_plain.new._before) at.invariant.goes_on.unended c.in-Some.ensures.items in
    omega (arith, read.shorter)

pub loop-so_far-preserved : goal.loop-so_far-preserved
loop-so_far-preserved g c =
    let rules = g.G.Grammar.rules c.args.grammar.now in
    let at = c.loop-so_far in
    let items = g.G.Grammar.kept at.so_far.kept in
    let after = g.G.Grammar.kept c.keep_plain.new._before in
    let counts = at.so_far.counts.items in
    let rank = c.args.rank in
    let kept = c.in-Some.ensures.items in
    let was = get_or_read counts rank c.index_mut.result.now (omega (arith, at.invariant.known.counted.each_rank, c.requires.ranked)) c.index_mut.ensures.value 0 in
    let read = Reads-plain rules rank at.rest.now c.in-Some.behind.now items after at.invariant.goes_on.unended kept in
    record {
      read = ReadsLines-more rules c.args.text.now at.rest.now c.in-Some.behind.now at.count (g.G.Grammar.kept c.args.so_far.now.kept) items after at.invariant.read read;
      known = IsKnown-plain rules items after counts at.so_far.last at.so_far.clear rank (c.index_mut.result.now + 1) kept.item at.invariant.known at.invariant.last kept.place c.requires.ranked (ap (λ n. n + 1) was) kept.kept;
      last = at.invariant.last;
      goes_on = GoesOn-next rules rank at.rest.now c.in-Some.behind.now items after at.invariant.goes_on kept;
    }
