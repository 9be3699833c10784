use Rattle.std.proofs.Common.{◌+◌, [], ◌∷◌, length, ap, arith}
use Rattle.std.proofs.lemmas.List.{get_or_read, length-append}
use Rattle.line_text.proofs.Counts.{count_at-le}
use Rattle.line_text.proofs.Lacking.{IsKnown-push}
use Rattle.line_text.proofs.Order.{HasPassed-from}
use Rattle.line_text.proofs.read_so_far.push_item.Goals as goal

pub keep-requires : goal.keep-requires
keep-requires g c = HasPassed-from (g.G.Grammar.rules c.args.grammar.now) (g.G.Grammar.kept c.args.so_far.now.kept) c.args.item c.requires.passed

pub index_mut-requires : goal.index_mut-requires
index_mut-requires g c = omega (arith, c.requires.known.counted.each_rank, c.requires.ranked)

pub overflow_add-index_mut : goal.overflow_add-index_mut
overflow_add-index_mut g c =
    let rules = g.G.Grammar.rules c.args.grammar.now in
    let items = g.G.Grammar.kept c.args.so_far.now.kept in
    let rank = c.args.place.rank in
    let was = get_or_read c.args.so_far.now.counts.items rank c.index_mut.result.now (omega (arith, c.requires.known.counted.each_rank, c.requires.ranked)) c.index_mut.ensures.value 0 in
    omega (arith, c.requires.known.counted.counted rank c.requires.ranked, count_at-le rules items rank, ap length c.in_ok-keep.ensures.items, length-append items (c.args.item ∷ []), c.in_ok-keep.ensures.few)

pub returns-clause-known : goal.returns-clause-known
returns-clause-known g c =
    let rules = g.G.Grammar.rules c.args.grammar.now in
    let items = g.G.Grammar.kept c.args.so_far.now.kept in
    let counts = c.args.so_far.now.counts.items in
    let rank = c.args.place.rank in
    let was = get_or_read counts rank c.index_mut.result.now (omega (arith, c.requires.known.counted.each_rank, c.requires.ranked)) c.index_mut.ensures.value 0 in
    let passed = HasPassed-from rules items c.args.item c.requires.passed in
    IsKnown-push rules items (g.G.Grammar.kept c.keep.new.before) counts c.args.so_far.now.last c.args.so_far.now.clear c.args.item c.args.place (c.index_mut.result.now + 1) c.requires.known c.requires.place c.requires.ranked (ap (λ n. n + 1) was) passed.lacks_none c.in_ok-keep.ensures.items
