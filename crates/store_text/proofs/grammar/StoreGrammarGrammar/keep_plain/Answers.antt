use Rattle.store_text.proofs.Accepted.{keeps_entry}
use Rattle.store_text.proofs.grammar.StoreGrammarGrammar.keep_plain.Goals as goal

pub returns-clause-items : goal.returns-clause-items
returns-clause-items g c =
    let k = c.args.before.now in
    let sections = c.args.self.now.sections in
    let takes = rw c.if-rank-ne-ENTRY_RANK.false at c.requires in
    let keeps = rw sections.may_have at c.in_ok-behind.ensures in
    rw c.if-rank-ne-ENTRY_RANK.false (keeps_entry (g.E.Entries.body c.args.self.now.entries) sections.size g.E.Entries.said k c.args.text.now c.in_ok-behind.behind.now (g.E.Entries.said c.keep_plain.new._kept) takes keeps)
