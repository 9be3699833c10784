use Rattle.std.proofs.Common.{sym, ◌∙◌, arith}
use Rattle.store_text.proofs.Accepted.{object_room}
use Rattle.store_text.proofs.Keeping.{size_more, max_more, object_more, entry_more, end_more}
use Rattle.store_text.proofs.Names.{twins_are}
use Rattle.store_text.proofs.grammar.StoreGrammarGrammar.keep.Goals as goal

pub push-requires : goal.push-requires
push-requires g c =
    let k = c.args.before.now in
    let b = g.E.Entries.body c.args.self.now.entries in
    let said = g.E.Entries.said in
    let sections = c.args.self.now.sections in
    let passed = rw c.in-Object.is at c.requires in
    let room = object_room b sections.size said k c.in-Object.kind c.in-Object.file c.in-Object.name passed in
    let other = twins_are c.in-Object.kind c.in-Object.file c.in-Object.name k.size k.max k.objects.lines.items (said k.entries) k.has_ended in
    record {
      few = omega (arith, room, sections.few, sections.may_have);
      other_name = sym other ∙ passed.no_twin;
    }

pub returns-in-Objects-clause-items : goal.returns-in-Objects-clause-items
returns-in-Objects-clause-items g c =
    let k = c.args.before.now in
    let b = g.E.Entries.body c.args.self.now.entries in
    rw c.in-Objects.is (size_more b c.args.self.now.sections.size k.size k.max k.objects.lines.items (g.E.Entries.said k.entries) k.has_ended c.in-Objects.size (rw c.in-Objects.is at c.requires.in_order))

pub returns-in-Max-clause-items : goal.returns-in-Max-clause-items
returns-in-Max-clause-items g c =
    let k = c.args.before.now in
    let b = g.E.Entries.body c.args.self.now.entries in
    rw c.in-Max.is (max_more b c.args.self.now.sections.size k.size k.max k.objects.lines.items (g.E.Entries.said k.entries) k.has_ended c.in-Max.most (rw c.in-Max.is at c.requires.in_order))

pub returns-in_ok-push-in-Object-clause-items : goal.returns-in_ok-push-in-Object-clause-items
returns-in_ok-push-in-Object-clause-items g c =
    let k = c.args.before.now in
    let b = g.E.Entries.body c.args.self.now.entries in
    rw (c.in_ok-push-in-Object.ensures, c.in-Object.is) (object_more b c.args.self.now.sections.size k.size k.max k.objects.lines.items (g.E.Entries.said k.entries) k.has_ended c.in-Object.kind c.in-Object.file c.in-Object.name (rw c.in-Object.is at c.requires.in_order))

pub returns-in_ok-keep-in-Entry-clause-items : goal.returns-in_ok-keep-in-Entry-clause-items
returns-in_ok-keep-in-Entry-clause-items g c =
    let k = c.args.before.now in
    let b = g.E.Entries.body c.args.self.now.entries in
    rw (c.in_ok-keep-in-Entry.ensures, c.in-Entry.is) (entry_more b c.args.self.now.sections.size k.size k.max k.objects.lines.items (g.E.Entries.said k.entries) k.has_ended c.in-Entry.entry (rw c.in-Entry.is at c.requires.in_order))

pub returns-in-End-clause-items : goal.returns-in-End-clause-items
returns-in-End-clause-items g c =
    let k = c.args.before.now in
    let b = g.E.Entries.body c.args.self.now.entries in
    rw c.in-End.is (end_more b c.args.self.now.sections.size k.size k.max k.objects.lines.items (g.E.Entries.said k.entries) k.has_ended (rw c.in-End.is at c.requires.in_order))
