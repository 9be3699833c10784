use Rattle.std.proofs.Common.{sym}
use Rattle.std.proofs.lemmas.Result.{IfOk-weaker}
use Rattle.journal.proofs.Opens.{told-of}
use Rattle.journal.proofs.journal.Journal.all_of.Goals as goal

pub returns-clause-told : goal.returns-clause-told
returns-clause-told g c = IfOk-weaker c.read_all.result _ _ (λ entries told clean.
    sym (told-of g.E.Entry.row_at g.E.Entry.told_by g.met.E.Entry.read_back ((g.S.Store.view c.args.self.now.store).trees c.args.table) entries.items (told clean))) c.read_all.ensures.told
