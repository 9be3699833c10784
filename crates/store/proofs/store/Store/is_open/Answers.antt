use Rattle.std.proofs.Common.{◌++◌, map, sym, ◌∙◌}
use Rattle.store_laws.specs.Kept.{Keeping, keeping}
use Rattle.store.proofs.Opens.{open-alike}
use Rattle.store.proofs.Closings.{kept-shown}
use Rattle.store.proofs.store.Store.is_open.Goals as goal

pub returns : goal.returns
returns g c =
    let inside = c.self.inside in
    let ms = map g.R.Recovery.meaning inside.objects.items in
    let k : Keeping = keeping ms inside.transactions.rows in
    c.is_open.ensures
    ∙ sym (open-alike c.rows_say_who_is_open.ensures ms inside.transactions.rows c.args.self.now.history c.args.t
    (kept-shown k (inside.past.items ++ inside.history.items) inside.limits inside.forgotten c.args.self.now c.self.view_is c.self.invariant.1.store.kept))
