use Rattle.std.proofs.Common.{◌++◌, map, drop, ap, ◌∙◌}
use Rattle.store.proofs.Pasts.{drop-shown}
use Rattle.store_laws.specs.Stored.{types_of}
use Rattle.store.proofs.KeptStates.{checked-shown, serial-shown}
use Rattle.store.proofs.store.Store.history.Goals as goal

pub returns-clause-serial : goal.returns-clause-serial
returns-clause-serial g c =
    let inside = c.self.inside in
    serial-shown c.checked_headline.ensures (map g.R.Recovery.meaning inside.objects.items) inside.transactions.rows (inside.past.items ++ inside.history.items) inside.limits inside.forgotten
    c.self.invariant.1.store.kept c.args.self.now c.self.view_is

pub returns-clause-exact : goal.returns-clause-exact
returns-clause-exact g c =
    let inside = c.self.inside in
    drop-shown (types_of (map g.R.Recovery.meaning inside.objects.items)) inside.past.items inside.history.items inside.limits inside.forgotten c.args.self.now c.deref.result.now
    c.self.invariant.0 c.self.view_is c.deref.ensures.value

pub returns-clause-whole : goal.returns-clause-whole
returns-clause-whole g c = λ none. returns-clause-exact g c ∙ ap (λ n. drop n c.args.self.now.history) none

pub returns-clause-checked : goal.returns-clause-checked
returns-clause-checked g c =
    let inside = c.self.inside in
    checked-shown c.checked_headline.ensures (map g.R.Recovery.meaning inside.objects.items) inside.transactions.rows (inside.past.items ++ inside.history.items) inside.limits inside.forgotten
    c.self.invariant.1.store.kept c.args.self.now c.self.view_is
