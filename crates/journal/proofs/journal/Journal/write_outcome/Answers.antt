use Rattle.std.proofs.Common.{◌<◌, ap, arith, cond, subst, ◌∙◌, Some}
use Rattle.std.specs.BTreeMap.{get}
use Rattle.std.specs.Ordering.{is_eq, nat_cmp}
use Rattle.transaction_key.specs.TransactionKey.{key_place}
use Rattle.journal.specs.Contents.{with_pending}
use Rattle.journal.specs.OutcomeIndex.{numbered_from}
use Rattle.journal.proofs.Outcomes.{keeps-outcome, keeps-outcome-file, keeps-outcome-known}
use Rattle.journal.proofs.journal.Journal.write_outcome.Goals as goal

pub returns-clause-kept : goal.returns-clause-kept
returns-clause-kept g c = λ clean.
    let it = c.args.self.now in
    let was = c.requires.journal (c.put_outcome.ensures.clean clean) in
    let puts = c.in_ok-put_outcome.ensures.ok clean in
    let exact = c.place.ensures.exact in
    let low : key_place c.args.kept.now.key < numbered_from = let short = c.place.ensures.short in subst (λ k. k < numbered_from) exact short in (
      keeps-outcome-file _ _ it.starts.items it.settled it.prepared it.header it.numbers _ it.index c.args.kept.now puts was.0 was.2 (λ low. omega (arith, c.requires.newest, low)) c.requires.next low,
      was.1,
      keeps-outcome-known _ _ it.starts.items it.settled it.prepared it.header it.numbers _ it.index c.args.kept.now puts was.0 was.2 (λ low. omega (arith, c.requires.newest, low)) c.requires.next low c.requires.counted
          _ (λ q. c.in_ok-insert.ensures.updates.0 q ∙ ap (λ k. cond (is_eq (nat_cmp k q)) (Some it.numbers.next) (get nat_cmp it.index.fresh q)) exact),
    )

pub returns-clause-written : goal.returns-clause-written
returns-clause-written g c = λ clean.
    let it = c.args.self.now in
    let was = c.requires.journal (c.put_outcome.ensures.clean clean) in
    let low : key_place c.args.kept.now.key < numbered_from = let short = c.place.ensures.short in subst (λ k. k < numbered_from) c.place.ensures.exact short in
    ap (λ x. with_pending x it.pending)
    (keeps-outcome _ _ it.starts.items it.settled it.prepared it.header it.numbers _ it.index c.args.kept.now (c.in_ok-put_outcome.ensures.ok clean) was.0 was.2
    (λ low. omega (arith, c.requires.newest, low)) c.requires.next low)
