use Rattle.std.proofs.Common.{ap, arith, false, refl}
use Rattle.journal.specs.Contents.{with_pending}
use Rattle.journal.proofs.Outcomes.{has-written, keeps-file, keeps-least}
use Rattle.journal.proofs.journal.Journal.keep_at_least.Goals as goal

pub returns-clause-kept : goal.returns-clause-kept
returns-clause-kept g c = λ clean.
    let it = c.args.self.now in
    let was = c.requires (c.put_numbers.ensures.clean clean) in
    let counts = c.in_ok-put_numbers.ensures.ok clean in (
      keeps-file _ _ it.starts.items it.settled it.prepared it.header _ counts was.0 (λ low. omega (arith, c.if-self-lt-FORMAT.false, low)),
      was.1,
      has-written _ _ it.starts.items it.settled it.prepared it.header it.numbers _ it.index counts was.0 was.2 (λ low. omega (arith, c.if-self-lt-FORMAT.false, low)) (c.are_counted.ensures c.if-not-are_counted.false) refl refl false,
    )

pub returns-clause-written : goal.returns-clause-written
returns-clause-written g c = λ clean.
    let it = c.args.self.now in
    let was = c.requires (c.put_numbers.ensures.clean clean) in
    ap (λ x. with_pending x it.pending)
    (keeps-least _ _ it.starts.items it.settled it.prepared it.header it.numbers _ it.index (c.in_ok-put_numbers.ensures.ok clean) was.0 was.2 (λ low. omega (arith, c.if-self-lt-FORMAT.false, low)) c.args.least refl)
