use Rattle.std.proofs.Common.{ap, arith}
use Rattle.journal.specs.Contents.{with_pending}
use Rattle.journal.proofs.Outcomes.{counts-file, counts-known, counts-same}
use Rattle.journal.proofs.journal.Journal.count_outcomes.Goals as goal

pub returns-clause-kept : goal.returns-clause-kept
returns-clause-kept g c = λ clean.
    let it = c.args.self.now in
    let was = c.requires (c.put_numbers.ensures.clean clean) in
    let counts = c.in_ok-put_numbers.ensures.ok clean in (
      counts-file _ _ it.starts.items it.settled it.prepared it.header it.numbers it.index counts was.0 was.2 (λ low. omega (arith, c.if-self-lt-FORMAT.false, low)),
      was.1,
      counts-known _ _ it.starts.items it.settled it.prepared it.header it.numbers it.index counts was.0 was.2 (λ low. omega (arith, c.if-self-lt-FORMAT.false, low)),
    )

pub returns-clause-written : goal.returns-clause-written
returns-clause-written g c = λ clean.
    let it = c.args.self.now in
    let was = c.requires (c.put_numbers.ensures.clean clean) in
    ap (λ x. with_pending x it.pending)
    (counts-same _ _ it.starts.items it.settled it.prepared it.header it.numbers it.index (c.in_ok-put_numbers.ensures.ok clean) was.0 was.2 (λ low. omega (arith, c.if-self-lt-FORMAT.false, low)))
