use Rattle.std.proofs.Common.{ℕ, ap, arith, false}
use Rattle.journal.specs.declared.numbers.Numbers.{Numbers}
use Rattle.journal.specs.Contents.{with_pending}
use Rattle.journal.proofs.Outcomes.{begins-round, begins-round-known, keeps-file}
use Rattle.journal.proofs.journal.Journal.begin_round.Goals as goal

pub returns-clause-kept : goal.returns-clause-kept
returns-clause-kept g c = λ clean.
    let it = c.args.self.now in
    let was = c.requires.journal (c.put_numbers.ensures.clean clean) in
    let counts = c.in_ok-put_numbers.ensures.ok clean in
    let round = c.begin_round.ensures in
    let with : ℕ → Numbers = λ await. record { next = it.numbers.next; first = it.numbers.first; least = it.numbers.least; awaiting = await } in (
      keeps-file _ _ it.starts.items it.settled it.prepared it.header _ counts was.0 (λ older. omega (arith, c.requires.newest, older)),
      was.1,
      begins-round-known _ _ it.starts.items it.settled it.prepared it.header it.numbers _ it.index counts was.0 was.2 (λ older. omega (arith, c.requires.newest, older))
          (record { due = c.begin_round.new.self.due; fresh = c.begin_round.new.self.fresh; begun = c.begin_round.new.self.begun; uncounted = false })
          (c.are_counted.ensures c.if-not-are_counted.false) (c.is_put.ensures c.if-not-is_put.false) (ap with c.saturating_sub.ensures) round.due round.fresh round.begun,
    )

pub returns-clause-written : goal.returns-clause-written
returns-clause-written g c = λ clean.
    let it = c.args.self.now in
    let was = c.requires.journal (c.put_numbers.ensures.clean clean) in
    let with : ℕ → Numbers = λ await. record { next = it.numbers.next; first = it.numbers.first; least = it.numbers.least; awaiting = await } in
    ap (λ x. with_pending x it.pending)
    (begins-round _ _ it.starts.items it.settled it.prepared it.header it.numbers _ it.index (c.in_ok-put_numbers.ensures.ok clean) was.0 was.2 (λ older. omega (arith, c.requires.newest, older))
    (c.is_put.ensures c.if-not-is_put.false) (ap with c.saturating_sub.ensures))
