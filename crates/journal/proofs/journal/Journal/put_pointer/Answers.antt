use Rattle.std.proofs.Common.{Result, Ok, Err, ap, arith}
use Rattle.std.specs.Prelude.{OnOk}
use Rattle.journal.specs.Contents.{with_pending}
use Rattle.journal.proofs.Outcomes.{points, points-file, points-known}
use Rattle.journal.proofs.journal.Journal.put_pointer.Goals as goal

-- of two things that hold where a call succeeds a third
on-both : {T F : Type 0} {P Q R : Type 0} (r : Result T F) → OnOk r P → OnOk r Q → (P → Q → R) → OnOk r R
on-both (Ok x) first second turn = turn first second
on-both (Err e) first second turn = tt

pub returns-in-Some-clause-kept : goal.returns-in-Some-clause-kept
returns-in-Some-clause-kept g c = on-both c.put_pointer.result c.put_pointer.ensures.low c.put_pointer.ensures.ok (λ low puts clean.
    let it = c.args.self.now in
    let was = c.requires.journal (c.put_pointer.ensures.clean clean) in
    let popped = c.in-Some.ensures in (
      points-file _ _ it.starts.items it.settled it.prepared it.header it.numbers it.index c.pop_first.new.self c.in-Some.place c.in-Some.number low (puts clean) was.0 was.2 (λ older. omega (arith, c.requires.newest, older))
          popped.value popped.updates.0,
      was.1,
      points-known _ _ it.starts.items it.settled it.prepared it.header it.numbers it.index c.pop_first.new.self c.in-Some.place c.in-Some.number low (puts clean) was.0 was.2 (λ older. omega (arith, c.requires.newest, older))
          popped.value popped.updates.0,
    ))

pub returns-in-Some-clause-written : goal.returns-in-Some-clause-written
returns-in-Some-clause-written g c = on-both c.put_pointer.result c.put_pointer.ensures.low c.put_pointer.ensures.ok (λ low puts clean.
    let it = c.args.self.now in
    let was = c.requires.journal (c.put_pointer.ensures.clean clean) in
    let popped = c.in-Some.ensures in
    ap (λ x. with_pending x it.pending)
    (points _ _ it.starts.items it.settled it.prepared it.header it.numbers it.index c.pop_first.new.self c.in-Some.place c.in-Some.number low (puts clean) was.0 was.2 (λ older. omega (arith, c.requires.newest, older))
    popped.value popped.updates.0))
