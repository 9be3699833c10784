use Rattle.std.proofs.Common.{◌≡◌, subst, sym, false, IsTrue, arith, ap, ◌∙◌}
use Rattle.sqlite_trees.specs.View.{IsClean, View}
use Rattle.journal.specs.Contents.{Contents, IsFile, contents_by, contents_of, with_pending}
use Rattle.journal.specs.Numbers.{numbers_in}
use Rattle.journal.specs.OutcomeIndex.{CountsOutcomes}
use Rattle.journal.specs.Said.{contents_beside}
use Rattle.journal.proofs.Outcomes.{all-counted}
use Rattle.journal.proofs.Writes.{none-pending}
use Rattle.journal.proofs.Opens.{starts, is-file, says, unused, was_open, same_commit}
use Rattle.journal.proofs.journal.Journal.open.Goals as goal

pub returns-in-Ok-clause-kept : goal.returns-in-Ok-clause-kept
returns-in-Ok-clause-kept g c = λ clean.
    let first = g.S.Store.view c.args.store in
    let old = g.S.Store.view c.rollback.new.self in
    let found = c.in-Ok.field-0 in
    let was : IsClean old = c.in-Ok.ensures.clean clean in
    let at-first : IsClean first = omega (arith, c.rollback.ensures.quiet.clean) in
    let sound : old.is_broken ≡ false = c.in-Ok-true.ensures.sound c.in-Ok-true.field-0-test was in
    let numbered : IsTrue old.is_numbered = subst IsTrue (sym c.rollback.ensures.undone.numbered) (c.requires at-first) in (
      rw (c.as_slice.ensures.value, c.as_slice-in-Ok.ensures.value) (starts old (g.S.Store.view c.read_contents.new.store) found.said found.starts.items
          (unused first old c.rollback.ensures.undone was (g.met.S.Store.broken_if_shut _) sound)
          (c.in-Ok-true.ensures.tables c.in-Ok-true.field-0-test) numbered (c.in-Ok-true.ensures.named c.in-Ok-true.field-0-test was)
          (c.in-Ok.ensures.same clean) (c.in-Ok.ensures.told clean)),
      rw c.new.ensures (omega arith),
      subst (λ (v : View). CountsOutcomes v found.numbers found.index) (sym (c.in-Ok.ensures.same clean)) (λ _. c.in-Ok.ensures.outcomes clean),
    )

pub returns-in-Ok-clause-settled : goal.returns-in-Ok-clause-settled
returns-in-Ok-clause-settled g c = λ clean.
    let first = g.S.Store.view c.args.store in
    let old = g.S.Store.view c.rollback.new.self in
    let new = g.S.Store.view c.read_contents.new.store in
    let found = c.in-Ok.field-0 in
    let was : IsClean old = c.in-Ok.ensures.clean clean in
    let sound : old.is_broken ≡ false = c.in-Ok-true.ensures.sound c.in-Ok-true.field-0-test was in
    let u = unused first old c.rollback.ensures.undone was (g.met.S.Store.broken_if_shut _) sound in
    let same = c.in-Ok.ensures.same clean in
    let all : found.numbers ≡ numbers_in (new.trees 6) = (c.in-Ok.ensures.outcomes clean).numbers c.in-Ok.ensures.counted ∙ ap (λ (v : View). numbers_in (v.trees 6)) (sym same) in
    ap (with_pending (contents_by found.numbers new.trees)) c.new.ensures
    ∙ none-pending (contents_by found.numbers new.trees)
    ∙ all-counted new.trees found.numbers all
    ∙ ap (λ (v : View). contents_of v.trees) same ∙ ap contents_of u.clean ∙ ap (λ (v : View). contents_of v.committed) (sym same)

pub returns-in-Ok-clause-said : goal.returns-in-Ok-clause-said
returns-in-Ok-clause-said g c = λ clean.
    let first = g.S.Store.view c.args.store in
    let old = g.S.Store.view c.rollback.new.self in
    let found = c.in-Ok.field-0 in
    let was : IsClean old = c.in-Ok.ensures.clean clean in
    let sound : old.is_broken ≡ false = c.in-Ok-true.ensures.sound c.in-Ok-true.field-0-test was in
    let u = unused first old c.rollback.ensures.undone was (g.met.S.Store.broken_if_shut _) sound in
    let same : contents_of (g.S.Store.view c.read_contents.new.store).committed ≡ contents_of old.trees = ap (λ (v : View). contents_of v.committed) (c.in-Ok.ensures.same clean) ∙ ap contents_of (sym u.clean) in
    subst (λ (said : Contents). said ≡ contents_beside said.outcomes found.said) (sym same) (says old.trees found.said found.starts.items (c.in-Ok.ensures.told clean))

pub returns-in-Ok-clause-file : goal.returns-in-Ok-clause-file
returns-in-Ok-clause-file g c = λ clean.
    let first = g.S.Store.view c.args.store in
    let old = g.S.Store.view c.rollback.new.self in
    let found = c.in-Ok.field-0 in
    let was : IsClean old = c.in-Ok.ensures.clean clean in
    let sound : old.is_broken ≡ false = c.in-Ok-true.ensures.sound c.in-Ok-true.field-0-test was in
    let broken : old.is_open ≡ false → IsTrue old.is_broken = g.met.S.Store.broken_if_shut _ in
    let u = unused first old c.rollback.ensures.undone was broken sound in
    subst IsFile (same_commit first old c.rollback.ensures.undone was broken sound) (subst IsFile u.clean (is-file old.trees found.said found.starts.items (c.in-Ok.ensures.told clean)))

pub returns-in-Ok-clause-was_open : goal.returns-in-Ok-clause-was_open
returns-in-Ok-clause-was_open g c = λ clean.
    let first = g.S.Store.view c.args.store in
    let old = g.S.Store.view c.rollback.new.self in
    let was : IsClean old = c.in-Ok.ensures.clean clean in
    let sound : old.is_broken ≡ false = c.in-Ok-true.ensures.sound c.in-Ok-true.field-0-test was in
    was_open first old c.rollback.ensures.undone was (g.met.S.Store.broken_if_shut _) sound
