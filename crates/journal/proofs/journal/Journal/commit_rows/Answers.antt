use Rattle.std.proofs.Common.{◌≡◌, inl, inr, ap, arith, sym, ◌∙◌, IsTrue}
use Rattle.sqlite_trees.specs.View.{Commits, IsClean, View}
use Rattle.journal.specs.Contents.{Contents, contents_by, contents_of, with_pending}
use Rattle.journal.specs.Journal.{written}
use Rattle.journal.specs.Numbers.{numbers_in}
use Rattle.journal.specs.Tables.{IsUnused}
use Rattle.journal.proofs.Outcomes.{all-counted}
use Rattle.journal.proofs.Writes.{clean_if_sound, file_of, none-pending, open_if_sound}
use Rattle.journal.proofs.journal.Journal.commit_rows.Goals as goal

pub returns-clause-durable : goal.returns-clause-durable
returns-clause-durable g c = λ clean.
    let it = c.args.self.now in
    let old = g.S.Store.view it.store in
    let done : Commits old (g.S.Store.view c.commit.new.self) = c.in_ok-commit.ensures.ok clean in
    let before : IsClean old = omega (arith, clean, c.commit.ensures.clean) in
    let was = c.requires.journal before in
    let all : written g.S.Store it ≡ contents_of old.trees =
    ap (with_pending (contents_by it.numbers old.trees)) c.requires.none ∙ none-pending (contents_by it.numbers old.trees) ∙ all-counted old.trees it.numbers ((was.2 done.sound).numbers c.requires.counted) in
    ap (λ (v : View). contents_of v.committed) done.is ∙ sym all

pub returns-clause-shows : goal.returns-clause-shows
returns-clause-shows g c = λ clean.
    let it = c.args.self.now in
    let old = g.S.Store.view it.store in
    let done : Commits old (g.S.Store.view c.commit.new.self) = c.in_ok-commit.ensures.ok clean in
    let before : IsClean old = omega (arith, clean, c.commit.ensures.clean) in
    let was = c.requires.journal before in
    let unused : IsUnused (g.S.Store.view c.commit.new.self) = record {
      is_open = ap (λ (v : View). v.is_open) done.is ∙ open_if_sound old (g.met.S.Store.broken_if_shut _) done.sound;
      sound = ap (λ (v : View). v.is_broken) done.is ∙ done.sound;
      clean = ap (λ (v : View). v.trees) done.is ∙ sym (ap (λ (v : View). v.committed) done.is);
    } in
    (unused, c.requires.none, (was.2 done.sound).numbers c.requires.counted ∙ ap (λ (v : View). numbers_in (v.trees 6)) (sym done.is))

pub returns-clause-is_open : goal.returns-clause-is_open
returns-clause-is_open g c = λ clean.
    let old = g.S.Store.view c.args.self.now.store in
    let new = g.S.Store.view c.commit.new.self in
    let done : Commits old new = c.in_ok-commit.ensures.ok clean in
    let was : IsTrue old.is_open = open_if_sound old (g.met.S.Store.broken_if_shut _) done.sound in
    ap (λ (v : View). v.is_open) done.is ∙ was

pub returns-clause-crash : goal.returns-clause-crash
returns-clause-crash g c db left = elim (c.commit.ensures.crash db left) [
  | inl done ↦ (
      let it = c.args.self.now in
      let old = g.S.Store.view it.store in
      let clean : IsClean old = clean_if_sound old (g.met.S.Store.shut_if_dirty _) (g.met.S.Store.broken_if_shut _) done.0 in
      let is = ap contents_of done.1 in
      let was = c.requires.journal clean in
      let all : written g.S.Store it ≡ contents_of old.trees =
      ap (with_pending (contents_by it.numbers old.trees)) c.requires.none ∙ none-pending (contents_by it.numbers old.trees) ∙ all-counted old.trees it.numbers ((was.2 done.0).numbers c.requires.counted) in
      inl (clean, file_of _ _ done.1 (was.0.file done.0), is ∙ sym all, ap (λ (x : Contents). x.headers) is ∙ was.0.header_is done.0))
  | inr before ↦ inr before
]

pub returns-in_err-commit-clause-crash : goal.returns-in_err-commit-clause-crash
returns-in_err-commit-clause-crash g c db left = elim (c.commit.ensures.crash db left) [
  | inl done ↦ (
      let it = c.args.self.now in
      let old = g.S.Store.view it.store in
      let clean : IsClean old = clean_if_sound old (g.met.S.Store.shut_if_dirty _) (g.met.S.Store.broken_if_shut _) done.0 in
      let is = ap contents_of done.1 in
      let was = c.requires.journal clean in
      let all : written g.S.Store it ≡ contents_of old.trees =
      ap (with_pending (contents_by it.numbers old.trees)) c.requires.none ∙ none-pending (contents_by it.numbers old.trees) ∙ all-counted old.trees it.numbers ((was.2 done.0).numbers c.requires.counted) in
      inl (clean, file_of _ _ done.1 (was.0.file done.0), is ∙ sym all, ap (λ (x : Contents). x.headers) is ∙ was.0.header_is done.0))
  | inr before ↦ inr before
]
