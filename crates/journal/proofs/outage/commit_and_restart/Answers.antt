use Rattle.std.proofs.Common.{◌≡◌, ◌∙◌, ap, inl, inr, subst, IsTrue}
use Rattle.std.specs.Prelude.{is_ok}
use Rattle.journal.specs.Contents.{contents_of}
use Rattle.journal.specs.Journal.{Clean, IsOpen, durable, written}
use Rattle.journal.proofs.Outages.{if-both, where-ok}
use Rattle.journal.proofs.outage.commit_and_restart.Goals as goal

pub returns-clause-acknowledged : goal.returns-clause-acknowledged
returns-clause-acknowledged g c = if-both c.restart.result c.restart.ensures.clean c.restart.ensures.found (λ r kept found clean answered.
    let now : Clean g.S.Store c.commit.new.self = kept clean in
    let ok : IsTrue (is_ok c.commit.result) = subst IsTrue c.is_ok-is_committed.ensures.value answered in
    let is_open : IsOpen g.S.Store c.commit.new.self = where-ok _ c.commit.result c.commit.ensures.is_open ok now in
    let settled : durable g.S.Store c.commit.new.self ≡ written g.S.Store c.args.journal = where-ok _ c.commit.result c.commit.ensures.durable ok now in
    let left = found clean in
    left.2 ∙ c.is_settled.ensures is_open left.0 left.1 ∙ settled)

pub returns-clause-found : goal.returns-clause-found
returns-clause-found g c = if-both c.restart.result c.restart.ensures.clean c.restart.ensures.found (λ r kept found clean.
    let left = found clean in
    elim (c.commit.ensures.crash left.0 left.1) [
      | inl written ↦ inl (left.2 ∙ written.2)
      | inr before ↦ inr (left.2 ∙ ap contents_of (g.met.S.Store.settled _ left.0 c.requires.is_open before))
    ])
