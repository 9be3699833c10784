use Rattle.std.proofs.Common.{◌∙◌, ap, inl, inr, subst}
use Rattle.durable_store.specs.Recovered.{IsNotFollowed, recovered}
use Rattle.durable_store.proofs.recovered_store.open_counted.Goals as goal

pub returns-clause-crash : goal.returns-clause-crash
returns-clause-crash g c = λ db left. elim (c.in-Err-resume.ensures.crash db left) [
  | inl is ↦ inl (c.in-Ok.ensures.clean is.0, c.in-Ok.ensures.was_open is.0, is.1, is.2 ∙ ap recovered (c.in-Ok.ensures.same is.0))
  | inr before ↦ inr (c.in-Ok.ensures.crash db before)
]

pub returns-clause-followed : goal.returns-clause-followed
returns-clause-followed g c =
    λ stray clean.
    let it = c.in-Err-resume.ensures.followed stray clean in
    subst IsNotFollowed (c.in-Ok.ensures.same it.0) it.1
