use Rattle.std.proofs.Common.{refl, subst}
use Rattle.object_trait.specs.Meaning.{Meaning}
use Rattle.object_trait.specs.Steps.{Keeps}
use Rattle.intentions_manager.proofs.Keeping.{meant, all-open, low-ops}
use Rattle.intentions_manager.proofs.Rewinding.{StrikeLaws, with_log, struck-keeps, dropped-kept}
use Rattle.intentions_manager.proofs.manager.IntentionsManagerRecovery.abort.Goals as goal

pub cut-self-inside-requires-clause-open : goal.cut-self-inside-requires-clause-open
cut-self-inside-requires-clause-open c = all-open c.self.invariant.0

pub cut-self-inside-requires-clause-few : goal.cut-self-inside-requires-clause-few
cut-self-inside-requires-clause-few c = low-ops c.self.invariant.0

pub invariant_of-self : goal.invariant_of-self
invariant_of-self c =
    let laws : StrikeLaws = record { first = c.keeps_first.ensures; others = c.keeps_others.ensures; sound_after = c.sound_after_strike.ensures } in
    (dropped-kept laws c.drop_view.new.views.items c.args.t 0 c.cut-self-inside.new.log.items c.self.invariant.0 c.cut-self-inside.ensures.cut refl c.drop_view.ensures, c.cut-self-inside.ensures.bits)

pub returns : goal.returns
returns c =
    subst (λ (old : Meaning). Keeps old c.args.t 0 (with_log (meant c.self.inside) c.cut-self-inside.new.log.items)) c.self.view_is
    (struck-keeps c.args.t 0 c.cut-self-inside.new.log.items c.self.invariant.0 c.cut-self-inside.ensures.cut)
