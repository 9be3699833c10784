use Rattle.std.proofs.Common.{Option, subst}
use Rattle.std.proofs.lemmas.Bool.{false≢true}
use Rattle.declared_types.specs.declared.type_file.TypeFile.{TypeFile}
use Rattle.pair_needs.specs.Explainers.{IsOutside}
use Rattle.pair_needs.proofs.Outside.{within-small}
use Rattle.pair_needs.proofs.explainer.Explainer.fails_outside.Goals as goal

pub returns-in-None : goal.returns-in-None
returns-in-None c = (
  (λ is. absurd (false≢true is)),
  (λ large. absurd (within-small c.args.pair.kind c.args.file.now c.args.self.now.leads.set c.args.pair.p c.args.pair.q c.requires.known.led
      (subst (λ (o : Option TypeFile). IsOutside c.args.file.now c.args.self.now.leads.set o) c.in-None.is c.requires.known.outside) large)),
)
