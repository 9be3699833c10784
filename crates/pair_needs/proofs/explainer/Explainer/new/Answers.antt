use Rattle.pair_needs.proofs.explainer.Explainer.new.Goals as goal

pub returns : goal.returns
returns c = record { distances = c.in_ok-distances.ensures; leads = c.in_ok-leads.ensures.lists; led = c.in_ok-leads.ensures.set; outside = c.in_ok-outside.ensures }
