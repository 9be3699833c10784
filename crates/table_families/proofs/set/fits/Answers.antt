use Rattle.table_families.proofs.SetFacts.{fits-iff}
use Rattle.table_families.proofs.set.fits.Goals as goal

pub returns : goal.returns
returns c = fits-iff c.args.elements.now
