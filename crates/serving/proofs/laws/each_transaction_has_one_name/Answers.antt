use Rattle.serving.proofs.OneName.{by-name-alone, found-by-name}
use Rattle.serving.proofs.laws.each_transaction_has_one_name.Goals as goal

pub returns-clause-found : goal.returns-clause-found
returns-clause-found c = found-by-name

pub returns-clause-alone : goal.returns-clause-alone
returns-clause-alone c = by-name-alone
