use Rattle.command_words.proofs.ParseLemmas.{no_name}
use Rattle.command_words.proofs.words.topic_of.Goals as goal

pub returns-in_default-clause-other : goal.returns-in_default-clause-other
returns-in_default-clause-other c =
    let not = c.in_default in
    no_name c.args.name.now not.not-check not.not-explain not.not-make not.not-tables not.not-run not.not-audit not.not-work not.not-stress not.not-create not.not-extend not.not-serve not.not-history not.not-prepared not.not-outcome not.not-help not.not-faults
