use Rattle.command_words.proofs.ParseLemmas.{parses}
use Rattle.command_words.proofs.words.parsed.Goals as goal

pub returns : goal.returns
returns c =
    let shaped = c.in_ok-program.ensures in
    parses shaped.0 shaped.1 _ _ _ shaped.2 c.try_get_matches_from.ensures.kinds c.try_get_matches_from.ensures.matches
