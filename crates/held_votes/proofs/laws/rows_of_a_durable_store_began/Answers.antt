use Rattle.held_votes.proofs.laws.rows_of_a_durable_store_began.Goals as goal

pub returns : goal.returns
returns g c d most sound clean = (sound.prepared clean).begun
