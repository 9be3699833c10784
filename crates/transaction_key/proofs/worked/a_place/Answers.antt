use Rattle.std.proofs.Common.{refl}
use Rattle.sha2.specs.Sha256.{compress, digest_bytes, first_words, hash_after, rounds, schedule, sha256}
use Rattle.transaction_key.specs.TransactionKey.{key_place}
use Rattle.transaction_key.proofs.worked.a_place.Goals as goal

pub returns : goal.returns
unfolding key_place sha256 first_words schedule rounds compress hash_after digest_bytes
returns c = refl
