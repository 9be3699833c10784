-- Which bytes are the key of a transaction, and where a file has what became of it.
use Rattle.std.specs.Prelude.{ℕ, Bool, not, ◌&&◌, ◌/◌, ◌==◌, List, take}
use Rattle.std.specs.Int.{w64, from_be_bytes}
use Rattle.std.specs.List.{list_any}
use Rattle.object_name.specs.ObjectName.{is_object_name}
use Rattle.sha2.specs.Sha256.{sha256}

-- 1 to 64 of the bytes that an object's name may have, but `/`
unfoldable pub is_transaction_key : List ℕ → Bool
is_transaction_key w = is_object_name w && not (list_any (λ b. b == 47) w)

-- the first 62 bits of its SHA-256
unfoldable pub key_place : List ℕ → ℕ
key_place w = from_be_bytes w64 (take 8 (sha256 w)) / 4
