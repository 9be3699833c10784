-- Names of objects in buffers that end in zeros.
use Rattle.std.proofs.Common.{◌≡◌, ℕ, ◌-◌, ◌≤◌, true, List, ◌++◌, length, take, drop, replicate, arith}
use Rattle.std.proofs.lemmas.Bool.Decides.{nat_tests}
use Rattle.std.proofs.lemmas.List.{drop-replicate, length-replicate, length-append}
use Rattle.std.proofs.Math.Seq.{take-append_seam, drop-append_seam}
use Rattle.type_table.specs.Padded.{IsPadded}
use Rattle.object_name.specs.ObjectName.{is_object_name}

-- a name is at most 64 bytes long
pub name_fits : (w : List ℕ) → is_object_name w ≡ true → length w ≤ 64
unfolding is_object_name
name_fits w h = grind (arith, nat_tests)

-- a buffer of zeros whose front was overwritten
padded-from_copy : (name zeros : List ℕ) → zeros ≡ replicate 64 0 → length name ≤ 64 → IsPadded 64 0 (name ++ drop (length name) zeros) (length name)
padded-from_copy name zeros h fits =
    let behind : drop (length name) zeros ≡ replicate (64 - length name) 0 = rw h (drop-replicate (length name) 64 0) in
    record {
      whole = rw (behind, length-append, length-replicate {A = ℕ} (64 - length name) 0) (omega arith);
      within = fits;
      rest = rw (drop-append_seam name (drop (length name) zeros)) behind;
    }

-- what a name's `Model` asks of the overwritten buffer
pub named-from_copy : (name front zeros : List ℕ) → front ≡ name → zeros ≡ replicate 64 0 → is_object_name name ≡ true →
    IsPadded 64 0 (front ++ drop (length name) zeros) (length name) × (is_object_name (take (length name) (front ++ drop (length name) zeros)) ≡ true)
named-from_copy name front zeros e z h =
    rw e (padded-from_copy name zeros z (name_fits name h), rw (take-append_seam name (drop (length name) zeros)) h)
