-- Names in buffers that end in zeros.
use Rattle.std.proofs.Common.{◌≡◌, ℕ, ◌-◌, ◌≤◌, Bool, true, List, ◌++◌, length, take, drop, replicate, Some, None, if◌then◌else◌, ap, arith}
use Rattle.std.proofs.lemmas.Bool.Decides.{nat_tests}
use Rattle.std.proofs.lemmas.List.{drop-replicate, length-replicate, length-append}
use Rattle.std.proofs.Math.Seq.{take-append_seam, drop-append_seam}
use Rattle.type_table.specs.Name.{is_name}
use Rattle.type_table.specs.Padded.{IsPadded}

-- a name is at most 32 bytes long
pub name_fits : (w : List ℕ) → is_name w ≡ true → length w ≤ 32
unfolding is_name
name_fits w h = grind (arith, nat_tests)

-- a buffer of zeros whose front was overwritten
pub padded-from_copy : (name zeros : List ℕ) → zeros ≡ replicate 32 0 → length name ≤ 32 → IsPadded 32 0 (name ++ drop (length name) zeros) (length name)
padded-from_copy name zeros h fits =
    let behind : drop (length name) zeros ≡ replicate (32 - length name) 0 = rw h (drop-replicate (length name) 32 0) in
    record {
      whole = rw (behind, length-append, length-replicate {A = ℕ} (32 - length name) 0) (omega arith);
      within = fits;
      rest = rw (drop-append_seam name (drop (length name) zeros)) behind;
    }

-- what a name's `Model` asks of the overwritten buffer
pub named-from_copy : (name front zeros : List ℕ) → front ≡ name → zeros ≡ replicate 32 0 → is_name name ≡ true →
    IsPadded 32 0 (front ++ drop (length name) zeros) (length name) × (is_name (take (length name) (front ++ drop (length name) zeros)) ≡ true)
named-from_copy name front zeros e z h =
    rw e (padded-from_copy name zeros z (name_fits name h), rw (take-append_seam name (drop (length name) zeros)) h)

pub copied : (name front rest : List ℕ) → front ≡ name → take (length name) (front ++ rest) ≡ name
copied name front rest e = rw e (take-append_seam name rest)

pub some-if_true : {A : Type 0} → (b : Bool) (x y : A) → b ≡ true → x ≡ y → Some x ≡ (if b then Some y else None)
some-if_true b x y h e = rw h (ap Some e)
