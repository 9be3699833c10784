-- Lists in padded buffers.
use Rattle.std.proofs.Common.{◌≡◌, ℕ, ◌<◌, ◌≤◌, List, length, take, drop, set, replicate, ap, ◌∙◌, arith}
use Rattle.std.proofs.lemmas.List.{drop-replicate, take-replicate, length-replicate}
use Rattle.std.proofs.Math.Seq.{take-set-lt}
use Rattle.type_table.specs.Padded.{IsPadded, length-padded}

-- a write to a cell of the list
pub set-padded : {A : Type 0} {size : ℕ} {blank : A} (cells view : List A) (len s : ℕ) (a : A) → take len cells ≡ view → IsPadded size blank cells len → s < length view →
    take len (set cells s a) ≡ set view s a
set-padded cells view len s a e h below =
    let inside : s < len = omega (arith, length-padded cells len h, ap length e) in
    take-set-lt len cells s a inside ∙ ap (λ v. set v s a) e

-- a buffer of blanks alone
pub blank-padded : {A : Type 0} (size len : ℕ) (blank : A) (cells : List A) → cells ≡ replicate size blank → len ≤ size → IsPadded size blank cells len
blank-padded size len blank cells e fits = record {
  whole = ap length e ∙ length-replicate size blank;
  within = fits;
  rest = ap (drop len) e ∙ drop-replicate len size blank;
}

pub blank-taken : {A : Type 0} (size len : ℕ) (blank : A) (cells : List A) → cells ≡ replicate size blank → len ≤ size → take len cells ≡ replicate len blank
blank-taken size len blank cells e fits = ap (take len) e ∙ take-replicate len size blank fits
