-- Texts that begin with a name and a LF, which are told by the words of their first sixteen bytes.
use Rattle.std.specs.Prelude.{◌≡◌, ℕ, ◌-◌, ◌*◌, ◌^◌, ◌≤◌, List, ◌∷◌, ◌++◌, min, drop}
use Rattle.std.specs.Int.{w64, to_le_bytes}
use Rattle.std.specs.Int.Bits.{bit_and}
use Rattle.script_text.specs.Kept.{BeginsWithName}
use Rattle.script_text.specs.declared.fronts.Words.{Words}
use Rattle.script_text.specs.declared.fronts.Front.{Front}

-- a text begins with the sixteen bytes of two words
pub record BeginsWithWords (text : List ℕ) (words : Words) : Type 0 where
  pub behind : List ℕ
  pub is : text ≡ to_le_bytes w64 words.first ++ (to_le_bytes w64 words.last ++ behind)

-- a text begins with these bytes and a LF
pub record BeginsWithLine (text bytes : List ℕ) : Type 0 where
  pub behind : List ℕ
  pub is : text ≡ bytes ++ 10 ∷ behind

-- words are those of a front under its masks
pub record HasWords (front : Front) (words : Words) : Type 0 where
  pub first : bit_and words.first front.first_mask ≡ front.first
  pub last : bit_and words.last front.last_mask ≡ front.last

-- the bits of this many low bytes of a word
abbrev pub mask_of : ℕ → ℕ
mask_of bytes = 2 ^ (8 * min bytes 8) - 1

-- a front is made of this many bytes of words
pub record IsFrontOf (words : Words) (place count : ℕ) (front : Front) : Type 0 where
  pub position : front.position ≡ place
  pub end : front.end ≡ count
  pub first_mask : front.first_mask ≡ mask_of count
  pub last_mask : front.last_mask ≡ mask_of (count - 8)
  pub has : HasWords front words

-- each text with the words of a front begins with the name at the front's position, and goes on behind its end
pub record FindsName (names : List (List ℕ)) (front : Front) : Type 0 where
  pub short : front.end ≤ 16
  pub each : (text : List ℕ) (words : Words) → BeginsWithWords text words → HasWords front words → BeginsWithName names text front.position (drop front.end text)
