-- Words with the bits of held operations.
use Rattle.std.proofs.Common.{◌≡◌, ℕ, ◌+◌, ◌*◌, ◌^◌, ◌%◌, ◌<◌, ◌&&◌, Bool, false, not, eqb, List, [], ◌∷◌, ◌++◌, length, None, bit_and, bit_or, w64, drop, refl, sym, ap, ◌∙◌, get_or, inl, inr, All}
use Rattle.std.specs.Int.{bit_at}
use Rattle.std.specs.Option.{option_map}
use Rattle.std.proofs.lemmas.Bool.{cases_eq, and_right, eq-eqb}
use Rattle.std.proofs.lemmas.List.{drop_more}
use Rattle.std.proofs.lemmas.List.Elements.{All-push, All-weaker}
use Rattle.std.proofs.lemmas.Nat.Bits.{bit_at_set_same, bit_at_set_other}
use Rattle.type_table.specs.ConflictTable.{conflicts}
use Rattle.type_table.proofs.Elements.{find_none, bits_apart}
use Rattle.op_locks.specs.Locks.{is_held_by, blocks, blocking_holder, HasBits}
use Rattle.op_locks.specs.declared.held.Held.{Held}

-- e's operation has a bit in the word, which is set
abbrev IsMarked : ℕ → Held → Type 0
IsMarked word e = (e.op < 64) × (bit_at word e.op ≡ 1)

-- a bit more
abbrev with_bit : ℕ → ℕ → ℕ
with_bit word k = bit_or word (1 * 2 ^ k % 2 ^ 64)

IsMarked-with_bit : (word k : ℕ) (e : Held) → k < 64 → IsMarked word e → IsMarked (with_bit word k) e
IsMarked-with_bit word k e below marked = (
  marked.0,
  elim (cases_eq e.op k) [
    | inl same ↦ rw same (bit_at_set_same w64 word k below)
    | inr other ↦ bit_at_set_other w64 word k below e.op other ∙ marked.1
  ],
)

-- one more is held, and its bit is set
pub HasBits-push : (word : ℕ) (held : List Held) (e : Held) → e.op < 64 → HasBits word held → HasBits (bit_or word (1 * 2 ^ e.op % 2 ^ 64)) (held ++ e ∷ [])
HasBits-push word held e below bits =
    let more : ℕ = with_bit word e.op in
    All-push (IsMarked more) held e (All-weaker (IsMarked word) (IsMarked more) (λ x. IsMarked-with_bit word e.op x below) held bits)
    (below, bit_at_set_same w64 word e.op below)

-- where the row of k and the word have no bit in common, nobody keeps another from k
pub nobody_blocks : (rows : List (List Bool)) (t k row word : ℕ) (held : List Held) →
    ((q : ℕ) → q < length rows → eqb (bit_at row q) 1 ≡ conflicts rows k q) → bit_and row word ≡ 0 → All (λ e. e.op < length rows) held → HasBits word held → blocking_holder rows t k held ≡ None
nobody_blocks rows t k row word held shows apart within bits =
    ap (option_map (λ e. e.by))
    (find_none (blocks rows t k) held
    (λ i d i_in. let e : Held = get_or held i d in
    let clear = bits_apart row word e.op apart (bits i d i_in).1 in
    and_right (not (is_held_by t e)) (conflicts rows k e.op) (sym (shows e.op (within i d i_in)) ∙ ap (λ b. eqb b 1) clear)))

-- an entry that doesn't block is passed
pub passed : (rows : List (List Bool)) (t k i : ℕ) (held : List Held) (e : Held) → i < length held → e ≡ get_or held i e → blocks rows t k e ≡ false →
    blocking_holder rows t k (drop (i + 1) held) ≡ blocking_holder rows t k (drop i held)
passed rows t k i held e inside is stays = rw (drop_more held i e inside, ← is, stays) refl

-- one of t's own doesn't
pub own-passes : (rows : List (List Bool)) (t k : ℕ) (e : Held) → e.by ≡ t → blocks rows t k e ≡ false
own-passes rows t k e own = ap (λ b. not b && conflicts rows k e.op) (eq-eqb e.by t own)
