-- Words with the bits of entries' operations.
use Rattle.std.proofs.Common.{◌≡◌, ℕ, ◌*◌, ◌^◌, ◌%◌, ◌<◌, ◌≤◌, Bool, not, ◌&&◌, ◌==◌, eqb, List, [], ◌∷◌, ◌++◌, length, get_or, None, bit_and, bit_or, w64, All, sym, ap, subst, ◌∙◌, inl, inr, arith}
use Rattle.std.specs.Int.{bit_at}
use Rattle.std.specs.List.{find}
use Rattle.std.proofs.lemmas.Bool.{cases_eq, and_right}
use Rattle.std.proofs.lemmas.Nat.Bits.{bit_at_set_same, bit_at_set_other}
use Rattle.type_table.proofs.Elements.{find_none, bits_apart}
use Rattle.std.proofs.lemmas.List.Elements.{All-push, All-weaker}
use Rattle.type_table.specs.ConflictTable.{conflicts}
use Rattle.object_trait.specs.declared.log_entry.LogEntry.{LogEntry}
use Rattle.intentions_manager.specs.Kept.{LogHasBits}

-- one more entry, whose bit is set
pub bits-push : (word more : ℕ) (log : List LogEntry) (e : LogEntry) → (e.op < 64 → bit_at more e.op ≡ 1) → ((q : ℕ) → bit_at word q ≡ 1 → bit_at more q ≡ 1) → LogHasBits word log → LogHasBits more (log ++ e ∷ [])
bits-push word more log e added kept bits =
    let P : LogEntry → Type 0 = λ x. x.op < 64 → bit_at more x.op ≡ 1 in
    All-push P log e (All-weaker (λ (x : LogEntry). x.op < 64 → bit_at word x.op ≡ 1) P (λ x set low. kept x.op (set low)) log bits) added

-- one more entry, and its bit is set
pub bits-set : (word : ℕ) (log : List LogEntry) (e : LogEntry) (k : ℕ) → k ≡ e.op → k < 64 → LogHasBits word log → LogHasBits (bit_or word (1 * 2 ^ k % 2 ^ 64)) (log ++ e ∷ [])
bits-set word log e k op low bits =
    let more : ℕ = bit_or word (1 * 2 ^ k % 2 ^ 64) in
    bits-push word more log e (λ _. subst (λ q. bit_at more q ≡ 1) op (bit_at_set_same w64 word k low))
    (λ q is. elim (cases_eq q k) [
      | inl same ↦ rw same (bit_at_set_same w64 word k low)
      | inr other ↦ bit_at_set_other w64 word k low q other ∙ is
    ]) bits

-- where the row of k and the word have no bit in common, no entry keeps another from k
pub no-conflict : (rows : List (List Bool)) (t k row word : ℕ) (log : List LogEntry) → ((q : ℕ) → q < length rows → eqb (bit_at row q) 1 ≡ conflicts rows k q) → length rows ≤ 64
    → bit_and row word ≡ 0 → All (λ (e : LogEntry). e.op < length rows) log → LogHasBits word log → find (λ (e : LogEntry). not (e.by == t) && conflicts rows k e.op) log ≡ None
no-conflict rows t k row word log shows few apart within bits =
    find_none (λ (e : LogEntry). not (e.by == t) && conflicts rows k e.op) log
    (λ i d i_in. let e : LogEntry = get_or log i d in
    let low = within i d i_in in
    let clear = bits_apart row word e.op apart (bits i d i_in (omega (arith, low, few))) in
    and_right (not (e.by == t)) (conflicts rows k e.op) (sym (shows e.op low) ∙ ap (λ b. eqb b 1) clear))
