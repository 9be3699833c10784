-- Entries that leave a log at a strike: what is left of each transaction's.
use Rattle.std.proofs.Common.{◌≡◌, ℕ, ◌≤◌, false, eqb, List, length, take, All, sym, ap, subst, ◌∙◌}
use Rattle.std.proofs.lemmas.List.{length-take-le}
use Rattle.std.proofs.lemmas.List.Elements.{All-from_recursion, recursion_from_All}
use Rattle.object_trait.specs.Strike.{keep_first}
use Rattle.object_trait.specs.Meaning.{is_open_of, open_of}
use Rattle.object_trait.specs.Laws.{KeepsFirst, KeepsOthers}
use Rattle.object_trait.specs.declared.log_entry.LogEntry.{LogEntry}
use Rattle.object_trait.proofs.Runs.{open-apart}
use Rattle.object_trait.proofs.Striking.{each-keep_first}

-- another's entries stay
pub others-stay : KeepsOthers LogEntry → (t u n : ℕ) (old new : List LogEntry) → new ≡ keep_first (is_open_of t) n old → eqb t u ≡ false → open_of u new ≡ open_of u old
others-stay others t u n old new left differ = ap (open_of u) left ∙ others (is_open_of t) (is_open_of u) n old (open-apart u t differ)

-- the first of t's stay
pub own-left : KeepsFirst LogEntry → (t n : ℕ) (old new : List LogEntry) → new ≡ keep_first (is_open_of t) n old → open_of t new ≡ take n (open_of t old)
own-left first t n old new left = ap (open_of t) left ∙ (first (is_open_of t) n old).0

-- this many of them
pub own-count : KeepsFirst LogEntry → (t n : ℕ) (old new : List LogEntry) → new ≡ keep_first (is_open_of t) n old → n ≤ length (open_of t old) → length (open_of t new) ≡ n
own-count first t n old new left many = ap length (own-left first t n old new left) ∙ length-take-le n (open_of t old) many

-- what holds of each entry holds of each that is left
pub each-left : (P : LogEntry → Type 0) (t n : ℕ) (old new : List LogEntry) → new ≡ keep_first (is_open_of t) n old → All P old → All P new
each-left P t n old new left each =
    subst (λ V. All P V) (sym left)
    (All-from_recursion P (keep_first (is_open_of t) n old) (each-keep_first P (is_open_of t) n old (recursion_from_All P old each)))
