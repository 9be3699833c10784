-- Histories of which each begins with the objects of the one before it.
use Rattle.std.proofs.Common.{◌≡◌, ℕ, zero, suc, ◌-◌, List, [], ◌∷◌, length, take, Some, slice_get, refl, sym, ap, subst, arith}
use Rattle.std.proofs.lemmas.Option.{none-some, same_Some}
use Rattle.history_text.specs.declared.history_file.HistoryFile.{HistoryFile}
use Rattle.store_commands.specs.Audited.{BeginsWith, HaveObjects, all_objects}

-- the last of them
abbrev pub last_of : HistoryFile → List HistoryFile → HistoryFile
last_of first [] = first
last_of first (next ∷ later) = last_of next later

pub last_objects-are : (first : HistoryFile) (later : List HistoryFile) → all_objects first later ≡ (last_of first later).objects.items
last_objects-are first [] = refl
last_objects-are first (next ∷ later) = last_objects-are next later

-- one more of them
pub last-more : (first : HistoryFile) (later : List HistoryFile) (n : ℕ) (next : HistoryFile) → slice_get later n ≡ Some next → last_of first (take (suc n) later) ≡ next
last-more first [] n next at = absurd (none-some next at)
last-more first (h ∷ later) zero next at = same_Some h next at
last-more first (h ∷ later) (suc n) next at = last-more h later n next at

pub have-more : (first : HistoryFile) (later : List HistoryFile) (n : ℕ) (next : HistoryFile) → slice_get later n ≡ Some next → HaveObjects first (take n later)
    → BeginsWith next (last_of first (take n later)) → HaveObjects first (take (suc n) later)
have-more first [] n next at have begins = absurd (none-some next at)
have-more first (h ∷ later) zero next at have begins = (subst (λ (g : HistoryFile). BeginsWith g first) (sym (same_Some h next at)) begins, tt)
have-more first (h ∷ later) (suc n) next at have begins = (have.0, have-more h later n next at have.1 begins)

-- where all are so, one begins with the objects of the one before it
pub begins-at : (first : HistoryFile) (later : List HistoryFile) (n : ℕ) (next : HistoryFile) → slice_get later n ≡ Some next → HaveObjects first later
    → BeginsWith next (last_of first (take n later))
begins-at first [] n next at have = absurd (none-some next at)
begins-at first (h ∷ later) zero next at have = subst (λ (g : HistoryFile). BeginsWith g first) (same_Some h next at) have.0
begins-at first (h ∷ later) (suc n) next at have = begins-at h later n next at have.1

-- the objects of the one at the end
pub end_objects : (first : HistoryFile) (later : List HistoryFile) (end : HistoryFile) → slice_get later (length later - 1) ≡ Some end → end.objects.items ≡ all_objects first later
end_objects first [] end at = absurd (none-some end at)
end_objects first (h ∷ []) end at = sym (ap (λ (g : HistoryFile). g.objects.items) (same_Some h end at))
end_objects first (h ∷ (g ∷ later)) end at =
    let same : length (h ∷ (g ∷ later)) - 1 ≡ suc (length (g ∷ later) - 1) = omega arith in
    end_objects h (g ∷ later) end (subst (λ n. slice_get (h ∷ (g ∷ later)) n ≡ Some end) same at)
