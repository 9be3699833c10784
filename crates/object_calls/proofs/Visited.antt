-- The objects at the places of a transaction, visited in turn, each once.
use Rattle.std.proofs.Common.{◌≡◌, ℕ, ◌+◌, ◌<◌, ◌≤◌, List, length, map, set, take, get_or, All, Some, refl, sym, ap, ◌∙◌, length-set, arith}
use Rattle.std.specs.Prelude.{slice_get}
use Rattle.std.specs.Option.{option_map}
use Rattle.std.proofs.lemmas.List.{length-map}
use Rattle.std.proofs.lemmas.Option.{slice_get-map, slice_get_read}
use Rattle.object_trait.specs.Meaning.{Meaning, open_of}
use Rattle.object_calls.specs.Ends.{is_at, times_in, ChangesAt, HasLast}
use Rattle.object_calls.proofs.Changes.{changes_none, changes_again, changes_now_by}
use Rattle.object_calls.proofs.Counts.{AreLeft, left_whole, first_count, later_count, left_again, left_now}

-- of all places those before i were visited: there each object's meaning was changed, and its count is used up
pub record IsVisited {R : Type 0} (meaning : R → Meaning) (change : ℕ → Meaning → Meaning → Type 0) (n : ℕ) (all : List ℕ) (i : ℕ) (old new : List R) (counts : List ℕ) : Type 0 where
  pub objects : ChangesAt (take i all) change (map meaning old) (map meaning new)
  pub left : AreLeft n all i counts
  pub long : length counts ≡ n

-- before the first visit
pub visited_none : {R : Type 0} (meaning : R → Meaning) (change : ℕ → Meaning → Meaning → Type 0) (n : ℕ) (all : List ℕ) (old : List R) (counts : List ℕ) →
    length counts ≡ n → ((x : ℕ) → x < n → slice_get counts x ≡ Some (times_in x all)) → IsVisited meaning change n all 0 old old counts
visited_none meaning change n all old counts long whole = record { objects = changes_none change (map meaning old); left = left_whole n all counts whole; long = long }

-- the place at i comes next
module _ {R : Type 0} (meaning : R → Meaning) (change : ℕ → Meaning → Meaning → Type 0) (n : ℕ) (all : List ℕ) (i : ℕ) (i_in : i < length all)
    (old new : List R) (counts : List ℕ) (h : IsVisited meaning change n all i old new counts)
    (inside : All (λ x. x < length old) all) (low : get_or all i 0 < n) where
  -- the list has it
  y_in_new : get_or all i 0 < length new
  y_in_new = omega (arith, inside i 0 i_in, h.objects.as_many, length-map old meaning, length-map new meaning)

  -- nothing is left of its count
  pub visited_again : get_or counts (get_or all i 0) 0 ≡ 0 → IsVisited meaning change n all (i + 1) old new counts
  visited_again none =
      let before : is_at (take i all) (get_or all i 0) = later_count n all i i_in counts h.left low none in
      record {
        objects = changes_again all i i_in change (map meaning old) (map meaning new) h.objects before;
        left = left_again n all i i_in counts h.left low before;
        long = h.long;
      }

  -- its whole count is
  module _ (some : 0 < get_or counts (get_or all i 0) 0) where
    first : is_at (take i all) (get_or all i 0) → ⊥
    first = first_count n all i i_in counts h.left low some

    pub whole_count : get_or counts (get_or all i 0) 0 ≡ times_in (get_or all i 0) all
    whole_count = h.left.others (get_or all i 0) low first

    module _ (before : R) (is_before : before ≡ get_or new (get_or all i 0) before) where
      before_at : slice_get new (get_or all i 0) ≡ Some before
      before_at = slice_get_read new (length new) (get_or all i 0) before refl y_in_new is_before

      pub enough_entries : (t : ℕ) → HasLast t all (map meaning old) → get_or counts (get_or all i 0) 0 ≤ length (open_of t (meaning before).log)
      enough_entries t last =
          let y : ℕ = get_or all i 0 in
          let was : slice_get (map meaning old) y ≡ Some (meaning before) = sym (h.objects.others y first) ∙ slice_get-map meaning new y ∙ ap (option_map meaning) before_at in
          omega (arith, whole_count, last y (meaning before) was)

    pub visited_now : (before after : R) → before ≡ get_or new (get_or all i 0) before → change (get_or all i 0) (meaning before) (meaning after) →
        IsVisited meaning change n all (i + 1) old (set new (get_or all i 0) after) (set counts (get_or all i 0) 0)
    visited_now before after is_before done =
        let y : ℕ = get_or all i 0 in
        record {
          objects = changes_now_by all i i_in meaning change old new h.objects first before after (before_at before is_before) done (omega (arith, y_in_new, length-map new meaning));
          left = left_now n all i i_in counts h.left low (omega (arith, low, h.long));
          long = length-set counts y 0 ∙ h.long;
        }
