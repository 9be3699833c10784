-- How many open entries each transaction has, as a list of those that have any.
use Rattle.std.specs.Prelude.{◌≡◌, ℕ, ◌<◌, List, [], ◌∷◌, length, slice_index_or, false, ◌==◌, if◌then◌else◌}
use Rattle.std.specs.List.{AllByRecursion}
use Rattle.object_trait.specs.Meaning.{open_of}
use Rattle.object_trait.specs.Orders.{Pairs}
use Rattle.object_trait.specs.declared.log_entry.LogEntry.{LogEntry}
use Rattle.undo_manager.specs.declared.opened.Opened.{Opened}

-- t's count: 0, where it isn't listed
abbrev pub count_of : ℕ → List Opened → ℕ
count_of t [] = 0
count_of t (o ∷ counts) = if o.by == t then o.count else count_of t counts

-- each transaction is listed once, and with at least one entry
pub record AreListedOnce (counts : List Opened) : Type 0 where
  pub once : Pairs (λ a b. (b.by == a.by) ≡ false) counts
  pub some : AllByRecursion (λ o. 0 < o.count) counts

-- t is listed at this place, with its count
pub record IsPlaceOf (t : ℕ) (counts : List Opened) (place : ℕ) : Type 0 where
  pub inside : place < length counts
  pub mine : (d : Opened) → (slice_index_or counts place d).by ≡ t
  pub count : (d : Opened) → (slice_index_or counts place d).count ≡ count_of t counts

-- t's count is n, and each other one is as it was
pub record IsRecounted (t n : ℕ) (old new : List Opened) : Type 0 where
  pub listed : AreListedOnce new
  pub mine : count_of t new ≡ n
  pub others : (u : ℕ) → (u == t) ≡ false → count_of u new ≡ count_of u old

-- the list is that of a log's open entries
pub record HasCounts (log : List LogEntry) (counts : List Opened) : Type 0 where
  pub listed : AreListedOnce counts
  pub exact : (t : ℕ) → count_of t counts ≡ length (open_of t log)
