-- What the items of an accepted text are known to be.
use Rattle.std.specs.Prelude.{◌≡◌, ◌↔◌, ℕ, ◌+◌, ◌<◌, ◌≤◌, true, false, List, length, take, slice_get, IsSome, Some, None}
use Rattle.std.specs.List.{list_any}
use Rattle.line_text.specs.Rules.{Rules, count_at, was_read, end_rank, last_item}
use Rattle.line_text.specs.LineTests.{item_fault, is_late, lacks, is_full, is_single, is_needed, ascends, pair_below}
use Rattle.line_text.specs.declared.section.Section.{Section}

-- the items of a text that was read: each passes tests 7 to 11 after those before it, and the last alone is `end`
pub record IsAccepted {Item : Type 0} (g : Rules Item) (items : List Item) : Type 0 where
  pub each : (n : ℕ) (x : Item) → slice_get items n ≡ Some x → item_fault g (take n items) x ≡ None
  pub before_end : (n : ℕ) → n < length items → was_read g (take n items) (end_rank g) ≡ false
  pub has_ended : was_read g items (end_rank g) ≡ true

-- tests 7 to 11 didn't refuse an item after these
pub record HasPassed {Item : Type 0} (g : Rules Item) (before : List Item) (x : Item) : Type 0 where
  pub in_order : is_late g (last_item before) x ≡ false
  pub lacks_none : lacks g before (g.rank_of x) ≡ false
  pub misses_none : g.misses before x ≡ false
  pub in_range : g.is_in_range before x ≡ true
  pub has_room : is_full (slice_get g.sections (g.rank_of x)) (count_at g before (g.rank_of x)) ≡ false
  pub ascending : ascends g (last_item before) x ≡ true
  pub no_twin : list_any (g.is_twin x) before ≡ false

-- each item has passed its tests
abbrev pub HavePassed : {Item : Type 0} → Rules Item → List Item → Type 0
HavePassed {Item} g items = (n : ℕ) (x : Item) → slice_get items n ≡ Some x → HasPassed g (take n items) x

-- two items at two places
pub record AreAt {Item : Type 0} (items : List Item) (i j : ℕ) (x y : Item) : Type 0 where
  pub first : slice_get items i ≡ Some x
  pub second : slice_get items j ≡ Some y

-- no item is a twin of one before it
abbrev pub HaveNoTwins : {Item : Type 0} → Rules Item → List Item → Type 0
HaveNoTwins {Item} g items = (i j : ℕ) (x y : Item) → i < j → AreAt items i j x y → g.is_twin y x ≡ false

-- the ranks never fall
abbrev pub HaveRisingRanks : {Item : Type 0} → Rules Item → List Item → Type 0
HaveRisingRanks {Item} g items = (i j : ℕ) (x y : Item) → i ≤ j → AreAt items i j x y → g.rank_of x ≤ g.rank_of y

-- each item of a rank has a key
abbrev pub HasKeys : {Item : Type 0} → Rules Item → ℕ → Type 0
HasKeys {Item} g rank = (x : Item) → g.rank_of x ≡ rank → IsSome (g.key_of x)

-- the keys of a section rise strictly, where each of its items has one
abbrev pub HaveRisingKeys : {Item : Type 0} → Rules Item → List Item → Type 0
HaveRisingKeys {Item} g items =
    (rank i j : ℕ) (x y : Item) (a b : ℕ × ℕ) →
    HasKeys g rank → i < j → AreAt items i j x y →
    g.rank_of x ≡ rank → g.rank_of y ≡ rank → g.key_of x ≡ Some a → g.key_of y ≡ Some b →
    pair_below a b ≡ true

-- a single section has at most one item
abbrev pub HaveSinglesOnce : {Item : Type 0} → Rules Item → List Item → Type 0
HaveSinglesOnce {Item} g items =
    (i j : ℕ) (x y : Item) → AreAt items i j x y → g.rank_of x ≡ g.rank_of y →
    is_single (slice_get g.sections (g.rank_of x)) ≡ true → i ≡ j

-- an item of a rank, and its place
pub record HaveItemOf {Item : Type 0} (g : Rules Item) (items : List Item) (rank : ℕ) : Type 0 where
  pub place : ℕ
  pub item : Item
  pub at : slice_get items place ≡ Some item
  pub ranked : g.rank_of item ≡ rank

-- a section that must be there is there; so is `end`
pub record HaveNeeded {Item : Type 0} (g : Rules Item) (items : List Item) : Type 0 where
  pub each : (rank : ℕ) → rank < end_rank g → is_needed (slice_get g.sections rank) ≡ true → HaveItemOf g items rank
  pub end : HaveItemOf g items (end_rank g)

-- no section has more items than it may have
abbrev pub KeepLimits : {Item : Type 0} → Rules Item → List Item → Type 0
KeepLimits g items = (rank most : ℕ) (s : Section) → slice_get g.sections rank ≡ Some s → s.most ≡ Some most → count_at g items rank ≤ most

-- an item is of the rank of `end` exactly where it is the last
abbrev pub HaveOneEnd : {Item : Type 0} → Rules Item → List Item → Type 0
HaveOneEnd {Item} g items = (n : ℕ) (x : Item) → slice_get items n ≡ Some x → (g.rank_of x ≡ end_rank g) ↔ (n + 1 ≡ length items)

-- where all sections up to a rank are single and must be there, the item at the place of that number is of that rank
abbrev pub HaveSinglesInFront : {Item : Type 0} → Rules Item → List Item → Type 0
HaveSinglesInFront {Item} g items =
    (rank : ℕ) → rank ≤ end_rank g →
    ((k : ℕ) → k ≤ rank → (is_single (slice_get g.sections k) ≡ true) × (is_needed (slice_get g.sections k) ≡ true)) →
    (x : Item) × (slice_get items rank ≡ Some x) × (g.rank_of x ≡ rank)

-- how the items of an accepted text follow each other
pub record AreInOrder {Item : Type 0} (g : Rules Item) (items : List Item) : Type 0 where
  pub passed : HavePassed g items
  pub no_twins : HaveNoTwins g items
  pub rising_ranks : HaveRisingRanks g items
  pub rising_keys : HaveRisingKeys g items
  pub singles_once : HaveSinglesOnce g items
  pub needed : HaveNeeded g items
  pub limits : KeepLimits g items
  pub one_end : HaveOneEnd g items
  pub singles_in_front : HaveSinglesInFront g items
