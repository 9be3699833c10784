-- Where both orders of a pair end, and the shortest list that shows that it fails at a state.
use Rattle.std.specs.Prelude.{◌≡◌, ℕ, ◌<◌, ◌≤◌, ◌==◌, ◌&&◌, ◌||◌, Bool, true, false, List, [], ◌∷◌, length, nat_lt, Option, None, Some, IfSome, Vec, if◌then◌else◌}
use Rattle.std.specs.Option.{option_map}
use Rattle.std.specs.declared.alloc.Global.{Global}
use Rattle.type_table.specs.Run.{run, Looks, AreEqui}
use Rattle.type_table.specs.Table.{Table}
use Rattle.type_table.specs.declared.table_kind.TableKind.{TableKind}
use Rattle.type_table.specs.declared.table_kind.TableKind.TheVariants.{Undo, Intentions}
use Rattle.exact_tables.specs.Tell.{comes_before}
use Rattle.pair_needs.specs.Witnesses.{IsAsked, PartsBy, Shows}
use Rattle.pair_needs.specs.declared.ends.Pair.{Pair}
use Rattle.pair_needs.specs.declared.ends.Ends.{Ends}
use Rattle.pair_needs.specs.declared.ends.Shown.{Shown}

-- operations of the table
pub record IsPair (T : Table) (pair : Pair) : Type 0 where
  pub requested : pair.p < length T.ops
  pub held : pair.q < length T.ops

-- something is asked of the pair at s, and these are the ends
pub record AreEnds (T : Table) (pair : Pair) (s : ℕ) (ends : Ends) : Type 0 where
  pub asked : IsAsked pair.kind T pair.p pair.q s
  pub held_first : run T (Some s) (pair.q ∷ pair.p ∷ []) ≡ ends.held_first
  pub requested_first : run T (Some s) (pair.p ∷ pair.q ∷ []) ≡ ends.requested_first
  pub held_inside : IfSome ends.held_first (λ t. t < T.states)
  pub requested_inside : IfSome ends.requested_first (λ t. t < T.states)

-- what the kind needs of two ends
abbrev pub AreAlike : TableKind → Table → Option ℕ → Option ℕ → Type 0
AreAlike Undo T x y = Looks T x y
AreAlike Intentions T x y = AreEqui T x y

-- so many operations part the two ends, and no fewer
pub record IsLeastParting (kind : TableKind) (T : Table) (x y : Option ℕ) (n : ℕ) : Type 0 where
  pub held_first : Bool
  pub list : List ℕ
  pub parts : PartsBy kind T held_first x y list
  pub long : length list ≡ n
  pub least : (h : Bool) (r : List ℕ) → PartsBy kind T h x y r → n ≤ length r

-- and so many show that the pair fails at s
pub record IsLeastShown (kind : TableKind) (T : Table) (p q s n : ℕ) : Type 0 where
  pub held_first : Bool
  pub list : List ℕ
  pub shows : Shows kind T p q s held_first list
  pub long : length list ≡ n
  pub least : (h : Bool) (r : List ℕ) → Shows kind T p q s h r → n ≤ length r

-- the list parts the two ends, none that does is shorter, and none as long that does comes before it; where q and then p serves as well,
-- it is that
pub record IsFirstParting (kind : TableKind) (T : Table) (x y : Option ℕ) (shown : Shown) : Type 0 where
  pub parts : PartsBy kind T shown.held_first x y shown.tell.items
  pub shortest : (h : Bool) (r : List ℕ) → PartsBy kind T h x y r → length shown.tell.items ≤ length r
  pub first : (h : Bool) (r : List ℕ) → PartsBy kind T h x y r → length r ≡ length shown.tell.items → comes_before r shown.tell.items ≡ false
  pub prefers : PartsBy kind T true x y shown.tell.items → shown.held_first ≡ true

-- and shows that the pair fails at s
pub record IsFirstShown (kind : TableKind) (T : Table) (p q s : ℕ) (shown : Shown) : Type 0 where
  pub shows : Shows kind T p q s shown.held_first shown.tell.items
  pub shortest : (h : Bool) (r : List ℕ) → Shows kind T p q s h r → length shown.tell.items ≤ length r
  pub first : (h : Bool) (r : List ℕ) → Shows kind T p q s h r → length r ≡ length shown.tell.items → comes_before r shown.tell.items ≡ false
  pub prefers : Shows kind T p q s true shown.tell.items → shown.held_first ≡ true

-- ---- the lesser of two, where there are any

abbrev pub lesser_of : Option ℕ → Option ℕ → Option ℕ
lesser_of None b = b
lesser_of (Some a) None = Some a
lesser_of (Some a) (Some b) = Some (if nat_lt b a then b else a)

-- w is shorter than v, or as long and before it in ascending order
abbrev pub is_later : List ℕ → List ℕ → Bool
is_later v w = nat_lt (length w) (length v) || (length w == length v && comes_before w v)

abbrev pub shown_as : Bool → Vec ℕ Global → Shown
shown_as held_first tell = record { held_first = held_first; tell = tell }

abbrev pub first_shown : Option (Vec ℕ Global) → Option (Vec ℕ Global) → Option Shown
first_shown None w = option_map (shown_as false) w
first_shown (Some v) None = Some (shown_as true v)
first_shown (Some v) (Some w) = Some (if is_later v.items w.items then shown_as false w else shown_as true v)
