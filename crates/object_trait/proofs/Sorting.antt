-- Exchanges of neighbours: what two parts sort into, and where lists of operations lead that are sorted into each other.
use Rattle.std.proofs.Common.{◌≡◌, ℕ, Bool, true, false, not, List, [], ◌∷◌, ◌++◌, map, filter, Option, Some, inl, inr}
use Rattle.std.specs.List.{AllByRecursion}
use Rattle.std.proofs.lemmas.Bool.{cases_Bool}
use Rattle.type_table.specs.Table.{Table, next}
use Rattle.type_table.specs.Run.{run, IsLegal, Looks, AreEqui}
use Rattle.type_table.specs.StateSet.{IsClosed}
use Rattle.type_table.specs.Laws.{IsExtended, LooksExtends, EquiExtends}
use Rattle.type_table.proofs.Elements.{each-weaker, each-passes}
use Rattle.type_table.proofs.Legal.{from_state, is_there, legal_there, legal_here, related_here}
use Rattle.object_trait.specs.Orders.{Pairs, Sorts, same, swap, under, chain, SplitsInto, none, stay, goes}
use Rattle.object_trait.specs.Laws.{PartsSort, SortsLook, SortsEqui}

-- ---- two parts

-- an element moves to the end of a list whose elements it may pass
sorts_behind : {E : Type 0} {free : E → E → Bool} (b : E) (A B : List E) → AllByRecursion (λ a. free b a ≡ true) A → Sorts free (b ∷ (A ++ B)) (A ++ (b ∷ B))
sorts_behind b [] B each = same
sorts_behind b (a ∷ A) B each = chain (swap each.0) (under (sorts_behind b A B each.1))

-- a list of two parts sorts into the one that stays and then the other
parts_behind : {E : Type 0} {free : E → E → Bool} (V A B : List E) → SplitsInto free V A B → Sorts free V (A ++ B)
parts_behind _ _ _ none = same
parts_behind (_ ∷ V) (_ ∷ A) B (stay p) = under (parts_behind V A B p)
parts_behind (b ∷ V) A (_ ∷ B) (goes each p) = chain (under (parts_behind V A B p)) (sorts_behind b A B each)

-- where each that isn't mine may move after each later one of mine, the list is mine, which stay, and the others
pub parts-mine : {E : Type 0} (free : E → E → Bool) (mine : E → Bool) (V : List E) → Pairs (λ a b. mine a ≡ false → mine b ≡ true → free a b ≡ true) V →
    SplitsInto free V (filter mine V) (filter (λ x. not (mine x)) V)
parts-mine free mine [] p = none
parts-mine free mine (x ∷ V) p =
    elim (cases_Bool (mine x)) [
      | inl is ↦ rw is (stay (parts-mine free mine V p.1))
      | inr isnt ↦ rw isnt (goes (each-passes (λ b. free x b ≡ true) mine V (each-weaker (λ b here. here isnt) V p.0)) (parts-mine free mine V p.1))
    ]

-- the law of two parts
pub parts-sort : {E : Type 0} → PartsSort E
parts-sort = λ free V A B p. parts_behind V A B p

-- ---- sorted lists of operations

module _ {E : Type 0} (T : Table) (set : ℕ → Bool) (R : Option ℕ → Option ℕ → Type 0) (ext : IsExtended T R) (closed : IsClosed T set) (op : E → ℕ) where
  -- wherever a and then b is legal, b and then a is, and the two ends are in the relation
  abbrev Exchanges : E → E → Type 0
  Exchanges a b =
      (s : ℕ) → set s ≡ true → IsLegal T (Some s) (op a ∷ op b ∷ [])
      → IsLegal T (Some s) (op b ∷ op a ∷ []) × R (run T (Some s) (op a ∷ op b ∷ [])) (run T (Some s) (op b ∷ op a ∷ []))

  -- a legal list that sorts into another: that is legal too, and the two ends are in the relation
  sorted : {free : E → E → Bool} → ((a b : E) → free a b ≡ true → Exchanges a b) → (V W : List E) → Sorts free V W → (s : ℕ) → set s ≡ true → IsLegal T (Some s) (map op V) →
      IsLegal T (Some s) (map op W) × R (run T (Some s) (map op V)) (run T (Some s) (map op W))
  sorted pairs V _ same s member h = (h, ext.itself (run T (Some s) (map op V)))
  sorted pairs _ _ (swap {a} {b} {V} passes) s member h =
      let middle = from_state T (run T (Some s) (op a ∷ op b ∷ [])) (map op V) h in
      let exchanged = pairs a b passes s member (is_there (run T (Some s) (op a ∷ op b ∷ [])) middle.0 middle.1) in
      ext.after (run T (Some s) (op a ∷ op b ∷ [])) (run T (Some s) (op b ∷ op a ∷ [])) (map op V) exchanged.1 h
  sorted pairs _ _ (under {a} {V} {W} p) s member h =
      let step = from_state T (next T s (op a)) (map op V) h in
      let t = step.0 in
      let rest = sorted pairs V W p t (closed s (op a) t member step.1) (legal_there T (next T s (op a)) t (map op V) step.1 h) in
      (legal_here T (next T s (op a)) t (map op W) step.1 rest.0, related_here T R (next T s (op a)) t (map op V) (map op W) step.1 rest.1)
  sorted pairs _ _ (chain {U} {V} {W} p q) s member h =
      let first = sorted pairs U V p s member h in
      let second = sorted pairs V W q s member first.0 in
      (second.0, ext.through (run T (Some s) (map op U)) (run T (Some s) (map op V)) (run T (Some s) (map op W)) first.1 second.1)

-- what sorts looks
pub sorts-look : {E : Type 0} → LooksExtends → SortsLook E
sorts-look extends = λ T set op free s V W closed member pairs sorts. sorted T set (Looks T) (extends T) closed op pairs V W sorts s member

-- and is equieffective, in the two-way form
pub sorts-equi : {E : Type 0} → EquiExtends → SortsEqui E
sorts-equi extends = λ T set op free s V W closed member pairs sorts. sorted T set (AreEqui T) (extends T) closed op pairs V W sorts s member
