-- Whether each yes is strong, at the states that were kept and where objects are added.
use Rattle.std.proofs.Common.{◌≡◌, ◌↔◌, ℕ, suc, Bool, true, List, [], ◌∷◌, ◌++◌, length, Some, slice_get, subst, inl, inr}
use Rattle.std.proofs.lemmas.Option.{none-some}
use Rattle.table_checker.specs.At.{AtIsStrong, checked_at}
use Rattle.table_checker.specs.Checked.{Checked, IsStrong}
use Rattle.serial_order.specs.Epochs.{Epoch, types_at}
use Rattle.serial_order.proofs.EpochTypes.{found-parts, goes-on, is-at}
use Rattle.carried_orders.specs.Orders.{AreStrong}

-- at the states that were kept, and behind them
strong-now : AtIsStrong → (types : List Checked) (kept : List ℕ) (added : List Checked) → AreStrong types → AreStrong added → AreStrong (types_at types kept ++ added)
strong-now at types kept added are more = λ x d there. elim (found-parts (types_at types kept) added x d there) [
  | inl front ↦ (let found = is-at types kept x d front in subst IsStrong found.is (at found.c found.s (are x found.c found.type)))
  | inr back ↦ more back.0 d back.1
]

-- a type is what it was at its initial state
strong-back : AtIsStrong → (c : Checked) (s : ℕ) → IsStrong (checked_at c s) → IsStrong c
strong-back at c s strong = at (checked_at c s) c.file.table.initial strong

strong-before : AtIsStrong → (types : List Checked) (kept : List ℕ) (added : List Checked) → length kept ≡ length types → AreStrong (types_at types kept ++ added) → AreStrong types
strong-before at types kept added as_many are = λ x c there.
    let epoch : Epoch = record { history = []; kept = kept; added = added } in
    let on = goes-on types epoch x c as_many there in
    strong-back at c on.s (are x (checked_at c on.s) on.behind)

-- what is behind the first list
found-behind : {A : Type 0} (xs ys : List A) (i : ℕ) (d : A) → slice_get ys i ≡ Some d → (x : ℕ) × (slice_get (xs ++ ys) x ≡ Some d)
found-behind [] ys i d there = (i, there)
found-behind (x ∷ xs) ys i d there = let rest = found-behind xs ys i d there in (suc rest.0, rest.1)

strong-added : (types added : List Checked) → AreStrong (types ++ added) → AreStrong added
strong-added types added are = λ i d there. let at = found-behind types added i d there in are at.0 d at.1

strong-none : AreStrong []
strong-none x c there = absurd (none-some c there)

-- where objects are added
pub strong-grown : AtIsStrong → (types : List Checked) (kept : List ℕ) (added : List Checked) (was now : Bool) → length kept ≡ length types → (was ≡ true) ↔ AreStrong types
    → (now ≡ true) ↔ ((was ≡ true) × AreStrong added) → (now ≡ true) ↔ AreStrong (types_at types kept ++ added)
strong-grown at types kept added was now as_many told still = (
  λ is. let both = still.0 is in strong-now at types kept added (told.0 both.0) both.1,
  λ are. still.1 (told.1 (strong-before at types kept added as_many are), strong-added (types_at types kept) added are),
)

-- and where none is
pub strong-renewed : AtIsStrong → (types : List Checked) (kept : List ℕ) (strong : Bool) → length kept ≡ length types → (strong ≡ true) ↔ AreStrong types → (strong ≡ true) ↔ AreStrong (types_at types kept ++ [])
strong-renewed at types kept strong as_many told = strong-grown at types kept [] strong strong as_many told (λ is. (is, strong-none), λ both. both.0)
