-- A loop looks at one object of a list after another.
use Rattle.std.proofs.Common.{◌≡◌, ℕ, ◌+◌, ◌<◌, ◌≤◌, List, length, take, get_or, Some, slice_get, refl, sym, subst}
use Rattle.std.specs.List.{AllByRecursion}
use Rattle.std.proofs.lemmas.List.{take_all}
use Rattle.std.proofs.lemmas.Option.{slice_get_read}
use Rattle.type_table.proofs.Elements.{each-push, take-found}

module _ {E : Type 0} (P : E → Type 0) (items seen : List E) (same : seen ≡ items) where
  -- one more
  pub scan-more : (i : ℕ) (x : E) → i < length seen → x ≡ get_or seen i x → AllByRecursion P (take i items) → P x → AllByRecursion P (take (i + 1) items)
  scan-more i x low is before here =
      let found : slice_get items i ≡ Some x = subst (λ (xs : List E). slice_get xs i ≡ Some x) same (slice_get_read seen _ i x refl low is) in
      subst (AllByRecursion P) (sym (take-found items i x found)) (each-push P (take i items) x before here)

  -- all
  pub scan-all : (i : ℕ) → length seen ≤ i → AllByRecursion P (take i items) → AllByRecursion P items
  scan-all i past before =
      let end : length items ≤ i = subst (λ (xs : List E). length xs ≤ i) same past in
      subst (AllByRecursion P) (take_all i items end) before
