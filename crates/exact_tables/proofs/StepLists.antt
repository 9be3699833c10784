-- The lists of the states from which operations lead to states.
use Rattle.std.proofs.Common.{◌≡◌, ◌⊎◌, ◌↔◌, ℕ, ◌+◌, ◌*◌, ◌<◌, List, [], ◌∷◌, ◌++◌, length, set, get_or, replicate, Some, None, refl, sym, ap, ◌∙◌, inl, inr, arith}
use Rattle.std.specs.List.{slice_get}
use Rattle.std.specs.Prelude.{Vec}
use Rattle.std.specs.declared.alloc.Global.{Global}
use Rattle.std.proofs.lemmas.Bool.{cases_lt}
use Rattle.std.proofs.lemmas.List.{get_or-set_same, get_or-set_other, get_or-replicate, get_or_past, length-set, length-replicate, get_or-map}
use Rattle.std.proofs.lemmas.Nat.{mul-add-lt, same_from_place}
use Rattle.std.proofs.lemmas.Option.{none-some, same_Some, slice_get-get_or}
use Rattle.type_table.specs.Table.{Table, IsTable, next}
use Rattle.type_table.specs.Laws.{StepsWithin}
use Rattle.type_table.proofs.Elements.{found-front, found-last, cases-more}
use Rattle.exact_tables.specs.Predecessors.{IsAmong, lists_of, HaveSteps}
use Rattle.exact_tables.proofs.Strikes.{same_pair}

-- the same steps, said otherwise
pub steps-same : (T : Table) (P Q : ℕ → ℕ → Type 0) (lists : List (List ℕ)) → HaveSteps T P lists → ((s k : ℕ) → k < length T.ops → P s k → Q s k) → ((s k : ℕ) → k < length T.ops → Q s k → P s k) → HaveSteps T Q lists
steps-same T P Q lists h to from = record {
  whole = h.whole;
  each = λ t k s t_in k_in. (
    λ there. let was = (h.each t k s t_in k_in).0 there in (to s k k_in was.0, was.1),
    λ is. (h.each t k s t_in k_in).1 (from s k k_in is.0, is.1),
  );
}

-- none yet
pub steps-none : (T : Table) (n : ℕ) (lists : List (List ℕ)) → lists ≡ replicate n [] → n ≡ T.states * length T.ops → HaveSteps T (λ s k. ⊥) lists
steps-none T n lists empty many = record {
  whole = ap length empty ∙ length-replicate n [] ∙ many;
  each = λ t k s t_in k_in. (
    λ there. absurd (none-some s (sym (ap (λ xs. slice_get xs there.0) (nothing (t * length T.ops + k))) ∙ there.1)),
    λ is. absurd is.0,
  );
}
  where
    nothing : (i : ℕ) → get_or lists i [] ≡ []
    nothing i = ap (λ l. get_or l i []) empty ∙ elim (cases_lt i n) [
      | inl inside ↦ get_or-replicate n i [] [] inside
      | inr past ↦ get_or_past (replicate n []) i [] (omega (arith, past, length-replicate {A = List ℕ} n []))
    ]

-- the steps of the states before s, and those of s by the operations before k
abbrev pub IsBefore : ℕ → ℕ → ℕ → ℕ → Type 0
IsBefore s k a j = (a < s) ⊎ ((a ≡ s) × (j < k))

before-more : (s k a j : ℕ) → IsBefore s k a j → IsBefore s (k + 1) a j
before-more s k a j (inl below) = inl below
before-more s k a j (inr here) = inr (here.0, omega (arith, here.1))

-- one operation more: before it, or this one
before-cases : (s k a j : ℕ) → IsBefore s (k + 1) a j → IsBefore s k a j ⊎ ((a ≡ s) × (j ≡ k))
before-cases s k a j (inl below) = inl (inl below)
before-cases s k a j (inr here) =
    elim (cases_lt j k) [
      | inl below ↦ inl (inr (here.0, below))
      | inr past ↦ inr (here.0, omega (arith, past, here.1))
    ]

-- an operation that isn't legal in s
pub steps-skip : (T : Table) (s k : ℕ) (lists : List (List ℕ)) → next T s k ≡ None → HaveSteps T (IsBefore s k) lists → HaveSteps T (IsBefore s (k + 1)) lists
steps-skip T s k lists none h = record {
  whole = h.whole;
  each = λ t j a t_in j_in. (
    λ there. let was = (h.each t j a t_in j_in).0 there in (before-more s k a j was.0, was.1),
    λ is. elim (before-cases s k a j is.0) [
      | inl before ↦ (h.each t j a t_in j_in).1 (before, is.1)
      | inr here ↦ absurd (none-some t (sym none ∙ sym (step here.0 here.1) ∙ is.1))
    ],
  );
}
  where
    step : {a j : ℕ} → a ≡ s → j ≡ k → next T a j ≡ next T s k
    step first second = rw (first, second) refl

-- one that leads to t
pub steps-put : (T : Table) (s k t : ℕ) (lists : List (List ℕ)) → t < T.states → k < length T.ops → next T s k ≡ Some t → HaveSteps T (IsBefore s k) lists →
    HaveSteps T (IsBefore s (k + 1)) (set lists (t * length T.ops + k) (get_or lists (t * length T.ops + k) [] ++ s ∷ []))
steps-put T s k t lists t_in k_in leads h = record {
  whole = length-set lists (t * length T.ops + k) _ ∙ h.whole;
  each = λ u j a u_in j_in. elim (same_pair u j t k) [
    | inl both ↦ (
      λ there. elim (cases-more (get_or lists (t * length T.ops + k) []) s there.0 a (rw (here u j both.0 both.1) at there.1)) [
        | inl before ↦ let was = (h.each t k a t_in k_in).0 (there.0, before) in (before-more s k a j (rw both.1 (was.0)), rw (both.0, both.1) (was.1))
        | inr new ↦ (inr (sym new.1, omega (arith, both.1)), rw (both.0, both.1, sym new.1) leads)
      ],
      λ is. elim (before-cases s k a j is.0) [
        | inl before ↦
            let was = (h.each t k a t_in k_in).1 (rw both.1 at before, rw (both.0, both.1) at is.1) in
            (was.0, rw (here u j both.0 both.1) (found-front (get_or lists (t * length T.ops + k) []) (s ∷ []) was.0 a was.1))
        | inr now ↦ (length (get_or lists (t * length T.ops + k) []), rw (here u j both.0 both.1, now.0) (found-last (get_or lists (t * length T.ops + k) []) s))
      ],
    )
    | inr other ↦ (
      λ there. let was = (h.each u j a u_in j_in).0 (there.0, rw (elsewhere u j j_in other) at there.1) in (before-more s k a j was.0, was.1),
      λ is. elim (before-cases s k a j is.0) [
        | inl before ↦ let was = (h.each u j a u_in j_in).1 (before, is.1) in (was.0, rw (elsewhere u j j_in other) was.1)
        | inr now ↦ absurd (other (same_Some u t (sym is.1 ∙ rw (now.0, now.1) leads), now.1))
      ],
    )
  ];
}
  where
    fits : t * length T.ops + k < length lists
    fits = omega (arith, h.whole, mul-add-lt t (length T.ops) k T.states t_in k_in)

    here : (u j : ℕ) → u ≡ t → j ≡ k → get_or (set lists (t * length T.ops + k) (get_or lists (t * length T.ops + k) [] ++ s ∷ [])) (u * length T.ops + j) [] ≡ get_or lists (t * length T.ops + k) [] ++ s ∷ []
    here u j first second = rw (first, second) (get_or-set_same lists (t * length T.ops + k) _ [] fits)

    elsewhere : (u j : ℕ) → j < length T.ops → ((u ≡ t) × (j ≡ k) → ⊥) → get_or (set lists (t * length T.ops + k) (get_or lists (t * length T.ops + k) [] ++ s ∷ [])) (u * length T.ops + j) [] ≡ get_or lists (u * length T.ops + j) []
    elsewhere u j j_in other = get_or-set_other lists (t * length T.ops + k) (u * length T.ops + j) _ [] (λ e. other (same_from_place u j t k (length T.ops) j_in k_in e))

-- ---- reading a list

-- the list at a place
pub read-list : (lists : List (Vec ℕ Global)) (i : ℕ) (list : Vec ℕ Global) → i < length lists → list ≡ get_or lists i list → get_or (lists_of lists) i [] ≡ list.items
read-list lists i list inside read = get_or-map (λ (l : Vec ℕ Global). l.items) lists i list [] inside ∙ ap (λ (l : Vec ℕ Global). l.items) (sym read)

-- it has the states from which the operation leads to the state
pub listed-steps : StepsWithin → (T : Table) (lists : List (List ℕ)) (xs : List ℕ) (t k : ℕ) → IsTable T → HaveSteps T (λ s j. s < T.states) lists → t < T.states → k < length T.ops →
    xs ≡ get_or lists (t * length T.ops + k) [] → (s : ℕ) → IsAmong xs s ↔ (next T s k ≡ Some t)
listed-steps within T lists xs t k table h t_in k_in shown s = (
  λ there. ((h.each t k s t_in k_in).0 (there.0, ap (λ l. slice_get l there.0) (sym shown) ∙ there.1)).1,
  λ leads. let is = (h.each t k s t_in k_in).1 ((within T s k t table leads).0, leads) in (is.0, ap (λ l. slice_get l is.0) shown ∙ is.1),
)

-- which are states
pub listed-inside : (T : Table) (lists : List (List ℕ)) (xs : List ℕ) (t k : ℕ) → HaveSteps T (λ s j. s < T.states) lists → t < T.states → k < length T.ops →
    xs ≡ get_or lists (t * length T.ops + k) [] → (i d : ℕ) → i < length xs → get_or xs i d < T.states
listed-inside T lists xs t k h t_in k_in shown i d inside =
    ((h.each t k (get_or xs i d) t_in k_in).0 (i, ap (λ l. slice_get l i) (sym shown) ∙ slice_get-get_or xs i d inside)).0
