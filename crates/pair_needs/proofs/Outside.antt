-- The states of a set to which no list leads.
use Rattle.std.proofs.Common.{◌≡◌, ℕ, zero, suc, ◌+◌, ◌<◌, ◌&&◌, not, Bool, true, false, ltb, List, [], ◌∷◌, length, set, refl, sym, ap, ◌∙◌, subst, inl, inr, arith}
use Rattle.std.specs.List.{list_any}
use Rattle.std.proofs.lemmas.Bool.{true≢false, cases_lt, cases_eq, cases_Bool, lt-ltb, le-ltb, and_parts, and_from, and_left, and_right, not_from_false, not_from_true, or_right}
use Rattle.std.proofs.lemmas.List.{get_or-set_same, get_or-set_other, length-set}
use Rattle.type_table.specs.StateSet.{has}
use Rattle.type_table.specs.declared.table_kind.TableKind.{TableKind}
use Rattle.declared_types.specs.declared.type_file.TypeFile.{TypeFile}
use Rattle.pair_needs.specs.Explainers.{IsWithin}
use Rattle.pair_needs.specs.Leads.{IsLedSet}
use Rattle.pair_needs.specs.Mends.{IsTooLarge}

-- ---- the difference of two sets

-- of the states below n
pub record IsPart (first second : List Bool) (n : ℕ) (members : List Bool) (some : Bool) : Type 0 where
  pub whole : length members ≡ length first
  pub each : (t : ℕ) → has members t ≡ (ltb t n && (has first t && not (has second t)))
  pub any : some ≡ true → list_any (λ member. member) members ≡ true
  pub none : some ≡ false → (t : ℕ) → t < n → has first t ≡ true → has second t ≡ true

any-set : (members : List Bool) (s : ℕ) → s < length members → list_any (λ member. member) (set members s true) ≡ true
any-set [] s inside = absurd (omega (arith, inside))
any-set (m ∷ members) zero inside = refl
any-set (m ∷ members) (suc s) inside = or_right m _ (any-set members s (omega (arith, inside)))

-- another number is below n + 1 where it is below n
below-other : (t n : ℕ) → (t ≡ n → ⊥) → ltb t n ≡ ltb t (n + 1)
below-other t n other =
    elim (cases_lt t n) [
      | inl low ↦ lt-ltb t n low ∙ sym (lt-ltb t (n + 1) (omega (arith, low)))
      | inr past ↦ le-ltb t n past ∙ sym (le-ltb t (n + 1) (elim (cases_lt n t) [
        | inl above ↦ omega (arith, above)
        | inr under ↦ let same : t ≡ n = omega (arith, past, under) in absurd (other same)
      ]))
    ]

-- one more state, which is of the first alone
pub part-add : (first second : List Bool) (n : ℕ) (members : List Bool) (some : Bool) → n < length first → has first n ≡ true → has second n ≡ false →
    IsPart first second n members some → IsPart first second (n + 1) (set members n true) true
part-add first second n members some inside member outside h = record {
  whole = length-set members n true ∙ h.whole;
  each = λ t. elim (cases_eq t n) [
    | inl same ↦ rw same (get_or-set_same members n true false (rw (h.whole) inside) ∙ sym (and_from (ltb n (n + 1)) _ (lt-ltb n (n + 1) (omega arith)) (and_from (has first n) _ member (not_from_false (has second n) outside))))
    | inr other ↦ get_or-set_other members n t true false other ∙ h.each t ∙ ap (λ (b : Bool). b && (has first t && not (has second t))) (below-other t n other)
  ];
  any = λ yes. any-set members n (rw (h.whole) inside);
  none = λ no. absurd (true≢false no);
}

-- or which isn't
pub part-skip : (first second : List Bool) (n : ℕ) (members : List Bool) (some : Bool) → (has first n ≡ true → has second n ≡ true) →
    IsPart first second n members some → IsPart first second (n + 1) members some
part-skip first second n members some leads h = record {
  whole = h.whole;
  each = λ t. elim (cases_eq t n) [
    | inl same ↦ rw same (h.each n ∙ and_left (ltb n n) _ (le-ltb n n (omega arith)) ∙ sym (and_right (ltb n (n + 1)) _ never))
    | inr other ↦ h.each t ∙ ap (λ (b : Bool). b && (has first t && not (has second t))) (below-other t n other)
  ];
  any = h.any;
  none = λ no t low member. elim (cases_lt t n) [
    | inl under ↦ h.none no t under member
    | inr past ↦
        let here : t ≡ n = omega (arith, low, past) in
        subst (λ (z : ℕ). has second z ≡ true) (sym here) (leads (subst (λ (z : ℕ). has first z ≡ true) here member))
  ];
}
  where
    never : (has first n && not (has second n)) ≡ false
    never =
        elim (cases_Bool (has first n)) [
          | inl member ↦ and_right (has first n) _ (not_from_true (has second n) (leads member))
          | inr absent ↦ and_left (has first n) _ absent
        ]

-- ---- failing outside

-- no state fails outside where there is none
pub within-small : (kind : TableKind) (file : TypeFile) (led : List Bool) (p q : ℕ) → IsLedSet file.table led → IsWithin file.reach led → IsTooLarge kind file p q → ⊥
within-small kind file led p q is_led within large =
    large.not_led ((is_led.each large.state).0 (within large.state (and_parts (has file.reach large.state) _ large.fails).0))
