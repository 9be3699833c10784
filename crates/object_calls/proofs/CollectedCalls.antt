-- Calls that are collected operation by operation.
use Rattle.std.proofs.Common.{◌≡◌, ℕ, ◌*◌, ◌^◌, ◌%◌, ◌<◌, ◌≤◌, true, false, ◌&&◌, eqb, ltb, List, [], ◌∷◌, ◌++◌, length, get_or, set, Some, None, ◌≢◌, bit_or, w64, refl, sym, ap, subst, ◌∙◌, inl, inr, arith}
use Rattle.std.specs.Prelude.{slice_get}
use Rattle.std.specs.List.{position}
use Rattle.std.specs.Int.{bit_at}
use Rattle.std.specs.Str.{bytes_eq}
use Rattle.std.proofs.lemmas.Bool.{cases_lt, cases_eq, lt-ltb, le-ltb, and_left, and_right, false_from_ne_true}
use Rattle.std.proofs.lemmas.List.{length_push, get_or_append_left, get_or_push}
use Rattle.std.proofs.lemmas.Nat.{one_shl}
use Rattle.std.proofs.lemmas.Nat.Bits.{bit_at_set_same, bit_at_set_other, bit_at-pow_same, bit_at-pow_other}
use Rattle.std.proofs.lemmas.Option.{none-some, same_Some, slice_get-get_or, slice_get_read, get_or_from_slice_get}
use Rattle.std.proofs.lemmas.Slice.Eq.{bytes_eq-Decides}
use Rattle.type_table.proofs.Elements.{cases-more}
use Rattle.object_calls.specs.declared.call.NamedCall.{NamedCall}
use Rattle.object_calls.specs.Collected.{has_name, call_index, IsCallOf, AreCallsOf}
use Rattle.object_calls.proofs.FirstPlaces.{place_within, place_passes, place_stays, place_pushed, missing_fails, missing_pushed, missing_before, missing_last, position-set, at_written}

-- ---- which operations have a name

-- there is none from the number of operations on
past_all : (names : List (List ℕ)) (x : List ℕ) (q : ℕ) → length names ≤ q → has_name names x q ≡ false
past_all names x q past = and_left (ltb q (length names)) (bytes_eq (get_or names q []) x) (le-ltb q (length names) past)

-- none has a name that isn't found
nobody : (names : List (List ℕ)) (x : List ℕ) (q : ℕ) → position (λ other. bytes_eq other x) names ≡ None → has_name names x q ≡ false
nobody names x q none =
    elim (cases_lt q (length names)) [
      | inl below ↦
          let at : slice_get names q ≡ Some (get_or names q []) = slice_get-get_or names q [] below in
          and_right (ltb q (length names)) (bytes_eq (get_or names q []) x) (missing_fails (λ other. bytes_eq other x) names q (get_or names q []) none at)
      | inr past ↦ past_all names x q past
    ]

-- with one operation more
module _ (names : List (List ℕ)) (name x : List ℕ) where
  -- the others have the names that they had
  has_name-others : (q : ℕ) → q ≢ length names → has_name (names ++ name ∷ []) x q ≡ has_name names x q
  has_name-others q other =
      elim (cases_lt q (length names)) [
        | inl below ↦
            ap (λ b. b && bytes_eq (get_or (names ++ name ∷ []) q []) x) (lt-ltb q (length (names ++ name ∷ [])) (omega (arith, below, length_push names name)) ∙ sym (lt-ltb q (length names) below))
            ∙ ap (λ n. ltb q (length names) && bytes_eq n x) (get_or_append_left names (name ∷ []) [] q below)
        | inr past ↦ past_all (names ++ name ∷ []) x q (omega (arith, past, other, length_push names name)) ∙ sym (past_all names x q past)
      ]

  -- and the last has this name
  has_name-last : has_name (names ++ name ∷ []) x (length names) ≡ bytes_eq name x
  has_name-last =
      ap (λ b. b && bytes_eq (get_or (names ++ name ∷ []) (length names) []) x) (lt-ltb (length names) (length (names ++ name ∷ [])) (omega (arith, length_push names name)))
      ∙ ap (λ n. bytes_eq n x) (get_or_push names name [] (length names) refl)

-- ---- what becomes of one call

-- with the bit of one operation more
abbrev pub with_operation : NamedCall → ℕ → NamedCall
with_operation n k = record { name = n.name; call = record { first = n.call.first; operations = bit_or n.call.operations (1 * 2 ^ k % 2 ^ 64) } }

-- a call that begins with this operation
abbrev pub begun : List ℕ → ℕ → NamedCall
begun name k = record { name = name; call = record { first = k; operations = 1 * 2 ^ k % 2 ^ 64 } }

-- the operation after these has this name
module _ (names : List (List ℕ)) (name : List ℕ) where
  -- it is none of a call of another name
  other_stays : (n : NamedCall) → IsCallOf names n → bytes_eq name n.name ≡ false → IsCallOf (names ++ name ∷ []) n
  other_stays n call apart =
      record {
        named = call.named;
        first = place_stays (λ other. bytes_eq other n.name) names name n.call.first call.first;
        operations = λ q low.
            call.operations q low
            ∙ elim (cases_eq q (length names)) [
              | inl same ↦
                  past_all names n.name q (omega (arith, same)) ∙ sym apart ∙ sym (has_name-last names name n.name)
                  ∙ ap (has_name (names ++ name ∷ []) n.name) (sym same)
              | inr other ↦ sym (has_name-others names name n.name q other)
            ];
      }

  module _ (k : ℕ) (is_k : length names ≡ k) (low_k : k < 64) where
    -- the same where its number is given
    has_name-now : (x : List ℕ) → bytes_eq name x ≡ true → has_name (names ++ name ∷ []) x k ≡ true
    has_name-now x same = ap (has_name (names ++ name ∷ []) x) (sym is_k) ∙ has_name-last names name x ∙ same

    -- and of each other number
    has_name-before : (x : List ℕ) (q : ℕ) → q ≢ k → has_name (names ++ name ∷ []) x q ≡ has_name names x q
    has_name-before x q other = has_name-others names name x q (λ same. other (same ∙ is_k))

    -- it is one of the call of its name
    known_grows : (n : NamedCall) → IsCallOf names n → bytes_eq name n.name ≡ true → IsCallOf (names ++ name ∷ []) (with_operation n k)
    known_grows n call same =
        record {
          named = call.named;
          first = place_stays (λ other. bytes_eq other n.name) names name n.call.first call.first;
          operations = λ q low.
              elim (cases_eq q k) [
                | inl here ↦
                    ap (λ i. eqb (bit_at (with_operation n k).call.operations i) 1) here
                    ∙ ap (λ b. eqb b 1) (bit_at_set_same w64 n.call.operations k low_k)
                    ∙ sym (has_name-now n.name same) ∙ ap (has_name (names ++ name ∷ []) n.name) (sym here)
                | inr other ↦
                    ap (λ b. eqb b 1) (bit_at_set_other w64 n.call.operations k low_k q other)
                    ∙ call.operations q low ∙ sym (has_name-before n.name q other)
              ];
        }

    -- or the first of its call
    first_begins : ltb 0 (length name) ≡ true → position (λ other. bytes_eq other name) names ≡ None → IsCallOf (names ++ name ∷ []) (begun name k)
    first_begins named none =
        let itself : bytes_eq name name ≡ true = (bytes_eq-Decides name name).1 refl in
        let word : 1 * 2 ^ k % 2 ^ 64 ≡ 2 ^ k = one_shl k 64 low_k in
        record {
          named = named;
          first = place_pushed (λ other. bytes_eq other name) names name none itself ∙ ap Some is_k;
          operations = λ q low.
              ap (λ w. eqb (bit_at w q) 1) word
              ∙ elim (cases_eq q k) [
                | inl here ↦
                    ap (λ i. eqb (bit_at (2 ^ k) i) 1) here ∙ ap (λ b. eqb b 1) (bit_at-pow_same k)
                    ∙ sym (has_name-now name itself) ∙ ap (has_name (names ++ name ∷ []) name) (sym here)
                | inr other ↦
                    ap (λ b. eqb b 1) (bit_at-pow_other k q other)
                    ∙ sym (nobody names name q none) ∙ sym (has_name-before name q other)
              ];
        }

-- ---- what becomes of all of them

module _ (names : List (List ℕ)) (calls : List NamedCall) (h : AreCallsOf names calls) (name : List ℕ) where
  -- where the call of this name is known, at i
  module _ (i : ℕ) (found : call_index calls name ≡ Some i) (n : NamedCall) (read : n ≡ get_or calls i n) where
    -- it is there
    at : slice_get calls i ≡ Some n
    at = slice_get_read calls (length calls) i n refl (place_within (λ m. bytes_eq m.name name) calls i found) read

    -- and has the name
    same_name : n.name ≡ name
    same_name = (bytes_eq-Decides n.name name).0 (place_passes (λ m. bytes_eq m.name name) calls i n found at)

    -- another call has another name
    apart_at : (j : ℕ) (e : NamedCall) → j ≢ i → slice_get calls j ≡ Some e → bytes_eq name e.name ≡ false
    apart_at j e other is_e =
        false_from_ne_true (bytes_eq name e.name)
        (λ same. other (same_Some j i (sym (h.once j e is_e) ∙ ap (call_index calls) (sym ((bytes_eq-Decides name e.name).0 same)) ∙ found)))

    -- the same names are found at the same places
    places_stay : (k : ℕ) (x : List ℕ) → call_index (set calls i (with_operation n k)) x ≡ call_index calls x
    places_stay k x =
        position-set (λ m. bytes_eq m.name x) calls i (with_operation n k)
        (ap (λ (m : NamedCall). bytes_eq m.name x) (sym (get_or_from_slice_get calls i n (with_operation n k) at)))

    -- so it takes the operation
    pub known_is_added : (k : ℕ) → length names ≡ k → k < 64 → AreCallsOf (names ++ name ∷ []) (set calls i (with_operation n k))
    known_is_added k is_k low_k =
        record {
          each = λ j e is_e.
              elim (at_written calls i (with_operation n k) j e is_e) [
                | inl here ↦
                    subst (λ m. IsCallOf (names ++ name ∷ []) m) (sym here.1)
                    (known_grows names name k is_k low_k n (h.each i n at) ((bytes_eq-Decides name n.name).1 (sym same_name)))
                | inr other ↦ other_stays names name e (h.each j e other.1) (apart_at j e other.0 other.1)
              ];
          once = λ j e is_e.
              places_stay k e.name
              ∙ elim (at_written calls i (with_operation n k) j e is_e) [
                | inl here ↦ ap (λ (m : NamedCall). call_index calls m.name) here.1 ∙ h.once i n at ∙ ap Some (sym here.0)
                | inr other ↦ h.once j e other.1
              ];
          all = λ x none.
              let before : call_index calls x ≡ None = sym (places_stay k x) ∙ none in
              missing_pushed (λ other. bytes_eq other x) names name (h.all x before)
              (false_from_ne_true (bytes_eq name x) (λ same. none-some i (sym before ∙ ap (call_index calls) (sym ((bytes_eq-Decides name x).0 same)) ∙ found)));
        }

  -- where it isn't known, the operation begins it
  module _ (none : call_index calls name ≡ None) (named : ltb 0 (length name) ≡ true) (k : ℕ) where
    pub first_is_added : length names ≡ k → k < 64 → AreCallsOf (names ++ name ∷ []) (calls ++ begun name k ∷ [])
    first_is_added is_k low_k =
        record {
          each = λ j e is_e.
              elim (cases-more calls (begun name k) j e is_e) [
                | inl before ↦
                    other_stays names name e (h.each j e before)
                    (false_from_ne_true (bytes_eq name e.name)
                    (λ same. none-some j (sym none ∙ ap (call_index calls) ((bytes_eq-Decides name e.name).0 same) ∙ h.once j e before)))
                | inr last ↦ subst (λ m. IsCallOf (names ++ name ∷ []) m) last.1 (first_begins names name k is_k low_k named (h.all name none))
              ];
          once = λ j e is_e.
              elim (cases-more calls (begun name k) j e is_e) [
                | inl before ↦ place_stays (λ m. bytes_eq m.name e.name) calls (begun name k) j (h.once j e before)
                | inr last ↦
                    ap (λ (m : NamedCall). call_index (calls ++ begun name k ∷ []) m.name) (sym last.1)
                    ∙ place_pushed (λ m. bytes_eq m.name name) calls (begun name k) none ((bytes_eq-Decides name name).1 refl)
                    ∙ ap Some (sym last.0)
              ];
          all = λ x missing.
              missing_pushed (λ other. bytes_eq other x) names name
              (h.all x (missing_before (λ m. bytes_eq m.name x) calls (begun name k) missing))
              (missing_last (λ m. bytes_eq m.name x) calls (begun name k) missing);
        }
