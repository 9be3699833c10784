-- The first operation of a call: the line whose call answers it first, and its number.
use Rattle.std.proofs.Common.{◌≡◌, ℕ, zero, suc, ◌*◌, ◌/◌, ◌%◌, ◌<◌, ◌≤◌, Bool, true, false, List, [], ◌∷◌, length, get_or, Option, Some, None, refl, sym, ap, ◌∙◌, subst, inl, inr, arith}
use Rattle.std.specs.List.{AllByRecursion, list_all, list_any, position, position_or_len, range_with_len}
use Rattle.std.specs.Prelude.{slice_get}
use Rattle.std.specs.Str.{bytes_eq}
use Rattle.std.proofs.lemmas.Bool.{cases_Bool, cases_lt, cond-true, cond-false, false≢true, eqb-true, eq-eqb, le-leb, le-ltb, lt-ltb, ltb-true, and_parts}
use Rattle.std.proofs.lemmas.Option.{cond_some, none-some, same_Some, get_or_from_slice_get, slice_get-get_or, slice_get_within}
use Rattle.std.proofs.lemmas.List.FromFn.{get_or-range_with_len, length-range_with_len}
use Rattle.std.proofs.lemmas.List.Folds.{list_any_at}
use Rattle.std.proofs.lemmas.List.Sums.{position_or_len_is, fails_before_first, passes_at_first}
use Rattle.std.proofs.lemmas.Slice.Eq.{bytes_eq-Decides}
use Rattle.type_table.specs.Operation.{place_of, amount_of as amount_told, amount_by, operation_at, place-of-operation, amount-of-operation}
use Rattle.type_table.specs.Table.{first_op}
use Rattle.type_table.specs.declared.op.Op.{Op}
use Rattle.type_table.proofs.Elements.{each-found, position-map}
use Rattle.number_types.specs.declared.number_call.NumberCall.{NumberCall}
use Rattle.number_types.specs.declared.number_call.NumberCall.TheVariants as calls
use Rattle.number_types.specs.declared.number_op.NumberOp.{NumberOp}
use Rattle.number_types.specs.declared.number_op.NumberOp.TheVariants.{Take, Short, Give, Full, AtLeast, Below, Value}
use Rattle.number_types.specs.Calls.{is_amount, is_below, are_ascending, amount_of}
use Rattle.number_types.specs.Number.{Number, IsNumber}
use Rattle.number_types.specs.Operations.{takes, gives, amount_for, ops_of_call, op_in, op_at, op_count, op_names, names_or_none, number_table, row_name, IsAmountOf}
use Rattle.number_types.specs.Named.{IsNamed, MayBeAsked, call_for, answers, told, IsFirstFor}
use Rattle.number_types.proofs.Tables.{passes, where_found, found, amounts_fit, below_count}

-- ---- calls and their operations

-- the call that asks for the operations of a line's call with an amount
abbrev asked_by : NumberCall → ℕ → NumberCall
asked_by (calls.Take k) n = calls.Take n
asked_by calls.TakeAny n = calls.Take n
asked_by (calls.Give k) n = calls.Give n
asked_by calls.GiveAny n = calls.Give n
asked_by (calls.AtLeast k) n = calls.AtLeast n
asked_by calls.Value n = calls.Value

-- an operation has the name of its call
pub names_alike : (op : NumberOp) → (op_names op).call ≡ row_name (call_for op)
names_alike (Take n) = refl
names_alike (Short n) = refl
names_alike (Give n) = refl
names_alike (Full n) = refl
names_alike (AtLeast n) = refl
names_alike (Below n) = refl
names_alike (Value n) = refl

-- each operation of a line is asked for by its line and its amount
ops_asked : (line : NumberCall) (n second : ℕ) (op : NumberOp) → slice_get (ops_of_call line n) second ≡ Some op → call_for op ≡ asked_by line n
ops_asked line n second op is = each-found (λ o. call_for o ≡ asked_by line n) (ops_of_call line n) second op (all line) is
  where
    all : (line : NumberCall) → AllByRecursion (λ o. call_for o ≡ asked_by line n) (ops_of_call line n)
    all (calls.Take k) = (refl, (refl, tt))
    all calls.TakeAny = (refl, (refl, tt))
    all (calls.Give k) = (refl, (refl, tt))
    all calls.GiveAny = (refl, (refl, tt))
    all (calls.AtLeast k) = (refl, (refl, tt))
    all calls.Value = (refl, tt)

-- a line's call answers what asks for an amount that it may have
answered : (v : Number) (line : NumberCall) (o : Option ℕ) (n : ℕ) → amount_for v.max line o ≡ Some n → answers v.max (asked_by line n) line ≡ true
answered v (calls.Take k) None n is = eq-eqb k n (same_Some k n is)
answered v (calls.Give k) None n is = eq-eqb k n (same_Some k n is)
answered v (calls.AtLeast k) None n is = eq-eqb k n (same_Some k n is)
answered v calls.TakeAny (Some m) n is =
    let so = where_found (is_amount v.max m) m n is in
    subst (λ k. is_amount v.max k ≡ true) so.1 so.0
answered v calls.GiveAny (Some m) n is =
    let so = where_found (is_amount v.max m) m n is in
    subst (λ k. is_amount v.max k ≡ true) so.1 so.0
answered v calls.Value (Some m) n is = refl
answered v _ _ n is = absurd (none-some n is)

-- what a line's call is told by the first of them is at most what it is told by each
told_less : (v : Number) (line : NumberCall) (o : Option ℕ) (n t : ℕ) → amount_for v.max line o ≡ Some n → told line (amount_of (asked_by line n)) ≡ Some t → (m : ℕ) × (o ≡ Some m) × (t ≤ m)
told_less v calls.TakeAny (Some m) n t is tells =
    let so = where_found (is_amount v.max m) m n is in
    (m, refl, omega (arith, so.1, same_Some n t tells))
told_less v calls.GiveAny (Some m) n t is tells =
    let so = where_found (is_amount v.max m) m n is in
    (m, refl, omega (arith, so.1, same_Some n t tells))
told_less v calls.Value (Some m) n t is tells = (m, refl, omega (arith, same_Some 0 t tells))
told_less v calls.TakeAny None n t is tells = absurd (none-some n is)
told_less v calls.GiveAny None n t is tells = absurd (none-some n is)
told_less v calls.Value None n t is tells = absurd (none-some n is)
told_less v _ _ n t is tells = absurd (none-some t tells)

-- ---- the line that answers

-- the amount with which a line's call answers
abbrev HasAmount : ℕ → NumberCall → ℕ → Type 0
HasAmount max calls.TakeAny n = is_amount max n ≡ true
HasAmount max calls.GiveAny n = is_amount max n ≡ true
HasAmount max calls.Value n = n ≡ 0
HasAmount max (calls.Take k) n = k ≡ n
HasAmount max (calls.Give k) n = k ≡ n
HasAmount max (calls.AtLeast k) n = k ≡ n

answers_with : (max : ℕ) (call line : NumberCall) → answers max call line ≡ true → (asked_by line (amount_of call) ≡ call) × HasAmount max line (amount_of call)
answers_with max (calls.Take n) (calls.Take k) h = (refl, eqb-true k n h)
answers_with max (calls.Take n) calls.TakeAny h = (refl, h)
answers_with max (calls.Give n) (calls.Give k) h = (refl, eqb-true k n h)
answers_with max (calls.Give n) calls.GiveAny h = (refl, h)
answers_with max (calls.AtLeast n) (calls.AtLeast k) h = (refl, eqb-true k n h)
answers_with max calls.Value calls.Value h = (refl, refl)
answers_with max _ _ h = absurd (false≢true h)

-- an amount with which `any` answers is listed by no line
abbrev IsUnlisted : Number → NumberCall → ℕ → Type 0
IsUnlisted v calls.TakeAny n = list_any (takes n) v.calls ≡ false
IsUnlisted v calls.GiveAny n = list_any (gives n) v.calls ≡ false
IsUnlisted v _ n = Unit {0}

-- the line's call has an operation of it
first_there : (v : Number) (line : NumberCall) (n : ℕ) → HasAmount v.max line n → (op : NumberOp) × (op_in v.max 0 (told line n) line ≡ Some op) × (call_for op ≡ asked_by line n)
first_there v (calls.Take k) n has = (Take k, refl, ap calls.Take has)
first_there v (calls.Give k) n has = (Give k, refl, ap calls.Give has)
first_there v (calls.AtLeast k) n has = (AtLeast k, refl, ap calls.AtLeast has)
first_there v calls.TakeAny n has = (Take n, rw has refl, refl)
first_there v calls.GiveAny n has = (Give n, rw has refl, refl)
first_there v calls.Value n has = (Value n, rw (le-leb n v.max (omega (arith, has))) refl, refl)

-- the first operation of a line
at_line : (v : Number) (i : ℕ) (line : NumberCall) (o : Option ℕ) → i < 128 → slice_get v.calls i ≡ Some line → op_at v (operation_at (2 * i) o) ≡ op_in v.max 0 o line
at_line v i line o low at =
    let place = place-of-operation (2 * i) o (omega (arith, low)) in
    let amount = amount-of-operation (2 * i) o (omega (arith, low)) in
    let half : 2 * i / 2 ≡ i = omega arith in
    let even : 2 * i % 2 ≡ 0 = omega arith in
    rw (place, amount, half, even, at) refl

-- ---- listed amounts

-- of calls that ascend the first of two is below the second
ascend_at : (cs : List NumberCall) (i j : ℕ) (c d : NumberCall) → are_ascending cs ≡ true → i < j → slice_get cs i ≡ Some c → slice_get cs j ≡ Some d → is_below c d ≡ true
ascend_at [] i j c d h less at_i at_j = absurd (none-some c at_i)
ascend_at (e ∷ cs) i zero c d h less at_i at_j = absurd (omega (arith, less))
ascend_at (e ∷ cs) zero (suc j) c d h less at_i at_j =
    let both = and_parts (list_all (is_below e) cs) (are_ascending cs) h in
    subst (λ x. is_below x d ≡ true) (same_Some e c at_i) (passes (is_below e) cs j d both.0 at_j)
ascend_at (e ∷ cs) (suc i) (suc j) c d h less at_i at_j =
    ascend_at cs i j c d (and_parts (list_all (is_below e) cs) (are_ascending cs) h).1 (omega (arith, less)) at_i at_j

-- a call that passes a test stands somewhere
passing_at : (p : NumberCall → Bool) (cs : List NumberCall) → list_any p cs ≡ true → (j : ℕ) × (c : NumberCall) × (slice_get cs j ≡ Some c) × (p c ≡ true)
passing_at p [] h = absurd (false≢true h)
passing_at p (c ∷ cs) h =
    elim (cases_Bool (p c)) [
      | inl passed ↦ (0, c, refl, passed)
      | inr failed ↦
          let later = passing_at p cs (rw failed at h) in
          (suc later.0, later.1, later.2, later.3)
    ]

-- a call that stands before `any`, where it is listed, isn't listed if no line before `any` lists it
none_listed : (v : Number) (i : ℕ) (any listed : NumberCall) (test : NumberCall → Bool) → IsNumber v → slice_get v.calls i ≡ Some any
    → ((c : NumberCall) → test c ≡ true → c ≡ listed) → is_below any listed ≡ false → (any ≡ listed → ⊥)
    → ((j : ℕ) → j < i → slice_get v.calls j ≡ Some listed → ⊥) → list_any test v.calls ≡ false
none_listed v i any listed test known at is_listed above other before = elim (cases_Bool (list_any test v.calls)) [
  | inr failed ↦ failed
  | inl passed ↦
      let there = passing_at test v.calls passed in
      let listed_at : slice_get v.calls there.0 ≡ Some listed = there.2 ∙ ap Some (is_listed there.1 there.3) in
      elim (cases_lt there.0 i) [
        | inl under ↦ absurd (before there.0 under listed_at)
        | inr past ↦ elim (cases_lt i there.0) [
          | inl over ↦ absurd (false≢true (sym above ∙ ascend_at v.calls i there.0 any listed known.ascending over at listed_at))
          | inr back ↦
              let same : there.0 ≡ i = omega (arith, past, back) in
              absurd (other (same_Some any listed (sym at ∙ ap (λ j. slice_get v.calls j) (sym same) ∙ listed_at)))
        ]
      ]
]

taken_is : (n : ℕ) (c : NumberCall) → takes n c ≡ true → c ≡ calls.Take n
taken_is n (calls.Take k) h = ap calls.Take (eqb-true k n h)
taken_is n _ h = absurd (false≢true h)

given_is : (n : ℕ) (c : NumberCall) → gives n c ≡ true → c ≡ calls.Give n
given_is n (calls.Give k) h = ap calls.Give (eqb-true k n h)
given_is n _ h = absurd (false≢true h)

-- an amount that one line's call is told is listed nowhere, so each other that answers the same call is told it too
same_told : (v : Number) (line other : NumberCall) (n j t : ℕ) → IsUnlisted v line n → asked_by line n ≡ asked_by other n → HasAmount v.max other n → slice_get v.calls j ≡ Some other → told line n ≡ Some t → told other n ≡ Some t
same_told v calls.TakeAny (calls.Take k) n j t free same has at tells =
    absurd (false≢true (sym free ∙ list_any_at (takes n) v.calls j (calls.Take k) (slice_get_within v.calls j (calls.Take k) at)
    (ap (takes n) (get_or_from_slice_get v.calls j (calls.Take k) (calls.Take k) at) ∙ eq-eqb k n has)))
same_told v calls.GiveAny (calls.Give k) n j t free same has at tells =
    absurd (false≢true (sym free ∙ list_any_at (gives n) v.calls j (calls.Give k) (slice_get_within v.calls j (calls.Give k) at)
    (ap (gives n) (get_or_from_slice_get v.calls j (calls.Give k) (calls.Give k) at) ∙ eq-eqb k n has)))
same_told v calls.TakeAny calls.TakeAny n j t free same has at tells = tells
same_told v calls.GiveAny calls.GiveAny n j t free same has at tells = tells
same_told v calls.Value calls.Value n j t free same has at tells = tells
same_told v _ _ n j t free same has at tells = absurd cc

-- ---- the first line

module _ (v : Number) (call : NumberCall) where
  -- no line before the first that answers does so
  none_before : (i j : ℕ) (c : NumberCall) → position (answers v.max call) v.calls ≡ Some i → j < i → slice_get v.calls j ≡ Some c → answers v.max call c ≡ false
  none_before i j c is less at =
      let place = (cond_some _ _ i is).1 in
      sym (ap (answers v.max call) (get_or_from_slice_get v.calls j c c at)) ∙ fails_before_first (answers v.max call) v.calls j c (omega (arith, place, less))

  -- and it does
  first_answers : (i : ℕ) (c : NumberCall) → position (answers v.max call) v.calls ≡ Some i → slice_get v.calls i ≡ Some c → answers v.max call c ≡ true
  first_answers i c is at =
      let found = cond_some _ _ i is in
      let within = ltb-true _ _ found.0 in
      sym (ap (answers v.max call) (get_or_from_slice_get v.calls i c c at)) ∙ ap (λ k. answers v.max call (get_or v.calls k c)) (sym found.1) ∙ passes_at_first (answers v.max call) v.calls c within

  -- none does where none is found
  none_answers : (j : ℕ) (c : NumberCall) → position (answers v.max call) v.calls ≡ None → slice_get v.calls j ≡ Some c → answers v.max call c ≡ false
  none_answers j c none at =
      let within = slice_get_within v.calls j c at in
      elim (cases_lt (position_or_len (answers v.max call) v.calls) (length v.calls)) [
        | inl below ↦ absurd (none-some _ (sym none ∙ cond-true _ _ _ (lt-ltb (position_or_len (answers v.max call) v.calls) (length v.calls) below)))
        | inr past ↦ sym (ap (answers v.max call) (get_or_from_slice_get v.calls j c c at)) ∙ fails_before_first (answers v.max call) v.calls j c (omega (arith, within, past))
      ]

  -- an amount that the first line may have as any isn't listed
  first_unlisted : IsNumber v → (i : ℕ) (line : NumberCall) → position (answers v.max call) v.calls ≡ Some i → slice_get v.calls i ≡ Some line → asked_by line (amount_of call) ≡ call → IsUnlisted v line (amount_of call)
  first_unlisted known i calls.TakeAny is at asked =
      none_listed v i calls.TakeAny (calls.Take (amount_of call)) (takes (amount_of call)) known at (taken_is (amount_of call)) refl (λ same. cc)
      (λ j less listed. false≢true (sym (none_before i j (calls.Take (amount_of call)) is less listed) ∙ answers_same asked))
    where
      answers_same : calls.Take (amount_of call) ≡ call → answers v.max call (calls.Take (amount_of call)) ≡ true
      answers_same same = subst (λ c. answers v.max c (calls.Take (amount_of call)) ≡ true) same (eq-eqb (amount_of call) (amount_of call) refl)
  first_unlisted known i calls.GiveAny is at asked =
      none_listed v i calls.GiveAny (calls.Give (amount_of call)) (gives (amount_of call)) known at (given_is (amount_of call)) refl (λ same. cc)
      (λ j less listed. false≢true (sym (none_before i j (calls.Give (amount_of call)) is less listed) ∙ answers_same asked))
    where
      answers_same : calls.Give (amount_of call) ≡ call → answers v.max call (calls.Give (amount_of call)) ≡ true
      answers_same same = subst (λ c. answers v.max c (calls.Give (amount_of call)) ≡ true) same (eq-eqb (amount_of call) (amount_of call) refl)
  first_unlisted known i (calls.Take k) is at asked = tt
  first_unlisted known i (calls.Give k) is at asked = tt
  first_unlisted known i (calls.AtLeast k) is at asked = tt
  first_unlisted known i calls.Value is at asked = tt

  -- an operation that answers is of a line that answers, and told as much
  record IsOfLine (p : ℕ) : Type 0 where
    line : NumberCall
    at : slice_get v.calls (place_of p / 2) ≡ Some line
    answer : answers v.max call line ≡ true
    told_less : (t : ℕ) → told line (amount_of call) ≡ Some t → (m : ℕ) × (amount_told p ≡ Some m) × (t ≤ m)

  of_line : (p : ℕ) (op : NumberOp) → op_at v p ≡ Some op → call_for op ≡ call → IsOfLine p
  of_line p op is asks =
      let f = found v p op is in
      let same : asked_by f.call f.n ≡ call = sym (ops_asked f.call f.n (place_of p % 2) op f.op_is) ∙ asks in
      record {
        line = f.call;
        at = f.at;
        answer = subst (λ c. answers v.max c f.call ≡ true) same (answered v f.call (amount_told p) f.n f.amount);
        told_less = λ t tells. told_less v f.call (amount_told p) f.n t f.amount (ap (λ c. told f.call (amount_of c)) same ∙ tells);
      }

  -- where no line answers no operation does
  pub none_for : position (answers v.max call) v.calls ≡ None → IsFirstFor v call None
  none_for none = record {
    of_call = tt;
    least = λ p op is asks. let other = of_line p op is asks in absurd (false≢true (sym (none_answers (place_of p / 2) other.line none other.at) ∙ other.answer));
  }

  -- the first operation of the first line that answers is the first
  pub first_for : IsNumber v → (i : ℕ) (line : NumberCall) → position (answers v.max call) v.calls ≡ Some i → slice_get v.calls i ≡ Some line → IsFirstFor v call (Some (operation_at (2 * i) (told line (amount_of call))))
  first_for known i line is at =
      let with = answers_with v.max call line (first_answers i line is at) in
      let free = first_unlisted known i line is at with.0 in
      let there = first_there v line (amount_of call) with.1 in
      let low : i < 128 = omega (arith, known.calls_fit, slice_get_within v.calls i line at) in
      record {
        of_call = (there.0, at_line v i line (told line (amount_of call)) low at ∙ there.1, there.2 ∙ with.0);
        least = λ p op is_at asks.
            let other = of_line p op is_at asks in
            let after : i ≤ place_of p / 2 = past i p is other in
            (operation_at (2 * i) (told line (amount_of call)), refl, no_less i p line with.0 free other after (told line (amount_of call)) refl);
      }
    where
      past : (i p : ℕ) → position (answers v.max call) v.calls ≡ Some i → IsOfLine p → i ≤ place_of p / 2
      past i p is other = elim (cases_lt (place_of p / 2) i) [
        | inl under ↦ absurd (false≢true (sym (none_before i (place_of p / 2) other.line is under other.at) ∙ other.answer))
        | inr over ↦ over
      ]

      parts : (p m : ℕ) → amount_told p ≡ Some m → p / 256 ≡ suc m
      parts p m is = go (p / 256) refl
        where
          go : (q : ℕ) → p / 256 ≡ q → p / 256 ≡ suc m
          go zero eq = absurd (none-some m (sym (ap amount_by eq) ∙ is))
          go (suc n) eq = eq ∙ ap suc (same_Some n m (sym (ap amount_by eq) ∙ is))

      no_less : (i p : ℕ) (line : NumberCall) → asked_by line (amount_of call) ≡ call → IsUnlisted v line (amount_of call) → IsOfLine p → i ≤ place_of p / 2 → (o : Option ℕ) → told line (amount_of call) ≡ o → operation_at (2 * i) o ≤ p
      no_less i p line asked free other after None tells = omega (arith, after)
      no_less i p line asked free other after (Some t) tells =
          let with = answers_with v.max call other.line other.answer in
          let same = same_told v line other.line (amount_of call) (place_of p / 2) t free (asked ∙ sym with.0) with.1 other.at tells in
          let more = other.told_less t same in
          omega (arith, after, parts p more.0 more.1, more.2)

  -- and so with that line as code reads it
  pub first_found : IsNumber v → (i : ℕ) (d : NumberCall) → position (answers v.max call) v.calls ≡ Some i → IsFirstFor v call (Some (operation_at (2 * i) (told (get_or v.calls i d) (amount_of call))))
  first_found known i d is =
      let found = cond_some _ _ i is in
      let within = ltb-true _ _ found.0 in
      first_for known i (get_or v.calls i d) is (slice_get-get_or v.calls i d (omega (arith, within, found.1)))

-- ---- the table

-- the first number that passes a test
first_number : (test : ℕ → Bool) (n k : ℕ) → k < n → test k ≡ true → ((q : ℕ) → q < k → test q ≡ false) → position test (range_with_len 0 n) ≡ Some k
first_number test n k below passed fails =
    let count = length-range_with_len 0 n in
    let at : (q : ℕ) → q < n → get_or (range_with_len 0 n) q 0 ≡ q = λ q less. get_or-range_with_len 0 n q 0 less ∙ omega arith in
    let place : position_or_len test (range_with_len 0 n) ≡ k = position_or_len_is test (range_with_len 0 n) k 0 (omega (arith, below, count))
    (λ q less. ap test (at q (omega (arith, less, below))) ∙ fails q less) (λ less. ap test (at k below) ∙ passed) in
    cond-true _ _ _ (lt-ltb (position_or_len test (range_with_len 0 n)) (length (range_with_len 0 n)) (omega (arith, place, below, count))) ∙ ap Some place

-- and none where none does
no_number : (test : ℕ → Bool) (n : ℕ) → ((q : ℕ) → q < n → test q ≡ false) → position test (range_with_len 0 n) ≡ None
no_number test n fails =
    let count = length-range_with_len 0 n in
    let place : position_or_len test (range_with_len 0 n) ≡ n = position_or_len_is test (range_with_len 0 n) n 0 (omega (arith, count))
    (λ q less. ap test (get_or-range_with_len 0 n q 0 less ∙ omega arith) ∙ fails q less) (λ less. absurd (omega (arith, less, count))) in
    cond-false _ _ _ (le-ltb (position_or_len test (range_with_len 0 n)) (length (range_with_len 0 n)) (omega (arith, place, count)))

module _ (v : Number) (known : IsNumber v) (name : List ℕ) (some : 0 < length name) where
  -- whether the operation with a number has this name
  abbrev has_name : ℕ → Bool
  has_name p = bytes_eq (names_or_none (op_at v p)).call name

  by_number : first_op (number_table v) name ≡ position has_name (range_with_len 0 (op_count v))
  by_number = cond-true _ _ _ (lt-ltb 0 (length name) some) ∙ position-map (λ (o : Op). bytes_eq o.call name) (λ p. names_or_none (op_at v p)) (range_with_len 0 (op_count v))

  -- each operation's call may be asked for
  may_ask : (op : NumberOp) → IsAmountOf v.max op → MayBeAsked (call_for op)
  may_ask (Take n) fits = omega (arith, fits.1, known.max_fits)
  may_ask (Short n) fits = omega (arith, fits.1, known.max_fits)
  may_ask (Give n) fits = omega (arith, fits.1, known.max_fits)
  may_ask (Full n) fits = omega (arith, fits.1, known.max_fits)
  may_ask (AtLeast n) fits = omega (arith, fits.1, known.max_fits)
  may_ask (Below n) fits = omega (arith, fits.1, known.max_fits)
  may_ask (Value n) fits = tt

  -- what has the name is an operation of the call that is named
  named : (p : ℕ) (o : Option NumberOp) (call : Option NumberCall) → IsNamed MayBeAsked row_name name call → op_at v p ≡ o → bytes_eq (names_or_none o).call name ≡ true → (op : NumberOp) × (op_at v p ≡ Some op) × (call ≡ Some (call_for op))
  named p None call known_as at is =
      let same : [] ≡ name = (bytes_eq-Decides [] name).0 is in
      absurd (omega (arith, some, ap (λ (l : List ℕ). length l) same))
  named p (Some op) call known_as at is =
      let same = sym (names_alike op) ∙ (bytes_eq-Decides (op_names op).call name).0 is in
      (op, at, known_as.all (call_for op) (may_ask op (amounts_fit v p op known at)) same)

  -- so nothing has it where no call is named
  pub no_call : (call : Option NumberCall) → IsNamed MayBeAsked row_name name call → call ≡ None → first_op (number_table v) name ≡ None
  no_call call known_as none = by_number ∙ no_number has_name (op_count v) (λ p below. fails p)
    where
      fails : (p : ℕ) → has_name p ≡ false
      fails p = elim (cases_Bool (has_name p)) [
        | inr failed ↦ failed
        | inl is ↦ let op = named p (op_at v p) call known_as refl is in absurd (none-some _ (sym none ∙ op.2))
      ]

  -- and where one is, the first operation of it is the first
  pub of_call : (call : NumberCall) (k : Option ℕ) → IsNamed MayBeAsked row_name name (Some call) → IsFirstFor v call k → k ≡ first_op (number_table v) name
  of_call call None known_as first = sym (by_number ∙ no_number has_name (op_count v) (λ p below. fails p))
    where
      fails : (p : ℕ) → has_name p ≡ false
      fails p = elim (cases_Bool (has_name p)) [
        | inr failed ↦ failed
        | inl is ↦
            let op = named p (op_at v p) (Some call) known_as refl is in
            absurd (none-some _ (first.least p op.0 op.1 (sym (same_Some call (call_for op.0) op.2))).1)
      ]
  of_call call (Some k) known_as first =
      let op = first.of_call in
      let same : (op_names op.0).call ≡ name = names_alike op.0 ∙ ap row_name op.2 ∙ known_as.has_name.1 in
      let is : has_name k ≡ true = ap (λ o. bytes_eq (names_or_none o).call name) op.1 ∙ (bytes_eq-Decides (op_names op.0).call name).1 same in
      sym (by_number ∙ first_number has_name (op_count v) k (below_count v k op.0 known op.1) is fails)
    where
      fails : (p : ℕ) → p < k → has_name p ≡ false
      fails p less = elim (cases_Bool (has_name p)) [
        | inr failed ↦ failed
        | inl is ↦
            let op = named p (op_at v p) (Some call) known_as refl is in
            let least = first.least p op.0 op.1 (sym (same_Some call (call_for op.0) op.2)) in
            absurd (omega (arith, less, least.2, same_Some k least.0 least.1))
      ]
