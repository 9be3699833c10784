-- The answer of a call is one that the machine allows.
use Rattle.std.proofs.Common.{◌≡◌, ℕ, zero, suc, ◌<◌, Bool, true, false, not, ◌&&◌, cond, nat_lt, List, [], ◌∷◌, length, Option, Some, None, MatchOption, is_some, refl, ap, ◌∙◌, inl, inr, arith}
use Rattle.std.specs.List.{AllByRecursion}
use Rattle.std.specs.Option.{option_or}
use Rattle.std.specs.Prelude.{slice_get, Contains}
use Rattle.std.proofs.lemmas.Bool.{cases_eq, false≢true, true≢false, and_parts, and_from, not-true, not-false, ltb-true}
use Rattle.object_trait.specs.Object.{Object}
use Rattle.std.proofs.lemmas.Slice.Eq.{bytes_eq-Decides}
use Rattle.type_table.specs.Table.{call_of, has_op, is_same_call}
use Rattle.serial_order.specs.Operations.{at_object}
use Rattle.serial_order.specs.History.{Summary, summary, is_open}
use Rattle.serial_order.specs.View.{is_legal_for, is_alone, conflicts_with, is_of_call}
use Rattle.serial_order.specs.Machine.{IsFirstOfCall, IsBlocked, IsFirstLegal, IsBusyWith, MayDo, May}
use Rattle.type_table.specs.Least.{found_or, first_below}
use Rattle.serial_order.specs.Answer.{earliest, earliest_rather, blocker, is_reply, is_free_reply, busy_with, refused, event_of_first, event_of_call}
use Rattle.serial_order.specs.Laws.{AnswerMayFollow}
use Rattle.serial_order.specs.declared.entry.Entry.{Entry}

-- ---- the least number

-- no number below n passes
abbrev pub NoneBelow : (ℕ → Bool) → ℕ → Type 0
NoneBelow test n = (i : ℕ) → i < n → test i ≡ false

-- k is below n and passes, and no number before it does
pub record IsFirstBelow (test : ℕ → Bool) (n k : ℕ) : Type 0 where
  pub below : k < n
  pub passes : test k ≡ true
  pub first : NoneBelow test k

-- what is the first below n is the first below n + 1, and n is where it passes and none below it does
first_or : (test : ℕ → Bool) (n : ℕ) (found : Option ℕ) (passes : Bool) → test n ≡ passes → MatchOption found (NoneBelow test n) (IsFirstBelow test n) →
    MatchOption (found_or found passes n) (NoneBelow test (suc n)) (IsFirstBelow test (suc n))
first_or test n (Some k) passes h before = record { below = omega (arith, before.below); passes = before.passes; first = before.first }
first_or test n None true h before = record { below = omega arith; passes = h; first = before }
first_or test n None false h before = λ i below. elim (cases_eq i n) [ inl same ↦ rw same h | inr other ↦ before i (omega (arith, below, other)) ]

-- `first_below` finds the least number below n that passes
pub first_below-least : (test : ℕ → Bool) (n : ℕ) → MatchOption (first_below n test) (NoneBelow test n) (IsFirstBelow test n)
first_below-least test zero = λ i below. absurd (omega (arith, below))
first_below-least test (suc n) = first_or test n (first_below n test) (test n) refl (first_below-least test n)

-- ---- the earliest operation

-- e is one of these, and passes
pub record IsFound (test : Entry → Bool) (V : List Entry) (e : Entry) : Type 0 where
  pub contained : Contains V e
  pub passes : test e ≡ true

-- what is found first among e and later operations, by whether e passes and what is found among the later ones
found_with : (test : Entry → Bool) (e : Entry) (V : List Entry) (passes : Bool) (found : Option Entry) → test e ≡ passes →
    MatchOption found (AllByRecursion (λ x. test x ≡ false) V) (IsFound test V) →
    MatchOption (cond passes (Some e) found) (AllByRecursion (λ x. test x ≡ false) (e ∷ V)) (IsFound test (e ∷ V))
found_with test e V true found h later = record { contained = (0, omega arith, refl); passes = h }
found_with test e V false None h later = (h, later)
found_with test e V false (Some x) h later =
    record { contained = (suc later.contained.0, omega (arith, later.contained.1), later.contained.2); passes = later.passes }

-- `earliest` finds one that passes, where one does
pub earliest-found : (test : Entry → Bool) (V : List Entry) → MatchOption (earliest test V) (AllByRecursion (λ e. test e ≡ false) V) (IsFound test V)
earliest-found test [] = tt
earliest-found test (e ∷ V) = found_with test e V (test e) (earliest test V) refl (earliest-found test V)

-- so does `earliest_rather`, whichever are named first
either-found : (rather test : Entry → Bool) (V : List Entry) (first second : Option Entry) →
    MatchOption first (AllByRecursion (λ e. (rather e && test e) ≡ false) V) (IsFound (λ e. rather e && test e) V) →
    MatchOption second (AllByRecursion (λ e. test e ≡ false) V) (IsFound test V) → MatchOption (option_or first second) (AllByRecursion (λ e. test e ≡ false) V) (IsFound test V)
either-found rather test V None second none found = found
either-found rather test V (Some e) second here found = record { contained = here.contained; passes = (and_parts (rather e) (test e) here.passes).1 }

pub rather-found : (rather test : Entry → Bool) (V : List Entry) → MatchOption (earliest_rather rather test V) (AllByRecursion (λ e. test e ≡ false) V) (IsFound test V)
rather-found rather test V =
    either-found rather test V (earliest (λ e. rather e && test e) V) (earliest test V) (earliest-found (λ e. rather e && test e) V) (earliest-found test V)

-- ---- answers

module _ (o : Object) (s : Summary) (x t c : ℕ) where
  -- the operation conflicts with none at x
  abbrev IsUnblocked : ℕ → Type 0
  IsUnblocked k = AllByRecursion (λ e. conflicts_with o s x t k e ≡ false) (at_object x s.survives)

  -- what was found as the blocker of k
  abbrev BlockerIs : ℕ → Option Entry → Type 0
  BlockerIs k found = MatchOption found (IsUnblocked k) (IsFound (conflicts_with o s x t k) (at_object x s.survives))

  -- the blocker of an operation blocks it, and where there is none, it conflicts with none
  blocker_found : (k : ℕ) → BlockerIs k (blocker o s x t k)
  blocker_found k = rather-found (is_alone o s x t k) (conflicts_with o s x t k) (at_object x s.survives)

  -- no blocker
  unblocked : (k : ℕ) (found : Option Entry) → BlockerIs k found → is_some found ≡ false → IsUnblocked k
  unblocked k None each none = each
  unblocked k (Some e) each none = absurd (true≢false none)

  -- a blocker
  blocked : (k : ℕ) (found : Option Entry) → BlockerIs k found → is_some found ≡ true → IsBlocked o s x t k
  blocked k None held some = absurd (false≢true some)
  blocked k (Some e) held some = (e, held.contained, held.passes)

  -- a reply is legal, and one of the call
  reply_parts : (k : ℕ) → is_reply o s x t c k ≡ true → (is_of_call o c k ≡ true) × (is_legal_for o s x t k ≡ true)
  reply_parts k reply = and_parts (is_of_call o c k) (is_legal_for o s x t k) reply

  -- an operation of the call is one of the table
  of_call_below : (k : ℕ) → is_of_call o c k ≡ true → k < length o.table.ops
  of_call_below k of_call = ltb-true k (length o.table.ops) (and_parts (nat_lt k (length o.table.ops)) (is_same_call o.table k c) of_call).0

  -- and it has a name where the call has one
  of_call_named : (k : ℕ) → has_op o.table c ≡ true → is_of_call o c k ≡ true → has_op o.table k ≡ true
  of_call_named k named of_call =
      let same = (bytes_eq-Decides (call_of o.table k) (call_of o.table c)).0 (and_parts (nat_lt k (length o.table.ops)) (is_same_call o.table k c) of_call).1 in
      ap (λ (name : List ℕ). nat_lt 0 (length name)) same ∙ named

  -- a free reply may be done
  free_may_do : (k : ℕ) → has_op o.table c ≡ true → is_free_reply o s x t c k ≡ true → MayDo (Some o) s x t k
  free_may_do k named free =
      let parts = and_parts (is_reply o s x t c k) (not (is_some (blocker o s x t k))) free in
      let reply = reply_parts k parts.0 in
      (of_call_named k named reply.0, reply.1, unblocked k (blocker o s x t k) (blocker_found k) (not-true (is_some (blocker o s x t k)) parts.1))

  -- an operation of the call that isn't a reply isn't legal
  not_legal : (k : ℕ) → is_of_call o c k ≡ true → is_reply o s x t c k ≡ false → is_legal_for o s x t k ≡ false
  not_legal k of_call no_reply = rw of_call at no_reply

  -- a reply that isn't free has a blocker
  has_blocker : (k : ℕ) → is_reply o s x t c k ≡ true → is_free_reply o s x t c k ≡ false → is_some (blocker o s x t k) ≡ true
  has_blocker k reply not_free = not-false (is_some (blocker o s x t k)) (rw reply at not_free)

  -- where no number below the table's end is a free reply, no reply is
  none_free : NoneBelow (is_free_reply o s x t c) (length o.table.ops) → (k : ℕ) → is_reply o s x t c k ≡ true → is_some (blocker o s x t k) ≡ true
  none_free none k reply = has_blocker k reply (none k (of_call_below k (reply_parts k reply).0))

  -- the first reply is the first legal operation of the call
  first_legal : (k : ℕ) → IsFirstBelow (is_reply o s x t c) (length o.table.ops) k → IsFirstLegal o s x t c k
  first_legal k found = record {
    of_call = (reply_parts k found.passes).0;
    legal = (reply_parts k found.passes).1;
    first = λ j before of_call. not_legal j of_call (found.first j before);
  }

  -- with a blocker of the first legal operation, the call may be busy
  busy : IsFirstOfCall o c → NoneBelow (is_free_reply o s x t c) (length o.table.ops) → (k : ℕ) → IsFirstBelow (is_reply o s x t c) (length o.table.ops) k →
      (held : Entry) → IsFound (conflicts_with o s x t k) (at_object x s.survives) held → IsBusyWith o s x t c held.by
  busy least none k found held conflicting = record {
    least = least;
    all_blocked = λ j of_call legal. blocked j (blocker o s x t j) (blocker_found j) (none_free none j (and_from (is_of_call o c j) (is_legal_for o s x t j) of_call legal));
    k = k;
    first = first_legal k found;
    held = held;
    survives = conflicting.contained;
    conflicts = conflicting.passes;
    holder = refl;
  }

  module _ (objects : List Object) (there : slice_get objects x ≡ Some o) (is_there : is_open s t ≡ true) (least : IsFirstOfCall o c) where
    -- the answer to a call whose first reply has a blocker
    busy_follows : NoneBelow (is_free_reply o s x t c) (length o.table.ops) → (k : ℕ) → IsFirstBelow (is_reply o s x t c) (length o.table.ops) k →
        (found : Option Entry) → BlockerIs k found → is_some found ≡ true → May objects s (busy_with found t x c)
    busy_follows none k first None held some = absurd (false≢true some)
    busy_follows none k first (Some e) held some = (is_there, rw there (c, refl, busy least none k first e held))

    -- the answer to a call with no free reply
    refused_follows : NoneBelow (is_free_reply o s x t c) (length o.table.ops) → (found : Option ℕ) →
        MatchOption found (NoneBelow (is_reply o s x t c) (length o.table.ops)) (IsFirstBelow (is_reply o s x t c) (length o.table.ops)) →
        May objects s (refused o s x t c found)
    refused_follows none None no_reply = (is_there, rw there (c, refl, least, λ k of_call. not_legal k of_call (no_reply k (of_call_below k of_call))))
    refused_follows none (Some k) first = busy_follows none k first (blocker o s x t k) (blocker_found k) (none_free none k first.passes)

    -- the answer to a call
    answered_follows : (found : Option ℕ) →
        MatchOption found (NoneBelow (is_free_reply o s x t c) (length o.table.ops)) (IsFirstBelow (is_free_reply o s x t c) (length o.table.ops)) →
        May objects s (event_of_first o s x t c found)
    answered_follows (Some k) free = (is_there, rw there (free_may_do k least.0 free.passes))
    answered_follows None none = refused_follows none (first_below (length o.table.ops) (is_reply o s x t c)) (first_below-least (is_reply o s x t c) (length o.table.ops))

    -- and so the event of a call
    event_follows : May objects s (event_of_call o s x t c)
    event_follows = answered_follows (first_below (length o.table.ops) (is_free_reply o s x t c)) (first_below-least (is_free_reply o s x t c) (length o.table.ops))

-- the answer of a call is one that the machine allows
pub answer_may_follow : AnswerMayFollow
answer_may_follow = λ objects H x o w t c there is_there least. event_follows o (summary H) x t c objects there is_there least
