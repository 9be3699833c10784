-- What open transactions hold at an object, and what one transaction did, after one more event.
use Rattle.std.proofs.Common.{◌≡◌, ℕ, ◌-◌, ◌<◌, Bool, true, false, cond, not, ◌&&◌, ◌||◌, ◌==◌, List, [], ◌∷◌, ◌++◌, filter, take, length, Some, refl, sym, ap, ◌∙◌, inl, inr, arith}
use Rattle.std.specs.List.{AllByRecursion}
use Rattle.std.specs.Option.{option_or}
use Rattle.std.proofs.Math.Bool.{and_comm}
use Rattle.std.proofs.lemmas.Bool.{cases_Bool, eqb-true, and_parts, and_right}
use Rattle.std.proofs.lemmas.Bool.Decides.{nat_tests}
use Rattle.std.proofs.lemmas.List.Elements.{filter_agree}
use Rattle.type_table.proofs.Elements.{each-weaker, each-filter, filter-turned, mine-within}
use Rattle.object_trait.specs.Object.{Object}
use Rattle.object_trait.specs.Strike.{keep_first}
use Rattle.object_trait.specs.declared.event.EventKind.{EventKind}
use Rattle.object_trait.specs.declared.event.EventKind.TheVariants as kind
use Rattle.object_trait.specs.declared.event.EventKind.TheVariants.{Begin, Op, Busy, Commit, Abort, Rollback}
use Rattle.serial_order.specs.Operations.{at_object, is_by, of}
use Rattle.serial_order.specs.History.{Summary, is_open}
use Rattle.serial_order.specs.View.{stops_at, is_alone}
use Rattle.serial_order.specs.Machine.{May}
use Rattle.serial_order.specs.Represent.{struck_at}
use Rattle.serial_order.specs.Answer.{earliest, earliest_rather}
use Rattle.serial_order.specs.After.{summary_next, AreInRun, is_open_after}
use Rattle.serial_order.specs.Held.{held_at, HeldAfter, BlockerIsHeld, OwnAfter}
use Rattle.serial_order.specs.declared.entry.Entry.{Entry}
use Rattle.serial_order.proofs.After.{open-after}
use Rattle.serial_order.proofs.Strikes.{keep_first-mine, keep_first-none, keep_first-others, keep_first-part, keep_first-within}
use Rattle.serial_order.proofs.Lists.{is_one-apart, both_filters, filter-more, filter-apart, of-more, of-apart}
use Rattle.serial_order.proofs.Representing.{stay-count}

-- ---- filters

-- tests that agree on the elements of a list
filter-agree-on : {E : Type 0} (p q : E → Bool) (V : List E) → AllByRecursion (λ e. p e ≡ q e) V → filter p V ≡ filter q V
filter-agree-on p q [] same = refl
filter-agree-on p q (e ∷ V) same = rw (same.0, filter-agree-on p q V same.1) refl

-- of what another filter keeps, one that asks for the same and more
filter-of-both : {E : Type 0} (p q : E → Bool) (V : List E) → filter (λ e. p e && q e) V ≡ filter p (filter q V)
filter-of-both p q V = filter_agree (λ e. p e && q e) (λ e. q e && p e) (λ e. and_comm (p e) (q e)) V ∙ both_filters q p V

-- ---- what is held

module _ (objects : List Object) (s : Summary) (x : ℕ) (known : AreInRun s) where
  -- after an event that leaves the operations
  held-left : (happened : EventKind) → May objects s happened → (V : List Entry) →
      filter (λ e. is_open (summary_next s happened) e.by) V ≡ filter (λ e. is_open_after s happened e.by) V
  held-left happened may V = filter_agree (λ e. is_open (summary_next s happened) e.by) (λ e. is_open_after s happened e.by) (λ e. open-after objects s happened known may e.by) V

  -- a transaction that begins has none
  held-begin : filter (λ e. e.by == s.begun || is_open s e.by) (at_object x s.survives) ≡ held_at x s
  held-begin =
      filter-agree-on (λ e. e.by == s.begun || is_open s e.by) (λ e. is_open s e.by) (at_object x s.survives)
      (each-filter (λ e. (e.by == s.begun || is_open s e.by) ≡ is_open s e.by) (λ e. e.at == x) s.survives (each-weaker (λ e old. older e.by old.0) s.survives known.survive))
    where
      older : (t : ℕ) → t < s.begun → (t == s.begun || is_open s t) ≡ is_open s t
      older t low = rw (differs t low) refl
        where
          differs : (t : ℕ) → t < s.begun → (t == s.begun) ≡ false
          differs t low = grind (arith, nat_tests, low)

  -- an operation of an open transaction
  held-op : (t y k : ℕ) → is_open s t ≡ true → held_at x (summary_next s (Op k t y)) ≡ cond (y == x) (held_at x s ++ (record { by = t; at = y; op = k }) ∷ []) (held_at x s)
  held-op t y k open_now =
      let entry : Entry = record { by = t; at = y; op = k } in
      elim (cases_Bool (y == x)) [
        | inl here ↦
            rw here
            (ap (filter (λ (e : Entry). is_open s e.by)) (filter-more (λ (e : Entry). e.at == x) s.survives entry here)
            ∙ filter-more (λ (e : Entry). is_open s e.by) (at_object x s.survives) entry open_now)
        | inr elsewhere ↦ rw elsewhere (ap (filter (λ (e : Entry). is_open s e.by)) (filter-apart (λ (e : Entry). e.at == x) s.survives entry elsewhere))
      ]

  -- the end of a transaction, of which nothing is left to be held
  held-end : (t : ℕ) → filter (λ (e : Entry). not (e.by == t) && is_open s e.by) (at_object x s.survives) ≡ filter (λ e. not (is_by t e)) (held_at x s)
  held-end t = filter-of-both (λ (e : Entry). not (e.by == t)) (λ (e : Entry). is_open s e.by) (at_object x s.survives)

  -- an abort, which strikes its operations
  held-abort : (t : ℕ) → filter (λ (e : Entry). not (e.by == t) && is_open s e.by) (at_object x (keep_first (is_by t) 0 s.survives)) ≡ filter (λ e. not (is_by t e)) (held_at x s)
  held-abort t =
      ap (λ V. filter (λ (e : Entry). not (e.by == t) && is_open s e.by) (at_object x V)) (keep_first-none (is_by t) s.survives)
      ∙ ap (filter (λ (e : Entry). not (e.by == t) && is_open s e.by)) (filter-turned (λ (e : Entry). e.at == x) (λ e. not (is_by t e)) s.survives)
      ∙ mine-within (λ e. not (is_by t e)) (λ (e : Entry). not (e.by == t) && is_open s e.by) (at_object x s.survives) (λ e mine. (and_parts (not (e.by == t)) (is_open s e.by) mine).0)
      ∙ held-end t

  -- an open transaction's operations at x are all held
  held-own : (t : ℕ) → is_open s t ≡ true → of t (held_at x s) ≡ of t (at_object x s.survives)
  held-own t open_now = mine-within (λ (e : Entry). is_open s e.by) (is_by t) (at_object x s.survives) (λ e mine. rw (eqb-true e.by t mine) open_now)

  -- a rollback
  held-rollback : (t n : ℕ) → is_open s t ≡ true →
      held_at x (summary_next s (Rollback t n)) ≡ keep_first (is_by t) (length (of t (held_at x s)) - struck_at x s t n) (held_at x s)
  held-rollback t n open_now =
      let left = length (of t s.survives) - n in
      let count : length (of t (held_at x s)) - struck_at x s t n ≡ length (at_object x (take left (of t s.survives))) =
      ap (λ V. length V - struck_at x s t n) (held-own t open_now) ∙ stay-count x t left s.survives in
      ap (filter (λ (e : Entry). is_open s e.by)) (keep_first-part (λ (e : Entry). e.at == x) (is_by t) left s.survives)
      ∙ keep_first-within (λ (e : Entry). is_open s e.by) (is_by t) (length (at_object x (take left (of t s.survives)))) (at_object x s.survives) (λ e mine. rw (eqb-true e.by t mine) open_now)
      ∙ ap (λ m. keep_first (is_by t) m (held_at x s)) (sym count)

pub held_after_one : HeldAfter
held_after_one objects s (Begin t) x known may = held-left objects s x known (Begin t) may (at_object x s.survives) ∙ ap (λ n. filter (λ (e : Entry). e.by == n || is_open s e.by) (at_object x s.survives)) may ∙ held-begin objects s x known
held_after_one objects s (Op k t y) x known may = held-op objects s x known t y k may.0
held_after_one objects s (Busy c t y u) x known may = refl
held_after_one objects s (kind.None t y c) x known may = refl
held_after_one objects s (Commit t) x known may = held-left objects s x known (Commit t) may (at_object x s.survives) ∙ held-end objects s x known t
held_after_one objects s (Abort t) x known may =
    held-left objects s x known (Abort t) may (at_object x (keep_first (is_by t) 0 s.survives)) ∙ held-abort objects s x known t
held_after_one objects s (Rollback t n) x known may = held-rollback objects s x known t n may.0

-- ---- what blocks

-- the earliest of what passes one test and another is the earliest of those that pass the one
pub earliest-filter : (first second : Entry → Bool) (V : List Entry) → earliest (λ e. first e && second e) V ≡ earliest second (filter first V)
earliest-filter first second [] = refl
earliest-filter first second (e ∷ V) =
    elim (cases_Bool (first e)) [
      | inl passes ↦ rw passes (ap (λ rest. cond (second e) (Some e) rest) (earliest-filter first second V))
      | inr fails ↦ rw fails (earliest-filter first second V)
    ]

-- and so it is where some are named first
earliest-within : (rather first second : Entry → Bool) (V : List Entry) → earliest (λ e. rather e && (first e && second e)) V ≡ earliest (λ e. rather e && second e) (filter first V)
earliest-within rather first second [] = refl
earliest-within rather first second (e ∷ V) =
    elim (cases_Bool (first e)) [
      | inl passes ↦ rw passes (ap (λ rest. cond (rather e && second e) (Some e) rest) (earliest-within rather first second V))
      | inr fails ↦ rw (fails, and_right (rather e) false refl) (earliest-within rather first second V)
    ]

pub rather-filter : (rather first second : Entry → Bool) (V : List Entry) → earliest_rather rather (λ e. first e && second e) V ≡ earliest_rather rather second (filter first V)
rather-filter rather first second V =
    ap (λ found. option_or found (earliest (λ e. first e && second e) V)) (earliest-within rather first second V)
    ∙ ap (option_or (earliest (λ e. rather e && second e) (filter first V))) (earliest-filter first second V)

pub blocker_is_held : BlockerIsHeld
blocker_is_held = λ o s x t k.
    rather-filter (is_alone o s x t k) (λ e. is_open s e.by) (λ e. not (e.by == t) && stops_at o.kind o s.committed (at_object x s.survives) t k e) (at_object x s.survives)

-- ---- what one transaction did

-- an operation
own-op : (s : Summary) (t u y k : ℕ) → of t (s.survives ++ (record { by = u; at = y; op = k }) ∷ []) ≡ cond (u == t) (of t s.survives ++ (record { by = u; at = y; op = k }) ∷ []) (of t s.survives)
own-op s t u y k =
    let entry : Entry = record { by = u; at = y; op = k } in
    elim (cases_Bool (u == t)) [
      | inl own ↦ rw own (of-more t s.survives entry own)
      | inr other ↦ rw other (of-apart t s.survives entry other)
    ]

-- a strike
own-strike : (V : List Entry) (t u n : ℕ) → of t (keep_first (is_by u) n V) ≡ cond (u == t) (take n (of t V)) (of t V)
own-strike V t u n =
    elim (cases_Bool (u == t)) [
      | inl own ↦ rw (own, eqb-true u t own) (keep_first-mine (is_by t) n V)
      | inr other ↦ rw other (keep_first-others (is_by t) (is_by u) n V (λ e mine. is_one-apart e.by u t other mine))
    ]

pub own_after_one : OwnAfter
own_after_one s (Begin u) t = refl
own_after_one s (Op k u y) t = own-op s t u y k
own_after_one s (Busy c u y v) t = refl
own_after_one s (kind.None u y c) t = refl
own_after_one s (Commit u) t = refl
own_after_one s (Abort u) t = own-strike s.survives t u 0
own_after_one s (Rollback u n) t =
    elim (cases_Bool (u == t)) [
      | inl own ↦ own-strike s.survives t u (length (of u s.survives) - n) ∙ rw (own, eqb-true u t own) refl
      | inr other ↦ own-strike s.survives t u (length (of u s.survives) - n) ∙ rw other refl
    ]
