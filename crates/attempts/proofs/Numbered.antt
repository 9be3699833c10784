-- Calls by their numbers, as calls by names.
use Rattle.std.proofs.Common.{◌≡◌, ℕ, ◌<◌, Bool, true, false, not, List, [], length, get_or, Option, Some, None, is_some, Result, Err, slice_get, refl, sym, ap, subst, ◌∙◌, inl, inr, arith}
use Rattle.std.specs.Prelude.{if◌then◌else◌, ◌⊎◌, zip, min}
use Rattle.std.specs.Option.{option_map}
use Rattle.std.proofs.lemmas.Bool.{cases_Bool, eq-eqb, false≢true}
use Rattle.std.proofs.lemmas.Bool.Decides.{nat_tests}
use Rattle.std.proofs.lemmas.List.{length-map}
use Rattle.std.proofs.lemmas.Option.{none-some, same_Some, slice_get-map, slice_get-get_or}
use Rattle.std.proofs.lemmas.Slice.Zip.{length-zip, get_or-zip}
use Rattle.type_table.specs.Table.{call_of, first_op}
use Rattle.number_types.proofs.FirstNamed.{first_named, first_again}
use Rattle.object_trait.specs.Object.{Object}
use Rattle.serial_order.specs.After.{SummaryAfter}
use Rattle.serial_order.specs.History.{summary, is_open}
use Rattle.serial_order.specs.Replay.{is_history_full, call_at}
use Rattle.serial_order.specs.declared.command.Command.TheVariants.{Call}
use Rattle.serial_order.specs.declared.refusal.Refusal.{Refusal}
use Rattle.serial_order.specs.declared.refusal.Refusal.TheVariants.{NotOpen, NoObject, NoCall, HistoryFull}
use Rattle.object_calls.specs.declared.answer.Answer.{Answer}
use Rattle.store_laws.specs.Stored.{Stored, objects, refusal_of, refusal_in, MayStep}
use Rattle.store.specs.Calls.{NotesAnswer, unnumbered}
use Rattle.attempts.specs.Made.{reply_to, MakesCall}
use Rattle.attempts.specs.Numbered.{is_call_number, numbered_name, named_call, named_calls}
use Rattle.attempts.proofs.Answered.{came, refused-stays}

-- ---- names

-- the number is found
number-is : (c : ℕ) (found : Option ℕ) → is_call_number c found ≡ true → found ≡ Some c
number-is c None is = absurd (false≢true is)
number-is c (Some k) is = let same : k ≡ c = grind (arith, nat_tests, is) in ap Some same

-- a call that has this number is named
pub named-at : (at : Option Object) (name : List ℕ) (c : ℕ) → call_at at name ≡ Some c → numbered_name at c ≡ name
named-at None name c is = absurd (none-some c is)
named-at (Some o) name c is =
    let its : is_call_number c (first_op o.table (call_of o.table c)) ≡ true = ap (is_call_number c) (first_again o.table name c is) ∙ eq-eqb c c refl in
    ap (λ b. if b then call_of o.table c else []) its ∙ (first_named o.table name c is).0

-- there is one, or there is none, and then the name is empty
pub has-or-none : (at : Option Object) (c : ℕ) → (call_at at (numbered_name at c) ≡ Some c) ⊎ ((numbered_name at c ≡ []) × ((name : List ℕ) → call_at at name ≡ Some c → ⊥))
has-or-none None c = inr (refl, λ name is. none-some c is)
has-or-none (Some o) c =
    let name = call_of o.table c in
    let its = is_call_number c (first_op o.table name) in
    elim (cases_Bool its) [
      | inl is ↦ inl (ap (λ b. first_op o.table (if b then name else [])) is ∙ number-is c (first_op o.table name) is)
      | inr isnt ↦
          inr (
            ap (λ b. if b then name else []) isnt,
            λ other found. false≢true (sym isnt ∙ ap (is_call_number c) (first_again o.table other c found) ∙ eq-eqb c c refl),
          )
    ]

-- a number that no call has names none
pub none-named : (at : Option Object) (c : ℕ) → ((name : List ℕ) → call_at at name ≡ Some c → ⊥) → numbered_name at c ≡ []
none-named at c none =
    elim (has-or-none at c) [
      | inl is ↦ absurd (none (numbered_name at c) is)
      | inr isnt ↦ isnt.0
    ]

-- no call has an empty name
nameless : (at : Option Object) → call_at at [] ≡ None
nameless None = refl
nameless (Some o) = refl

-- ---- a call by its number

-- a call without a name is refused as one whose number is no call's
unnamed-refusal : (there full : Bool) → (if not there then Some NoObject else (if not false then Some NoCall else (if full then Some HistoryFull else None))) ≡ Some (if not there then NoObject else NoCall)
unnamed-refusal true full = refl
unnamed-refusal false full = refl

module _ (s : Stored) (t x : ℕ) (name : List ℕ) (going : is_open (summary s.history) t ≡ true) where
  unnamed-refused : call_at (slice_get (objects s) x) name ≡ None → refusal_of s (Call t x name) ≡ Some (unnumbered s t x)
  unnamed-refused none =
      let there = is_some (slice_get (objects s) x) in
      let full = is_history_full s.limits s.history 1 in
      ap (λ b. if not b then Some NotOpen
      else (if not there then Some NoObject else (if not (is_some (call_at (slice_get (objects s) x) name)) then Some NoCall else (if full then Some HistoryFull else None)))) going
      ∙ ap (λ b. if not there then Some NoObject else (if not b then Some NoCall else (if full then Some HistoryFull else None))) (ap is_some none)
      ∙ unnamed-refusal there full
      ∙ ap (λ b. Some (if not b then NotOpen else (if not there then NoObject else NoCall))) (sym going)

module _ (after : SummaryAfter) (s : Stored) (w t x c : ℕ) (now : Stored) (going : is_open (summary s.history) t ≡ true) (room : is_history_full s.limits s.history 1 ≡ false) where
  -- however it comes out, it is that of the call which the number names
  pub number-came : (r : Result Answer Refusal) → ((name : List ℕ) → call_at (slice_get (objects s) x) name ≡ Some c → MayStep s w (Call t x name) r now)
      → NotesAnswer s w t x c r now → (((name : List ℕ) → call_at (slice_get (objects s) x) name ≡ Some c → ⊥) → (r ≡ Err (unnumbered s t x)) × (now ≡ s))
      → MakesCall s w t (named_call (objects s) x c) (reply_to r) now
  number-came r step told other =
      let at = slice_get (objects s) x in
      let name = numbered_name at c in
      elim (has-or-none at c) [
        | inl is ↦
            came after s w t (x, name) now going room r (step name is)
            (λ k number. subst (λ j. NotesAnswer s w t x j r now) (same_Some c k (sym is ∙ number)) told)
        | inr isnt ↦
            let refused = other isnt.1 in
            let unnamed : call_at at name ≡ None = ap (call_at at) isnt.0 ∙ nameless at in
            let reason : refusal_of s (Call t x name) ≡ Some (unnumbered s t x) = unnamed-refused s t x name going unnamed in
            let why : Refusal = unnumbered s t x in
            came after s w t (x, name) now going room r
            (inl (ap (λ (q : Result Answer Refusal). refusal_in q) refused.0 ∙ sym reason, refused.1 ∙ sym (refused-stays after s w t (x, name) now going why reason)))
            (λ k number. absurd (none-some k (sym unnamed ∙ number)))
      ]

-- ---- calls by their numbers

-- they are as many as their objects
pub named-many : (os : List Object) (xs cs : List ℕ) → length cs ≡ length xs → length (named_calls os xs cs) ≡ length xs
named-many os xs cs same =
    let pairs : length (zip xs cs) ≡ min (length xs) (length cs) = length-zip xs cs in
    let all : length (zip xs cs) ≡ length xs = omega (arith, pairs, same) in
    length-map (zip xs cs) (λ (p : ℕ × ℕ). named_call os (p.0) (p.1)) ∙ all

-- and that at a place has what is there
pub named-there : (os : List Object) (xs cs : List ℕ) (at x c : ℕ) → at < length xs → length cs ≡ length xs
    → slice_get (named_calls os xs cs) at ≡ Some (named_call os (get_or xs at x) (get_or cs at c))
named-there os xs cs at x c low same =
    let beside : at < length cs = omega (arith, low, same) in
    let pairs : length (zip xs cs) ≡ min (length xs) (length cs) = length-zip xs cs in
    let inside : at < length (zip xs cs) = omega (arith, low, beside, pairs) in
    slice_get-map (λ (p : ℕ × ℕ). named_call os (p.0) (p.1)) (zip xs cs) at
    ∙ ap (option_map (λ (p : ℕ × ℕ). named_call os (p.0) (p.1))) (slice_get-get_or (zip xs cs) at (x, c) inside ∙ ap Some (get_or-zip xs cs at (x, c) low beside))
