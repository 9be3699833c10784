-- The first operation by the name of a call that is known, and by a name that no call has.
use Rattle.std.proofs.Common.{◌≡◌, ℕ, ◌*◌, ◌<◌, ◌≤◌, List, ◌++◌, length, get_or, Some, None, refl, sym, ap, ◌∙◌, arith}
use Rattle.std.specs.Prelude.{slice_get, codes}
use Rattle.std.specs.Fmt.{decimal}
use Rattle.std.specs.List.{position}
use Rattle.std.proofs.lemmas.List.{append_cancel_left}
use Rattle.std.proofs.lemmas.Option.{none-some, same_Some}
use Rattle.type_table.specs.Operation.{operation_at}
use Rattle.type_table.specs.Table.{first_op}
use Rattle.decimals.specs.Decimals.{long_number_of}
use Rattle.number_types.specs.declared.number_call.NumberCall.{NumberCall}
use Rattle.number_types.specs.declared.number_call.NumberCall.TheVariants as calls
use Rattle.number_types.specs.Calls.{most_number, amount_of}
use Rattle.number_types.specs.Number.{Number, IsNumber}
use Rattle.number_types.specs.Operations.{row_name, number_table}
use Rattle.number_types.specs.Named.{IsNamed, MayBeAsked, answers, told}
use Rattle.decimals.proofs.Decimals.{read_long}
use Rattle.number_types.proofs.Amounts.{reads_decimal}
use Rattle.number_types.proofs.FirstOps.{no_call, of_call, none_for, first_for}

-- numbers of one decimal text are one
same_number : (n m : ℕ) → n ≤ most_number → m ≤ most_number → decimal n ≡ decimal m → m ≡ n
same_number n m n_low m_low same = same_Some m n (sym (read_long m m_low).read ∙ reads_decimal (decimal m) n n_low same)

-- names of other words begin otherwise
abbrev first_byte : List ℕ → ℕ
first_byte name = get_or name 0 0

-- calls of one name are one
same_call : (a call : NumberCall) → MayBeAsked a → MayBeAsked call → row_name a ≡ row_name call → call ≡ a
same_call (calls.Take n) (calls.Take m) a_may may same = ap calls.Take (same_number n m a_may may (append_cancel_left (codes "take:") (decimal n) (decimal m) same))
same_call (calls.Give n) (calls.Give m) a_may may same = ap calls.Give (same_number n m a_may may (append_cancel_left (codes "give:") (decimal n) (decimal m) same))
same_call (calls.AtLeast n) (calls.AtLeast m) a_may may same = ap calls.AtLeast (same_number n m a_may may (append_cancel_left (codes "atleast:") (decimal n) (decimal m) same))
same_call calls.Value calls.Value a_may may same = refl
same_call calls.TakeAny _ a_may may same = absurd a_may
same_call calls.GiveAny _ a_may may same = absurd a_may
same_call _ calls.TakeAny a_may may same = absurd may
same_call _ calls.GiveAny a_may may same = absurd may
same_call _ _ a_may may same = absurd (omega (arith, ap first_byte same))

-- no name is empty
pub some_name : (call : NumberCall) → 0 < length (row_name call)
some_name (calls.Take n) = omega arith
some_name calls.TakeAny = omega arith
some_name (calls.Give n) = omega arith
some_name calls.GiveAny = omega arith
some_name (calls.AtLeast n) = omega arith
some_name calls.Value = omega arith

-- the name of a call is one by which it is found
pub named : (call : NumberCall) → MayBeAsked call → IsNamed MayBeAsked row_name (row_name call) (Some call)
named call may = record { has_name = (may, refl); all = λ a a_may same. ap Some (same_call a call a_may may same) }

module _ (v : Number) (known : IsNumber v) (call : NumberCall) (may : MayBeAsked call) where
  pub first_by_name : (i : ℕ) (line : NumberCall) → position (answers v.max call) v.calls ≡ Some i → slice_get v.calls i ≡ Some line → first_op (number_table v) (row_name call) ≡ Some (operation_at (2 * i) (told line (amount_of call)))
  first_by_name i line is at = sym (of_call v known (row_name call) (some_name call) call (Some (operation_at (2 * i) (told line (amount_of call)))) (named call may) (first_for v call known i line is at))

  pub none_by_name : position (answers v.max call) v.calls ≡ None → first_op (number_table v) (row_name call) ≡ None
  none_by_name none = sym (of_call v known (row_name call) (some_name call) call None (named call may) (none_for v call none))

-- no call has the name of a word and what is no amount
no_amount : (w : List ℕ) → long_number_of w ≡ None → (a : NumberCall) → MayBeAsked a → row_name a ≡ codes "take:" ++ w → None ≡ Some a
no_amount w none (calls.Take n) may same = absurd (none-some n (sym none ∙ reads_decimal w n may (append_cancel_left (codes "take:") (decimal n) w same)))
no_amount w none calls.TakeAny may same = absurd may
no_amount w none calls.GiveAny may same = absurd may
no_amount w none _ may same = absurd (omega (arith, ap first_byte same))

pub none_by_text : (v : Number) → IsNumber v → (w : List ℕ) → long_number_of w ≡ None → first_op (number_table v) (codes "take:" ++ w) ≡ None
none_by_text v known w none = no_call v known (codes "take:" ++ w) (omega arith) None (record { has_name = tt; all = no_amount w none }) refl
