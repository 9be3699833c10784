-- The numbers of those that go over, and what a call of a transaction that is known does.
use Rattle.std.proofs.Common.{◌≡◌, ◌∙◌, ℕ, zero, suc, ◌+◌, ◌<◌, ◌≤◌, false, ◌==◌, List, [], ◌∷◌, ◌++◌, length, map, take, get_or, Some, refl, sym, ap, subst, arith}
use Rattle.std.proofs.lemmas.Bool.{eq-eqb}
use Rattle.std.proofs.lemmas.Bool.Decides.{nat_tests}
use Rattle.std.proofs.lemmas.List.{take_more}
use Rattle.std.proofs.lemmas.List.{map_push}
use Rattle.std.specs.List.{AllByRecursion}
use Rattle.type_table.proofs.Elements.{each-weaker}
use Rattle.serial_order.proofs.Pairs.{each-all}
use Rattle.std.specs.Prelude.{Option, MatchOption, Result}
use Rattle.object_calls.specs.declared.answer.Answer as calls
use Rattle.object_trait.specs.Orders.{Pairs}
use Rattle.serial_order.specs.Operations.{is_among}
use Rattle.serial_order.specs.declared.command.Command.TheVariants as command
use Rattle.serial_order.specs.declared.refusal.Refusal.{Refusal}
use Rattle.serial_order.specs.declared.refusal.Refusal.TheVariants.{NotOpen}
use Rattle.carried_runs.specs.Carried.{number_in}
use Rattle.store_laws.specs.Stored.{MayStep, Stored}
use Rattle.journal.specs.declared.prepared_row.Prepared.{Prepared}
use Rattle.durable_store.specs.Held.{Unless, prepared_numbers}
use Rattle.durable_store.specs.declared.denial.Denial.{Denial}
use Rattle.request_text.specs.declared.request.TransactionName.{TransactionName}
use Rattle.serving.specs.declared.answer_line.AnswerLine.{AnswerLine}
use Rattle.serving.specs.declared.answer_line.AnswerLine.TheVariants.{Refused}
use Rattle.serving.specs.declared.names.Carried.{Carried}
use Rattle.serving.specs.Does.{DoesCall, UnlessPrepared, call_answer}
use Rattle.serving.specs.Names.{KnownNames, carried_as, carried_given, number_named}

-- ---- those whose names were given

-- one more of them
pub given-more : (ps : List Prepared) (i : ℕ) (p : Prepared) → p ≡ get_or ps i p → i < length ps → map carried_given (take (i + 1) ps) ≡ map carried_given (take i ps) ++ carried_given p ∷ []
given-more ps i p is low = ap (map carried_given) (take_more ps i p low) ∙ (map_push carried_given (take i ps) (get_or ps i p) ∙ ap (λ (x : Prepared). map carried_given (take i ps) ++ carried_given x ∷ []) (sym is))

-- ---- those that go over

-- none is less than its place
place-from : (ns : List ℕ) (n i : ℕ) → Pairs (λ a b. a < b) ns → AllByRecursion (λ b. n ≤ b) ns → i < length ns → n + i ≤ get_or ns i 0
place-from [] n i ascend low inside = absurd (omega (arith, inside))
place-from (u ∷ ns) n zero ascend low inside = omega (arith, low.0)
place-from (u ∷ ns) n (suc i) ascend low inside =
    let rest = place-from ns (suc n) i ascend.1 (each-weaker (λ b less. omega (arith, less, low.0)) ns ascend.0) (omega (arith, inside)) in
    omega (arith, rest)

pub place-within : (ns : List ℕ) → Pairs (λ a b. a < b) ns → (i : ℕ) → i < length ns → i ≤ get_or ns i 0
place-within ns ascend i inside = let it = place-from ns 0 i ascend (each-all (λ b. omega arith) ns) inside in omega (arith, it)

each-at : (Q : ℕ → Type 0) (ns : List ℕ) (i : ℕ) → AllByRecursion Q ns → i < length ns → Q (get_or ns i 0)
each-at Q [] i all inside = absurd (omega (arith, inside))
each-at Q (n ∷ ns) zero all inside = all.0
each-at Q (n ∷ ns) (suc i) all inside = each-at Q ns i all.1 (omega (arith, inside))

-- behind as many as its place says
at-place : (ns : List ℕ) (i : ℕ) → Pairs (λ a b. a < b) ns → i < length ns → number_in ns (get_or ns i 0) ≡ i
at-place [] i ascend inside = absurd (omega (arith, inside))
at-place (n ∷ ns) zero ascend inside = rw (eq-eqb n n refl) refl
at-place (n ∷ ns) (suc i) ascend inside =
    let more = each-at (λ b. n < b) ns i ascend.0 (omega (arith, inside)) in
    let other : (n == get_or ns i 0) ≡ false = grind (arith, nat_tests, more) in
    rw other (ap suc (at-place ns i ascend.1 (omega (arith, inside))))

-- one more of them
pub over-more : (names : KnownNames) (those : List ℕ) (i : ℕ) (c : Carried) → Pairs (λ a b. a < b) those → i < length those → c ≡ record (carried_as names those (get_or those i 0)) { number = i }
    → map (carried_as names those) (take (i + 1) those) ≡ map (carried_as names those) (take i those) ++ c ∷ []
over-more names those i c ascend low is =
    let number : number_in those (get_or those i 0) ≡ i = at-place those i ascend low in
    let same : carried_as names those (get_or those i 0) ≡ c = ap (λ n. let it : Carried = record (carried_as names those (get_or those i 0)) { number = n } in it) number ∙ sym is in
    ap (map (carried_as names those)) (take_more those i 0 low) ∙ (map_push (carried_as names those) (take i those) (get_or those i 0) ∙ ap (λ x. map (carried_as names those) (take i those) ++ x ∷ []) same)

-- ---- a call

pub call-does : (names : KnownNames) (ps : List Prepared) (old : Stored) (t : TransactionName) (n x : ℕ) (name bytes : List ℕ) (r : Result calls.Answer Denial) (answer : AnswerLine) (new : Stored) → number_named names t ≡ Some n → bytes ≡ name
    → Unless (is_among (prepared_numbers ps) n) old (λ (q : Result calls.Answer Refusal). MayStep old 0 (command.Call n x bytes) q new) r new → answer ≡ call_answer new names x r → DoesCall names ps old t x name answer new
call-does names ps old t n x name bytes r answer new known exact did told =
    subst (λ (found : Option ℕ). MatchOption found ((answer ≡ Refused NotOpen) × (new ≡ old))
    (λ n. (r : Result calls.Answer Denial) × UnlessPrepared ps n old (λ (q : Result calls.Answer Refusal). MayStep old 0 (command.Call n x name) q new) r new × (answer ≡ call_answer new names x r))) (sym known)
    (r, subst (λ w. Unless (is_among (prepared_numbers ps) n) old (λ (q : Result calls.Answer Refusal). MayStep old 0 (command.Call n x w) q new) r new) exact did, told)
