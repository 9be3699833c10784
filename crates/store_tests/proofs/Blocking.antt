-- Who keeps a transaction from an operation, for objects of tests.
use Rattle.std.proofs.Common.{◌≡◌, ◌<◌, ℕ, Bool, true, false, not, ltb, ◌&&◌, ◌==◌, List, [], ◌∷◌, filter, Option, Some, None, is_some, refl, sym, ap, ◌∙◌, inl, inr, arith}
use Rattle.std.specs.List.{find, AllByRecursion}
use Rattle.std.specs.Option.{option_map}
use Rattle.std.proofs.lemmas.Bool.{true≢false, false≢true, cases_Bool, le-ltb}
use Rattle.type_table.proofs.Elements.{each-weaker}
use Rattle.type_table.specs.Operation.{operation_at, place_of}
use Rattle.object_trait.specs.Steps.{IsOfAnotherOpen}
use Rattle.object_trait.specs.declared.log_entry.LogEntry.{LogEntry}

-- ---- operations of tables

-- one with an amount comes after all places
pub counted_past : (k ops : ℕ) (amount : Option ℕ) → k ≡ operation_at (place_of k) amount → is_some amount ≡ true → ops < 256 → ltb k ops ≡ false
counted_past k ops None whole some small = absurd (false≢true some)
counted_past k ops (Some n) whole some small = le-ltb k ops (omega (arith, whole, small))

-- ---- of any kind of recovery

-- where no open entry is found, none passes
none-passes : (test : LogEntry → Bool) (log : List LogEntry) →
    is_some (option_map (λ (e : LogEntry). e.by) (find test (filter (λ e. not e.done) log))) ≡ false → AllByRecursion (λ e. e.done ≡ false → test e ≡ false) log
none-passes test [] nobody = tt
none-passes test (e ∷ log) nobody =
    let found : List LogEntry → Bool = λ entries. is_some (option_map (λ (e : LogEntry). e.by) (find test (filter (λ e. not e.done) entries))) in
    elim (cases_Bool e.done) [
      | inl done ↦
          let behind : found (e ∷ log) ≡ found log = simp done in
          (λ undone. absurd (true≢false (sym done ∙ undone)), none-passes test log (sym behind ∙ nobody))
      | inr undone ↦ elim (cases_Bool (test e)) [
        | inl passes ↦
            let here : found (e ∷ log) ≡ true = simp (undone, passes) in
            absurd (true≢false (sym here ∙ nobody))
        | inr fails ↦
            let behind : found (e ∷ log) ≡ found log = simp (undone, fails) in
            (λ open_one. fails, none-passes test log (sym behind ∙ nobody))
      ]
    ]

-- where nobody keeps t from an operation, no entry of another open transaction does
pub unstopped : (stops : LogEntry → Bool) (t : ℕ) (log : List LogEntry) →
    is_some (option_map (λ (e : LogEntry). e.by) (find (λ e. not (e.by == t) && stops e) (filter (λ e. not e.done) log))) ≡ false → AllByRecursion (λ e. IsOfAnotherOpen t e → stops e ≡ false) log
unstopped stops t log nobody =
    each-weaker (λ e quiet other. ap (λ (b : Bool). not b && stops e) (sym other.1) ∙ quiet other.0) log (none-passes (λ e. not (e.by == t) && stops e) log nobody)
