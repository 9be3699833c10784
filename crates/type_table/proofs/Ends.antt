-- Where runs end.
use Rattle.std.proofs.Common.{◌≡◌, ℕ, Bool, true, List, [], ◌∷◌, Some}
use Rattle.std.specs.Prelude.{nat_lt}
use Rattle.std.proofs.lemmas.Bool.{ltb-true, lt-ltb}
use Rattle.type_table.specs.Table.{Table, next}
use Rattle.type_table.specs.Run.{run}
use Rattle.type_table.specs.StateSet.{IsClosed}
use Rattle.type_table.specs.Laws.{StepsWithin, EndsInside, EndsWithin, LegalEnds}
use Rattle.type_table.proofs.Legal.{some_state, is_there, from_state}

-- ---- where a list is legal

-- the law of legal lists
pub legal-ends : LegalEnds
legal-ends = λ T from w legal. some_state (run T from w) legal

-- ---- sets that no step leaves

-- a run from a state of a closed set ends in one
stays_inside : (T : Table) (set : ℕ → Bool) → IsClosed T set → (w : List ℕ) (s e : ℕ) → set s ≡ true → run T (Some s) w ≡ Some e → set e ≡ true
stays_inside T set closed [] s e member ended =
    let same : s ≡ e = cc in
    rw same at member
stays_inside T set closed (k ∷ w) s e member ended =
    let step = from_state T (next T s k) w (is_there (run T (next T s k) w) e ended) in
    stays_inside T set closed w step.0 e (closed s k step.0 member step.1) (rw step.1 at ended)

-- the law of closed sets
pub ends-inside : EndsInside
ends-inside = λ T set s e w closed member ended. stays_inside T set closed w s e member ended

-- the law of tables: no step leaves the states of one
pub ends-within : StepsWithin → EndsInside → EndsWithin
ends-within steps inside = λ T s e w table below ended.
    ltb-true e T.states (inside T (λ t. nat_lt t T.states) s e w (λ a k b _ step. lt-ltb b T.states (steps T a k b table step).2) (lt-ltb s T.states below) ended)
