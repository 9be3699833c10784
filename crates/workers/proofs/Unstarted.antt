-- What comes back where no worker was started, and where some were.
use Rattle.std.proofs.Common.{◌≡◌, ◌<◌, List, [], ◌∷◌, ◌++◌, refl, sym, ap, ◌∙◌, append-nil, arith}
use Rattle.std.specs.List.{All}
use Rattle.object_trait.specs.declared.event.Event.{Event}
use Rattle.store_laws.specs.Stored.{Stored}
use Rattle.worker_turns.specs.declared.outcome.Report.{Report}
use Rattle.workers.specs.SharedState.{Start, past}
use Rattle.workers.specs.Worked.{HasWorked}

-- no event is of a worker below 0
none-inside : (es : List Event) → All (λ (e : Event). e.worker < 0) es → es ≡ []
none-inside [] inside = refl
none-inside (e ∷ es) inside = absurd (let low = inside 0 e (omega arith) in omega (arith, low))

-- where no worker was started, the store is as it was
pub store-same : (o : Start) (new : Stored) (reports : List Report) → HasWorked o 0 new reports → new ≡ o.store
store-same o new reports worked =
    let none = none-inside (past o new.history) worked.inside in
    let same : new.history ≡ o.store.history = sym worked.history ∙ ap (λ l. o.store.history ++ l) none ∙ append-nil o.store.history in
    worked.store ∙ ap (λ h. record o.store { history = h }) same
