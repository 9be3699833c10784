-- The states at which types begin, one after another.
use Rattle.std.proofs.Common.{◌≡◌, ◌∙◌, ℕ, ◌+◌, ◌<◌, List, [], ◌∷◌, ◌++◌, length, take, Some, sym, ap}
use Rattle.std.specs.Prelude.{slice_get}
use Rattle.std.proofs.lemmas.List.{map-append}
use Rattle.type_table.proofs.Elements.{element_at, take-found}
use Rattle.table_checker.specs.Checked.{Checked}
use Rattle.journal.specs.declared.state_row.FirstState.{FirstState}
use Rattle.durable_store.specs.Epochs.{firsts}

-- one more
pub firsts-next : (types : List Checked) (x : ℕ) (f : FirstState) → x < length types → ((c : Checked) → slice_get types x ≡ Some c → f.state ≡ c.file.table.initial)
    → firsts (take (x + 1) types) ≡ firsts (take x types) ++ f ∷ []
firsts-next types x f low is =
    let (c, there) = element_at types x low in
    ap firsts (take-found types x c there) ∙ map-append (λ (c : Checked). let it : FirstState = record { state = c.file.table.initial } in it) (take x types) (c ∷ [])
    ∙ ap (λ n. firsts (take x types) ++ (let it : FirstState = record { state = n } in it) ∷ []) (sym (is c there))
