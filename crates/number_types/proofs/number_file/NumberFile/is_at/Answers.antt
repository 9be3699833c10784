use Rattle.std.proofs.Common.{◌≡◌, ℕ, ap, sym, ◌∙◌}
use Rattle.std.proofs.lemmas.Bool.{not-false}
use Rattle.std.proofs.lemmas.Slice.Eq.{bytes_eq-Decides}
use Rattle.number_types.specs.Number.{Number, number_at}
use Rattle.number_types.proofs.number_file.NumberFile.is_at.Goals as goal

-- a number of these parts, which are those of the other one but for where it begins
same-at : (a b : Number) (value : ℕ) → a.name ≡ b.name → a.max ≡ b.max → a.initial ≡ value → a.calls ≡ b.calls → a ≡ number_at b value
same-at a b value name max initial calls = λ i. record { name = name i; max = max i; initial = initial i; calls = calls i }

pub returns : goal.returns
returns c = λ same.
    let one = c.self.inside in
    let two = c.other.inside in
    let number : Number = record { name = one.name; max = one.max; initial = one.initial; calls = one.calls.items } in
    let other : Number = record { name = two.name; max = two.max; initial = two.initial; calls = two.calls.items } in
    let calls : one.calls.items ≡ two.calls.items = sym c.deref.ensures.value ∙ c.are_same.ensures same ∙ c.deref-2.ensures.value in
    sym c.self.view_is
    ∙ same-at number other c.args.value ((bytes_eq-Decides one.name two.name).0 (not-false _ (sym c.ne.ensures ∙ c.if-ne.false))) c.if-self-other.false c.if-self-value.false calls
    ∙ ap (λ (v : Number). number_at v c.args.value) c.other.view_is
