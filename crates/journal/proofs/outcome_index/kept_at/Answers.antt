use Rattle.std.proofs.Common.{◌≡◌, ◌∙◌, Some, Result, Ok, Err, ap, subst, sym}
use Rattle.std.specs.Prelude.{IfOk, IfSome, OnOk}
use Rattle.sqlite_trees.specs.View.{View}
use Rattle.transaction_key.specs.TransactionKey.{key_place}
use Rattle.journal.specs.declared.outcome_row.KeptOutcome.{KeptOutcome}
use Rattle.journal.specs.OutcomeIndex.{outcome_numbered}
use Rattle.journal.proofs.KnownPlaces.{none-kept, number-kept, pointer-kept, whole-kept}
use Rattle.journal.proofs.outcome_index.kept_at.Goals as goal

-- of what is known of an answer something else
of-two : {T F : Type 0} {P R : T → Type 0} {Q : Type 0} (r : Result T F) → IfOk r P → OnOk r Q → ((x : T) → P x → Q → R x) → IfOk r R
of-two (Ok x) first second turn = turn x first second
of-two (Err e) first second turn = tt

of-three : {T F : Type 0} {P Q G : T → Type 0} {R : Type 0} (r : Result T F) → IfOk r P → IfOk r Q → OnOk r R → ((x : T) → P x → Q x → R → G x) → IfOk r G
of-three (Ok x) first second third turn = turn x first second third
of-three (Err e) first second third turn = tt

pub returns-in-Some-clause-found : goal.returns-in-Some-clause-found
returns-in-Some-clause-found g c = of-two c.numbered_at.result c.numbered_at.ensures.found c.numbered_at.ensures.sound (λ found is sound clean.
    let rows = (g.S.Store.view c.args.store.now).trees 6 in
    let knows = c.requires.known (c.numbered_at.ensures.clean clean) (sound clean) in
    is clean ∙ sym (number-kept rows c.args.numbers c.args.index.now knows.counted.awaits knows.places c.args.place c.in-Some.number (sym c.number_at.ensures ∙ c.in-Some.is)))

pub returns-in-Some-Whole-clause-found : goal.returns-in-Some-Whole-clause-found
returns-in-Some-Whole-clause-found g c = λ clean.
    let rows = (g.S.Store.view c.args.store.now).trees 6 in
    let knows = c.requires.known (c.in_ok-kept.ensures.clean clean) (c.in_ok-kept.ensures.sound clean) in
    sym (whole-kept rows c.args.numbers c.args.index.now knows.counted.awaits knows.places c.args.place (sym c.number_at.ensures ∙ c.in_default.is) c.in-Some-Whole.kept
    (sym (c.in_ok-kept.ensures.found clean) ∙ c.in-Some-Whole.is ∙ ap Some c.in-Some-Whole.field-0-is))

pub returns-in-Some-Pointer-clause-found : goal.returns-in-Some-Pointer-clause-found
returns-in-Some-Pointer-clause-found g c = of-three c.led_to.result c.led_to.ensures.found c.led_to.ensures.here c.led_to.ensures.before (λ found is here before clean.
    let rows = (g.S.Store.view c.args.store.now).trees 6 in
    let between = c.led_to.ensures.clean clean in
    let knows = c.requires.known (c.in_ok-kept.ensures.clean between) (c.in_ok-kept.ensures.sound between) in
    let there : found ≡ outcome_numbered rows c.in-Some-Pointer.number = is clean ∙ ap (λ (v : View). outcome_numbered (v.trees 6) c.in-Some-Pointer.number) (c.in_ok-kept.ensures.same between) in
    there ∙ sym (pointer-kept rows c.args.numbers c.args.index.now knows.counted.awaits knows.places c.args.place (sym c.number_at.ensures ∙ c.in_default.is) c.in-Some-Pointer.number
    (sym (c.in_ok-kept.ensures.found between) ∙ c.in-Some-Pointer.is ∙ ap Some c.in-Some-Pointer.field-0-is) c.requires.low before
    (subst (λ k. IfSome k (λ (o : KeptOutcome). key_place o.kept.key ≡ c.args.place)) there here)))

pub returns-in-None-clause-found : goal.returns-in-None-clause-found
returns-in-None-clause-found g c = λ clean.
    let rows = (g.S.Store.view c.args.store.now).trees 6 in
    let knows = c.requires.known (c.in_ok-kept.ensures.clean clean) (c.in_ok-kept.ensures.sound clean) in
    sym (none-kept rows c.args.numbers c.args.index.now knows.counted.awaits knows.places c.args.place (sym c.number_at.ensures ∙ c.in_default.is)
    (sym (c.in_ok-kept.ensures.found clean) ∙ c.in-None.is))
