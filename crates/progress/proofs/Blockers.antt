-- Where nothing is in the way there is no blocker, whoever is named first.
use Rattle.std.proofs.Common.{◌≡◌, Bool, false, ◌&&◌, List, [], ◌∷◌, Option, None, refl}
use Rattle.std.specs.List.{AllByRecursion}
use Rattle.std.proofs.lemmas.Bool.{and_right}
use Rattle.serial_order.specs.Answer.{earliest, earliest_rather}
use Rattle.serial_order.specs.declared.entry.Entry.{Entry}

-- where none passes nothing is found
earliest-none : (test : Entry → Bool) (V : List Entry) → AllByRecursion (λ e. test e ≡ false) V → earliest test V ≡ None
earliest-none test [] none = refl
earliest-none test (e ∷ V) none = rw none.0 (earliest-none test V none.1)

-- nor where another test has to be passed too
both-none : (rather test : Entry → Bool) (V : List Entry) → AllByRecursion (λ e. test e ≡ false) V → earliest (λ e. rather e && test e) V ≡ None
both-none rather test [] none = refl
both-none rather test (e ∷ V) none = rw (and_right (rather e) (test e) none.0) (both-none rather test V none.1)

pub nobody-blocks : (rather test : Entry → Bool) (V : List Entry) → AllByRecursion (λ e. test e ≡ false) V → earliest_rather rather test V ≡ None
nobody-blocks rather test V none = rw (both-none rather test V none, earliest-none test V none) refl
