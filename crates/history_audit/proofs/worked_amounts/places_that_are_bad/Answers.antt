use Rattle.std.proofs.Common.{refl, arith}
use Rattle.object_trait.specs.declared.event.EventKind.TheVariants as kind
use Rattle.number_types.specs.Examples.{purse}
use Rattle.number_types.proofs.LinePlaces.{place_from}
use Rattle.number_types.proofs.PurseExamples.{purse_is}
use Rattle.history_audit.proofs.worked_amounts.places_that_are_bad.Goals as goal

pub returns : goal.returns
returns c = record {
  second_of_value = record {
    history = (refl, tt);
    event = record { worker = 0; kind = kind.Busy 7 0 0 1 };
    there = refl;
    bad = λ may. let only = (place_from purse 7 purse_is may.1).1 refl in omega (arith, only);
  };
  past = record {
    history = (refl, tt);
    event = record { worker = 0; kind = kind.None 0 0 8 };
    there = refl;
    bad = λ may. let below = (place_from purse 8 purse_is may.1).0 in omega (arith, below);
  };
}
