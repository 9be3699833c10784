use Rattle.std.proofs.Common.{[], ◌∷◌, refl, inl, codes}
use Rattle.object_trait.specs.declared.event.EventKind.TheVariants as kind
use Rattle.attempts.proofs.worked.an_attempt_is_ended.Goals as goal

pub returns-clause-not_legal : goal.returns-clause-not_legal
returns-clause-not_legal c =
    record {
      room = refl;
      call = (0, codes "dec:1");
      there = refl;
      operations = 0 ∷ [];
      as_many = refl;
      answer = kind.None 0 0 1 ∷ [];
      ends = (1, refl, refl);
      events = refl;
    }

pub returns-clause-refused : goal.returns-clause-refused
returns-clause-refused c =
    record {
      room = refl;
      call = (9, codes "inc:1");
      there = refl;
      operations = 0 ∷ [];
      as_many = refl;
      answer = [];
      ends = (refl, inl refl);
      events = refl;
    }

pub returns-clause-busy : goal.returns-clause-busy
returns-clause-busy c =
    record {
      room = refl;
      call = (0, codes "dec:1");
      there = refl;
      operations = 0 ∷ [];
      as_many = refl;
      answer = kind.Busy 1 2 0 0 ∷ [];
      ends = (1, refl, refl);
      events = refl;
    }
