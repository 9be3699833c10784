-- The execution of an operation at an object.
use Rattle.std.proofs.Common.{◌≡◌, ℕ, ◌<◌, true, List, length, map, set, get_or, Option, Some, Ok, Err, Result, OnOk, OnErr, slice_get, refl, sym, ap, ◌∙◌}
use Rattle.std.specs.Option.{option_map}
use Rattle.std.specs.Result.{is_err}
use Rattle.std.proofs.lemmas.Bool.{true≢false}
use Rattle.std.proofs.lemmas.List.{map-set}
use Rattle.std.proofs.lemmas.Option.{slice_get-map, slice_get_read}
use Rattle.std.proofs.Math.Seq.{map-set_same}
use Rattle.object_trait.specs.Meaning.{Meaning}
use Rattle.object_trait.specs.Steps.{applied, IsCommit}
use Rattle.open_transactions.specs.Transactions.{Row, pushed, changed}
use Rattle.store.specs.Executed.{IsExecuted, IsCommittedAt}

-- what is said of an error holds of a call that is one
pub failed : {T E P : Type 0} (r : Result T E) → is_err r ≡ true → OnErr r P → P
failed (Ok x) wrong fact = absurd (true≢false (sym wrong))
failed (Err e) wrong fact = fact

-- what follows from what is said of a success, or of an error
pub where-ok : {T E P Q : Type 0} (r : Result T E) → (P → Q) → OnOk r P → OnOk r Q
where-ok (Ok x) so fact = so fact
where-ok (Err e) so fact = tt

pub where-err : {T E P Q : Type 0} (r : Result T E) → (P → Q) → OnErr r P → OnErr r Q
where-err (Ok x) so fact = tt
where-err (Err e) so fact = so fact

-- what is found at a place, as f sees it
pub seen-at : {A B : Type 0} (f : A → B) (xs : List A) (x : ℕ) (a : A) → x < length xs → a ≡ get_or xs x a → slice_get (map f xs) x ≡ Some (f a)
seen-at f xs x a inside is = slice_get-map f xs x ∙ ap (option_map f) (slice_get_read xs (length xs) x a refl inside is)

-- what takes the place of another to which f gives the same value
pub unseen-at : {A B : Type 0} (f : A → B) (xs : List A) (x : ℕ) (a b : A) → a ≡ get_or xs x a → f b ≡ f a → map f (set xs x b) ≡ map f xs
unseen-at f xs x a b is same = map-set_same f xs x b a (same ∙ ap f is)

-- one entry more, and one place more
pub executed : {A : Type 0} (meaning : A → Meaning) (objects : List A) (rows reserved left : List (Option Row)) (t x k : ℕ) (before after : A) → x < length objects
    → before ≡ get_or objects x before → meaning after ≡ applied (meaning before) t k → reserved ≡ rows → left ≡ changed reserved t (pushed x)
    → IsExecuted t x k (map meaning objects) (map meaning (set objects x after)) rows left
executed meaning objects rows reserved left t x k before after inside is_object does stays pushes =
    record {
      m = meaning before;
      there = seen-at meaning objects x before inside is_object;
      object = map-set meaning objects x after ∙ ap (set (map meaning objects) x) does;
      row = pushes ∙ ap (λ r. changed r t (pushed x)) stays;
    }

-- one entry, which is committed
pub committed-at : {A : Type 0} (meaning : A → Meaning) (objects : List A) (t x k : ℕ) (before after : A) → x < length objects
    → before ≡ get_or objects x before → IsCommit (applied (meaning before) t k) t (meaning after)
    → IsCommittedAt t x k (map meaning objects) (map meaning (set objects x after))
committed-at meaning objects t x k before after inside is_object does =
    record {
      m = meaning before;
      there = seen-at meaning objects x before inside is_object;
      after = meaning after;
      commits = does;
      object = map-set meaning objects x after;
    }
