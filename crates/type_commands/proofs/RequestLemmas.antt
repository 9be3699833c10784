-- What words say, all of them together.
use Rattle.std.proofs.Common.{◌≡◌, ◌≢◌, ◌&&◌, ap, refl, true, false, Bool, List, [], ◌∷◌, Bor}
use Rattle.std.specs.Prelude.{filter_map, is_some, Option, Some, None, option_and_then, option_map}
use Rattle.std.specs.List.{cons_option, list_all}
use Rattle.type_commands.specs.Request.{Text, each_of, texts}

module _ {T : Type 0} where
  -- a first word that says something is joined to the others
  first_said : (o : Option T) (b : Bool) (others : Option (List T)) (values : List T) → (is_some o && b) ≡ true → (b ≡ true → others ≡ Some values)
      → option_and_then (λ v. option_map (λ vs. v ∷ vs) others) o ≡ Some (cons_option o values)
  first_said None b others values all rest = absurd cc
  first_said (Some v) b others values all rest = ap (option_map (λ vs. v ∷ vs)) (rest all)

  -- a first word, or another, that says nothing silences all
  first_silent : (o : Option T) (b : Bool) (others : Option (List T)) → (is_some o && b) ≡ false → (b ≡ false → others ≡ None)
      → option_and_then (λ v. option_map (λ vs. v ∷ vs) others) o ≡ None
  first_silent None b others fails rest = refl
  first_silent (Some v) b others fails rest = ap (option_map (λ vs. v ∷ vs)) (rest fails)

  -- where each word says something, all of them say these values
  pub all_said : (read : Text → Option T) (words : List (Bor Text)) → list_all (λ (w : Bor Text). is_some (read w.now)) words ≡ true
      → each_of read (texts words) ≡ Some (filter_map (λ (w : Bor Text). read w.now) words)
  all_said read [] all = refl
  all_said read (w ∷ words) all =
      first_said (read w.now) (list_all (λ (w : Bor Text). is_some (read w.now)) words) (each_of read (texts words)) (filter_map (λ (w : Bor Text). read w.now) words) all (all_said read words)

  -- where one of them says nothing, neither do all
  pub none_said : (read : Text → Option T) (words : List (Bor Text)) → list_all (λ (w : Bor Text). is_some (read w.now)) words ≡ false
      → each_of read (texts words) ≡ None
  none_said read [] fails = absurd cc
  none_said read (w ∷ words) fails =
      first_silent (read w.now) (list_all (λ (w : Bor Text). is_some (read w.now)) words) (each_of read (texts words)) fails (none_said read words)

  -- something is not nothing
  pub some_said : (o : Option T) (value : T) → o ≡ Some value → o ≢ None
  some_said o value is none = absurd cc
