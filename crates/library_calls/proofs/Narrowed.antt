-- Parameters in fewer bits, and words that are names.
use Rattle.std.proofs.Common.{◌≡◌, ℕ, Bool, true, false, ◌&&◌, List, [], ◌∷◌, map, Some, None, is_some, refl, sym, ap, ◌∙◌, inl, inr, Bor}
use Rattle.std.specs.Prelude.{filter_map, if◌then◌else◌}
use Rattle.std.specs.List.{list_all}
use Rattle.std.proofs.lemmas.Bool.{cases_Bool}
use Rattle.type_table.specs.Name.{is_name}
use Rattle.library_calls.specs.Families.{name_of}

abbrev pub Word : Type 0
Word = Bor (List ℕ)

-- a word has a name where it is one
is_some-name_of : (w : List ℕ) → is_some (name_of w) ≡ is_name w
is_some-name_of w =
    elim (cases_Bool (is_name w)) [
      | inl is ↦ ap (λ b. is_some (if b then Some w else None)) is ∙ sym is
      | inr isnt ↦ ap (λ b. is_some (if b then Some w else None)) isnt ∙ sym isnt
    ]

-- so each of them has one where they are names
pub names_tested : (ws : List Word) → list_all (λ (w : Word). is_some (name_of w.now)) ws ≡ list_all is_name (map (λ (w : Word). w.now) ws)
names_tested [] = refl
names_tested (w ∷ ws) = ap (λ b. b && list_all (λ (v : Word). is_some (name_of v.now)) ws) (is_some-name_of w.now) ∙ ap (λ b. is_name w.now && b) (names_tested ws)

first : (a b : Bool) → (a && b) ≡ true → a ≡ true
first true b both = refl
first false b both = absurd cc

second : (a b : Bool) → (a && b) ≡ true → b ≡ true
second true b both = both
second false b both = absurd cc

-- and these names are the words
pub names_found : (ws : List Word) → list_all is_name (map (λ (w : Word). w.now) ws) ≡ true → filter_map (λ (w : Word). name_of w.now) ws ≡ map (λ (w : Word). w.now) ws
names_found [] all = refl
names_found (w ∷ ws) all =
    let here : is_name w.now ≡ true = first (is_name w.now) (list_all is_name (map (λ (v : Word). v.now) ws)) all in
    let rest = names_found ws (second (is_name w.now) (list_all is_name (map (λ (v : Word). v.now) ws)) all) in
    let found : name_of w.now ≡ Some w.now = ap (λ b. if b then Some w.now else None) here in
    rw (found, rest) refl
