-- Objects with names: their lines, and that none is another's twin.
use Rattle.std.proofs.Common.{◌≡◌, ◌∙◌, ℕ, ◌≤◌, Bool, true, false, ◌||◌, ◌&&◌, cond, leb, ltb, List, [], ◌∷◌, ◌++◌, length, Option, Some, None, is_some, refl, arith}
use Rattle.std.specs.Cmp.Lexicographic.{nat_list_eq_equiv}
use Rattle.std.specs.List.{AllByRecursion, IsDistinct, list_all, list_any, cons_option}
use Rattle.std.specs.Str.{bytes_eq}
use Rattle.std.proofs.lemmas.Bool.{leb-true, and_parts}
use Rattle.std.proofs.lemmas.Bool.Decides.{nat_tests}
use Rattle.std.proofs.lemmas.List.Folds.{list_any-append}
use Rattle.line_text.specs.Spelling.{IsWord}
use Rattle.store_text.specs.Body.{has_size, is_twin}
use Rattle.store_text.specs.Kept.{size_lines}
use Rattle.store_text.specs.Named.{names_of, AreNamed}
use Rattle.object_name.specs.ObjectName.{is_object_name, is_object_name_byte, is_same_name, IsObjectName}
use Rattle.store_text.specs.declared.line.ObjectLine.{ObjectLine}
use Rattle.history_text.specs.Canonical.{object_line, canonical_size, have_names, needed_size}
use Rattle.history_text.proofs.Follows.{HistoryLine}

-- ---- a name is a word

bytes_in_word : (w : List ℕ) → list_all is_object_name_byte w ≡ true → AllByRecursion (λ b. (33 ≤ b) × (b ≤ 126)) w
bytes_in_word [] e = tt
bytes_in_word (b ∷ w) e =
    let p = and_parts (is_object_name_byte b) (list_all is_object_name_byte w) e in
    (name_byte b p.0, bytes_in_word w p.1)
  where
    name_byte : (b : ℕ) → is_object_name_byte b ≡ true → (33 ≤ b) × (b ≤ 126)
    name_byte b e = (grind (arith, nat_tests), grind (arith, nat_tests))

pub name_is_word : (w : List ℕ) → IsObjectName w → IsWord w × (length w ≤ 64)
unfolding is_object_name
name_is_word w e =
    let a = and_parts (leb 1 (length w) && leb (length w) 64) (list_all is_object_name_byte w) e in
    let b = and_parts (leb 1 (length w)) (leb (length w) 64) a.0 in
    ((leb-true 1 (length w) b.0, bytes_in_word w a.1), leb-true (length w) 64 b.1)

-- ---- names in a text that says its size

-- a text that says this of its size may have an object of this name
abbrev pub MayHave : Option ℕ → Option (List ℕ) → Type 0
MayHave says None = Unit {0}
MayHave says (Some w) = (has_size says ≡ true) × IsObjectName w

abbrev pub MayHaveAll : Option ℕ → List ObjectLine → Type 0
MayHaveAll says objects = AllByRecursion (λ (o : ObjectLine). MayHave says o.name) objects

-- where its names are names, and it says its size if there are some, it may have all
may_have_all : (says : Option ℕ) (objects : List ObjectLine) → (have_names objects ≡ true → has_size says ≡ true) → list_all is_object_name (names_of objects) ≡ true → MayHaveAll says objects
may_have_all says [] sized each = tt
may_have_all says (o ∷ objects) sized each = go o.name sized each (may_have_all says objects)
  where
    go : (name : Option (List ℕ)) → ((is_some name || have_names objects) ≡ true → has_size says ≡ true) → list_all is_object_name (cons_option name (names_of objects)) ≡ true
        → ((have_names objects ≡ true → has_size says ≡ true) → list_all is_object_name (names_of objects) ≡ true → MayHaveAll says objects) → MayHave says name × MayHaveAll says objects
    go None sized each rest = (tt, rest sized each)
    go (Some w) sized each rest =
        let parts = and_parts (is_object_name w) (list_all is_object_name (names_of objects)) each in
        ((sized refl, parts.0), rest (λ e. sized refl) parts.1)

-- the canonical text says its size where there are names
names_sized : (objects : List ObjectLine) → have_names objects ≡ true → has_size (canonical_size objects) ≡ true
names_sized objects has = go (ltb 256 (needed_size objects)) (have_names objects) has
  where
    go : (more names : Bool) → names ≡ true → has_size (cond (more || names) (Some (needed_size objects)) None) ≡ true
    go true names e = refl
    go false true e = refl
    go false false e = absurd cc

pub canonical_names : (objects : List ObjectLine) → AreNamed objects → MayHaveAll (canonical_size objects) objects
canonical_names objects named = may_have_all (canonical_size objects) objects (names_sized objects) named.each

-- ---- no twin

-- no line before has the name of one of these objects
abbrev pub AreOther : List HistoryLine → List ObjectLine → Type 0
AreOther before objects = AllByRecursion (λ (o : ObjectLine). list_any (is_twin (object_line o)) before ≡ false) objects

-- the line of the size has no name
pub size_other : (says : Option ℕ) (objects : List ObjectLine) → AreOther (size_lines says) objects
size_other says [] = tt
size_other says (o ∷ objects) = (go says, size_other says objects)
  where
    go : (says : Option ℕ) → list_any (is_twin (object_line o)) (size_lines says) ≡ false
    go None = refl
    go (Some n) = refl

-- an object behind the others has another name than each after it
abbrev HasOther : ObjectLine → List ObjectLine → Type 0
HasOther o objects = AllByRecursion (λ (p : ObjectLine). is_same_name p.name o.name ≡ false) objects

unlike : (name : Option (List ℕ)) (objects : List ObjectLine) → ((w : List ℕ) → name ≡ Some w → AllByRecursion (λ v. bytes_eq w v ≡ false) (names_of objects)) → AllByRecursion (λ (p : ObjectLine). is_same_name p.name name ≡ false) objects
unlike name [] h = tt
unlike name (p ∷ objects) h = go p.name name h (unlike name objects)
  where
    no_name : (other : Option (List ℕ)) → is_same_name other None ≡ false
    no_name None = refl
    no_name (Some v) = refl

    go : (other name : Option (List ℕ)) → ((w : List ℕ) → name ≡ Some w → AllByRecursion (λ v. bytes_eq w v ≡ false) (cons_option other (names_of objects)))
        → (((w : List ℕ) → name ≡ Some w → AllByRecursion (λ v. bytes_eq w v ≡ false) (names_of objects)) → AllByRecursion (λ (p : ObjectLine). is_same_name p.name name ≡ false) objects)
        → (is_same_name other name ≡ false) × AllByRecursion (λ (p : ObjectLine). is_same_name p.name name ≡ false) objects
    go None name h rest = (refl, rest h)
    go (Some v) None h rest = (refl, rest (λ w e. absurd cc))
    go (Some v) (Some w) h rest = (nat_list_eq_equiv.symm v w ∙ (h w refl).0, rest (λ u e. (h u e).1))

module _ (o : ObjectLine) (objects : List ObjectLine) where
  -- the first of objects whose names are distinct has another than the rest, which are distinct
  pub distinct_first : IsDistinct bytes_eq (names_of (o ∷ objects)) → HasOther o objects × IsDistinct bytes_eq (names_of objects)
  unfolding IsDistinct
  distinct_first = go o.name
    where
      go : (name : Option (List ℕ)) → IsDistinct bytes_eq (cons_option name (names_of objects)) → AllByRecursion (λ (p : ObjectLine). is_same_name p.name name ≡ false) objects × IsDistinct bytes_eq (names_of objects)
      go None h = (unlike None objects (λ w e. absurd cc), h)
      go (Some w) h = (unlike (Some w) objects (λ v e. rw (same w v e) h.0), h.1)
        where
          same : (w v : List ℕ) → Some w ≡ Some v → v ≡ w
          same w v e = cc

-- one more line before
pub other_more : (before : List HistoryLine) (o : ObjectLine) (objects : List ObjectLine) → AreOther before objects → HasOther o objects → AreOther (before ++ object_line o ∷ []) objects
other_more before o [] h k = tt
other_more before o (p ∷ objects) h k =
    (list_any-append (is_twin (object_line p)) before (object_line o ∷ []) ∙ both _ _ h.0 k.0, other_more before o objects h.1 k.1)
  where
    both : (a b : Bool) → a ≡ false → b ≡ false → (a || (b || false)) ≡ false
    both false false e f = refl
    both true b e f = absurd cc
    both false true e f = absurd cc
