-- One more line after those that are kept.
use Rattle.std.proofs.Common.{◌≡◌, ℕ, ◌+◌, ◌<◌, ◌≤◌, Bool, true, false, List, [], ◌∷◌, ◌++◌, length, map, Option, Some, None, refl, sym, ap, ◌∙◌, arith, append_assoc}
use Rattle.std.specs.Option.{option_to_list}
use Rattle.std.proofs.lemmas.List.{append-nil, length-append, length-map, map-append}
use Rattle.type_table.specs.declared.kind.Kind.{Kind}
use Rattle.line_text.specs.Rules.{last_item}
use Rattle.line_text.specs.LineTests.{is_late}
use Rattle.line_text.proofs.Items.{last_item_push}
use Rattle.store_text.specs.Body.{Body, store_rules, rank_of, has_size, one_line_if}
use Rattle.store_text.specs.Kept.{size_lines, limit_lines, line_of_object, entry_line, end_lines, lines_of_parts}
use Rattle.store_text.specs.Said.{said_sizes, said_limits, said_objects, entries_of}
use Rattle.store_text.specs.declared.line.ObjectLine.{ObjectLine}
use Rattle.store_text.specs.declared.line.Line.{Line}
use Rattle.store_text.specs.declared.line.Line.TheVariants.{Objects, Max, Object, Entry, End}

-- ---- the last line

-- a list with elements has a last one
record Ends {X : Type 0} (xs : List X) : Type 0 where
  front : List X
  last : X
  is : xs ≡ front ++ last ∷ []

ends : {X : Type 0} (x : X) (xs : List X) → Ends (x ∷ xs)
ends x [] = record { front = []; last = x; is = refl }
ends x (y ∷ xs) = let more = ends y xs in record { front = x ∷ more.front; last = more.last; is = ap (λ zs. x ∷ zs) more.is }

-- the last of mapped elements after others
last_mapped : {X Y : Type 0} (f : X → Y) (front : List Y) {xs : List X} (more : Ends xs) → front ++ map f xs ≡ (front ++ map f more.front) ++ f more.last ∷ []
last_mapped f front more = ap (λ zs. front ++ map f zs) more.is ∙ ap (λ zs. front ++ zs) (map-append f more.front (more.last ∷ [])) ∙ sym (append_assoc front (map f more.front) (f more.last ∷ []))

-- ---- what may come after a line

module _ {A : Type 0} (b : Body A) (says : Option ℕ) where
  -- after `end` nothing
  behind_end : (x : Line A) → is_late (store_rules b says) (Some End) x ≡ false → ⊥
  behind_end (Objects n) e = cc
  behind_end (Max most) e = cc
  behind_end (Object kind file name) e = cc
  behind_end (Entry y) e = cc
  behind_end End e = cc

  -- after an entry no object, no limit and no size
  behind_entry : (y : A) (x : Line A) → is_late (store_rules b says) (Some (Entry y)) x ≡ false → 3 ≤ rank_of x
  behind_entry y (Objects n) e = absurd cc
  behind_entry y (Max most) e = absurd cc
  behind_entry y (Object kind file name) e = absurd cc
  behind_entry y (Entry z) e = omega arith
  behind_entry y End e = omega arith

  -- after an object no limit and no size
  behind_object : (o : ObjectLine) (x : Line A) → is_late (store_rules b says) (Some (line_of_object o)) x ≡ false → 2 ≤ rank_of x
  behind_object o (Objects n) e = absurd cc
  behind_object o (Max most) e = absurd cc
  behind_object o (Object kind file name) e = omega arith
  behind_object o (Entry z) e = omega arith
  behind_object o End e = omega arith

  -- the sections of the limit and of the size are single lines
  single : (has : Bool) → (one_line_if has).is_single ≡ true
  single true = refl
  single false = refl

  -- so no limit comes after a limit, and no size
  behind_max : (most : ℕ) (x : Line A) → is_late (store_rules b says) (Some (Max most)) x ≡ false → 2 ≤ rank_of x
  behind_max most (Objects n) e = absurd cc
  behind_max most (Max other) e = absurd (let clash : true ≡ false = sym (single b.has_max) ∙ e in cc)
  behind_max most (Object kind file name) e = omega arith
  behind_max most (Entry z) e = omega arith
  behind_max most End e = omega arith

  -- and no size after a size
  behind_size : (n : ℕ) (x : Line A) → is_late (store_rules b says) (Some (Objects n)) x ≡ false → 1 ≤ rank_of x
  behind_size n (Objects other) e = absurd (let clash : true ≡ false = sym (single (has_size says)) ∙ e in cc)
  behind_size n (Max most) e = omega arith
  behind_size n (Object kind file name) e = omega arith
  behind_size n (Entry z) e = omega arith
  behind_size n End e = omega arith

  -- ---- what is empty where a line may come

  not_ended : (front : List (Line A)) (has_ended : Bool) (x : Line A) → is_late (store_rules b says) (last_item (front ++ end_lines has_ended)) x ≡ false → has_ended ≡ false
  not_ended front false x e = refl
  not_ended front true x e = absurd (behind_end x (rw last_item_push at e))

  no_entry : (front : List (Line A)) (entries : List A) (x : Line A) → is_late (store_rules b says) (last_item (front ++ map entry_line entries)) x ≡ false → rank_of x < 3 → entries ≡ []
  no_entry front [] x e low = refl
  no_entry front (y ∷ entries) x e low =
      let more = ends y entries in
      let is = last_mapped entry_line front more in
      absurd (omega (arith, behind_entry more.last x (rw (is, last_item_push) at e)))

  no_object : (front : List (Line A)) (objects : List ObjectLine) (x : Line A) → is_late (store_rules b says) (last_item (front ++ map line_of_object objects)) x ≡ false → rank_of x < 2 → objects ≡ []
  no_object front [] x e low = refl
  no_object front (o ∷ objects) x e low =
      let more = ends o objects in
      let is = last_mapped line_of_object front more in
      absurd (omega (arith, behind_object more.last x (rw (is, last_item_push) at e)))

  no_max : (front : List (Line A)) (max : Option ℕ) (x : Line A) → is_late (store_rules b says) (last_item (front ++ limit_lines max)) x ≡ false → rank_of x < 2 → max ≡ None
  no_max front None x e low = refl
  no_max front (Some most) x e low = absurd (omega (arith, behind_max most x (rw last_item_push at e)))

  no_size : (size : Option ℕ) (x : Line A) → is_late (store_rules b says) (last_item (size_lines size)) x ≡ false → rank_of x < 1 → size ≡ None
  no_size None x e low = refl
  no_size (Some n) x e low = absurd (omega (arith, behind_size n x e))

  module _ (size max : Option ℕ) (objects : List ObjectLine) (entries : List A) (has_ended : Bool) (x : Line A) (late : is_late (store_rules b says) (last_item (lines_of_parts size max objects entries has_ended)) x ≡ false) where
    grouped : lines_of_parts size max objects entries has_ended ≡ (((size_lines size ++ limit_lines max) ++ map line_of_object objects) ++ map entry_line entries) ++ end_lines has_ended
    grouped = sym (simp append_assoc)

    pub ended_not : has_ended ≡ false
    ended_not = not_ended (((size_lines size ++ limit_lines max) ++ map line_of_object objects) ++ map entry_line entries) has_ended x (rw grouped at late)

    entries_last : is_late (store_rules b says) (last_item (((size_lines size ++ limit_lines max) ++ map line_of_object objects) ++ map entry_line entries)) x ≡ false
    entries_last = rw (grouped, ended_not, append-nil) at late

    pub entries_none : rank_of x < 3 → entries ≡ []
    entries_none low = no_entry ((size_lines size ++ limit_lines max) ++ map line_of_object objects) entries x entries_last low

    objects_last : rank_of x < 3 → is_late (store_rules b says) (last_item ((size_lines size ++ limit_lines max) ++ map line_of_object objects)) x ≡ false
    objects_last low = rw (entries_none low, append-nil) at entries_last

    pub objects_none : rank_of x < 2 → objects ≡ []
    objects_none low = no_object (size_lines size ++ limit_lines max) objects x (objects_last (omega arith)) low

    max_last : rank_of x < 2 → is_late (store_rules b says) (last_item (size_lines size ++ limit_lines max)) x ≡ false
    max_last low = rw (objects_none low, append-nil) at (objects_last (omega arith))

    pub max_none : rank_of x < 2 → max ≡ None
    max_none low = no_max (size_lines size) max x (max_last low) low

    pub size_none : rank_of x < 1 → size ≡ None
    size_none low = no_size size x (rw (max_none (omega arith), append-nil) at (max_last (omega arith))) low

-- ---- one more line

module _ {A : Type 0} (b : Body A) (says size max : Option ℕ) (objects : List ObjectLine) (entries : List A) (has_ended : Bool) where
  -- it isn't late
  abbrev MayCome : Line A → Type 0
  MayCome x = is_late (store_rules b says) (last_item (lines_of_parts size max objects entries has_ended)) x ≡ false

  pub size_more : (n : ℕ) → MayCome (Objects n) → lines_of_parts (Some n) max objects entries has_ended ≡ lines_of_parts size max objects entries has_ended ++ Objects n ∷ []
  size_more n late =
      let x : Line A = Objects n in
      rw (ended_not b says size max objects entries has_ended x late, entries_none b says size max objects entries has_ended x late (omega arith), objects_none b says size max objects entries has_ended x late (omega arith), max_none b says size max objects entries has_ended x late (omega arith), size_none b says size max objects entries has_ended x late (omega arith)) refl

  pub max_more : (most : ℕ) → MayCome (Max most) → lines_of_parts size (Some most) objects entries has_ended ≡ lines_of_parts size max objects entries has_ended ++ Max most ∷ []
  max_more most late =
      let x : Line A = Max most in
      rw (ended_not b says size max objects entries has_ended x late, entries_none b says size max objects entries has_ended x late (omega arith), objects_none b says size max objects entries has_ended x late (omega arith), max_none b says size max objects entries has_ended x late (omega arith)) (simp append-nil)

  pub object_more : (kind : Kind) (file : ℕ) (name : Option (List ℕ)) → MayCome (Object kind file name)
      → lines_of_parts size max (objects ++ record { kind = kind; file = file; name = name } ∷ []) entries has_ended ≡ lines_of_parts size max objects entries has_ended ++ Object kind file name ∷ []
  object_more kind file name late =
      let x : Line A = Object kind file name in
      rw (ended_not b says size max objects entries has_ended x late, entries_none b says size max objects entries has_ended x late (omega arith)) (simp (map-append, append-nil, append_assoc))

  pub entry_more : (y : A) → MayCome (Entry y) → lines_of_parts size max objects (entries ++ y ∷ []) has_ended ≡ lines_of_parts size max objects entries has_ended ++ Entry y ∷ []
  entry_more y late =
      let x : Line A = Entry y in
      rw (ended_not b says size max objects entries has_ended x late) (simp (map-append, append-nil, append_assoc))

  pub end_more : MayCome End → lines_of_parts size max objects entries true ≡ lines_of_parts size max objects entries has_ended ++ End ∷ []
  end_more late =
      let x : Line A = End in
      rw (ended_not b says size max objects entries has_ended x late) (simp (append-nil, append_assoc))

-- ---- counts

-- at most one line has the size
few_sizes : (A : Type 0) (size : Option ℕ) → length (size_lines {A = A} size) ≤ 1
few_sizes A None = omega arith
few_sizes A (Some n) = omega arith

-- and at most one the limit
few_limits : (A : Type 0) (max : Option ℕ) → length (limit_lines {A = A} max) ≤ 1
few_limits A None = omega arith
few_limits A (Some most) = omega arith

few_ends : (A : Type 0) (has_ended : Bool) → length (end_lines {A = A} has_ended) ≤ 1
few_ends A false = omega arith
few_ends A true = omega arith

-- as many lines as objects and entries, and at most three more
pub few_lines : {A : Type 0} (size max : Option ℕ) (objects : List ObjectLine) (entries : List A) (has_ended : Bool) → length (lines_of_parts size max objects entries has_ended) ≤ length objects + length entries + 3
few_lines {A} size max objects entries has_ended =
    let sizes = few_sizes A size in
    let limits = few_limits A max in
    let ends = few_ends A has_ended in
    simp (length-append, length-map) (omega arith)

-- ---- what they say

-- the lines behind the limit say neither a size nor a limit
no_size_of_objects : {A : Type 0} (objects : List ObjectLine) (rest : List (Line A)) → said_sizes (map line_of_object objects ++ rest) ≡ said_sizes rest
no_size_of_objects [] rest = refl
no_size_of_objects (o ∷ objects) rest = no_size_of_objects objects rest

no_size_of_entries : {A : Type 0} (entries : List A) (has_ended : Bool) → said_sizes (map entry_line entries ++ end_lines has_ended) ≡ []
no_size_of_entries [] false = refl
no_size_of_entries [] true = refl
no_size_of_entries (y ∷ entries) has_ended = no_size_of_entries entries has_ended

no_limit_of_objects : {A : Type 0} (objects : List ObjectLine) (rest : List (Line A)) → said_limits (map line_of_object objects ++ rest) ≡ said_limits rest
no_limit_of_objects [] rest = refl
no_limit_of_objects (o ∷ objects) rest = no_limit_of_objects objects rest

no_limit_of_entries : {A : Type 0} (entries : List A) (has_ended : Bool) → said_limits (map entry_line entries ++ end_lines has_ended) ≡ []
no_limit_of_entries [] false = refl
no_limit_of_entries [] true = refl
no_limit_of_entries (y ∷ entries) has_ended = no_limit_of_entries entries has_ended

module _ {A : Type 0} (objects : List ObjectLine) (entries : List A) (has_ended : Bool) where
  no_sizes : said_sizes (map line_of_object objects ++ (map entry_line entries ++ end_lines has_ended)) ≡ []
  no_sizes = no_size_of_objects objects (map entry_line entries ++ end_lines has_ended) ∙ no_size_of_entries entries has_ended

  no_limits : said_limits (map line_of_object objects ++ (map entry_line entries ++ end_lines has_ended)) ≡ []
  no_limits = no_limit_of_objects objects (map entry_line entries ++ end_lines has_ended) ∙ no_limit_of_entries entries has_ended

  -- the lines say their size, where there is one
  pub sizes_said : (size max : Option ℕ) → said_sizes (lines_of_parts size max objects entries has_ended) ≡ option_to_list size
  sizes_said None None = no_sizes
  sizes_said None (Some most) = no_sizes
  sizes_said (Some n) None = ap (λ ns. n ∷ ns) no_sizes
  sizes_said (Some n) (Some most) = ap (λ ns. n ∷ ns) no_sizes

  -- and their limit
  pub limits_said : (size max : Option ℕ) → said_limits (lines_of_parts size max objects entries has_ended) ≡ option_to_list max
  limits_said None None = no_limits
  limits_said None (Some most) = ap (λ ns. most ∷ ns) no_limits
  limits_said (Some n) None = no_limits
  limits_said (Some n) (Some most) = ap (λ ns. most ∷ ns) no_limits

objects_again : {A : Type 0} (objects : List ObjectLine) (rest : List (Line A)) → said_objects (map line_of_object objects ++ rest) ≡ objects ++ said_objects rest
objects_again [] rest = refl
objects_again (o ∷ objects) rest = ap (λ zs. o ∷ zs) (objects_again objects rest)

no_object_said : {A : Type 0} (entries : List A) (has_ended : Bool) → said_objects (map entry_line entries ++ end_lines has_ended) ≡ []
no_object_said [] false = refl
no_object_said [] true = refl
no_object_said (y ∷ entries) has_ended = no_object_said entries has_ended

-- and their objects
pub objects_said : {A : Type 0} (size max : Option ℕ) (objects : List ObjectLine) (entries : List A) (has_ended : Bool) → said_objects (lines_of_parts size max objects entries has_ended) ≡ objects
objects_said size max objects entries has_ended = behind size max
  where
    parts : said_objects (map line_of_object objects ++ (map entry_line entries ++ end_lines has_ended)) ≡ objects
    parts = objects_again objects (map entry_line entries ++ end_lines has_ended) ∙ rw no_object_said (append-nil objects)

    behind : (size max : Option ℕ) → said_objects (lines_of_parts size max objects entries has_ended) ≡ objects
    behind None None = parts
    behind None (Some most) = parts
    behind (Some n) None = parts
    behind (Some n) (Some most) = parts

entries_again : {A : Type 0} (entries : List A) (has_ended : Bool) → entries_of (map entry_line entries ++ end_lines has_ended) ≡ entries
entries_again [] false = refl
entries_again [] true = refl
entries_again (y ∷ entries) has_ended = ap (λ zs. y ∷ zs) (entries_again entries has_ended)

no_entry_said : {A : Type 0} (objects : List ObjectLine) (rest : List (Line A)) → entries_of (map line_of_object objects ++ rest) ≡ entries_of rest
no_entry_said [] rest = refl
no_entry_said (o ∷ objects) rest = no_entry_said objects rest

-- and their entries
pub entries_said : {A : Type 0} (size max : Option ℕ) (objects : List ObjectLine) (entries : List A) (has_ended : Bool) → entries_of (lines_of_parts size max objects entries has_ended) ≡ entries
entries_said size max objects entries has_ended = behind size max
  where
    parts : entries_of (map line_of_object objects ++ (map entry_line entries ++ end_lines has_ended)) ≡ entries
    parts = no_entry_said objects (map entry_line entries ++ end_lines has_ended) ∙ entries_again entries has_ended

    behind : (size max : Option ℕ) → entries_of (lines_of_parts size max objects entries has_ended) ≡ entries
    behind None None = parts
    behind None (Some most) = parts
    behind (Some n) None = parts
    behind (Some n) (Some most) = parts
