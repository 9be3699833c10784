-- The ends of a pair at a state: when it fails there, and the shortest lists that show it.
use Rattle.std.proofs.Common.{◌≡◌, ◌↔◌, ℕ, ◌<◌, ◌≤◌, ◌==◌, ◌||◌, Bool, true, false, ltb, cond, is_some, List, [], ◌∷◌, length, Option, Some, None, IsSome, IfSome, MatchOption, refl, sym, ◌∙◌, subst, inl, inr, arith, Vec}
use Rattle.std.specs.Option.{option_map}
use Rattle.std.specs.declared.alloc.Global.{Global}
use Rattle.std.proofs.lemmas.Bool.{false≢true, ltb-true, ltb-false, eqb-true, eq-eqb, or_cases, or_parts, and_parts, and_cases, eqb-false, false_from_ne_true, both_ways}
use Rattle.type_table.specs.Table.{Table, next}
use Rattle.type_table.specs.Run.{run, IsLegal, Looks, AreEqui}
use Rattle.type_table.specs.Commute.{Commutes, CommutesStrongly}
use Rattle.type_table.specs.declared.table_kind.TableKind.{TableKind}
use Rattle.type_table.specs.declared.table_kind.TableKind.TheVariants.{Undo, Intentions}
use Rattle.exact_tables.specs.Distances.{Cells, AreDistances, distance}
use Rattle.exact_tables.specs.Tell.{Tells, IsDistance, comes_before, IsDistinguishing}
use Rattle.pair_needs.specs.Ends.{AreEnds, AreAlike, IsLeastParting, IsLeastShown, IsFirstParting, IsFirstShown, lesser_of, is_later, shown_as, first_shown}
use Rattle.pair_needs.specs.Needs.{only, FailsStronglyAt}
use Rattle.pair_needs.specs.Witnesses.{Parts, IsAsked, PartsBy, Shows}
use Rattle.pair_needs.specs.declared.ends.Ends.{Ends}
use Rattle.pair_needs.specs.declared.ends.Pair.{Pair}
use Rattle.pair_needs.specs.declared.ends.Shown.{Shown}
use Rattle.pair_needs.proofs.Order.{before_trans, before_cases}

-- ---- what parts two ends

parts-tell : (T : Table) (a b : ℕ) (r : List ℕ) → Parts T (Some a) (Some b) r → Tells T (Some a) (Some b) r
parts-tell T a b r h =
    elim h.goes_on [
      | inl empty ↦ absurd (h.breaks (rw empty refl))
      | inr legal ↦ (legal, h.breaks)
    ]

tell-parts : (T : Table) (x y : Option ℕ) (r : List ℕ) → Tells T x y r → Parts T x y r
tell-parts T x y r h = record { goes_on = inr h.0; breaks = h.1 }

nothing_parts : (T : Table) (x : Option ℕ) → Parts T x None []
nothing_parts T x = record { goes_on = inl refl; breaks = λ legal. false≢true legal }

-- ---- where an order is illegal

pub least-illegal : (kind : TableKind) (T : Table) (x : Option ℕ) → IsLeastParting kind T x None 0
least-illegal kind T x = record { held_first = true; list = []; parts = nothing_parts T x; long = refl; least = λ h r parts. omega arith }

pub least-other : (T : Table) (y : Option ℕ) → IsLeastParting Intentions T None y 0
least-other T y = record { held_first = false; list = []; parts = nothing_parts T y; long = refl; least = λ h r parts. omega arith }

pub first-illegal : (kind : TableKind) (T : Table) (x : Option ℕ) (shown : Shown) → shown.held_first ≡ true → shown.tell.items ≡ [] → IsFirstParting kind T x None shown
first-illegal kind T x shown held empty = record {
  parts = rw (held, empty) (nothing_parts T x);
  shortest = λ h r parts. rw empty (omega arith);
  first = λ h r parts same. rw empty refl;
  prefers = λ parts. held;
}

pub first-other : (T : Table) (b : ℕ) (shown : Shown) → shown.held_first ≡ false → shown.tell.items ≡ [] → IsFirstParting Intentions T None (Some b) shown
first-other T b shown held empty = record {
  parts = rw (held, empty) (nothing_parts T (Some b));
  shortest = λ h r parts. rw empty (omega arith);
  first = λ h r parts same. rw empty refl;
  prefers = λ parts.
      let there : Parts T None (Some b) [] = subst (λ (r : List ℕ). Parts T None (Some b) r) empty parts in
      absurd (there.breaks refl);
}

-- ---- where both are legal: how long

pub told-undo : (T : Table) (a b : ℕ) (o : Option ℕ) → IsDistance T a b o → MatchOption o (AreAlike Undo T (Some a) (Some b)) (IsLeastParting Undo T (Some a) (Some b))
told-undo T a b None looks = looks
told-undo T a b (Some n) least = record { held_first = true; list = least.list; parts = tell-parts T (Some a) (Some b) least.list least.tells; long = least.long; least = by_side }
  where
    by_side : (h : Bool) (r : List ℕ) → PartsBy Undo T h (Some a) (Some b) r → n ≤ length r
    by_side true r parts = least.least r (parts-tell T a b r parts)
    by_side false r parts = absurd parts

pub told-deferred : (T : Table) (a b : ℕ) (one other : Option ℕ) → IsDistance T a b one → IsDistance T b a other →
    MatchOption (lesser_of one other) (AreAlike Intentions T (Some a) (Some b)) (IsLeastParting Intentions T (Some a) (Some b))
told-deferred T a b None None looks back = (looks, back)
told-deferred T a b None (Some n) looks least = record { held_first = false; list = least.list; parts = tell-parts T (Some b) (Some a) least.list least.tells; long = least.long; least = by_side }
  where
    by_side : (h : Bool) (r : List ℕ) → PartsBy Intentions T h (Some a) (Some b) r → n ≤ length r
    by_side true r parts = let tells = parts-tell T a b r parts in absurd (tells.1 (looks r tells.0))
    by_side false r parts = least.least r (parts-tell T b a r parts)
told-deferred T a b (Some m) None least back = record { held_first = true; list = least.list; parts = tell-parts T (Some a) (Some b) least.list least.tells; long = least.long; least = by_side }
  where
    by_side : (h : Bool) (r : List ℕ) → PartsBy Intentions T h (Some a) (Some b) r → m ≤ length r
    by_side true r parts = least.least r (parts-tell T a b r parts)
    by_side false r parts = let tells = parts-tell T b a r parts in absurd (tells.1 (back r tells.0))
told-deferred T a b (Some m) (Some n) one other = by_test (ltb n m) refl
  where
    by_test : (t : Bool) → ltb n m ≡ t → IsLeastParting Intentions T (Some a) (Some b) (cond t n m)
    by_test true less = record { held_first = false; list = other.list; parts = tell-parts T (Some b) (Some a) other.list other.tells; long = other.long; least = by_side }
      where
        by_side : (h : Bool) (r : List ℕ) → PartsBy Intentions T h (Some a) (Some b) r → n ≤ length r
        by_side true r parts =
            let low : m ≤ length r = one.least r (parts-tell T a b r parts) in
            let below : n < m = ltb-true n m less in
            omega (arith, low, below)
        by_side false r parts = other.least r (parts-tell T b a r parts)
    by_test false less = record { held_first = true; list = one.list; parts = tell-parts T (Some a) (Some b) one.list one.tells; long = one.long; least = by_side }
      where
        by_side : (h : Bool) (r : List ℕ) → PartsBy Intentions T h (Some a) (Some b) r → m ≤ length r
        by_side true r parts = one.least r (parts-tell T a b r parts)
        by_side false r parts =
            let low : n ≤ length r = other.least r (parts-tell T b a r parts) in
            let above : m ≤ n = ltb-false n m less in
            omega (arith, low, above)

-- ---- and which list

-- what is known of a list that is answered of two ends
abbrev IsTold : Table → ℕ → ℕ → Option (Vec ℕ Global) → Type 0
IsTold T a b list = MatchOption list (Looks T (Some a) (Some b)) (λ w. IsDistinguishing T (Some a) (Some b) w.items)

first-undo : (T : Table) (a b : ℕ) (w : Vec ℕ Global) → IsDistinguishing T (Some a) (Some b) w.items → IsFirstParting Undo T (Some a) (Some b) (shown_as true w)
first-undo T a b w is = record { parts = tell-parts T (Some a) (Some b) w.items is.tells; shortest = short; first = early; prefers = λ parts. refl }
  where
    short : (h : Bool) (r : List ℕ) → PartsBy Undo T h (Some a) (Some b) r → length w.items ≤ length r
    short true r parts = is.shortest r (parts-tell T a b r parts)
    short false r parts = absurd parts

    early : (h : Bool) (r : List ℕ) → PartsBy Undo T h (Some a) (Some b) r → length r ≡ length w.items → comes_before r w.items ≡ false
    early true r parts same = is.first r (parts-tell T a b r parts) same
    early false r parts same = absurd parts

pub told-undo_list : (T : Table) (a b : ℕ) (list : Option (Vec ℕ Global)) → IsTold T a b list →
    MatchOption (option_map (shown_as true) list) (AreAlike Undo T (Some a) (Some b)) (IsFirstParting Undo T (Some a) (Some b))
told-undo_list T a b None looks = looks
told-undo_list T a b (Some w) is = first-undo T a b w is

-- q and then p alone is parted
first-one : (T : Table) (a b : ℕ) (w : Vec ℕ Global) → IsDistinguishing T (Some a) (Some b) w.items →
    ((r : List ℕ) → Tells T (Some b) (Some a) r → length w.items ≤ length r) → ((r : List ℕ) → Tells T (Some b) (Some a) r → length r ≡ length w.items → comes_before r w.items ≡ false) →
    IsFirstParting Intentions T (Some a) (Some b) (shown_as true w)
first-one T a b w is other_long other_late = record { parts = tell-parts T (Some a) (Some b) w.items is.tells; shortest = short; first = early; prefers = λ parts. refl }
  where
    short : (h : Bool) (r : List ℕ) → PartsBy Intentions T h (Some a) (Some b) r → length w.items ≤ length r
    short true r parts = is.shortest r (parts-tell T a b r parts)
    short false r parts = other_long r (parts-tell T b a r parts)

    early : (h : Bool) (r : List ℕ) → PartsBy Intentions T h (Some a) (Some b) r → length r ≡ length w.items → comes_before r w.items ≡ false
    early true r parts same = is.first r (parts-tell T a b r parts) same
    early false r parts same = other_late r (parts-tell T b a r parts) same

-- or the other order
first-two : (T : Table) (a b : ℕ) (w : Vec ℕ Global) → IsDistinguishing T (Some b) (Some a) w.items →
    ((r : List ℕ) → Tells T (Some a) (Some b) r → length w.items ≤ length r) → ((r : List ℕ) → Tells T (Some a) (Some b) r → length r ≡ length w.items → comes_before r w.items ≡ false) →
    IsFirstParting Intentions T (Some a) (Some b) (shown_as false w)
first-two T a b w is other_long other_late = record {
  parts = tell-parts T (Some b) (Some a) w.items is.tells;
  shortest = short;
  first = early;
  prefers = λ parts. absurd ((is.tells).1 (parts-tell T a b w.items parts).0);
}
  where
    short : (h : Bool) (r : List ℕ) → PartsBy Intentions T h (Some a) (Some b) r → length w.items ≤ length r
    short true r parts = other_long r (parts-tell T a b r parts)
    short false r parts = is.shortest r (parts-tell T b a r parts)

    early : (h : Bool) (r : List ℕ) → PartsBy Intentions T h (Some a) (Some b) r → length r ≡ length w.items → comes_before r w.items ≡ false
    early true r parts same = other_late r (parts-tell T a b r parts) same
    early false r parts same = is.first r (parts-tell T b a r parts) same

-- what is later than w, by length and order, isn't before it
sooner-late : (v w r : List ℕ) → length v ≤ length r → (length r ≡ length v → comes_before r v ≡ false) → is_later v w ≡ true → length r ≡ length w → comes_before r w ≡ false
sooner-late v w r low late sooner same = false_from_ne_true (comes_before r w) (λ before. elim (or_cases (ltb (length w) (length v)) _ sooner) [
  | inl less ↦ let below = ltb-true (length w) (length v) less in omega (arith, below, low, same)
  | inr like ↦
      let parts = and_parts (length w == length v) (comes_before w v) like in
      let long : length w ≡ length v = eqb-true (length w) (length v) parts.0 in
      both_ways (comes_before r v) (late (same ∙ long)) (before_trans r w v before parts.1)
])

sooner-short : (v w : List ℕ) → is_later v w ≡ true → length w ≤ length v
sooner-short v w sooner = elim (or_cases (ltb (length w) (length v)) _ sooner) [
  | inl less ↦ let below = ltb-true (length w) (length v) less in omega (arith, below)
  | inr like ↦ let long : length w ≡ length v = eqb-true (length w) (length v) (and_parts (length w == length v) (comes_before w v) like).0 in omega (arith, long)
]

-- and the other way round
kept-short : (v w : List ℕ) → is_later v w ≡ false → length v ≤ length w
kept-short v w kept = ltb-false (length w) (length v) (or_parts (ltb (length w) (length v)) _ kept).0

kept-late : (v w r : List ℕ) → length w ≤ length r → (length r ≡ length w → comes_before r w ≡ false) → is_later v w ≡ false → length r ≡ length v → comes_before r v ≡ false
kept-late v w r low late kept same = false_from_ne_true (comes_before r v) (λ before.
    let short : length v ≤ length w = kept-short v w kept in
    let long : length w ≡ length v = omega (arith, short, low, same) in
    let not_before : comes_before w v ≡ false = elim (and_cases (length w == length v) (comes_before w v) (or_parts (ltb (length w) (length v)) _ kept).1) [
      | inl other ↦ absurd (eqb-false (length w) (length v) other long)
      | inr later ↦ later
    ] in
    let not_r : comes_before r w ≡ false = late (same ∙ sym long) in
    elim (before_cases v w (sym long)) [
      | inl equal ↦ both_ways (comes_before r w) not_r (subst (λ (u : List ℕ). comes_before r u ≡ true) equal before)
      | inr other ↦ elim other [
        | inl first ↦ both_ways (comes_before r w) not_r (before_trans r v w before first)
        | inr second ↦ both_ways (comes_before w v) not_before second
      ]
    ])

pub first-deferred : (T : Table) (a b : ℕ) (one other : Option (Vec ℕ Global)) → IsTold T a b one → IsTold T b a other →
    MatchOption (first_shown one other) (AreAlike Intentions T (Some a) (Some b)) (IsFirstParting Intentions T (Some a) (Some b))
first-deferred T a b None None looks back = (looks, back)
first-deferred T a b None (Some w) looks is = first-two T a b w is (λ r tells. absurd (tells.1 (looks r tells.0))) (λ r tells same. absurd (tells.1 (looks r tells.0)))
first-deferred T a b (Some v) None is back = first-one T a b v is (λ r tells. absurd (tells.1 (back r tells.0))) (λ r tells same. absurd (tells.1 (back r tells.0)))
first-deferred T a b (Some v) (Some w) one other = by_test (is_later v.items w.items) refl
  where
    by_test : (t : Bool) → is_later v.items w.items ≡ t → IsFirstParting Intentions T (Some a) (Some b) (cond t (shown_as false w) (shown_as true v))
    by_test true later = first-two T a b w other
        (λ r tells. let low = one.shortest r tells in let short = sooner-short v.items w.items later in omega (arith, low, short))
        (λ r tells same. sooner-late v.items w.items r (one.shortest r tells) (one.first r tells) later same)
    by_test false kept = first-one T a b v one
        (λ r tells. let low = other.shortest r tells in let short = kept-short v.items w.items kept in omega (arith, low, short))
        (λ r tells same. kept-late v.items w.items r (other.shortest r tells) (other.first r tells) kept same)

-- ---- at a state

module _ (T : Table) (p q s : ℕ) where
  abbrev held_end : Option ℕ
  held_end = run T (Some s) (q ∷ p ∷ [])

  abbrev requested_end : Option ℕ
  requested_end = run T (Some s) (p ∷ q ∷ [])

  -- nothing is asked there
  pub commutes-unasked : (kind : TableKind) → (IsAsked kind T p q s → ⊥) → Commutes kind T (only s) p q
  commutes-unasked Undo unasked = λ r member legal. absurd (unasked (subst (λ t. IsLegal T (Some t) (q ∷ p ∷ [])) (eqb-true r s member) legal))
  commutes-unasked Intentions unasked = λ r member p_next q_next.
      absurd (unasked (subst (λ t. IsSome (next T t p)) (eqb-true r s member) p_next, subst (λ t. IsSome (next T t q)) (eqb-true r s member) q_next))

  pub commutes-alike : (kind : TableKind) (a b : ℕ) → held_end ≡ Some a → requested_end ≡ Some b → AreAlike kind T (Some a) (Some b) → Commutes kind T (only s) p q
  commutes-alike Undo a b held requested alike = λ r member legal.
      let same : s ≡ r = sym (eqb-true r s member) in (
        subst (λ t. IsLegal T (Some t) (p ∷ q ∷ [])) same (rw requested refl),
        subst (λ t. Looks T (run T (Some t) (q ∷ p ∷ [])) (run T (Some t) (p ∷ q ∷ []))) same (rw (held, requested) alike),
      )
  commutes-alike Intentions a b held requested alike = λ r member p_next q_next.
      let same : s ≡ r = sym (eqb-true r s member) in
      let turned : AreEqui T (Some b) (Some a) = (alike.1, alike.0) in (
        subst (λ t. IsLegal T (Some t) (p ∷ q ∷ [])) same (rw requested refl),
        subst (λ t. IsLegal T (Some t) (q ∷ p ∷ [])) same (rw held refl),
        subst (λ t. AreEqui T (run T (Some t) (p ∷ q ∷ [])) (run T (Some t) (q ∷ p ∷ []))) same (rw (held, requested) turned),
      )

  here : (s == s) ≡ true
  here = eq-eqb s s refl

  parted : (x y : Option ℕ) (r : List ℕ) → Parts T x y r → IsSome y → Looks T x y → ⊥
  parted x y r parts there looks =
      elim parts.goes_on [
        | inl empty ↦ parts.breaks (rw empty there)
        | inr legal ↦ parts.breaks (looks r legal)
      ]

  -- what shows that the pair fails there
  pub shows-fails : (kind : TableKind) (h : Bool) (r : List ℕ) → Shows kind T p q s h r → Commutes kind T (only s) p q → ⊥
  shows-fails Undo true r shows commutes =
      let both = commutes s here shows.asked in
      parted held_end requested_end r shows.parts both.0 both.1
  shows-fails Undo false r shows commutes = shows.parts
  shows-fails Intentions true r shows commutes =
      let all = commutes s here (shows.asked).0 (shows.asked).1 in
      let equi : AreEqui T requested_end held_end = all.2 in
      parted held_end requested_end r shows.parts all.0 equi.1
  shows-fails Intentions false r shows commutes =
      let all = commutes s here (shows.asked).0 (shows.asked).1 in
      let equi : AreEqui T requested_end held_end = all.2 in
      parted requested_end held_end r shows.parts all.1 equi.0

  -- the ends that the two orders have
  pub least-shown : (kind : TableKind) (x y : Option ℕ) (n : ℕ) → IsAsked kind T p q s → held_end ≡ x → requested_end ≡ y → IsLeastParting kind T x y n → IsLeastShown kind T p q s n
  least-shown kind x y n asked held requested is = record {
    held_first = is.held_first;
    list = is.list;
    shows = record { asked = asked; parts = rw (held, requested) is.parts };
    long = is.long;
    least = λ h r shows. is.least h r (rw (held, requested) at shows.parts);
  }

  pub first-shown_here : (kind : TableKind) (x y : Option ℕ) (shown : Shown) → IsAsked kind T p q s → held_end ≡ x → requested_end ≡ y → IsFirstParting kind T x y shown → IsFirstShown kind T p q s shown
  first-shown_here kind x y shown asked held requested is = record {
    shows = record { asked = asked; parts = rw (held, requested) is.parts };
    shortest = λ h r shows. is.shortest h r (rw (held, requested) at shows.parts);
    first = λ h r shows same. is.first h r (rw (held, requested) at shows.parts) same;
    prefers = λ shows. is.prefers (rw (held, requested) at shows.parts);
  }

  -- in place q and then p is legal where anything is asked
  pub never-held : IsAsked Undo T p q s → held_end ≡ None → ⊥
  never-held asked none = false≢true (rw none at asked)

  -- with deferred update it may be illegal
  pub least-unheld : (kind : TableKind) (b : ℕ) → IsAsked kind T p q s → held_end ≡ None → requested_end ≡ Some b → IsLeastShown kind T p q s 0
  least-unheld Undo b asked none requested = absurd (never-held asked none)
  least-unheld Intentions b asked none requested = least-shown Intentions None (Some b) 0 asked none requested (least-other T (Some b))

  pub first-unheld : (kind : TableKind) (b : ℕ) (shown : Shown) → IsAsked kind T p q s → held_end ≡ None → requested_end ≡ Some b → shown.held_first ≡ false → shown.tell.items ≡ [] → IsFirstShown kind T p q s shown
  first-unheld Undo b shown asked none requested held empty = absurd (never-held asked none)
  first-unheld Intentions b shown asked none requested held empty = first-shown_here Intentions None (Some b) shown asked none requested (first-other T b shown held empty)

  -- what is known of the ends is known of the pair
  pub least-ends : (kind : TableKind) (a b : ℕ) (found : Option ℕ) → IsAsked kind T p q s → held_end ≡ Some a → requested_end ≡ Some b →
      MatchOption found (AreAlike kind T (Some a) (Some b)) (IsLeastParting kind T (Some a) (Some b)) → MatchOption found (Commutes kind T (only s) p q) (IsLeastShown kind T p q s)
  least-ends kind a b None asked held requested alike = commutes-alike kind a b held requested alike
  least-ends kind a b (Some n) asked held requested is = least-shown kind (Some a) (Some b) n asked held requested is

  pub first-ends : (kind : TableKind) (a b : ℕ) (found : Option Shown) → IsAsked kind T p q s → held_end ≡ Some a → requested_end ≡ Some b →
      MatchOption found (AreAlike kind T (Some a) (Some b)) (IsFirstParting kind T (Some a) (Some b)) → MatchOption found (Commutes kind T (only s) p q) (IsFirstShown kind T p q s)
  first-ends kind a b None asked held requested alike = commutes-alike kind a b held requested alike
  first-ends kind a b (Some shown) asked held requested is = first-shown_here kind (Some a) (Some b) shown asked held requested is

  -- ---- the stronger form

  pub strongly-unasked : (kind : TableKind) → (IsAsked kind T p q s → ⊥) → CommutesStrongly kind T (only s) p q
  strongly-unasked Undo unasked = λ r member legal. absurd (unasked (subst (λ t. IsLegal T (Some t) (q ∷ p ∷ [])) (eqb-true r s member) legal))
  strongly-unasked Intentions unasked = commutes-unasked Intentions unasked

  pub strongly-alike : (kind : TableKind) (a b : ℕ) → held_end ≡ Some a → requested_end ≡ Some b → AreEqui T (Some a) (Some b) → CommutesStrongly kind T (only s) p q
  strongly-alike Undo a b held requested alike = λ r member legal.
      let same : s ≡ r = sym (eqb-true r s member) in (
        subst (λ t. IsLegal T (Some t) (p ∷ q ∷ [])) same (rw requested refl),
        subst (λ t. AreEqui T (run T (Some t) (q ∷ p ∷ [])) (run T (Some t) (p ∷ q ∷ []))) same (rw (held, requested) alike),
      )
  strongly-alike Intentions a b held requested alike = commutes-alike Intentions a b held requested alike

  -- both ends are there and equieffective, where something is asked
  pub strongly-ends : (kind : TableKind) → IsAsked kind T p q s → CommutesStrongly kind T (only s) p q → IsSome requested_end × IsSome held_end × AreEqui T held_end requested_end
  strongly-ends Undo asked commutes = let both = commutes s here asked in (both.0, asked, both.1)
  strongly-ends Intentions asked commutes =
      let all = commutes s here asked.0 asked.1 in
      let equi : AreEqui T requested_end held_end = all.2 in
      (all.0, all.1, (equi.1, equi.0))

  -- an order that is illegal
  pub strongly-illegal : (kind : TableKind) → IsAsked kind T p q s → requested_end ≡ None → FailsStronglyAt kind T p q s
  strongly-illegal kind asked none commutes = let ends = strongly-ends kind asked commutes in false≢true (rw none at ends.0)

  pub strongly-unheld : (kind : TableKind) → IsAsked kind T p q s → held_end ≡ None → FailsStronglyAt kind T p q s
  strongly-unheld kind asked none commutes = let ends = strongly-ends kind asked commutes in false≢true (rw none at ends.1)

  -- two ends of which one is at some distance from the other
  pub strongly-known : (kind : TableKind) (a b : ℕ) (one other : Option ℕ) → IsAsked kind T p q s → held_end ≡ Some a → requested_end ≡ Some b → IsDistance T a b one → IsDistance T b a other →
      ((is_some one || is_some other) ≡ true) ↔ FailsStronglyAt kind T p q s
  strongly-known kind a b None None asked held requested looks back =
      ((λ some. absurd (false≢true some)), (λ fails. absurd (fails (strongly-alike kind a b held requested (looks, back)))))
  strongly-known kind a b None (Some n) asked held requested looks least = (
    (λ some commutes.
        let ends = strongly-ends kind asked commutes in
        let equi : AreEqui T (Some a) (Some b) = rw (held, requested) at ends.2 in
        (least.tells).1 (equi.1 least.list (least.tells).0)),
    (λ fails. refl),
  )
  strongly-known kind a b (Some n) other asked held requested least back = (
    (λ some commutes.
        let ends = strongly-ends kind asked commutes in
        let equi : AreEqui T (Some a) (Some b) = rw (held, requested) at ends.2 in
        (least.tells).1 (equi.0 least.list (least.tells).0)),
    (λ fails. refl),
  )

-- two ends, and how far each is from the other
pub strongly-measured : (T : Table) (d : Cells) (pair : Pair) (s : ℕ) (ends : Ends) (a b : ℕ) (one other : Option ℕ) → AreDistances T d → AreEnds T pair s ends → ends.held_first ≡ Some a → ends.requested_first ≡ Some b →
    one ≡ distance d a b → other ≡ distance d b a → ((is_some one || is_some other) ≡ true) ↔ FailsStronglyAt pair.kind T pair.p pair.q s
strongly-measured T d pair s ends a b one other h are held requested one_is other_is =
    let a_in : a < T.states = subst (λ (x : Option ℕ). IfSome x (λ t. t < T.states)) held are.held_inside in
    let b_in : b < T.states = subst (λ (x : Option ℕ). IfSome x (λ t. t < T.states)) requested are.requested_inside in
    strongly-known T pair.p pair.q s pair.kind a b one other are.asked (are.held_first ∙ held) (are.requested_first ∙ requested)
    (subst (λ (x : Option ℕ). IsDistance T a b x) (sym one_is) (h.each a b a_in b_in)) (subst (λ (x : Option ℕ). IsDistance T b a x) (sym other_is) (h.each b a b_in a_in))
