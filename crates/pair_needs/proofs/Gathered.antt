-- The search for the pairs of states to which the ends of a pair of operations lead.
use Rattle.std.proofs.Common.{◌≡◌, ◌⊎◌, ℕ, ◌+◌, ◌<◌, ◌≤◌, ◌==◌, ◌&&◌, Bool, true, false, not, List, [], ◌∷◌, ◌++◌, length, Option, Some, None, IfSome, refl, sym, ap, ◌∙◌, subst, inl, inr, arith}
use Rattle.std.specs.List.{slice_get}
use Rattle.std.proofs.lemmas.Bool.{false≢true, cases_lt, eqb-true, eq-eqb, or_cases, or_left, or_right, and_parts, and_from, not-true, not_from_false}
use Rattle.std.proofs.lemmas.Option.{none-some, same_Some, slice_get_within}
use Rattle.equi_cert.specs.Relation.{relates, IsRelation}
use Rattle.type_table.specs.ConflictTable.{IsSquare}
use Rattle.type_table.specs.Table.{Table, IsTable, next}
use Rattle.type_table.specs.Run.{run}
use Rattle.type_table.specs.Laws.{RunsAlong, StepsWithin, EndsWithin}
use Rattle.type_table.specs.declared.table_kind.TableKind.{TableKind}
use Rattle.type_table.specs.declared.table_kind.TableKind.TheVariants.{Undo, Intentions}
use Rattle.type_table.proofs.Elements.{cases-more, found-front, found-last}
use Rattle.type_table.proofs.Legal.{run_from_none}
use Rattle.pair_needs.specs.LedPairs.{IsLedPair, AreEndsBy, IsEnd, IsKnownPair, AreGathered, KeepsPairs, IsAdded, Adds, IsBegun, HasEnds, AreAllLed, AreListed, is_lacking}
use Rattle.pair_needs.specs.Leads.{IsLedTo, AreLeads}
use Rattle.pair_needs.specs.Mends.{LeadsBoth, AreLedFrom, IsLacking, AreLacking, IsBefore}
use Rattle.declared_types.specs.declared.type_file.TypeFile.{TypeFile}
use Rattle.pair_needs.specs.Search.{IsDone}
use Rattle.pair_needs.specs.Ends.{AreEnds}
use Rattle.pair_needs.specs.declared.ends.Ends.{Ends}
use Rattle.pair_needs.specs.declared.ends.Pair.{Pair}
use Rattle.pair_needs.specs.declared.leads.Lead.{Lead}
use Rattle.pair_needs.specs.declared.mends.LedPairs.{LedPairs}
use Rattle.pair_needs.proofs.Search.{first_step}

-- ---- what two ends lead to

both-more : RunsAlong → (T : Table) (x y : Option ℕ) (a b k c d : ℕ) → LeadsBoth T x y a b → next T a k ≡ Some c → next T b k ≡ Some d → LeadsBoth T x y c d
both-more along T x y a b k c d h first second =
    (h.0 ++ k ∷ [], rw (along T x h.0 (k ∷ []), h.1) first, rw (along T y h.0 (k ∷ []), h.2) second)

led-more : RunsAlong → (kind : TableKind) (T : Table) (x y : Option ℕ) (a b k c d : ℕ) → AreLedFrom kind T x y a b → next T a k ≡ Some c → next T b k ≡ Some d → AreLedFrom kind T x y c d
led-more along Undo T x y a b k c d h first second = both-more along T x y a b k c d h first second
led-more along Intentions T x y a b k c d h first second =
    elim h [
      | inl one ↦ inl (both-more along T x y a b k c d one first second)
      | inr other ↦ inr (both-more along T y x a b k c d other first second)
    ]

pub step-led : RunsAlong → (T : Table) (pair : Pair) (a b k c d : ℕ) → IsLedPair T pair a b → next T a k ≡ Some c → next T b k ≡ Some d → IsLedPair T pair c d
step-led along T pair a b k c d h first second = record {
  state = h.state;
  led = h.led;
  after = led-more along pair.kind T (run T (Some h.state) (pair.q ∷ pair.p ∷ [])) (run T (Some h.state) (pair.p ∷ pair.q ∷ [])) a b k c d h.after first second;
}

ends-led : (kind : TableKind) (T : Table) (x y : Option ℕ) (a b : ℕ) → AreEndsBy kind x y a b → AreLedFrom kind T x y a b
ends-led Undo T x y a b h = ([], h.0, h.1)
ends-led Intentions T x y a b h =
    elim h [
      | inl one ↦ inl ([], one.0, one.1)
      | inr other ↦ inr ([], other.0, other.1)
    ]

pub end-led : (T : Table) (pair : Pair) (s a b : ℕ) → IsLedTo T s → IsEnd T pair s a b → IsLedPair T pair a b
end-led T pair s a b led h = record {
  state = s;
  led = led;
  after = ends-led pair.kind T (run T (Some s) (pair.q ∷ pair.p ∷ [])) (run T (Some s) (pair.p ∷ pair.q ∷ [])) a b h;
}

-- what ends lead to is of the table
both-inside : EndsWithin → (T : Table) (x y : Option ℕ) (a b : ℕ) → IsTable T → ((e : ℕ) → x ≡ Some e → e < T.states) → LeadsBoth T x y a b → a < T.states
both-inside within T None y a b table x_in both = absurd (none-some a (sym (run_from_none T both.0) ∙ both.1))
both-inside within T (Some e) y a b table x_in both = within T e a both.0 table (x_in e refl) both.1

led-inside : EndsWithin → (T : Table) (pair : Pair) (a b : ℕ) → IsTable T → IsLedPair T pair a b → a < T.states
led-inside within T pair a b table h = by_kind pair.kind h.after
  where
    state_in : h.state < T.states
    state_in = within T T.initial h.state (h.led).0 table table.initial_inside (h.led).1

    by_kind : (kind : TableKind) → AreLedFrom kind T (run T (Some h.state) (pair.q ∷ pair.p ∷ [])) (run T (Some h.state) (pair.p ∷ pair.q ∷ [])) a b → a < T.states
    by_kind Undo both = both-inside within T (run T (Some h.state) (pair.q ∷ pair.p ∷ [])) (run T (Some h.state) (pair.p ∷ pair.q ∷ [])) a b table (λ e is. within T h.state e (pair.q ∷ pair.p ∷ []) table state_in is) both
    by_kind Intentions both =
        elim both [
          | inl one ↦ both-inside within T (run T (Some h.state) (pair.q ∷ pair.p ∷ [])) (run T (Some h.state) (pair.p ∷ pair.q ∷ [])) a b table (λ e is. within T h.state e (pair.q ∷ pair.p ∷ []) table state_in is) one
          | inr other ↦ both-inside within T (run T (Some h.state) (pair.p ∷ pair.q ∷ [])) (run T (Some h.state) (pair.q ∷ pair.p ∷ [])) a b table (λ e is. within T h.state e (pair.p ∷ pair.q ∷ []) table state_in is) other
        ]

-- ---- one pair more

module _ (T : Table) (i k : ℕ) (old new : LedPairs) (x y : ℕ) (h : AreGathered T i k old) (x_in : x < T.states) (y_in : y < T.states) where
  known-more : IsAdded x y old new → (a b : ℕ) → IsKnownPair old.found.items a b → IsKnownPair new.found.items a b
  known-more added a b known =
      elim known [
        | inl same ↦ inl same
        | inr there ↦ inr (there.0, subst (λ (V : List (ℕ × ℕ)). slice_get V there.0 ≡ Some (a, b)) (sym added.found) (found-front old.found.items ((x, y) ∷ []) there.0 (a, b) there.1))
      ]

  last-known : IsAdded x y old new → IsKnownPair new.found.items x y
  last-known added = inr (length old.found.items, subst (λ (V : List (ℕ × ℕ)). slice_get V (length old.found.items) ≡ Some (x, y)) (sym added.found) (found-last old.found.items (x, y)))

  -- what is found was found before, or is it
  cases-added : IsAdded x y old new → (n a b : ℕ) → slice_get new.found.items n ≡ Some (a, b) → (slice_get old.found.items n ≡ Some (a, b)) ⊎ ((n ≡ length old.found.items) × (x ≡ a) × (y ≡ b))
  cases-added added n a b there =
      elim (cases-more old.found.items (x, y) n (a, b) (subst (λ (V : List (ℕ × ℕ)). slice_get V n ≡ Some (a, b)) added.found there)) [
        | inl was ↦ inl was
        | inr here ↦ inr (here.0, ap (λ (z : ℕ × ℕ). z.0) here.1, ap (λ (z : ℕ × ℕ). z.1) here.1)
      ]

  gathered-added : IsLedPair T old.pair x y → IsAdded x y old new → ((j : ℕ) → IsDone i k (length old.found.items) j → ⊥) → AreGathered T i k new
  gathered-added led added past = record {
    table = h.table;
    square = subst (λ (n : ℕ). IsSquare n new.seen) (h.square).height added.square;
    inside = λ n a b there. elim (cases-added added n a b there) [
      | inl was ↦ h.inside n a b was
      | inr here ↦ (subst (λ (z : ℕ). z < T.states) here.1 x_in, subst (λ (z : ℕ). z < T.states) here.2 y_in)
    ];
    sound = λ n a b there. subst (λ (p : Pair). IsLedPair T p a b) (sym added.pair) (elim (cases-added added n a b there) [
      | inl was ↦ h.sound n a b was
      | inr here ↦ subst (λ (z : ℕ). IsLedPair T old.pair a z) here.2 (subst (λ (z : ℕ). IsLedPair T old.pair z y) here.1 led)
    ]);
    same = λ a b a_in b_in. (
      (λ seen. elim (or_cases (relates old.seen a b) (a == x && b == y) (sym (added.seen a b) ∙ seen)) [
        | inl was ↦ known-more added a b ((h.same a b a_in b_in).0 was)
        | inr here ↦
            let both = and_parts (a == x) (b == y) here in
            subst (λ (z : ℕ). IsKnownPair new.found.items a z) (sym (eqb-true b y both.1)) (subst (λ (z : ℕ). IsKnownPair new.found.items z y) (sym (eqb-true a x both.0)) (last-known added))
      ]),
      (λ known. added.seen a b ∙ elim known [
        | inl same ↦ or_left (relates old.seen a b) _ ((h.same a b a_in b_in).1 (inl same))
        | inr there ↦ elim (cases-added added there.0 a b there.1) [
          | inl was ↦ or_left (relates old.seen a b) _ ((h.same a b a_in b_in).1 (inr (there.0, was)))
          | inr here ↦ or_right (relates old.seen a b) _ (and_from (a == x) (b == y) (eq-eqb a x (sym here.1)) (eq-eqb b y (sym here.2)))
        ]
      ]),
    );
    followed = λ n a b j a2 b2 there done first second. elim (cases-added added n a b there) [
      | inl was ↦ known-more added a2 b2 (h.followed n a b j a2 b2 was done first second)
      | inr here ↦ absurd (past j (subst (λ (m : ℕ). IsDone i k m j) here.0 done))
    ];
  }

  pub gathered-add : ((j : ℕ) → IsDone i k (length old.found.items) j → ⊥) → IsLedPair T old.pair x y → Adds x y old new →
      AreGathered T i k new × KeepsPairs old new × (new.pair ≡ old.pair) × IsKnownPair new.found.items x y
  gathered-add past led adds =
      elim adds [
        | inl was ↦ (
          subst (λ (b : LedPairs). AreGathered T i k b) (sym was.1) h,
          (λ a b known. subst (λ (c : LedPairs). IsKnownPair c.found.items a b) (sym was.1) known),
          ap (λ (b : LedPairs). b.pair) was.1,
          subst (λ (c : LedPairs). IsKnownPair c.found.items x y) (sym was.1) ((h.same x y x_in y_in).0 was.0),
        )
        | inr fresh ↦ (gathered-added led fresh.1 past, known-more fresh.1, (fresh.1).pair, last-known fresh.1)
      ]

-- ---- an operation more at a place

known-as : (found : List (ℕ × ℕ)) (a c x y : ℕ) → a ≡ x → c ≡ y → IsKnownPair found a c → IsKnownPair found x y
known-as found a c x y first second known = subst (λ (z : ℕ). IsKnownPair found x z) second (subst (λ (z : ℕ). IsKnownPair found z c) first known)

pub gathered-next : (T : Table) (i k : ℕ) (b : LedPairs) (x y : ℕ) → AreGathered T i k b → slice_get b.found.items i ≡ Some (x, y) →
    ((x2 y2 : ℕ) → next T x k ≡ Some x2 → next T y k ≡ Some y2 → IsKnownPair b.found.items x2 y2) → AreGathered T i (k + 1) b
gathered-next T i k b x y h at known = record {
  table = h.table;
  square = h.square;
  inside = h.inside;
  sound = h.sound;
  same = h.same;
  followed = λ n a c j a2 c2 there done first second. elim done [
    | inl low ↦ h.followed n a c j a2 c2 there (inl low) first second
    | inr here ↦ elim (cases_lt j k) [
      | inl below ↦ h.followed n a c j a2 c2 there (inr (here.0, below)) first second
      | inr past ↦
          let now : j ≡ k = omega (arith, past, here.1) in
          let same : (a, c) ≡ (x, y) = same_Some (a, c) (x, y) (sym there ∙ ap (slice_get b.found.items) here.0 ∙ at) in
          let a_is : a ≡ x = ap (λ (z : ℕ × ℕ). z.0) same in
          let c_is : c ≡ y = ap (λ (z : ℕ × ℕ). z.1) same in
          known a2 c2
          (subst (λ (z : ℕ). next T z k ≡ Some a2) a_is (subst (λ (z : ℕ). next T a z ≡ Some a2) now first))
          (subst (λ (z : ℕ). next T z k ≡ Some c2) c_is (subst (λ (z : ℕ). next T c z ≡ Some c2) now second))
    ]
  ];
}

-- what the operation leads to was added
pub gathered-step : RunsAlong → (T : Table) (i k : ℕ) (old new : LedPairs) (x y x2 y2 : ℕ) → AreGathered T i k old → slice_get old.found.items i ≡ Some (x, y) →
    next T x k ≡ Some x2 → next T y k ≡ Some y2 → x2 < T.states → y2 < T.states → Adds x2 y2 old new → AreGathered T i (k + 1) new × KeepsPairs old new × (new.pair ≡ old.pair)
gathered-step along T i k old new x y x2 y2 h at first second first_in second_in adds =
    let led = step-led along T old.pair x y k x2 y2 (h.sound i x y at) first second in
    let more = gathered-add T i k old new x2 y2 h first_in second_in past led adds in (
      gathered-next T i k new x y more.0 stays (λ x3 y3 one other. known-as new.found.items x2 y2 x3 y3 (same_Some x2 x3 (sym first ∙ one)) (same_Some y2 y3 (sym second ∙ other)) more.3),
      more.1,
      more.2,
    )
  where
    below : i < length old.found.items
    below = slice_get_within old.found.items i (x, y) at

    past : (j : ℕ) → IsDone i k (length old.found.items) j → ⊥
    past j done =
        elim done [
          | inl low ↦ omega (arith, low, below)
          | inr here ↦ omega (arith, here.0, below)
        ]

    stays : slice_get new.found.items i ≡ Some (x, y)
    stays =
        elim adds [
          | inl was ↦ subst (λ (b : LedPairs). slice_get b.found.items i ≡ Some (x, y)) (sym was.1) at
          | inr fresh ↦ subst (λ (V : List (ℕ × ℕ)). slice_get V i ≡ Some (x, y)) (sym (fresh.1).found) (found-front old.found.items ((x2, y2) ∷ []) i (x, y) at)
        ]

pub gathered-place : StepsWithin → (T : Table) (i k : ℕ) (b : LedPairs) → length T.ops ≤ k → AreGathered T i k b → AreGathered T (i + 1) 0 b
gathered-place within T i k b all h = record {
  table = h.table;
  square = h.square;
  inside = h.inside;
  sound = h.sound;
  same = h.same;
  followed = λ n x y j x2 y2 there done first second.
      let op : j < length T.ops = (within T x j x2 h.table first).1 in
      h.followed n x y j x2 y2 there (elim done [
        | inl low ↦ elim (cases_lt n i) [
          | inl below ↦ inl below
          | inr past ↦ inr (omega (arith, past, low), omega (arith, op, all))
        ]
        | inr here ↦ absurd (omega (arith, here.1))
      ]) first second;
}

-- ---- all

module _ (T : Table) (i : ℕ) (b : LedPairs) (h : AreGathered T i 0 b) (all : length b.found.items ≤ i) where
  known-walk : (r : List ℕ) (x y c d : ℕ) → IsKnownPair b.found.items x y → run T (Some x) r ≡ Some c → run T (Some y) r ≡ Some d → IsKnownPair b.found.items c d
  known-walk [] x y c d known first second =
      subst (λ (z : ℕ). IsKnownPair b.found.items c z) (same_Some y d second) (subst (λ (z : ℕ). IsKnownPair b.found.items z y) (same_Some x c first) known)
  known-walk (k ∷ r) x y c d known first second =
      let one = first_step T x k c r first in
      let other = first_step T y k d r second in
      known-walk r one.0 other.0 c d (elim known [
        | inl same ↦ inl (same_Some one.0 other.0 (sym one.1 ∙ ap (λ (z : ℕ). next T z k) same ∙ other.1))
        | inr there ↦
            let below = slice_get_within b.found.items there.0 (x, y) there.1 in
            h.followed there.0 x y k one.0 other.0 there.1 (inl (omega (arith, below, all))) one.1 other.1
      ]) one.2 other.2

  both-known : (x y : Option ℕ) (c d : ℕ) → ((a e : ℕ) → x ≡ Some a → y ≡ Some e → IsKnownPair b.found.items a e) → LeadsBoth T x y c d → IsKnownPair b.found.items c d
  both-known None y c d begin both = absurd (none-some c (sym (run_from_none T both.0) ∙ both.1))
  both-known (Some a) None c d begin both = absurd (none-some d (sym (run_from_none T both.0) ∙ both.2))
  both-known (Some a) (Some e) c d begin both = known-walk both.0 a e c d (begin a e refl refl) both.1 both.2

  led-known : (kind : TableKind) (x y : Option ℕ) (c d : ℕ) → ((a e : ℕ) → AreEndsBy kind x y a e → IsKnownPair b.found.items a e) → AreLedFrom kind T x y c d → IsKnownPair b.found.items c d
  led-known Undo x y c d begin both = both-known x y c d (λ a e first second. begin a e (first, second)) both
  led-known Intentions x y c d begin both =
      elim both [
        | inl one ↦ both-known x y c d (λ a e first second. begin a e (inl (first, second))) one
        | inr other ↦ both-known y x c d (λ a e first second. begin a e (inr (first, second))) other
      ]

  pub gathered-all : (leads : List Lead) → AreLeads T leads → HasEnds T b.pair leads (length leads) b → AreAllLed T b
  gathered-all leads led ends = record {
    square = h.square;
    sound = λ x y there. h.sound there.0 x y there.1;
    inside = λ x y there. h.inside there.0 x y there.1;
    same = h.same;
    all = λ x y pair_led.
        let known = led.all pair_led.state pair_led.led in
        let below = slice_get_within leads known.0 known.1 known.2 in
        led-known b.pair.kind (run T (Some pair_led.state) (b.pair.q ∷ b.pair.p ∷ [])) (run T (Some pair_led.state) (b.pair.p ∷ b.pair.q ∷ [])) x y
        (λ a e is. ends known.0 a e known.1 below known.2 (subst (λ (s : ℕ). IsEnd T b.pair s a e) (sym known.3) is)) pair_led.after;
  }

-- ---- the ends

-- no place was looked at yet
pub not_yet : (m : ℕ) (j : ℕ) → IsDone 0 0 m j → ⊥
not_yet m j done =
    elim done [
      | inl low ↦ omega (arith, low)
      | inr here ↦ omega (arith, here.1)
    ]

module _ (T : Table) (s held requested : ℕ) (old : LedPairs) (ends : Ends) (h : AreGathered T 0 0 old) (led : IsLedTo T s) (are : AreEnds T old.pair s ends)
    (held_is : ends.held_first ≡ Some held) (requested_is : ends.requested_first ≡ Some requested) where
  held_first : run T (Some s) (old.pair.q ∷ old.pair.p ∷ []) ≡ Some held
  held_first = are.held_first ∙ held_is

  requested_first : run T (Some s) (old.pair.p ∷ old.pair.q ∷ []) ≡ Some requested
  requested_first = are.requested_first ∙ requested_is

  held_in : held < T.states
  held_in = subst (λ (o : Option ℕ). IfSome o (λ t. t < T.states)) held_is are.held_inside

  requested_in : requested < T.states
  requested_in = subst (λ (o : Option ℕ). IfSome o (λ t. t < T.states)) requested_is are.requested_inside

  abbrev EndsBy : TableKind → ℕ → ℕ → Type 0
  EndsBy kind a c = AreEndsBy kind (run T (Some s) (old.pair.q ∷ old.pair.p ∷ [])) (run T (Some s) (old.pair.p ∷ old.pair.q ∷ [])) a c

  led_by : (kind : TableKind) (a c : ℕ) → old.pair.kind ≡ kind → EndsBy kind a c → IsLedPair T old.pair a c
  led_by kind a c is at = end-led T old.pair s a c led (subst (λ (k : TableKind). EndsBy k a c) (sym is) at)

  pub begun-undo : (new : LedPairs) → old.pair.kind ≡ Undo → Adds held requested old new → IsBegun T s old new
  begun-undo new undo adds =
      let one = gathered-add T 0 0 old new held requested h held_in requested_in (not_yet (length old.found.items)) (led_by Undo held requested undo (held_first, requested_first)) adds in
      record {
        gathered = one.0;
        ends = λ a c is.
            let at = subst (λ (k : TableKind). EndsBy k a c) undo is in
            known-as new.found.items held requested a c (same_Some held a (sym held_first ∙ at.0)) (same_Some requested c (sym requested_first ∙ at.1)) one.3;
        kept = one.1;
        pair = one.2;
      }

  pub begun-both : (middle new : LedPairs) → old.pair.kind ≡ Intentions → Adds held requested old middle → Adds requested held middle new → IsBegun T s old new
  begun-both middle new intentions adds more =
      let one = gathered-add T 0 0 old middle held requested h held_in requested_in (not_yet (length old.found.items)) (led_by Intentions held requested intentions (inl (held_first, requested_first))) adds in
      let led_back = subst (λ (p : Pair). IsLedPair T p requested held) (sym one.2) (led_by Intentions requested held intentions (inr (requested_first, held_first))) in
      let other = gathered-add T 0 0 middle new requested held one.0 requested_in held_in (not_yet (length middle.found.items)) led_back more in
      record {
        gathered = other.0;
        ends = λ a c is. elim (subst (λ (k : TableKind). EndsBy k a c) intentions is) [
          | inl at ↦ known-as new.found.items held requested a c (same_Some held a (sym held_first ∙ at.0)) (same_Some requested c (sym requested_first ∙ at.1)) (other.1 held requested one.3)
          | inr at ↦ known-as new.found.items requested held a c (same_Some requested a (sym requested_first ∙ at.0)) (same_Some held c (sym held_first ∙ at.1)) other.3
        ];
        kept = λ a c known. other.1 a c (one.1 a c known);
        pair = other.2 ∙ one.2;
      }

-- the ends at one state more
pub ends-more : (T : Table) (pair : Pair) (leads : List Lead) (n : ℕ) (l : Lead) (old new : LedPairs) → slice_get leads n ≡ Some l → HasEnds T pair leads n old → KeepsPairs old new →
    ((a c : ℕ) → IsEnd T pair l.state a c → IsKnownPair new.found.items a c) → HasEnds T pair leads (n + 1) new
ends-more T pair leads n l old new at before kept ends = λ i a c m low there is. elim (cases_lt i n) [
  | inl below ↦ kept a c (before i a c m below there is)
  | inr past ↦
      let here : i ≡ n = omega (arith, low, past) in
      let same : m ≡ l = same_Some m l (sym there ∙ ap (slice_get leads) here ∙ at) in
      ends a c (subst (λ (x : Lead). IsEnd T pair x.state a c) same is)
]

-- what has the ends keeps them
pub ends-kept : (T : Table) (pair : Pair) (leads : List Lead) (n : ℕ) (old new : LedPairs) → HasEnds T pair leads n old → KeepsPairs old new → HasEnds T pair leads n new
ends-kept T pair leads n old new before kept = λ i a c l low there is. kept a c (before i a c l low there is)

-- nothing was added yet
pub gathered-none : (T : Table) (b : LedPairs) → IsTable T → IsSquare T.states b.seen → ((x y : ℕ) → x < T.states → y < T.states → relates b.seen x y ≡ (x == y)) → b.found.items ≡ [] → AreGathered T 0 0 b
gathered-none T b table square seen empty = record {
  table = table;
  square = square;
  inside = λ n x y there. absurd (never n x y there);
  sound = λ n x y there. absurd (never n x y there);
  same = λ x y x_in y_in. (
    (λ is. inl (eqb-true x y (sym (seen x y x_in y_in) ∙ is))),
    (λ known. elim known [
      | inl same ↦ seen x y x_in y_in ∙ eq-eqb x y same
      | inr there ↦ absurd (never there.0 x y there.1)
    ]),
  );
  followed = λ n x y j x2 y2 there. absurd (never n x y there);
}
  where
    never : (n x y : ℕ) → slice_get b.found.items n ≡ Some (x, y) → ⊥
    never n x y there = none-some (x, y) (subst (λ (V : List (ℕ × ℕ)). slice_get V n ≡ Some (x, y)) empty there)

-- ---- in ascending order

before_never : (x y : ℕ) → IsBefore (x, y) (0, 0) → ⊥
before_never x y h =
    elim h [
      | inl low ↦ omega (arith, low)
      | inr same ↦ omega (arith, same.1)
    ]

pub listed-none : (test : ℕ → ℕ → Bool) (states : ℕ) → AreListed test states 0 0 []
listed-none test states = record {
  each = λ n x y there. absurd (none-some (x, y) there);
  inside = λ n x y there. absurd (none-some (x, y) there);
  all = λ x y y_in passes before. absurd (before_never x y before);
  ascending = λ m n x y low m_there n_there. absurd (none-some x m_there);
}

-- what comes before the next pair comes before this one, or is it
cases-before : (x y a b : ℕ) → IsBefore (x, y) (a, b + 1) → IsBefore (x, y) (a, b) ⊎ ((x ≡ a) × (y ≡ b))
cases-before x y a b h =
    elim h [
      | inl low ↦ inl (inl low)
      | inr same ↦ elim (cases_lt y b) [
        | inl below ↦ inl (inr (same.0, below))
        | inr past ↦ inr (same.0, omega (arith, past, same.1))
      ]
    ]

before-more : (x y a b : ℕ) → IsBefore (x, y) (a, b) → IsBefore (x, y) (a, b + 1)
before-more x y a b h =
    elim h [
      | inl low ↦ inl low
      | inr same ↦ inr (same.0, omega (arith, same.1))
    ]

-- the next pair passes
pub listed-add : (test : ℕ → ℕ → Bool) (states a b : ℕ) (pairs : List (ℕ × ℕ)) → a < states → b < states → test a b ≡ true → AreListed test states a b pairs → AreListed test states a (b + 1) (pairs ++ (a, b) ∷ [])
listed-add test states a b pairs a_in b_in passes h = record {
  inside = λ n x y there. elim (cases-more pairs (a, b) n (x, y) there) [
    | inl was ↦ h.inside n x y was
    | inr here ↦ (subst (λ (z : ℕ). z < states) (ap (λ (z : ℕ × ℕ). z.0) here.1) a_in, subst (λ (z : ℕ). z < states) (ap (λ (z : ℕ × ℕ). z.1) here.1) b_in)
  ];
  each = λ n x y there. elim (cases-more pairs (a, b) n (x, y) there) [
    | inl was ↦ ((h.each n x y was).0, before-more x y a b (h.each n x y was).1)
    | inr here ↦
        let x_is : a ≡ x = ap (λ (z : ℕ × ℕ). z.0) here.1 in
        let y_is : b ≡ y = ap (λ (z : ℕ × ℕ). z.1) here.1 in
        (subst (λ (z : ℕ). test x z ≡ true) y_is (subst (λ (z : ℕ). test z b ≡ true) x_is passes), inr (sym x_is, omega (arith, y_is)))
  ];
  all = λ x y y_in good before. elim (cases-before x y a b before) [
    | inl was ↦ let there = h.all x y y_in good was in (there.0, found-front pairs ((a, b) ∷ []) there.0 (x, y) there.1)
    | inr here ↦ (
      length pairs,
      subst (λ (z : ℕ). slice_get (pairs ++ (a, b) ∷ []) (length pairs) ≡ Some (x, z)) (sym here.1)
          (subst (λ (z : ℕ). slice_get (pairs ++ (a, b) ∷ []) (length pairs) ≡ Some (z, b)) (sym here.0) (found-last pairs (a, b))),
    )
  ];
  ascending = λ m n x y low m_there n_there. elim (cases-more pairs (a, b) n y n_there) [
    | inl n_was ↦ elim (cases-more pairs (a, b) m x m_there) [
      | inl m_was ↦ h.ascending m n x y low m_was n_was
      | inr m_new ↦ let below = slice_get_within pairs n y n_was in absurd (omega (arith, low, m_new.0, below))
    ]
    | inr n_new ↦ elim (cases-more pairs (a, b) m x m_there) [
      | inl m_was ↦ subst (λ (z : ℕ × ℕ). IsBefore x z) n_new.1 (h.each m x.0 x.1 m_was).1
      | inr m_new ↦ absurd (omega (arith, low, m_new.0, n_new.0))
    ]
  ];
}

-- it doesn't
pub listed-skip : (test : ℕ → ℕ → Bool) (states a b : ℕ) (pairs : List (ℕ × ℕ)) → test a b ≡ false → AreListed test states a b pairs → AreListed test states a (b + 1) pairs
listed-skip test states a b pairs fails h = record {
  each = λ n x y there. ((h.each n x y there).0, before-more x y a b (h.each n x y there).1);
  inside = h.inside;
  all = λ x y y_in good before. elim (cases-before x y a b before) [
    | inl was ↦ h.all x y y_in good was
    | inr here ↦ absurd (false≢true (sym fails ∙ subst (λ (z : ℕ). test a z ≡ true) here.1 (subst (λ (z : ℕ). test z y ≡ true) here.0 good)))
  ];
  ascending = h.ascending;
}

-- a row is over
pub listed-row : (test : ℕ → ℕ → Bool) (states a b : ℕ) (pairs : List (ℕ × ℕ)) → states ≤ b → AreListed test states a b pairs → AreListed test states (a + 1) 0 pairs
listed-row test states a b pairs over h = record {
  each = λ n x y there. (
    (h.each n x y there).0,
    elim (h.each n x y there).1 [
      | inl low ↦ inl (omega (arith, low))
      | inr same ↦ inl (omega (arith, same.0))
    ],
  );
  inside = h.inside;
  all = λ x y y_in good before. h.all x y y_in good (elim before [
    | inl low ↦ elim (cases_lt x a) [
      | inl below ↦ inl below
      | inr past ↦ inr (omega (arith, past, low), omega (arith, y_in, over))
    ]
    | inr same ↦ absurd (omega (arith, same.1))
  ]);
  ascending = h.ascending;
}

-- all rows are
pub listed-lacking : EndsWithin → (file : TypeFile) (b : LedPairs) (a : ℕ) (pairs : List (ℕ × ℕ)) → IsTable file.table → AreAllLed file.table b → IsRelation file.relation → length file.relation ≡ file.table.states →
    file.table.states ≤ a → AreListed (is_lacking b.seen file.relation) file.table.states a 0 pairs → AreLacking b.pair.kind file b.pair.p b.pair.q pairs
listed-lacking within file b a pairs table all_led relation fits over h = record {
  each = λ n x y there. passed x y (h.inside n x y there) (h.each n x y there).0;
  all = λ x y lacking.
      let is_led : IsLedPair file.table b.pair x y = record { state = lacking.state; led = lacking.led; after = lacking.after } in
      elim (all_led.all x y is_led) [
        | inl same ↦ absurd (false≢true (sym lacking.absent ∙ equal x y same (led-inside within file.table b.pair x y table is_led)))
        | inr there ↦
            let places = all_led.inside x y there in
            h.all x y places.1 (and_from (relates b.seen x y) _ ((all_led.same x y places.0 places.1).1 (inr there)) (not_from_false (relates file.relation x y) lacking.absent))
            (inl (omega (arith, places.0, over)))
      ];
  ascending = h.ascending;
}
  where
    equal : (x y : ℕ) → x ≡ y → x < file.table.states → relates file.relation x y ≡ true
    equal x y same x_in = subst (λ (z : ℕ). relates file.relation x z ≡ true) same (relation.reflexive x (omega (arith, x_in, fits)))

    passed : (x y : ℕ) → (x < file.table.states) × (y < file.table.states) → is_lacking b.seen file.relation x y ≡ true → IsLacking b.pair.kind file b.pair.p b.pair.q x y
    passed x y places good =
        let both = and_parts (relates b.seen x y) (not (relates file.relation x y)) good in
        let absent : relates file.relation x y ≡ false = not-true (relates file.relation x y) both.1 in
        elim ((all_led.same x y places.0 places.1).0 both.0) [
          | inl same ↦ absurd (false≢true (sym absent ∙ subst (λ (z : ℕ). relates file.relation x z ≡ true) same (relation.reflexive x (omega (arith, places.0, fits)))))
          | inr there ↦ let is = all_led.sound x y there in record { state = is.state; led = is.led; after = is.after; absent = absent }
        ]
