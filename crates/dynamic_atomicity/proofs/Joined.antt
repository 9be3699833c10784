-- Several stores: the order of first commits keeps what precedes at each.
use Rattle.std.proofs.Common.{◌≡◌, ℕ, Bool, true, false, cond, ◌&&◌, ◌||◌, ◌==◌, List, [], ◌∷◌, ◌++◌, map, filter, fold, Option, Some, None, refl, sym, ap, ◌∙◌, inl, inr, subst, append-nil, append_assoc}
use Rattle.std.specs.Option.{option_to_list}
use Rattle.std.proofs.lemmas.Bool.{cases_Bool, false≢true, true≢false, eqb-true, eq-eqb, or_cases}
use Rattle.std.proofs.lemmas.Grind.{flat_map-append}
use Rattle.std.proofs.lemmas.List.{map-append}
use Rattle.std.proofs.lemmas.List.Elements.{filter-append}
use Rattle.std.proofs.lemmas.List.Sums.{fold-append}
use Rattle.object_trait.specs.declared.event.Event.{Event}
use Rattle.object_trait.specs.declared.event.EventKind.{EventKind}
use Rattle.object_trait.specs.declared.event.EventKind.TheVariants as kind
use Rattle.object_trait.specs.declared.event.EventKind.TheVariants.{Begin, Op, Busy, Commit, Abort, Rollback}
use Rattle.serial_order.specs.Operations.{is_among}
use Rattle.serial_order.specs.History.{commits, committed_by}
use Rattle.serial_order.specs.Readings.{is_op_of}
use Rattle.dynamic_atomicity.specs.Dynamic.{comes_first, AreOnce, IsOrderOf, is_op_at, KeepsObjectPrecedes, CoveredIsAtomic, RunsAreAtomicLiving}
use Rattle.dynamic_atomicity.specs.Joined.{At, store_history, Names, parts_at, order_at, AreJoined, first_after, first_commits, JoinedOrder, JoinedIsAtomic, JoinedIsAtomicLiving}
use Rattle.serial_order.proofs.Events.{commits-snoc}
use Rattle.dynamic_atomicity.proofs.Before.{first-inside, among-append, among-filter, once-append, once-filter, once-more}
use Rattle.dynamic_atomicity.proofs.Grown.{IsFront, front-itself}

-- ---- from the left to the right

-- what is so of no events, and stays so by one more, is so of all
from_left : {E : Type 0} (P : List E → Type 0) → P [] → ((V : List E) (e : E) → P V → P (V ++ e ∷ [])) → (V : List E) → P V
from_left P start step V = on [] V start
  where
    on : (B V : List _) → P B → P (B ++ V)
    on B [] h = rw (append-nil B) h
    on B (e ∷ V) h = rw (append_assoc B (e ∷ []) V) at (on (B ++ e ∷ []) V (step B e h))

-- ---- histories

history-append : (i : ℕ) (A B : List At) → store_history i (A ++ B) ≡ store_history i A ++ store_history i B
history-append i A B = ap (map (λ (m : At). m.event)) (filter-append (λ (m : At). m.store == i) A B) ∙ map-append (λ (m : At). m.event) (filter (λ (m : At). m.store == i) A) (filter (λ (m : At). m.store == i) B)

-- the commits of a longer history
committed-more : (i : ℕ) (M : List At) (m : At) → commits (store_history i (M ++ m ∷ [])) ≡ commits (store_history i M) ++ cond (m.store == i) (committed_by m.event.kind) []
committed-more i M m =
    ap commits (history-append i M (m ∷ []))
    ∙ elim (cases_Bool (m.store == i)) [
      | inl is ↦ rw is (commits-snoc (store_history i M) m.event)
      | inr isnt ↦ rw isnt (ap commits (append-nil (store_history i M)) ∙ sym (append-nil (commits (store_history i M))))
    ]

-- where an event of one store's history comes among all
pub record IsPlaced (i : ℕ) (M : List At) (before : List Event) (e : Event) : Type 0 where
  pub all_before : List At
  pub at : At
  pub all_behind : List At
  pub whole : M ≡ all_before ++ at ∷ all_behind
  pub store : at.store ≡ i
  pub event : at.event ≡ e
  pub same : store_history i all_before ≡ before

-- after an event of another store
further : (i : ℕ) (m : At) (M : List At) (before : List Event) (e : Event) → (m.store == i) ≡ false → IsPlaced i M before e → IsPlaced i (m ∷ M) before e
further i m M before e its p = record {
  all_before = m ∷ p.all_before;
  at = p.at;
  all_behind = p.all_behind;
  whole = ap (λ W. m ∷ W) p.whole;
  store = p.store;
  event = p.event;
  same = rw its p.same;
}

-- and after one of its own
further_own : (i : ℕ) (m : At) (M : List At) (f : Event) (before : List Event) (e : Event) → (m.store == i) ≡ true → m.event ≡ f → IsPlaced i M before e → IsPlaced i (m ∷ M) (f ∷ before) e
further_own i m M f before e mine first p = record {
  all_before = m ∷ p.all_before;
  at = p.at;
  all_behind = p.all_behind;
  whole = ap (λ W. m ∷ W) p.whole;
  store = p.store;
  event = p.event;
  same = rw (mine, p.same, first) refl;
}

place : (i : ℕ) (M : List At) (before : List Event) (e : Event) (behind : List Event) → store_history i M ≡ before ++ e ∷ behind → IsPlaced i M before e
place i [] [] e behind is = absurd cc
place i [] (f ∷ before) e behind is = absurd cc
place i (m ∷ M) [] e behind is =
    elim (cases_Bool (m.store == i)) [
      | inl mine ↦
          let both : m.event ∷ store_history i M ≡ e ∷ behind = rw mine at is in
          record { all_before = []; at = m; all_behind = M; whole = refl; store = eqb-true m.store i mine; event = cc; same = refl }
      | inr its ↦ further i m M [] e its (place i M [] e behind (rw its at is))
    ]
place i (m ∷ M) (f ∷ before) e behind is =
    elim (cases_Bool (m.store == i)) [
      | inl mine ↦
          let both : m.event ∷ store_history i M ≡ f ∷ (before ++ e ∷ behind) = rw mine at is in
          let rest : store_history i M ≡ before ++ e ∷ behind = cc in
          let first : m.event ≡ f = cc in
          further_own i m M f before e mine first (place i M before e behind rest)
      | inr its ↦ further i m M (f ∷ before) e its (place i M (f ∷ before) e behind (rw its at is))
    ]

-- ---- first commits

module _ (N : Names) where
  firsts-snoc : (M : List At) (m : At) → first_commits N (M ++ m ∷ []) ≡ first_after N (first_commits N M) m.store m.event.kind
  firsts-snoc M m = fold-append (λ K (n : At). first_after N K n.store n.event.kind) [] M (m ∷ [])

  -- a list grows at its end
  longer : (K : List ℕ) (i : ℕ) (happened : EventKind) → IsFront K (first_after N K i happened)
  longer K i (Begin t) = front-itself K
  longer K i (Op k t x) = front-itself K
  longer K i (Busy c t x u) = front-itself K
  longer K i (kind.None t x c) = front-itself K
  longer K i (Abort t) = front-itself K
  longer K i (Rollback t n) = front-itself K
  longer K i (Commit t) =
      elim (cases_Bool (is_among K (N.whole i t))) [
        | inl among ↦ rw among (front-itself K)
        | inr outside ↦ rw outside (record { rest = N.whole i t ∷ []; is = refl })
      ]

  longer_by : (K : List ℕ) (B : List At) → IsFront K (fold (λ J (n : At). first_after N J n.store n.event.kind) K B)
  longer_by K [] = front-itself K
  longer_by K (m ∷ B) =
      let one = longer K m.store m.event.kind in
      let others = longer_by (first_after N K m.store m.event.kind) B in
      record { rest = one.rest ++ others.rest; is = others.is ∙ ap (λ J. J ++ others.rest) one.is ∙ append_assoc K one.rest others.rest }

  firsts-longer : (A B : List At) → IsFront (first_commits N A) (first_commits N (A ++ B))
  firsts-longer A B = rw (fold-append (λ K (n : At). first_after N K n.store n.event.kind) [] A B) (longer_by (first_commits N A) B)

  -- each once
  after-once : (K : List ℕ) (i : ℕ) (happened : EventKind) → AreOnce K → AreOnce (first_after N K i happened)
  after-once K i (Begin t) once = once
  after-once K i (Op k t x) once = once
  after-once K i (Busy c t x u) once = once
  after-once K i (kind.None t x c) once = once
  after-once K i (Abort t) once = once
  after-once K i (Rollback t n) once = once
  after-once K i (Commit t) once =
      elim (cases_Bool (is_among K (N.whole i t))) [
        | inl among ↦ rw among once
        | inr outside ↦ rw outside (once-more K (N.whole i t) outside once)
      ]

  firsts-once : (M : List At) → AreOnce (first_commits N M)
  firsts-once = from_left (λ M. AreOnce (first_commits N M)) tt (λ M m once. rw (firsts-snoc M m) (after-once (first_commits N M) m.store m.event.kind once))

  -- a transaction that committed somewhere
  record HasCommitted (M : List At) (T : ℕ) : Type 0 where
    i : ℕ
    t : ℕ
    ended : is_among (commits (store_history i M)) t ≡ true
    is : N.whole i t ≡ T

  ended-more : (i t : ℕ) (M : List At) (m : At) → is_among (commits (store_history i M)) t ≡ true → is_among (commits (store_history i (M ++ m ∷ []))) t ≡ true
  ended-more i t M m ended =
      ap (λ C. is_among C t) (committed-more i M m) ∙ among-append (commits (store_history i M)) (cond (m.store == i) (committed_by m.event.kind) []) t ∙ simp ended

  committed-longer : (M : List At) (m : At) (T : ℕ) → HasCommitted M T → HasCommitted (M ++ m ∷ []) T
  committed-longer M m T h = record { i = h.i; t = h.t; ended = ended-more h.i h.t M m h.ended; is = h.is }

  -- each of the first commits is one of some store
  from_after : (M : List At) (m : At) (happened : EventKind) (T : ℕ) → m.event.kind ≡ happened → (is_among (first_commits N M) T ≡ true → HasCommitted M T)
      → is_among (first_after N (first_commits N M) m.store happened) T ≡ true → HasCommitted (M ++ m ∷ []) T
  from_after M m (Begin t) T is h among = committed-longer M m T (h among)
  from_after M m (Op k t x) T is h among = committed-longer M m T (h among)
  from_after M m (Busy c t x u) T is h among = committed-longer M m T (h among)
  from_after M m (kind.None t x c) T is h among = committed-longer M m T (h among)
  from_after M m (Abort t) T is h among = committed-longer M m T (h among)
  from_after M m (Rollback t n) T is h among = committed-longer M m T (h among)
  from_after M m (Commit t) T is h among =
      let K = first_commits N M in
      elim (cases_Bool (is_among K (N.whole m.store t))) [
        | inl old ↦ committed-longer M m T (h (simp old at among))
        | inr new ↦ elim (or_cases (is_among K T) (is_among (N.whole m.store t ∷ []) T) (sym (among-append K (N.whole m.store t ∷ []) T) ∙ simp new at among)) [
          | inl before ↦ committed-longer M m T (h before)
          | inr now ↦ record { i = m.store; t = t; ended = here; is = last now }
        ]
      ]
    where
      here : is_among (commits (store_history m.store (M ++ m ∷ []))) t ≡ true
      here =
          ap (λ C. is_among C t) (committed-more m.store M m)
          ∙ among-append (commits (store_history m.store M)) (cond (m.store == m.store) (committed_by m.event.kind) []) t
          ∙ rw (eq-eqb m.store m.store refl, is) (or-last (is_among (commits (store_history m.store M)) t))
        where
          or-last : (x : Bool) → (x || is_among (t ∷ []) t) ≡ true
          or-last true = refl
          or-last false = let itself : (t == t) ≡ true = eq-eqb t t refl in simp itself

      last : is_among (N.whole m.store t ∷ []) T ≡ true → N.whole m.store t ≡ T
      last now = elim (cases_Bool (N.whole m.store t == T)) [
        | inl same ↦ eqb-true (N.whole m.store t) T same
        | inr other ↦ absurd (false≢true (simp other at now))
      ]

  firsts-from : (T : ℕ) (M : List At) → is_among (first_commits N M) T ≡ true → HasCommitted M T
  firsts-from T = from_left (λ M. is_among (first_commits N M) T ≡ true → HasCommitted M T) (λ among. absurd (false≢true among))
      (λ M m h among. from_after M m m.event.kind T refl h (rw (firsts-snoc M m) at among))

  -- and each commit's transaction is one of them
  has_after : (K : List ℕ) (i t : ℕ) (happened : EventKind) → is_among (committed_by happened) t ≡ true → is_among (first_after N K i happened) (N.whole i t) ≡ true
  has_after K i t (Begin u) is = absurd (false≢true is)
  has_after K i t (Op k u x) is = absurd (false≢true is)
  has_after K i t (Busy c u x v) is = absurd (false≢true is)
  has_after K i t (kind.None u x c) is = absurd (false≢true is)
  has_after K i t (Abort u) is = absurd (false≢true is)
  has_after K i t (Rollback u n) is = absurd (false≢true is)
  has_after K i t (Commit u) is =
      elim (cases_Bool (u == t)) [
        | inl same ↦ rw (eqb-true u t same) (there (N.whole i t))
        | inr other ↦ absurd (false≢true (simp other at is))
      ]
    where
      there : (T : ℕ) → is_among (cond (is_among K T) K (K ++ T ∷ [])) T ≡ true
      there T = elim (cases_Bool (is_among K T)) [
        | inl old ↦ rw old old
        | inr new ↦ rw new (among-append K (T ∷ []) T ∙ simp (new, eq-eqb T T refl))
      ]

  firsts-has : (i t : ℕ) (M : List At) → is_among (commits (store_history i M)) t ≡ true → is_among (first_commits N M) (N.whole i t) ≡ true
  firsts-has i t = from_left (λ M. is_among (commits (store_history i M)) t ≡ true → is_among (first_commits N M) (N.whole i t) ≡ true) (λ ended. absurd (false≢true ended))
      (λ M m h ended. one_more M m h ended)
    where
      one_more : (M : List At) (m : At) → (is_among (commits (store_history i M)) t ≡ true → is_among (first_commits N M) (N.whole i t) ≡ true)
          → is_among (commits (store_history i (M ++ m ∷ []))) t ≡ true → is_among (first_commits N (M ++ m ∷ [])) (N.whole i t) ≡ true
      one_more M m h ended =
          let now : List ℕ = cond (m.store == i) (committed_by m.event.kind) [] in
          elim (or_cases (is_among (commits (store_history i M)) t) (is_among now t) (sym (ap (λ C. is_among C t) (committed-more i M m) ∙ among-append (commits (store_history i M)) now t) ∙ ended)) [
            | inl before ↦
                let front = firsts-longer M (m ∷ []) in
                ap (λ K. is_among K (N.whole i t)) front.is ∙ among-append (first_commits N M) front.rest (N.whole i t) ∙ simp (h before)
            | inr last ↦ elim (cases_Bool (m.store == i)) [
              | inl at_i ↦
                  let its : is_among (committed_by m.event.kind) t ≡ true = simp at_i at last in
                  rw (firsts-snoc M m, eqb-true m.store i at_i) (has_after (first_commits N M) i t m.event.kind its)
              | inr elsewhere ↦ absurd (false≢true (simp elsewhere at last))
            ]
          ]

  -- ---- at one store

  module _ (i : ℕ) where
    -- one of the order's transactions has its part in the order at the store
    order-has : (ts : List ℕ) (T t : ℕ) → is_among ts T ≡ true → N.part i T ≡ Some t → is_among (parts_at N i ts) t ≡ true
    order-has [] T t among has = absurd (false≢true among)
    order-has (S ∷ ts) T t among has =
        among-append (option_to_list (N.part i S)) (parts_at N i ts) t ∙ elim (cases_Bool (S == T)) [
          | inl same ↦ rw (eqb-true S T same, has) (ap (λ b. b || false || is_among (parts_at N i ts) t) (eq-eqb t t refl))
          | inr other ↦ rw (order-has ts T t (simp other at among) has) (or-true (is_among (option_to_list (N.part i S)) t))
        ]
      where
        or-true : (b : Bool) → (b || true) ≡ true
        or-true true = refl
        or-true false = refl

    -- and each part is of one of them
    part_is : (S t : ℕ) (found : Option ℕ) → N.part i S ≡ found → is_among (option_to_list found) t ≡ true → N.whole i t ≡ S
    part_is S t None is among = absurd (false≢true among)
    part_is S t (Some v) is among = elim (cases_Bool (v == t)) [
      | inl same ↦ ap (N.whole i) (sym (eqb-true v t same)) ∙ N.back i S v is
      | inr other ↦ absurd (false≢true (simp other at among))
    ]

    order-from : (ts : List ℕ) (t : ℕ) → is_among (parts_at N i ts) t ≡ true → is_among ts (N.whole i t) ≡ true
    order-from [] t among = absurd (false≢true among)
    order-from (S ∷ ts) t among =
        elim (or_cases (is_among (option_to_list (N.part i S)) t) (is_among (parts_at N i ts) t) (sym (among-append (option_to_list (N.part i S)) (parts_at N i ts) t) ∙ among)) [
          | inl here ↦ ap (λ b. b || is_among ts (N.whole i t)) (eq-eqb S (N.whole i t) (sym (part_is S t (N.part i S) refl here)))
          | inr later ↦ rw (order-from ts t later) (or-true (S == N.whole i t))
        ]
      where
        or-true : (b : Bool) → (b || true) ≡ true
        or-true true = refl
        or-true false = refl

    order-once : (ts : List ℕ) → AreOnce ts → AreOnce (parts_at N i ts)
    order-once [] once = tt
    order-once (S ∷ ts) once = once-append (option_to_list (N.part i S)) (parts_at N i ts) (one (N.part i S)) (order-once ts once.1) apart
      where
        one : (found : Option ℕ) → AreOnce (option_to_list found)
        one None = tt
        one (Some t) = (refl, tt)

        apart : (t : ℕ) → is_among (parts_at N i ts) t ≡ true → is_among (option_to_list (N.part i S)) t ≡ false
        apart t later = elim (cases_Bool (is_among (option_to_list (N.part i S)) t)) [
          | inl here ↦ absurd (true≢false (sym (order-from ts t later) ∙ ap (is_among ts) (part_is S t (N.part i S) refl here) ∙ once.0))
          | inr not_here ↦ not_here
        ]

  -- ---- the law

  module _ (M : List At) (joined : AreJoined N M) (i : ℕ) where
    abbrev C : List ℕ
    C = commits (store_history i M)

    members : (t : ℕ) → is_among (order_at N M i (first_commits N M)) t ≡ is_among C t
    members t = among-filter (is_among C) (parts_at N i (first_commits N M)) t ∙ elim (cases_Bool (is_among C t)) [
      | inl ended ↦ rw (ended, order-has i (first_commits N M) (N.whole i t) t (firsts-has i t M ended) (N.there i t)) refl
      | inr pending ↦ rw pending refl
    ]

    op_of_it : (x u : ℕ) (happened : EventKind) → is_op_at x u happened ≡ true → is_op_of u happened ≡ true
    op_of_it x u (Begin t) is = absurd (false≢true is)
    op_of_it x u (Op k t y) is = elim (cases_Bool (y == x)) [ inl at_x ↦ simp at_x at is | inr elsewhere ↦ absurd (false≢true (simp elsewhere at is)) ]
    op_of_it x u (Busy c t y v) is = absurd (false≢true is)
    op_of_it x u (kind.None t y c) is = absurd (false≢true is)
    op_of_it x u (Commit t) is = absurd (false≢true is)
    op_of_it x u (Abort t) is = absurd (false≢true is)
    op_of_it x u (Rollback t n) is = absurd (false≢true is)

    kept : (x : ℕ) → KeepsObjectPrecedes x (store_history i M) (order_at N M i (first_commits N M))
    kept x t u h among =
        let p = place i M h.before h.happened h.behind h.whole in
        let A = p.all_before in
        let front = firsts-longer A (p.at ∷ p.all_behind) in
        let whole : order_at N M i (first_commits N M) ≡ filter (is_among C) (parts_at N i (first_commits N A)) ++ filter (is_among C) (parts_at N i front.rest) =
        ap (λ L. filter (is_among C) (parts_at N i (first_commits N L))) p.whole ∙ ap (λ K. filter (is_among C) (parts_at N i K)) front.is
        ∙ ap (filter (is_among C)) (flat_map-append (λ T. option_to_list (N.part i T)) (first_commits N A) front.rest)
        ∙ filter-append (is_among C) (parts_at N i (first_commits N A)) (parts_at N i front.rest) in
        let ended : is_among (commits (store_history i A)) t ≡ true = ap (λ G. is_among (commits G) t) p.same ∙ h.ended in
        let ended_after : is_among C t ≡ true =
        ap (λ G. is_among (commits G) t) h.whole ∙ ap (λ B. is_among B t) (flat_map-append (λ (e : Event). committed_by e.kind) h.before (h.happened ∷ h.behind))
        ∙ among-append (commits h.before) (commits (h.happened ∷ h.behind)) t ∙ ap (λ b. b || is_among (commits (h.happened ∷ h.behind)) t) h.ended in
        let first : is_among (filter (is_among C) (parts_at N i (first_commits N A))) t ≡ true =
        among-filter (is_among C) (parts_at N i (first_commits N A)) t ∙ rw (ended_after, order-has i (first_commits N A) (N.whole i t) t (firsts-has i t A ended) (N.there i t)) refl in
        let own : is_op_of u p.at.event.kind ≡ true = ap (λ (e : Event). is_op_of u e.kind) p.event ∙ op_of_it x u h.happened.kind h.operation in
        let none_yet : is_among (parts_at N i (first_commits N A)) u ≡ false = elim (cases_Bool (is_among (parts_at N i (first_commits N A)) u)) [
          | inl before ↦
              let g = firsts-from (N.whole i u) A (order-from i (first_commits N A) u before) in
              absurd (joined A p.all_behind p.at u g.i g.t p.whole own g.ended (g.is ∙ ap (λ j. N.whole j u) (sym p.store)))
          | inr not_before ↦ not_before
        ] in
        let later : is_among (filter (is_among C) (parts_at N i (first_commits N A))) u ≡ false =
        among-filter (is_among C) (parts_at N i (first_commits N A)) u ∙ rw none_yet (and-false (is_among C u)) in
        subst (λ ts. comes_first ts t u ≡ true) (sym whole) (first-inside (filter (is_among C) (parts_at N i (first_commits N A))) (filter (is_among C) (parts_at N i front.rest)) t u first later)
      where
        and-false : (b : Bool) → (b && false) ≡ false
        and-false true = refl
        and-false false = refl

    at_store : IsOrderOf C (order_at N M i (first_commits N M)) × ((x : ℕ) → KeepsObjectPrecedes x (store_history i M) (order_at N M i (first_commits N M)))
    at_store = (record { once = once-filter (is_among C) (parts_at N i (first_commits N M)) (order-once i (first_commits N M) (firsts-once M)); same = members }, kept)

pub joined_order : JoinedOrder
joined_order = λ N M joined i. at_store N M joined i

pub joined_is_atomic : CoveredIsAtomic → JoinedIsAtomic
joined_is_atomic atomic = λ objects N M ts runs order i x o there covered. atomic (objects i) (store_history i M) x o (runs i) there covered (order_at N M i ts) (order i).0 ((order i).1 x)

pub joined_is_atomic_living : RunsAreAtomicLiving → JoinedIsAtomicLiving
joined_is_atomic_living living = λ objects N M ts runs order i x o there covered. living (objects i) (store_history i M) x o (runs i) there covered (order_at N M i ts) (order i).0 ((order i).1 x)

-- ---- joined, event by event

abbrev pub JoinedFrom : Names → List ℕ → List At → Type 0
JoinedFrom N K [] = Unit {0}
JoinedFrom N K (m ∷ M) = ((u : ℕ) → is_op_of u m.event.kind ≡ true → is_among K (N.whole m.store u) ≡ false) × JoinedFrom N (first_after N K m.store m.event.kind) M

not_ended : (N : Names) (K : List ℕ) (before : List At) (m : At) (behind : List At) (u : ℕ) → JoinedFrom N K (before ++ m ∷ behind) → is_op_of u m.event.kind ≡ true
    → is_among (fold (λ J (n : At). first_after N J n.store n.event.kind) K before) (N.whole m.store u) ≡ false
not_ended N K [] m behind u h own = h.0 u own
not_ended N K (n ∷ before) m behind u h own = not_ended N (first_after N K n.store n.event.kind) before m behind u h.1 own

pub joined_from : (N : Names) (M : List At) → JoinedFrom N [] M → AreJoined N M
joined_from N M h before behind m u j v whole own ended is =
    let outside = not_ended N [] before m behind u (subst (JoinedFrom N []) whole h) own in
    true≢false (sym (firsts-has N j v before ended) ∙ ap (is_among (first_commits N before)) is ∙ outside)
