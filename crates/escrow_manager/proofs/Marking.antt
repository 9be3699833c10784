-- From each transaction's mark to the marks of all of them, and back.
use Rattle.std.proofs.Common.{◌≡◌, ℕ, suc, ltb, ◌<◌, true, false, not, eqb, List, [], ◌∷◌, ◌++◌, Contains, Some, refl, sym, ap, subst, ◌∙◌, inl, inr, arith}
use Rattle.std.specs.Prelude.{slice_get}
use Rattle.std.specs.List.{list_any, AllByRecursion}
use Rattle.std.proofs.lemmas.Bool.{cases_Bool, cases_lt, false≢true, eqb-true, eq-eqb, ne_eqb}
use Rattle.type_table.proofs.Elements.{differ_turned, each-weaker}
use Rattle.escrow_laws.specs.Firm.{IsIdleFrom}
use Rattle.escrow_laws.specs.Marks.{unmarked, mark_after, marked_by, marked_on, mark_of, HaveOneMarkEach, AreMarks}
use Rattle.escrow_laws.specs.declared.bounded.Bounded.{Bounded}
use Rattle.escrow_laws.specs.declared.mark.Mark.{Mark}
use Rattle.escrow_laws.specs.declared.mark.OpenMark.{OpenMark}
use Rattle.escrow_manager.specs.Marks.{mark_owner, mark_owners, MarksAscend, mark_in, with_mark, without_mark}
use Rattle.escrow_manager.specs.Kept.{AreMarksOf}
use Rattle.object_trait.proofs.Rows.{ordered-put, ordered-dropped}
use Rattle.escrow_manager.proofs.Seeing.{seen-put, seen-put_other, seen-dropped, seen-dropped_other}

-- ---- marks in their order

-- each differs from a smaller one
differ-later : (x : ℕ) (marks : List OpenMark) → AllByRecursion (λ y. x < y) (mark_owners marks) → AllByRecursion (λ (q : OpenMark). eqb q.by x ≡ false) marks
differ-later x [] later = tt
differ-later x (o ∷ marks) later = ((let below = later.0 in ne_eqb o.by x (λ e. omega (arith, below, e))), differ-later x marks later.1)

-- so no two are of one transaction
ordered-once : (marks : List OpenMark) → MarksAscend marks → HaveOneMarkEach marks
ordered-once [] ordered = tt
ordered-once (o ∷ marks) ordered = (differ-later o.by marks ordered.0, ordered-once marks ordered.1)

-- and each is the one that is found
found-later : (top : ℕ) (o : OpenMark) (marks : List OpenMark) → AllByRecursion (λ (q : OpenMark). eqb q.by o.by ≡ false) marks → AllByRecursion (λ (q : OpenMark). mark_in top q.by marks ≡ q.mark) marks →
    (qs : List OpenMark) → AllByRecursion (λ (q : OpenMark). eqb q.by o.by ≡ false) qs → AllByRecursion (λ (q : OpenMark). mark_in top q.by marks ≡ q.mark) qs →
    AllByRecursion (λ (q : OpenMark). mark_in top q.by (o ∷ marks) ≡ q.mark) qs
found-later top o marks differ found [] differs founds = tt
found-later top o marks differ found (q ∷ qs) differs founds =
    (rw (differ_turned o.by q.by differs.0) founds.0, found-later top o marks differ found qs differs.1 founds.1)

pub each-found : (top : ℕ) (marks : List OpenMark) → MarksAscend marks → AllByRecursion (λ (q : OpenMark). mark_in top q.by marks ≡ q.mark) marks
each-found top [] ordered = tt
each-found top (o ∷ marks) ordered =
    let differ = differ-later o.by marks ordered.0 in
    let rest = each-found top marks ordered.1 in
    (rw (eq-eqb o.by o.by refl) refl, found-later top o marks differ rest marks differ rest)

-- whose mark is found is listed
in-any : (top : ℕ) (marks : List OpenMark) (u : ℕ) → list_any (λ (o : OpenMark). eqb o.by u) marks ≡ true → Contains marks (record { by = u; mark = mark_in top u marks })
in-any top [] u some = absurd (false≢true some)
in-any top (o ∷ marks) u some =
    elim (cases_Bool (eqb o.by u)) [
      | inl is ↦ let same : o.by ≡ u = eqb-true o.by u is in rw is (subst (λ n. Contains (o ∷ marks) (record { by = n; mark = o.mark })) same (0, omega arith, refl))
      | inr other ↦
          let rest = in-any top marks u (rw other at some) in
          let inside = rest.1 in
          rw other (suc rest.0, omega (arith, inside), rest.2)
    ]

-- ---- what a transaction did, and one more

pub mark-more : (top : ℕ) (ops : List Bounded) (ks : List ℕ) (k : ℕ) (b : Bounded) → slice_get ops k ≡ Some b → mark_of top ops (ks ++ k ∷ []) ≡ mark_after (mark_of top ops ks) b
mark-more top ops ks k b found = marked-more (unmarked top) ks
  where
    marked-more : (m : Mark) (ks : List ℕ) → marked_on ops m (ks ++ k ∷ []) ≡ mark_after (marked_on ops m ks) b
    marked-more m [] = rw found refl
    marked-more m (j ∷ ks) = marked-more (marked_by m (slice_get ops j)) ks

-- ---- the marks of all

-- each is exact
each-exact : (top : ℕ) (ops : List Bounded) (own : ℕ → List ℕ) (marks : List OpenMark) → ((t : ℕ) → mark_in top t marks ≡ mark_of top ops (own t)) →
    (qs : List OpenMark) → AllByRecursion (λ (q : OpenMark). mark_in top q.by marks ≡ q.mark) qs → AllByRecursion (λ (q : OpenMark). q.mark ≡ mark_of top ops (own q.by)) qs
each-exact top ops own marks exact [] found = tt
each-exact top ops own marks exact (q ∷ qs) found = (sym found.0 ∙ exact q.by, each-exact top ops own marks exact qs found.1)

-- who did something is below whom all that did something are below
each-inside : (own : ℕ → List ℕ) (m : ℕ) → IsIdleFrom m own → (marks : List OpenMark) → AllByRecursion (λ (o : OpenMark). own o.by ≡ [] → ⊥) marks → AllByRecursion (λ (o : OpenMark). o.by < m) marks
each-inside own m idle [] some = tt
each-inside own m idle (o ∷ marks) some =
    (elim (cases_lt o.by m) [ inl below ↦ below | inr past ↦ absurd (some.0 (idle o.by past)) ], each-inside own m idle marks some.1)

-- so they are the marks of all that was done
pub marks-all : (top : ℕ) (ops : List Bounded) (own : ℕ → List ℕ) (m : ℕ) (marks : List OpenMark) → AreMarksOf top ops own marks → IsIdleFrom m own → AreMarks top ops own m marks
marks-all top ops own m marks h idle = record {
  exact = each-exact top ops own marks h.exact marks (each-found top marks h.ordered);
  inside = each-inside own m idle marks h.some;
  some = h.some;
  once = ordered-once marks h.ordered;
  all = h.all;
}

-- and each who did something has one among them
pub mark-contained : (top : ℕ) (ops : List Bounded) (own : ℕ → List ℕ) (marks : List OpenMark) → AreMarksOf top ops own marks → (u : ℕ) → (own u ≡ [] → ⊥) → Contains marks (record { by = u; mark = mark_in top u marks })
mark-contained top ops own marks h u did = elim (cases_Bool (list_any (λ (o : OpenMark). eqb o.by u) marks)) [
  | inl some ↦ in-any top marks u some
  | inr none ↦ absurd (did (h.all u none))
]

-- ---- another mark of one of them

-- who is listed with it
any-put : (w : OpenMark) (marks : List OpenMark) (u : ℕ) → eqb w.by u ≡ false → list_any (λ (o : OpenMark). eqb o.by u) (with_mark w marks) ≡ false → list_any (λ (o : OpenMark). eqb o.by u) marks ≡ false
any-put w [] u differ none = refl
any-put w (v ∷ marks) u differ none =
    elim (cases_Bool (eqb v.by w.by)) [
      | inl is ↦
          let same : v.by ≡ w.by = eqb-true v.by w.by is in
          let away : eqb v.by u ≡ false = rw same differ in
          rw away (rw (is, differ) at none)
      | inr isnt ↦ elim (cases_Bool (ltb w.by v.by)) [
        | inl before ↦ rw (isnt, before, differ) at none
        | inr behind ↦ elim (cases_Bool (eqb v.by u)) [
          | inl here ↦ absurd (false≢true (sym (rw (isnt, behind, here) at none)))
          | inr away ↦ rw away (any-put w marks u differ (rw (isnt, behind, away) at none))
        ]
      ]
    ]

-- its transaction is
any-put_own : (w : OpenMark) (marks : List OpenMark) → list_any (λ (o : OpenMark). eqb o.by w.by) (with_mark w marks) ≡ true
any-put_own w [] = rw (eq-eqb w.by w.by refl) refl
any-put_own w (v ∷ marks) =
    elim (cases_Bool (eqb v.by w.by)) [
      | inl is ↦ rw (is, eq-eqb w.by w.by refl) refl
      | inr isnt ↦ elim (cases_Bool (ltb w.by v.by)) [
        | inl before ↦ rw (isnt, before, eq-eqb w.by w.by refl) refl
        | inr behind ↦ simp (isnt, behind) (any-put_own w marks)
      ]
    ]

-- what all did, where t's mark is that of what it did
pub marks-put : (top : ℕ) (ops : List Bounded) (old new : ℕ → List ℕ) (marks : List OpenMark) (w : OpenMark) → AreMarksOf top ops old marks → w.mark ≡ mark_of top ops (new w.by) → (new w.by ≡ [] → ⊥) →
    ((u : ℕ) → eqb w.by u ≡ false → new u ≡ old u) → AreMarksOf top ops new (with_mark w marks)
marks-put top ops old new marks w h mark did same = record {
  exact =
      λ u. elim (cases_Bool (eqb w.by u)) [
        | inl is ↦ subst (λ n. mark_in top n (with_mark w marks) ≡ mark_of top ops (new n)) (eqb-true w.by u is) (seen-put w top marks ∙ mark)
        | inr isnt ↦ seen-put_other w u top marks isnt ∙ h.exact u ∙ ap (mark_of top ops) (sym (same u isnt))
      ];
  all =
      λ u none. elim (cases_Bool (eqb w.by u)) [
        | inl is ↦ absurd (false≢true (sym none ∙ ap (λ n. list_any (λ (o : OpenMark). eqb o.by n) (with_mark w marks)) (sym (eqb-true w.by u is)) ∙ any-put_own w marks))
        | inr isnt ↦ same u isnt ∙ h.all u (any-put w marks u isnt none)
      ];
  some = each-did marks h.some;
  ordered = ordered-put mark_owner w marks h.ordered;
}
  where
    did-same : (o : OpenMark) → (old o.by ≡ [] → ⊥) → new o.by ≡ [] → ⊥
    did-same o some none = elim (cases_Bool (eqb w.by o.by)) [
      | inl is ↦ did (ap new (eqb-true w.by o.by is) ∙ none)
      | inr isnt ↦ some (sym (same o.by isnt) ∙ none)
    ]

    each-same : (qs : List OpenMark) → AllByRecursion (λ (o : OpenMark). old o.by ≡ [] → ⊥) qs → AllByRecursion (λ (o : OpenMark). new o.by ≡ [] → ⊥) qs
    each-same [] some = tt
    each-same (o ∷ qs) some = (did-same o some.0, each-same qs some.1)

    -- of the others each did something, and so did t
    each-did : (qs : List OpenMark) → AllByRecursion (λ (o : OpenMark). old o.by ≡ [] → ⊥) qs → AllByRecursion (λ (o : OpenMark). new o.by ≡ [] → ⊥) (with_mark w qs)
    each-did [] some = (did, tt)
    each-did (o ∷ qs) some =
        elim (cases_Bool (eqb o.by w.by)) [
          | inl is ↦ rw is (did, each-same qs some.1)
          | inr isnt ↦ elim (cases_Bool (ltb w.by o.by)) [
            | inl before ↦ rw (isnt, before) (did, each-same (o ∷ qs) some)
            | inr behind ↦ rw (isnt, behind) (did-same o some.0, each-did qs some.1)
          ]
        ]

-- ---- none of t any more

-- who isn't listed without it
any-dropped : (t : ℕ) (marks : List OpenMark) (u : ℕ) → eqb t u ≡ false → list_any (λ (o : OpenMark). eqb o.by u) (without_mark t marks) ≡ false → list_any (λ (o : OpenMark). eqb o.by u) marks ≡ false
any-dropped t [] u differ none = refl
any-dropped t (v ∷ marks) u differ none =
    elim (cases_Bool (eqb v.by t)) [
      | inl is ↦
          let same : v.by ≡ t = eqb-true v.by t is in
          let away : eqb v.by u ≡ false = rw same differ in
          rw away (any-dropped t marks u differ (rw is at none))
      | inr isnt ↦ elim (cases_Bool (eqb v.by u)) [
        | inl here ↦ absurd (false≢true (sym (rw (isnt, here) at none)))
        | inr away ↦ rw away (any-dropped t marks u differ (rw (isnt, away) at none))
      ]
    ]

-- what all did, where t did nothing
pub marks-dropped : (top : ℕ) (ops : List Bounded) (old new : ℕ → List ℕ) (marks : List OpenMark) (t : ℕ) → AreMarksOf top ops old marks → new t ≡ [] → ((u : ℕ) → eqb t u ≡ false → new u ≡ old u) →
    AreMarksOf top ops new (without_mark t marks)
marks-dropped top ops old new marks t h none same = record {
  exact =
      λ u. elim (cases_Bool (eqb t u)) [
        | inl is ↦ subst (λ n. mark_in top n (without_mark t marks) ≡ mark_of top ops (new n)) (eqb-true t u is) (seen-dropped t top marks ∙ ap (mark_of top ops) (sym none))
        | inr isnt ↦ seen-dropped_other t u top marks isnt ∙ h.exact u ∙ ap (mark_of top ops) (sym (same u isnt))
      ];
  all =
      λ u unlisted. elim (cases_Bool (eqb t u)) [
        | inl is ↦ ap new (sym (eqb-true t u is)) ∙ none
        | inr isnt ↦ same u isnt ∙ h.all u (any-dropped t marks u isnt unlisted)
      ];
  some = each-did marks h.some;
  ordered = ordered-dropped mark_owner (λ (o : OpenMark). not (eqb o.by t)) marks h.ordered;
}
  where
    each-did : (qs : List OpenMark) → AllByRecursion (λ (o : OpenMark). old o.by ≡ [] → ⊥) qs → AllByRecursion (λ (o : OpenMark). new o.by ≡ [] → ⊥) (without_mark t qs)
    each-did [] some = tt
    each-did (o ∷ qs) some =
        elim (cases_Bool (eqb o.by t)) [
          | inl is ↦ rw is (each-did qs some.1)
          | inr isnt ↦ rw isnt (λ nothing. some.0 (sym (same o.by (differ_turned t o.by isnt)) ∙ nothing), each-did qs some.1)
        ]

-- ---- said otherwise

-- the marks depend on what each did alone
pub marks-same : (top : ℕ) (ops : List Bounded) (old new : ℕ → List ℕ) (marks : List OpenMark) → AreMarksOf top ops old marks → ((u : ℕ) → new u ≡ old u) → AreMarksOf top ops new marks
marks-same top ops old new marks h same = record {
  exact = λ u. h.exact u ∙ ap (mark_of top ops) (sym (same u));
  all = λ u none. same u ∙ h.all u none;
  some = each-weaker {P = λ (o : OpenMark). old o.by ≡ [] → ⊥} {Q = λ (o : OpenMark). new o.by ≡ [] → ⊥} (λ o did nothing. did (sym (same o.by) ∙ nothing)) marks h.some;
  ordered = h.ordered;
}
