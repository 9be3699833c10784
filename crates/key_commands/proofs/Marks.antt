-- Which transactions are open after events, by who began and who ended.
use Rattle.std.proofs.Common.{append-nil, ◌≡◌, ◌∙◌, ◌==◌, ◌||◌, ◌&&◌, ◌<◌, ◌≤◌, ◌+◌, ℕ, suc, Bool, true, false, not, cond, List, [], ◌∷◌, ◌++◌, length, take, get_or, filter, nat_lt, refl, ap, ap₂, sym, replicate, inl, inr, arith}
use Rattle.std.specs.List.{count_by, list_any}
use Rattle.std.proofs.lemmas.Bool.{cases_Bool, ltb-false, ltb-true}
use Rattle.std.proofs.lemmas.List.{get_or-replicate, get_or_past, length-replicate, take_all}
use Rattle.std.proofs.lemmas.List.Folds.{list_any-append, list_any_more}
use Rattle.std.proofs.lemmas.List.Elements.{filter_more}
use Rattle.std.proofs.lemmas.List.Sums.{length-filter}
use Rattle.std.specs.List.{slice_index_or}
use Rattle.object_trait.specs.declared.event.EventKind.{EventKind}
use Rattle.object_trait.specs.declared.event.EventKind.TheVariants as kind
use Rattle.object_trait.specs.declared.event.EventKind.TheVariants.{Begin, Op, Busy, Commit, Abort, Rollback}
use Rattle.event_text.specs.EventText.{events_of_kinds}
use Rattle.journal.specs.declared.prepared_row.Prepared.{Prepared}
use Rattle.serial_order.specs.History.{aborted_by, aborts, begins, commits, committed_by, is_begin, is_open, summary}
use Rattle.serial_order.specs.Operations.{is_among}
use Rattle.key_commands.specs.Endings.{is_end_of}
use Rattle.key_commands.specs.Held.{undecided}

-- ---- who began

-- a list gets one longer with another
longer : {A B : Type 0} (b : Bool) (x : A) (xs : List A) (y : B) (ys : List B) → length xs ≡ length ys → length (cond b (x ∷ xs) xs) ≡ length (cond b (y ∷ ys) ys)
longer true x xs y ys same = ap suc same
longer false x xs y ys same = same

begun_by : (ks : List EventKind) → length (filter is_begin ks) ≡ begins (events_of_kinds ks)
begun_by [] = refl
begun_by (k ∷ ks) = longer (is_begin k) k _ _ _ (begun_by ks)

-- ---- who ended

or_none : (b : Bool) → (b || false) ≡ b
or_none true = refl
or_none false = refl

-- one event commits or aborts whom it ends
one_ended : (u : ℕ) (k : EventKind) → (is_among (committed_by k) u || is_among (aborted_by k) u) ≡ is_end_of u k
one_ended u (Begin t) = refl
one_ended u (Op k t x) = refl
one_ended u (Busy c t x v) = refl
one_ended u (kind.None t x c) = refl
one_ended u (Commit t) = or_none _ ∙ or_none (t == u)
one_ended u (Abort t) = or_none (t == u)
one_ended u (Rollback t n) = refl

crossed : (a b c d : Bool) → ((a || b) || (c || d)) ≡ ((a || c) || (b || d))
crossed true b c d = refl
crossed false true true d = refl
crossed false true false d = refl
crossed false false c d = refl

all_ended : (u : ℕ) (ks : List EventKind) → (is_among (commits (events_of_kinds ks)) u || is_among (aborts (events_of_kinds ks)) u) ≡ list_any (is_end_of u) ks
all_ended u [] = refl
all_ended u (k ∷ ks) =
    let those = commits (events_of_kinds ks) in
    let others = aborts (events_of_kinds ks) in
    ap₂ (λ a b. a || b) (list_any-append (λ t. t == u) (committed_by k) those) (list_any-append (λ t. t == u) (aborted_by k) others)
    ∙ crossed (is_among (committed_by k) u) (is_among those u) (is_among (aborted_by k) u) (is_among others u)
    ∙ ap₂ (λ a b. a || b) (one_ended u k) (all_ended u ks)

neither : (n a b : Bool) → (n && (not a && not b)) ≡ (n && not (a || b))
neither n true b = refl
neither n false b = refl

-- a transaction is open where it began and didn't end
pub open_is : (u : ℕ) (ks : List EventKind) → is_open (summary (events_of_kinds ks)) u ≡ (nat_lt u (count_by is_begin ks) && not (list_any (is_end_of u) ks))
open_is u ks =
    neither (nat_lt u (begins (events_of_kinds ks))) (is_among (commits (events_of_kinds ks)) u) (is_among (aborts (events_of_kinds ks)) u)
    ∙ ap₂ (λ n b. nat_lt u n && not b) (sym (begun_by ks) ∙ length-filter is_begin ks) (all_ended u ks)

-- ---- marks

-- as many marks as transactions began
all_marked : (n u : ℕ) → get_or (replicate n true) u false ≡ (nat_lt u n && true)
all_marked n u =
    elim (cases_Bool (nat_lt u n)) [
      | inl inside ↦ rw inside (get_or-replicate n u true false (ltb-true u n inside))
      | inr outside ↦ let past : length (replicate n true) ≡ n = length-replicate n true in rw outside (get_or_past (replicate n true) u false (omega (arith, past, ltb-false u n outside)))
    ]

twice : (n a b : Bool) → ((n && not a) && not b) ≡ (n && not (a || b))
twice true true b = refl
twice true false b = refl
twice false a b = refl

-- after one event more
pub marked_more : (n u : ℕ) (ks : List EventKind) (i : ℕ) (d : EventKind) (old new : Bool) → i < length ks → old ≡ (nat_lt u n && not (list_any (is_end_of u) (take i ks)))
    → new ≡ (old && not (is_end_of u (get_or ks i d))) → new ≡ (nat_lt u n && not (list_any (is_end_of u) (take (i + 1) ks)))
marked_more n u ks i d old new inside was is =
    is ∙ ap (λ b. b && not (is_end_of u (get_or ks i d))) was ∙ twice (nat_lt u n) (list_any (is_end_of u) (take i ks)) (is_end_of u (get_or ks i d))
    ∙ ap (λ b. nat_lt u n && not b) (sym (list_any_more (is_end_of u) ks i d inside))

-- after all of them
pub marked_all : (u : ℕ) (ks : List EventKind) (i : ℕ) (mark : Bool) → length ks ≤ i → mark ≡ (nat_lt u (count_by is_begin ks) && not (list_any (is_end_of u) (take i ks))) → mark ≡ is_open (summary (events_of_kinds ks)) u
marked_all u ks i mark past is = is ∙ ap (λ l. nat_lt u (count_by is_begin ks) && not (list_any (is_end_of u) l)) (take_all i ks past) ∙ sym (open_is u ks)

-- ---- who is prepared

-- its transaction is marked
abbrev pub is_marked : List Bool → Prepared → Bool
is_marked marks p = slice_index_or marks p.number false

-- one more is kept where it is marked
pub kept_more : (marks seen : List Bool) (ps : List Prepared) (i : ℕ) (d : Prepared) (old new : List Prepared) → i < length ps → seen ≡ marks → d ≡ get_or ps i d → old ≡ filter (is_marked marks) (take i ps)
    → (is_marked seen d ≡ true → new ≡ old ++ d ∷ []) → (is_marked seen d ≡ false → new ≡ old) → new ≡ filter (is_marked marks) (take (i + 1) ps)
kept_more marks seen ps i d old new inside same at was more less =
    let those : List Prepared = filter (is_marked marks) (take i ps) in
    let next : those ++ cond (is_marked marks d) (d ∷ []) [] ≡ filter (is_marked marks) (take (i + 1) ps) =
    ap (λ (x : Prepared). those ++ cond (is_marked marks x) (x ∷ []) []) at ∙ sym (filter_more (is_marked marks) ps i d inside) in
    elim (cases_Bool (is_marked marks d)) [
      | inl is ↦ more (ap (λ ms. is_marked ms d) same ∙ is) ∙ ap (λ l. l ++ d ∷ []) was ∙ ap (λ b. those ++ cond b (d ∷ []) []) (sym is) ∙ next
      | inr is ↦ less (ap (λ ms. is_marked ms d) same ∙ is) ∙ was ∙ sym (append-nil those) ∙ ap (λ b. those ++ cond b (d ∷ []) []) (sym is) ∙ next
    ]

-- tests that agree keep the same
same_kept : (p q : Prepared → Bool) → ((x : Prepared) → p x ≡ q x) → (ps : List Prepared) → filter p ps ≡ filter q ps
same_kept p q same [] = refl
same_kept p q same (x ∷ ps) = ap₂ (λ b those. cond b (x ∷ those) those) (same x) (same_kept p q same ps)

-- all that are marked are those that aren't decided
pub kept_all : (marks : List Bool) (ks : List EventKind) (ps : List Prepared) (i : ℕ) (held : List Prepared) → length ps ≤ i → ((t : ℕ) → slice_index_or marks t false ≡ is_open (summary (events_of_kinds ks)) t)
    → held ≡ filter (is_marked marks) (take i ps) → held ≡ undecided (events_of_kinds ks) ps
kept_all marks ks ps i held past marked are =
    are ∙ ap (filter (is_marked marks)) (take_all i ps past) ∙ same_kept (is_marked marks) (λ (p : Prepared). is_open (summary (events_of_kinds ks)) p.number) (λ p. marked p.number) ps
