-- The run that a witness of a pair gives.
use Rattle.std.proofs.Common.{◌≡◌, ◌⊎◌, ℕ, Bool, true, false, List, [], ◌∷◌, ◌++◌, Some, slice_get, refl, sym, ap, ◌∙◌, inl, inr, subst, append_assoc}
use Rattle.type_table.specs.Run.{run, IsLegal}
use Rattle.type_table.specs.Laws.{RunsAlong, LegalEnds}
use Rattle.type_table.specs.declared.table_kind.TableKind.{TableKind}
use Rattle.type_table.specs.declared.table_kind.TableKind.TheVariants as tabled
use Rattle.type_table.specs.declared.kind.Kind.TheVariants.{Undo, Intentions}
use Rattle.type_table.specs.Kind.{of_table}
use Rattle.type_table.proofs.Legal.{legal-behind, legal-after}
use Rattle.object_trait.specs.Object.{Object}
use Rattle.serial_order.specs.Operations.{at_object, ops, serial}
use Rattle.serial_order.specs.History.{Summary, commits}
use Rattle.serial_order.specs.Serial.{surviving_at}
use Rattle.pair_needs.specs.Witnesses.{first_commit, second_commit, failing_order, Parts, Shows, lead_of, tell_of}
use Rattle.dynamic_atomicity.specs.Converse.{breaking, Goes, StepsHaveOps}
use Rattle.dynamic_atomicity.specs.Witnessed.{BreaksOrder, WitnessBreaks}
use Rattle.dynamic_atomicity.proofs.Breaking.{goes_from, summary_at_end, one_two, two_one, undo_breaks, one_two_runs, two_one_runs}
use Rattle.dynamic_atomicity.proofs.Converse.{either}
use Rattle.dynamic_atomicity.proofs.Keeping.{keeps_breaking}

module _ (objects : List Object) (x : ℕ) (along : RunsAlong) (ends : LegalEnds) (o : Object) (there : slice_get objects x ≡ Some o) (named : StepsHaveOps o.table) (p q : ℕ) (free : o.conflicts p q ≡ false) (s : ℕ) (w r : List ℕ)
    (leads : run o.table (Some o.table.initial) w ≡ Some s) where
  -- the rest goes on after the order that is legal
  goes : (a b : ℕ) → ((r ≡ []) ⊎ IsLegal o.table (run o.table (Some s) (a ∷ b ∷ [])) r) → Goes o.table (w ++ a ∷ b ∷ []) r
  goes a b either_is =
      elim either_is [
        | inl empty ↦ subst (λ (v : List ℕ). Goes o.table (w ++ a ∷ b ∷ []) v) (sym empty) tt
        | inr legal ↦ goes_from objects x along ends o there named (w ++ a ∷ b ∷ []) r (rw (append_assoc w (a ∷ b ∷ []) r) (legal-after along o.table (Some o.table.initial) w (a ∷ b ∷ r) s leads legal))
      ]

  -- the other order isn't legal
  not_legal : (a b : ℕ) → (IsLegal o.table (run o.table (Some s) (a ∷ b ∷ [])) r → ⊥) → IsLegal o.table (Some o.table.initial) (w ++ a ∷ b ∷ r) → ⊥
  not_legal a b breaks legal = breaks (legal-behind along o.table (Some o.table.initial) w (a ∷ b ∷ r) s leads legal)

  -- in the order in which 2 commits first, and in that in which 1 does
  serial_two : (first second : ℕ) → ops (serial (0 ∷ 2 ∷ 1 ∷ 3 ∷ []) (surviving_at x (breaking x first second w p q r))) ≡ w ++ p ∷ q ∷ r
  serial_two first second = ap (λ (m : Summary). ops (serial (0 ∷ 2 ∷ 1 ∷ 3 ∷ []) (at_object x m.survives))) (summary_at_end objects x along ends o there named w p q first second r) ∙ two_one objects x along ends o there named w p q r

  serial_one : (first second : ℕ) → ops (serial (0 ∷ 1 ∷ 2 ∷ 3 ∷ []) (surviving_at x (breaking x first second w p q r))) ≡ w ++ q ∷ p ∷ r
  serial_one first second = ap (λ (m : Summary). ops (serial (0 ∷ 1 ∷ 2 ∷ 3 ∷ []) (at_object x m.survives))) (summary_at_end objects x along ends o there named w p q first second r) ∙ one_two objects x along ends o there named w p q r

  committed : (first second : ℕ) → commits (breaking x first second w p q r) ≡ 0 ∷ first ∷ second ∷ 3 ∷ []
  committed first second = ap (λ (m : Summary). m.committed) (summary_at_end objects x along ends o there named w p q first second r)

  broken-undo : o.kind ≡ Undo → IsLegal o.table (Some s) (q ∷ p ∷ []) → Parts o.table (run o.table (Some s) (q ∷ p ∷ [])) (run o.table (Some s) (p ∷ q ∷ [])) r →
      BreaksOrder objects x o (breaking x 2 1 w p q r) (0 ∷ 2 ∷ 1 ∷ 3 ∷ [])
  broken-undo undo asked parts =
      let legal : IsLegal o.table (run o.table (Some s) (q ∷ p ∷ [])) r = elim parts.goes_on [
        | inl empty ↦ rw empty asked
        | inr on ↦ on
      ] in
      let known = undo_breaks along ends objects x o w p q r there named undo free (legal-after along o.table (Some o.table.initial) w (q ∷ p ∷ r) s leads legal) in
      record {
        is_run = known.0;
        is_order = rw known.1 (record { once = (refl, (refl, (refl, (refl, tt)))); same = λ t. refl });
        keeps = keeps_breaking x (0 ∷ 2 ∷ 1 ∷ 3 ∷ []) 2 1 w p q r refl refl (refl, (refl, (refl, tt)));
        illegal = λ h. not_legal p q parts.breaks (rw (serial_two 2 1) at h);
      }

  module _ (deferred : o.kind ≡ Intentions) (p_legal : IsLegal o.table (Some s) (p ∷ [])) (q_legal : IsLegal o.table (Some s) (q ∷ [])) where
    after_p : IsLegal o.table (Some o.table.initial) (w ++ p ∷ [])
    after_p = legal-after along o.table (Some o.table.initial) w (p ∷ []) s leads p_legal

    after_q : IsLegal o.table (Some o.table.initial) (w ++ q ∷ [])
    after_q = legal-after along o.table (Some o.table.initial) w (q ∷ []) s leads q_legal

    broken-held_first : Parts o.table (run o.table (Some s) (q ∷ p ∷ [])) (run o.table (Some s) (p ∷ q ∷ [])) r → BreaksOrder objects x o (breaking x 1 2 w p q r) (0 ∷ 2 ∷ 1 ∷ 3 ∷ [])
    broken-held_first parts = record {
      is_run = one_two_runs objects x along ends o there named w p q r free deferred after_q after_p (goes q p parts.goes_on);
      is_order = rw (committed 1 2) (record { once = (refl, (refl, (refl, (refl, tt)))); same = either });
      keeps = keeps_breaking x (0 ∷ 2 ∷ 1 ∷ 3 ∷ []) 1 2 w p q r refl refl (refl, (refl, (refl, tt)));
      illegal = λ h. not_legal p q parts.breaks (rw (serial_two 1 2) at h);
    }

    broken-other : Parts o.table (run o.table (Some s) (p ∷ q ∷ [])) (run o.table (Some s) (q ∷ p ∷ [])) r → BreaksOrder objects x o (breaking x 2 1 w p q r) (0 ∷ 1 ∷ 2 ∷ 3 ∷ [])
    broken-other parts = record {
      is_run = two_one_runs objects x along ends o there named w p q r free deferred after_q after_p (goes p q parts.goes_on);
      is_order = rw (committed 2 1) (record { once = (refl, (refl, (refl, (refl, tt)))); same = λ t. sym (either t) });
      keeps = keeps_breaking x (0 ∷ 1 ∷ 2 ∷ 3 ∷ []) 2 1 w p q r refl refl (refl, (refl, (refl, tt)));
      illegal = λ h. not_legal q p parts.breaks (rw (serial_one 2 1) at h);
    }

  by_kind : (kind : TableKind) (h : Bool) → o.kind ≡ of_table kind → Shows kind o.table p q s h r → BreaksOrder objects x o (breaking x (first_commit kind h) (second_commit kind h) w p q r) (failing_order h)
  by_kind tabled.Undo true is shows = broken-undo is shows.asked shows.parts
  by_kind tabled.Undo false is shows = absurd shows.parts
  by_kind tabled.Intentions true is shows = broken-held_first is (shows.asked).0 (shows.asked).1 shows.parts
  by_kind tabled.Intentions false is shows = broken-other is (shows.asked).0 (shows.asked).1 shows.parts

pub witness_breaks : RunsAlong → LegalEnds → WitnessBreaks
witness_breaks along ends objects x o kind p q w there named is free witness =
    by_kind objects x along ends o there named p q free w.state (lead_of w) (tell_of w) witness.leads kind w.held_first is witness.shows
