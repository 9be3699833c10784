-- Whatever others commit in parts, before a transaction commits, is the commit order after some ends.
use Rattle.std.proofs.Common.{◌≡◌, ℕ, false, ◌==◌, List, [], ◌∷◌, ◌++◌, take, length, Some, refl, sym, ap, ◌∙◌, subst, inl, inr, arith, append-nil, append_assoc}
use Rattle.std.specs.List.{AllByRecursion}
use Rattle.std.proofs.lemmas.Bool.{cases_Bool}
use Rattle.std.proofs.lemmas.List.{take_all}
use Rattle.type_table.specs.Run.{IsLegal}
use Rattle.type_table.specs.Laws.{RunsAlong}
use Rattle.type_table.proofs.Elements.{each-weaker, eqb-sym}
use Rattle.type_table.proofs.Legal.{legal-behind}
use Rattle.escrow_laws.specs.Safe.{Part, done_in_parts, AreOthers}
use Rattle.object_trait.specs.declared.event.Event.{Event}
use Rattle.serial_order.specs.Operations.{ops}
use Rattle.serial_order.specs.History.{summary, is_open}
use Rattle.serial_order.specs.Serial.{serial_at}
use Rattle.escrow_exact.specs.Ends.{open_own, AreEndings}
use Rattle.escrow_exact.specs.Laws.{LegalEndsAreSafe}
use Rattle.escrow_exact.proofs.Commits.{commits_front}

-- ends, and more ends after them
ends-append : (H es fs : List Event) → AreEndings H es → AreEndings (H ++ es) fs → AreEndings H (es ++ fs)
ends-append H [] fs first second = rw (append-nil H) at second
ends-append H (e ∷ es) fs first second = (first.0, ends-append (H ++ e ∷ []) es fs first.1 (rw (append_assoc H (e ∷ []) es) second))

-- what is done in parts is the same where what each of these did is
pub same-done : (own rest : ℕ → List ℕ) (ps : List Part) → AllByRecursion (λ (p : Part). rest p.by ≡ own p.by) ps → done_in_parts rest ps ≡ done_in_parts own ps
same-done own rest [] same = refl
same-done own rest (p ∷ ps) same = rw (same.0, same-done own rest ps same.1) refl

-- ends after which these have committed in parts, and all others are as they were
pub record Reached (x : ℕ) (H : List Event) (ps : List Part) : Type 0 where
  pub events : List Event
  pub ends : AreEndings H events
  pub order : ops (serial_at x (H ++ events)) ≡ ops (serial_at x H) ++ done_in_parts (open_own x H) ps
  pub others : (u : ℕ) → AllByRecursion (λ (p : Part). (p.by == u) ≡ false) ps → open_own x (H ++ events) u ≡ open_own x H u

-- of one transaction
reach-one : (x : ℕ) (H : List Event) (p : Part) → Reached x H (p ∷ [])
reach-one x H p =
    elim (cases_Bool (is_open (summary H) p.by)) [
      | inl open_now ↦
          let did = commits_front x H p.by p.count open_now in
          record {
            events = did.events;
            ends = did.ends;
            order = did.committed.order ∙ ap (λ w. ops (serial_at x H) ++ w) (sym (append-nil (take p.count (open_own x H p.by))));
            others = λ u apart. did.committed.others u (eqb-sym u p.by ∙ apart.0);
          }
      | inr ended ↦ record {
        events = [];
        ends = tt;
        order = rw (ended, append-nil H) (nothing p.count);
        others = λ u apart. ap (λ G. open_own x G u) (append-nil H);
      }
    ]
  where
    nothing : (n : ℕ) → ops (serial_at x H) ≡ ops (serial_at x H) ++ (take n [] ++ [])
    nothing n =
        let none : List ℕ = [] in
        rw (take_all n none (omega arith), append-nil (ops (serial_at x H))) refl

-- and of several
pub reach : (x : ℕ) (ps : List Part) (t : ℕ) (H : List Event) → AreOthers t ps → Reached x H ps
reach x [] t H others = record {
  events = [];
  ends = tt;
  order = rw (append-nil H, append-nil (ops (serial_at x H))) refl;
  others = λ u apart. ap (λ G. open_own x G u) (append-nil H);
}
reach x (p ∷ ps) t H others =
    let first = reach-one x H p in
    let G : List Event = H ++ first.events in
    let rest = reach x ps t G others.2 in
    let own : ℕ → List ℕ = open_own x H in
    let whole : H ++ (first.events ++ rest.events) ≡ G ++ rest.events = sym (append_assoc H first.events rest.events) in
    let same : done_in_parts (open_own x G) ps ≡ done_in_parts own ps =
    same-done own (open_own x G) ps (each-weaker (λ q apart. first.others q.by (eqb-sym p.by q.by ∙ apart, tt)) ps others.1) in
    record {
      events = first.events ++ rest.events;
      ends = ends-append H first.events rest.events first.ends rest.ends;
      order =
          ap (λ K. ops (serial_at x K)) whole ∙ rest.order ∙ ap (λ w. ops (serial_at x G) ++ w) same
          ∙ ap (λ w. w ++ done_in_parts own ps) (first.order ∙ ap (λ w. ops (serial_at x H) ++ w) (append-nil (take p.count (own p.by))))
          ∙ append_assoc (ops (serial_at x H)) (take p.count (own p.by)) (done_in_parts own ps);
      others = λ u apart. ap (λ K. open_own x K u) whole ∙ rest.others u apart.1 ∙ first.others u (apart.0, tt);
    }

-- ends after which t has committed all that it did, after these parts
pub record ReachedLast (x : ℕ) (H : List Event) (ps : List Part) (t : ℕ) : Type 0 where
  pub events : List Event
  pub ends : AreEndings H events
  pub order : ops (serial_at x (H ++ events)) ≡ ops (serial_at x H) ++ (done_in_parts (open_own x H) ps ++ open_own x H t)

apart-from : (t : ℕ) (ps : List Part) → AreOthers t ps → AllByRecursion (λ (p : Part). (p.by == t) ≡ false) ps
apart-from t [] others = tt
apart-from t (p ∷ ps) others = (others.0, apart-from t ps others.2)

pub reach_last : (x : ℕ) (H : List Event) (ps : List Part) (t : ℕ) → AreOthers t ps → ReachedLast x H ps t
reach_last x H ps t others =
    let first = reach x ps t H others in
    let G : List Event = H ++ first.events in
    let n : ℕ = length (open_own x G t) in
    let last = reach-one x G (record { by = t; count = n }) in
    let mine : open_own x G t ≡ open_own x H t = first.others t (apart-from t ps others) in
    let all : take n (open_own x G t) ++ [] ≡ open_own x H t = append-nil (take n (open_own x G t)) ∙ take_all n (open_own x G t) (omega arith) ∙ mine in
    record {
      events = first.events ++ last.events;
      ends = ends-append H first.events last.events first.ends last.ends;
      order =
          ap (λ K. ops (serial_at x K)) (sym (append_assoc H first.events last.events)) ∙ last.order
          ∙ ap (λ w. ops (serial_at x G) ++ w) all ∙ ap (λ w. w ++ open_own x H t) first.order
          ∙ append_assoc (ops (serial_at x H)) (done_in_parts (open_own x H) ps) (open_own x H t);
    }

pub legal_ends_are_safe : RunsAlong → LegalEndsAreSafe
legal_ends_are_safe along = λ T x H base committed legal t ps others.
    let last = reach_last x H ps t others in
    let w : List ℕ = done_in_parts (open_own x H) ps ++ open_own x H t in
    legal-behind along T (Some T.initial) (ops (serial_at x H)) w base committed
    (subst (λ v. IsLegal T (Some T.initial) v) last.order (legal last.events last.ends))
