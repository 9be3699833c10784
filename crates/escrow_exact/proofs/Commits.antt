-- One open transaction commits what it did first at x, after a rollback of the rest where there is any.
use Rattle.std.proofs.Common.{◌≡◌, ℕ, zero, suc, ◌-◌, ◌≤◌, true, false, ◌==◌, List, [], ◌∷◌, ◌++◌, take, length, refl, sym, ap, ◌∙◌, subst, inl, inr, arith, append_assoc}
use Rattle.std.proofs.Math.Bool.{or-false}
use Rattle.std.proofs.lemmas.Bool.{cases_Bool, cases_lt, or_parts}
use Rattle.std.proofs.lemmas.List.{take_all}
use Rattle.type_table.proofs.Elements.{eqb-sym, filter-turned}
use Rattle.object_trait.specs.Strike.{keep_first}
use Rattle.object_trait.specs.declared.event.Event.{Event}
use Rattle.object_trait.specs.declared.event.EventKind.TheVariants.{Commit, Rollback}
use Rattle.serial_order.specs.Operations.{is_among, is_by, ops, at_object, of, serial}
use Rattle.serial_order.specs.History.{Summary, summary, is_open}
use Rattle.serial_order.specs.After.{summary_next}
use Rattle.serial_order.specs.declared.entry.Entry.{Entry}
use Rattle.serial_order.proofs.After.{seen_after_one}
use Rattle.serial_order.proofs.Lists.{is_one-apart, is_among-snoc, ops-append, serial-snoc}
use Rattle.serial_order.proofs.Runs.{open_is_uncommitted}
use Rattle.serial_order.proofs.Strikes.{keep_first-others, keep_first-mine}
use Rattle.escrow_exact.specs.Ends.{own_in, AreEndings}

-- ---- fronts

-- a front of some operations whose part at x are the first ones there
record FrontAt (x count : ℕ) (W : List Entry) : Type 0 where
  pub size : ℕ
  pub inside : size ≤ length W
  pub part : at_object x (take size W) ≡ take count (at_object x W)

front_at : (x count : ℕ) (W : List Entry) → FrontAt x count W
front_at x zero W = record { size = 0; inside = omega arith; part = refl }
front_at x (suc count) [] = record { size = 0; inside = omega arith; part = refl }
front_at x (suc count) (e ∷ W) =
    elim (cases_Bool (e.at == x)) [
      | inl here ↦
          let rest = front_at x count W in
          record {
            size = suc rest.size;
            inside = let less = rest.inside in omega (arith, less);
            part = rw here (ap (λ V. e ∷ V) rest.part);
          }
      | inr elsewhere ↦
          let rest = front_at x (suc count) W in
          record {
            size = suc rest.size;
            inside = let less = rest.inside in omega (arith, less);
            part = rw elsewhere rest.part;
          }
    ]

-- ---- what is left at x

-- the serial order of others is the same where what each of them did is
pub serial-same : (C : List ℕ) (t : ℕ) (V W : List Entry) → is_among C t ≡ false → ((u : ℕ) → (u == t) ≡ false → of u V ≡ of u W) → serial C V ≡ serial C W
serial-same [] t V W outside same = refl
serial-same (u ∷ C) t V W outside same =
    let parts = or_parts (u == t) (is_among C t) outside in
    rw (same u parts.0, serial-same C t V W parts.1 same) refl

-- of what t did at x the first so many are left, and all that others did
record IsLeft (x t count : ℕ) (V left : List Entry) : Type 0 where
  pub mine : of t (at_object x left) ≡ take count (of t (at_object x V))
  pub others : (u : ℕ) → (u == t) ≡ false → of u (at_object x left) ≡ of u (at_object x V)

pub part-turned : (x t : ℕ) (V : List Entry) → of t (at_object x V) ≡ at_object x (of t V)
part-turned x t V = filter-turned (is_by t) (λ e. e.at == x) V

left-struck : (x t count : ℕ) (V : List Entry) (front : FrontAt x count (of t V)) → IsLeft x t count V (keep_first (is_by t) front.size V)
left-struck x t count V front = record {
  mine =
      part-turned x t (keep_first (is_by t) front.size V) ∙ ap (at_object x) (keep_first-mine (is_by t) front.size V) ∙ front.part
      ∙ ap (take count) (sym (part-turned x t V));
  others = λ u other.
      part-turned x u (keep_first (is_by t) front.size V)
      ∙ ap (at_object x) (keep_first-others (is_by u) (is_by t) front.size V (λ e mine. is_one-apart e.by t u (eqb-sym t u ∙ other) mine))
      ∙ sym (part-turned x u V);
}

left-whole : (x t count : ℕ) (V : List Entry) (front : FrontAt x count (of t V)) → length (of t V) ≤ front.size → IsLeft x t count V V
left-whole x t count V front all = record {
  mine = part-turned x t V ∙ ap (at_object x) (sym (take_all front.size (of t V) all)) ∙ front.part ∙ ap (take count) (sym (part-turned x t V));
  others = λ u other. refl;
}

-- ---- a commit

-- the others are as open as before
pub open-apart : (s : Summary) (t u : ℕ) → (u == t) ≡ false → is_open (summary_next s (Commit t)) u ≡ is_open s u
open-apart s t u other = rw (is_among-snoc s.committed t u, eqb-sym t u, other, or-false (is_among s.committed u)) refl

-- in the summary `after`, t has committed the first so many of its operations at x, and all others are as they were
pub record HasCommitted (x : ℕ) (s : Summary) (t count : ℕ) (after : Summary) : Type 0 where
  pub order : ops (serial after.committed (at_object x after.survives)) ≡ ops (serial s.committed (at_object x s.survives)) ++ take count (own_in x s t)
  pub others : (u : ℕ) → (u == t) ≡ false → own_in x after u ≡ own_in x s u

ops-take : (n : ℕ) (V : List Entry) → ops (take n V) ≡ take n (ops V)
ops-take zero V = refl
ops-take (suc n) [] = refl
ops-take (suc n) (e ∷ V) = ap (λ rest. e.op ∷ rest) (ops-take n V)

commit-left : (x : ℕ) (s : Summary) (t count : ℕ) (left : List Entry) → is_open s t ≡ true → IsLeft x t count s.survives left
    → HasCommitted x s t count (summary_next (record s { survives = left }) (Commit t))
commit-left x s t count left open_now is = record {
  order =
      let before = serial-same s.committed t (at_object x left) (at_object x s.survives) (open_is_uncommitted s t open_now) is.others in
      ap ops (serial-snoc s.committed t (at_object x left) ∙ ap (λ V. V ++ of t (at_object x left)) before ∙ ap (λ V. serial s.committed (at_object x s.survives) ++ V) is.mine)
      ∙ ops-append (serial s.committed (at_object x s.survives)) (take count (of t (at_object x s.survives)))
      ∙ ap (λ w. ops (serial s.committed (at_object x s.survives)) ++ w) (ops-take count (of t (at_object x s.survives)) ∙ rw open_now refl);
  others = λ u other. rw (open-apart (record s { survives = left }) t u other, is.others u other) refl;
}

-- ends of t that commit this
pub record CommitsFront (x : ℕ) (H : List Event) (t count : ℕ) : Type 0 where
  pub events : List Event
  pub ends : AreEndings H events
  pub committed : HasCommitted x (summary H) t count (summary (H ++ events))

commit_of : ℕ → Event
commit_of t = record { worker = 0; kind = Commit t }

pub commits_front : (x : ℕ) (H : List Event) (t count : ℕ) → is_open (summary H) t ≡ true → CommitsFront x H t count
commits_front x H t count open_now =
    let s : Summary = summary H in
    let W : List Entry = of t s.survives in
    let front = front_at x count W in
    let commit : Event = record { worker = 0; kind = Commit t } in
    elim (cases_lt front.size (length W)) [
      | inl less ↦
          let n : ℕ = length W - front.size in
          let back : Event = record { worker = 0; kind = Rollback t n } in
          let between : Summary = record s { survives = keep_first (is_by t) front.size s.survives } in
          let rest : length W - n ≡ front.size = omega (arith, less) in
          let seen : summary (H ++ back ∷ []) ≡ between =
          seen_after_one H back ∙ ap (λ m. record s { survives = keep_first (is_by t) m s.survives }) rest in
          let ended : summary (H ++ back ∷ commit ∷ []) ≡ summary_next between (Commit t) =
          ap summary (sym (append_assoc H (back ∷ []) (commit ∷ []))) ∙ seen_after_one (H ++ back ∷ []) commit ∙ ap (λ r. summary_next r (Commit t)) seen in
          record {
            events = back ∷ commit ∷ [];
            ends = ((open_now, omega (arith, less), omega arith), (subst (λ r. is_open r t ≡ true) (sym seen) open_now, tt));
            committed = subst (HasCommitted x s t count) (sym ended) (commit-left x s t count (keep_first (is_by t) front.size s.survives) open_now (left-struck x t count s.survives front));
          }
      | inr all ↦
          record {
            events = commit ∷ [];
            ends = (open_now, tt);
            committed = subst (HasCommitted x s t count) (sym (seen_after_one H commit)) (commit-left x s t count s.survives open_now (left-whole x t count s.survives front all));
          }
    ]
