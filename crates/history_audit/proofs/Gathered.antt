-- The committed transactions of the events so far, and one more event.
use Rattle.std.proofs.Common.{◌≡◌, ℕ, ◌+◌, ◌<◌, true, List, [], ◌∷◌, ◌++◌, length, get_or, map, take, Option, Some, None, option_map, slice_get, refl, sym, ap, subst, ◌∙◌, inl, inr, append-nil, arith}
use Rattle.std.specs.List.{AllByRecursion}
use Rattle.std.proofs.lemmas.List.{map-append}
use Rattle.std.proofs.lemmas.Option.{none-some, slice_get-map, get_or_from_slice_get}
use Rattle.type_table.specs.Table.{Table}
use Rattle.type_table.proofs.Elements.{cases-more, each-places, found-map, filter-length, take-found}
use Rattle.object_trait.specs.declared.event.Event.{Event}
use Rattle.serial_order.specs.Operations.{is_among}
use Rattle.serial_order.specs.History.{commits, committed_by, is_begin, summary}
use Rattle.serial_order.specs.After.{SummaryAfter}
use Rattle.serial_order.specs.Held.{OwnAfter}
use Rattle.history_audit.specs.Commits.{AreCommits, IsCommittedOf, numbers}
use Rattle.history_judge.specs.Judged.{IsJudged, IsHanded}
use Rattle.history_judge.specs.Rows.{executed_of, operations_of}
use Rattle.history_judge.specs.Replay.{AreOperations}
use Rattle.history_judge.specs.declared.committed.Committed.{Committed}
use Rattle.history_judge.specs.declared.executed.Executed.{Executed}
use Rattle.history_audit.proofs.Audited.{commit-of, kept-at, lives-on, none-of}
use Rattle.history_judge.proofs.Kept.{same-own}
use Rattle.history_judge.proofs.Lists.{among-at}

-- what is at a place of the transactions is, by its number, among the committed ones
number-among : (tables : List Table) (H : List Event) (them : List Committed) (n : ℕ) (c : Committed) → AreCommits tables H them → slice_get them n ≡ Some c → is_among (commits H) c.number ≡ true
number-among tables H them n c known at =
    subst (λ C. is_among C c.number ≡ true) known.in_order (among-at (numbers them) n c.number (slice_get-map (λ (d : Committed). d.number) them n ∙ ap (option_map (λ (d : Committed). d.number)) at))

module _ (summary_after : SummaryAfter) (own_after : OwnAfter) (tables : List Table) (events : List Event) (at : ℕ) (them : List Committed) (known : AreCommits tables (take at events) them) where
  -- the operations of a committed transaction survive
  own-on : (what : Option Committed) → IsHanded tables events at what → (u : ℕ) → is_among (commits (take at events)) u ≡ true
      → operations_of u (summary (take (at + 1) events)) ≡ operations_of u (summary (take at events))
  own-on what handed u is =
      ap (λ H. operations_of u (summary H)) (take-found events at handed.event handed.here)
      ∙ ap (operations_of u) (summary_after (take at events) handed.event)
      ∙ ap (map executed_of) (same-own own_after tables (summary (take at events)) handed.event.kind u handed.may is)

  each-on : (what : Option Committed) → IsHanded tables events at what → (n : ℕ) (c : Committed) → slice_get them n ≡ Some c → IsCommittedOf tables (take (at + 1) events) c
  each-on what handed n c there = record {
    are = (known.each n c there).are ∙ sym (own-on what handed c.number (number-among tables (take at events) them n c known there));
    there = (known.each n c there).there;
  }

  -- an event that commits none
  pub gathered-none : IsHanded tables events at None → AreCommits tables (take (at + 1) events) them
  gathered-none handed =
      let kept = kept-at summary_after own_after tables events at None handed in
      record {
        in_order = known.in_order ∙ sym (kept.commits_are ∙ ap (λ more. commits (take at events) ++ more) (none-of handed.event.kind (summary (take at events)) handed.is) ∙ append-nil (commits (take at events)));
        each = each-on None handed;
      }

  -- one that commits one
  pub gathered-some : (done : Committed) → IsHanded tables events at (Some done) → AreCommits tables (take (at + 1) events) (them ++ done ∷ [])
  gathered-some done handed =
      let kept = kept-at summary_after own_after tables events at (Some done) handed in
      let (is, are) = commit-of handed.event.kind (summary (take at events)) done handed.is in
      record {
        in_order =
            map-append (λ (c : Committed). c.number) them (done ∷ [])
            ∙ ap (λ C. C ++ done.number ∷ []) known.in_order
            ∙ sym (kept.commits_are ∙ ap (λ happened. commits (take at events) ++ committed_by happened) is);
        each = λ n c there. elim (cases-more them done n c there) [
          | inl before ↦ each-on (Some done) handed n c before
          | inr (here, same) ↦ subst (IsCommittedOf tables (take (at + 1) events)) same (record { are = lives-on summary_after own_after tables events at done handed; there = handed.there })
        ];
      }

-- the operations of the transaction at a place
pub placed-operations : (tables : List Table) (H : List Event) (them : List Committed) (place t : ℕ) (other : Committed) → AreCommits tables H them → slice_get (numbers them) place ≡ Some t
    → (get_or them place other).operations ≡ operations_of t (summary H)
placed-operations tables H them place t other known at =
    let (c, there, same) = found-map (λ (d : Committed). d.number) them place t at in
    ap (λ (d : Committed). d.operations) (get_or_from_slice_get them place c other there) ∙ (known.each place c there).are ∙ ap (λ n. operations_of n (summary H)) same

-- those of each are of objects that are there
pub each-there : (tables : List Table) (H : List Event) (them : List Committed) → AreCommits tables H them → AllByRecursion (λ (c : Committed). AreOperations tables c.operations) them
each-there tables H them known = each-places (λ (c : Committed). AreOperations tables c.operations) them (λ n c there. (known.each n c there).there)

-- none so far
pub gathered-nothing : (tables : List Table) → AreCommits tables [] []
gathered-nothing tables = record { in_order = refl; each = λ n c there. absurd (none-some c there) }

-- the number of each is below that of the events
pub numbers-below : (tables : List Table) (H : List Event) (rows : List (Option (List Executed))) (them : List Committed) → IsJudged tables H rows → AreCommits tables H them
    → AllByRecursion (λ (c : Committed). c.number < length H) them
numbers-below tables H rows them judged known =
    each-places (λ (c : Committed). c.number < length H) them (λ n c there.
    let began = judged.agree.known.committed_began c.number (number-among tables H them n c known there) in
    let few = filter-length (λ (e : Event). is_begin e.kind) H in
    omega (arith, began, few))
