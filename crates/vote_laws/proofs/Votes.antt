-- Who is prepared by a vote is so when it is asked again.
use Rattle.std.proofs.Common.{◌≡◌, ◌∙◌, Bool, true, false, if◌then◌else◌, List, [], ◌∷◌, ◌++◌, Some, None, MatchBool, refl, sym, ap, subst}
use Rattle.std.proofs.lemmas.Bool.{eq-eqb, false≢true}
use Rattle.std.proofs.lemmas.List.Elements.{filter-append}
use Rattle.std.proofs.lemmas.Option.{none-some, same_Some}
use Rattle.object_trait.specs.declared.event.Event.{Event}
use Rattle.serial_order.specs.History.{is_open, summary}
use Rattle.store_laws.specs.Stored.{Stored}
use Rattle.event_text.specs.EventText.{events_of_kinds}
use Rattle.journal.specs.declared.prepared_row.Prepared.{Prepared}
use Rattle.journal.specs.Contents.{Contents}
use Rattle.durable_store.specs.Durable.{prepared_in}
use Rattle.durable_store.specs.Held.{first_passing, has_key, has_number, undecided}
use Rattle.durable_store.specs.Votes.{Votes}
use Rattle.durable_store.specs.declared.votes.Vote.{Vote}
use Rattle.durable_store.specs.declared.votes.Vote.TheVariants as vote
use Rattle.vote_laws.specs.Laws.{VoteStays}

-- behind those of which none passes it is the first that does
first-behind : (test : Prepared → Bool) (ps : List Prepared) (p : Prepared) → first_passing test ps ≡ None → test p ≡ true → first_passing test (ps ++ p ∷ []) ≡ Some p
first-behind test [] p none passes = ap (λ b. if b then Some p else None) passes
first-behind test (q ∷ ps) p none passes = by (test q) refl none (first-behind test ps p)
  where
    by : (b : Bool) → test q ≡ b → (if b then Some q else first_passing test ps) ≡ None → (first_passing test ps ≡ None → test p ≡ true → first_passing test (ps ++ p ∷ []) ≡ Some p)
        → (if test q then Some q else first_passing test (ps ++ p ∷ [])) ≡ Some p
    by true is none rest = absurd cc
    by false is none rest = ap (λ b. if b then Some q else first_passing test (ps ++ p ∷ [])) is ∙ rest none passes

-- one that is open is prepared in the file that has its row more
prepared-behind : (H : List Event) (rows : List Prepared) (p : Prepared) → is_open (summary H) p.number ≡ true → undecided H (rows ++ p ∷ []) ≡ undecided H rows ++ p ∷ []
prepared-behind H rows p going =
    filter-append (λ (p : Prepared). is_open (summary H) p.number) rows (p ∷ []) ∙ ap (λ more. undecided H rows ++ more) (last going)
  where
    last : is_open (summary H) p.number ≡ true → undecided H (p ∷ []) ≡ p ∷ []
    last is = rw is refl

module _ (s : Stored) (c now : Contents) (p : Prepared) (same : s.history ≡ events_of_kinds c.events) (voted : Votes s c p vote.Prepared now) where
  -- it is the first of its number
  found : first_passing (has_number p.number) (prepared_in now) ≡ Some p
  found =
      let H = events_of_kinds c.events in
      let going : is_open (summary H) p.number ≡ true = ap (λ K. is_open (summary K) p.number) (sym same) ∙ voted.0 in
      ap (λ (k : Contents). first_passing (has_number p.number) (prepared_in k)) voted.3
      ∙ ap (first_passing (has_number p.number)) (prepared-behind H c.prepared p going)
      ∙ first-behind (has_number p.number) (prepared_in c) p voted.1 (eq-eqb p.number p.number refl)

  again : (later : Contents) (q : Prepared) (came : Vote) → q.number ≡ p.number → Votes s now q came later
      → MatchBool (has_key q.key p) (came ≡ vote.Again) (came ≡ vote.Otherwise) × (later ≡ now)
  again later q came number does = by came does
    where
      at : first_passing (has_number q.number) (prepared_in now) ≡ Some p
      at = ap (λ n. first_passing (has_number n) (prepared_in now)) number ∙ found

      by : (came : Vote) → Votes s now q came later → MatchBool (has_key q.key p) (came ≡ vote.Again) (came ≡ vote.Otherwise) × (later ≡ now)
      by vote.Prepared does = absurd (none-some p (sym does.1 ∙ at))
      by vote.Again does =
          let is : does.0.0 ≡ p = same_Some does.0.0 p (sym does.0.1 ∙ at) in
          (subst (λ b. MatchBool b (vote.Again ≡ vote.Again) (vote.Again ≡ vote.Otherwise)) (sym (ap (has_key q.key) (sym is) ∙ does.0.2)) refl, does.1)
      by vote.NotOpen does = absurd (false≢true (sym does.0 ∙ ap (λ n. is_open (summary s.history) n) number ∙ voted.0))
      by vote.Otherwise does =
          let is : does.0.0 ≡ p = same_Some does.0.0 p (sym does.0.1 ∙ at) in
          (subst (λ b. MatchBool b (vote.Otherwise ≡ vote.Again) (vote.Otherwise ≡ vote.Otherwise)) (sym (ap (has_key q.key) (sym is) ∙ does.0.2)) refl, does.1)
      by vote.KeyInUse does = absurd (none-some p (sym does.0 ∙ at))
      by (vote.Known outcome) does = absurd (none-some p (sym does.0 ∙ at))
      by vote.Taken does = absurd (none-some p (sym does.0 ∙ at))

pub vote_stays : VoteStays
vote_stays s c now later p q came same voted number does = again s c now p same voted later q came number does
