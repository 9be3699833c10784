-- Files with events more.
use Rattle.std.proofs.Common.{◌≡◌, inl, inr, ℕ, List, [], ◌∷◌, ◌++◌, refl, sym, ◌∙◌, ap, subst, length, drop, Option, Some, None}
use Rattle.std.proofs.lemmas.Bool.{cases_eq, ne_eqb}
use Rattle.std.proofs.lemmas.List.{append_assoc, append-nil}
use Rattle.sqlite_trees.specs.declared.store.Store.{Ghosts}
use Rattle.object_trait.specs.declared.event.Event.{Event}
use Rattle.transaction_key.specs.TransactionKey.{key_place}
use Rattle.journal.specs.declared.outcome_row.KeyedOutcome.{KeyedOutcome}
use Rattle.journal.specs.declared.outcome_row.Outcome.{Outcome}
use Rattle.journal.specs.declared.prepared_row.Prepared.{Prepared}
use Rattle.journal.specs.declared.outcome_row.Outcome.TheVariants.{Aborted}
use Rattle.journal.specs.Contents.{Contents, with_outcome, with_prepared}
use Rattle.journal.specs.Journal.{Clean, written}
use Rattle.durable_store.specs.declared.durable.Durable.{Durable}
use Rattle.durable_store.specs.Durable.{IsDurable, OutcomesStay, WritesSince, prepared_in, kinds, with_all}
use Rattle.durable_store.specs.Held.{first_passing, has_key}
use Rattle.durable_store.specs.Votes.{Decides, Votes, decided_outcome}
use Rattle.durable_store.specs.declared.votes.Decision.{Decision}
use Rattle.durable_store.specs.declared.votes.Verdict.{Verdict}
use Rattle.durable_store.specs.declared.votes.Verdict.TheVariants as verdict
use Rattle.durable_store.specs.declared.votes.Vote.{Vote}
use Rattle.durable_store.specs.declared.votes.Vote.TheVariants as vote
use Rattle.store_laws.specs.Stored.{Stored}
use Rattle.serving.proofs.HeldSaid.{free-of}
use Rattle.durable_store.specs.Keys.{KnowsKey, WritesUnder, kept_under, with_key}
use Rattle.durable_store.specs.declared.keyed.Keyed.{Keyed}
use Rattle.durable_store.specs.declared.keyed.Keyed.TheVariants as keyed
use Rattle.serving.specs.Follows.{HasMore, LeavesMore, LeavesWritten, WritesMore}

pub follows-none : (c : Contents) → HasMore c c
follows-none c = record { more = []; events = sym (append-nil c.events); outcomes = λ n kept is. is; rows = []; prepared = sym (append-nil c.prepared); others = refl }

pub follows-with_all : (c : Contents) (es : List Event) → HasMore c (with_all c es)
follows-with_all c es = record { more = kinds es; events = refl; outcomes = λ n kept is. is; rows = []; prepared = sym (append-nil c.prepared); others = refl }

pub follows-more : {a b c : Contents} → HasMore a b → HasMore b c → HasMore a c
follows-more {a} {b} {c} first second = record {
  more = first.more ++ second.more;
  events = second.events ∙ (ap (λ es. es ++ second.more) first.events ∙ append_assoc a.events first.more second.more);
  outcomes = λ n kept is. second.outcomes n kept (first.outcomes n kept is);
  rows = first.rows ++ second.rows;
  prepared = second.prepared ∙ (ap (λ ps. ps ++ second.rows) first.prepared ∙ append_assoc a.prepared first.rows second.rows);
  others = second.others ∙ ap (λ (x : Contents). let it : Contents = record x { events = c.events; outcomes = c.outcomes; prepared = c.prepared } in it) first.others;
}

-- a call that writes what the store has done
pub writes-more : {S : Type 0} (g : Ghosts S) (old new : Durable S) → WritesSince g old new → WritesMore g old new
writes-more g old new since clean = subst (λ c. HasMore (written g old.journal) c) (sym (since clean)) (follows-with_all (written g old.journal) (drop (length old.store.history) new.store.history))

-- the same, where what became of a transaction is kept too, at a place that was free
pub follows-kept : (c : Contents) (es : List Event) (o : KeyedOutcome) → c.outcomes.at (key_place o.key) ≡ None → HasMore c (with_outcome (with_all c es) o)
follows-kept c es o free = record {
  more = kinds es;
  events = refl;
  outcomes = λ n kept is. elim (cases_eq n (key_place o.key)) [
    | inl same ↦ absurd (let it : None ≡ Some kept = sym free ∙ ap c.outcomes.at (sym same) ∙ is in cc)
    | inr differs ↦ rw (ne_eqb n (key_place o.key) differs) is
  ];
  rows = [];
  prepared = sym (append-nil c.prepared);
  others = refl;
}

-- where nothing else happened
follows-outcome : (c : Contents) (key : List ℕ) (outcome : Outcome) → c.outcomes.at (key_place key) ≡ None → HasMore c (with_key key (Some outcome) c)
follows-outcome c key outcome free =
    subst (λ es. HasMore c (with_key key (Some outcome) (record c { events = es }))) (append-nil c.events) (follows-kept c [] (record { key = key; outcome = outcome }) free)

pub follows-key : (c : Contents) (es : List Event) (key : List ℕ) (outcome : Option Outcome) → c.outcomes.at (key_place key) ≡ None → HasMore c (with_key key outcome (with_all c es))
follows-key c es key None free = follows-with_all c es
follows-key c es key (Some outcome) free = follows-kept c es (record { key = key; outcome = outcome }) free

-- a call under a key
pub writes-under : {S T : Type 0} (g : Ghosts S) (key : List ℕ) (came : Keyed T) (old new : Durable S) → (Clean g new.journal → KnowsKey (written g old.journal) key came) → (Clean g new.journal → WritesUnder g key came old new) → WritesMore g old new
writes-under g key came old new knows since clean =
    subst (λ c. HasMore (written g old.journal) c) (sym (since clean)) (by-key (written g old.journal) (drop (length old.store.history) new.store.history) key came (knows clean))
  where
    by-key : {T : Type 0} (c : Contents) (es : List Event) (key : List ℕ) (came : Keyed T) → KnowsKey c key came → HasMore c (with_key key (kept_under came) (with_all c es))
    by-key c es key (keyed.Done kept) free = follows-key c es key (Some kept) free.0
    by-key c es key (keyed.Undone why) free = follows-with_all c es
    by-key c es key (keyed.Known known) knows = follows-with_all c es
    by-key c es key keyed.Prepared knows = follows-with_all c es
    by-key c es key keyed.Taken knows = follows-with_all c es

pub outcomes-more : {S : Type 0} (g : Ghosts S) (old new : Durable S) → OutcomesStay g old new → LeavesMore g old new
outcomes-more g old new stay db left = inr (stay db left)

pub written-more : {S : Type 0} (g : Ghosts S) (old new : Durable S) → LeavesWritten g old new → LeavesMore g old new
written-more g old new crash db left = elim (crash db left) [
  | inl it ↦ inl (it.0, it.1, subst (λ c. HasMore (written g old.journal) c) (sym it.2) (follows-none (written g old.journal)))
  | inr before ↦ inr before
]

-- two calls, one after the other
pub writes-then : {S : Type 0} (g : Ghosts S) (old mid new : Durable S) → (Clean g new.journal → Clean g mid.journal) → WritesMore g old mid → WritesMore g mid new → WritesMore g old new
writes-then g old mid new clean first second now = follows-more (first (clean now)) (second now)

pub leaves-then : {S : Type 0} (g : Ghosts S) (old mid new : Durable S) → (Clean g mid.journal → Clean g old.journal) → WritesMore g old mid → LeavesMore g old mid → LeavesMore g mid new
    → LeavesMore g old new
leaves-then g old mid new clean writes first second db left =
    elim (second db left) [ inl it ↦ inl (clean it.0, it.1, follows-more (writes it.0) it.2) | inr before ↦ first db before ]

-- ---- prepared transactions

pub follows-prepared : (c : Contents) (p : Prepared) → HasMore c (with_prepared c p)
follows-prepared c p = record { more = []; events = sym (append-nil c.events); outcomes = λ n kept is. is; rows = p ∷ []; prepared = refl; others = refl }

-- a vote
pub writes-vote : {S : Type 0} (g : Ghosts S) (s : Stored) (p : Prepared) (came : Vote) (old new : Durable S) → (Clean g new.journal → Votes s (written g old.journal) p came (written g new.journal)) → WritesMore g old new
writes-vote g s p came old new votes clean = by-vote (written g old.journal) (written g new.journal) came (votes clean)
  where
    same : (c d : Contents) → d ≡ c → HasMore c d
    same c d is = subst (HasMore c) (sym is) (follows-none c)

    by-vote : (c d : Contents) (came : Vote) → Votes s c p came d → HasMore c d
    by-vote c d vote.Prepared votes = subst (HasMore c) (sym votes.3) (follows-prepared c p)
    by-vote c d vote.Again votes = same c d votes.1
    by-vote c d vote.NotOpen votes = same c d votes.1
    by-vote c d vote.Otherwise votes = same c d votes.1
    by-vote c d vote.KeyInUse votes = same c d votes.2
    by-vote c d (vote.Known outcome) votes = same c d votes.2
    by-vote c d vote.Taken votes = same c d votes.2

-- a decision, in a file where nothing is kept at the places of what is prepared
pub writes-decision : {S : Type 0} (g : Ghosts S) (key : List ℕ) (d : Decision) (came : Verdict) (old new : Durable S) → IsDurable g old → (Clean g new.journal → Clean g old.journal)
    → (Clean g new.journal → Decides old.store new.store (written g old.journal) (written g new.journal) key d came) → WritesMore g old new
writes-decision g key d came old new sound was decides clean = by-verdict came (decides clean)
  where
    c : Contents
    c = written g old.journal

    now : Contents
    now = written g new.journal

    same : now ≡ c → HasMore c now
    same is = subst (HasMore c) (sym is) (follows-none c)

    kept-free : (p : Prepared) → first_passing (has_key key) (prepared_in c) ≡ Some p → c.outcomes.at (key_place key) ≡ None
    kept-free p there = free-of g old sound (was clean) key p there

    by-verdict : (came : Verdict) → Decides old.store new.store c now key d came → HasMore c now
    by-verdict verdict.Decided it = elim it [
      | inl ends ↦ subst (HasMore c) (sym ends.written) (follows-key c (drop (length old.store.history) new.store.history) key (Some (decided_outcome d)) (kept-free ends.p ends.there))
      | inr else ↦ elim else.0 [
        | inl known ↦ same known.3
        | inr aborted ↦ subst (HasMore c) (sym aborted.2) (follows-outcome c key Aborted aborted.1.0)
      ]
    ]
    by-verdict (verdict.Otherwise outcome) it = same it.3
    by-verdict verdict.Unknown it = same it.3
    by-verdict verdict.Taken it = same it.2
