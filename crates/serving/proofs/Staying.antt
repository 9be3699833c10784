-- A session whose store goes on stays in its epoch.
use Rattle.std.proofs.Common.{◌≡◌, ℕ, List, ap, refl, subst, sym}
use Rattle.sqlite_trees.specs.declared.store.Store.{Ghosts}
use Rattle.journal.specs.declared.header.Header.{Header}
use Rattle.journal.specs.Journal.{Clean, written}
use Rattle.durable_store.specs.Durable.{IsDurable, OutcomesStay, WritesSince}
use Rattle.durable_store.specs.Keys.{KnowsKey, WritesUnder}
use Rattle.durable_store.specs.Votes.{Decides, Votes}
use Rattle.durable_store.specs.declared.keyed.Keyed.{Keyed}
use Rattle.durable_store.specs.declared.votes.Decision.{Decision}
use Rattle.durable_store.specs.declared.votes.Verdict.{Verdict}
use Rattle.durable_store.specs.declared.votes.Vote.{Vote}
use Rattle.journal.specs.declared.prepared_row.Prepared.{Prepared}
use Rattle.serving.specs.declared.session.Session.{Session}
use Rattle.serving.specs.Follows.{HasMore, LeavesWritten}
use Rattle.serving.specs.Server.{StaysInEpoch}
use Rattle.serving.proofs.MoreEvents.{follows-none, outcomes-more, writes-decision, writes-more, writes-under, writes-vote, written-more}

pub stays-by : {S : Type 0} (g : Ghosts S) (old new : Session S) → new.names ≡ old.names → new.most_events ≡ old.most_events → IsDurable g new.store → new.store.journal.header ≡ old.store.journal.header
    → WritesSince g old.store new.store → (Clean g new.store.journal → Clean g old.store.journal) → OutcomesStay g old.store new.store → StaysInEpoch g old new
stays-by g old new names most sound header since clean stay = record {
  sound = sound;
  names = names;
  most = most;
  same = ap (λ (h : Header). h.life) header;
  follows = writes-more g old.store new.store since;
  clean = clean;
  crash = outcomes-more g old.store new.store stay;
}

-- under a key
pub stays-under : {S T : Type 0} (g : Ghosts S) (key : List ℕ) (came : Keyed T) (old new : Session S) → new.names ≡ old.names → new.most_events ≡ old.most_events → IsDurable g new.store → new.store.journal.header ≡ old.store.journal.header
    → (Clean g new.store.journal → KnowsKey (written g old.store.journal) key came) → (Clean g new.store.journal → WritesUnder g key came old.store new.store) → (Clean g new.store.journal → Clean g old.store.journal)
    → OutcomesStay g old.store new.store → StaysInEpoch g old new
stays-under g key came old new names most sound header knows since clean stay = record {
  sound = sound;
  names = names;
  most = most;
  same = ap (λ (h : Header). h.life) header;
  follows = writes-under g key came old.store new.store knows since;
  clean = clean;
  crash = outcomes-more g old.store new.store stay;
}

-- a vote
pub stays-vote : {S : Type 0} (g : Ghosts S) (p : Prepared) (came : Vote) (old new : Session S) → new.names ≡ old.names → new.most_events ≡ old.most_events → IsDurable g new.store → new.store.journal.header ≡ old.store.journal.header
    → (Clean g new.store.journal → Votes old.store.store (written g old.store.journal) p came (written g new.store.journal)) → (Clean g new.store.journal → Clean g old.store.journal) → OutcomesStay g old.store new.store → StaysInEpoch g old new
stays-vote g p came old new names most sound header votes clean stay = record {
  sound = sound;
  names = names;
  most = most;
  same = ap (λ (h : Header). h.life) header;
  follows = writes-vote g old.store.store p came old.store new.store votes;
  clean = clean;
  crash = outcomes-more g old.store new.store stay;
}

-- a decision
pub stays-decision : {S : Type 0} (g : Ghosts S) (key : List ℕ) (d : Decision) (came : Verdict) (old new : Session S) → new.names ≡ old.names → new.most_events ≡ old.most_events → IsDurable g old.store → IsDurable g new.store
    → new.store.journal.header ≡ old.store.journal.header
    → (Clean g new.store.journal → Decides old.store.store new.store.store (written g old.store.journal) (written g new.store.journal) key d came) → (Clean g new.store.journal → Clean g old.store.journal)
    → OutcomesStay g old.store new.store → StaysInEpoch g old new
stays-decision g key d came old new names most was sound header decides clean stay = record {
  sound = sound;
  names = names;
  most = most;
  same = ap (λ (h : Header). h.life) header;
  follows = writes-decision g key d came old.store new.store was clean decides;
  clean = clean;
  crash = outcomes-more g old.store new.store stay;
}

-- where nothing was written
pub stays-read : {S : Type 0} (g : Ghosts S) (old new : Session S) → new.names ≡ old.names → new.most_events ≡ old.most_events → IsDurable g new.store → new.store.journal.header ≡ old.store.journal.header
    → (Clean g new.store.journal → written g new.store.journal ≡ written g old.store.journal) → (Clean g new.store.journal → Clean g old.store.journal) → OutcomesStay g old.store new.store → StaysInEpoch g old new
stays-read g old new names most sound header same clean stay = record {
  sound = sound;
  names = names;
  most = most;
  same = ap (λ (h : Header). h.life) header;
  follows = λ now. subst (λ c. HasMore (written g old.store.journal) c) (sym (same now)) (follows-none (written g old.store.journal));
  clean = clean;
  crash = outcomes-more g old.store new.store stay;
}

-- where nothing was done
pub stays-still : {S : Type 0} (g : Ghosts S) (s : Session S) → IsDurable g s.store → StaysInEpoch g s s
stays-still g s sound = stays-read g s s refl refl sound refl (λ now. refl) (λ now. now) (λ db left. left)

-- where what was written is made durable
pub stays-settled : {S : Type 0} (g : Ghosts S) (old new : Session S) → new.names ≡ old.names → new.most_events ≡ old.most_events → IsDurable g new.store → new.store.journal.header ≡ old.store.journal.header
    → (Clean g new.store.journal → written g new.store.journal ≡ written g old.store.journal) → (Clean g new.store.journal → Clean g old.store.journal) → LeavesWritten g old.store new.store → StaysInEpoch g old new
stays-settled g old new names most sound header same clean left = record {
  sound = sound;
  names = names;
  most = most;
  same = ap (λ (h : Header). h.life) header;
  follows = λ now. subst (λ c. HasMore (written g old.store.journal) c) (sym (same now)) (follows-none (written g old.store.journal));
  clean = clean;
  crash = written-more g old.store new.store left;
}
