-- The audits of the first histories, and of one more.
use Rattle.std.proofs.Common.{◌≡◌, ℕ, zero, suc, List, [], ◌∷◌, ◌++◌, take, Some, Result, Ok, Err, Vec, slice_get, refl, sym, subst}
use Rattle.std.specs.declared.alloc.Global.{Global}
use Rattle.std.specs.Result.{IsErrAnd}
use Rattle.std.proofs.lemmas.Option.{none-some, same_Some}
use Rattle.type_table.specs.Table.{Table}
use Rattle.history_judge.specs.Audit.{Audits}
use Rattle.history_audit.specs.Epochs.{Told, tables_at, tables_after, AreAudits, HasEpochFault, AuditsEpochs}
use Rattle.history_judge.specs.declared.outcome.Audit.{Audit}
use Rattle.history_judge.specs.declared.outcome.AuditFault.{AuditFault}
use Rattle.history_judge.specs.declared.outcome.AuditFault.TheVariants.{BadEvent, IllegalOp, NoMemory}
use Rattle.history_audit.specs.declared.epoch_fault.EpochFault.{EpochFault}

-- one more history has a yes
pub audits-more : (tables : List Table) (hs : List Told) (n : ℕ) (audits : List Audit) (h : Told) (a : Audit) → AreAudits tables (take n hs) audits
    → slice_get hs n ≡ Some h → Audits (take h.objects (tables_after tables audits)) h.events (Ok a) → AreAudits tables (take (suc n) hs) (audits ++ a ∷ [])
audits-more tables [] n audits h a before at its = absurd (none-some h at)
audits-more tables (g ∷ hs) zero [] h a before at its = (subst (λ (f : Told). Audits (take f.objects tables) f.events (Ok a)) (sym (same_Some g h at)) its, tt)
audits-more tables (g ∷ hs) zero (b ∷ audits) h a before at its = absurd before
audits-more tables (g ∷ hs) (suc n) [] h a before at its = absurd before
audits-more tables (g ∷ hs) (suc n) (b ∷ audits) h a before at its = (before.0, audits-more (tables_at tables b.finals.items) hs n audits h a before.1 at its)

pub audits-at : (tables begun : List Table) (hs : List Told) (n : ℕ) (audits : List Audit) (h : Told) (a : Audit) → AreAudits tables (take n hs) audits
    → begun ≡ tables_after tables audits → Audits (take h.objects begun) h.events (Ok a) → slice_get hs n ≡ Some h → AreAudits tables (take (suc n) hs) (audits ++ a ∷ [])
audits-at tables begun hs n audits h a before are its at = audits-more tables hs n audits h a before at (subst (λ them. Audits (take h.objects them) h.events (Ok a)) are its)

-- after it the tables begin where it ends
pub tables-more : (tables : List Table) (audits : List Audit) (a : Audit) → tables_after tables (audits ++ a ∷ []) ≡ tables_at (tables_after tables audits) a.finals.items
tables-more tables [] a = refl
tables-more tables (b ∷ audits) a = tables-more (tables_at tables b.finals.items) audits a

-- or it is the first that has none
pub first-fault : (tables : List Table) (hs : List Told) (n : ℕ) (audits : List Audit) (h : Told) (fault : AuditFault) → AreAudits tables (take n hs) audits
    → slice_get hs n ≡ Some h → Audits (take h.objects (tables_after tables audits)) h.events (Err fault) → HasEpochFault tables hs n fault
first-fault tables hs n audits h NoMemory before at its = tt
first-fault tables hs n audits h (BadEvent place) before at its = record { audits = audits; history = h; before = before; there = at; faulty = its }
first-fault tables hs n audits h (IllegalOp i x j) before at its = record { audits = audits; history = h; before = before; there = at; faulty = its }

pub faults-at : (tables begun : List Table) (hs : List Told) (n : ℕ) (audits : List Audit) (h : Told) (f : EpochFault) (result : Result (Vec Audit Global) EpochFault)
    → IsErrAnd result (λ g. g ≡ f) → f.epoch ≡ n → AreAudits tables (take n hs) audits → begun ≡ tables_after tables audits → Audits (take h.objects begun) h.events (Err f.fault) → slice_get hs n ≡ Some h
    → AuditsEpochs tables hs result
faults-at tables begun hs n audits h f (Ok them) is place before are its at = absurd is
faults-at tables begun hs n audits h f (Err g) is place before are its at =
    subst (λ h. HasEpochFault tables hs h.epoch h.fault) (sym is)
    (subst (λ m. HasEpochFault tables hs m f.fault) (sym place) (first-fault tables hs n audits h f.fault before at (subst (λ them. Audits (take h.objects them) h.events (Err f.fault)) are its)))
