-- What is told of what was read.
use Rattle.std.proofs.Common.{◌≡◌, ◌∙◌, ℕ, true, false, Bool, List, Option, None, Some, IfSome, ap, ap₂, subst, sym, inl, inr}
use Rattle.std.specs.Prelude.{IfNone, if◌then◌else◌}
use Rattle.std.proofs.lemmas.Bool.{cases_Bool}
use Rattle.std.specs.List.{flat_map, list_any}
use Rattle.sqlite_trees.specs.Tree.{Trees}
use Rattle.transaction_key.specs.TransactionKey.{is_transaction_key}
use Rattle.journal.specs.declared.outcome_row.KeyedOutcome.{KeyedOutcome}
use Rattle.journal.specs.declared.prepared_row.Prepared.{Prepared}
use Rattle.journal.specs.Contents.{contents_of}
use Rattle.command_files.specs.declared.status.Verdict.{Verdict}
use Rattle.command_files.specs.declared.status.Verdict.TheVariants.{Yes}
use Rattle.key_commands.specs.declared.key_outcome.Fate.{Fate}
use Rattle.key_commands.specs.declared.held_transactions.HeldTransaction.{HeldTransaction}
use Rattle.key_commands.specs.declared.reading.Reading.{Reading}
use Rattle.event_text.specs.EventText.{events_of_kinds}
use Rattle.key_commands.specs.Held.{has_key, prepared_in}
use Rattle.key_commands.specs.Keys.{outcome_for}
use Rattle.key_commands.specs.Outcome.{TellsOutcome, fate_by, fate_text, fate_verdict}
use Rattle.key_commands.specs.Prepared.{AreHeldTransactions, TellsPrepared, held_line}
use Rattle.key_commands.specs.Reading.{ReadsPath}

-- the lines of those that were read, with the objects that the events say
pub tells_prepared : (clean : Type 0) (found left : Option Trees) (r : Reading) (told : List HeldTransaction) (text : List ℕ) → ReadsPath clean found left None r
    → AreHeldTransactions (events_of_kinds r.happened.items) r.held.items told → text ≡ flat_map held_line told → TellsPrepared clean found left Yes text
tells_prepared clean None left r told text read are is = λ now. tt
tells_prepared clean (Some was) left r told text read are is = λ now.
    let it = read now in
    let those : AreHeldTransactions (events_of_kinds r.happened.items) (prepared_in (contents_of was)) told = subst (λ ps. AreHeldTransactions (events_of_kinds r.happened.items) ps told) it.0.held_are are in (
      record {
        told = told;
        are = subst (λ ks. AreHeldTransactions (events_of_kinds ks) (prepared_in (contents_of was)) told) it.0.happened_are those;
        lines = is;
      },
      it.1,
    )

-- the line of what became of the transaction of a key
pub tells_outcome : (clean : Type 0) (found left : Option Trees) (key : List ℕ) (r : Reading) (fate : Fate) (verdict : Verdict) (text : List ℕ) → is_transaction_key key ≡ true
    → ReadsPath clean found left (Some key) r → fate ≡ fate_by (list_any (has_key key) r.held.items) (outcome_for key r.kept) → verdict ≡ fate_verdict fate → text ≡ fate_text fate
    → TellsOutcome clean found left key verdict text
tells_outcome clean None left key r fate verdict text is_key read fate_is verdict_is text_is = (is_key, λ now. tt)
tells_outcome clean (Some was) left key r fate verdict text is_key read fate_is verdict_is text_is = (
  is_key,
  λ now.
      let it = read now in
      let same = fate_is ∙ ap₂ (λ (those : List Prepared) (kept : Option KeyedOutcome). fate_by (list_any (has_key key) those) (outcome_for key kept)) it.0.held_are it.0.kept_is in
      (verdict_is ∙ ap fate_verdict same, text_is ∙ ap fate_text same, it.1),
)

-- and of the same key, verdict and text
pub tells_same : (clean : Type 0) (found left : Option Trees) (key word : List ℕ) (v verdict : Verdict) (text seen items : List ℕ) → key ≡ word → v ≡ verdict → text ≡ seen → seen ≡ items
    → TellsOutcome clean found left key verdict items → TellsOutcome clean found left word v text
tells_same clean found left key word v verdict text seen items key_is verdict_is text_is items_are told =
    subst (λ (w : List ℕ). TellsOutcome clean found left w v text) key_is
    (subst (λ (u : Verdict). TellsOutcome clean found left key u text) (sym verdict_is)
    (subst (λ (t : List ℕ). TellsOutcome clean found left key verdict t) (sym (text_is ∙ items_are)) told))

-- ---- keys

-- a word is a key, or it is none
pub key_found : (r : Option (List ℕ)) (word seen : List ℕ) → seen ≡ word → r ≡ (if is_transaction_key seen then Some seen else None) → IfSome r (λ key. (key ≡ word) × (is_transaction_key word ≡ true))
key_found r word seen same is =
    elim (cases_Bool (is_transaction_key word)) [
      | inl true_for ↦ subst (λ (o : Option (List ℕ)). IfSome o (λ key. (key ≡ word) × (is_transaction_key word ≡ true))) (sym (is_key true_for)) (same, true_for)
      | inr false_for ↦ subst (λ (o : Option (List ℕ)). IfSome o (λ key. (key ≡ word) × (is_transaction_key word ≡ true))) (sym (is_none false_for)) tt
    ]
  where
    is_key : is_transaction_key word ≡ true → r ≡ Some seen
    is_key true_for = is ∙ ap (λ (b : Bool). if b then Some seen else None) (ap is_transaction_key same ∙ true_for)

    is_none : is_transaction_key word ≡ false → r ≡ None
    is_none false_for = is ∙ ap (λ (b : Bool). if b then Some seen else None) (ap is_transaction_key same ∙ false_for)

pub key_none : (r : Option (List ℕ)) (word seen : List ℕ) → seen ≡ word → r ≡ (if is_transaction_key seen then Some seen else None) → IfNone r (is_transaction_key word ≡ false)
key_none r word seen same is =
    elim (cases_Bool (is_transaction_key word)) [
      | inl true_for ↦ subst (λ (o : Option (List ℕ)). IfNone o (is_transaction_key word ≡ false)) (sym (is ∙ ap (λ (b : Bool). if b then Some seen else None) (ap is_transaction_key same ∙ true_for))) tt
      | inr false_for ↦ subst (λ (o : Option (List ℕ)). IfNone o (is_transaction_key word ≡ false)) (sym (is ∙ ap (λ (b : Bool). if b then Some seen else None) (ap is_transaction_key same ∙ false_for))) false_for
    ]
