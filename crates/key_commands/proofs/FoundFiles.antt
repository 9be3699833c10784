-- What was read of a file.
use Rattle.std.proofs.Common.{◌≡◌, ◌∙◌, ℕ, List, Option, None, Some, IfSome, IfOk, Result, Ok, Err, ap, subst, sym}
use Rattle.sqlite_trees.specs.Tree.{Trees}
use Rattle.transaction_key.specs.TransactionKey.{key_place}
use Rattle.journal.specs.declared.contents.FileContents.{FileContents}
use Rattle.journal.specs.declared.outcome_row.KeyedOutcome.{KeyedOutcome}
use Rattle.journal.specs.Contents.{Contents, contents_of}
use Rattle.journal.specs.Said.{contents, contents_beside}
use Rattle.key_commands.specs.declared.reading.Reading.{Reading}
use Rattle.key_commands.specs.Held.{prepared_in}
use Rattle.key_commands.specs.Reading.{ReadsPath, StaysAs, ReadsFile}

-- what is kept at the place of a key, in the same contents
kept_in : (key : Option (List ℕ)) (kept : Option KeyedOutcome) (c d : Contents) → c ≡ d → IfSome key (λ k. kept ≡ c.outcomes.at (key_place k)) → IfSome key (λ k. kept ≡ d.outcomes.at (key_place k))
kept_in key kept c d same is = subst (λ (e : Contents). IfSome key (λ k. kept ≡ e.outcomes.at (key_place k))) same is

-- what was read of a journal is read of the file of which it was opened
pub read_of : {E : Type 0} (r : Result Reading E) (back clean : Type 0) (c written durable : Contents) (said : FileContents) (key : Option (List ℕ)) → (back → clean) → (clean → durable ≡ c)
    → (clean → durable ≡ contents_beside durable.outcomes said) → (clean → written ≡ durable) → IfOk r (λ x. x.happened.items ≡ said.events.items) → IfOk r (λ x. x.held.items ≡ prepared_in (contents said))
    → IfOk r (λ x. clean → IfSome key (λ k. x.kept ≡ written.outcomes.at (key_place k))) → IfOk r (λ x. back → ReadsFile c key x)
read_of (Ok x) back clean c written durable said key closes same is settled events those kept = λ b. let now = closes b in record {
  happened_are = events ∙ ap (λ (d : Contents). d.events) (sym (is now) ∙ same now);
  held_are = those ∙ ap prepared_in (sym (is now) ∙ same now);
  kept_is = kept_in key x.kept written c (settled now ∙ same now) (kept now);
}
read_of (Err e) back clean c written durable said key closes same is settled events those kept = tt

-- and what it says then is what it said
pub same_of : {T E : Type 0} (r : Result T E) (back clean : Type 0) (c durable now after : Contents) → (back → clean) → (clean → durable ≡ c) → IfOk r (λ _. clean → now ≡ durable) → after ≡ now
    → IfOk r (λ _. back → after ≡ c)
same_of (Ok x) back clean c durable now after closes same stays is = λ b. is ∙ stays (closes b) ∙ same (closes b)
same_of (Err e) back clean c durable now after closes same stays is = tt

-- of what is held a fact holds that holds of what was opened
of_held : (held : Option Trees) (opened : Trees) (P : Trees → Type 0) → IfSome held (λ db. opened ≡ db) → P opened → IfSome held P
of_held None opened P same is = tt
of_held (Some db) opened P same is = subst P same is

is_left : (left : Option Trees) (after : Trees) (c : Contents) → IfSome left (λ db. after ≡ db) → contents_of after ≡ c → StaysAs left c
is_left None after c leaves same = tt
is_left (Some db) after c leaves same = subst (λ (t : Trees). contents_of t ≡ c) leaves same

-- what was read of trees that were opened, and come back and are closed, is read of what the path held, and it is left so
pub found : {E : Type 0} (r : Result Reading E) (clean back opened is_open : Type 0) (there left : Option Trees) (trees after : Trees) (key : Option (List ℕ)) → (clean → back)
    → (back → IfSome left (λ db. after ≡ db)) → IfOk r (λ _. back → opened) → IfOk r (λ _. back → is_open) → (opened → is_open → IfSome there (λ db. trees ≡ db))
    → IfOk r (λ _. back → contents_of after ≡ contents_of trees) → IfOk r (λ x. back → ReadsFile (contents_of trees) key x) → IfOk r (ReadsPath clean there left key)
found (Ok x) clean back opened is_open there left trees after key closes leaves cleans opens holds same reads = λ is.
    let b = closes is in
    of_held there trees (λ was. ReadsFile (contents_of was) key x × StaysAs left (contents_of was)) (holds (cleans b) (opens b)) (reads b, is_left left after (contents_of trees) (leaves b) (same b))
found (Err e) clean back opened is_open there left trees after key closes leaves cleans opens holds same reads = tt

-- what holds anyway holds of what was read
pub of_any : {T E : Type 0} (r : Result T E) (P : Type 0) → P → IfOk r (λ _. P)
of_any (Ok x) P is = is
of_any (Err e) P is = tt
