-- What `prepared DATABASE` answers.
use Rattle.std.specs.Prelude.{◌≡◌, ℕ, List, [], ◌∷◌, ◌++◌, map, Option, IfSome, codes}
use Rattle.std.specs.Fmt.{decimal}
use Rattle.std.specs.List.{AllByRecursion, flat_map}
use Rattle.sqlite_trees.specs.Tree.{Trees}
use Rattle.object_trait.specs.declared.event.Event.{Event}
use Rattle.store.specs.HeldAt.{AreHeldAt}
use Rattle.event_text.specs.EventText.{events_of_kinds}
use Rattle.journal.specs.declared.prepared_row.Prepared.{Prepared}
use Rattle.journal.specs.Contents.{Contents, contents_of}
use Rattle.command_files.specs.Answers.{Answers}
use Rattle.command_files.specs.declared.status.Verdict.TheVariants.{Yes, No}
use Rattle.key_commands.specs.declared.held_transactions.HeldTransaction.{HeldTransaction}
use Rattle.key_commands.specs.Held.{prepared_in}
use Rattle.key_commands.specs.Reading.{StaysAs}

-- the key, the name that the client has, and what it said of its waiting
abbrev pub prepared_front : Prepared → List ℕ
prepared_front p = flat_map (λ (piece : List ℕ). piece) (p.key ∷ codes " " ∷ decimal p.given.life ∷ codes "." ∷ decimal p.given.number ∷ codes " " ∷ decimal p.until ∷ [])

-- a number, after a space
abbrev pub number_after_space : ℕ → List ℕ
number_after_space number = (32 ∷ []) ++ decimal number

-- the line of one: behind these the objects at which it holds operations
abbrev pub held_line : HeldTransaction → List ℕ
held_line held = prepared_front held.prepared ++ (flat_map number_after_space held.objects.items ++ (10 ∷ []))

-- these, in turn, each with the objects at which it holds operations after H
pub record AreHeldTransactions (H : List Event) (ps : List Prepared) (told : List HeldTransaction) : Type 0 where
  pub prepared : map (λ held. held.prepared) told ≡ ps
  pub objects : AllByRecursion (λ held. AreHeldAt H held.prepared.number held.objects.items) told

-- a line for each that is prepared and not decided
pub record IsPreparedText (c : Contents) (text : List ℕ) : Type 0 where
  pub told : List HeldTransaction
  pub are : AreHeldTransactions (events_of_kinds c.events) (prepared_in c) told
  pub lines : text ≡ flat_map held_line told

-- yes with the lines of those that are prepared and not decided in what is held, which says then what it said, if no wrong answer of a disk was taken
-- as true; never no
abbrev pub TellsPrepared : Type 0 → Option Trees → Option Trees → Answers
TellsPrepared clean found left Yes text = clean → IfSome found (λ was. IsPreparedText (contents_of was) text × StaysAs left (contents_of was))
TellsPrepared clean found left No text = ⊥
