-- What begins where an epoch is over.
use Rattle.std.proofs.Common.{◌≡◌, ◌∙◌, Bool, Option, None, Some, List, [], ◌++◌, map, length, refl, ap, subst}
use Rattle.journal.specs.declared.header.Header.{Header}
use Rattle.journal.specs.Contents.{Contents, newest_format, with_let_go}
use Rattle.journal.specs.Outcomes.{let_go}
use Rattle.store_laws.specs.Stored.{Stored}
use Rattle.journal.specs.declared.prepared_row.Prepared.{Prepared}
use Rattle.durable_store.specs.Durable.{kinds}
use Rattle.durable_store.specs.Epochs.{GoesOver}
use Rattle.table_checker.specs.Checked.{Checked}
use Rattle.durable_store.specs.Growth.{ArePlaced, AreUnknown}
use Rattle.durable_store.specs.Recovered.{next_life}
use Rattle.durable_store.proofs.NextStores.{over-forgetful}
use Rattle.serving.specs.declared.answer_line.AnswerLine.TheVariants.{Extended}
use Rattle.serving.specs.declared.answer_line.Answered.{Answered}
use Rattle.serving.specs.declared.extension.Extension.{Extension}
use Rattle.serving.specs.Epochs.{closed_by}
use Rattle.serving.specs.Follows.{HasMore}
use Rattle.serving.specs.NextEpoch.{HasMoreObjects, IsNextFile, IsNextStore, SaysNext, SaysSame, late_answer}
use Rattle.serving.specs.Requests.{LetsGo}

-- ---- what a file says of its objects

pub says-then : (a b c : Contents) → SaysSame a b → SaysSame b c → SaysSame a c
says-then a b c first second = (second.0 ∙ first.0, second.1 ∙ first.1, second.2 ∙ first.2, second.3 ∙ first.3)

-- events change nothing of it, where what is known of keys and of who was prepared stays
pub more-same : {a b : Contents} → HasMore a b → b.outcomes ≡ a.outcomes → b.prepared ≡ a.prepared → SaysSame a b
more-same more outcomes prepared = (ap (λ (x : Contents). x.objects) more.others, ap (λ (x : Contents). x.types) more.others, outcomes, prepared)

pub says-next-then : (waits : Option Extension) (ps : List Prepared) (a b c : Contents) → SaysSame a b → SaysNext waits ps b c → SaysNext waits ps a c
says-next-then None ps a b c first second = (second.0 ∙ first.0, second.1 ∙ first.1, second.2 ∙ ap let_go first.2, second.3)
says-next-then (Some e) ps a b c first second = (more-then e a b c first second.0, second.1)
  where
    more-then : (e : Extension) (a b c : Contents) → SaysSame a b → HasMoreObjects e.added (with_let_go b) c → HasMoreObjects e.added (with_let_go a) c
    more-then e a b c first second = record {
      fresh = second.fresh;
      unknown = subst (λ ts. AreUnknown ts second.fresh) first.1 second.unknown;
      placed = second.placed;
      are_placed = subst (λ ts. ArePlaced e.added.texts.items (ts ++ second.fresh) e.added.lines.items second.placed) first.1 second.are_placed;
      objects = second.objects ∙ ap (λ os. os ++ second.placed) first.0;
      types = second.types ∙ ap (λ ts. ts ++ second.fresh) first.1;
      outcomes = second.outcomes ∙ ap let_go first.2;
    }

-- ---- a file that begins anew

pub next-store : (waits : Option Extension) (ps : List Prepared) (old new : Stored) (qs : List Prepared) (c now : Contents) → IsNextFile waits ps old new qs c now → IsNextStore waits ps old new qs
next-store None ps old new qs c now next = next.0
next-store (Some e) ps old new qs c now next = (next.added, next.are, next.over)

pub next-says : (waits : Option Extension) (ps : List Prepared) (old new : Stored) (qs : List Prepared) (c now : Contents) → IsNextFile waits ps old new qs c now → SaysNext waits qs c now
next-says None ps old new qs c now next =
    (ap (λ (x : Contents). x.objects) next.1, ap (λ (x : Contents). x.types) next.1, ap (λ (x : Contents). x.outcomes) next.1, ap (λ (x : Contents). x.prepared) next.1)
next-says (Some e) ps old new qs c now next = (
  record {
    fresh = next.fresh;
    unknown = next.unknown;
    placed = next.placed;
    are_placed = next.are_placed;
    objects = ap (λ (x : Contents). x.objects) next.is;
    types = ap (λ (x : Contents). x.types) next.is;
    outcomes = ap (λ (x : Contents). x.outcomes) next.is;
  },
  ap (λ (x : Contents). x.prepared) next.is,
)

-- the same headers, in the next life
abbrev pub raised : List Header → List Header
raised hs = map (λ (h : Header). let it : Header = record h { format = newest_format; life = next_life hs } in it) hs

pub next-headers : (waits : Option Extension) (ps : List Prepared) (old new : Stored) (qs : List Prepared) (c now : Contents) → IsNextFile waits ps old new qs c now → now.headers ≡ raised c.headers
next-headers None ps old new qs c now next = ap (λ (x : Contents). x.headers) next.1
next-headers (Some e) ps old new qs c now next = ap (λ (x : Contents). x.headers) next.is

-- it has the events of its store
pub next-events : (waits : Option Extension) (ps : List Prepared) (old new : Stored) (qs : List Prepared) (c now : Contents) → IsNextFile waits ps old new qs c now → now.events ≡ kinds new.history
next-events None ps old new qs c now next = ap (λ (x : Contents). x.events) next.1
next-events (Some e) ps old new qs c now next = ap (λ (x : Contents). x.events) next.is

-- ---- a store that has forgotten more begins anew at the same states

over-as : (s t : Stored) (added : List Checked) (ps : List Prepared) (new : Stored) (qs : List Prepared) → LetsGo s t → GoesOver added t ps new qs → GoesOver added s ps new qs
over-as s t added ps new qs lets over = over-forgetful s t added ps new qs lets over

pub next-store-as : (waits : Option Extension) (ps : List Prepared) (s t new : Stored) (qs : List Prepared) → LetsGo s t → IsNextStore waits ps t new qs → IsNextStore waits ps s new qs
next-store-as None ps s t new qs lets next = over-as s t [] ps new qs lets next
next-store-as (Some e) ps s t new qs lets next = (next.0, next.1, over-as s t next.0 ps new qs lets next.2)

pub next-file-as : (waits : Option Extension) (ps : List Prepared) (s t new : Stored) (qs : List Prepared) (c now : Contents) → LetsGo s t → IsNextFile waits ps t new qs c now → IsNextFile waits ps s new qs c now
next-file-as None ps s t new qs c now lets next = (over-as s t [] ps new qs lets next.0, next.1)
next-file-as (Some e) ps s t new qs c now lets next = record {
  added = next.added;
  are = next.are;
  over = over-as s t next.added ps new qs lets next.over;
  fresh = next.fresh;
  unknown = next.unknown;
  placed = next.placed;
  are_placed = next.are_placed;
  is = next.is;
}

-- what waits is answered the same
pub late-as : (goes : Bool) (waits : Option Extension) (ps : List Prepared) (s t : Stored) → LetsGo (closed_by goes ps s) t → late_answer waits t ≡ late_answer waits s
late-as goes None ps s t lets = refl
late-as goes (Some e) ps s t lets = ap (λ (u : Stored). let it : Answered = record { tag = e.tag; answer = Extended (length u.types) } in Some it) lets
