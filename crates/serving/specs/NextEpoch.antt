-- What begins where an epoch is over: a store at the committed states, with what is prepared, and with what waits to be added.
use Rattle.std.specs.Prelude.{◌≡◌, ◌↔◌, ℕ, ◌+◌, min, Bool, true, false, List, [], ◌∷◌, ◌++◌, length, Option, Some, None}
use Rattle.table_checker.specs.Checked.{Checked}
use Rattle.store_laws.specs.Stored.{Stored}
use Rattle.carried_orders.specs.Orders.{AreStrong}
use Rattle.store_text.specs.declared.line.ObjectLine.{ObjectLine}
use Rattle.journal.specs.Contents.{Contents, with_let_go}
use Rattle.durable_store.specs.Durable.{kinds}
use Rattle.durable_store.specs.Epochs.{GoesOver, renewed_with}
use Rattle.journal.specs.declared.prepared_row.Prepared.{Prepared}
use Rattle.durable_store.specs.Growth.{AreAdded, ArePlaced, AreUnknown, Grows}
use Rattle.serving.specs.declared.additions.Added.{Added}
use Rattle.serving.specs.declared.answer_line.AnswerLine.{AnswerLine}
use Rattle.serving.specs.declared.answer_line.AnswerLine.TheVariants.{Extended, NotAdded, Waiting}
use Rattle.serving.specs.declared.answer_line.Answered.{Answered}
use Rattle.serving.specs.declared.extension.Extension.{Extension}
use Rattle.serving.specs.Names.{KnownNames}

-- ---- when an epoch is over

-- with this many events an epoch is full: so many more than it began with, and never more than 980,000
abbrev pub full_with : ℕ → KnownNames → ℕ
full_with most names = min (names.begun_with + most) 980000

-- with none where an extension waits
abbrev pub limit_while : Option Extension → ℕ → ℕ
limit_while None most = most
limit_while (Some e) most = 0

-- whether all that is open goes over as it ends: it does where each yes is strong
abbrev pub WhereStrong : Bool → Stored → Type 0
WhereStrong goes s = (goes ≡ true) ↔ AreStrong s.types

-- with this many events no transaction begins: where all that is open goes over, only with more than a history can have
abbrev pub begin_limit : Bool → Option Extension → ℕ → ℕ
begin_limit true waits most = 4294967295
begin_limit false waits most = limit_while waits most

-- ---- another epoch

-- a store begins anew at the states that had committed at another one, and has the objects of what waits behind those; what is prepared there goes over
abbrev pub IsNextStore : Option Extension → List Prepared → Stored → Stored → List Prepared → Type 0
IsNextStore None ps old new now = GoesOver [] old ps new now
IsNextStore (Some e) ps old new now = (types : List Checked) × AreAdded e.added.texts.items e.added.lines.items types × GoesOver types old ps new now

-- and so does its file
abbrev pub IsNextFile : Option Extension → List Prepared → Stored → Stored → List Prepared → Contents → Contents → Type 0
IsNextFile None ps old new new_ps c now = GoesOver [] old ps new new_ps × (now ≡ renewed_with c new.types (kinds new.history) new_ps)
IsNextFile (Some e) ps old new new_ps c now = Grows e.added.texts.items e.added.lines.items old ps new new_ps c now

-- a file says the same of its objects, their types, what became of transactions that have keys, and which were prepared
abbrev pub SaysSame : Contents → Contents → Type 0
SaysSame c now = (now.objects ≡ c.objects) × (now.types ≡ c.types) × (now.outcomes ≡ c.outcomes) × (now.prepared ≡ c.prepared)

-- it has objects and texts more: none of these texts was there
pub record HasMoreObjects (a : Added) (c now : Contents) : Type 0 where
  pub fresh : List (List ℕ)
  pub unknown : AreUnknown c.types fresh
  pub placed : List ObjectLine
  pub are_placed : ArePlaced a.texts.items (c.types ++ fresh) a.lines.items placed
  pub objects : now.objects ≡ c.objects ++ placed
  pub types : now.types ≡ c.types ++ fresh
  pub outcomes : now.outcomes ≡ c.outcomes

-- what it says of these where another epoch begins, in which these are prepared: outcomes are let go since which as many were kept as stay at least
abbrev pub SaysNext : Option Extension → List Prepared → Contents → Contents → Type 0
SaysNext None ps c now = SaysSame (record (with_let_go c) { prepared = ps }) now
SaysNext (Some e) ps c now = HasMoreObjects e.added (with_let_go c) now × (now.prepared ≡ ps)

-- ---- what is answered

-- one answer, or none
abbrev pub answers_in : Option Answered → List Answered
answers_in None = []
answers_in (Some a) = a ∷ []

-- what an extension is answered once it is durable: the number of its first object, which is how many there were
abbrev pub late_answer : Option Extension → Stored → Option Answered
late_answer None s = None
late_answer (Some e) s = Some (record { tag = e.tag; answer = Extended (length s.types) })

-- that what was asked for isn't added
abbrev pub is_not_added : AnswerLine → Bool
is_not_added (NotAdded why) = true
is_not_added answer = false

-- of a line with this tag that asks for more objects: they wait to be added, and it is answered later, or they aren't added
abbrev pub MayWait : Option (List ℕ) → AnswerLine → Option Extension → Type 0
MayWait tag answer None = is_not_added answer ≡ true
MayWait tag answer (Some e) = (answer ≡ Waiting) × (e.tag ≡ tag)
