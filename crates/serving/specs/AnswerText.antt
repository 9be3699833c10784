-- The lines that a client is answered.
use Rattle.std.specs.Prelude.{ℕ, List, [], ◌∷◌, ◌++◌, codes, Option, Some, None, ◌==◌}
use Rattle.std.specs.Fmt.{decimal}
use Rattle.std.specs.List.{flat_map, slice_split}
use Rattle.line_text.specs.Spelling.{spaced}
use Rattle.object_trait.specs.declared.event.Event.{Event}
use Rattle.object_trait.specs.declared.event.EventKind.{EventKind}
use Rattle.journal.specs.declared.prepared_row.Prepared.{Prepared}
use Rattle.store_text.specs.declared.line.ObjectLine.{ObjectLine}
use Rattle.history_text.specs.Canonical.{words_of, object_line, event_line}
use Rattle.script_run.specs.Lines.{refusal_name}
use Rattle.journal.specs.declared.outcome_row.Outcome.{Outcome}
use Rattle.journal.specs.declared.outcome_row.Outcome.TheVariants as outcome
use Rattle.store.specs.declared.refusals.PeekRefusal.{PeekRefusal}
use Rattle.store.specs.declared.refusals.PeekRefusal.TheVariants as peek
use Rattle.request_text.specs.declared.fault.RequestFault.{RequestFault}
use Rattle.request_text.specs.declared.fault.RequestFault.TheVariants.{TooLong, NotAscii, BadTag, UnknownVerb, BadWords, BadNumber}
use Rattle.request_text.specs.declared.request.TransactionName.{TransactionName}
use Rattle.serving.specs.declared.answer_line.AnswerLine.{AnswerLine}
use Rattle.serving.specs.declared.answer_line.HeldTransaction.{HeldTransaction}
use Rattle.serving.specs.declared.answer_line.KeyRefusal.{KeyRefusal}
use Rattle.serving.specs.declared.answer_line.KeyRefusal.TheVariants as key
use Rattle.serving.specs.declared.answer_line.Moment.{Moment}
use Rattle.serving.specs.declared.answer_line.AnswerLine.TheVariants.{Done, Committed, Begun, State, Reply, Busy, Draining, Nothing, Counts, Decided, Held, IsPrepared, Objects, Types, Events, Extended, Found, Seen, SeenStates, NothingSeen, Unseen, Completed, CompletedOne, BusyAt, NothingAt, RefusedAt, Replied, KeyRefused, OutcomeIs, OutcomePrepared, Voted, VotedBefore, NotAdded, Waiting, Refused, Fault}

-- the tag, or `-` where a line has none
abbrev pub tag_text : Option (List ℕ) → List ℕ
tag_text None = codes "-"
tag_text (Some tag) = tag

-- the name of a fault
abbrev pub fault_name : RequestFault → List ℕ
fault_name TooLong = codes "TooLong"
fault_name NotAscii = codes "NotAscii"
fault_name BadTag = codes "BadTag"
fault_name UnknownVerb = codes "UnknownVerb"
fault_name BadWords = codes "BadWords"
fault_name BadNumber = codes "BadNumber"

-- the name of a reason why a call isn't answered to a transaction that only reads
abbrev pub peek_refusal_name : PeekRefusal → List ℕ
peek_refusal_name peek.NoObject = codes "NoObject"
peek_refusal_name peek.NoCall = codes "NoCall"
peek_refusal_name peek.Changes = codes "Changes"

-- the name of a reason why nothing is done under a key
abbrev pub key_refusal_name : KeyRefusal → List ℕ
key_refusal_name key.Aborted = codes "Aborted"
key_refusal_name key.Committed = codes "Committed"
key_refusal_name key.Prepared = codes "KeyPrepared"
key_refusal_name key.Decided = codes "Decided"
key_refusal_name key.Unknown = codes "Unknown"
key_refusal_name key.Taken = codes "KeyTaken"

-- pieces one after another
abbrev pub pieces_text : List (List ℕ) → List ℕ
pieces_text pieces = flat_map (λ piece. piece) pieces

-- ---- one line

-- that it is done
abbrev pub done_text : List ℕ → List ℕ
done_text tag = pieces_text (tag ∷ codes " ok\n" ∷ [])

-- that no further transaction begins
abbrev pub draining_text : List ℕ → List ℕ
draining_text tag = pieces_text (tag ∷ codes " busy drain\n" ∷ [])

-- a tag, words and a transaction: its life and its number with a point between
abbrev pub transaction_text : List ℕ → List ℕ → TransactionName → List ℕ
transaction_text tag words t = pieces_text (tag ∷ words ∷ decimal t.life ∷ codes "." ∷ decimal t.number ∷ (10 ∷ []) ∷ [])

-- a tag and a number
abbrev pub number_text : List ℕ → ℕ → List ℕ
number_text tag number = pieces_text (tag ∷ codes " ok " ∷ decimal number ∷ (10 ∷ []) ∷ [])

-- a tag and one word after words
abbrev pub word_text : List ℕ → List ℕ → List ℕ → List ℕ
word_text tag words word = pieces_text (tag ∷ words ∷ word ∷ (10 ∷ []) ∷ [])

-- a tag and the numbers of events, of transactions that have begun, of those that are open, and of those that are prepared
abbrev pub counts_text : List ℕ → ℕ → ℕ → ℕ → ℕ → List ℕ
counts_text tag events begun open_ones prepared =
    pieces_text
    (tag ∷ codes " ok events " ∷ decimal events ∷ codes " begun " ∷ decimal begun ∷ codes " open " ∷ decimal open_ones ∷ codes " prepared " ∷ decimal prepared ∷ (10 ∷ []) ∷ [])

-- words, each after a space
abbrev pub after_space : List ℕ → List ℕ
after_space word = (32 ∷ []) ++ word

-- a number, after a space
abbrev pub number_after_space : ℕ → List ℕ
number_after_space number = (32 ∷ []) ++ decimal number

-- a tag, and the moment of what was seen: a life, and how many commits of its epoch, with a point between
abbrev pub seen_text : List ℕ → Moment → List ℕ
seen_text tag moment = pieces_text (tag ∷ codes " seen " ∷ decimal moment.life ∷ codes "." ∷ decimal moment.commits ∷ [])

-- a tag, a word, and a place
abbrev pub place_text : List ℕ → List ℕ → ℕ → List ℕ
place_text tag words at = pieces_text (tag ∷ words ∷ decimal at ∷ (10 ∷ []) ∷ [])

-- a tag, a place, and the transaction that is in the way there
abbrev pub busy_text : List ℕ → ℕ → TransactionName → List ℕ
busy_text tag at t = pieces_text (tag ∷ codes " busy " ∷ decimal at ∷ codes " " ∷ decimal t.life ∷ codes "." ∷ decimal t.number ∷ (10 ∷ []) ∷ [])

-- a tag, a place, and why the call there was refused
abbrev pub refused_text : List ℕ → ℕ → List ℕ → List ℕ
refused_text tag at why = pieces_text (tag ∷ codes " refused " ∷ decimal at ∷ codes " " ∷ why ∷ (10 ∷ []) ∷ [])

-- words that are there already, after a space where there are any
abbrev pub words_behind : List ℕ → List ℕ
words_behind [] = []
words_behind (b ∷ text) = 32 ∷ b ∷ text

-- a tag, what became of a transaction, and its replies
abbrev pub outcome_text : List ℕ → Option Outcome → List ℕ
outcome_text tag None = pieces_text (tag ∷ codes " unknown\n" ∷ [])
outcome_text tag (Some (outcome.Committed replies)) = pieces_text (tag ∷ codes " committed" ∷ words_behind replies ∷ (10 ∷ []) ∷ [])
outcome_text tag (Some outcome.Aborted) = pieces_text (tag ∷ codes " aborted\n" ∷ [])

-- ---- several lines, each after the tag

-- a line after a tag
abbrev pub behind : List ℕ → List ℕ → List ℕ
behind tag line = tag ++ (32 ∷ []) ++ (line ++ (10 ∷ []))

-- the line of an object, as a history text has it
abbrev pub object_answer : List ℕ → ObjectLine → List ℕ
object_answer tag o = behind tag (spaced (words_of (object_line o)))

-- the line of an event of worker 0, as a history text has it
abbrev pub event_text : List ℕ → EventKind → List ℕ
event_text tag kind = let e : Event = record { worker = 0; kind = kind } in behind tag (spaced (words_of (event_line e)))

-- what is between the LFs of a text, so that an empty line ends it
abbrev pub answer_lines : List ℕ → List ℕ → List ℕ
answer_lines tag text = flat_map (behind tag) (slice_split (λ b. b == 10) text)

-- a transaction that is prepared: its key, its name, and until when its client waits
abbrev pub prepared_words : List ℕ → Prepared → List ℕ
prepared_words tag p =
    pieces_text (tag ∷ codes " " ∷ p.key ∷ codes " " ∷ decimal p.given.life ∷ codes "." ∷ decimal p.given.number ∷ codes " " ∷ decimal p.until ∷ [])

-- and the objects at which it holds operations
abbrev pub held_text : List ℕ → HeldTransaction → List ℕ
held_text tag held = prepared_words tag held.prepared ++ (flat_map number_after_space held.objects.items ++ (10 ∷ []))

-- ---- an answer

-- the lines of an answer
abbrev pub answer_text : Option (List ℕ) → AnswerLine → List ℕ
answer_text tag Done = done_text (tag_text tag)
answer_text tag Committed = done_text (tag_text tag)
answer_text tag (Begun t) = transaction_text (tag_text tag) (codes " ok ") t
answer_text tag (State state) = number_text (tag_text tag) state
answer_text tag (Reply reply) = word_text (tag_text tag) (codes " reply ") reply
answer_text tag (Busy blocker) = transaction_text (tag_text tag) (codes " busy ") blocker
answer_text tag Draining = draining_text (tag_text tag)
answer_text tag Nothing = pieces_text (tag_text tag ∷ codes " none\n" ∷ [])
answer_text tag (Counts events begun open_ones prepared) = counts_text (tag_text tag) events begun open_ones prepared
answer_text tag (Objects objects) = flat_map (object_answer (tag_text tag)) objects.items ++ done_text (tag_text tag)
answer_text tag (Types texts) = flat_map (answer_lines (tag_text tag)) texts.items ++ done_text (tag_text tag)
answer_text tag (Events events) = flat_map (event_text (tag_text tag)) events.items ++ done_text (tag_text tag)
answer_text tag (Extended first) = number_text (tag_text tag) first
answer_text tag (Found x) = number_text (tag_text tag) x
answer_text tag (Seen moment replies) = seen_text (tag_text tag) moment ++ (flat_map after_space replies.items ++ (10 ∷ []))
answer_text tag (SeenStates moment states) = seen_text (tag_text tag) moment ++ (flat_map number_after_space states.items ++ (10 ∷ []))
answer_text tag (NothingSeen at) = place_text (tag_text tag) (codes " none ") at
answer_text tag (Unseen refusal) = word_text (tag_text tag) (codes " refused ") (peek_refusal_name refusal)
answer_text tag (Completed replies) = (tag_text tag ++ codes " done") ++ (flat_map after_space replies.items ++ (10 ∷ []))
answer_text tag (CompletedOne reply) = word_text (tag_text tag) (codes " done ") reply
answer_text tag (BusyAt at blocker) = busy_text (tag_text tag) at blocker
answer_text tag (NothingAt at) = place_text (tag_text tag) (codes " none ") at
answer_text tag (RefusedAt at refusal) = refused_text (tag_text tag) at (refusal_name refusal)
answer_text tag (Replied replies) = pieces_text (tag_text tag ∷ codes " done" ∷ words_behind replies ∷ (10 ∷ []) ∷ [])
answer_text tag (KeyRefused why) = word_text (tag_text tag) (codes " refused ") (key_refusal_name why)
answer_text tag (OutcomeIs found) = outcome_text (tag_text tag) found
answer_text tag OutcomePrepared = pieces_text (tag_text tag ∷ codes " prepared\n" ∷ [])
answer_text tag Voted = done_text (tag_text tag)
answer_text tag VotedBefore = done_text (tag_text tag)
answer_text tag Decided = done_text (tag_text tag)
answer_text tag IsPrepared = pieces_text (tag_text tag ∷ codes " refused Prepared\n" ∷ [])
answer_text tag (Held prepared) = flat_map (held_text (tag_text tag)) prepared.items ++ done_text (tag_text tag)
answer_text tag (NotAdded why) = word_text (tag_text tag) (codes " no ") why.items
answer_text tag Waiting = []
answer_text tag (Refused refusal) = word_text (tag_text tag) (codes " refused ") (refusal_name refusal)
answer_text tag (Fault fault) = word_text (tag_text tag) (codes " fault ") (fault_name fault)
