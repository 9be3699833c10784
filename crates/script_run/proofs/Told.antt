-- The lines of a script that aren't comments: the canonical text of its history.
use Rattle.store_limits.specs.declared.limits.Limits.{Limits}
use Rattle.std.proofs.Common.{◌≡◌, ℕ, suc, Bool, true, false, List, [], ◌∷◌, ◌++◌, map, filter, cond, Option, Some, None, refl, sym, ap, ◌∙◌, append_assoc, append-nil}
use Rattle.std.proofs.lemmas.Grind.{flat_map-append}
use Rattle.std.proofs.lemmas.List.{map-append}
use Rattle.std.proofs.lemmas.List.Elements.{filter-append}
use Rattle.line_text.specs.Comments.{tells}
use Rattle.line_text.specs.Spelling.{spaced, text_of}
use Rattle.type_table.specs.Operation.{amount_of, place_of}
use Rattle.object_trait.specs.Object.{Object}
use Rattle.object_trait.specs.declared.event.Event.{Event}
use Rattle.object_trait.specs.declared.event.EventKind.{EventKind}
use Rattle.object_trait.specs.declared.event.EventKind.TheVariants as kind
use Rattle.serial_order.specs.History.{summary}
use Rattle.serial_order.specs.Laws.{CommandAppends}
use Rattle.serial_order.specs.Replay.{refusal, event_of}
use Rattle.serial_order.specs.declared.command.Command.{Command}
use Rattle.serial_order.specs.declared.refusal.Refusal.{Refusal}
use Rattle.serial_order.specs.declared.refusal.Refusal.TheVariants.{NoMemory}
use Rattle.store_text.specs.Kept.{size_lines}
use Rattle.store_text.specs.declared.line.Line.TheVariants.{End, Entry}
use Rattle.store_text.specs.declared.line.ObjectLine.{ObjectLine}
use Rattle.history_text.specs.Canonical.{words_of, object_line, event_line, canonical_size, canonical_text}
use Rattle.history_text.specs.Events.{op_event_line}
use Rattle.script_run.specs.Turns.{Turn, line_of, text_of_turns, history_after, by_script, event_turn, refused_turn, answered_turn, command_turn, object_turn, size_turn, object_turns, command_turns, abort_turns, closing_turns, open_in, end_turn, kept_turns}
use Rattle.script_run.specs.Laws.{turn_tells, TextTellsHistory}
use Rattle.script_run.proofs.Turns.{history_after-append, text_of-append}

-- the lines of events
abbrev event_text : List Event → List ℕ
event_text happened = text_of words_of (map event_line happened)

event_text-append : (xs ys : List Event) → event_text (xs ++ ys) ≡ event_text xs ++ event_text ys
event_text-append xs ys =
    ap (text_of words_of) (map-append event_line xs ys) ∙ flat_map-append _ (map event_line xs) (map event_line ys)

-- turns that append some events, whose lines are those of the turns that aren't comments
record AreTold (H : List Event) (turns : List Turn) : Type 0 where
  pub happened : List Event
  pub history : history_after H turns ≡ H ++ happened
  pub text : text_of_turns (filter turn_tells turns) ≡ event_text happened

none_told : (H : List Event) → AreTold H []
none_told H = record { happened = []; history = sym (append-nil H); text = refl }

-- the text of the turns that say something, of two lists
tells-append : (xs ys : List Turn) → text_of_turns (filter turn_tells (xs ++ ys)) ≡ text_of_turns (filter turn_tells xs) ++ text_of_turns (filter turn_tells ys)
tells-append xs ys = ap text_of_turns (filter-append turn_tells xs ys) ∙ text_of-append (filter turn_tells xs) (filter turn_tells ys)

-- one list after another
told-join : (H : List Event) (xs ys : List Turn) → AreTold H xs → AreTold (history_after H xs) ys → AreTold H (xs ++ ys)
told-join H xs ys p q =
    record {
      happened = p.happened ++ q.happened;
      history =
          history_after-append H xs ys ∙ q.history ∙ ap (λ K. K ++ q.happened) p.history ∙ append_assoc H p.happened q.happened;
      text = tells-append xs ys ∙ ap (λ l. l ++ text_of_turns (filter turn_tells ys)) p.text ∙ ap (λ l. event_text p.happened ++ l) q.text
          ∙ sym (event_text-append p.happened q.happened);
    }

-- the line of an operation is no comment, with an amount and without one
op-tells : (w t x k : ℕ) (amount : Option ℕ) → tells (spaced (words_of (Entry (op_event_line w t x k amount)))) ≡ true
op-tells w t x k None = refl
op-tells w t x k (Some n) = refl

-- nor is that of any event
pub event-tells : (H : List Event) (happened : EventKind) → turn_tells (event_turn H happened) ≡ true
event-tells H (kind.Begin t) = refl
event-tells H (kind.Op k t x) = op-tells 0 t x (place_of k) (amount_of k)
event-tells H (kind.Busy c t x u) = refl
event-tells H (kind.None t x c) = refl
event-tells H (kind.Commit t) = refl
event-tells H (kind.Abort t) = refl
event-tells H (kind.Rollback t n) = refl

event-told : (H : List Event) (happened : EventKind) → AreTold H (event_turn H happened ∷ [])
event-told H happened =
    record {
      happened = by_script happened ∷ [];
      history = refl;
      text = ap (λ b. text_of_turns (cond b (event_turn H happened ∷ []) [])) (event-tells H happened);
    }

-- a refusal's is one
refused-told : (H : List Event) (r : Refusal) → AreTold H (refused_turn H r ∷ [])
refused-told H r = record { happened = []; history = sym (append-nil H); text = refl }

-- ---- commands

module _ (appends : CommandAppends) (objects : List Object) (limits : Limits) where
  answered-told : (H : List Event) (command : Command) (reason : Option Refusal) → refusal objects limits H command ≡ reason
      → AreTold H (answered_turn H reason (event_of objects (summary H) command) ∷ [])
  answered-told H command (Some r) e = refused-told H r
  answered-told H command None e =
      let its = appends objects limits H 0 command e in
      rw its.is (event-told H its.happened)

  command-told : (memory_refused : Bool) (H : List Event) (command : Command) → AreTold H (command_turn objects limits memory_refused H command ∷ [])
  command-told true H command = refused-told H NoMemory
  command-told false H command = answered-told H command (refusal objects limits H command) refl

  commands-told : (memory_refused : ℕ → Bool) (H : List Event) (commands : List Command) → AreTold H (command_turns objects limits memory_refused H commands)
  commands-told memory_refused H [] = none_told H
  commands-told memory_refused H (c ∷ commands) =
      let turn = command_turn objects limits (memory_refused 0) H c in
      told-join H (turn ∷ []) (command_turns objects limits (λ place. memory_refused (suc place)) turn.history commands) (command-told (memory_refused 0) H c)
      (commands-told (λ place. memory_refused (suc place)) turn.history commands)

-- ---- what comes after them

aborts-told : (H : List Event) (ts : List ℕ) → AreTold H (abort_turns H ts)
aborts-told H [] = none_told H
aborts-told H (t ∷ ts) =
    told-join H (event_turn H (kind.Abort t) ∷ []) (abort_turns (H ++ by_script (kind.Abort t) ∷ []) ts) (event-told H (kind.Abort t))
    (aborts-told (H ++ by_script (kind.Abort t) ∷ []) ts)

kept-told : (H : List Event) (x : ℕ) (kept : List ℕ) → text_of_turns (filter turn_tells (kept_turns H x kept)) ≡ []
kept-told H x [] = refl
kept-told H x (s ∷ kept) = kept-told H (suc x) kept

pub kept-stays : (H : List Event) (x : ℕ) (kept : List ℕ) → history_after H (kept_turns H x kept) ≡ H
kept-stays H x [] = refl
kept-stays H x (s ∷ kept) = kept-stays H (suc x) kept

-- ---- the whole

size-told : (H : List Event) (size : Option ℕ) → text_of_turns (filter turn_tells (map (size_turn H) (size_lines size))) ≡ text_of words_of (size_lines size)
size-told H None = refl
size-told H (Some n) = refl

each-told : (H : List Event) (lines : List ObjectLine) → text_of_turns (filter turn_tells (map (object_turn H) lines)) ≡ text_of words_of (map object_line lines)
each-told H [] = refl
each-told H (o ∷ lines) = ap (λ l. line_of (object_turn H o) ++ l) (each-told H lines)

objects-told : (H : List Event) (lines : List ObjectLine)
    → text_of_turns (filter turn_tells (object_turns H lines)) ≡ text_of words_of (size_lines (canonical_size lines)) ++ text_of words_of (map object_line lines)
objects-told H lines =
    let size = canonical_size lines in
    tells-append (map (size_turn H) (size_lines size)) (map (object_turn H) lines)
    ∙ ap (λ l. l ++ text_of_turns (filter turn_tells (map (object_turn H) lines))) (size-told H size)
    ∙ ap (λ l. text_of words_of (size_lines size) ++ l) (each-told H lines)

size-stays : (H : List Event) (size : Option ℕ) → history_after H (map (size_turn H) (size_lines size)) ≡ H
size-stays H None = refl
size-stays H (Some n) = refl

each-stays : (H : List Event) (lines : List ObjectLine) → history_after H (map (object_turn H) lines) ≡ H
each-stays H [] = refl
each-stays H (o ∷ lines) = each-stays H lines

pub objects-stay : (H : List Event) (lines : List ObjectLine) → history_after H (object_turns H lines) ≡ H
objects-stay H lines =
    let size = map (size_turn H) (size_lines (canonical_size lines)) in
    history_after-append H size (map (object_turn H) lines) ∙ ap (λ J. history_after J (map (object_turn H) lines)) (size-stays H (canonical_size lines)) ∙ each-stays H lines

-- `end`, and after it nothing but comments
end-told : (H : List Event) (kept : List ℕ) → text_of_turns (filter turn_tells (end_turn H ∷ kept_turns H 0 kept)) ≡ text_of words_of (End ∷ [])
end-told H kept = ap (λ l. line_of (end_turn H) ++ l) (kept-told H 0 kept)

-- the canonical text by its parts
canonical-parts : (lines : List ObjectLine) (H : List Event)
    → canonical_text lines H ≡ (text_of words_of (size_lines (canonical_size lines)) ++ text_of words_of (map object_line lines)) ++ (event_text H ++ text_of words_of (End ∷ []))
canonical-parts lines H =
    let size = text_of words_of (size_lines (canonical_size lines)) in
    flat_map-append _ (size_lines (canonical_size lines)) (map object_line lines ++ (map event_line H ++ End ∷ []))
    ∙ ap (λ l. size ++ l)
    (flat_map-append _ (map object_line lines) (map event_line H ++ End ∷ [])
    ∙ ap (λ l. text_of words_of (map object_line lines) ++ l) (flat_map-append _ (map event_line H) (End ∷ [])))
    ∙ sym (append_assoc size (text_of words_of (map object_line lines)) (event_text H ++ text_of words_of (End ∷ [])))

pub text-tells : CommandAppends → TextTellsHistory
text-tells appends = λ objects limits memory_refused kept lines commands.
    let first = object_turns [] lines in
    let asked = command_turns objects limits memory_refused [] commands in
    let K = history_after [] asked in
    let closing = closing_turns K in
    let closed = history_after K closing in
    let behind = end_turn closed ∷ kept_turns closed 0 kept in
    let both : AreTold [] (asked ++ closing) = told-join [] asked closing (commands-told appends objects limits memory_refused [] commands) (aborts-told K (open_in K)) in
    let lines_text = text_of words_of (size_lines (canonical_size lines)) ++ text_of words_of (map object_line lines) in
    let end_text = text_of words_of (End ∷ []) in
    let history : history_after [] (first ++ (asked ++ (closing ++ behind))) ≡ both.happened =
    history_after-append [] first (asked ++ (closing ++ behind)) ∙ ap (λ J. history_after J (asked ++ (closing ++ behind))) (objects-stay [] lines)
    ∙ history_after-append [] asked (closing ++ behind) ∙ history_after-append K closing behind ∙ kept-stays closed 0 kept
    ∙ sym (history_after-append [] asked closing) ∙ both.history
    in
    let text : text_of_turns (filter turn_tells (first ++ (asked ++ (closing ++ behind)))) ≡ lines_text ++ (event_text both.happened ++ end_text) =
    tells-append first (asked ++ (closing ++ behind)) ∙ ap (λ l. l ++ text_of_turns (filter turn_tells (asked ++ (closing ++ behind)))) (objects-told [] lines)
    ∙ ap (λ l. lines_text ++ l)
    (ap (λ ts. text_of_turns (filter turn_tells ts)) (sym (append_assoc asked closing behind)) ∙ tells-append (asked ++ closing) behind
    ∙ ap (λ l. l ++ text_of_turns (filter turn_tells behind)) both.text ∙ ap (λ l. event_text both.happened ++ l) (end-told closed kept))
    in
    text ∙ sym (ap (canonical_text lines) history ∙ canonical-parts lines both.happened)
