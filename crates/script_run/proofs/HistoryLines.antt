-- A script's lines are read as its history: those that aren't its canonical text are comments.
use Rattle.store_limits.specs.declared.limits.Limits.{Limits}
use Rattle.std.proofs.Common.{◌≡◌, ℕ, suc, ◌+◌, ◌<◌, ◌^◌, Bool, true, false, List, [], ◌∷◌, ◌++◌, length, map, filter, cond, Option, Some, None, Ok, refl, sym, ap, ◌∙◌, subst, append-nil, arith}
use Rattle.std.specs.Prelude.{codes}
use Rattle.std.specs.Fmt.{decimal}
use Rattle.std.specs.List.{AllByRecursion}
use Rattle.std.proofs.lemmas.Grind.{flat_map-append}
use Rattle.std.proofs.lemmas.Bool.{not-true}
use Rattle.std.proofs.lemmas.List.Elements.{filter-append}
use Rattle.line_text.specs.Comments.{MaySkip, ended, lines_text, tells}
use Rattle.line_text.specs.Spelling.{spaced}
use Rattle.line_text.specs.Text.{is_comment}
use Rattle.line_text.proofs.CommentLines.{IsText, comment_skips, comments_skip, nothing_told, number_text, skips_append, told_skips, words_comment}
use Rattle.object_trait.specs.Object.{Object}
use Rattle.object_trait.specs.declared.event.Event.{Event}
use Rattle.object_trait.specs.declared.event.EventKind.{EventKind}
use Rattle.object_trait.specs.declared.event.EventKind.TheVariants as kind
use Rattle.serial_order.specs.History.{summary}
use Rattle.serial_order.specs.Replay.{refusal, event_of}
use Rattle.serial_order.specs.declared.command.Command.{Command}
use Rattle.serial_order.specs.declared.refusal.Refusal.{Refusal}
use Rattle.serial_order.specs.declared.refusal.Refusal.TheVariants.{NotOpen, NoObject, NoCall, TooManyOpen, HistoryFull, NoMemory, BadRollback}
use Rattle.store_text.specs.Body.{store_outcome}
use Rattle.store_text.specs.Kept.{size_lines}
use Rattle.store_text.specs.declared.line.Line.TheVariants.{Objects}
use Rattle.store_text.specs.declared.line.ObjectLine.{ObjectLine}
use Rattle.history_text.specs.Canonical.{CanonicalIsRead, CommentsAreSkipped, canonical_lines, canonical_size, canonical_text}
use Rattle.history_text.specs.Events.{history_body}
use Rattle.script_run.specs.Lines.{refusal_number, refusal_name}
use Rattle.script_run.specs.Turns.{Turn, line_of, text_of_turns, history_after, by_script, event_turn, refused_turn, accepted_turn, answered_turn, command_turn, object_turn, size_turn, object_turns, command_turns, abort_turns, closing_turns, open_in, end_turn, kept_turn, kept_turns, script_turns}
use Rattle.script_run.specs.Laws.{ScriptIsByOne, ScriptIsRead, TextTellsHistory, turn_tells}
use Rattle.script_run.proofs.LongNumbers.{long_number_text}
use Rattle.script_run.proofs.Told.{event-tells, kept-stays, objects-stay}
use Rattle.script_run.proofs.Turns.{history_after-append}

-- ---- lines of turns

abbrev line : Turn → List ℕ
line turn = spaced turn.words

abbrev lines_of_turns : List Turn → List (List ℕ)
lines_of_turns turns = map line turns

-- each line of some turns is a comment if it begins as one
abbrev MaySkipAll : List Turn → Type 0
MaySkipAll turns = AllByRecursion MaySkip (lines_of_turns turns)

skip-append : (xs ys : List Turn) → MaySkipAll xs → MaySkipAll ys → MaySkipAll (xs ++ ys)
skip-append [] ys p q = q
skip-append (x ∷ xs) ys p q = (p.0, skip-append xs ys p.1 q)

-- ---- the lines of a command

pub refusal_text : (r : Refusal) → IsText (refusal_name r)
refusal_text NotOpen = record { bytes = refl; short = omega arith }
refusal_text NoObject = record { bytes = refl; short = omega arith }
refusal_text NoCall = record { bytes = refl; short = omega arith }
refusal_text TooManyOpen = record { bytes = refl; short = omega arith }
refusal_text HistoryFull = record { bytes = refl; short = omega arith }
refusal_text NoMemory = record { bytes = refl; short = omega arith }
refusal_text BadRollback = record { bytes = refl; short = omega arith }

pub one_digit : (r : Refusal) → refusal_number r < 10 ^ 7
one_digit NotOpen = omega arith
one_digit NoObject = omega arith
one_digit NoCall = omega arith
one_digit TooManyOpen = omega arith
one_digit HistoryFull = omega arith
one_digit NoMemory = omega arith
one_digit BadRollback = omega arith

refused-skip : (H : List Event) (r : Refusal) → MaySkip (line (refused_turn H r))
refused-skip H r =
    comment_skips (line (refused_turn H r))
    (words_comment (codes "refused" ∷ decimal (refusal_number r) ∷ refusal_name r ∷ [])
    (record { bytes = refl; short = omega arith }, (number_text (refusal_number r) (one_digit r), (refusal_text r, tt))) (omega arith))

event-skip : (H : List Event) (happened : EventKind) → MaySkip (line (event_turn H happened))
event-skip H happened = told_skips (line (event_turn H happened)) (not-true (is_comment (line (event_turn H happened))) (event-tells H happened))

accepted-skip : (H : List Event) (happened : Option EventKind) → MaySkip (line (accepted_turn H happened))
accepted-skip H (Some happened) = event-skip H happened
accepted-skip H None = told_skips [] refl

answered-skip : (H : List Event) (reason : Option Refusal) (happened : Option EventKind) → MaySkip (line (answered_turn H reason happened))
answered-skip H (Some r) happened = refused-skip H r
answered-skip H None happened = accepted-skip H happened

command-skip : (objects : List Object) (limits : Limits) (memory_refused : Bool) (H : List Event) (command : Command) → MaySkip (line (command_turn objects limits memory_refused H command))
command-skip objects limits true H command = refused-skip H NoMemory
command-skip objects limits false H command = answered-skip H (refusal objects limits H command) (event_of objects (summary H) command)

commands-skip : (objects : List Object) (limits : Limits) (memory_refused : ℕ → Bool) (H : List Event) (commands : List Command)
    → MaySkipAll (command_turns objects limits memory_refused H commands)
commands-skip objects limits memory_refused H [] = tt
commands-skip objects limits memory_refused H (c ∷ commands) = (
  command-skip objects limits (memory_refused 0) H c,
  commands-skip objects limits (λ place. memory_refused (suc place)) (command_turn objects limits (memory_refused 0) H c).history commands,
)

-- ---- the other lines

size-skip : (H : List Event) (size : Option ℕ) → MaySkipAll (map (size_turn H) (size_lines size))
size-skip H None = tt
size-skip H (Some n) = (told_skips (line (size_turn H (Objects n))) refl, tt)

each-skip : (H : List Event) (lines : List ObjectLine) → MaySkipAll (map (object_turn H) lines)
each-skip H [] = tt
each-skip H (o ∷ lines) = (told_skips (line (object_turn H o)) refl, each-skip H lines)

objects-skip : (H : List Event) (lines : List ObjectLine) → MaySkipAll (object_turns H lines)
objects-skip H lines = skip-append (map (size_turn H) (size_lines (canonical_size lines))) (map (object_turn H) lines) (size-skip H (canonical_size lines)) (each-skip H lines)

aborts-skip : (H : List Event) (ts : List ℕ) → MaySkipAll (abort_turns H ts)
aborts-skip H [] = tt
aborts-skip H (t ∷ ts) = (event-skip H (kind.Abort t), aborts-skip (H ++ by_script (kind.Abort t) ∷ []) ts)

kept-skip : (H : List Event) (x : ℕ) (kept : List ℕ) → x + length kept < 10 ^ 7 → AllByRecursion (λ state. state < 2 ^ 32) kept → MaySkipAll (kept_turns H x kept)
kept-skip H x [] few short = tt
kept-skip H x (s ∷ kept) few short = (
  comment_skips (line (kept_turn H x s))
      (words_comment (codes "kept" ∷ decimal x ∷ decimal s ∷ [])
      (record { bytes = refl; short = omega arith }, (number_text x (omega (arith, few)), (long_number_text s short.0, tt))) (omega arith)),
  kept-skip H (suc x) kept (omega (arith, few)) short.1,
)

turns-skip : (objects : List Object) (limits : Limits) (memory_refused : ℕ → Bool) (kept : List ℕ) (lines : List ObjectLine) (commands : List Command)
    → length kept < 10 ^ 7 → AllByRecursion (λ state. state < 2 ^ 32) kept → MaySkipAll (script_turns objects limits memory_refused kept [] lines commands)
turns-skip objects limits memory_refused kept lines commands few short =
    let asked = command_turns objects limits memory_refused [] commands in
    let K = history_after [] asked in
    let closed = history_after K (closing_turns K) in
    let last = end_turn closed ∷ kept_turns closed 0 kept in
    skip-append (object_turns [] lines) (asked ++ (closing_turns K ++ last)) (objects-skip [] lines)
    (skip-append asked (closing_turns K ++ last) (commands-skip objects limits memory_refused [] commands)
    (skip-append (closing_turns K) last (aborts-skip K _) (told_skips (line (end_turn closed)) refl, kept-skip closed 0 kept (omega (arith, few)) short)))

-- ---- the text

lines-text : (turns : List Turn) → text_of_turns turns ≡ lines_text (lines_of_turns turns)
lines-text [] = refl
lines-text (t ∷ turns) = ap (λ l. line_of t ++ l) (lines-text turns)

told-more : (b : Bool) (t : Turn) (turns : List Turn) → filter tells (lines_of_turns turns) ≡ lines_of_turns (filter turn_tells turns)
    → cond b (line t ∷ filter tells (lines_of_turns turns)) (filter tells (lines_of_turns turns)) ≡ lines_of_turns (cond b (t ∷ filter turn_tells turns) (filter turn_tells turns))
told-more true t turns same = ap (λ ls. line t ∷ ls) same
told-more false t turns same = same

told-lines : (turns : List Turn) → filter tells (lines_of_turns turns) ≡ lines_of_turns (filter turn_tells turns)
told-lines [] = refl
told-lines (t ∷ turns) = told-more (turn_tells t) t turns (told-lines turns)

pub script-read : CommentsAreSkipped → CanonicalIsRead → TextTellsHistory → ScriptIsRead
script-read skipped canonical text_tells = λ objects limits memory_refused kept lines commands behind fit few short are.
    let turns = script_turns objects limits memory_refused kept [] lines commands in
    let H = history_after [] turns in
    let all = lines_of_turns turns ++ behind in
    let told : filter tells all ≡ lines_of_turns (filter turn_tells turns) =
    filter-append tells (lines_of_turns turns) behind ∙ ap (λ ls. filter tells (lines_of_turns turns) ++ ls) (nothing_told behind are)
    ∙ append-nil (filter tells (lines_of_turns turns)) ∙ told-lines turns
    in
    let alone : lines_text (filter tells all) ≡ canonical_text lines H =
    ap lines_text told ∙ sym (lines-text (filter turn_tells turns)) ∙ text_tells objects limits memory_refused kept lines commands
    in
    let whole : text_of_turns turns ++ lines_text behind ≡ lines_text all =
    ap (λ l. l ++ lines_text behind) (lines-text turns) ∙ sym (flat_map-append ended (lines_of_turns turns) behind)
    in
    let read = subst (λ t. store_outcome history_body t ≡ Ok (canonical_lines lines H)) (sym alone) (canonical lines H fit).read in
    let may = skips_append (lines_of_turns turns) behind (turns-skip objects limits memory_refused kept lines commands few short) (comments_skip behind are) in
    subst (λ t. store_outcome history_body t ≡ Ok (canonical_lines lines H)) (sym whole) (skipped all (canonical_lines lines H) may read)

-- ---- who did it

abbrev AreMine : List Event → Type 0
AreMine H = AllByRecursion (λ (e : Event). e.worker ≡ 0) H

mine-more : (H : List Event) (happened : EventKind) → AreMine H → AreMine (H ++ by_script happened ∷ [])
mine-more [] happened mine = (refl, tt)
mine-more (e ∷ H) happened mine = (mine.0, mine-more H happened mine.1)

accepted-mine : (H : List Event) (happened : Option EventKind) → AreMine H → AreMine (accepted_turn H happened).history
accepted-mine H (Some happened) mine = mine-more H happened mine
accepted-mine H None mine = mine

answered-mine : (H : List Event) (reason : Option Refusal) (happened : Option EventKind) → AreMine H → AreMine (answered_turn H reason happened).history
answered-mine H (Some r) happened mine = mine
answered-mine H None happened mine = accepted-mine H happened mine

command-mine : (objects : List Object) (limits : Limits) (memory_refused : Bool) (H : List Event) (command : Command) → AreMine H
    → AreMine (command_turn objects limits memory_refused H command).history
command-mine objects limits true H command mine = mine
command-mine objects limits false H command mine = answered-mine H (refusal objects limits H command) (event_of objects (summary H) command) mine

commands-mine : (objects : List Object) (limits : Limits) (memory_refused : ℕ → Bool) (H : List Event) (commands : List Command) → AreMine H
    → AreMine (history_after H (command_turns objects limits memory_refused H commands))
commands-mine objects limits memory_refused H [] mine = mine
commands-mine objects limits memory_refused H (c ∷ commands) mine =
    commands-mine objects limits (λ place. memory_refused (suc place)) (command_turn objects limits (memory_refused 0) H c).history commands (command-mine objects limits (memory_refused 0) H c mine)

aborts-mine : (H : List Event) (ts : List ℕ) → AreMine H → AreMine (history_after H (abort_turns H ts))
aborts-mine H [] mine = mine
aborts-mine H (t ∷ ts) mine = aborts-mine (H ++ by_script (kind.Abort t) ∷ []) ts (mine-more H (kind.Abort t) mine)

pub script-mine : ScriptIsByOne
script-mine = λ objects limits memory_refused kept lines commands.
    let first = object_turns [] lines in
    let asked = command_turns objects limits memory_refused [] commands in
    let K = history_after [] asked in
    let closing = closing_turns K in
    let closed = history_after K closing in
    let behind = end_turn closed ∷ kept_turns closed 0 kept in
    let history : history_after [] (first ++ (asked ++ (closing ++ behind))) ≡ closed =
    history_after-append [] first (asked ++ (closing ++ behind)) ∙ ap (λ J. history_after J (asked ++ (closing ++ behind))) (objects-stay [] lines)
    ∙ history_after-append [] asked (closing ++ behind) ∙ history_after-append K closing behind ∙ kept-stays closed 0 kept
    in
    subst AreMine (sym history) (aborts-mine K (open_in K) (commands-mine objects limits memory_refused [] commands tt))
