-- The lines of kept states, as one text.
use Rattle.std.proofs.Common.{◌≡◌, ℕ, suc, ◌+◌, ◌≤◌, List, [], ◌∷◌, ◌++◌, length, take, drop, Option, Some, slice_get, Result, Ok, Err, refl, sym, ap, ◌∙◌, subst, add-one, take-append-drop, length-append, arith}
use Rattle.std.proofs.Math.Seq.{take-append-add}
use Rattle.std.proofs.lemmas.Grind.{flat_map-append}
use Rattle.std.proofs.lemmas.List.{take-append-le, drop_more}
use Rattle.std.proofs.lemmas.Option.{slice_get_within, get_or_from_slice_get}
use Rattle.std.specs.Io.KnownBytes.{Appends}
use Rattle.std.specs.List.{enumerate_from}
use Rattle.line_text.specs.Spelling.{text_of}
use Rattle.object_trait.specs.declared.event.Event.{Event}
use Rattle.outputs.specs.Out.{AppendsBeginning}
use Rattle.outputs.specs.declared.out.OutFault.{OutFault}
use Rattle.store_laws.specs.Stored.{Stored}
use Rattle.script_run.specs.Runs.{StopsAt, WritesKept}
use Rattle.script_run.specs.Turns.{Turn, line_of, text_of_turns, kept_turn, kept_turns}
use Rattle.work_text.specs.Lines.{kept_line}
use Rattle.work_text.specs.Text.{PutsKept}

-- the turns of kept states have their lines
turns_text : (H : List Event) (x : ℕ) (kept : List ℕ) → text_of_turns (kept_turns H x kept) ≡ text_of kept_line (enumerate_from x kept)
turns_text H x [] = refl
turns_text H x (state ∷ kept) =
    ap (λ l. line_of (kept_turn H x state) ++ l) (turns_text H (suc x) kept ∙ ap (λ n. text_of kept_line (enumerate_from n kept)) (sym (add-one x)))

-- the text of some turns at one of them
split_at : (turns : List Turn) (i : ℕ) (turn : Turn) → slice_get turns i ≡ Some turn
    → text_of_turns turns ≡ text_of_turns (take i turns) ++ (line_of turn ++ text_of_turns (drop (i + 1) turns))
split_at turns i turn there =
    let inside = slice_get_within turns i turn there in
    let here = get_or_from_slice_get turns i turn turn there in
    ap text_of_turns (sym (take-append-drop i turns)) ∙ flat_map-append line_of (take i turns) (drop i turns)
    ∙ ap (λ l. text_of_turns (take i turns) ++ text_of_turns l) (drop_more turns i turn inside)
    ∙ ap (λ (t : Turn). text_of_turns (take i turns) ++ (line_of t ++ text_of_turns (drop (i + 1) turns))) here

-- where the output stopped at a turn, it took a beginning of the text of all
stopped : (s new : Stored) (turns : List Turn) (a b : Option (List ℕ)) → StopsAt s turns a b new → AppendsBeginning a b (text_of_turns turns)
stopped s new turns a b h =
    let front = text_of_turns (take h.place turns) in
    let line = line_of h.turn in
    let behind = text_of_turns (drop (h.place + 1) turns) in
    let whole = split_at turns h.place h.turn h.there in
    let within : h.taken ≤ length line = omega (arith, h.short) in
    let cut : take (length front + h.taken) (text_of_turns turns) ≡ front ++ take h.taken line =
    ap (take (length front + h.taken)) whole ∙ take-append-add front (line ++ behind) h.taken ∙ ap (λ l. front ++ l) (take-append-le h.taken line behind within)
    in
    (length front + h.taken, rw whole (omega (arith, h.short, length-append front (line ++ behind), length-append line behind)), subst (Appends a b) (sym cut) h.bytes)

-- the lines of kept states, as they are written turn by turn, are one text
pub kept_puts : (s : Stored) (a b : Option (List ℕ)) (f : Option OutFault) (result : Result (Unit {0}) OutFault) → WritesKept s a b f result → PutsKept s a b f result
kept_puts s a b f (Ok done) its = record {
  kept = its.kept;
  are_kept = its.are_kept;
  all = its.all;
  puts = record { whole = subst (Appends a b) (turns_text s.history 0 its.kept) its.writes.written.bytes; beginning = tt; fault_is = its.writes.fault_is };
}
kept_puts s a b f (Err e) its = record {
  kept = its.kept;
  are_kept = its.are_kept;
  all = tt;
  puts = record {
    whole = tt;
    beginning = subst (AppendsBeginning a b) (turns_text s.history 0 its.kept) (stopped s s (kept_turns s.history 0 its.kept) a b its.writes.written);
    fault_is = its.writes.fault_is;
  };
}
