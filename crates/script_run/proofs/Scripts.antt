-- A whole script, from what its parts write.
use Rattle.std.proofs.Common.{◌≡◌, ℕ, false, List, [], ◌∷◌, length, Option, Result, Ok, Err, OnOk, ap, subst}
use Rattle.outputs.specs.declared.out.OutFault.{OutFault}
use Rattle.store_laws.specs.Stored.{Stored, objects}
use Rattle.script_text.specs.declared.script.Script.{Script}
use Rattle.script_run.specs.Turns.{Turn, history_after, object_turns, command_turns, closing_turns, end_turn, kept_turns, last_turns}
use Rattle.script_run.specs.Runs.{Writes, RunsCommands, AreKept, RunsScript}
use Rattle.script_run.proofs.Commands.{never-memory_refused}
use Rattle.script_run.proofs.KeptLines.{none_kept}
use Rattle.script_run.proofs.Turns.{join, stop, history_now}

-- the history of a store after turns that were written
history_is : (s new : Stored) (xs : List Turn) {a b : Option (List ℕ)} {f : Option OutFault} → Writes s xs a b f new (Ok tt) → new.history ≡ history_after s.history xs
history_is s new xs p = ap (λ (z : Stored). z.history) (history_now s new xs p)

-- ---- after the commands

-- the output stopped at an abort
pub last-aborts : (s new : Stored) {a b : Option (List ℕ)} {f : Option OutFault} {e : OutFault} → Writes s (closing_turns s.history) a b f new (Err e)
    → Writes s (last_turns s.history []) a b f new (Err e)
last-aborts s new p = stop s new _ _ p

-- what comes after the aborts was written, up to an error or all of it
pub last-more : (s closed new : Stored) (kept : List ℕ) {a b c : Option (List ℕ)} {f g : Option OutFault} {result : Result (Unit {0}) OutFault}
    → Writes s (closing_turns s.history) a b f closed (Ok tt)
    → Writes closed (end_turn closed.history ∷ kept_turns closed.history 0 kept) b c g new result → Writes s (last_turns s.history kept) a c g new result
last-more s closed new kept {b = b} {c = c} {g = g} {result = result} front p =
    let behind = subst (λ K. Writes closed (end_turn K ∷ kept_turns K 0 kept) b c g new result) (history_is s closed (closing_turns s.history) front) p in
    join s closed new (closing_turns s.history) _ front behind

-- ---- the whole

-- the output stopped at an object's line
pub script-objects : (s : Stored) (script : Script) {a b : Option (List ℕ)} {f : Option OutFault} {e : OutFault}
    → Writes s (object_turns s.history script.objects.items) a b f s (Err e) → RunsScript s script a b f s (Err e)
script-objects s script p =
    record {
      memory_refused = λ place. false;
      may_refuse_memory = never-memory_refused (objects s) s.limits s.history script.commands;
      kept = [];
      are_kept = none_kept s;
      all_kept = tt;
      writes = stop s s _ _ p;
    }

-- at a command's
pub script-commands : (s new : Stored) (script : Script) {a b c : Option (List ℕ)} {f g : Option OutFault} {e : OutFault}
    → Writes s (object_turns s.history script.objects.items) a b f s (Ok tt) → RunsCommands s script.commands b c g new (Err e)
    → RunsScript s script a c g new (Err e)
script-commands s new script front p =
    record {
      memory_refused = p.memory_refused;
      may_refuse_memory = p.may_refuse_memory;
      kept = [];
      are_kept = none_kept new;
      all_kept = tt;
      writes = join s s new _ _ front (stop s new _ _ p.writes);
    }

-- after them, or nowhere
pub script-last : (s mid new : Stored) (script : Script) (kept : List ℕ) {a b c d : Option (List ℕ)} {f g h : Option OutFault} {result : Result (Unit {0}) OutFault}
    → Writes s (object_turns s.history script.objects.items) a b f s (Ok tt) → RunsCommands s script.commands b c g mid (Ok tt)
    → Writes mid (last_turns mid.history kept) c d h new result → AreKept new kept → OnOk result (length kept ≡ length new.types)
    → RunsScript s script a d h new result
script-last s mid new script kept {c = c} {d = d} {h = h} {result = result} front p behind are all =
    let asked = command_turns (objects s) s.limits p.memory_refused s.history script.commands in
    let rest = subst (λ K. Writes mid (last_turns K kept) c d h new result) (history_is s mid asked p.writes) behind in
    record {
      memory_refused = p.memory_refused;
      may_refuse_memory = p.may_refuse_memory;
      kept = kept;
      are_kept = are;
      all_kept = all;
      writes = join s s new _ _ front (join s mid new asked _ p.writes rest);
    }
