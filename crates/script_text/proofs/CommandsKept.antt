-- What is kept of commands says them, whatever names come after.
use Rattle.std.proofs.Common.{◌≡◌, ℕ, List, [], ◌∷◌, ◌++◌, length, map, Some, refl, sym, ap, ◌∙◌, arith}
use Rattle.std.specs.Prelude.{slice_get}
use Rattle.std.specs.List.{AllByRecursion}
use Rattle.std.proofs.lemmas.Option.{slice_get_within, get_or_from_slice_get}
use Rattle.std.proofs.lemmas.List.{length-append, map-append, append-nil, get_or_append_left}
use Rattle.serial_order.specs.declared.command.Command.{Command}
use Rattle.serial_order.specs.declared.command.Command.TheVariants.{Call}
use Rattle.script_text.specs.declared.kept_command.KeptCommand.{KeptCommand}
use Rattle.script_text.specs.declared.kept_command.KeptCommand.TheVariants as kept
use Rattle.script_text.specs.Kept.{command_said, HasName, KeepsCommand}

-- ---- more names

-- one command
said_beside : (names more : List (List ℕ)) (k : KeptCommand) → HasName (length names) k → command_said (names ++ more) k ≡ command_said names k
said_beside names more kept.Begin h = refl
said_beside names more (kept.Call t x name) h = rw (get_or_append_left names more [] name h) refl
said_beside names more (kept.Commit t) h = refl
said_beside names more (kept.Abort t) h = refl
said_beside names more (kept.Rollback t n) h = refl

named_beside : (names more : List (List ℕ)) (k : KeptCommand) → HasName (length names) k → HasName (length (names ++ more)) k
named_beside names more kept.Begin h = tt
named_beside names more (kept.Call t x name) h = omega (arith, length-append names more, h)
named_beside names more (kept.Commit t) h = tt
named_beside names more (kept.Abort t) h = tt
named_beside names more (kept.Rollback t n) h = tt

-- all of them
pub all_said_beside : (names more : List (List ℕ)) (ks : List KeptCommand) → AllByRecursion (HasName (length names)) ks → map (command_said (names ++ more)) ks ≡ map (command_said names) ks
all_said_beside names more [] h = refl
all_said_beside names more (k ∷ ks) h = rw (said_beside names more k h.0, all_said_beside names more ks h.1) refl

pub all_named_beside : (names more : List (List ℕ)) (ks : List KeptCommand) → AllByRecursion (HasName (length names)) ks → AllByRecursion (HasName (length (names ++ more))) ks
all_named_beside names more [] h = tt
all_named_beside names more (k ∷ ks) h = (named_beside names more k h.0, all_named_beside names more ks h.1)

-- ---- one more command

all_behind : (n : ℕ) (ks : List KeptCommand) (k : KeptCommand) → AllByRecursion (HasName n) ks → HasName n k → AllByRecursion (HasName n) (ks ++ k ∷ [])
all_behind n [] k h named = (named, tt)
all_behind n (j ∷ ks) k h named = (h.0, all_behind n ks k h.1 named)

module _ {old new : List (List ℕ)} {command : Command} {k : KeptCommand} (keeps : KeepsCommand old new command k) (ks : List KeptCommand) (known : AllByRecursion (HasName (length old)) ks) where
  -- those before it are what they were
  pub as_before : map (command_said new) ks ≡ map (command_said old) ks
  as_before = rw keeps.names (all_said_beside old keeps.more ks known)

  pub named_before : AllByRecursion (HasName (length new)) ks
  named_before = rw keeps.names (all_named_beside old keeps.more ks known)

  -- and it is after them
  pub is_behind : map (command_said new) (ks ++ k ∷ []) ≡ map (command_said old) ks ++ command ∷ []
  is_behind = map-append (command_said new) ks (k ∷ []) ∙ rw (as_before, keeps.says) refl

  pub named_behind : AllByRecursion (HasName (length new)) (ks ++ k ∷ [])
  named_behind = all_behind (length new) ks k named_before keeps.has_name

-- ---- what is kept of one

-- a call by a name that is there
pub keeps_call : (names : List (List ℕ)) (t x position : ℕ) (name : List ℕ) → slice_get names position ≡ Some name → KeepsCommand names names (Call t x name) (kept.Call t x position)
keeps_call names t x position name there = record {
  more = [];
  names = sym (append-nil names);
  has_name = slice_get_within names position name there;
  says = ap (Call t x) (get_or_from_slice_get names position name [] there);
}

-- a command that names no call
pub keeps_nameless : (names : List (List ℕ)) (k : KeptCommand) → HasName 0 k → KeepsCommand names names (command_said [] k) k
keeps_nameless names k named = record {
  more = [];
  names = sym (append-nil names);
  has_name = named_beside [] names k named;
  says = said_beside [] names k named;
}
