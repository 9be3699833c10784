-- The plain line of a command says it.
use Rattle.std.proofs.Common.{◌≡◌, ℕ, true, List, [], ◌∷◌, ◌++◌, length, Option, Some, None, refl, ap, arith}
use Rattle.std.specs.Prelude.{codes, MatchOption}
use Rattle.std.proofs.lemmas.List.{length-append}
use Rattle.type_table.specs.Name.{is_name}
use Rattle.line_text.specs.Shapes.{exactly, name_at, number_at, is_key}
use Rattle.line_text.specs.Spelling.{NameIsWord}
use Rattle.line_text.specs.Plain.{SaysPlainly, IsNumberBefore}
use Rattle.line_text.proofs.Items.{keyword}
use Rattle.store_text.specs.Body.{line_of}
use Rattle.store_text.specs.declared.line.Line.TheVariants.{Entry}
use Rattle.serial_order.specs.declared.command.Command.TheVariants.{Begin, Call, Commit, Abort, Rollback}
use Rattle.serial_order.specs.declared.command.Command.{Command}
use Rattle.script_text.specs.Kept.{PutsCall}
use Rattle.script_text.specs.Plain.{KeepsCommandOf}
use Rattle.script_text.specs.Commands.{commands, command_of, begin_command_of, call_command_of, commit_command_of, abort_command_of, rollback_command_of}

-- what holds where a line was kept
pub where_kept : {B : Type 0} (A : Type 0) (P Q : B → Type 0) (r : Option B) → ((x : B) → P x → Q x) → MatchOption r A P → MatchOption r A Q
where_kept A P Q None more h = h
where_kept A P Q (Some x) more h = more x h

pub begin_plainly : (size : Option ℕ) (behind : List ℕ) → SaysPlainly (line_of commands size) (codes "begin" ++ 10 ∷ behind) (Entry Begin) behind
unfolding line_of is_key command_of begin_command_of exactly
begin_plainly size behind = record {
  words = codes "begin" ∷ [];
  line = (keyword (codes "begin") refl refl, refl);
  no_comment = λ e. omega (arith, e);
  short = omega arith;
  said = refl;
}

pub call_plainly : (size : Option ℕ) (t x : ℕ) (word rest first second behind : List ℕ) → IsNumberBefore 32 rest t first → IsNumberBefore 32 first x second
    → second ≡ word ++ 10 ∷ behind → is_name word ≡ true → NameIsWord word
    → SaysPlainly (line_of commands size) (codes "call " ++ rest) (Entry (Call t x word)) behind
unfolding line_of is_key command_of call_command_of exactly name_at number_at
call_plainly size t x word rest first second behind a b front is words = record {
  words = codes "call" ∷ a.word ∷ b.word ∷ word ∷ [];
  line = (rest, keyword (codes "call") refl refl, refl, (first, a.is_word, a.front, (second, b.is_word, b.front, ((words is).0, front))));
  no_comment = λ e. omega (arith, e);
  short = omega (arith, a.short, b.short, ap length front, length-append word (10 ∷ behind), (words is).1);
  said = rw (is, a.said, b.said) refl;
}

-- a call whose name is before the LF
pub KeepsCommandOf-call : (t x : ℕ) (rest first second behind : List ℕ) (before after : List Command) → IsNumberBefore 32 rest t first → IsNumberBefore 32 first x second
    → ((word : List ℕ) → NameIsWord word) → PutsCall t x second behind before after → KeepsCommandOf (codes "call " ++ rest) behind before after
KeepsCommandOf-call t x rest first second behind before after a b words puts = record {
  keeps = λ objects. record {
    entry = Call t x puts.word;
    says = λ size. call_plainly size t x puts.word rest first second behind a b puts.front puts.is_name (words puts.word);
    in_range = refl;
    kept = puts.kept;
  };
}

pub commit_plainly : (size : Option ℕ) (t : ℕ) (rest behind : List ℕ) → IsNumberBefore 10 rest t behind → SaysPlainly (line_of commands size) (codes "commit " ++ rest) (Entry (Commit t)) behind
unfolding line_of is_key command_of commit_command_of exactly number_at
commit_plainly size t rest behind a = record {
  words = codes "commit" ∷ a.word ∷ [];
  line = (rest, keyword (codes "commit") refl refl, refl, (a.is_word, a.front));
  no_comment = λ e. omega (arith, e);
  short = omega (arith, a.short);
  said = rw a.said refl;
}

pub abort_plainly : (size : Option ℕ) (t : ℕ) (rest behind : List ℕ) → IsNumberBefore 10 rest t behind → SaysPlainly (line_of commands size) (codes "abort " ++ rest) (Entry (Abort t)) behind
unfolding line_of is_key command_of abort_command_of exactly number_at
abort_plainly size t rest behind a = record {
  words = codes "abort" ∷ a.word ∷ [];
  line = (rest, keyword (codes "abort") refl refl, refl, (a.is_word, a.front));
  no_comment = λ e. omega (arith, e);
  short = omega (arith, a.short);
  said = rw a.said refl;
}

pub rollback_plainly : (size : Option ℕ) (t n : ℕ) (rest first behind : List ℕ) → IsNumberBefore 32 rest t first → IsNumberBefore 10 first n behind
    → SaysPlainly (line_of commands size) (codes "rollback " ++ rest) (Entry (Rollback t n)) behind
unfolding line_of is_key command_of rollback_command_of exactly number_at
rollback_plainly size t n rest first behind a b = record {
  words = codes "rollback" ∷ a.word ∷ b.word ∷ [];
  line = (rest, keyword (codes "rollback") refl refl, refl, (first, a.is_word, a.front, (b.is_word, b.front)));
  no_comment = λ e. omega (arith, e);
  short = omega (arith, a.short, b.short);
  said = rw (a.said, b.said) refl;
}
