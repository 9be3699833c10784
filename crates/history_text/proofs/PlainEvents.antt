-- The plain line of an event says it.
use Rattle.std.proofs.Common.{ℕ, List, [], ◌∷◌, ◌++◌, Option, refl, arith}
use Rattle.std.specs.Prelude.{codes}
use Rattle.line_text.specs.Shapes.{exactly, number_at, is_key}
use Rattle.line_text.specs.Plain.{SaysPlainly, IsNumberBefore}
use Rattle.line_text.proofs.Items.{keyword}
use Rattle.store_text.specs.Body.{line_of}
use Rattle.store_text.specs.declared.line.Line.TheVariants.{Entry}
use Rattle.history_text.specs.declared.event_line.EventLine.TheVariants.{Begin, Op, Busy, Nothing, Commit, Abort, Rollback}
use Rattle.history_text.specs.Events.{history_body, event_line_of, begin_event_of, op_event_of, listed_of, busy_of, nothing_of, commit_event_of, abort_event_of, rollback_event_of}

pub begin_plainly : (size : Option ℕ) (w t : ℕ) (rest first behind : List ℕ) → IsNumberBefore 32 rest w first → IsNumberBefore 10 first t behind
    → SaysPlainly (line_of history_body size) (codes "begin " ++ rest) (Entry (Begin w t)) behind
unfolding line_of is_key event_line_of begin_event_of exactly number_at
begin_plainly size w t rest first behind pw pt = record {
  words = codes "begin" ∷ pw.word ∷ pt.word ∷ [];
  line = (rest, keyword (codes "begin") refl refl, refl, (first, pw.is_word, pw.front, (pt.is_word, pt.front)));
  no_comment = λ e. omega (arith, e);
  short = omega (arith, pw.short, pt.short);
  said = rw (pw.said, pt.said) refl;
}

pub op_plainly : (size : Option ℕ) (w t x k : ℕ) (rest first second third behind : List ℕ) → IsNumberBefore 32 rest w first → IsNumberBefore 32 first t second → IsNumberBefore 32 second x third → IsNumberBefore 10 third k behind
    → SaysPlainly (line_of history_body size) (codes "op " ++ rest) (Entry (Op w t x k)) behind
unfolding line_of is_key event_line_of op_event_of listed_of exactly number_at
op_plainly size w t x k rest first second third behind pw pt px pk = record {
  words = codes "op" ∷ pw.word ∷ pt.word ∷ px.word ∷ pk.word ∷ [];
  line = (rest, keyword (codes "op") refl refl, refl, (first, pw.is_word, pw.front, (second, pt.is_word, pt.front, (third, px.is_word, px.front, (pk.is_word, pk.front)))));
  no_comment = λ e. omega (arith, e);
  short = omega (arith, pw.short, pt.short, px.short, pk.short);
  said = rw (pw.said, pt.said, px.said, pk.said) refl;
}

pub busy_plainly : (size : Option ℕ) (w t x c u : ℕ) (rest first second third fourth behind : List ℕ) → IsNumberBefore 32 rest w first → IsNumberBefore 32 first t second → IsNumberBefore 32 second x third → IsNumberBefore 32 third c fourth → IsNumberBefore 10 fourth u behind
    → SaysPlainly (line_of history_body size) (codes "busy " ++ rest) (Entry (Busy w t x c u)) behind
unfolding line_of is_key event_line_of busy_of exactly number_at
busy_plainly size w t x c u rest first second third fourth behind pw pt px pc pu = record {
  words = codes "busy" ∷ pw.word ∷ pt.word ∷ px.word ∷ pc.word ∷ pu.word ∷ [];
  line = (rest, keyword (codes "busy") refl refl, refl, (first, pw.is_word, pw.front, (second, pt.is_word, pt.front, (third, px.is_word, px.front, (fourth, pc.is_word, pc.front, (pu.is_word, pu.front))))));
  no_comment = λ e. omega (arith, e);
  short = omega (arith, pw.short, pt.short, px.short, pc.short, pu.short);
  said = rw (pw.said, pt.said, px.said, pc.said, pu.said) refl;
}

pub nothing_plainly : (size : Option ℕ) (w t x c : ℕ) (rest first second third behind : List ℕ) → IsNumberBefore 32 rest w first → IsNumberBefore 32 first t second → IsNumberBefore 32 second x third → IsNumberBefore 10 third c behind
    → SaysPlainly (line_of history_body size) (codes "none " ++ rest) (Entry (Nothing w t x c)) behind
unfolding line_of is_key event_line_of nothing_of exactly number_at
nothing_plainly size w t x c rest first second third behind pw pt px pc = record {
  words = codes "none" ∷ pw.word ∷ pt.word ∷ px.word ∷ pc.word ∷ [];
  line = (rest, keyword (codes "none") refl refl, refl, (first, pw.is_word, pw.front, (second, pt.is_word, pt.front, (third, px.is_word, px.front, (pc.is_word, pc.front)))));
  no_comment = λ e. omega (arith, e);
  short = omega (arith, pw.short, pt.short, px.short, pc.short);
  said = rw (pw.said, pt.said, px.said, pc.said) refl;
}

pub commit_plainly : (size : Option ℕ) (w t : ℕ) (rest first behind : List ℕ) → IsNumberBefore 32 rest w first → IsNumberBefore 10 first t behind
    → SaysPlainly (line_of history_body size) (codes "commit " ++ rest) (Entry (Commit w t)) behind
unfolding line_of is_key event_line_of commit_event_of exactly number_at
commit_plainly size w t rest first behind pw pt = record {
  words = codes "commit" ∷ pw.word ∷ pt.word ∷ [];
  line = (rest, keyword (codes "commit") refl refl, refl, (first, pw.is_word, pw.front, (pt.is_word, pt.front)));
  no_comment = λ e. omega (arith, e);
  short = omega (arith, pw.short, pt.short);
  said = rw (pw.said, pt.said) refl;
}

pub abort_plainly : (size : Option ℕ) (w t : ℕ) (rest first behind : List ℕ) → IsNumberBefore 32 rest w first → IsNumberBefore 10 first t behind
    → SaysPlainly (line_of history_body size) (codes "abort " ++ rest) (Entry (Abort w t)) behind
unfolding line_of is_key event_line_of abort_event_of exactly number_at
abort_plainly size w t rest first behind pw pt = record {
  words = codes "abort" ∷ pw.word ∷ pt.word ∷ [];
  line = (rest, keyword (codes "abort") refl refl, refl, (first, pw.is_word, pw.front, (pt.is_word, pt.front)));
  no_comment = λ e. omega (arith, e);
  short = omega (arith, pw.short, pt.short);
  said = rw (pw.said, pt.said) refl;
}

pub rollback_plainly : (size : Option ℕ) (w t n : ℕ) (rest first second behind : List ℕ) → IsNumberBefore 32 rest w first → IsNumberBefore 32 first t second → IsNumberBefore 10 second n behind
    → SaysPlainly (line_of history_body size) (codes "rollback " ++ rest) (Entry (Rollback w t n)) behind
unfolding line_of is_key event_line_of rollback_event_of exactly number_at
rollback_plainly size w t n rest first second behind pw pt pn = record {
  words = codes "rollback" ∷ pw.word ∷ pt.word ∷ pn.word ∷ [];
  line = (rest, keyword (codes "rollback") refl refl, refl, (first, pw.is_word, pw.front, (second, pt.is_word, pt.front, (pn.is_word, pn.front))));
  no_comment = λ e. omega (arith, e);
  short = omega (arith, pw.short, pt.short, pn.short);
  said = rw (pw.said, pt.said, pn.said) refl;
}
