-- A line that doesn't ask for the end is done.
use Rattle.std.proofs.Common.{◌≡◌, ◌∙◌, ℕ, Bool, false, List, [], ◌∷◌, ◌++◌, sym, ap, subst}
use Rattle.std.specs.Prelude.{MatchBool}
use Rattle.sqlite_trees.specs.declared.store.Store.{Ghosts}
use Rattle.request_text.specs.Requests.{asked_by}
use Rattle.request_text.specs.declared.request.Asked.{Asked}
use Rattle.serving.specs.declared.answer_line.Answered.{Answered}
use Rattle.serving.specs.declared.server.Server.{Server}
use Rattle.serving.specs.Lines.{asks_end, is_end}
use Rattle.serving.specs.Server.{AnswersLine, DoesAsked, DoesLine, TakesEnd}

pub does-line : {S : Type 0} (g : Ghosts S) (old new : Server S) (w v : List ℕ) (asked : Asked) (ends : Bool) (a : Answered) → w ≡ old.line.items → asked ≡ asked_by w → ends ≡ is_end asked.request → ends ≡ false
    → v ≡ old.line.items → DoesAsked g old.session v a new.session → new.line.items ≡ [] → new.answers.items ≡ old.answers.items ++ a ∷ [] → new ≡ record old { session = new.session; line = new.line; answers = new.answers } → DoesLine g old new
does-line g old new w v asked ends a read is tested goes_on same does cleared told others =
    let no : asks_end old.line.items ≡ false = ap (λ line. is_end (asked_by line).request) (sym read) ∙ (ap (λ (x : Asked). is_end x.request) (sym is) ∙ (sym tested ∙ goes_on)) in
    record {
      line = cleared;
      done = subst (λ b. MatchBool b (TakesEnd old new) (AnswersLine g old new)) (sym no) (record { a = a; does = subst (λ line. DoesAsked g old.session line a new.session) same does; told = told; others = others });
    }
