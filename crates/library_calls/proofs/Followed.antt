-- Events of the caller that are made one after another.
use Rattle.std.proofs.Common.{◌≡◌, ℕ, ◌+◌, ◌<◌, List, ◌∷◌, [], ◌++◌, length, take, get_or, Some, Ok, Err, sym, ap, subst, ◌∙◌, inl, inr}
use Rattle.std.proofs.lemmas.List.{take_more}
use Rattle.std.proofs.lemmas.Option.{same_Some, slice_get-get_or}
use Rattle.store_laws.specs.Stored.{Stored}
use Rattle.store.specs.Follows.{IsMade, with_event}
use Rattle.library_calls.specs.Codes.{number}
use Rattle.library_calls.specs.EventWords.{event_at}
use Rattle.library_calls.specs.Histories.{AreMadeOfWords, more, MakesOne, IsFollowed, strays, memory_refused}
use Rattle.library_calls.specs.declared.code.Code.{Code}
use Rattle.library_calls.specs.declared.event_words.ColockEvent.{ColockEvent}

module _ (s now new : Stored) (ws : List ColockEvent) (at : ℕ) (w d : ColockEvent) (before : AreMadeOfWords s (take at ws) now) (inside : at < length ws) (there : w ≡ get_or ws at d) where
  -- one more was made
  pub one_more : MakesOne now w (Ok tt) new → AreMadeOfWords s (take (at + 1) ws) new
  one_more made =
      let longer : take at ws ++ w ∷ [] ≡ take (at + 1) ws = ap (λ v. take at ws ++ v ∷ []) there ∙ sym (take_more ws at d inside) in
      subst (AreMadeOfWords s (take (at + 1) ws)) (sym made.3)
      (subst (λ (vs : List ColockEvent). AreMadeOfWords s vs (with_event now made.0)) longer (more (take at ws) now w made.0 before made.1 made.2))

  -- or it wasn't
  pub stopped : (code : Code) → MakesOne now w (Err code) new → IsFollowed s ws (number code) at new
  stopped code other =
      let made : AreMadeOfWords s (take at ws) new = subst (AreMadeOfWords s (take at ws)) (sym other.0) before in
      elim other.1 [
        | inl stray ↦
            strays (ap number stray.0) inside made
            (λ v e got read one.
            let same : v ≡ w = same_Some v w (sym got ∙ slice_get-get_or ws at d inside ∙ ap Some (sym there)) in
            stray.1 e (ap event_at (sym same) ∙ read) (subst (λ (z : Stored). IsMade z e) other.0 one))
        | inr memory ↦ memory_refused (ap number memory) inside made
      ]
