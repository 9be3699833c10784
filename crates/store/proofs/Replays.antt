-- Events that are made one after another.
use Rattle.std.proofs.Common.{◌≡◌, ℕ, ◌+◌, ◌<◌, List, [], ◌∷◌, ◌++◌, take, length, get_or, Some, Err, sym, ap, subst, ◌∙◌, append-nil, append_assoc}
use Rattle.std.proofs.lemmas.List.{take_more}
use Rattle.std.proofs.lemmas.Option.{same_Some, slice_get-get_or}
use Rattle.object_trait.specs.declared.event.Event.{Event}
use Rattle.store_laws.specs.Stored.{Stored}
use Rattle.store.specs.Follows.{IsMade, with_event, Follows}
use Rattle.store.specs.Replays.{AreMade, with_events, StopsReplay}
use Rattle.store.specs.declared.event_replay.Stray.{Stray}
use Rattle.store.specs.declared.event_replay.Stray.TheVariants.{NotMade, NoMemory}

-- none and one more
pub with-none : (s : Stored) → with_events s [] ≡ s
with-none s = ap (λ H. record s { history = H }) (append-nil s.history)

pub with-more : (s : Stored) (es : List Event) (e : Event) → with_event (with_events s es) e ≡ with_events s (es ++ e ∷ [])
with-more s es e = ap (λ H. record s { history = H }) (append_assoc s.history es (e ∷ []))

with-next : (s : Stored) (d : Event) (es : List Event) → with_events (with_event s d) es ≡ with_events s (d ∷ es)
with-next s d es = ap (λ H. record s { history = H }) (append_assoc s.history (d ∷ []) es)

pub made-more : (s : Stored) (es : List Event) (e : Event) → AreMade s es → IsMade (with_events s es) e → AreMade s (es ++ e ∷ [])
made-more s [] e made one = (subst (λ (z : Stored). IsMade z e) (with-none s) one, tt)
made-more s (d ∷ es) e made one = (made.0, made-more (with_event s d) es e made.1 (subst (λ (z : Stored). IsMade z e) (sym (with-next s d es)) one))

-- ---- a turn

module _ (old store : Stored) (es : List Event) (at : ℕ) (e d : Event) (before : AreMade old (take at es)) (is : store ≡ with_events old (take at es)) (low : at < length es)
    (there : e ≡ get_or es at d) where
  first-more : take (at + 1) es ≡ take at es ++ e ∷ []
  first-more = take_more es at d low ∙ ap (λ f. take at es ++ f ∷ []) (sym there)

  -- one more was made
  pub turn-made : (new : Stored) → IsMade store e × (new ≡ with_event store e) → AreMade old (take (at + 1) es) × (new ≡ with_events old (take (at + 1) es))
  turn-made new made = (
    subst (AreMade old) (sym first-more) (made-more old (take at es) e before (subst (λ (z : Stored). IsMade z e) is made.0)),
    made.1 ∙ ap (λ (z : Stored). with_event z e) is ∙ with-more old (take at es) e ∙ ap (with_events old) (sym first-more),
  )

  -- or it wasn't
  pub turn-stopped : (why : Stray) (new : Stored) → Follows store e (Err why) new → StopsReplay old es (record { at = at; why = why }) new
  turn-stopped NotMade new stopped =
      record {
        inside = low;
        before = before;
        new_is = stopped.1 ∙ is;
        strays = λ f here _ made.
            stopped.0 (subst (λ (z : Stored). IsMade z e) stopped.1
            (subst (IsMade new) (same_Some f e (sym here ∙ slice_get-get_or es at d low ∙ ap Some (sym there))) made));
      }
  turn-stopped NoMemory new stopped =
      record { inside = low; before = before; new_is = stopped ∙ is; strays = λ f here why made. cc }
