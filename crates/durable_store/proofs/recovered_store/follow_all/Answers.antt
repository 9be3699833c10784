use Rattle.std.proofs.Common.{◌≡◌, ◌∙◌, ◌+◌, [], ◌∷◌, ◌++◌, length, take, Some, refl, sym, ap, subst, append_assoc}
use Rattle.std.specs.Prelude.{slice_get, IfErr}
use Rattle.std.proofs.lemmas.List.{map-append}
use Rattle.std.proofs.lemmas.Option.{slice_get-map, slice_get_read}
use Rattle.std.specs.Option.{option_map}
use Rattle.std.proofs.lemmas.Result.{err_from_is_err_and}
use Rattle.type_table.proofs.Elements.{take-found}
use Rattle.store.specs.Retraces.{AreRetraced, IsRetraced}
use Rattle.store.specs.Replays.{with_events}
use Rattle.store.proofs.Retraced.{traced-more}
use Rattle.event_text.specs.EventText.{events_of_kinds}
use Rattle.durable_store.specs.Durable.{event_of_kind}
use Rattle.durable_store.specs.Recovered.{IsStrayError}
use Rattle.durable_store.specs.declared.open_error.OpenError.{OpenError}
use Rattle.durable_store.proofs.Followed.{retraced-alike, retraced-next, taken-events}
use Rattle.durable_store.proofs.recovered_store.follow_all.Goals as goal

pub returns-in_err-follow_one-clause-strays : goal.returns-in_err-follow_one-clause-strays
returns-in_err-follow_one-clause-strays c =
    let s = c.args.store.now in
    let happened = c.args.happened.now in
    let place = c.loop-place.place in
    let kind = c.index-happened-place.result in
    let before = take place happened in
    let inv = c.loop-place.invariant in
    let there : slice_get happened place ≡ Some kind = slice_get_read happened (length happened) place kind refl c.loop-place-test.true c.index-happened-place.is in
    let one : slice_get (events_of_kinds happened) place ≡ Some (event_of_kind kind) = slice_get-map event_of_kind happened place ∙ ap (option_map event_of_kind) there in
    let stops : IsStrayError c.in_err-follow_one.field-0.0 → AreRetraced s (events_of_kinds happened) → ⊥ = λ stray made.
    c.in_err-follow_one.ensures.strays stray
    (retraced-alike (with_events s (events_of_kinds before)) c.loop-place.store (event_of_kind kind) (sym inv.types) (sym inv.history) (sym inv.limit)
    (subst (λ es. IsRetraced (with_events s es) (event_of_kind kind)) (taken-events happened place) (retraced-next s (events_of_kinds happened) place (event_of_kind kind) made one))) in
    let (d, returned, same) = err_from_is_err_and c.from_residual.result c.from_residual.ensures.1 in
    subst (λ r. IfErr r (λ e. IsStrayError e → AreRetraced s (events_of_kinds happened) → ⊥)) (sym returned) (subst (λ (e : OpenError). IsStrayError e → AreRetraced s (events_of_kinds happened) → ⊥) (sym same) stops)

pub loop-place-preserved : goal.loop-place-preserved
loop-place-preserved c =
    let s = c.args.store.now in
    let happened = c.args.happened.now in
    let place = c.loop-place.place in
    let kind = c.index-happened-place.result in
    let before = take place happened in
    let inv = c.loop-place.invariant in
    let did = c.in_ok-follow_one.ensures in
    let there : slice_get happened place ≡ Some kind = slice_get_read happened (length happened) place kind refl c.loop-place-test.true c.index-happened-place.is in
    let more : events_of_kinds (take (place + 1) happened) ≡ events_of_kinds before ++ event_of_kind kind ∷ [] =
    ap events_of_kinds (take-found happened place kind there) ∙ map-append event_of_kind before (kind ∷ []) in
    record {
      types = did.types ∙ inv.types;
      history = did.history ∙ ap (λ H. H ++ events_of_kinds (kind ∷ [])) inv.history ∙ append_assoc s.history (events_of_kinds before) (events_of_kinds (kind ∷ []))
          ∙ ap (λ es. s.history ++ es) (sym more);
      limit = did.limit ∙ inv.limit;
      made = subst (AreRetraced s) (sym more)
          (traced-more s (events_of_kinds before) (event_of_kind kind) inv.made
          (retraced-alike c.loop-place.store (with_events s (events_of_kinds before)) (event_of_kind kind) inv.types inv.history inv.limit did.made));
    }
