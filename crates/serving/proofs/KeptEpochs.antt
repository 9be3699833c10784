-- What an archive keeps, one epoch after another.
use Rattle.std.proofs.Common.{◌≡◌, ◌∙◌, inl, inr, ℕ, Option, None, Some, List, [], ◌∷◌, ◌++◌, map, refl, sym, ap}
use Rattle.std.proofs.lemmas.List.{append_assoc, append-nil, map-append}
use Rattle.journal.specs.Contents.{Contents}
use Rattle.journal.specs.declared.header.Header.{Header}
use Rattle.serving.specs.Archives.{KeepsAtLeast, KeepsEpochs, KeptHistory, MayKeepText, kept_history, with_kept}

with-none : (known : Option (List KeptHistory)) → known ≡ with_kept known []
with-none None = refl
with-none (Some all) = ap Some (sym (append-nil all))

with-more : (known : Option (List KeptHistory)) (xs ys : List KeptHistory) → with_kept (with_kept known xs) ys ≡ with_kept known (xs ++ ys)
with-more None xs ys = refl
with-more (Some all) xs ys = ap Some (append_assoc all xs ys)

-- nothing was given to it
pub keeps-none : (known : Option (List KeptHistory)) → KeepsEpochs known known []
keeps-none known = with-none known

pub least-none : (known : Option (List KeptHistory)) → KeepsAtLeast known known []
least-none known = ([], with-none known)

-- one that says nothing was given any
pub keeps-untold : (known : Option (List KeptHistory)) (ended : List Contents) → known ≡ None → KeepsEpochs known known ended
keeps-untold None ended none = refl
keeps-untold (Some all) ended some = absurd cc

-- these and no more
pub least-these : (old new : Option (List KeptHistory)) (ended : List Contents) → KeepsEpochs old new ended → KeepsAtLeast old new ended
least-these old new ended keeps = ([], keeps ∙ ap (with_kept old) (sym (append-nil (map kept_history ended))))

-- at least those, as more than none
pub least-some : (old new : Option (List KeptHistory)) (ended : List Contents) → KeepsEpochs old new ended → KeepsAtLeast old new []
least-some old new ended keeps = (map kept_history ended, keeps)

-- one text, or none
pub least-text : (old new : Option (List KeptHistory)) (header : Header) (text : List ℕ) → MayKeepText old new header text → KeepsAtLeast old new []
least-text old new header text may = elim may [
  | inl same ↦ ([], same ∙ with-none old)
  | inr one ↦ (record { headers = header ∷ []; text = text } ∷ [], one)
]

-- one after another
pub keeps-then : (old mid new : Option (List KeptHistory)) (ended later : List Contents) → KeepsEpochs old mid ended → KeepsEpochs mid new later → KeepsEpochs old new (ended ++ later)
keeps-then old mid new ended later first second =
    second ∙ ap (λ known. with_kept known (map kept_history later)) first ∙ with-more old (map kept_history ended) (map kept_history later)
    ∙ ap (with_kept old) (sym (map-append kept_history ended later))

pub least-then : (old mid new : Option (List KeptHistory)) (ended later : List Contents) → KeepsEpochs old mid ended → KeepsAtLeast mid new later → KeepsAtLeast old new (ended ++ later)
least-then old mid new ended later first (more, second) = (
  more,
  second ∙ ap (λ known. with_kept known (map kept_history later ++ more)) first ∙ with-more old (map kept_history ended) (map kept_history later ++ more)
      ∙ ap (with_kept old) (sym (append_assoc (map kept_history ended) (map kept_history later) more) ∙ ap (λ xs. xs ++ more) (sym (map-append kept_history ended later))),
)

pub least-more : (old mid new : Option (List KeptHistory)) (ended : List Contents) → KeepsAtLeast old mid ended → KeepsAtLeast mid new [] → KeepsAtLeast old new ended
least-more old mid new ended (more, first) (again, second) = (
  more ++ again,
  second ∙ ap (λ known. with_kept known again) first ∙ with-more old (map kept_history ended ++ more) again
      ∙ ap (with_kept old) (append_assoc (map kept_history ended) more again),
)
