-- What an archive keeps.
use Rattle.std.specs.Prelude.{◌≡◌, ◌⊎◌, ℕ, List, [], ◌∷◌, ◌++◌, map, Option}
use Rattle.std.specs.Option.{option_map}
use Rattle.event_text.specs.EventText.{events_of_kinds}
use Rattle.history_text.specs.Canonical.{canonical_text}
use Rattle.journal.specs.Contents.{Contents}
use Rattle.journal.specs.declared.header.Header.{Header}

-- the text of a history that is kept, under what its file said of itself then: the id of the store, and the life in which its epoch ended
pub record KeptHistory : Type 0 where
  pub headers : List Header
  pub text : List ℕ

-- known histories, and these after them
abbrev pub with_kept : Option (List KeptHistory) → List KeptHistory → Option (List KeptHistory)
with_kept known more = option_map (λ all. all ++ more) known

-- one more is kept
abbrev pub KeepsText : Option (List KeptHistory) → Option (List KeptHistory) → Header → List ℕ → Type 0
KeepsText old new header text = new ≡ with_kept old (record { headers = header ∷ []; text = text } ∷ [])

-- one more is kept, or none
abbrev pub MayKeepText : Option (List KeptHistory) → Option (List KeptHistory) → Header → List ℕ → Type 0
MayKeepText old new header text = (new ≡ old) ⊎ KeepsText old new header text

-- ---- epochs

-- the life of a file
abbrev pub life_in : List Header → ℕ
life_in [] = 0
life_in (h ∷ hs) = h.life

-- the text of the epoch that a file has: its objects, and the events since it began, by worker 0
abbrev pub text_of_epoch : Contents → List ℕ
text_of_epoch c = canonical_text c.objects (events_of_kinds c.events)

abbrev pub kept_history : Contents → KeptHistory
kept_history c = record { headers = c.headers; text = text_of_epoch c }

-- the histories of these epochs are kept after the others, in their order, and nothing else
abbrev pub KeepsEpochs : Option (List KeptHistory) → Option (List KeptHistory) → List Contents → Type 0
KeepsEpochs old new ended = new ≡ with_kept old (map kept_history ended)

-- the same, and maybe more after them
abbrev pub KeepsAtLeast : Option (List KeptHistory) → Option (List KeptHistory) → List Contents → Type 0
KeepsAtLeast old new ended = (more : List KeptHistory) × (new ≡ with_kept old (map kept_history ended ++ more))
