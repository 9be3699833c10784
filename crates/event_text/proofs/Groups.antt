-- Events as their lines.
use Rattle.std.proofs.Common.{◌≡◌, refl, sym, ap, subst, ℕ, List, [], ◌∷◌, ◌++◌, append-nil, arith, Bool, eqb, length, Result, Ok, Err, IsTrue, ◌∙◌}
use Rattle.std.specs.Prelude.{OnErr, OnOk}
use Rattle.std.specs.List.{flat_map}
use Rattle.std.proofs.lemmas.Bool.{eqb-true}
use Rattle.std.proofs.lemmas.Grind.{flat_map-append}
use Rattle.object_trait.specs.declared.event.EventKind.{EventKind}
use Rattle.type_table.proofs.Elements.{each-push}
use Rattle.event_text.specs.EventText.{AreShort, IsShort, line_in_row, event_lines, events_said}
use Rattle.event_text.proofs.ReadBack.{read-back}

-- of more
pub lines-append : (events more : List EventKind) → event_lines (events ++ more) ≡ event_lines events ++ event_lines more
unfolding event_lines
lines-append events more = flat_map-append line_in_row events more

-- of one more
pub lines-more : (events : List EventKind) (e : EventKind) → event_lines (events ++ e ∷ []) ≡ event_lines events ++ line_in_row e
unfolding event_lines
lines-more events e = flat_map-append line_in_row events (e ∷ []) ∙ ap (λ more. flat_map line_in_row events ++ more) (append-nil (line_in_row e))

-- of none
pub no-lines : event_lines [] ≡ []
unfolding event_lines
no-lines = refl

-- lines are those of what they say, and say them
pub lines-of : (text : List ℕ) (events : List EventKind) → text ≡ event_lines events → (events_said text ≡ events) × (text ≡ event_lines (events_said text))
lines-of text events is =
    let said : events_said text ≡ events = ap events_said is ∙ read-back events in
    (said, is ∙ ap event_lines (sym said))

-- the lines of events whose numbers are short
abbrev pub IsGroup : List ℕ → Type 0
IsGroup text = (text ≡ event_lines (events_said text)) × AreShort (events_said text)

pub is-group : (text : List ℕ) (events : List EventKind) → text ≡ event_lines events → AreShort events → IsGroup text
is-group text events is short =
    let both = lines-of text events is in
    (both.1, subst AreShort (sym both.0) short)

-- a line is put behind them, or not
pub pushed-lines : {T E : Type 0} (r : Result T E) (old new : List ℕ) (e : EventKind) → IsGroup old → OnOk r (new ≡ old ++ line_in_row e) → OnErr r (new ≡ old) → IsShort e → IsGroup new
pushed-lines (Ok x) old new e group put same short =
    is-group new (events_said old ++ e ∷ []) (put ∙ ap (λ front. front ++ line_in_row e) group.0 ∙ sym (lines-more (events_said old) e)) (each-push IsShort (events_said old) e group.1 short)
pushed-lines (Err x) old new e group put same short = subst IsGroup (sym same) group

pub pushed-said : {T E : Type 0} (r : Result T E) (old new : List ℕ) (e : EventKind) → old ≡ event_lines (events_said old) → OnOk r (new ≡ old ++ line_in_row e)
    → OnOk r (events_said new ≡ events_said old ++ e ∷ [])
pushed-said (Ok x) old new e lines put = (lines-of new (events_said old ++ e ∷ []) (put ∙ ap (λ front. front ++ line_in_row e) lines ∙ sym (lines-more (events_said old) e))).0
pushed-said (Err x) old new e lines put = tt

-- a text that is empty, by its length
pub empty-text : (text : List ℕ) (is : Bool) → is ≡ eqb (length text) 0 → (IsTrue is → text ≡ []) × (text ≡ [] → IsTrue is)
empty-text [] is test = (λ yes. refl, λ none. rw test refl)
empty-text (b ∷ text) is test = (λ yes. absurd (omega (arith, eqb-true (length (b ∷ text)) 0 (sym test ∙ yes))), λ none. absurd (cc))
