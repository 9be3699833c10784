-- The canonical text of a history is read as that history.
use Rattle.std.proofs.Common.{◌≡◌, ℕ, ◌<◌, ◌≤◌, ◌^◌, true, List, [], ◌∷◌, ◌++◌, map, Option, Some, None, Ok, sym, ap, subst, ◌∙◌, refl, length, arith}
use Rattle.std.specs.Prelude.{IfSome}
use Rattle.std.specs.List.{AllByRecursion}
use Rattle.std.specs.Option.{option_to_list}
use Rattle.type_table.proofs.Elements.{each-append}
use Rattle.line_text.specs.Outcome.{outcome_of}
use Rattle.line_text.specs.Rules.{Rules}
use Rattle.line_text.specs.Spelling.{Spells, IsReadAgain, NumberIsReadAgain, text_of}
use Rattle.object_trait.specs.declared.event.Event.{Event}
use Rattle.store_text.specs.Body.{store_rules}
use Rattle.store_text.specs.Kept.{size_lines}
use Rattle.store_text.specs.Said.{said_sizes, said_objects, entries_of}
use Rattle.store_text.specs.Size.{may_have, size_in, text_size, IsSize}
use Rattle.store_text.specs.declared.line.Line.TheVariants.{Objects, End}
use Rattle.store_text.specs.declared.line.ObjectLine.{ObjectLine}
use Rattle.type_table.specs.Kind.{kind_word}
use Rattle.std.specs.Fmt.{decimal}
use Rattle.history_text.specs.Events.{history_body, event_in_line, line_of, is_in_range}
use Rattle.history_text.specs.Canonical.{words_of, object_line, event_line, canonical_lines, canonical_size, canonical_text, CanonicalIsRead, WrittenIsRead}
use Rattle.history_text.proofs.Follows.{HistoryLine}
use Rattle.history_text.proofs.Accepted.{canonical_accepted}
use Rattle.history_text.proofs.Names.{MayHaveAll, canonical_names}
use Rattle.history_text.proofs.Sizes.{canonical_fits, words_in_front, size_said_again, no_size_said}
use Rattle.history_text.proofs.Spelled.{size_spells, object_line_spells, event_line_spells, end_spells}
use Rattle.history_text.proofs.Said.{size_said, objects_said, events_said}

module _ (again : (g : Rules HistoryLine) (words : HistoryLine → List (List ℕ)) (items : List HistoryLine) → IsReadAgain g words items)
    (numbers : (n : ℕ) → n < 10 ^ 7 → NumberIsReadAgain n) where
  -- a line is said by its words
  abbrev IsSpelled : Option ℕ → HistoryLine → Type 0
  IsSpelled says x = Spells (store_rules history_body says) x (words_of x)

  -- the line of the size is
  size_spelled : (says : Option ℕ) → IfSome says IsSize → AllByRecursion (IsSpelled says) (size_lines says)
  size_spelled None fits = tt
  size_spelled (Some n) fits = (size_spells (Some n) numbers n (omega (arith, fits.1)) refl, tt)

  -- so are those of the objects
  objects_spelled : (says : Option ℕ) (objects : List ObjectLine) → AllByRecursion (λ (o : ObjectLine). o.file < 65536) objects → MayHaveAll says objects → AllByRecursion (IsSpelled says) (map object_line objects)
  objects_spelled says [] h may = tt
  objects_spelled says (o ∷ objects) h may = (object_line_spells says numbers o.kind o.file o.name h.0 may.0, objects_spelled says objects h.1 may.1)

  -- and those of the events
  events_spelled : (says : Option ℕ) → IfSome says IsSize → (happened : List Event) → AllByRecursion (λ e. is_in_range (may_have says) (line_of e) ≡ true) happened → AllByRecursion (IsSpelled says) (map event_line happened)
  events_spelled says fits [] h = tt
  events_spelled says fits (e ∷ happened) h = (event_line_spells says numbers (may_have says) (few says fits) (line_of e) h.0, events_spelled says fits happened h.1)
    where
      few : (says : Option ℕ) → IfSome says IsSize → may_have says ≤ 65536
      few None fits = omega arith
      few (Some n) fits = fits.1

  -- the text says the size by which it is to be read
  size_again : (says : Option ℕ) → IfSome says IsSize → (objects : List ObjectLine) (rest : List HistoryLine) → 0 < length objects → AllByRecursion (λ (o : ObjectLine). o.file < 65536) objects → MayHaveAll says objects
      → text_size (text_of words_of (size_lines says ++ (map object_line objects ++ rest))) ≡ says
  size_again says fits [] rest some low may = absurd (omega (arith, some))
  size_again None fits (o ∷ objects) rest some low may =
      ap size_in (words_in_front (store_rules history_body None) words_of (object_line o) (map object_line objects ++ rest) (object_line_spells None numbers o.kind o.file o.name low.0 may.0)) ∙ no_size_said (kind_word o.kind ∷ decimal o.file ∷ option_to_list o.name)
  size_again (Some n) fits (o ∷ objects) rest some low may =
      ap size_in (words_in_front (store_rules history_body (Some n)) words_of (Objects n) (map object_line (o ∷ objects) ++ rest) (size_spells (Some n) numbers n (omega (arith, fits.1)) refl)) ∙ size_said_again numbers n fits

  -- the text is read as its lines, and they say the history
  pub canonical_read : CanonicalIsRead
  canonical_read objects happened h =
      let says = canonical_size objects in
      let fits = canonical_fits objects h.some_object h.objects_fit h.files_fit in
      let may = canonical_names objects h.named in
      let rest = map event_line happened ++ End ∷ [] in
      let body = each-append (IsSpelled says) (map event_line happened) (End ∷ []) (events_spelled says fits happened h.numbers_fit) (end_spells says numbers, tt) in
      let behind = each-append (IsSpelled says) (map object_line objects) rest (objects_spelled says objects h.files_fit may) body in
      let spelled = each-append (IsSpelled says) (size_lines says) (map object_line objects ++ rest) (size_spelled says fits) behind in
      let read = again (store_rules history_body says) words_of (canonical_lines objects happened) spelled (canonical_accepted objects happened h) in
      let same : text_size (canonical_text objects happened) ≡ says = size_again says fits objects rest h.some_object h.files_fit may in
      record {
        read = subst (λ size. outcome_of (store_rules history_body size) (canonical_text objects happened) ≡ Ok (canonical_lines objects happened)) (sym same) read;
        size_said = size_said objects happened;
        objects_said = objects_said objects happened;
        events_said = events_said objects happened;
      }

-- lists of one number at most are of the same
pub same_option : (a b : Option ℕ) → option_to_list a ≡ option_to_list b → a ≡ b
same_option None None e = refl
same_option None (Some m) e = absurd cc
same_option (Some n) None e = absurd cc
same_option (Some n) (Some m) e = cc

-- what is read of the text is the history
pub written_read : CanonicalIsRead → WrittenIsRead
written_read canonical objects happened back h read =
    let known = canonical objects happened h in
    let same : read.0 ≡ canonical_lines objects happened = let both = sym read.1 ∙ known.read in cc in
    record {
      size_is = same_option back.size (canonical_size objects) (sym read.2.size ∙ ap said_sizes same ∙ known.size_said);
      objects_are = read.2.objects ∙ ap said_objects same ∙ known.objects_said;
      events_are = read.2.events ∙ ap (λ lines. map event_in_line (entries_of lines)) same ∙ known.events_said;
    }
