use Rattle.std.proofs.Common.{◌≡◌, ℕ, List, true, false, map, refl, sym, ap, subst, ◌∙◌, inr}
use Rattle.std.specs.Prelude.{filter_map}
use Rattle.std.specs.List.{list_all}
use Rattle.type_table.specs.Name.{is_name}
use Rattle.line_text.specs.Text.{words_of}
use Rattle.library_calls.specs.Families.{name_of}
use Rattle.library_calls.proofs.Narrowed.{Word, names_tested, names_found}
use Rattle.library_calls.proofs.parameters.names_of.Goals as goal

pub returns-then-not-are_names-clause-refused : goal.returns-then-not-are_names-clause-refused
returns-then-not-are_names-clause-refused c =
    let words : map (λ (w : Word). w.now) c.deref.result.now ≡ words_of c.args.text.now = ap (map (λ (w : Word). w.now)) c.deref.ensures.value ∙ c.in-Ok.ensures in
    inr (
      refl,
      λ names.
          let clash : true ≡ false =
          sym names ∙ ap (list_all is_name) (sym words) ∙ sym (names_tested c.deref.result.now) ∙ sym c.are_names.ensures ∙ c.if-not-are_names.true in
          cc,
    )

pub returns-in-Ok-names_among-clause-names : goal.returns-in-Ok-names_among-clause-names
returns-in-Ok-names_among-clause-names c =
    let words : map (λ (w : Word). w.now) c.deref.result.now ≡ words_of c.args.text.now = ap (map (λ (w : Word). w.now)) c.deref.ensures.value ∙ c.in-Ok.ensures in
    let names : list_all is_name (map (λ (w : Word). w.now) c.deref.result.now) ≡ true = sym (names_tested c.deref.result.now) ∙ sym c.are_names.ensures ∙ c.if-not-are_names.false in
    let behind : c.deref-2.result.now ≡ c.deref.result.now = c.deref-2.ensures.value ∙ sym c.deref.ensures.value in (
      c.in-Ok-names_among.ensures ∙ ap (filter_map (λ (w : Word). name_of w.now)) behind ∙ names_found c.deref.result.now names ∙ words,
      subst (λ (ws : List (List ℕ)). list_all is_name ws ≡ true) words names,
    )
