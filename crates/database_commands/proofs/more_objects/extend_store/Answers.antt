use Rattle.std.proofs.Common.{◌≡◌, ◌∙◌, ℕ, List, map, Ok, ap, subst, sym}
use Rattle.declared_types.specs.declared.declared_type.Declaration.{Declaration}
use Rattle.declared_text.specs.Canonical.{canonical_text}
use Rattle.store_text.specs.declared.line.ObjectLine.{ObjectLine}
use Rattle.command_files.specs.declared.status.Verdict.{Verdict}
use Rattle.command_files.proofs.Comes.{comes}
use Rattle.database_commands.specs.Created.{FindsAmong}
use Rattle.database_commands.specs.Extended.{AnswersFound}
use Rattle.database_commands.proofs.Extensions.{extends}
use Rattle.database_commands.proofs.more_objects.extend_store.Goals as goal

pub returns : goal.returns
returns g c =
    let words = map (λ p. p.now) c.args.asked.types.now in
    let objects = c.in_ok-objects.objects.items in
    let declared = c.in_ok-declared.declared.items in
    let kind = c.in_ok-found.found in
    let found = subst (λ (ds : List Declaration). FindsAmong ds objects (Ok kind)) c.deref.ensures.value
    (subst (λ (os : List ObjectLine). FindsAmong c.deref.result.now os (Ok kind)) c.deref-2.ensures.value c.in_ok-found.ensures) in
    let clean = g.D.Databases.is_clean c.extend_at.new.databases in
    let held = g.D.Databases.holds c.args.databases.now c.args.asked.database.now in
    let left = g.D.Databases.holds c.extend_at.new.databases c.args.asked.database.now in
    let answer = c.in_ok-answer.answer in
    let texts : c.deref-4.result.now ≡ map canonical_text declared = c.deref-4.ensures.value ∙ c.in_ok-texts.ensures.texts ∙ ap (map canonical_text) c.deref-3.ensures.value in
    let says : AnswersFound clean held left (map canonical_text declared) objects kind answer.verdict answer.text.bytes.items =
    subst (λ ts. AnswersFound clean held left ts objects kind answer.verdict answer.text.bytes.items) texts
    (subst (λ os. AnswersFound clean held left c.deref-4.result.now os kind answer.verdict answer.text.bytes.items) c.deref-5.ensures.value c.in_ok-answer.ensures.answers) in
    comes _ _ _ _ c.put_answer.result _ _
    (λ v text this. extends (g.S.Source.holds c.args.source.now) (g.S.Source.holds c.read_objects.new.source) c.in_ok-objects.ensures.kept c.args.asked.objects.now words objects
    c.in_ok-objects.ensures.read declared c.in_ok-declared.ensures.read clean held left kind found v text
    (subst (λ (v : Verdict). AnswersFound clean held left (map canonical_text declared) objects kind v text) (sym this.0)
    (subst (λ (t : List ℕ). AnswersFound clean held left (map canonical_text declared) objects kind answer.verdict t) (sym (this.1 ∙ c.as_bytes.ensures.value)) says)))
    (λ none. absurd none) c.put_answer.ensures.comes
