use Rattle.std.proofs.Common.{ℕ, ◌-◌, List, length, take, drop, sym, subst}
use Rattle.std.proofs.lemmas.List.{take_rest}
use Rattle.script_text.specs.Kept.{BeginsWithName}
use Rattle.script_text.proofs.names.Names.before_lf.Goals as goal

pub returns-then-is_in : goal.returns-then-is_in
returns-then-is_in c =
    let names = c.self.inside.names.items in
    let text = c.args.text.now in
    let front = c.front_at-front.result.now in
    let found = (c.front_at-front.ensures names c.self.invariant).each text c.in_ok-words.words c.in_ok-words.ensures (c.is_in.ensures c.if-is_in.true) in
    subst (λ (all : List (List ℕ)). BeginsWithName all text front.position (take (length text - front.end) (drop front.end text))) c.self.view_is
    (subst (λ behind. BeginsWithName names text front.position behind) (sym (take_rest text front.end)) found)

pub returns : goal.returns
returns c =
    let text = c.args.text.now in
    let end = c.in_ok-end.end in
    subst (λ behind. BeginsWithName c.args.self.now text c.front_at-front.result.now.position behind) (sym (take_rest text end)) c.in_ok-end.ensures.begins
