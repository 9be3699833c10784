use Rattle.std.proofs.Common.{◌≡◌, ◌∙◌, ◌++◌, length, take, refl, sym, subst, false}
use Rattle.std.proofs.lemmas.List.{append-nil, take_all}
use Rattle.std.proofs.lemmas.Option.{slice_get_read}
use Rattle.type_table.proofs.Elements.{take-found}
use Rattle.durable_store.specs.Names.{HaveNewNames, SayNames, have_name}
use Rattle.durable_store.proofs.NameSets.{among, known_more, new_more, new_none, say_more}
use Rattle.durable_store.proofs.taken_names.taken_name.Goals as goal

pub loop-x-init : goal.loop-x-init
loop-x-init c =
    let known = c.args.known.now in
    let names = c.in_ok-names.names in
    record {
      say = subst (λ os. SayNames os names.keys) (sym (append-nil known)) c.in_ok-names.ensures;
      new = new_none known;
    }

pub returns-then-is_named : goal.returns-then-is_named
returns-then-is_named c =
    let known = c.args.known.now in
    let lines = c.args.lines.now in
    let x = c.loop-x.x in
    let line = c.index-lines-x.result in
    record {
      line = line;
      there = slice_get_read lines (length lines) x line refl c.loop-x-test.true c.index-lines-x.is;
      taken = sym (among (known ++ take x lines) c.loop-x.names.keys line.name c.loop-x.invariant.say) ∙ sym c.is_named.ensures ∙ c.if-is_named.true;
      before = c.loop-x.invariant.new;
    }

pub loop-x-preserved : goal.loop-x-preserved
loop-x-preserved c =
    let known = c.args.known.now in
    let lines = c.args.lines.now in
    let x = c.loop-x.x in
    let line = c.index-lines-x.result in
    let there = slice_get_read lines (length lines) x line refl c.loop-x-test.true c.index-lines-x.is in
    let free : have_name line.name (known ++ take x lines) ≡ false = sym (among (known ++ take x lines) c.loop-x.names.keys line.name c.loop-x.invariant.say) ∙ sym c.is_named.ensures ∙ c.if-is_named.false in
    record {
      say = subst (λ os. SayNames os c.put_name.new.names.keys) (known_more known lines x line there) (say_more (known ++ take x lines) c.loop-x.names.keys c.put_name.new.names.keys line c.loop-x.invariant.say c.in_ok-put_name.ensures);
      new = subst (HaveNewNames known) (sym (take-found lines x line there)) (new_more known (take x lines) line c.loop-x.invariant.new free);
    }

pub returns : goal.returns
returns c = subst (HaveNewNames c.args.known.now) (take_all c.loop-x.x c.args.lines.now c.loop-x-test.false) c.loop-x.invariant.new
