use Rattle.std.proofs.Common.{◌≡◌, ◌∷◌, ◌++◌, [], List, ℕ, codes, append_assoc, refl, subst, ◌∙◌}
use Rattle.std.specs.Fmt.{decimal}
use Rattle.std.specs.List.{flat_map}
use Rattle.outputs.specs.Out.{Puts}
use Rattle.history_audit.specs.Text.{comment}
use Rattle.history_audit.proofs.epoch_lines.write_illegal_in.Goals as goal

-- the pieces of the line are its words
words : (e i x j a b c d : List ℕ) → a ≡ e → b ≡ i → c ≡ x → d ≡ j
    → flat_map (λ (piece : List ℕ). piece) (codes "# audit no IllegalOp " ∷ a ∷ codes "." ∷ b ∷ codes " " ∷ c ∷ codes " " ∷ d ∷ codes "\n" ∷ [])
    ≡ comment (codes "audit" ∷ codes "no" ∷ codes "IllegalOp" ∷ (e ++ (codes "." ++ i)) ∷ x ∷ j ∷ [])
words e i x j a b c d is_a is_b is_c is_d = rw (is_a, is_b, is_c, is_d) (simp append_assoc refl)

pub returns : goal.returns
returns g c =
    let P : List ℕ → Type 0 = λ text. Puts (g.W.Out.taken c.args.out.now) (g.W.Out.taken c.put_all.new.out) (g.W.Out.fault c.put_all.new.out) text c.put_all.result in
    subst P
    (words (decimal c.args.epoch) (decimal c.args.commit_index) (decimal c.args.object) (decimal c.args.op_index) c.as_bytes.result.now c.as_bytes-2.result.now c.as_bytes-3.result.now c.as_bytes-4.result.now
    (c.as_bytes.ensures.value ∙ c.format.ensures.text) (c.as_bytes-2.ensures.value ∙ c.format-2.ensures.text) (c.as_bytes-3.ensures.value ∙ c.format-3.ensures.text)
    (c.as_bytes-4.ensures.value ∙ c.format-4.ensures.text))
    c.put_all.ensures
