-- The answer of a call of which one operation is legal.
use Rattle.std.proofs.Common.{◌≡◌, ℕ, ◌<◌, true, false, not, [], ◌∷◌, length, Option, Some, None, is_some, refl, sym, ap, ◌∙◌, arith}
use Rattle.std.proofs.lemmas.Bool.{false≢true, and_parts, and_from, false_from_ne_true}
use Rattle.std.proofs.lemmas.Slice.Eq.{bytes_eq-Decides}
use Rattle.type_table.specs.Least.{first_below}
use Rattle.type_table.specs.Run.{run}
use Rattle.type_table.specs.Table.{call_of, has_op, is_same_call}
use Rattle.type_table.proofs.Least.{first_below-none, first_below-found}
use Rattle.number_types.specs.Called.{IsOneLegal}
use Rattle.declared_types.proofs.TableOps.{op_below}
use Rattle.object_trait.specs.Meaning.{Meaning, view_of}
use Rattle.object_trait.specs.Steps.{stopper}
use Rattle.object_calls.specs.Answers.{is_call_reply, is_free_answer, answer_of}
use Rattle.object_calls.specs.declared.answer.Answer.{Answer}
use Rattle.object_calls.specs.declared.answer.Answer.TheVariants as answer
use Rattle.object_calls.proofs.LookUps.{named_as}

-- the reply where nobody keeps t from it, else who does
abbrev pub reply_or_busy : ℕ → Option ℕ → Answer
reply_or_busy k None = answer.Reply k
reply_or_busy k (Some u) = answer.Busy u

module _ (m : Meaning) (t c k : ℕ) (named : has_op m.checked.file.table c ≡ true) (one : IsOneLegal m.checked.file.table (view_of m t) c k) where
  -- it is an operation
  below : k < length m.checked.file.table.ops
  below =
      let T = m.checked.file.table in
      op_below T k (named_as T c k named ((bytes_eq-Decides (call_of T k) (call_of T c)).0 one.same))

  -- and the only reply
  replies : is_call_reply m t c k ≡ true
  replies = and_from (is_same_call m.checked.file.table k c) (is_some (run m.checked.file.table (view_of m t) (k ∷ []))) one.same one.legal

  only_reply : (j : ℕ) → is_call_reply m t c j ≡ true → j ≡ k
  only_reply j is =
      let parts = and_parts (is_same_call m.checked.file.table j c) (is_some (run m.checked.file.table (view_of m t) (j ∷ []))) is in
      one.only j parts.0 parts.1

  first_reply : first_below (length m.checked.file.table.ops) (is_call_reply m t c) ≡ Some k
  first_reply =
      first_below-found (is_call_reply m t c) k (length m.checked.file.table.ops)
      (first_below-none (is_call_reply m t c) k (λ j less. false_from_ne_true (is_call_reply m t c j) (λ is. omega (arith, less, only_reply j is)))) replies below

  by : (who : Option ℕ) → stopper m t k ≡ who → answer_of m t c ≡ reply_or_busy k who
  by None free =
      let is_free : is_free_answer m t c k ≡ true = and_from (is_call_reply m t c k) (not (is_some (stopper m t k))) replies (ap (λ o. not (is_some o)) free) in
      let first : first_below (length m.checked.file.table.ops) (is_free_answer m t c) ≡ Some k =
      first_below-found (is_free_answer m t c) k (length m.checked.file.table.ops)
      (first_below-none (is_free_answer m t c) k
      (λ j less. false_from_ne_true (is_free_answer m t c j) (λ is. omega (arith, less, only_reply j (and_parts (is_call_reply m t c j) (not (is_some (stopper m t j))) is).0)))) is_free below in
      rw first refl
  by (Some u) stopped =
      let none : first_below (length m.checked.file.table.ops) (is_free_answer m t c) ≡ None =
      first_below-none (is_free_answer m t c) (length m.checked.file.table.ops)
      (λ j less. false_from_ne_true (is_free_answer m t c j)
      (λ is.
      let parts = and_parts (is_call_reply m t c j) (not (is_some (stopper m t j))) is in
      let free : not (is_some (stopper m t k)) ≡ true = ap (λ q. not (is_some (stopper m t q))) (sym (only_reply j parts.0)) ∙ parts.1 in
      let kept : not (is_some (stopper m t k)) ≡ false = ap (λ o. not (is_some o)) stopped in
      false≢true (sym kept ∙ free))) in
      rw (none, first_reply, stopped) refl

  pub one_answer : answer_of m t c ≡ reply_or_busy k (stopper m t k)
  one_answer = by (stopper m t k) refl
