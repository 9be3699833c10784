-- A call at a purse that takes any amount, and its replies.
use Rattle.std.proofs.Common.{◌≡◌, ℕ, true, length, Some, refl, sym, ◌∙◌, subst}
use Rattle.std.specs.Prelude.{codes, nat_lt}
use Rattle.std.proofs.lemmas.Bool.{and_from, false≢true}
use Rattle.std.proofs.lemmas.Option.{same_Some}
use Rattle.std.proofs.lemmas.Slice.Eq.{bytes_eq-Decides}
use Rattle.type_table.specs.Operation.{operation_at}
use Rattle.type_table.specs.Table.{call_of, is_same_call, first_op}
use Rattle.type_table.specs.declared.kind.Kind.TheVariants.{Escrow}
use Rattle.number_types.specs.Examples.{purse}
use Rattle.number_types.specs.Operations.{number_table}
use Rattle.declared_types.specs.Declarations.{number_file}
use Rattle.object_trait.specs.Object.{Object, object_of}
use Rattle.object_trait.specs.declared.event.EventKind.TheVariants.{Op}
use Rattle.serial_order.specs.View.{is_of_call}
use Rattle.worker_turns.specs.Parts.{IsReply}
use Rattle.worker_turns.specs.Examples.{purses}

abbrev the_purse : Object
the_purse = object_of (record { kind = Escrow; file = number_file purse })

-- the first operation of the call that takes 4
abbrev four : ℕ
four = operation_at 2 (Some 4)

-- it is one of its own call
four_of_itself : is_of_call the_purse four four ≡ true
four_of_itself =
    let name = call_of (number_table purse) four in
    and_from (nat_lt four (length the_purse.table.ops)) (is_same_call the_purse.table four four) refl ((bytes_eq-Decides name name).1 refl)

pub four-reply : (t : ℕ) → first_op (number_table purse) (codes "take:4") ≡ Some four → IsReply purses t (0, codes "take:4") (Op four t 0)
four-reply t first = record {
  o = the_purse;
  there = refl;
  c = four;
  number = first;
  k = four;
  of_call = four_of_itself;
  is = refl;
}

-- the place alone is none of it
same_operation : (t k j : ℕ) → Op k t 0 ≡ Op j t 0 → k ≡ j
same_operation t k j same = cc

pub place-no_reply : (t : ℕ) → first_op (number_table purse) (codes "take:4") ≡ Some four → IsReply purses t (0, codes "take:4") (Op 2 t 0) → ⊥
place-no_reply t first reply =
    let o : the_purse ≡ reply.o = same_Some the_purse reply.o reply.there in
    let c : four ≡ reply.c = same_Some four reply.c (sym first ∙ reply.number) in
    let k : 2 ≡ reply.k = same_operation t 2 reply.k reply.is in
    false≢true
    (subst (λ n. is_of_call the_purse four n ≡ true) (sym k)
    (subst (λ n. is_of_call the_purse n reply.k ≡ true) (sym c)
    (subst (λ p. is_of_call p reply.c reply.k ≡ true) (sym o) reply.of_call)))
