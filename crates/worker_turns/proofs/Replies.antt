-- The replies of a try: one more, and all of them.
use Rattle.std.proofs.Common.{◌≡◌, ℕ, zero, suc, ◌+◌, ◌≤◌, List, [], ◌∷◌, ◌++◌, length, take, Some, None, slice_get, sym, subst, arith, add-one}
use Rattle.std.proofs.Math.Seq.{take-length}
use Rattle.std.proofs.lemmas.Option.{none-some, slice_get_within}
use Rattle.type_table.proofs.Elements.{take-suc_found}
use Rattle.object_trait.specs.Object.{Object}
use Rattle.object_trait.specs.declared.event.EventKind.{EventKind}
use Rattle.jobs_text.specs.Jobs.{Call}
use Rattle.worker_turns.specs.Parts.{IsReply, AreReplies}
use Rattle.worker_turns.specs.Progress.{IsTryBegun}

-- ---- elements of lists

-- where there is none, the list is at its end
past-end : {X : Type 0} (xs : List X) (i : ℕ) → slice_get xs i ≡ None → length xs ≤ i
past-end [] i none = omega arith
past-end (x ∷ xs) zero none = absurd (none-some x (sym none))
past-end (x ∷ xs) (suc i) none = omega (arith, past-end xs i none)

-- ---- replies

-- one more call, with one more reply
replies-more : (objects : List Object) (t : ℕ) (calls : List Call) (es : List EventKind) (call : Call) (e : EventKind)
    → AreReplies objects t calls es → IsReply objects t call e → AreReplies objects t (calls ++ call ∷ []) (es ++ e ∷ [])
replies-more objects t [] [] call e each last = (last, tt)
replies-more objects t [] (f ∷ es) call e each last = absurd each
replies-more objects t (c ∷ calls) [] call e each last = absurd each
replies-more objects t (c ∷ calls) (f ∷ es) call e each last = (each.0, replies-more objects t calls es call e each.1 last)

-- a transaction that begins had none
pub none-begun : (objects : List Object) (calls : List Call) (t : ℕ) → IsTryBegun objects calls t 0 []
none-begun objects calls t = record { within = omega arith; are_replies = tt }

-- the next call of a try had a reply too
pub begun-more : (objects : List Object) (calls : List Call) (t done : ℕ) (replies : List EventKind) (call : Call) (e : EventKind)
    → IsTryBegun objects calls t done replies → slice_get calls done ≡ Some call → IsReply objects t call e → IsTryBegun objects calls t (done + 1) (replies ++ e ∷ [])
begun-more objects calls t done replies call e begun next reply =
    record {
      within = omega (arith, slice_get_within calls done call next);
      are_replies = rw (add-one done, take-suc_found calls done call next) (replies-more objects t (take done calls) replies call e begun.are_replies reply);
    }

-- where no call is left, all of them had one
pub begun-all : (objects : List Object) (calls : List Call) (t done : ℕ) (replies : List EventKind)
    → IsTryBegun objects calls t done replies → slice_get calls done ≡ None → AreReplies objects t calls replies
begun-all objects calls t done replies begun none =
    let at_end : done ≡ length calls = omega (arith, begun.within, past-end calls done none) in
    subst (λ l. AreReplies objects t l replies) (take-length calls) (subst (λ n. AreReplies objects t (take n calls) replies) at_end begun.are_replies)
