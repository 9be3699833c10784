-- Events that aren't of a transaction change nothing of it.
use Rattle.std.proofs.Common.{◌≡◌, ◌∙◌, ℕ, suc, ◌+◌, ◌<◌, Bool, true, false, not, ◌&&◌, if◌then◌else◌, List, [], ◌∷◌, ◌++◌, filter, length, take, refl, sym, ap, append_assoc, append-nil, length-append, arith}
use Rattle.std.specs.Prelude.{◌==◌, ◌||◌, ◌-◌, nat_lt}
use Rattle.std.specs.List.{AllByRecursion}
use Rattle.std.proofs.lemmas.Bool.{lt-ltb}
use Rattle.std.proofs.lemmas.List.Elements.{filter-append}
use Rattle.type_table.proofs.Elements.{filter-turned}
use Rattle.object_trait.specs.declared.event.Event.{Event}
use Rattle.object_trait.specs.declared.event.EventKind.{EventKind}
use Rattle.object_trait.specs.declared.event.EventKind.TheVariants as kind
use Rattle.serial_order.specs.After.{summary_next}
use Rattle.serial_order.specs.Held.{own_after}
use Rattle.serial_order.specs.History.{Summary, begins, is_begin, is_open, summary, surviving}
use Rattle.serial_order.specs.Operations.{at_object, is_among, is_by, of, ops}
use Rattle.serial_order.specs.declared.entry.Entry.{Entry}
use Rattle.serial_order.proofs.After.{seen_after_one}
use Rattle.serial_order.proofs.Held.{own_after_one}
use Rattle.serial_order.proofs.Lists.{is_among-snoc}
use Rattle.held_votes.specs.VotesHeld.{operations_at}

-- what happened changes what there is of transaction n
abbrev pub concerns : ℕ → EventKind → Bool
concerns n (kind.Op k t x) = t == n
concerns n (kind.Commit t) = t == n
concerns n (kind.Abort t) = t == n
concerns n (kind.Rollback t m) = t == n
concerns n other = false

-- none of these events does
abbrev pub AreBeside : ℕ → List Event → Type 0
AreBeside n es = AllByRecursion (λ (e : Event). concerns n e.kind ≡ false) es

-- ---- who is open

-- the event ends transaction t
abbrev ends : EventKind → ℕ → Bool
ends (kind.Commit u) t = u == t
ends (kind.Abort u) t = u == t
ends other t = false

committed-now : (began done gone it : Bool) → (began && (not (done || it) && not gone)) ≡ ((began && (not done && not gone)) && not it)
committed-now false done gone it = refl
committed-now true true gone it = refl
committed-now true false true true = refl
committed-now true false true false = refl
committed-now true false false true = refl
committed-now true false false false = refl

aborted-now : (began done gone it : Bool) → (began && (not done && not (gone || it))) ≡ ((began && (not done && not gone)) && not it)
aborted-now false done gone it = refl
aborted-now true true gone it = refl
aborted-now true false true it = refl
aborted-now true false false it = refl

same-and : (b : Bool) → b ≡ (b && not false)
same-and true = refl
same-and false = refl

-- who began is open after an event where it was open and isn't ended
open-next : (s : Summary) (happened : EventKind) (t : ℕ) → t < s.begun → is_open (summary_next s happened) t ≡ (is_open s t && not (ends happened t))
open-next s (kind.Begin u) t low = rw (lt-ltb t s.begun low, lt-ltb t (suc s.begun) (omega (arith, low))) (same-and (not (is_among s.committed t) && not (is_among s.aborted t)))
open-next s (kind.Op k u x) t low = same-and (is_open s t)
open-next s (kind.Busy k u x v) t low = same-and (is_open s t)
open-next s (kind.None u x k) t low = same-and (is_open s t)
open-next s (kind.Commit u) t low = rw (is_among-snoc s.committed u t) (committed-now (nat_lt t s.begun) (is_among s.committed t) (is_among s.aborted t) (u == t))
open-next s (kind.Abort u) t low = rw (is_among-snoc s.aborted u t) (aborted-now (nat_lt t s.begun) (is_among s.committed t) (is_among s.aborted t) (u == t))
open-next s (kind.Rollback u n) t low = same-and (is_open s t)

open-snoc : (H : List Event) (e : Event) (t : ℕ) → t < begins H → is_open (summary (H ++ e ∷ [])) t ≡ (is_open (summary H) t && not (ends e.kind t))
open-snoc H e t low = ap (λ (s : Summary). is_open s t) (seen_after_one H e) ∙ open-next (summary H) e.kind t low

-- nobody is taken back that began
pub begins-append : (H es : List Event) → begins (H ++ es) ≡ begins H + begins es
begins-append H es = ap length (filter-append (λ (e : Event). is_begin e.kind) H es) ∙ length-append (filter (λ (e : Event). is_begin e.kind) H) (filter (λ (e : Event). is_begin e.kind) es)

pub began-still : (H es : List Event) (t : ℕ) → t < begins H → t < begins (H ++ es)
began-still H es t low = let more = begins-append H es in omega (arith, low, more)

-- nor is one open again that ended
pub closed-still : (H es : List Event) (t : ℕ) → t < begins H → is_open (summary H) t ≡ false → is_open (summary (H ++ es)) t ≡ false
closed-still H [] t low closed = ap (λ K. is_open (summary K) t) (append-nil H) ∙ closed
closed-still H (e ∷ es) t low closed =
    ap (λ K. is_open (summary K) t) (sym (append_assoc H (e ∷ []) es))
    ∙ closed-still (H ++ e ∷ []) es t (began-still H (e ∷ []) t low) (open-snoc H e t low ∙ ap (λ b. b && not (ends e.kind t)) closed)

-- who ends is concerned
ends-concerns : (happened : EventKind) (n : ℕ) → concerns n happened ≡ false → ends happened n ≡ false
ends-concerns (kind.Begin t) n beside = refl
ends-concerns (kind.Op k t x) n beside = refl
ends-concerns (kind.Busy c t x u) n beside = refl
ends-concerns (kind.None t x c) n beside = refl
ends-concerns (kind.Commit t) n beside = beside
ends-concerns (kind.Abort t) n beside = beside
ends-concerns (kind.Rollback t m) n beside = refl

-- whom none of these concerns is as open as before
pub open-beside : (H es : List Event) (n : ℕ) → n < begins H → AreBeside n es → is_open (summary (H ++ es)) n ≡ is_open (summary H) n
open-beside H [] n low beside = ap (λ K. is_open (summary K) n) (append-nil H)
open-beside H (e ∷ es) n low beside =
    ap (λ K. is_open (summary K) n) (sym (append_assoc H (e ∷ []) es))
    ∙ open-beside (H ++ e ∷ []) es n (began-still H (e ∷ []) n low) beside.1
    ∙ open-snoc H e n low ∙ ap (λ b. is_open (summary H) n && not b) (ends-concerns e.kind n beside.0) ∙ sym (same-and (is_open (summary H) n))

-- ---- what survives

own-next : (s : Summary) (happened : EventKind) (n : ℕ) → concerns n happened ≡ false → own_after n s happened ≡ of n s.survives
own-next s (kind.Begin t) n beside = refl
own-next s (kind.Op k t x) n beside = ap (λ b. if b then of n s.survives ++ (record { by = t; at = x; op = k }) ∷ [] else of n s.survives) beside
own-next s (kind.Busy c t x u) n beside = refl
own-next s (kind.None t x c) n beside = refl
own-next s (kind.Commit t) n beside = refl
own-next s (kind.Abort t) n beside = ap (λ b. if b then [] else of n s.survives) beside
own-next s (kind.Rollback t m) n beside = ap (λ b. if b then take (length (of n s.survives) - m) (of n s.survives) else of n s.survives) beside

own-snoc : (H : List Event) (e : Event) (n : ℕ) → concerns n e.kind ≡ false → of n (surviving (H ++ e ∷ [])) ≡ of n (surviving H)
own-snoc H e n beside = ap (λ (s : Summary). of n s.survives) (seen_after_one H e) ∙ own_after_one (summary H) e.kind n ∙ own-next (summary H) e.kind n beside

own-beside : (H es : List Event) (n : ℕ) → AreBeside n es → of n (surviving (H ++ es)) ≡ of n (surviving H)
own-beside H [] n beside = ap (λ K. of n (surviving K)) (append-nil H)
own-beside H (e ∷ es) n beside = ap (λ K. of n (surviving K)) (sym (append_assoc H (e ∷ []) es)) ∙ own-beside (H ++ e ∷ []) es n beside.1 ∙ own-snoc H e n beside.0

-- the operations at an object are those of the transaction, at the object
own-at : (V : List Entry) (n x : ℕ) → ops (of n (at_object x V)) ≡ ops (at_object x (of n V))
own-at V n x = ap ops (filter-turned (is_by n) (λ (e : Entry). e.at == x) V)

-- whom none of these concerns keeps its operations
pub works-beside : (H es : List Event) (n x : ℕ) → AreBeside n es → operations_at (H ++ es) n x ≡ operations_at H n x
works-beside H es n x beside = own-at (surviving (H ++ es)) n x ∙ ap (λ V. ops (at_object x V)) (own-beside H es n beside) ∙ sym (own-at (surviving H) n x)
