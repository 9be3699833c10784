-- What a call is answered to a transaction that only reads.
use Rattle.std.proofs.Common.{◌≡◌, ℕ, List, Option, Some, subst}
use Rattle.std.specs.Prelude.{Err}
use Rattle.store_laws.specs.Stored.{Stored}
use Rattle.store.specs.Peeks.{ComesOfPeek, IsPeeked}
use Rattle.store.specs.declared.refusals.PeekRefusal.{PeekRefusal}
use Rattle.store_text.specs.declared.line.ObjectLine.{ObjectLine}
use Rattle.request_text.specs.declared.request.AskedCall.{AskedCall}
use Rattle.serving.specs.Means.{Means}
use Rattle.serving.specs.Several.{IsAnsweredThere, IsRepliedThere, found_reply}

-- a reply is there
pub replied-some : {clean : Type 0} {lines : List ObjectLine} {s : Stored} {call : AskedCall} {found : Option (List ℕ)} {reply : List ℕ} → IsRepliedThere clean lines s call found → found ≡ Some reply → IsRepliedThere clean lines s call (Some reply)
replied-some {clean} {lines} {s} {call} it same = subst (IsRepliedThere clean lines s call) same it

-- what this store answers at these bytes is what is answered at the call
pub replied-there : {clean : Type 0} {lines : List ObjectLine} {s : Stored} {call : AskedCall} {reply : Option (List ℕ)} (t : Stored) (w : List ℕ) (x : ℕ) (found : Option ℕ) → t ≡ s → w ≡ call.call → Means clean lines call.x x → IsPeeked t x w found
    → reply ≡ found_reply t x found → IsRepliedThere clean lines s call reply
replied-there {s = s} {call} {reply} t w x found same word means peeked told = record {
  x = x;
  means = means;
  found = found;
  peeked = subst (λ v. IsPeeked s x v found) word (subst (λ u. IsPeeked u x w found) same peeked);
  told = subst (λ u. reply ≡ found_reply u x found) same told;
}

pub refused-there : (clean : Type 0) (lines : List ObjectLine) (s : Stored) (call : AskedCall) (t : Stored) (w : List ℕ) (x : ℕ) (refusal : PeekRefusal) → t ≡ s → w ≡ call.call → Means clean lines call.x x → ComesOfPeek t x w (Err refusal)
    → IsAnsweredThere clean lines s call (Err refusal)
refused-there clean lines s call t w x refusal same word means comes = (x, means, subst (λ v. ComesOfPeek s x v (Err refusal)) word (subst (λ u. ComesOfPeek u x w (Err refusal)) same comes))
