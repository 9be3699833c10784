-- A group is served part by part: before each part the bytes of those after it may be taken for a rest of the input that wasn't read yet.
use Rattle.std.proofs.Common.{◌≡◌, ◌∙◌, ℕ, ◌+◌, ◌-◌, ◌≤◌, List, [], ◌++◌, length, take, drop, Option, Some, None, refl, sym, ap, subst, append_assoc, arith}
use Rattle.std.proofs.lemmas.List.{take-append-drop, drop-drop, drop-append-le, length-drop, take_all}
use Rattle.std.proofs.KnownBytes.{Consumes-trans}
use Rattle.std.specs.Io.KnownBytes.{Consumes}
use Rattle.sqlite_trees.specs.declared.store.Store.{Ghosts}
use Rattle.serving.specs.declared.session.Session.{Session}
use Rattle.serving.specs.declared.server.Server.{Server}
use Rattle.serving.specs.Acknowledged.{NoneLast, TellsSafely}
use Rattle.serving.specs.Group.{known_from}
use Rattle.serving.specs.Left.{LeavesLines, began_at}
use Rattle.serving.proofs.LeftLines.{lines-bytes}

-- at the start
pub known-whole : (a : Option (List ℕ)) → a ≡ known_from 0 a
known-whole None = refl
known-whole (Some xs) = refl

-- the bytes from one place to another
pub part-consumed : (a b : Option (List ℕ)) (bs : List ℕ) (n m : ℕ) → Consumes a b bs → n ≤ m → m ≤ length bs → Consumes (known_from n a) (known_from m a) (take (m - n) (drop n bs))
part-consumed None b bs n m consumed low high = tt
part-consumed (Some xs) None bs n m consumed low high = absurd consumed
part-consumed (Some xs) (Some ys) bs n m consumed low high =
    let first : drop n xs ≡ drop n bs ++ ys = ap (drop n) consumed ∙ drop-append-le n bs ys (omega (arith, low, high)) in
    let last : drop m xs ≡ drop m bs ++ ys = ap (drop m) consumed ∙ drop-append-le m bs ys high in
    let there : n + (m - n) ≡ m = omega (arith, low) in
    let rest : drop (m - n) (drop n bs) ≡ drop m bs = drop-drop (m - n) n bs ∙ ap (λ k. drop k bs) there in
    first ∙ ap (λ zs. zs ++ ys) (sym (take-append-drop (m - n) (drop n bs))) ∙ append_assoc (take (m - n) (drop n bs)) (drop (m - n) (drop n bs)) ys
    ∙ ap (λ zs. take (m - n) (drop n bs) ++ zs) (ap (λ zs. zs ++ ys) rest ∙ sym last)

-- the bytes from a place on
pub rest-consumed : (a b : Option (List ℕ)) (bs : List ℕ) (n : ℕ) → Consumes a b bs → n ≤ length bs → Consumes (known_from n a) b (take (length bs - n) (drop n bs))
rest-consumed None b bs n consumed low = tt
rest-consumed (Some xs) None bs n consumed low = absurd consumed
rest-consumed (Some xs) (Some ys) bs n consumed low =
    let all : take (length bs - n) (drop n bs) ≡ drop n bs = take_all (length bs - n) (drop n bs) (omega (arith, length-drop n bs)) in
    ap (drop n) consumed ∙ drop-append-le n bs ys low ∙ ap (λ zs. zs ++ ys) (sym all)

-- the end was asked for: what was read behind it counts as read, and changes nothing
pub tells-past : {S : Type 0} {g : Ghosts S} {began : Session S} {given taken given_now taken_now : Option (List ℕ)} {now : Server S} (given_new : Option (List ℕ)) (more : List ℕ) → (now.end ≡ None → ⊥)
    → Consumes given_now given_new more → TellsSafely g began given taken now given_now taken_now → TellsSafely g began given taken now given_new taken_now
tells-past {S} {g} {began} {given} {taken} {given_now} {taken_now} {now} given_new more asked consumed so_far =
    let has = so_far.tells in
    record {
      tells = record {
        told = has.told;
        seen = has.seen;
        rest = has.rest ++ more;
        consumed = subst (Consumes given given_new) (append_assoc has.seen has.rest more) (Consumes-trans given given_now given_new (has.seen ++ has.rest) more has.consumed consumed);
        all = λ none. absurd (asked none);
        waits = has.waits;
        served = has.served;
        appended = has.appended;
      };
      safe = λ shows clean.
          subst (λ bs. LeavesLines g (began_at g began) NoneLast bs has.told [] now.session.store) (append_assoc has.seen has.rest more)
          (lines-bytes g (began_at g began) now.session.store (has.seen ++ has.rest) more (so_far.safe shows clean));
    }
