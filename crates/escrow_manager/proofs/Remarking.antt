-- The mark of what a transaction did, made anew along the log.
use Rattle.std.proofs.Common.{◌≡◌, ℕ, ◌+◌, ◌<◌, ◌≤◌, Bool, true, false, cond, List, [], ◌∷◌, ◌++◌, length, get_or, take, drop, Some, refl, sym, ap, subst, ◌∙◌, inl, inr, arith}
use Rattle.std.specs.Prelude.{slice_get}
use Rattle.std.proofs.lemmas.Bool.{cases_Bool}
use Rattle.std.proofs.lemmas.List.{append-nil, take_more, take-append-drop}
use Rattle.std.proofs.lemmas.List.Elements.{filter-append}
use Rattle.type_table.specs.Table.{Table}
use Rattle.type_table.specs.Run.{run, IsLegal}
use Rattle.type_table.specs.Laws.{RunsAlong}
use Rattle.type_table.proofs.Legal.{some_state, legal-front, legal-behind}
use Rattle.escrow_laws.specs.Bounds.{AreBounds}
use Rattle.escrow_laws.specs.Marks.{mark_after, mark_of}
use Rattle.escrow_laws.specs.Laws.{MarksFit}
use Rattle.escrow_laws.specs.declared.bounded.Bounded.{Bounded}
use Rattle.escrow_laws.specs.declared.mark.Mark.{Mark}
use Rattle.object_trait.specs.Meaning.{log_ops, is_open_of, open_of, own_of}
use Rattle.object_trait.specs.declared.log_entry.LogEntry.{LogEntry}
use Rattle.object_trait.proofs.Runs.{ops-append}
use Rattle.escrow_manager.specs.Marks.{IsSmall}
use Rattle.escrow_manager.proofs.Marking.{mark-more}
use Rattle.escrow_manager.proofs.Telling.{step-told, more-small}

-- what t did along two parts of a log
own-append : (t : ℕ) (V W : List LogEntry) → own_of (V ++ W) t ≡ own_of V t ++ own_of W t
own-append t V W = ap log_ops (filter-append (is_open_of t) V W) ∙ ops-append (open_of t V) (open_of t W)

-- and along one more entry
own-mine : (t : ℕ) (e : LogEntry) → is_open_of t e ≡ true → own_of (e ∷ []) t ≡ e.op ∷ []
own-mine t e mine = rw mine refl

own-theirs : (t : ℕ) (e : LogEntry) → is_open_of t e ≡ false → own_of (e ∷ []) t ≡ []
own-theirs t e theirs = rw theirs refl

-- the mark, with one more entry
pub mark-next : (top : ℕ) (ops : List Bounded) (log : List LogEntry) (t i : ℕ) (e : LogEntry) (b : Bounded) (mark : Mark) (mine : Bool) → i < length log → e ≡ get_or log i e → slice_get ops e.op ≡ Some b →
    mine ≡ is_open_of t e → mark ≡ mark_of top ops (own_of (take i log) t) → cond mine (mark_after mark b) mark ≡ mark_of top ops (own_of (take (i + 1) log) t)
mark-next top ops log t i e b mark mine within read found told so_far =
    let V = take i log in
    let more : take (i + 1) log ≡ V ++ e ∷ [] = take_more log i e within ∙ ap (λ x. V ++ x ∷ []) (sym read) in
    let own : own_of (take (i + 1) log) t ≡ own_of V t ++ own_of (e ∷ []) t = ap (λ W. own_of W t) more ∙ own-append t V (e ∷ []) in
    elim (cases_Bool (is_open_of t e)) [
      | inl is ↦
          ap (λ m. cond m (mark_after mark b) mark) (told ∙ is) ∙ ap (λ x. mark_after x b) so_far ∙ sym (mark-more top ops (own_of V t) e.op b found)
          ∙ ap (mark_of top ops) (sym (own ∙ ap (λ W. own_of V t ++ W) (own-mine t e is)))
      | inr isnt ↦
          ap (λ m. cond m (mark_after mark b) mark) (told ∙ isnt) ∙ so_far
          ∙ ap (mark_of top ops) (sym (own ∙ ap (λ W. own_of V t ++ W) (own-theirs t e isnt) ∙ append-nil (own_of V t)))
    ]

-- on a smaller range it is small on a larger one
wider : (top more : ℕ) (mark : Mark) (b : Bounded) → top ≤ more → IsSmall top mark b → IsSmall more mark b
wider top more mark b most h =
    let low = h.low in
    let gives = h.gives in
    let fall = h.fall in
    let rise = h.rise in
    let above = h.above in
    let floor = h.floor in
    let ceiling = h.ceiling in
    record {
      enough = h.enough;
      low = omega (arith, low, most);
      gives = omega (arith, gives, most);
      fall = omega (arith, fall, most);
      rise = omega (arith, rise, most);
      above = omega (arith, above, most);
      floor = omega (arith, floor, most);
      ceiling = omega (arith, ceiling, most);
    }

-- and its numbers stay small
pub next-small : MarksFit → RunsAlong → (T : Table) (top base : ℕ) (ops : List Bounded) → AreBounds T top ops → base ≤ top → top ≤ 4294967295 → (log : List LogEntry) (t i : ℕ) (e : LogEntry) (b : Bounded) (mark : Mark) →
    i < length log → e ≡ get_or log i e → slice_get ops e.op ≡ Some b → is_open_of t e ≡ true → IsLegal T (Some base) (own_of log t) → mark ≡ mark_of top ops (own_of (take i log) t) → IsSmall 4294967295 mark b
next-small fit along T top base ops bounds inside most log t i e b mark within read found mine legal so_far =
    let V = take i log in
    let own = own_of V t in
    let more : take (i + 1) log ≡ V ++ e ∷ [] = take_more log i e within ∙ ap (λ x. V ++ x ∷ []) (sym read) in
    let own_more : own_of (take (i + 1) log) t ≡ own ++ e.op ∷ [] = ap (λ W. own_of W t) more ∙ own-append t V (e ∷ []) ∙ ap (λ W. own ++ W) (own-mine t e mine) in
    let parted : own_of log t ≡ own_of (take (i + 1) log) t ++ own_of (drop (i + 1) log) t =
    ap (λ W. own_of W t) (sym (take-append-drop (i + 1) log)) ∙ own-append t (take (i + 1) log) (drop (i + 1) log) in
    let front : IsLegal T (Some base) (own_of (take (i + 1) log) t) =
    legal-front T (Some base) (own_of (take (i + 1) log) t) (own_of (drop (i + 1) log) t) (subst (λ ks. IsLegal T (Some base) ks) parted legal) in
    let both : IsLegal T (Some base) (own ++ e.op ∷ []) = subst (λ ks. IsLegal T (Some base) ks) own_more front in
    let before : IsLegal T (Some base) own = legal-front T (Some base) own (e.op ∷ []) both in
    let state = some_state (run T (Some base) own) before in
    let here : IsLegal T (Some state.0) (e.op ∷ []) = legal-behind along T (Some base) own (e.op ∷ []) state.0 state.1 both in
    let between = (step-told T top base ops bounds state.0 e.op b found).1 here in
    let fits = fit T top base ops own bounds inside before in
    subst (λ x. IsSmall 4294967295 x b) (sym so_far)
    (wider top 4294967295 (mark_of top ops own) b most (more-small top base state.0 (mark_of top ops own) b inside fits (bounds.within e.op b found) between.0 between.1))
