-- The slots of open transactions, as the calls read and write them: k is the slot that was read for an open transaction t.
use Rattle.std.proofs.Common.{◌≡◌, ℕ, ◌+◌, ◌-◌, ◌<◌, true, List, [], ◌∷◌, ◌++◌, length, map, set, get_or, sym, ap, ◌∙◌, arith, Option, None, Some}
use Rattle.std.specs.Option.{option_map}
use Rattle.std.specs.List.{swap_remove}
use Rattle.std.proofs.lemmas.List.{get_or-set_same, length-map, length-set, length_push, map-set}
use Rattle.std.proofs.Math.Seq.{map-set_same}
use Rattle.open_transactions.specs.declared.open_transactions.OpenTransaction.{OpenTransaction}
use Rattle.open_transactions.specs.Transactions.{Row, has_row, count_open, changed}
use Rattle.open_transactions.specs.Index.{ended}
use Rattle.open_transactions.specs.InSlots.{slot_of, looked}
use Rattle.open_transactions.specs.Slots.{transaction_number, open_row, room_of, open_rows, rooms_of, AreSlots}
use Rattle.open_transactions.proofs.Looked.{at}
use Rattle.open_transactions.proofs.InSlots.{as-many, slot-inside, slot-shows, set-placed, set-shows, end-placed, end-shows, end-fewer, begin-placed, begin-shows}
use Rattle.open_transactions.proofs.Counts.{count-more, count-same, count-less}

-- a slot that shows the same row is put in its slot
pub rows-same : (slots : List OpenTransaction) (index : List ℕ) (k : ℕ) (old new : OpenTransaction) → old ≡ get_or slots k old → open_row new ≡ open_row old → open_rows (set slots k new) index ≡ open_rows slots index
rows-same slots index k old new old_is row_is =
    ap (λ held. looked None held index) (map-set_same (λ slot. Some (open_row slot)) slots k new old (ap Some (row_is ∙ ap open_row old_is)))

module _ (slots : List OpenTransaction) (index : List ℕ) (known : AreSlots slots index) (rows : List (Option Row)) (shown : open_rows slots index ≡ rows) where
  counted : count_open rows ≡ length slots
  counted = ap count_open (sym shown) ∙ known.counted

  module _ (t k : ℕ) (opened : has_row rows t ≡ true) (read : k ≡ slot_of ended index t) where
    -- the slot is written with the same number
    pub set-changes : (old new : OpenTransaction) (change : Row → Row) → old ≡ get_or slots k old → open_row new ≡ change (open_row old)
        → open_rows (set slots k new) index ≡ changed rows t change
    set-changes old new change old_is row_is =
        set-shows transaction_number open_row slots index known.placed rows shown t k ended opened read new
        ∙ ap (set rows t)
        (ap Some row_is ∙ ap (option_map change) (sym (slot-shows transaction_number open_row slots index known.placed rows shown t k ended opened read old old_is)))

    pub set-known : (old new : OpenTransaction) → old ≡ get_or slots k old → new.number ≡ old.number → AreSlots (set slots k new) index
    set-known old new old_is number_is = record {
      few = omega (arith, known.few, length-set slots k new);
      placed = set-placed transaction_number open_row slots index known.placed rows shown t k ended opened read old new old_is number_is;
      counted =
          ap count_open (set-shows transaction_number open_row slots index known.placed rows shown t k ended opened read new)
          ∙ count-same rows t (open_row new) opened ∙ counted ∙ sym (length-set slots k new);
      begun = known.begun;
    }

    -- the room of t is that of its slot
    pub set-room : (new : OpenTransaction) → get_or (rooms_of (set slots k new) index) t 0 ≡ room_of new
    set-room new =
        at ended 0 (map room_of (set slots k new)) index t (omega (arith, known.few, length-map (set slots k new) room_of, length-set slots k new))
        ∙ ap (λ s. get_or (map room_of (set slots k new)) s 0) (sym read)
        ∙ ap (λ rooms. get_or rooms k 0) (map-set room_of slots k new)
        ∙ get_or-set_same (map room_of slots) k (room_of new) 0
        (omega (arith, length-map slots room_of, slot-inside transaction_number open_row slots index known.placed rows shown t k ended opened read))

    -- t ends
    pub end-known : (len : ℕ) → len ≡ length slots → (moved : OpenTransaction) → moved ≡ get_or slots (len - 1) moved → (removed : OpenTransaction)
        → AreSlots (swap_remove slots k removed) (set (set index moved.number k) t ended)
    end-known len len_is moved moved_read removed =
        let shows = end-shows transaction_number open_row slots index known.placed rows shown t k ended opened read len len_is moved moved_read removed in
        let fewer = end-fewer transaction_number open_row slots index known.placed rows shown t k ended opened read len len_is moved moved_read removed in
        record {
          few = omega (arith, known.few, fewer);
          placed = end-placed transaction_number open_row slots index known.placed rows shown t k ended opened read len len_is moved moved_read removed;
          counted = omega (arith, ap count_open shows, count-less rows t opened, counted, fewer);
          begun = omega (arith, known.begun, length-set (set index moved.number k) t ended, length-set index moved.number k);
        }

  -- one more begins in slot k
  module _ (k : ℕ) (k_is : k ≡ length slots) (few : count_open rows < 65536) (fits : length rows < 4294967295) (new : OpenTransaction) where
    room : length slots < 65536
    room = omega (arith, counted)

    pub begin-shown : open_rows (slots ++ new ∷ []) (index ++ k ∷ []) ≡ rows ++ Some (open_row new) ∷ []
    begin-shown = begin-shows transaction_number open_row slots index known.placed rows shown k k_is (omega (arith, room)) new

    pub begin-known : new.number ≡ length index → AreSlots (slots ++ new ∷ []) (index ++ k ∷ [])
    begin-known number_is = record {
      few = omega (arith, room, length_push slots new);
      placed = begin-placed transaction_number open_row slots index known.placed rows shown k k_is (omega (arith, room)) new number_is;
      counted = ap count_open begin-shown ∙ count-more rows (open_row new) ∙ ap (λ n. n + 1) counted ∙ sym (length_push slots new);
      begun = omega (arith, as-many transaction_number open_row slots index known.placed rows shown, length_push index k);
    }
