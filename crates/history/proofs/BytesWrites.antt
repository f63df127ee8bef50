-- The rows that write bytes: close, open, write and end.
use Prim.Native.Nat.{ℕ, ◌+◌, ◌-◌, ◌*◌, ◌%◌, ◌≤◌, ◌<◌}
use mathlib.Core.Path.{◌≡◌, refl, sym, ap, ◌∙◌}
use mathlib.Core.Logic.{◌≢◌}
use mathlib.Core.Bool.{true, false, false≢true}
use mathlib.Core.List.{List}
use native.Mathlib.Nat.{le_refl, mul-le-mul_right}
use native.Mathlib.Decide.{dec_lt}
use native.Mathlib.Omega.{arith}
use lib.ListN.{length, get_or, set, take, drop, length-drop}
use lib.Seq.{length-take-le, get_or-take, get_or-drop, get_or-set_same, get_or-set_other}
use Rattle.layout.specs.Bytes.{le2}
use Rattle.layout.specs.Header.{mark_of}
use Rattle.layout.specs.Sizes.{header}
use Rattle.steps.specs.Bytes.{put}
use Rattle.steps.specs.Producer.{nobody, to_phase, with_done}
use Rattle.steps.specs.Step.{padding, heading, slot, add, closing as shutting, opening, writing, ending, committing, row_of}
use Rattle.history.specs.Log.{Piece, no_piece, opened}
use Rattle.history.proofs.Bytes.{SlotStands, Last, Whole, PBytes, Bytes, Claim, of_slot, of_used, of_mark, of_rest, head_rest, header_long, slot_low}
use Rattle.history.proofs.BytesFrame.{pad_last}
use Rattle.history.proofs.BytesRows.{frame_bytes, BytesOf, Except, except, with_own, run-bytes, run_stands, run_own}
use Rattle.history.proofs.Chain.{Fine, chain_fine}
use Rattle.history.proofs.Frame.{keeps_not_mine}
use Rattle.history.proofs.Invariant.{says, Event, PadHeld, HeadHeld, SlotHeld, Own, Core}
use Rattle.history.proofs.Memory.{Stands, before, behind}
use Rattle.history.proofs.Sums.{each_of, each_set}
use Rattle.history.proofs.View.{View, at, work, mark, piece}

-- nothing stands of no bytes
pub none_stand : (S N : ℕ) (mem : List ℕ) (k o : ℕ) (bytes : List ℕ) (n : ℕ) → n ≡ 0 → Stands S N mem k o bytes n
unfolding Stands
none_stand S N mem k o bytes n e i h = absurd (omega arith)

-- one run behind another
further : (S N : ℕ) (mem : List ℕ) (k o : ℕ) (bytes vs : List ℕ) (d n : ℕ) → ((i : ℕ) → i < n → get_or vs i 0 ≡ get_or bytes (d + i) 0) →
    Stands S N mem k o bytes d → Stands S N mem k (o + d) vs n → Stands S N mem k o bytes (d + n)
unfolding Stands
further S N mem k o bytes vs d n same front back i h = go (dec_lt i d)
  where
    go : Dec (i < d) → get_or mem ((k * S + (o + i)) % (S * N)) 0 ≡ get_or bytes i 0
    go (yes c) = front i c
    go (no c) =
        let e : o + d + (i - d) ≡ o + i = omega arith in
        let f : d + (i - d) ≡ i = omega arith in
        ap (λ y. get_or mem ((k * S + y) % (S * N)) 0) (sym e) ∙ back (i - d) (omega arith) ∙ same (i - d) (omega arith) ∙ ap (λ y. get_or bytes y 0) f

module _ (v : View) (I : Core v) (mem desks : List ℕ) (b : ℕ → List ℕ) (x : BytesOf v mem desks b) (p : ℕ) (lt : p < v.P) where
  mine : Own v p (at v p) (work v p) (mark v p)
  mine = I.prod p lt

  wrote : PBytes v.S v.N p (at v p) (work v p) v.pieces mem desks (b p)
  wrote = x.prod p lt

  fine : (i : ℕ) → i < length v.pieces → Fine v.S (piece v i)
  fine i h = chain_fine v.S v.start v.pieces v.W i I.chain h

  -- ---- close: the used size of the part that is left

  module _ (e : row_of (at v p).phase ≡ shutting) where
    H : PadHeld v.S p (work v p) (mark v p) v.pieces
    unfolding says
    H = mine.pads (rw e tt)

    abbrev pad : Piece
    pad = piece v (work v p).padding

    abbrev closed : List ℕ
    closed = put mem (pad.part % v.N * v.S + 6) 2 (le2 pad.offset)

    pub close_bytes : Bytes v.S v.N v.P (set v.producer p (to_phase 5 (at v p))) v.works v.pieces v.truth.lo closed desks b
    unfolding says row_of
    close_bytes =
        with_own v I p (to_phase 5 (at v p)) closed desks b lt (run-bytes v I mem desks b p j H.inlog who isopen 6 2 (le2 pad.offset) refl claim ex)
        (record {
          closed = λ _. rw is_pad (run_stands v I mem desks b p j H.inlog who isopen 6 2 (le2 pad.offset) refl claim ex);
          opened = λ c. absurd (no_row c);
          written = λ u ev. none_stand v.S v.N closed _ _ _ _ (mine.none (rw e tt));
          ended = λ c. absurd (no_row' c);
          desk = λ u. wrote.desk (rw e tt);
        })
      where
        j : ℕ
        j = (work v p).padding

        who : pad.producer ≡ p
        who = ap (λ y. y.producer) H.entry

        isopen : pad.committed ≡ false
        isopen = ap (λ y. y.committed) H.entry

        is_pad : pad.whose ≡ padding
        is_pad = ap (λ y. y.whose) H.entry

        claim : Claim v.S pad 6 2
        claim = of_used (pad_last v.S pad is_pad (fine j H.inlog)) refl refl

        ex : Except v p mem desks b
        ex = except v p mem desks b x

        no_row : committing padding add ≡ committing heading add → ⊥
        no_row c = let z : ◌≡◌ {A = ℕ} 0 1 = cc in omega arith

        no_row' : committing padding add ≡ committing slot add → ⊥
        no_row' c = let z : ◌≡◌ {A = ℕ} 0 1 = cc in omega arith

  -- ---- write: the next n bytes of the record, from desk to slot

  module _ (e : row_of (at v p).phase ≡ writing) (ev : Event (at v p)) (n : ℕ) (room : (at v p).done + n ≤ (at v p).z) (same : b p ≡ (mark v p).bytes) where
    Z : SlotHeld v.S p (at v p) (work v p) (mark v p) v.pieces
    unfolding says
    Z = mine.slots (rw e tt) ev

    abbrev rec : Piece
    rec = piece v (work v p).slot

    abbrev vs : List ℕ
    vs = take n (drop (p * v.S + (at v p).done) desks)

    abbrev slotted : List ℕ
    slotted = put mem (rec.part % v.N * v.S + (rec.offset + (at v p).done)) n vs

    sized : header + (at v p).z ≤ v.S
    unfolding says
    sized = (mine.sized (rw e tt) ev).fits

    size_is : rec.size ≡ (at v p).z
    unfolding says
    size_is = ap (λ y. y.size) Z.entry ∙ sym (mine.sized (rw e tt) ev).long

    desk_room : p * v.S + (at v p).done + n ≤ length desks
    desk_room = omega (arith, x.desks_long, mul-le-mul_right v.S lt, sized)

    vs_long : length vs ≡ n
    vs_long = length-take-le n (drop (p * v.S + (at v p).done) desks) (rw (length-drop (p * v.S + (at v p).done) desks) (omega (arith, desk_room)))

    vs_at : (i : ℕ) → i < n → get_or vs i 0 ≡ get_or rec.bytes ((at v p).done + i) 0
    unfolding says
    vs_at i h =
        get_or-take n (drop (p * v.S + (at v p).done) desks) i 0 h
        ∙ get_or-drop (p * v.S + (at v p).done) desks i 0
        ∙ ap (λ y. get_or desks y 0) (omega arith)
        ∙ wrote.desk (rw e tt) ev ((at v p).done + i) (omega arith)
        ∙ ap (λ (l : List ℕ). get_or l ((at v p).done + i) 0) (same ∙ sym (ap (λ y. y.bytes) Z.entry))

    is-slot : rec.whose ≡ slot
    is-slot = ap (λ y. y.whose) Z.entry

    claim : Claim v.S rec (rec.offset + (at v p).done) n
    claim = of_slot is-slot (omega arith) (omega (arith, size_is))

    who : rec.producer ≡ p
    who = ap (λ y. y.producer) Z.entry

    isopen : rec.committed ≡ false
    isopen = ap (λ y. y.committed) Z.entry

    ex : Except v p mem desks b
    ex = except v p mem desks b x

    stands : SlotStands v.S v.N slotted rec ((at v p).done + n)
    unfolding says
    stands =
        further v.S v.N slotted rec.part rec.offset rec.bytes vs (at v p).done n vs_at
        (run_own v I mem desks b p (work v p).slot Z.inlog who isopen (rec.offset + (at v p).done) n vs vs_long claim ex rec.offset (at v p).done rec.bytes
        (omega (arith, (fine (work v p).slot Z.inlog).inside, size_is)) (behind (le_refl _)) (wrote.written (rw e tt) ev))
        (run_stands v I mem desks b p (work v p).slot Z.inlog who isopen (rec.offset + (at v p).done) n vs vs_long claim ex)

    -- p goes on at phase ph, which asks for no other bytes
    pub slot_bytes : (ph : ℕ) → (row_of ph ≡ committing padding add → ⊥) → (row_of ph ≡ committing heading add → ⊥) → (row_of ph ≡ committing slot add → Last v.S rec → ⊥) →
        Bytes v.S v.N v.P (set v.producer p (to_phase ph (with_done ((at v p).done + n) (at v p)))) v.works v.pieces v.truth.lo slotted desks b
    unfolding says
    slot_bytes ph c d f =
        with_own v I p (to_phase ph (with_done ((at v p).done + n) (at v p))) slotted desks b lt
        (run-bytes v I mem desks b p (work v p).slot Z.inlog who isopen (rec.offset + (at v p).done) n vs vs_long claim ex)
        (record {
          closed = λ y. absurd (c y);
          opened = λ y. absurd (d y);
          written = λ u y. stands;
          ended = λ y z l. absurd (f y l);
          desk = λ u. wrote.desk (rw e tt);
        })

  -- ---- end: the used size of a part that is exactly full

  module _ (e : row_of (at v p).phase ≡ ending) (ev : Event (at v p)) (last : Last v.S (piece v (work v p).slot)) where
    Y : SlotHeld v.S p (at v p) (work v p) (mark v p) v.pieces
    unfolding says
    Y = mine.slots (rw e tt) ev

    abbrev full : Piece
    full = piece v (work v p).slot

    abbrev ended : List ℕ
    ended = put mem (full.part % v.N * v.S + 6) 2 (le2 v.S)

    pub end_bytes : Bytes v.S v.N v.P (set v.producer p (to_phase 16 (at v p))) v.works v.pieces v.truth.lo ended desks b
    unfolding says row_of
    end_bytes =
        with_own v I p (to_phase 16 (at v p)) ended desks b lt (run-bytes v I mem desks b p j Y.inlog who isopen 6 2 (le2 v.S) refl claim ex)
        (record {
          closed = λ c. absurd (no_row c);
          opened = λ c. absurd (no_row' c);
          written = λ u y.
              run_own v I mem desks b p j Y.inlog who isopen 6 2 (le2 v.S) refl claim ex full.offset (at v p).done full.bytes
              (omega (arith, (fine j Y.inlog).inside, size_is, Y.part)) (before (omega (arith, slot_low v.S full is-slot (fine j Y.inlog), header_long))) (wrote.written (rw e tt) ev);
          ended = λ c y l. rw is-slot (run_stands v I mem desks b p j Y.inlog who isopen 6 2 (le2 v.S) refl claim ex);
          desk = λ u. wrote.desk (rw e tt);
        })
      where
        j : ℕ
        j = (work v p).slot

        who : full.producer ≡ p
        who = ap (λ y. y.producer) Y.entry

        isopen : full.committed ≡ false
        isopen = ap (λ y. y.committed) Y.entry

        is-slot : full.whose ≡ slot
        is-slot = ap (λ y. y.whose) Y.entry

        size_is : full.size ≡ (at v p).z
        size_is = ap (λ y. y.size) Y.entry ∙ sym (mine.sized (rw e tt) ev).long

        claim : Claim v.S full 6 2
        claim = of_used last refl refl

        ex : Except v p mem desks b
        ex = except v p mem desks b x

        no_row : committing slot add ≡ committing padding add → ⊥
        no_row c = let z : ◌≡◌ {A = ℕ} 0 1 = cc in omega arith

        no_row' : committing slot add ≡ committing heading add → ⊥
        no_row' c = let z : ◌≡◌ {A = ℕ} 0 1 = cc in omega arith

  -- ---- open: the header of the part that is entered, all but its used size; its piece notes the lost count

  module _ (e : row_of (at v p).phase ≡ opening) (ev : Event (at v p)) (n : ℕ) where
    X : HeadHeld v.S p (at v p) (work v p) (mark v p) v.pieces
    unfolding says
    X = mine.heads (rw e tt) ev

    abbrev j : ℕ
    j = (work v p).heading

    abbrev head : Piece
    head = piece v j

    abbrev marked : List ℕ
    marked = put mem (head.part % v.N * v.S + 0) 6 mark_of

    abbrev headed : List ℕ
    headed = put marked (head.part % v.N * v.S + 8) 8 (head_rest v.S head.part n)

    abbrev pieces' : List Piece
    pieces' = set v.pieces j (opened n head)

    is_head : head.whose ≡ heading
    is_head = ap (λ y. y.whose) X.entry

    whose_p : head.producer ≡ p
    whose_p = ap (λ y. y.producer) X.entry

    still_open : head.committed ≡ false
    still_open = ap (λ y. y.committed) X.entry

    mark_claim : Claim v.S head 0 6
    mark_claim = of_mark is_head refl refl

    rest_claim : Claim v.S head 8 8
    rest_claim = of_rest is_head refl refl

    ex₀ : Except v p mem desks b
    ex₀ = except v p mem desks b x

    ex₁ : Except v p marked desks b
    ex₁ = run-bytes v I mem desks b p j X.inlog whose_p still_open 0 6 mark_of refl mark_claim ex₀

    ex₂ : Except v p headed desks b
    ex₂ = run-bytes v I marked desks b p j X.inlog whose_p still_open 8 8 (head_rest v.S head.part n) refl rest_claim ex₁

    -- the slot is another piece
    other_piece : (work v p).slot ≢ j
    unfolding says
    other_piece c = slot_not_head (sym (ap (λ y. y.whose) (mine.slots (rw e tt) ev).entry) ∙ ap (λ y. (piece v y).whose) c ∙ is_head)
      where
        slot_not_head : slot ≡ heading → ⊥
        slot_not_head c = let z : ◌≡◌ {A = ℕ} 0 1 = cc in omega arith

    own : PBytes v.S v.N p (to_phase 10 (at v p)) (work v p) pieces' headed desks (b p)
    unfolding says row_of
    own =
        record {
          closed = λ c. absurd (no_row c);
          opened = λ c y.
              rw (get_or-set_same v.pieces j (opened n head) no_piece X.inlog)
              (record {
                mark = run_own v I marked desks b p j X.inlog whose_p still_open 8 8 (head_rest v.S head.part n) refl rest_claim ex₁ 0 6 mark_of (omega (arith, I.shape.size_low)) (behind (omega arith))
                    (run_stands v I mem desks b p j X.inlog whose_p still_open 0 6 mark_of refl mark_claim ex₀);
                rest = run_stands v I marked desks b p j X.inlog whose_p still_open 8 8 (head_rest v.S head.part n) refl rest_claim ex₁;
              });
          written = λ u y. none_stand v.S v.N headed _ _ _ _ (mine.none (rw e tt));
          ended = λ c. absurd (no_row' c);
          desk = λ u. wrote.desk (rw e tt);
        }
      where
        no_row : committing heading add ≡ committing padding add → ⊥
        no_row c = let z : ◌≡◌ {A = ℕ} 0 1 = cc in omega arith

        no_row' : committing heading add ≡ committing slot add → ⊥
        no_row' c = let z : ◌≡◌ {A = ℕ} 0 1 = cc in omega arith

    pub open_bytes : Bytes v.S v.N v.P (set v.producer p (to_phase 10 (at v p))) v.works pieces' v.truth.lo headed desks b
    open_bytes =
        record {
          mem_long = ex₂.mem_long;
          desks_long = ex₂.desks_long;
          whole = each_set v.pieces j (opened n head) no_piece (λ i y. y.committed ≡ true → v.truth.lo ≤ y.part → Whole v.S v.N headed y)
              (λ h c. absurd (false≢true (sym still_open ∙ c)))
              (λ i h ne. ex₂.whole i h);
          prod = each_of p (λ o. o < v.P → PBytes v.S v.N o (get_or (set v.producer p (to_phase 10 (at v p))) o nobody) (work v o) pieces' headed desks (b o))
              (λ h. rw (get_or-set_same v.producer p (to_phase 10 (at v p)) nobody (omega (arith, I.lens.producer, I.shape.producers_high))) own)
              (λ o ne h.
              rw (get_or-set_other v.producer p o (to_phase 10 (at v p)) nobody ne)
              (frame_bytes v.S v.N o (at v o) (work v o) (mark v o) v.W v.truth.lo v.truth.C v.truth.Q v.pieces pieces' headed desks (b o)
              (λ y m. keeps_not_mine p o v.pieces j _ ne whose_p y) (I.prod o h) (ex₂.others o h ne)));
        }
