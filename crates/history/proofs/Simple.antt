-- The rows that reserve nothing and commit nothing: a start, read, judge, and the header's note of open.
use Prim.Native.Nat.{ℕ, ◌+◌, ◌*◌, ◌/◌, ◌≤◌, ◌<◌}
use mathlib.Core.Path.{◌≡◌, refl, sym, ap, subst, ◌∙◌}
use mathlib.Core.Logic.{◌≢◌}
use mathlib.Core.Bool.{Bool, true, false}
use mathlib.Core.List.{List}
use native.Mathlib.Nat.{le_refl}
use native.Mathlib.Omega.{arith}
use lib.Dec.{T}
use lib.ListN.{length, set, length-set}
use lib.Seq.{get_or-set_same, get_or-set_other}
use Rattle.counts.specs.Position.{position}
use Rattle.layout.specs.Sizes.{header}
use Rattle.steps.specs.declared.producer.Producer.{Producer}
use Rattle.steps.specs.Producer.{starts, to_phase, with_w, with_full, with_done}
use Rattle.steps.specs.Step.{heading, slot, reading, judging, opening, writing, row_of}
use Rattle.history.specs.Log.{Piece, Work, no_piece, opened}
use Rattle.history.proofs.Chain.{did, chain_noted}
use Rattle.history.proofs.Coords.{part_in, is_entering}
use Rattle.history.proofs.Frame.{keeps_not_mine, frame, each_one, set_record, bare_keeps, idle_keeps}
use Rattle.history.proofs.Invariant.{says, Event, fit_in, May, Sized, Looked, HeadHeld, SlotHeld, PInv, Own, Core}
use Rattle.history.proofs.Jobs.{own_keeps, one_keeps}
use Rattle.history.proofs.Move.{calm, move}
use Rattle.history.proofs.Sums.{each_set, sum_same}
use Rattle.history.proofs.View.{Mark, View, at, work, mark, piece, with_mark, with_work, with_pieces, stepped}

-- ---- a start: an offer or a flush

-- where a producer starts: no byte seen, none reserved
abbrev pub start_at : (W event : ℕ) → Work
start_at W event = record { began = W; event = event; padding = 0; heading = 0; slot = 0 }

abbrev pub unseen : List ℕ → Mark
unseen bytes = record { saw = 0; v = 0; s = 0; bytes = bytes }

pub start_keeps : (v : View) (p z event : ℕ) (bytes : List ℕ) → p < v.P → ((z ≡ 0 → ⊥) → (header + z ≤ v.S) × (z ≡ length bytes)) → Core v →
    Core (stepped p (starts z) (with_mark p (unseen bytes) v.truth) (with_work p (start_at v.W event) v))
unfolding says row_of
start_keeps v p z event bytes lt h I =
    own_keeps v p (starts z) (start_at v.W event) (unseen bytes) lt I
    (bare_keeps v.S v.N p (starts z) (start_at v.W event) (unseen bytes) v.W v.truth.lo v.truth.C v.truth.Q v.pieces true false false true refl
    (λ u. ((λ ev. record { fits = (h ev).0; long = (h ev).1 }), le_refl _)) (λ u. absurd u) (λ u. absurd u) (λ u. refl))

module _ (v : View) (p : ℕ) (lt : p < v.P) (I : Core v) where
  mine : Own v p (at v p) (work v p) (mark v p)
  mine = I.prod p lt

  -- ---- read

  abbrev pub looking : Mark
  looking = record { saw = v.W; v = (mark v p).v; s = (mark v p).s; bytes = (mark v p).bytes }

  module _ (e : row_of (at v p).phase ≡ reading) where
    abbrev reads : ℕ → Producer
    reads ph = to_phase ph (with_w (position v.write) (at v p))

    begun : (work v p).began ≤ v.W
    unfolding says
    begun = mine.begun (rw e tt)

    none : (at v p).done ≡ 0
    unfolding says
    none = mine.none (rw e tt)

    sized : Event (at v p) → Sized v.S (at v p) (mark v p)
    unfolding says
    sized = mine.sized (rw e tt)

    -- it has looked at the write count
    saw : (q : Producer) → q.w ≡ position v.write → Looked q (work v p) looking v.W
    saw q w_is = record { w_is = ap (λ x. x.0) w_is ∙ I.rem.write; after = begun; before = le_refl _ }

    -- an event goes on to judge
    pub read_keeps : Core (stepped p (reads 2) (with_mark p looking v.truth) v)
    unfolding says row_of
    read_keeps =
        one_keeps v p (reads 2) looking lt I
        (bare_keeps v.S v.N p (reads 2) (work v p) looking v.W v.truth.lo v.truth.C v.truth.Q v.pieces true true false true refl (λ u. ((λ ev. let h = sized ev in record { fits = h.fits; long = h.long }), begun))
        (λ u. saw (reads 2) refl) (λ u. absurd u) (λ u. none))

    -- a flush to swap
    pub read_flush_keeps : (at v p).z ≡ 0 → Core (stepped p (reads 3) (with_mark p looking v.truth) v)
    unfolding says row_of
    read_flush_keeps fl =
        one_keeps v p (reads 3) looking lt I
        (bare_keeps v.S v.N p (reads 3) (work v p) looking v.W v.truth.lo v.truth.C v.truth.Q v.pieces true true true true refl (λ u. ((λ ev. absurd (ev fl)), begun)) (λ u. saw (reads 3) refl) (λ u ev. absurd (ev fl)) (λ u. none))

    -- .. or, where there is nothing to close, to its end
    pub read_end_keeps : Core (stepped p (reads 0) (with_mark p looking v.truth) v)
    unfolding says row_of
    read_end_keeps =
        one_keeps v p (reads 0) looking lt I
        (idle_keeps v.S v.N p (reads 0) (work v p) looking v.W v.truth.lo v.truth.C v.truth.Q v.pieces refl)

  -- ---- judge: for whichever test, what it says when it finds room

  pub judge_keeps : row_of (at v p).phase ≡ judging → (b : Bool) →
      (b ≡ false → is_entering (fit_in v.S (at v p) (mark v p)) ≡ true → May v.N v.truth.lo (part_in (fit_in v.S (at v p) (mark v p)) v.S (mark v p).saw)) →
      Core (stepped p (to_phase 3 (with_full b (at v p))) (with_mark p (mark v p) v.truth) v)
  unfolding says row_of
  judge_keeps e b room =
      one_keeps v p (to_phase 3 (with_full b (at v p))) (mark v p) lt I
      (bare_keeps v.S v.N p (to_phase 3 (with_full b (at v p))) (work v p) (mark v p) v.W v.truth.lo v.truth.C v.truth.Q v.pieces true true true true refl
      (λ u. ((λ ev. let h = mine.sized (rw e tt) ev in record { fits = h.fits; long = h.long }), mine.begun (rw e tt)))
      (λ u. let h = mine.looks (rw e tt) in record { w_is = h.w_is; after = h.after; before = h.before })
      (λ u ev. room)
      (λ u. mine.none (rw e tt)))

  -- ---- write: d bytes now stand

  wrote : row_of (at v p).phase ≡ writing → (d : ℕ) → d ≤ (at v p).z →
      Own v p (with_done d (at v p)) (work v p) (mark v p)
  unfolding says
  wrote e d le =
      record {
        sized = λ u ev. let h = mine.sized u ev in record { fits = h.fits; long = h.long };
        begun = mine.begun;
        looks = λ u. let h = mine.looks u in record { w_is = h.w_is; after = h.after; before = h.before };
        roomy = mine.roomy;
        shuts = λ u. let h = mine.shuts u in record { past = h.past; closes = h.closes };
        pads = mine.pads;
        heads = λ u ev. let h = mine.heads u ev in record { enters = h.enters; inlog = h.inlog; entry = h.entry };
        slots = λ u ev. let h = mine.slots u ev in record { inlog = h.inlog; entry = h.entry; part = le };
        raises = λ u. let h = mine.raises u in record { v_is = h.v_is; v_le = h.v_le; v_low = h.v_low };
        sets = λ u. let h = mine.sets u in record { s_is = h.s_is; s_le = h.s_le; s_lt = h.s_lt; s_near = h.s_near };
        none = λ u. absurd (subst (λ x. T (says x).first) e u);
        all = λ u. absurd (subst (λ x. T (says x).whole) e u);
      }

  -- and p goes on at phase ph
  pub write_keeps : row_of (at v p).phase ≡ writing → (ph d : ℕ) → d ≤ (at v p).z → T (calm (says (row_of ph)) (says writing)) →
      (T (says (row_of ph)).raising → ⊥) → (T (says (row_of ph)).setting → ⊥) → (T (says (row_of ph)).whole → d ≡ (at v p).z) →
      Core (stepped p (to_phase ph (with_done d (at v p))) (with_mark p (mark v p) v.truth) v)
  write_keeps e ph d le u a b c =
      one_keeps v p (to_phase ph (with_done d (at v p))) (mark v p) lt I
      (move v.S v.N p (with_done d (at v p)) (work v p) (mark v p) v.W v.truth.lo v.truth.C v.truth.Q v.pieces ph (at v p).v (at v p).s
      (mark v p).v (mark v p).s (subst (λ x. T (calm (says (row_of ph)) (says x))) (sym e) u) (λ x. absurd (a x)) (λ x. absurd (b x)) c (wrote e d le))

  -- ---- open: the header of its part notes the lost count

  module _ (e : row_of (at v p).phase ≡ opening) (ev : Event (at v p)) (n : ℕ) where
    H : HeadHeld v.S p (at v p) (work v p) (mark v p) v.pieces
    unfolding says
    H = mine.heads (rw e tt) ev

    abbrev j : ℕ
    j = (work v p).heading

    abbrev pieces' : List Piece
    pieces' = set v.pieces j (opened n (piece v j))

    Z : SlotHeld v.S p (at v p) (work v p) (mark v p) v.pieces
    unfolding says
    Z = mine.slots (rw e tt) ev

    -- the slot is another piece
    other_piece : (work v p).slot ≢ j
    other_piece x = slot_not_head (sym (ap (λ y. y.whose) Z.entry) ∙ ap (λ y. (piece v y).whose) x ∙ ap (λ y. y.whose) H.entry)
      where
        slot_not_head : slot ≡ heading → ⊥
        slot_not_head c = let z : ◌≡◌ {A = ℕ} 0 1 = cc in omega arith

    framed : (o : ℕ) → o < v.P → o ≢ p → PInv v.S v.N o (at v o) (work v o) (mark v o) v.W v.truth.lo v.truth.C v.truth.Q pieces'
    framed o h ne =
        frame v.S v.N o (at v o) (work v o) (mark v o) v.W v.truth.lo v.W v.truth.lo v.truth.C v.truth.Q v.truth.C v.truth.Q v.pieces pieces'
        (le_refl _) (le_refl _) (λ x. le_refl _) (λ x. le_refl _) (λ x y. keeps_not_mine p o v.pieces j _ ne (ap (λ y. y.producer) H.entry) x) (I.prod o h)

    own : PInv v.S v.N p (to_phase 10 (at v p)) (work v p) (mark v p) v.W v.truth.lo v.truth.C v.truth.Q pieces'
    unfolding says row_of
    own =
        record {
          sized = λ u x. let h = mine.sized (rw e tt) x in record { fits = h.fits; long = h.long };
          begun = λ u. mine.begun (rw e tt);
          looks = λ u. let h = mine.looks (rw e tt) in record { w_is = h.w_is; after = h.after; before = h.before };
          roomy = λ u. absurd u;
          shuts = λ u. absurd u;
          pads = λ u. absurd u;
          heads = λ u x.
              let is = get_or-set_same v.pieces j (opened n (piece v j)) no_piece H.inlog in
              record { enters = H.enters; inlog = rw length-set H.inlog; entry = rw is (ap (λ y. opened n y) H.entry) };
          slots = λ u x. record { inlog = rw length-set Z.inlog; entry = get_or-set_other v.pieces j (work v p).slot _ no_piece other_piece ∙ Z.entry; part = Z.part };
          raises = λ u. absurd u;
          sets = λ u. absurd u;
          none = λ u. mine.none (rw e tt);
          all = λ u. absurd u;
        }

    pub open_keeps : Core (stepped p (to_phase 10 (at v p)) v.truth (with_pieces pieces' v))
    unfolding did
    open_keeps =
        record {
          shape = I.shape;
          lens = set_record I.lens p (to_phase 10 (at v p));
          rem = I.rem;
          span = I.span;
          chain = chain_noted v.S v.start v.pieces v.W j n (piece v j).committed I.chain;
          win = λ k lo hi. I.win k lo hi ∙ ap (λ y. v.S * (k / v.N) + y) (sym (sum_same (did k) v.pieces j (opened n (piece v j)) no_piece H.inlog refl));
          seqs = I.seqs;
          prod = each_one v.P v.producer v.works v.truth.marks p
              (λ o q k t. PInv v.S v.N o q k t v.W v.truth.lo v.truth.C v.truth.Q pieces')
              (omega (arith, I.lens.producer, I.shape.producers_high)) (to_phase 10 (at v p)) own framed;
          old = each_set v.pieces j (opened n (piece v j)) no_piece (λ x r. r.part < v.truth.lo → r.committed ≡ true) (λ h. I.old j h) (λ x h ne. I.old x h);
        }
