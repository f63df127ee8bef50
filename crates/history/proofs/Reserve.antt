-- A swap that stores: pieces are reserved behind all others.
use Prim.Native.Nat.{ℕ, zero, suc, ◌+◌, ◌*◌, ◌/◌, ◌%◌, ◌≤◌, ◌<◌}
use mathlib.Core.Path.{◌≡◌, refl, sym}
use mathlib.Core.Bool.{true, false, true≢false}
use mathlib.Core.List.{List, [], ◌∷◌, ◌++◌}
use native.Mathlib.Nat.{div-add-mod', mod-lt, le_refl}
use native.Mathlib.Omega.{arith}
use lib.ListN.{length, get_or, length-append}
use lib.Seq.{get_or-append_seam}
use Rattle.counts.specs.Place.{Fit, entering, inside, closing}
use Rattle.counts.specs.PlaceLaws.{FitIs}
use Rattle.counts.specs.Wrap.{word}
use Rattle.layout.specs.Sizes.{header}
use Rattle.steps.specs.declared.producer.Producer.{Producer}
use Rattle.history.specs.Lists.{sum_by}
use Rattle.history.specs.Log.{Piece, Work, no_piece, pad_piece, head_piece, slot_piece, pieces, placing, sizes}
use Rattle.history.proofs.Chain.{Shape, Chain, did, did_open, chain_append}
use Rattle.history.proofs.Coords.{part_in, off_in, skip, is_entering}
use Rattle.history.proofs.Frame.{keeps_append, frame, each_three, set_record, set_work, set_mark}
use Rattle.history.proofs.Geometry.{s_pos, part_low}
use Rattle.history.proofs.Invariant.{PInv, Core}
use Rattle.history.proofs.Sums.{sum_append, each_append, at_one, at_two}
use Rattle.history.proofs.View.{Mark, View, at, work, mark, with_mark, with_work, with_pieces, with_write, stepped}

-- ---- any pieces

-- none is committed, and each lies where the write count is or later
abbrev pub Open : (S W : ℕ) → List Piece → Type 0
Open S W ps = (i : ℕ) → i < length ps → ((get_or ps i no_piece).committed ≡ false) × (W / S ≤ (get_or ps i no_piece).part)

open_did : (S W : ℕ) (ps : List Piece) (k : ℕ) → Open S W ps → sum_by (did k) ps ≡ 0
unfolding sum_by
open_did S W [] k h = refl
open_did S W (x ∷ xs) k h = omega (arith, did_open k x (h 0 (omega arith)).0, open_did S W xs k (λ i lt. h (suc i) (omega arith)))

module _ (v : View) (p : ℕ) (lt : p < v.P) (I : Core v) (ps : List Piece) (write W' : ℕ) (q : Producer) (k : Work) (t : Mark)
    (chained : Chain v.S v.W ps W') (fresh : Open v.S v.W ps) (up : v.W ≤ W') (high : W' ≤ v.truth.lo * v.S + v.S * v.N)
    (past_head : 0 < W' % v.S → header < W' % v.S) (write-is : write ≡ W' % word)
    (own : PInv v.S v.N p q k t W' v.truth.lo v.truth.C v.truth.Q (v.pieces ++ ps)) where
  pub reserve_keeps : Core (stepped p q (with_mark p t v.truth) (with_work p k (with_pieces (v.pieces ++ ps) (with_write write W' v))))
  reserve_keeps =
      record {
        shape = I.shape;
        lens = set_record (set_work (set_mark I.lens p t) p k) p q;
        rem = record { write = write-is; read = I.rem.read; commit = I.rem.commit; seq = I.rem.seq };
        span = record { first = I.span.first; low = omega (arith, I.span.low, up); high = high; past_head = past_head };
        chain = chain_append v.S v.start v.pieces v.W ps W' I.chain chained;
        win = λ j lo hi. rw (sum_append (did j) v.pieces ps) (omega (arith, I.win j lo hi, open_did v.S v.W ps j fresh));
        seqs = I.seqs;
        prod = each_three v.P v.producer v.works v.truth.marks p
            (λ o q k t. PInv v.S v.N o q k t W' v.truth.lo v.truth.C v.truth.Q (v.pieces ++ ps))
            (omega (arith, I.lens.producer, I.shape.producers_high)) q k t (omega (arith, I.lens.works, I.shape.producers_high))
            (omega (arith, I.lens.marks, I.shape.producers_high)) own
            (λ o h ne.
            frame v.S v.N o (at v o) (work v o) (mark v o) v.W v.truth.lo W' v.truth.lo v.truth.C v.truth.Q v.truth.C v.truth.Q v.pieces
            (v.pieces ++ ps) up (le_refl _) (λ x. le_refl _) (λ x. le_refl _) (λ x y. keeps_append o v.pieces ps x) (I.prod o h));
        old = each_append v.pieces ps no_piece (λ j r. r.part < v.truth.lo → r.committed ≡ true) I.old
            (λ i h c. absurd (omega (arith, (fresh i h).1, part_low v.S v.truth.lo v.W (s_pos I.shape) I.span.low)));
      }

-- ---- the pieces of an event

module _ (S : ℕ) (S_pos : 0 < S) (p event : ℕ) (bytes : List ℕ) where
  pub pieces_chain : (f : Fit) (W : ℕ) → FitIs f (W % S) (length bytes) S → header + length bytes ≤ S → 0 < length bytes → 0 < header → (0 < W % S → header < W % S) →
      Chain S W (pieces f p W S event bytes) (W + (skip f S (W % S) + length bytes))
  unfolding Chain Shape pieces skip FitIs
  pieces_chain inside W h a b c g = (omega (arith, div-add-mod' W S), h.1, b, (omega (arith, g h.0), refl), omega arith)
  pieces_chain entering W h a b c g = (
    omega (arith, div-add-mod' W S),
    omega arith,
    c,
    (refl, refl),
    (omega (arith, div-add-mod' W S), a, b, (le_refl _, refl), omega arith),
  )
  pieces_chain closing W h a b c g = (
    omega (arith, div-add-mod' W S),
    omega (arith, mod-lt W S_pos),
    omega (arith, mod-lt W S_pos),
    (g h.0, omega (arith, mod-lt W S_pos)),
    (
      omega (arith, div-add-mod' W S, mod-lt W S_pos),
      omega arith,
      c,
      (refl, refl),
      (omega (arith, div-add-mod' W S, mod-lt W S_pos), a, b, (le_refl _, refl), omega arith),
    ),
  )

  pub pieces_open : (f : Fit) (W : ℕ) → Open S W (pieces f p W S event bytes)
  unfolding pieces
  pieces_open inside W zero h = (refl, le_refl _)
  pieces_open inside W (suc i) h = absurd (omega arith)
  pieces_open entering W zero h = (refl, le_refl _)
  pieces_open entering W (suc zero) h = (refl, le_refl _)
  pieces_open entering W (suc (suc i)) h = absurd (omega arith)
  pieces_open closing W zero h = (refl, le_refl _)
  pieces_open closing W (suc zero) h = (refl, omega arith)
  pieces_open closing W (suc (suc zero)) h = (refl, omega arith)
  pieces_open closing W (suc (suc (suc i))) h = absurd (omega arith)

  -- the bytes that they take
  pub pieces_size : (f : Fit) (W : ℕ) → sizes (pieces f p W S event bytes) ≡ skip f S (W % S) + length bytes
  unfolding pieces skip sum_by
  pieces_size inside W = omega arith
  pieces_size entering W = omega arith
  pieces_size closing W = omega arith

  -- where each is
  pub slot_there : (f : Fit) (W : ℕ) (l : List Piece) (k : Work) →
      ((placing f (length l) k).slot < length (l ++ pieces f p W S event bytes))
      × (get_or (l ++ pieces f p W S event bytes) (placing f (length l) k).slot no_piece ≡ slot_piece p (part_in f S W) (off_in f S W) event bytes)
  unfolding pieces placing part_in off_in
  slot_there inside W l k = (omega (arith, length-append l (slot_piece p (W / S) (W % S) event bytes ∷ [])), get_or-append_seam l _ [] no_piece)
  slot_there entering W l k = (
    omega (arith, length-append l (head_piece p (W / S) ∷ slot_piece p (W / S) header event bytes ∷ [])),
    at_one l _ no_piece,
  )
  slot_there closing W l k = (
    omega (arith, length-append l (pad_piece p (W / S) (W % S) S ∷ head_piece p (suc (W / S)) ∷ slot_piece p (suc (W / S)) header event bytes ∷ [])),
    at_two l _ no_piece,
  )

  pub head_there : (f : Fit) (W : ℕ) (l : List Piece) (k : Work) → is_entering f ≡ true →
      ((placing f (length l) k).heading < length (l ++ pieces f p W S event bytes))
      × (get_or (l ++ pieces f p W S event bytes) (placing f (length l) k).heading no_piece ≡ head_piece p (part_in f S W))
  unfolding pieces placing part_in
  head_there inside W l k e = absurd (true≢false (sym e))
  head_there entering W l k e = (
    omega (arith, length-append l (head_piece p (W / S) ∷ slot_piece p (W / S) header event bytes ∷ [])),
    get_or-append_seam l _ _ no_piece,
  )
  head_there closing W l k e = (
    omega (arith, length-append l (pad_piece p (W / S) (W % S) S ∷ head_piece p (suc (W / S)) ∷ slot_piece p (suc (W / S)) header event bytes ∷ [])),
    at_one l _ no_piece,
  )

  pub pad_there : (f : Fit) (W : ℕ) (l : List Piece) (k : Work) → f ≡ closing →
      ((placing f (length l) k).padding < length (l ++ pieces f p W S event bytes))
      × (get_or (l ++ pieces f p W S event bytes) (placing f (length l) k).padding no_piece ≡ pad_piece p (W / S) (W % S) S)
  unfolding pieces placing
  pad_there f W l k e =
      rw e (
        omega (arith, length-append l (pad_piece p (W / S) (W % S) S ∷ head_piece p (suc (W / S)) ∷ slot_piece p (suc (W / S)) header event bytes ∷ [])),
        get_or-append_seam l _ _ no_piece,
      )
