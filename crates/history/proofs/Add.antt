-- The first step of a commit: a piece is committed.
use Prim.Native.Nat.{ℕ, ◌+◌, ◌*◌, ◌/◌, ◌%◌, ◌≤◌, ◌<◌}
use mathlib.Core.Path.{◌≡◌, refl, sym, ap, ◌∙◌}
use mathlib.Core.Logic.{◌≢◌}
use mathlib.Core.Bool.{true, false, false≢true}
use mathlib.Core.List.{List}
use native.Mathlib.Nat.{mod-lt, le_refl, le_trans, mul-le-mul_right}
use native.Mathlib.Decide.{dec_lt, ℕ_discrete}
use native.Mathlib.Omega.{arith}
use lib.Dec.{T}
use lib.ListN.{length, get_or, set}
use lib.Seq.{get_or-set_same, get_or-set_other}
use Rattle.counts.specs.Commit.{commit, on_of}
use Rattle.counts.specs.Wrap.{add32}
use Rattle.steps.specs.declared.producer.Producer.{Producer}
use Rattle.steps.specs.Step.{row_of}
use Rattle.history.specs.Lists.{sum_by}
use Rattle.history.specs.Log.{Piece, no_piece, done}
use Rattle.history.proofs.Chain.{did, did_in, did_out, did_open, chain_high, chain_fine, chain_noted}
use Rattle.history.proofs.Frame.{KeepsAt, keeps_other, keeps_not_mine, Mine, frame, each_one, set_record, set_count, raised, remains_set}
use Rattle.history.proofs.Geometry.{n_pos, window_inj}
use Rattle.history.proofs.Invariant.{says, says_of, PInv, Own, Core}
use Rattle.history.proofs.Move.{calm, moved, move}
use Rattle.history.proofs.Sums.{each_set, sum_set}
use Rattle.history.proofs.View.{View, at, work, mark, piece, with_c, with_commit, with_pieces, stepped}

-- an open piece lies in the window
module _ (v : View) (I : Core v) (j : ℕ) (jlt : j < length v.pieces) (isopen : (piece v j).committed ≡ false) where
  pub open_low : v.truth.lo ≤ (piece v j).part
  open_low = go (dec_lt (piece v j).part v.truth.lo)
    where
      go : Dec ((piece v j).part < v.truth.lo) → v.truth.lo ≤ (piece v j).part
      go (yes h) = absurd (false≢true (sym isopen ∙ I.old j jlt h))
      go (no h) = omega arith

  pub open_high : (piece v j).part < v.truth.lo + v.N
  open_high = go (dec_lt (piece v j).part (v.truth.lo + v.N))
    where
      not_lt : ¬ ((piece v j).part < v.truth.lo + v.N) → v.truth.lo + v.N ≤ (piece v j).part
      not_lt h = omega arith

      go : Dec ((piece v j).part < v.truth.lo + v.N) → (piece v j).part < v.truth.lo + v.N
      go (yes h) = h
      go (no h) =
          absurd (omega (
            arith,
            mul-le-mul_right v.S (not_lt h),
            chain_high v.S v.start v.pieces v.W j I.chain jlt,
            (chain_fine v.S v.start v.pieces v.W j I.chain jlt).some,
            I.span.high,
          ))

-- p commits the piece at j, of m bytes, in sub-buffer i, and goes on at phase ph
module _ (v : View) (p : ℕ) (lt : p < v.P) (I : Core v) (i j m ph : ℕ) (jlt : j < length v.pieces) (who : (piece v j).producer ≡ p)
    (isopen : (piece v j).committed ≡ false) (size : (piece v j).size ≡ m) (ix : (piece v j).part % v.N ≡ i)
    (u : T (calm (says (row_of ph)) (says_of (at v p))))
    (a : T (says (row_of ph)).raising → ⊥) (b : T (says (row_of ph)).setting → ⊥) (c : T (says (row_of ph)).whole → ⊥)
    (rest : (x : ℕ) → Mine (moved ph (at v p).v (at v p).s (at v p)) (work v p) x → x ≢ j) where
  abbrev C' : List ℕ
  C' = set v.truth.C i (get_or v.truth.C i 0 + (piece v j).size)

  abbrev pieces' : List Piece
  pieces' = set v.pieces j (done (piece v j))

  pub add_up : (x : ℕ) → get_or v.truth.C x 0 ≤ get_or C' x 0
  add_up = raised v.truth.C i (get_or v.truth.C i 0 + (piece v j).size) (omega arith)

  sum : (k : ℕ) → sum_by (did k) pieces' ≡ sum_by (did k) v.pieces + did k (done (piece v j))
  sum k = omega (arith, sum_set (did k) v.pieces j (done (piece v j)) no_piece jlt, did_open k (piece v j) isopen)

  win : (k : ℕ) → v.truth.lo ≤ k → k < v.truth.lo + v.N → Dec ((piece v j).part ≡ k) → get_or C' (k % v.N) 0 ≡ v.S * (k / v.N) + sum_by (did k) pieces'
  win k lo hi (yes e) =
      let same : k % v.N ≡ i = ap (λ x. x % v.N) (sym e) ∙ ix in
      let ilt : i < length v.truth.C = rw (← same) (omega (arith, mod-lt k (n_pos I.shape), I.lens.C, I.shape.parts_high)) in
      let is : get_or C' (k % v.N) 0 ≡ get_or v.truth.C i 0 + (piece v j).size = rw same (get_or-set_same v.truth.C i _ 0 ilt) in
      let was : get_or v.truth.C i 0 ≡ v.S * (k / v.N) + sum_by (did k) v.pieces = rw same at (I.win k lo hi) in
      omega (arith, is, was, sum k, did_in k (done (piece v j)) e refl)
  win k lo hi (no ne) =
      let differ : k % v.N ≢ i = λ e. ne (sym (window_inj v.N v.truth.lo k (piece v j).part lo hi (open_low v I j jlt isopen) (open_high v I j jlt isopen) (e ∙ sym ix))) in
      get_or-set_other v.truth.C i (k % v.N) _ 0 differ ∙ I.win k lo hi ∙ omega (arith, sum k, did_out k (done (piece v j)) ne)

  framed : (o : ℕ) (q : Producer) → ((x : ℕ) → Mine q (work v o) x → KeepsAt o v.pieces pieces' x) →
      Own v o q (work v o) (mark v o) →
      PInv v.S v.N o q (work v o) (mark v o) v.W v.truth.lo C' v.truth.Q pieces'
  framed o q keep h =
      frame v.S v.N o q (work v o) (mark v o) v.W v.truth.lo v.W v.truth.lo v.truth.C v.truth.Q C' v.truth.Q v.pieces pieces'
      (le_refl _) (le_refl _) add_up (λ x. le_refl _) keep h

  pub add_keeps : Core (stepped p (moved ph (at v p).v (at v p).s (at v p)) (with_c C' v.truth) (with_pieces pieces' (with_commit (set v.commit i (on_of (get_or v.commit i (commit 0)) m)) v)))
  unfolding on_of add32
  add_keeps =
      record {
        shape = I.shape;
        lens = set_record (set_count I.lens i _ _) p _;
        rem = record {
          write = I.rem.write;
          read = I.rem.read;
          commit = remains_set v.commit v.truth.C i _ _ (I.lens.commit ∙ sym I.lens.C) (omega (arith, I.rem.commit i, size)) I.rem.commit;
          seq = I.rem.seq;
        };
        span = I.span;
        chain = chain_noted v.S v.start v.pieces v.W j (piece v j).lost true I.chain;
        win = λ k lo hi. win k lo hi (ℕ_discrete (piece v j).part k);
        seqs = λ x. le_trans (I.seqs x) (add_up x);
        prod = each_one v.P v.producer v.works v.truth.marks p
            (λ o q k t. PInv v.S v.N o q k t v.W v.truth.lo C' v.truth.Q pieces')
            (omega (arith, I.lens.producer, I.shape.producers_high)) (moved ph (at v p).v (at v p).s (at v p))
            (framed p (moved ph (at v p).v (at v p).s (at v p)) (λ x y. keeps_other p v.pieces j _ x (rest x y))
            (move v.S v.N p (at v p) (work v p) (mark v p) v.W v.truth.lo v.truth.C v.truth.Q v.pieces ph (at v p).v (at v p).s
            (mark v p).v (mark v p).s u (λ x. absurd (a x)) (λ x. absurd (b x)) (λ x. absurd (c x)) (I.prod p lt)))
            (λ o h ne. framed o (at v o) (λ x y. keeps_not_mine p o v.pieces j _ ne who x) (I.prod o h));
        old = each_set v.pieces j (done (piece v j)) no_piece (λ x r. r.part < v.truth.lo → r.committed ≡ true) (λ h y. refl) (λ x h ne. I.old x h);
      }
