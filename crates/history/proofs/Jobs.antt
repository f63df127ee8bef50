-- The rows that change one producer's record alone, and the rows of a commit that look at counts.
use Prim.Native.Nat.{ℕ, ◌+◌, ◌%◌, ◌≤◌, ◌<◌}
use mathlib.Core.Path.{◌≡◌, refl, sym, ap, subst, subst₂, ◌∙◌}
use mathlib.Core.Bool.{Bool, true, false, not, ◌||◌, false≢true}
use mathlib.Core.List.{List}
use native.Mathlib.Nat.{le_refl, mul-le-mul_left, mul-le-mul_right}
use native.Mathlib.Decide.{dec_lt}
use native.Mathlib.Omega.{arith}
use lib.Dec.{T, eqb, leb}
use lib.ListN.{get_or, set}
use lib.Seq.{get_or-set_same, get_or-set_other, set-get_or}
use borrow.Author.Tests.{eqb-false, leb-false}
use Rattle.counts.specs.declared.commit.Commit.{Commit}
use Rattle.counts.specs.Commit.{commit, past_of, raises_of}
use Rattle.counts.specs.Wrap.{word, sub32}
use Rattle.steps.specs.declared.producer.Producer.{Producer}
use Rattle.steps.specs.Step.{row_of}
use Rattle.history.specs.Log.{Work, no_work}
use Rattle.history.specs.Premise.{half}
use Rattle.history.proofs.Frame.{keeps_same, frame, each_three, each_one, set_record, set_work, set_mark, set_seq, raised, remains_set}
use Rattle.history.proofs.Geometry.{mod_close}
use Rattle.history.proofs.Invariant.{says, says_of, job_at, Raising, Setting, PInv, Own, Core, Soon, Lag}
use Rattle.history.proofs.Move.{calm, moved, marked, move}
use Rattle.history.proofs.Sums.{each_of}
use Rattle.history.proofs.View.{Mark, Truth, View, no_mark, at, work, mark, with_mark, with_work, with_works, with_q, with_seq, stepped}
use Rattle.history.proofs.Window.{C-near, C-far, close}

-- ---- p's record, work and mark are exchanged, and nothing else

pub own_keeps : (v : View) (p : ℕ) (q : Producer) (k : Work) (t : Mark) → p < v.P → Core v →
    Own v p q k t →
    Core (stepped p q (with_mark p t v.truth) (with_work p k v))
own_keeps v p q k t lt I own =
    record {
      shape = I.shape;
      lens = set_record (set_work (set_mark I.lens p t) p k) p q;
      rem = I.rem;
      span = I.span;
      chain = I.chain;
      win = I.win;
      seqs = I.seqs;
      prod = each_three v.P v.producer v.works v.truth.marks p
          (λ o q k t. Own v o q k t)
          (omega (arith, I.lens.producer, I.shape.producers_high)) q k t (omega (arith, I.lens.works, I.shape.producers_high))
          (omega (arith, I.lens.marks, I.shape.producers_high)) own (λ o h ne. I.prod o h);
      old = I.old;
    }

-- .. its work is as it was
same_work : (v : View) (p : ℕ) → with_work p (work v p) v ≡ v
same_work v p = ap (λ (l : List Work). with_works l v) (set-get_or v.works p no_work)

pub one_keeps : (v : View) (p : ℕ) (q : Producer) (t : Mark) → p < v.P → Core v →
    Own v p q (work v p) t → Core (stepped p q (with_mark p t v.truth) v)
one_keeps v p q t lt I own =
    subst (λ (w : View). Core (stepped p q (with_mark p t v.truth) w)) (same_work v p) (own_keeps v p q (work v p) t lt I own)

-- the true numbers stay
same_mark : (t : Truth) (p : ℕ) → with_mark p (get_or t.marks p no_mark) t ≡ t
same_mark t p = ap (λ (l : List Mark). record { lo = t.lo; C = t.C; Q = t.Q; marks = l }) (set-get_or t.marks p no_mark)

-- p goes on to the row of phase ph
pub go_keeps : (v : View) (p ph : ℕ) (x y : Commit) (X Y : ℕ) → p < v.P → T (calm (says (row_of ph)) (says_of (at v p))) →
    (T (says (row_of ph)).raising → Raising v.S v.N (moved ph x y (at v p)) (work v p) (marked X Y (mark v p)) (job_at v.S v.N (moved ph x y (at v p)) (mark v p)) v.truth.C) →
    (T (says (row_of ph)).setting → Setting (moved ph x y (at v p)) (marked X Y (mark v p)) (job_at v.S v.N (moved ph x y (at v p)) (mark v p)) v.truth.Q) →
    (T (says (row_of ph)).whole → (at v p).done ≡ (at v p).z) →
    Core v → Core (stepped p (moved ph x y (at v p)) (with_mark p (marked X Y (mark v p)) v.truth) v)
go_keeps v p ph x y X Y lt u a b c I =
    one_keeps v p (moved ph x y (at v p)) (marked X Y (mark v p)) lt I
    (move v.S v.N p (at v p) (work v p) (mark v p) v.W v.truth.lo v.truth.C v.truth.Q v.pieces ph x y X Y u a b c (I.prod p lt))

-- .. which asks for nothing new
pub off_keeps : (v : View) (p ph : ℕ) → p < v.P → T (calm (says (row_of ph)) (says_of (at v p))) → (T (says (row_of ph)).raising → ⊥) →
    (T (says (row_of ph)).setting → ⊥) → (T (says (row_of ph)).whole → (at v p).done ≡ (at v p).z) → Core v →
    Core (stepped p (moved ph (at v p).v (at v p).s (at v p)) v.truth v)
off_keeps v p ph lt u a b c I =
    subst (λ t. Core (stepped p (moved ph (at v p).v (at v p).s (at v p)) t v)) (same_mark v.truth p)
    (go_keeps v p ph (at v p).v (at v p).s (mark v p).v (mark v p).s lt u (λ x. absurd (a x)) (λ x. absurd (b x)) c I)

-- a distance that is neither 0 nor at least 2^31, of two counts that lie less than 2^31 apart
order : (x s : ℕ) → x < s + half → s < x + half → (sub32 (x % word) (s % word) ≡ 0 → ⊥) → sub32 (x % word) (s % word) < half → s < x
unfolding sub32
order x s a b c d = omega arith

-- ---- the rows of a commit, in sub-buffer i

module _ (v : View) (p : ℕ) (lt : p < v.P) (soon : Soon v) (I : Core v) (lag : Lag v.N v.truth.C v.truth.Q) (i : ℕ) (ilt : i < v.N)
    (working : T (says_of (at v p)).busy) where
  mine : Own v p (at v p) (work v p) (mark v p)
  mine = I.prod p lt

  abbrev now : Commit
  now = get_or v.seq i (commit 0)

  -- look, where the commit count was a multiple of S
  pub look_keeps : (ph : ℕ) → T (calm (says (row_of ph)) (says_of (at v p))) → (T (says (row_of ph)).setting → ⊥) → (T (says (row_of ph)).whole → ⊥) →
      job_at v.S v.N (moved ph (get_or v.commit i (commit 0)) (at v p).s (at v p)) (mark v p) ≡ i →
      Core (stepped p (moved ph (get_or v.commit i (commit 0)) (at v p).s (at v p)) (with_mark p (marked (get_or v.truth.C i 0) (mark v p).s (mark v p)) v.truth) v)
  look_keeps ph u b c job =
      go_keeps v p ph (get_or v.commit i (commit 0)) (at v p).s (get_or v.truth.C i 0) (mark v p).s lt u
      (λ x. record { v_is = I.rem.commit i; v_le = rw job (le_refl _); v_low = omega (arith, C-near v I i ilt, mine.begun working) })
      (λ x. absurd (b x))
      (λ x. absurd (c x))
      I

  -- v against the seq as it is now
  module _ (R : Raising v.S v.N (at v p) (work v p) (mark v p) i v.truth.C) where
    v_close : (mark v p).v < get_or v.truth.Q i 0 + half
    v_close = go (dec_lt (mark v p).v (get_or v.truth.Q i 0 + half))
      where
        go : Dec ((mark v p).v < get_or v.truth.Q i 0 + half) → (mark v p).v < get_or v.truth.Q i 0 + half
        go (yes h) = h
        go (no h) =
            let a : get_or v.truth.Q i 0 + half ≤ (mark v p).v = omega arith in
            absurd (omega (arith, lag i ilt, mul-le-mul_left v.N R.v_le, mul-le-mul_left v.N a, mul-le-mul_right half I.shape.parts_low))

    Q-close : get_or v.truth.Q i 0 < (mark v p).v + half
    Q-close =
        close I.shape v.W (work v p).began (get_or v.truth.Q i 0) (mark v p).v (soon p lt working)
        (omega (arith, mul-le-mul_left v.N (I.seqs i), C-far v I i ilt))
        R.v_low

    -- the machine's test is the true order
    raise_lt : raises_of (at v p).v now ≡ true → get_or v.truth.Q i 0 < (mark v p).v
    unfolding raises_of past_of
    raise_lt t =
        order (mark v p).v (get_or v.truth.Q i 0) v_close Q-close
        (subst₂ (λ a b. sub32 a b ≡ 0 → ⊥) R.v_is (I.rem.seq i) (eqb-false (sub32 (at v p).v.0 now.0) 0 neither.0))
        (subst₂ (λ a b. sub32 a b < half) R.v_is (I.rem.seq i) (leb-false half (sub32 (at v p).v.0 now.0) neither.1))
      where
        none : (a b : Bool) → not (a || b) ≡ true → (a ≡ false) × (b ≡ false)
        none true b e = absurd (false≢true e)
        none false true e = absurd (false≢true e)
        none false false e = (refl, refl)

        neither : (eqb (sub32 (at v p).v.0 now.0) 0 ≡ false) × (leb half (sub32 (at v p).v.0 now.0) ≡ false)
        neither = none _ _ t

    -- see, and set where another was quicker
    pub see_keeps : (ph : ℕ) → T (calm (says (row_of ph)) (says_of (at v p))) → (T (says (row_of ph)).whole → ⊥) →
        job_at v.S v.N (moved ph (at v p).v now (at v p)) (mark v p) ≡ i → raises_of (at v p).v now ≡ true →
        Core (stepped p (moved ph (at v p).v now (at v p)) (with_mark p (marked (mark v p).v (get_or v.truth.Q i 0) (mark v p)) v.truth) v)
    see_keeps ph u c job r =
        go_keeps v p ph (at v p).v now (mark v p).v (get_or v.truth.Q i 0) lt u
        (λ x. record { v_is = R.v_is; v_le = rw job R.v_le; v_low = R.v_low })
        (λ x. record { s_is = I.rem.seq i; s_le = rw job (le_refl _); s_lt = raise_lt r; s_near = v_close })
        (λ x. absurd (c x))
        I

    -- .. and where the seq is there already
    pub see_off : (ph : ℕ) → T (calm (says (row_of ph)) (says_of (at v p))) → (T (says (row_of ph)).raising → ⊥) → (T (says (row_of ph)).setting → ⊥) →
        (T (says (row_of ph)).whole → ⊥) →
        Core (stepped p (moved ph (at v p).v now (at v p)) (with_mark p (marked (mark v p).v (get_or v.truth.Q i 0) (mark v p)) v.truth) v)
    see_off ph u a b c =
        go_keeps v p ph (at v p).v now (mark v p).v (get_or v.truth.Q i 0) lt u (λ x. absurd (a x)) (λ x. absurd (b x)) (λ x. absurd (c x)) I

    -- set, where the seq is still what was seen: it is so without the wrap too, and it is raised
    module _ (Z : Setting (at v p) (mark v p) i v.truth.Q) (same : now.0 ≡ (at v p).s.0) where
      abbrev Q' : List ℕ
      Q' = set v.truth.Q i (mark v p).v

      seen : get_or v.truth.Q i 0 ≡ (mark v p).s
      seen =
          sym (mod_close (mark v p).s (get_or v.truth.Q i 0) Z.s_le (omega (arith, Q-close, Z.s_near))
          (sym Z.s_is ∙ sym same ∙ I.rem.seq i))

      pub set_up : (j : ℕ) → get_or v.truth.Q j 0 ≤ get_or Q' j 0
      set_up = raised v.truth.Q i (mark v p).v (omega (arith, seen, Z.s_lt))

      framed : (o : ℕ) (q : Producer) → Own v o q (work v o) (mark v o) →
          PInv v.S v.N o q (work v o) (mark v o) v.W v.truth.lo v.truth.C Q' v.pieces
      framed o q h =
          frame v.S v.N o q (work v o) (mark v o) v.W v.truth.lo v.W v.truth.lo v.truth.C v.truth.Q v.truth.C Q' v.pieces v.pieces
          (le_refl _) (le_refl _) (λ j. le_refl _) set_up (λ j x. keeps_same o v.pieces j) h

      is : get_or Q' i 0 ≡ (mark v p).v
      is = get_or-set_same v.truth.Q i (mark v p).v 0 (omega (arith, I.lens.Q, I.shape.parts_high))

      pub set_keeps : (ph : ℕ) → T (calm (says (row_of ph)) (says_of (at v p))) → (T (says (row_of ph)).raising → ⊥) → (T (says (row_of ph)).setting → ⊥) →
          (T (says (row_of ph)).whole → ⊥) →
          Core (stepped p (moved ph (at v p).v (at v p).s (at v p)) (with_q Q' v.truth) (with_seq (set v.seq i (at v p).v) v))
      set_keeps ph u a b c =
          record {
            shape = I.shape;
            lens = set_record (set_seq I.lens i (at v p).v (mark v p).v) p (moved ph (at v p).v (at v p).s (at v p));
            rem = record {
              write = I.rem.write;
              read = I.rem.read;
              commit = I.rem.commit;
              seq = remains_set v.seq v.truth.Q i (at v p).v (mark v p).v (I.lens.seq ∙ sym I.lens.Q) R.v_is I.rem.seq;
            };
            span = I.span;
            chain = I.chain;
            win = I.win;
            seqs = each_of i (λ j. get_or Q' j 0 ≤ get_or v.truth.C j 0) (rw is R.v_le)
                (λ j ne. rw (get_or-set_other v.truth.Q i j (mark v p).v 0 ne) (I.seqs j));
            prod = each_one v.P v.producer v.works v.truth.marks p
                (λ o q k t. PInv v.S v.N o q k t v.W v.truth.lo v.truth.C Q' v.pieces)
                (omega (arith, I.lens.producer, I.shape.producers_high)) (moved ph (at v p).v (at v p).s (at v p))
                (framed p (moved ph (at v p).v (at v p).s (at v p))
                (move v.S v.N p (at v p) (work v p) (mark v p) v.W v.truth.lo v.truth.C v.truth.Q v.pieces ph (at v p).v (at v p).s
                (mark v p).v (mark v p).s u (λ x. absurd (a x)) (λ x. absurd (b x)) (λ x. absurd (c x)) mine))
                (λ o h ne. framed o (at v o) (I.prod o h));
            old = I.old;
          }
