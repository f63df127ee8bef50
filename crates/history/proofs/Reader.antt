-- The reader: a part that is ready is committed whole; get and put.
use Prim.Native.Nat.{ℕ, suc, ◌+◌, ◌*◌, ◌/◌, ◌%◌, ◌≤◌, ◌<◌}
use mathlib.Core.Path.{◌≡◌, sym, ap, ◌∙◌, subst}
use mathlib.Core.Bool.{Bool, true, false, false≢true}
use native.Mathlib.Nat.{mod-lt, le_refl, le_trans, mul-le-mul_left, mul-le-mul_right}
use native.Mathlib.Decide.{dec_lt, dec_le, ℕ_discrete}
use native.Mathlib.Omega.{arith}
use lib.ListN.{length, get_or}
use Rattle.counts.specs.Commit.{commit, ready_of}
use Rattle.counts.specs.Position.{position}
use Rattle.counts.specs.Wrap.{word}
use Rattle.history.specs.Lists.{sum_by}
use Rattle.history.proofs.Chain.{did, did_all, all_done, none_past, at_most, at_most_S, chain_fine}
use Rattle.history.proofs.Frame.{keeps_same, frame}
use Rattle.history.proofs.Geometry.{s_pos, n_pos, small, turn, turn_mod}
use Rattle.history.proofs.Invariant.{Core, KeepOf, Lag}
use Rattle.history.proofs.Ready.{c, divides, ready_is}
use Rattle.history.proofs.View.{View, at, work, mark, piece, with_lo}
use Rattle.history.proofs.Window.{keep_lag}

-- ---- a part of the window

module _ (v : View) (I : Core v) (k : ℕ) (klo : v.truth.lo ≤ k) (khi : k < v.truth.lo + v.N) where
  base : v.start ≤ k * v.S
  base = omega (arith, I.span.first, mul-le-mul_right v.S klo)

  most : sum_by (did k) v.pieces ≤ v.S
  most = omega (arith, did_all k v.pieces, at_most_S v.S k v.start v.pieces v.W I.chain base)

  -- raised: committed whole
  pub raised_whole : v.S * (k / v.N) + v.S ≤ get_or v.truth.Q (k % v.N) 0 → v.S ≤ sum_by (did k) v.pieces
  raised_whole h = omega (arith, I.seqs (k % v.N), I.win k klo khi)

  -- committed whole: all its pieces are, and they fill it
  module _ (all_S : v.S ≤ sum_by (did k) v.pieces) where
    pub whole_done : (j : ℕ) → j < length v.pieces → (piece v j).part ≡ k → (piece v j).committed ≡ true
    whole_done j lt e =
        all_done k v.pieces (le_trans (at_most_S v.S k v.start v.pieces v.W I.chain base) all_S) j lt e
        (chain_fine v.S v.start v.pieces v.W j I.chain lt).some

    pub whole_past : suc k * v.S ≤ v.W
    whole_past = go (dec_le (k * v.S) v.W)
      where
        go : Dec (k * v.S ≤ v.W) → suc k * v.S ≤ v.W
        go (yes x) = omega (arith, all_S, did_all k v.pieces, at_most v.S k v.start v.pieces v.W I.chain base x)
        go (no x) = absurd (omega (arith, all_S, did_all k v.pieces, none_past v.S k v.start v.pieces v.W I.chain base (omega arith), s_pos I.shape))

    whole_C : get_or v.truth.C (k % v.N) 0 ≡ v.S * (k / v.N) + v.S
    whole_C = omega (arith, I.win k klo khi, all_S, most)

  -- the ready test, where the seq does not lag too far
  pub ready_at : v.read ≡ k * v.S % word → Lag v.N v.truth.C v.truth.Q → ready_of (position v.read) (get_or v.seq (k % v.N) (commit 0)) v.S v.N ≡ true →
      get_or v.truth.Q (k % v.N) 0 ≡ v.S * (k / v.N) + v.S
  ready_at here lag t =
      ready_is I.shape k (get_or v.truth.Q (k % v.N) 0) (position v.read) (get_or v.seq (k % v.N) (commit 0)) here (I.rem.seq (k % v.N)) t
      (omega (arith, I.seqs (k % v.N), I.win k klo khi, most)) close_by
    where
      close_by : v.S * (k / v.N) + v.S < get_or v.truth.Q (k % v.N) 0 + c I.shape * v.S
      close_by = go (dec_lt (v.S * (k / v.N) + v.S) (get_or v.truth.Q (k % v.N) 0 + c I.shape * v.S))
        where
          go : Dec (v.S * (k / v.N) + v.S < get_or v.truth.Q (k % v.N) 0 + c I.shape * v.S) →
              v.S * (k / v.N) + v.S < get_or v.truth.Q (k % v.N) 0 + c I.shape * v.S
          go (yes h) = h
          go (no h) =
              let a : get_or v.truth.Q (k % v.N) 0 + c I.shape * v.S ≤ get_or v.truth.C (k % v.N) 0 + v.S = omega (arith, I.win k klo khi) in
              absurd (omega (arith, mul-le-mul_left v.N a, lag (k % v.N) (mod-lt k (n_pos I.shape)), divides I.shape, small I.shape))

-- ---- the window goes on by one part: its first is committed whole

abbrev pub slid : View → View
slid v =
    record { S = v.S; N = v.N; P = v.P; write = v.write; read = v.read; commit = v.commit; seq = v.seq; producer = v.producer; hold = v.hold; start = v.start; W = v.W; rk = v.rk; pieces = v.pieces; works = v.works; truth = with_lo (suc v.truth.lo) v.truth }

slide_keeps : (v : View) (I : Core v) → v.S ≤ sum_by (did v.truth.lo) v.pieces → Core (slid v)
slide_keeps v I all_S =
    record {
      shape = I.shape;
      lens = I.lens;
      rem = I.rem;
      span = record { first = omega (arith, I.span.first); low = past; high = omega (arith, I.span.high); past_head = I.span.past_head };
      chain = I.chain;
      win = λ k lo hi. win k lo hi (dec_lt k (v.truth.lo + v.N));
      seqs = I.seqs;
      prod = λ o h.
          frame v.S v.N o (at v o) (work v o) (mark v o) v.W v.truth.lo v.W (suc v.truth.lo) v.truth.C v.truth.Q v.truth.C v.truth.Q v.pieces v.pieces
          (le_refl _) (omega arith) (λ x. le_refl _) (λ x. le_refl _) (λ x y. keeps_same o v.pieces x) (I.prod o h);
      old = λ j h x. old j h x (ℕ_discrete (piece v j).part v.truth.lo);
    }
  where
    top : v.truth.lo < v.truth.lo + v.N
    top = omega (arith, I.shape.parts_low)

    past : suc v.truth.lo * v.S ≤ v.W
    past = whole_past v I v.truth.lo (le_refl _) top all_S

    old : (j : ℕ) → j < length v.pieces → (piece v j).part < suc v.truth.lo → Dec ((piece v j).part ≡ v.truth.lo) → (piece v j).committed ≡ true
    old j h x (yes e) = whole_done v I v.truth.lo (le_refl _) top all_S j h e
    old j h x (no ne) = I.old j h (omega arith)

    win : (k : ℕ) → suc v.truth.lo ≤ k → k < suc v.truth.lo + v.N → Dec (k < v.truth.lo + v.N) → get_or v.truth.C (k % v.N) 0 ≡ v.S * (k / v.N) + sum_by (did k) v.pieces
    win k lo hi (yes x) = I.win k (omega arith) x
    win k lo hi (no x) =
        let e : v.truth.lo + v.N ≡ k = omega arith in
        subst (λ y. get_or v.truth.C (y % v.N) 0 ≡ v.S * (y / v.N) + sum_by (did y) v.pieces) e last
      where
        empty : sum_by (did (v.truth.lo + v.N)) v.pieces ≡ 0
        empty =
            omega (
              arith,
              did_all (v.truth.lo + v.N) v.pieces,
              none_past v.S (v.truth.lo + v.N) v.start v.pieces v.W I.chain (omega (arith, I.span.first)) (omega (arith, I.span.high)),
            )

        last : get_or v.truth.C ((v.truth.lo + v.N) % v.N) 0 ≡ v.S * ((v.truth.lo + v.N) / v.N) + sum_by (did (v.truth.lo + v.N)) v.pieces
        last =
            let a : v.S * ((v.truth.lo + v.N) / v.N) ≡ v.S * suc (v.truth.lo / v.N) = ap (λ y. v.S * y) (turn v.N v.truth.lo (n_pos I.shape)) in
            rw (turn_mod v.N v.truth.lo (n_pos I.shape)) (omega (arith, whole_C v I v.truth.lo (le_refl _) top all_S, empty, a))

-- ---- get and put

abbrev pub holding : Bool → (read rk : ℕ) → View → View
holding b read rk v =
    record { S = v.S; N = v.N; P = v.P; write = v.write; read = read; commit = v.commit; seq = v.seq; producer = v.producer; hold = b; start = v.start; W = v.W; rk = rk; pieces = v.pieces; works = v.works; truth = v.truth }

read_to : (v : View) (b : Bool) (read rk : ℕ) → read ≡ rk * v.S % word → Core v → Core (holding b read rk v)
read_to v b read rk e I =
    record {
      shape = I.shape;
      lens = I.lens;
      rem = record { write = I.rem.write; read = e; commit = I.rem.commit; seq = I.rem.seq };
      span = I.span;
      chain = I.chain;
      win = I.win;
      seqs = I.seqs;
      prod = I.prod;
      old = I.old;
    }

module _ (v : View) (I : Core v) (K : KeepOf v) where
  front : v.truth.lo < v.truth.lo + v.N
  front = omega (arith, I.shape.parts_low)

  at_read : v.read ≡ v.truth.lo * v.S % word
  at_read = I.rem.read ∙ ap (λ y. y * v.S % word) (sym K.here)

  -- get: what the test finds ready is raised
  pub get_raised : ready_of (position v.read) (get_or v.seq (v.truth.lo % v.N) (commit 0)) v.S v.N ≡ true →
      get_or v.truth.Q (v.truth.lo % v.N) 0 ≡ v.S * (v.truth.lo / v.N) + v.S
  get_raised t = ready_at v I v.truth.lo (le_refl _) front at_read (keep_lag v I K) t

  pub get_core : Core (holding true v.read v.rk v)
  get_core = read_to v true v.read v.rk I.rem.read I

  pub get_keep : ready_of (position v.read) (get_or v.seq (v.truth.lo % v.N) (commit 0)) v.S v.N ≡ true → KeepOf (holding true v.read v.rk v)
  get_keep t = record { here = K.here; low = K.low; held = λ u. omega (arith, get_raised t) }

  -- what is held is committed whole
  module _ (h : v.hold ≡ true) where
    pub held_whole : v.S ≤ sum_by (did v.truth.lo) v.pieces
    held_whole = raised_whole v I v.truth.lo (le_refl _) front (K.held h)

    -- put: the window goes on, and the read count with it
    abbrev pub backed : (read : ℕ) → View
    backed read = holding false read (suc v.rk) (slid v)

    pub put_core : (read : ℕ) → read ≡ suc v.rk * v.S % word → Core (backed read)
    put_core read e = read_to (slid v) false read (suc v.rk) e (slide_keeps v I held_whole)

    pub put_keep : (read : ℕ) → KeepOf (backed read)
    put_keep read =
        record { here = ap suc K.here; low = λ k lo hi. low k lo hi (dec_lt k (v.truth.lo + v.N)); held = λ x. absurd (false≢true x) }
      where
        low : (k : ℕ) → suc v.truth.lo ≤ k → k < suc v.truth.lo + v.N → Dec (k < v.truth.lo + v.N) → v.S * (k / v.N) ≤ get_or v.truth.Q (k % v.N) 0
        low k lo hi (yes x) = K.low k (omega arith) x
        low k lo hi (no x) =
            let e : v.truth.lo + v.N ≡ k = omega arith in
            subst (λ y. v.S * (y / v.N) ≤ get_or v.truth.Q (y % v.N) 0) e
            (let a : v.S * ((v.truth.lo + v.N) / v.N) ≡ v.S * suc (v.truth.lo / v.N) = ap (λ y. v.S * y) (turn v.N v.truth.lo (n_pos I.shape)) in
            rw (turn_mod v.N v.truth.lo (n_pos I.shape)) (omega (arith, K.held h, a)))
