-- The window: the N parts from lo on, and how far the counts in it can lie apart.
use Prim.Native.Nat.{ℕ, suc, ◌+◌, ◌*◌, ◌/◌, ◌%◌, ◌≤◌, ◌<◌}
use mathlib.Core.Path.{◌≡◌, ap}
use native.Mathlib.Nat.{mod-lt, div-add-mod', mul-le-mul_left, mul-le-mul_right}
use native.Mathlib.Decide.{dec_lt, dec_le}
use native.Mathlib.Omega.{arith}
use lib.ListN.{get_or}
use Rattle.counts.specs.ShapeLaws.{Shaped}
use Rattle.history.specs.Lists.{sum_by}
use Rattle.history.specs.Premise.{half}
use Rattle.history.proofs.Chain.{did, did_all, at_most_S}
use Rattle.history.proofs.Geometry.{at_mod, n_pos, small}
use Rattle.history.proofs.Invariant.{Core, KeepOf, Lag}
use Rattle.history.proofs.View.{View}

-- the part of the window that stands in sub-buffer i
pub record Found (N lo i : ℕ) : Type 0 where
  pub k : ℕ
  pub low : lo ≤ k
  pub high : k < lo + N
  pub num : k % N ≡ i

pub find : (N lo i : ℕ) → 0 < N → i < N → Found N lo i
find N lo i n h = go (dec_le (lo % N) i)
  where
    a : lo / N * N + lo % N ≡ lo
    a = div-add-mod' lo N

    go : Dec (lo % N ≤ i) → Found N lo i
    go (yes l) = record { k = lo / N * N + i; low = omega (arith, a); high = omega (arith, a, mod-lt lo n); num = at_mod N (lo / N) i h }
    go (no l) = record { k = suc (lo / N) * N + i; low = omega (arith, a, mod-lt lo n); high = omega (arith, a); num = at_mod N (suc (lo / N)) i h }

-- k·S, and what the counts of its lap come to
near : (S N k : ℕ) → 0 < N → (N * (S * (k / N)) ≤ k * S) × (k * S ≤ N * (S * (k / N)) + S * N)
near S N k n =
    let a : (k / N * N + k % N) * S ≡ k * S = ap (λ x. x * S) (div-add-mod' k N) in
    let b : suc (k % N) * S ≤ N * S = mul-le-mul_right S (mod-lt k n) in
    (omega arith, omega arith)

module _ (v : View) (I : Core v) (i : ℕ) (lt : i < v.N) where
  F : Found v.N v.truth.lo i
  F = find v.N v.truth.lo i (n_pos I.shape) lt

  w : get_or v.truth.C i 0 ≡ v.S * (F.k / v.N) + sum_by (did F.k) v.pieces
  w = rw F.num at (I.win F.k F.low F.high)

  base : v.start ≤ F.k * v.S
  base = omega (arith, I.span.first, mul-le-mul_right v.S F.low)

  most : sum_by (did F.k) v.pieces ≤ v.S
  most = omega (arith, did_all F.k v.pieces, at_most_S v.S F.k v.start v.pieces v.W I.chain base)

  pub C-near : v.W ≤ v.N * get_or v.truth.C i 0 + 2 * (v.S * v.N)
  C-near =
      let a : v.S * (F.k / v.N) ≤ get_or v.truth.C i 0 = omega (arith, w) in
      let b : v.truth.lo * v.S ≤ F.k * v.S = mul-le-mul_right v.S F.low in
      omega (arith, mul-le-mul_left v.N a, (near v.S v.N F.k (n_pos I.shape)).1, I.span.high)

  pub C-far : v.N * get_or v.truth.C i 0 ≤ v.W + 2 * (v.S * v.N)
  C-far =
      let c : get_or v.truth.C i 0 ≤ v.S * (F.k / v.N) + v.S = omega (arith, w, most) in
      omega (arith, mul-le-mul_left v.N c, (near v.S v.N F.k (n_pos I.shape)).0, mul-le-mul_right v.S F.high, I.span.low)

  -- discard mode: a seq lags by one S at most
  pub keep_near : KeepOf v → get_or v.truth.C i 0 ≤ get_or v.truth.Q i 0 + v.S
  keep_near K =
      let a : v.S * (F.k / v.N) ≤ get_or v.truth.Q i 0 = rw F.num at (K.low F.k F.low F.high) in
      omega (arith, w, most)

pub keep_lag : (v : View) → Core v → KeepOf v → Lag v.N v.truth.C v.truth.Q
keep_lag v I K i lt = omega (arith, mul-le-mul_left v.N (keep_near v I i lt K), small I.shape)

-- two counts between which fewer than 2^31 bytes were reserved lie less than 2^31 apart
pub close : {S N P : ℕ} (G : Shaped S N P) (W began x y : ℕ) → W < began + half → N * x ≤ W + 2 * (S * N) → began ≤ N * y + 2 * (S * N) → x < y + half
close {S} {N} G W began x y a b c = go (dec_lt x (y + half))
  where
    go : Dec (x < y + half) → x < y + half
    go (yes h) = h
    go (no h) =
        let e : N * (y + half) ≤ N * x = mul-le-mul_left N (omega arith) in
        let f : 2 * half ≤ N * half = mul-le-mul_right half G.parts_low in
        absurd (omega (arith, small G))
