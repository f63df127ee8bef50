-- Runs of bytes in a part of ring memory, and what a write of one leaves of the others.
use Prim.Native.Nat.{ℕ, ◌+◌, ◌-◌, ◌*◌, ◌%◌, ◌≤◌, ◌<◌}
use mathlib.Core.Path.{◌≡◌, sym, ap, subst, ◌∙◌}
use mathlib.Core.Logic.{◌≢◌, ◌⊎◌, inl, inr, ⊎_elim}
use mathlib.Core.List.{List}
use native.Mathlib.Nat.{mod-lt, mul-le-mul_right, mul_comm}
use native.Mathlib.Decide.{dec_lt, ℕ_discrete}
use native.Mathlib.Omega.{arith}
use lib.ListN.{length, get_or, length-append, length-drop}
use lib.Seq.{length-take-le}
use Rattle.counts.specs.ShapeLaws.{Shaped}
use Rattle.steps.specs.Bytes.{put}
use Rattle.steps.specs.BytesFrame.{put_before, put_inside, put_behind}
use Rattle.history.proofs.Geometry.{byte_at, n_pos, window_inj}

-- the first n of these bytes stand in part k, from offset o on
unfoldable pub Stands : (S N : ℕ) → List ℕ → (k o : ℕ) → List ℕ → ℕ → Type 0
Stands S N mem k o bytes n = (i : ℕ) → i < n → get_or mem ((k * S + (o + i)) % (S * N)) 0 ≡ get_or bytes i 0

-- two runs of a part that do not meet
pub data Clear (o n o' n' : ℕ) : Type 0 where
  before : o + n ≤ o' → Clear o n o' n'
  behind : o' + n' ≤ o → Clear o n o' n'

pub put_length : (l : List ℕ) (a n : ℕ) (vs : List ℕ) → a + n ≤ length l → length vs ≡ n → length (put l a n vs) ≡ length l
unfolding put
put_length l a n vs h e =
    rw (length-append, length-append, length-take-le a l (omega arith), length-drop, length-drop) (omega arith)

-- a byte outside stays
pub put_other : (l : List ℕ) (a n : ℕ) (vs : List ℕ) → a + n ≤ length l → length vs ≡ n → (x : ℕ) → (x < a) ⊎ (a + n ≤ x) → get_or (put l a n vs) x 0 ≡ get_or l x 0
put_other l a n vs h e x c =
    ⊎_elim (λ b. put_before l a n vs h e x b)
    (λ b.
    let y : x ≡ a + (n + (x - (a + n))) = omega arith in
    subst (λ y. get_or (put l a n vs) y 0 ≡ get_or l y 0) (sym y) (put_behind l a n vs h e (x - (a + n)))) c

module _ {S N P : ℕ} (G : Shaped S N P) (mem : List ℕ) (long : length mem ≡ S * N) (k o n : ℕ) (fits : o + n ≤ S) (vs : List ℕ) (vs_long : length vs ≡ n) where
  abbrev pub mem' : List ℕ
  mem' = put mem (k % N * S + o) n vs

  room : k % N * S + o + n ≤ length mem
  room = omega (arith, long, mul-le-mul_right S (mod-lt k (n_pos G)), mul_comm N S)

  pub write_length : length mem' ≡ S * N
  write_length = put_length mem (k % N * S + o) n vs room vs_long ∙ long

  -- what was written stands
  pub write_stands : Stands S N mem' k o vs n
  unfolding Stands
  write_stands i h =
      ap (λ x. get_or mem' x 0) (byte_at G k (o + i) (omega arith) ∙ omega arith) ∙ put_inside mem (k % N * S + o) n vs room vs_long i h

  -- a run of another part of the window, or one that does not meet it, stands as before
  pub write_keeps : (rk k' o' n' : ℕ) (bytes : List ℕ) → rk ≤ k → k < rk + N → rk ≤ k' → k' < rk + N → o' + n' ≤ S → (k' ≡ k → Clear o n o' n') →
      Stands S N mem k' o' bytes n' → Stands S N mem' k' o' bytes n'
  unfolding Stands
  write_keeps rk k' o' n' bytes a b a' b' fits' clear stands i h =
      ap (λ x. get_or mem' x 0) at_i
      ∙ put_other mem (k % N * S + o) n vs room vs_long (k' % N * S + (o' + i)) (outside (ℕ_discrete k' k))
      ∙ ap (λ x. get_or mem x 0) (sym at_i)
      ∙ stands i h
    where
      at_i : (k' * S + (o' + i)) % (S * N) ≡ k' % N * S + (o' + i)
      at_i = byte_at G k' (o' + i) (omega arith)

      same_part : k' % N * S ≡ k % N * S → Clear o n o' n' → (k' % N * S + (o' + i) < k % N * S + o) ⊎ (k % N * S + o + n ≤ k' % N * S + (o' + i))
      same_part e (before c) = inr (omega arith)
      same_part e (behind c) = inl (omega arith)

      less : (x y : ℕ) → x < y → x * S + S ≤ y * S
      less x y c = omega (arith, mul-le-mul_right S c)

      apart : k' % N ≢ k % N → Dec (k' % N < k % N) → (k' % N * S + (o' + i) < k % N * S + o) ⊎ (k % N * S + o + n ≤ k' % N * S + (o' + i))
      apart ne (yes c) = inl (omega (arith, less (k' % N) (k % N) c))
      apart ne (no c) = inr (omega (arith, less (k % N) (k' % N) (omega arith)))

      outside : Dec (k' ≡ k) → (k' % N * S + (o' + i) < k % N * S + o) ⊎ (k % N * S + o + n ≤ k' % N * S + (o' + i))
      outside (yes e) = same_part (ap (λ x. x % N * S) e) (clear e)
      outside (no ne) = apart (λ e. ne (window_inj N rk k' k a' b' a b e)) (dec_lt (k' % N) (k % N))
