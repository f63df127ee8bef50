-- What refusal 18 has looked at, as the rows use it.
use Prim.Native.Nat.{ℕ, ◌+◌, ◌-◌, ◌%◌, ◌≤◌, ◌<◌}
use mathlib.Core.Path.{◌≡◌, refl, sym, ap, subst, ◌∙◌}
use mathlib.Core.Logic.{◌⊎◌, inl, inr}
use mathlib.Core.Bool.{Bool, true, false, cond, not, false≢true}
use native.Mathlib.Decide.{dec_lt}
use native.Mathlib.Omega.{arith}
use lib.Dec.{eqb, leb}
use borrow.Author.Tests.{eq-eqb, leb-true}
use Rattle.counts.specs.Position.{offset_of}
use Rattle.counts.specs.Tests.{and_left, and_right}
use Rattle.counts.specs.Wrap.{word, add32}
use Rattle.steps.specs.declared.producer.Producer.{Producer}
use Rattle.steps.specs.Fits.{size_fits, phase_fits, fits_of}
use Rattle.steps.specs.Producer.{flushing}
use Rattle.steps.specs.Rows.{chunk_of}
use Rattle.steps.specs.RowsLaws.{chunk_rest, chunk_eight}
use Rattle.steps.specs.Step.{Row, swapping, opening, row_of}
use Rattle.history.proofs.Invariant.{Event}

pub fits_phase : (q : Producer) (S : ℕ) (x : Row) → fits_of q S ≡ true → row_of q.phase ≡ x → phase_fits x q S ≡ true
unfolding fits_of
fits_phase q S x f e =
    subst (λ y. phase_fits y q S ≡ true) e
    (and_right (leb q.done q.z) _ (and_right (size_fits q S) _ f))

pub fits_done : (q : Producer) (S : ℕ) → fits_of q S ≡ true → q.done ≤ q.z
unfolding fits_of
fits_done q S f = leb-true q.done q.z (and_left (leb q.done q.z) _ (and_right (size_fits q S) _ f))

pub not_zero : (z : ℕ) → not (eqb z 0) ≡ true → z ≡ 0 → ⊥
not_zero z t e = false≢true (sym (ap not (eq-eqb z 0 e)) ∙ t)

-- a flush in swap has something to close
pub flush_past : (q : Producer) (S : ℕ) → q.z ≡ 0 → phase_fits swapping q S ≡ true → 0 < offset_of q.w S
unfolding phase_fits
flush_past q S z t = go (offset_of q.w S) (rw (eq-eqb q.z 0 z) at t)
  where
    go : (o : ℕ) → not (eqb o 0) ≡ true → 0 < o
    go o t = let n = not_zero o t in omega (arith, n)

-- what opens is an event
pub open_event : (q : Producer) (S : ℕ) → phase_fits opening q S ≡ true → Event q
unfolding phase_fits
open_event q S t = not_zero q.z (and_left (not (flushing q)) _ t)

-- a write goes no further than the record
pub chunk_end : (q : Producer) → q.done ≤ q.z → q.z < word → add32 q.done (chunk_of q) ≤ q.z
unfolding add32
chunk_end q h k = go (dec_lt (q.z - q.done) 8)
  where
    go : Dec (q.z - q.done < 8) → (q.done + chunk_of q) % word ≤ q.z
    go (yes c) = rw (chunk_rest q 0 c) (omega arith)
    go (no c) = rw (chunk_eight q 0 (omega arith)) (omega arith)

pub chunk_sum : (q : Producer) → q.done ≤ q.z → q.z < word → add32 q.done (chunk_of q) ≡ q.done + chunk_of q
unfolding add32
chunk_sum q h k = go (dec_lt (q.z - q.done) 8)
  where
    go : Dec (q.z - q.done < 8) → (q.done + chunk_of q) % word ≡ q.done + chunk_of q
    go (yes c) = rw (chunk_rest q 0 c) (omega arith)
    go (no c) = rw (chunk_eight q 0 (omega arith)) (omega arith)

-- a flush is idle after close, an event opens
pub pad_next : (z : ℕ) → (◌≡◌ {A = ℕ} (cond (eqb z 0) 0 9) 0) ⊎ (◌≡◌ {A = ℕ} (cond (eqb z 0) 0 9) 9)
pad_next z = go (eqb z 0)
  where
    go : (b : Bool) → (◌≡◌ {A = ℕ} (cond b 0 9) 0) ⊎ (◌≡◌ {A = ℕ} (cond b 0 9) 9)
    go true = inl refl
    go false = inr refl
