-- Positions and book: every call keeps them.
use Prim.Native.Nat.{ℕ, zero, suc, ◌+◌, ◌-◌, ◌*◌, ◌/◌, ◌%◌, ◌≤◌, ◌<◌}
use mathlib.Core.Path.{◌≡◌, refl, sym, ap, subst, ◌∙◌}
use mathlib.Core.Logic.{◌≢◌}
use mathlib.Core.Bool.{true, false, false≢true}
use mathlib.Core.List.{List, []}
use native.Mathlib.Nat.{div-add-mod', mod-lt, le_refl, mul-le-mul_left}
use native.Mathlib.Omega.{arith}
use lib.Dec.{T}
use lib.ListN.{length, get_or, replicate, get_or-replicate}
use lib.Seq.{get_or-set_other}
use Rattle.counts.specs.Commit.{commit, ready_of}
use Rattle.counts.specs.Position.{position, plus_of, byte_of, part_of}
use Rattle.counts.specs.Wrap.{word, add32}
use Rattle.layout.specs.Record.{Rec, record_of}
use Rattle.layout.specs.Sizes.{header, head, record_size, least_used}
use Rattle.steps.specs.declared.producer.Producer.{Producer}
use Rattle.steps.specs.Producer.{nobody, starts}
use Rattle.steps.specs.Step.{swapping, row_of}
use Rattle.ring.specs.declared.state.Ring.{Ring}
use Rattle.ring.specs.Calls.{stepped as afterStep, fresh_of}
use Rattle.ring.specs.Refusals.{fresh_refusal, ready_at}
use Rattle.ring.specs.State.{begun, at, with_producer, with_offered, with_read, with_holding}
use Rattle.ring.specs.World.{World, Call, offer, flush, step, get, put, code_of}
use Rattle.history.specs.Lists.{sum_by}
use Rattle.history.specs.Log.{Log, started, work_at, note_offer, note_flush, note_get, note_put}
use Rattle.history.specs.History.{Moment, note_row, note_call, next, fresh}
use Rattle.history.specs.Premise.{half, IsIdle}
use Rattle.history.proofs.Accepted.{done, by_answer, offer_ok, flush_ok, step_ok, get_ok, put_ok}
use Rattle.history.proofs.BookCalls.{size_is, offer_book, flush_book, get_book, put_book, Fresh, fresh_ok, start_round, fresh_book}
use Rattle.history.proofs.BookGood.{Whole, step_whole}
use Rattle.history.proofs.Chain.{Chain}
use Rattle.history.proofs.Frame.{idle_keeps}
use Rattle.history.proofs.Geometry.{s_pos, n_pos, at_div, part_wrap}
use Rattle.history.proofs.Invariant.{says, says_of, Core, KeepOf}
use Rattle.history.proofs.PremiseLaws.{Near, call_start}
use Rattle.history.proofs.Reader.{holding, slid, get_core, get_keep, put_core, put_keep}
use Rattle.history.proofs.Simple.{unseen, start_keeps}
use Rattle.history.proofs.View.{Truth, View, view_of, no_mark, with_mark, with_lo}

abbrev pub WholeAt : Moment → Type 0
WholeAt m = Whole m.world.ring m.log

-- ---- starts

-- a record that is not refused fits behind a header
fits_behind : (S L : ℕ) → 64 ≤ S → L ≤ S - least_used → header + record_size L ≤ S
unfolding header head record_size least_used
fits_behind S L a b = omega arith

module _ (r : Ring) (l : Log) (p : ℕ) (lt : p < r.producers) (idle_now : (at r p).phase ≡ 0) (W : Whole r l) where
  abbrev t : Truth
  t = W.good.truth

  I : Core (view_of r l t)
  I = W.good.core

  lq : p < length r.producer
  lq = omega (arith, I.lens.producer, I.shape.producers_high)

  lk : p < length l.works
  lk = omega (arith, I.lens.works, I.shape.producers_high)

  offer_whole : (kind : ℕ) (payload : List ℕ) → length payload ≤ r.size - least_used →
      Whole (with_producer p (starts (record_size (length payload))) (with_offered (add32 r.offered 1) r)) (note_offer p (record { kind = kind; producer = p; payload = payload }) l)
  unfolding note_offer
  offer_whole kind payload short =
      let B = offer_book r l p lt lq lk idle_now W.book kind payload in
      record {
        good = record {
          truth = with_mark p (unseen (record_of new)) t;
          core = start_keeps (view_of r l t) p (record_size (length payload)) (length l.events) (record_of new) lt (λ n. (fits_behind r.size (length payload) I.shape.size_low short, size_is new)) I;
          keep = W.good.keep;
        };
        book = record { tally = B.tally; reach = B.reach; entries = B.entries };
      }
    where
      new : Rec
      new = record { kind = kind; producer = p; payload = payload }

  flush_whole : Whole (with_producer p (starts 0) r) (note_flush p l)
  unfolding note_flush
  flush_whole =
      let B = flush_book r l p lt lq lk idle_now W.book in
      record {
        good = record { truth = with_mark p (unseen []) t; core = start_keeps (view_of r l t) p 0 (work_at l p).event [] lt (λ n. absurd (n refl)) I; keep = W.good.keep };
        book = record { tally = B.tally; reach = B.reach; entries = B.entries };
      }

-- ---- get and put

module _ (r : Ring) (l : Log) (W : Whole r l) where
  abbrev t₁ : Truth
  t₁ = W.good.truth

  I₁ : Core (view_of r l t₁)
  I₁ = W.good.core

  K₁ : KeepOf (view_of r l t₁)
  K₁ = W.good.keep

  -- the sub-buffer at the read count
  pub read-part : part_of r.read r.size r.parts ≡ t₁.lo % r.parts
  unfolding part_of byte_of
  read-part =
      ap (λ x. x % (r.size * r.parts) / r.size) (I₁.rem.read ∙ ap (λ x. x * r.size % word) (sym K₁.here))
      ∙ part_wrap I₁.shape (t₁.lo * r.size)
      ∙ ap (λ x. x % r.parts) (ap (λ x. x / r.size) (omega arith) ∙ at_div r.size t₁.lo 0 (s_pos I₁.shape))

  get_whole : (bytes : List ℕ) → ready_at r r.read ≡ true → Whole (with_holding true r) (note_get bytes l)
  unfolding note_get
  get_whole bytes ready =
      let B = get_book r l bytes W.book in
      record {
        good = record {
          truth = t₁;
          core = get_core (view_of r l t₁) I₁ K₁;
          keep = get_keep (view_of r l t₁) I₁ K₁ (subst (λ i. ready_of r.read (get_or r.seq i (commit 0)) r.size r.parts ≡ true) read-part ready);
        };
        book = record { tally = B.tally; reach = B.reach; entries = B.entries };
      }

  put_whole : r.holding ≡ true → Whole (with_holding false (with_read (plus_of r.read r.size) r)) (note_put l)
  unfolding note_put plus_of add32
  put_whole held =
      let B = put_book r l W.book in
      record {
        good = record {
          truth = with_lo (suc t₁.lo) t₁;
          core = subst (λ k. Core (holding false ((r.read.0 + r.size) % word) k (slid (view_of r l t₁)))) on (put_core (view_of r l t₁) I₁ K₁ held ((r.read.0 + r.size) % word) moves);
          keep = subst (λ k. KeepOf (holding false ((r.read.0 + r.size) % word) k (slid (view_of r l t₁)))) on (put_keep (view_of r l t₁) I₁ K₁ held ((r.read.0 + r.size) % word));
        };
        book = record { tally = B.tally; reach = B.reach; entries = B.entries };
      }
    where
      on : suc (l.start / r.size + l.back) ≡ l.start / r.size + suc l.back
      on = omega arith

      moves : (r.read.0 + r.size) % word ≡ suc (l.start / r.size + l.back) * r.size % word
      moves = up (l.start / r.size + l.back) I₁.rem.read
        where
          up : (k : ℕ) → r.read.0 ≡ k * r.size % word → (r.read.0 + r.size) % word ≡ suc k * r.size % word
          up k e = omega arith

-- ---- every call

-- a producer that is busy is not idle
busy_not : (q : Producer) → T (says_of q).busy → q.phase ≡ 0 → ⊥
unfolding says row_of
busy_not q u z = subst (λ k. T (says (row_of k)).busy) z u

swap_not : (q : Producer) → row_of q.phase ≡ swapping → q.phase ≡ 0 → ⊥
unfolding says row_of
swap_not q s z = busy_not q (rw s tt) z

call_whole : (w : World) (c : Call) (l : Log) → code_of w c ≡ 0 → Near (record { world = w; log = l }) → Near (record { world = done w c; log = note_call w c l }) →
    Whole w.ring l → Whole (done w c).ring (note_call w c l)
unfolding code_of note_call afterStep
call_whole w (offer p kind payload) l ok before after W = let o = offer_ok w.ring p _ _ ok in offer_whole w.ring l p o.below o.idle W kind payload o.short
call_whole w (flush p) l ok before after W = let o = flush_ok w.ring p ok in flush_whole w.ring l p o.below o.idle W
call_whole w (step p) l ok before after W =
    let s = step_ok w.ring p _ _ ok in
    step_whole w.ring l p s.below s.fits (λ o h u. before o (busy_not (at w.ring o) u)) (λ o h ne sw. others o ne sw) W
  where
    others : (o : ℕ) → o ≢ p → row_of (at w.ring o).phase ≡ swapping → (note_row (row_of (at w.ring p).phase) w.ring p l).write < (work_at l o).began + half
    others o ne sw =
        subst (λ b. (note_row (row_of (at w.ring p).phase) w.ring p l).write < b + half) (call_start w (step p) l o (λ x. x))
        (after o (λ z. swap_not (at w.ring o) sw (ap (λ y. y.phase) (sym (get_or-set_other w.ring.producer p o _ nobody ne)) ∙ z)))
call_whole w get l ok before after W = let g = get_ok w.ring ok in get_whole w.ring l W _ g.ready
call_whole w put l ok before after W = put_whole w.ring l W (put_ok w.ring ok)

pub next_whole : (m : Moment) (c : Call) → Near m → Near (next m c) → WholeAt m → WholeAt (next m c)
next_whole m c before after W =
    by_answer m c (λ x. Near x → WholeAt x) (λ ok near. call_whole m.world c m.log ok before near W) (λ n near. W) after

-- ---- fresh

-- a count and its remainder, all along
rem_all : (n i x : ℕ) → x < word → (get_or (replicate n (commit x)) i (commit 0)).0 ≡ get_or (replicate n x) i 0 % word
rem_all zero i x h = refl
rem_all (suc n) zero x h = omega arith
rem_all (suc n) (suc i) x h = rem_all n i x h

-- the true numbers of a fresh ring
abbrev begins : (S N start : ℕ) → Truth
begins S N start = record { lo = start / S; C = replicate 16 (start / N); Q = replicate 16 (start / N); marks = replicate 8 no_mark }

module _ (S N P start : ℕ) (low : start < word) (F : Fresh S N P start) where
  abbrev ring : Ring
  ring = begun S N P (position start) (commit (start / N)) nobody

  abbrev v : View
  v = view_of ring (started start) (begins S N start)

  -- start is a whole number of laps
  laps : start ≡ start / (S * N) * (S * N)
  laps = omega (arith, div-add-mod' start (S * N), F.round)

  -- the first part of a lap, and where its commit counts start
  first_is : start / S ≡ start / (S * N) * N
  first_is =
      let e : start ≡ start / (S * N) * N * S + 0 = omega (arith, laps) in
      ap (λ x. x / S) e ∙ at_div S (start / (S * N) * N) 0 (s_pos F.shape)

  count_is : start / N ≡ start / (S * N) * S
  count_is =
      let e : start ≡ start / (S * N) * S * N + 0 = omega (arith, laps) in
      ap (λ x. x / N) e ∙ at_div N (start / (S * N) * S) 0 (n_pos F.shape)

  count_low : start / N < word
  count_low = omega (arith, div-add-mod' start N, mul-le-mul_left (start / N) F.shape.parts_low)

  -- part k of the window is of this lap
  lap_is : (k : ℕ) → start / S ≤ k → k < start / S + N → get_or (replicate 16 (start / N)) (k % N) 0 ≡ S * (k / N)
  lap_is k a b =
      let e : k ≡ start / (S * N) * N + (k - start / S) = omega (arith, first_is) in
      let d : k / N ≡ start / (S * N) = ap (λ x. x / N) e ∙ at_div N (start / (S * N)) (k - start / S) (omega arith) in
      get_or-replicate 16 (k % N) (start / N) 0 (omega (arith, mod-lt k (n_pos F.shape), F.shape.parts_high)) ∙ count_is ∙ omega (arith, ap (λ x. S * x) d)

  fresh_core : Core v
  unfolding says row_of Chain sum_by
  fresh_core =
      record {
        shape = F.shape;
        lens = record { producer = refl; works = refl; marks = refl; commit = refl; seq = refl; C = refl; Q = refl };
        rem = record { write = omega (arith, low); read = at_read; commit = λ i. rem_all 16 i (start / N) count_low; seq = λ i. rem_all 16 i (start / N) count_low };
        span = record {
          first = omega (arith, begin);
          low = omega (arith, begin);
          high = omega (arith, begin);
          past_head = λ h. absurd (omega (arith, begin, div-add-mod' start S));
        };
        chain = refl;
        win = λ k a b. lap_is k a b ∙ omega arith;
        seqs = λ i. le_refl _;
        prod = λ p h.
            rw (get_or-replicate 8 p nobody nobody (omega (arith, F.shape.producers_high))) (idle_keeps S N p nobody _ _ start (start / S) _ _ [] refl);
        old = λ j h. absurd (omega arith);
      }
    where
      begin : start / S * S ≡ start
      begin = start_round S N P start F

      at_read : start ≡ (start / S + 0) * S % word
      at_read = omega (arith, begin, low)

  fresh_keep : KeepOf v
  fresh_keep = record { here = omega arith; low = λ k a b. omega (arith, lap_is k a b); held = λ h. absurd (false≢true h) }

pub fresh_whole : (S N P start : ℕ) → fresh_refusal S N P (position start) ≡ 0 → start < word → Whole (fresh_of S N P (position start)).ring (started start)
unfolding fresh_of
fresh_whole S N P start ok low =
    let F = fresh_ok S N P start ok in
    record {
      good = rw ok (record { truth = begins S N start; core = fresh_core S N P start low F; keep = fresh_keep S N P start low F });
      book = fresh_book S N P start ok;
    }

-- ---- every history under the premise

module _ (S N P start : ℕ) (memory desks : List ℕ) (ok : fresh_refusal S N P (position start) ≡ 0) (low : start < word) where
  -- all are idle
  pub rest : (p : ℕ) → IsIdle (fresh S N P start memory desks) p
  unfolding fresh fresh_of
  rest p = rw ok (all_idle 8 p)
    where
      all_idle : (n p : ℕ) → (get_or (replicate n nobody) p nobody).phase ≡ 0
      all_idle zero p = refl
      all_idle (suc n) zero = refl
      all_idle (suc n) (suc p) = all_idle n p
