-- Demand 3, of every history under the premise.
use Prim.Native.Nat.{ℕ, zero, suc, ◌+◌, ◌*◌, ◌/◌, ◌%◌, ◌<◌}
use mathlib.Core.Path.{◌≡◌, refl, sym, ap, subst, ◌∙◌}
use mathlib.Core.Bool.{Bool, true, false, cond, false≢true}
use mathlib.Core.List.{List, [], ◌∷◌}
use native.Mathlib.Omega.{arith}
use lib.Dec.{eqb}
use lib.ListN.{length, get_or, replicate, take, drop}
use borrow.Author.Tests.{eqb-false}
use Rattle.counts.specs.Position.{position}
use Rattle.counts.specs.Shape.{size_of, shape_of}
use Rattle.counts.specs.Tests.{and_left}
use Rattle.counts.specs.Wrap.{word}
use Rattle.steps.specs.Producer.{nobody}
use Rattle.steps.specs.Step.{Whose, Stage, idle, committing, row_of}
use Rattle.ring.specs.declared.state.Ring.{Ring}
use Rattle.ring.specs.Calls.{fresh_of, held_of, stepped as afterStep}
use Rattle.ring.specs.Refusals.{fresh_refusal}
use Rattle.ring.specs.State.{with_holding}
use Rattle.ring.specs.World.{World, Call, offer, flush, step, get, put, code_of, after}
use Rattle.history.specs.Log.{Log, started, note_get}
use Rattle.history.specs.History.{Moment, note_call, next, ends, fresh}
use Rattle.history.specs.Premise.{IsIdle}
use Rattle.history.specs.Promise.{Delivered, Parts, Held, Promise, Demand3}
use Rattle.history.proofs.Accepted.{done, accepted, by_answer, step_ok, get_ok, put_ok}
use Rattle.history.proofs.BookGood.{Whole}
use Rattle.history.proofs.BookLists.{each_at}
use Rattle.history.proofs.BookPromise.{events_of}
use Rattle.history.proofs.BookWhole.{WholeAt, read-part, next_whole, fresh_whole, rest}
use Rattle.history.proofs.Delivering.{held_shows}
use Rattle.history.proofs.Everything.{GroundAt, call_ground}
use Rattle.history.proofs.Geometry.{s_pos, byte_at}
use Rattle.history.proofs.Ground.{Ground}
use Rattle.history.proofs.Invariant.{says}
use Rattle.history.proofs.Out.{Out, ones, step_out, offer_out, flush_out, get_out, put_out}
use Rattle.history.proofs.PremiseLaws.{Near, Calm, calm_of}
use Rattle.history.proofs.Stand.{stands_taken, stand}

-- ---- the whole invariant, and that every call keeps it

pub record All (m : Moment) : Type 0 where
  pub shape : shape_of m.world.ring.size m.world.ring.parts m.world.ring.producers ≡ true
  pub whole : WholeAt m
  pub ground : GroundAt m.world m.log
  pub out : Out m.world.ring m.log m.world.memory

size_fits : (S N P : ℕ) → shape_of S N P ≡ true → size_of S ≡ true
unfolding shape_of
size_fits S N P e = and_left (size_of S) _ e

call_shape : (w : World) (c : Call) → shape_of w.ring.size w.ring.parts w.ring.producers ≡ true → shape_of (done w c).ring.size (done w c).ring.parts (done w c).ring.producers ≡ true
unfolding afterStep
call_shape w (offer p kind payload) e = e
call_shape w (flush p) e = e
call_shape w (step p) e = e
call_shape w get e = e
call_shape w put e = e

-- what was delivered, call by call
call_out : (w : World) (c : Call) (l : Log) → code_of w c ≡ 0 → All (record { world = w; log = l }) → Whole (done w c).ring (note_call w c l) → GroundAt (done w c) (note_call w c l) →
    Out (done w c).ring (note_call w c l) (done w c).memory
unfolding code_of note_call
call_out w (offer p kind payload) l ok A W₁ G₁ = offer_out w.ring _ l w.memory p _ refl refl refl A.whole A.out
call_out w (flush p) l ok A W₁ G₁ = flush_out w.ring _ l w.memory p refl refl refl A.whole A.out
call_out w (step p) l ok A W₁ G₁ =
    let s = step_ok w.ring p _ _ ok in
    step_out w.ring l p s.below s.fits (size_fits w.ring.size _ _ A.shape) A.whole w.memory w.desks A.ground A.out
call_out w get l ok A W₁ G₁ =
    subst (λ (y : World). Whole r₁ (note_get (held_of y.ring w.memory) l) → Ground r₁ (note_get (held_of y.ring w.memory) l) w.memory w.desks →
    Out r₁ (note_get (held_of y.ring w.memory) l) w.memory) (sym (accepted w get ok))
    (λ W G. get_out w.ring l w.memory w.desks (get_ok w.ring ok).free A.whole A.out (size_fits w.ring.size _ _ A.shape) A.shape W G) W₁ G₁
  where
    r₁ : Ring
    r₁ = with_holding true w.ring
call_out w put l ok A W₁ G₁ = put_out w.ring l w.memory _ (put_ok w.ring ok) A.whole A.out

next_all : (m : Moment) (c : Call) → Near m → Near (next m c) → All m → All (next m c)
next_all m c before after A =
    by_answer m c (λ x. WholeAt x → All x)
    (λ ok W₁.
    let G₁ = call_ground m.world c m.log ok A.whole A.ground in
    record { shape = call_shape m.world c A.shape; whole = W₁; ground = G₁; out = call_out m.world c m.log ok A W₁ G₁ })
    (λ n W₁. A)
    (next_whole m c before after A.whole)

ends_all : (m : Moment) (h : List Call) → Near m → Calm m h → All m → All (ends m h)
unfolding ends Calm
ends_all m [] near calm A = A
ends_all m (c ∷ cs) near calm A = ends_all (next m c) cs calm.0 calm.1 (next_all m c near calm.0 A)

-- ---- fresh

module _ (S N P start : ℕ) (memory desks : List ℕ) (ok : fresh_refusal S N P (position start) ≡ 0) (low : start < word) (ring_long : length memory ≡ S * N) (desks_long : length desks ≡ P * S) where
  shape_is : shape_of S N P ≡ true
  unfolding fresh_refusal
  shape_is = go (shape_of S N P) refl ok
    where
      go : (a : Bool) → shape_of S N P ≡ a → ◌≡◌ {A = ℕ} (cond a (cond (eqb (start % (S * N)) 0) 0 2) 1) 0 → shape_of S N P ≡ true
      go true x e = x
      go false x e = absurd (eqb-false 1 0 refl e)

  -- every producer is idle
  idle_now : (p : ℕ) → get_or (replicate 8 nobody) p nobody ≡ nobody
  idle_now p = nobody_at 8 p
    where
      nobody_at : (n p : ℕ) → get_or (replicate n nobody) p nobody ≡ nobody
      nobody_at zero p = refl
      nobody_at (suc n) zero = refl
      nobody_at (suc n) (suc p) = nobody_at n p

  fresh_ground : Ground (fresh_of S N P (position start)).ring (started start) memory desks
  unfolding fresh_of says row_of
  fresh_ground =
      rw ok (record {
        mem_long = ring_long;
        desks_long = desks_long;
        whole = λ j h. absurd (omega arith);
        prod = λ p h. rw (idle_now p) (record { closed = λ e. absurd (no_row e); opened = λ e. absurd (no_row e); written = λ u. absurd u; ended = λ e. absurd (no_row e); desk = λ u. absurd u });
      })
    where
      no_row : {whose : Whose} {stage : Stage} → idle ≡ committing whose stage → ⊥
      no_row e = let z : ◌≡◌ {A = ℕ} 0 1 = cc in omega arith

  fresh_out : Out (fresh_of S N P (position start)).ring (started start) memory
  unfolding fresh_of
  fresh_out = rw ok (record { count = refl; given = λ j h. absurd (omega arith); long = λ h. absurd (false≢true h); shows = λ h. absurd (false≢true h) })

  fresh_shape : shape_of (fresh_of S N P (position start)).ring.size (fresh_of S N P (position start)).ring.parts (fresh_of S N P (position start)).ring.producers ≡ true
  unfolding fresh_of
  fresh_shape = rw ok shape_is

  fresh_all : All (fresh S N P start memory desks)
  unfolding fresh
  fresh_all = record { shape = fresh_shape; whole = fresh_whole S N P start ok low; ground = fresh_ground; out = fresh_out }

-- ---- the promise

promise_of : (m : Moment) → All m → Promise m
promise_of m A =
    let E = events_of m A.whole in
    record { fates = E.fates; losses = E.losses; counts = E.counts; once = E.once; stand = stand m A.whole A.ground A.out; parts = parts; held = held }
  where
    parts : Parts m
    parts = each_at (λ j part. Delivered m (m.log.start / m.world.ring.size + j) part) m.log.delivered [] (λ j h. let g = A.out.given j h in record { decodes = g.decodes; holds = g.holds; whole = g.whole })

    held : Held m
    held h = (A.out.count ∙ ap (λ b. m.log.back + ones b) h ∙ omega arith, shown h)
      where
        shown : m.world.ring.holding ≡ true → held_of m.world.ring m.world.memory ≡ get_or m.log.delivered m.log.back []
        shown h =
            let r = m.world.ring in
            let mem = m.world.memory in
            let W = A.whole in
            let k = W.good.truth.lo in
            let F = W.good.core.shape in
            let at : k % r.parts * r.size ≡ (k * r.size + 0) % (r.size * r.parts) = omega (arith, byte_at F k 0 (s_pos F)) in
            held_shows r mem k A.shape A.ground.mem_long h (read-part r m.log W)
            ∙ ap (λ n. take r.size (drop n mem)) at
            ∙ stands_taken F mem A.ground.mem_long k 0 (get_or m.log.delivered m.log.back []) r.size (A.out.long h) (s_pos F) (omega arith) (rw W.good.keep.here (A.out.shows h))

pub demand3 : Demand3
unfolding fresh
demand3 S N P start memory desks h ok low ring_long desks_long premise =
    promise_of _ (ends_all (fresh S N P start memory desks) h (λ p busy. absurd (busy (idle p))) (calm_of (fresh S N P start memory desks) h refl idle premise) (fresh_all S N P start memory desks ok low ring_long desks_long))
  where
    idle : (p : ℕ) → IsIdle (fresh S N P start memory desks) p
    idle = rest S N P start memory desks ok low
