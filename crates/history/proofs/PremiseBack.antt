-- The other direction: the form that a proof uses asks no more than the premise.
use Prim.Native.Nat.{ℕ, suc, ◌+◌, ◌<◌}
use mathlib.Core.Path.{◌≡◌, refl, sym, ap, subst, ◌∙◌}
use mathlib.Core.Bool.{Bool, true, false, cond}
use mathlib.Core.List.{List, [], ◌∷◌, ◌++◌}
use native.Mathlib.Decide.{dec_lt, ℕ_discrete}
use native.Mathlib.Omega.{arith}
use lib.Dec.{eqb}
use lib.ListN.{length, get_or, set, take, get_or-eq_default}
use lib.Seq.{get_or-set_same, get_or-set_other}
use borrow.Author.Tests.{eqb-false, eq-eqb, ne_eqb}
use Rattle.counts.specs.declared.place.Place.{Place}
use Rattle.steps.specs.declared.producer.Producer.{Producer}
use Rattle.steps.specs.Producer.{flushing, nobody, place_at}
use Rattle.steps.specs.declared.rows.Swapped.{Swapped}
use Rattle.steps.specs.Rows.{swap_row, after_swap}
use Rattle.steps.specs.RowsLaws.{swap_flush, swap_room}
use Rattle.steps.specs.Step.{Whose, padding, heading, slot, Stage, add, look, see, set as setting, Row, idle, reading, judging, swapping, closing as shutting, opening, writing, ending, committing, nothing, row_of, step_by, moved_by}
use Rattle.ring.specs.declared.state.Ring.{Ring}
use Rattle.ring.specs.Calls.{stepped}
use Rattle.ring.specs.State.{at, shared_at}
use Rattle.ring.specs.World.{World, Call, offer, flush, step, get, put, code_of}
use Rattle.history.specs.Log.{Log, work_at, note_offer, note_flush, note_judge, note_fate, note_open, note_add, note_get, note_put}
use Rattle.history.specs.History.{Moment, note_swap, note_commit, note_row, note_call, next, ends}
use Rattle.history.specs.Premise.{half, IsIdle, Starts, Premise}
use Rattle.history.proofs.Accepted.{done, by_answer, offer_ok, flush_ok}
use Rattle.history.proofs.PremiseLaws.{Near, Calm, call_start, starts_now, works_length, ends_append}

-- ---- a step that ends a producer's work reserves nothing

after_busy : (place : Place) → after_swap place ≡ 0 → ⊥
after_busy place = go place.closes place.enters
  where
    go : (a b : Bool) → ◌≡◌ {A = ℕ} (cond a 4 (cond b 9 14)) 0 → ⊥
    go true b e = eqb-false 4 0 refl e
    go false true e = eqb-false 9 0 refl e
    go false false e = eqb-false 14 0 refl e

swap_quiet : (r : Ring) (p : ℕ) (l : Log) → (swap_row (at r p) r.write r.lost r.size).q.phase ≡ 0 →
    (note_swap (eqb r.write.0 (at r p).w.0) (flushing (at r p)) (at r p).full p r.size l).write ≡ l.write
unfolding note_fate
swap_quiet r p l h = go (ℕ_discrete r.write.0 (at r p).w.0) (ℕ_discrete (at r p).z 0) (at r p).full refl
  where
    q : Producer
    q = at r p

    next_phase : (x : Swapped) → swap_row q r.write r.lost r.size ≡ x → x.q.phase ≡ 0
    next_phase x e = rw (← e) h

    go : Dec (r.write.0 ≡ q.w.0) → Dec (q.z ≡ 0) → (full : Bool) → q.full ≡ full →
        (note_swap (eqb r.write.0 q.w.0) (flushing q) q.full p r.size l).write ≡ l.write
    go (yes e) (yes z) full f = absurd (eqb-false 4 0 refl (next_phase _ (swap_flush q r.write r.lost r.size e z)))
    go (yes e) (no n) true f = rw (eq-eqb r.write.0 q.w.0 e, ne_eqb q.z 0 n, f)
    go (yes e) (no n) false f = absurd (after_busy (place_at q r.size) (next_phase _ (swap_room q r.write r.lost r.size e n f)))
    go (no n) z full f = rw (ne_eqb r.write.0 q.w.0 n)

commit_quiet : (whose : Whose) (stage : Stage) (p : ℕ) (l : Log) → (note_commit whose stage p l).write ≡ l.write
unfolding note_add note_fate
commit_quiet padding add p l = refl
commit_quiet heading add p l = refl
commit_quiet slot add p l = refl
commit_quiet whose look p l = refl
commit_quiet whose see p l = refl
commit_quiet whose setting p l = refl

row_quiet : (x : Row) (r : Ring) (p k : ℕ) (l : Log) → (moved_by x (at r p) (shared_at r k) r.size r.parts).q.phase ≡ 0 → (note_row x r p l).write ≡ l.write
unfolding moved_by note_row note_judge note_open
row_quiet idle r p k l h = refl
row_quiet reading r p k l h = refl
row_quiet judging r p k l h = refl
row_quiet swapping r p k l h = swap_quiet r p l h
row_quiet shutting r p k l h = refl
row_quiet opening r p k l h = refl
row_quiet writing r p k l h = refl
row_quiet ending r p k l h = refl
row_quiet (committing whose stage) r p k l h = commit_quiet whose stage p l
row_quiet nothing r p k l h = refl

-- a busy producer is one of the list
listed : (l : List Producer) (p : ℕ) → ((get_or l p nobody).phase ≡ 0 → ⊥) → p < length l
listed l p n = go (dec_lt p (length l))
  where
    go : Dec (p < length l) → p < length l
    go (yes h) = h
    go (no h) = absurd (n (ap (λ (q : Producer). q.phase) (get_or-eq_default l nobody {n = p} (omega arith))))

own_phase : (l : List Producer) (p q : ℕ) (r : Producer) → p ≡ q → p < length l → (get_or (set l q r) p nobody).phase ≡ 0 → r.phase ≡ 0
own_phase l p q r e h z = ap (λ (x : Producer). x.phase) (sym (subst (λ x. get_or (set l x r) p nobody ≡ r) e (get_or-set_same l p r nobody h))) ∙ z

-- a call after which a busy producer is idle was a step of its own, and reserved nothing
quiet : (w : World) (c : Call) (l : Log) (p : ℕ) → code_of w c ≡ 0 → ((at w.ring p).phase ≡ 0 → ⊥) → (at (done w c).ring p).phase ≡ 0 → (note_call w c l).write ≡ l.write
unfolding note_call note_offer note_flush note_get note_put stepped step_by
quiet w (offer q kind payload) l p e busy z = refl
quiet w (flush q) l p e busy z = refl
quiet w (step q) l p e busy z = go (ℕ_discrete p q)
  where
    go : Dec (p ≡ q) → (note_row (row_of (at w.ring q).phase) w.ring q l).write ≡ l.write
    go (yes x) =
        row_quiet (row_of (at w.ring q).phase) w.ring q _ l (own_phase w.ring.producer p q _ x (listed w.ring.producer p busy) z)
    go (no x) = absurd (busy (rw (get_or-set_other w.ring.producer q p _ nobody x) at z))
quiet w get l p e busy z = refl
quiet w put l p e busy z = refl

-- a start reserves nothing, and is refused of a busy producer
start_quiet : (w : World) (c : Call) (l : Log) (p : ℕ) → Starts c p → (note_call w c l).write ≡ l.write
unfolding note_call note_offer note_flush
start_quiet w (offer q kind payload) l p s = refl
start_quiet w (flush q) l p s = refl
start_quiet w (step q) l p s = absurd s
start_quiet w get l p s = absurd s
start_quiet w put l p s = absurd s

start_idle : (w : World) (c : Call) (p : ℕ) → code_of w c ≡ 0 → Starts c p → (at w.ring p).phase ≡ 0
unfolding code_of
start_idle w (offer q kind payload) p e s = subst (λ x. (at w.ring x).phase ≡ 0) s (offer_ok w.ring q _ _ e).idle
start_idle w (flush q) p e s = subst (λ x. (at w.ring x).phase ≡ 0) s (flush_ok w.ring q e).idle
start_idle w (step q) p e s = absurd s
start_idle w get p e s = absurd s
start_idle w put p e s = absurd s

-- ---- along a stretch

module _ (m : Moment) (p : ℕ) (c : Call) (len : length m.log.works ≡ 8) where
  -- after i calls of the stretch the producer began where it did, and few bytes are reserved
  record Few (x : Moment) : Type 0 where
    pub long : length x.log.works ≡ 8
    pub began : (work_at x.log p).began ≡ m.log.write
    pub few : x.log.write < m.log.write + half

  first : code_of m.world c ≡ 0 → Starts c p → Few (next m c)
  first e s =
      record {
        long = works_length m c len;
        began = by_answer m c (λ x. (work_at x.log p).began ≡ m.log.write) (λ a. starts_now m c p len e s) (λ n. absurd (n e));
        few = by_answer m c (λ x. x.log.write < m.log.write + half) (λ a. rw (start_quiet m.world c m.log p s) (omega arith)) (λ n. omega arith);
      }

  one_more : (x : Moment) (d : Call) → (IsIdle x p → ⊥) → Near (next x d) → Few x → Few (next x d)
  one_more x d busy near f = record { long = works_length x d f.long; began = same; few = go (ℕ_discrete (at (next x d).world.ring p).phase 0) }
    where
      same : (work_at (next x d).log p).began ≡ m.log.write
      same =
          by_answer x d (λ y. (work_at y.log p).began ≡ m.log.write)
          (λ e. call_start x.world d x.log p (λ s. busy (start_idle x.world d p e s)) ∙ f.began)
          (λ n. f.began)

      go : Dec (IsIdle (next x d) p) → (next x d).log.write < m.log.write + half
      go (yes z) =
          by_answer x d (λ y. IsIdle y p → y.log.write < m.log.write + half)
          (λ e i. rw (quiet x.world d x.log p e busy i) f.few)
          (λ n i. f.few)
          z
      go (no n) = subst (λ y. (next x d).log.write < y + half) same (near p n)

  along : (x : Moment) (during : List Call) → ((i : ℕ) → i < length during → IsIdle (ends x (take i during)) p → ⊥) → Calm x during → Few x → Few (ends x during)
  unfolding ends Calm
  along x [] busy calm f = f
  along x (d ∷ ds) busy calm f =
      along (next x d) ds (λ i h. busy (suc i) (omega arith)) calm.1 (one_more x d (busy 0 (omega arith)) calm.0 f)

-- ---- what asks of a history asks of its pieces

calm_behind : (m : Moment) (a b : List Call) → Calm m (a ++ b) → Calm (ends m a) b
unfolding Calm ends
calm_behind m [] b calm = calm
calm_behind m (c ∷ a) b calm = calm_behind (next m c) a b calm.1

calm_before : (m : Moment) (a b : List Call) → Calm m (a ++ b) → Calm m a
unfolding Calm
calm_before m [] b calm = tt
calm_before m (c ∷ a) b calm = (calm.0, calm_before (next m c) a b calm.1)

ends_length : (m : Moment) (a : List Call) → length m.log.works ≡ 8 → length (ends m a).log.works ≡ 8
unfolding ends
ends_length m [] e = e
ends_length m (c ∷ a) e = ends_length (next m c) a (works_length m c e)

pub premise_of : (m : Moment) (h : List Call) → length m.log.works ≡ 8 → Calm m h → Premise m h
unfolding Calm ends
premise_of m h len calm before during behind c p e s =
    let from = ends m before in
    let there : Calm from (c ∷ (during ++ behind)) = calm_behind m before (c ∷ (during ++ behind)) (subst (Calm m) e calm) in
    let long = ends_length m before len in
    let f = along from p c long (next from c) during s.busy (calm_before (next from c) during behind there.1) (first from p c long s.accepted s.starts) in
    let g : (ends m (before ++ (c ∷ during))).log.write < from.log.write + half = rw (ends_append m before (c ∷ during)) f.few in
    omega arith
