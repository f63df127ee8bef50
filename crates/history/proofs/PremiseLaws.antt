-- The premise in the form that a proof by induction uses: at each moment, every producer that is not idle started fewer than 2^31
-- reserved bytes ago.
use Prim.Native.Nat.{ℕ, ◌+◌, ◌-◌, ◌<◌}
use mathlib.Core.Path.{◌≡◌, refl, sym, ap, subst, ◌∙◌}
use mathlib.Core.Bool.{Bool, true, false}
use mathlib.Core.List.{List, [], ◌∷◌, ◌++◌, append_assoc}
use native.Mathlib.Decide.{dec_lt, ℕ_discrete}
use native.Mathlib.Omega.{arith}
use lib.Dec.{eqb}
use lib.ListN.{length, get_or, set, take, length-append, length-set}
use lib.Seq.{get_or-set_same, get_or-set_other, set_out, take-append-le, take-append_seam}
use Rattle.counts.specs.Place.{Fit, entering, inside, closing}
use Rattle.steps.specs.Producer.{flushing, nobody}
use Rattle.steps.specs.Step.{Whose, padding, heading, slot, Stage, add, look, see, set as setting, Row, idle, reading, judging, swapping, closing as shutting, opening, writing, ending, committing, nothing, row_of}
use Rattle.ring.specs.declared.state.Ring.{Ring}
use Rattle.ring.specs.Calls.{stepped}
use Rattle.ring.specs.State.{at}
use Rattle.ring.specs.World.{World, Call, offer, flush, step, get, put, code_of}
use Rattle.history.specs.Log.{Work, Piece, Log, no_work, work_at, placing, note_offer, note_flush, note_judge, note_fate, note_reserved, note_slot, note_pad, note_open, note_add, note_get, note_put}
use Rattle.history.specs.History.{Moment, note_swap, note_commit, note_row, note_call, next, ends}
use Rattle.history.specs.Premise.{half, IsIdle, Starts, Stretch, Premise}
use Rattle.history.proofs.Accepted.{done, by_answer, offer_ok, flush_ok, step_ok}

abbrev pub Near : Moment → Type 0
Near m = (p : ℕ) → (IsIdle m p → ⊥) → m.log.write < (work_at m.log p).began + half

unfoldable pub Calm : Moment → List Call → Type 0
Calm m [] = Unit {0}
Calm m (c ∷ cs) = Near (next m c) × Calm (next m c) cs

-- ---- when a producer began

-- works of which each began when it did
pub record Starting (l k : List Work) : Type 0 where
  pub long : length k ≡ length l
  pub began : (p : ℕ) → (get_or k p no_work).began ≡ (get_or l p no_work).began

alike : (l : List Work) → Starting l l
alike l = record { long = refl; began = λ p. refl }

-- one is exchanged
exchanged : (l : List Work) (q : ℕ) (k : Work) → k.began ≡ (get_or l q no_work).began → Starting l (set l q k)
exchanged l q k e = record { long = length-set l q k; began = λ p. go p (ℕ_discrete p q) (dec_lt q (length l)) }
  where
    go : (p : ℕ) → Dec (p ≡ q) → Dec (q < length l) → (get_or (set l q k) p no_work).began ≡ (get_or l p no_work).began
    go p (yes a) (yes h) = rw a (ap (λ (x : Work). x.began) (get_or-set_same l q k no_work h) ∙ e)
    go p (yes a) (no h) = rw (set_out l q k (omega arith))
    go p (no n) h = rw (get_or-set_other l q p k no_work n)

placing_start : (fit : Fit) (n : ℕ) (k : Work) → (placing fit n k).began ≡ k.began
unfolding placing
placing_start entering n k = refl
placing_start inside n k = refl
placing_start closing n k = refl

reserved_start : (q : ℕ) (fit : Fit) (ps : List Piece) (l : Log) → Starting l.works (note_reserved q fit ps l).works
unfolding note_reserved
reserved_start q fit ps l = exchanged l.works q (placing fit (length l.pieces) (work_at l q)) (placing_start fit (length l.pieces) (work_at l q))

swap_start : (stores flushes full : Bool) (q S : ℕ) (l : Log) → Starting l.works (note_swap stores flushes full q S l).works
unfolding note_pad note_fate note_slot
swap_start true true full q S l = reserved_start q _ _ l
swap_start true false true q S l = alike l.works
swap_start true false false q S l = reserved_start q _ _ l
swap_start false flushes full q S l = alike l.works

commit_start : (whose : Whose) (stage : Stage) (q : ℕ) (l : Log) → Starting l.works (note_commit whose stage q l).works
unfolding note_add note_fate
commit_start padding add q l = alike l.works
commit_start heading add q l = alike l.works
commit_start slot add q l = alike l.works
commit_start whose look q l = alike l.works
commit_start whose see q l = alike l.works
commit_start whose setting q l = alike l.works

row_start : (x : Row) (r : Ring) (q : ℕ) (l : Log) → Starting l.works (note_row x r q l).works
unfolding note_row note_judge note_open
row_start idle r q l = alike l.works
row_start reading r q l = alike l.works
row_start judging r q l = alike l.works
row_start swapping r q l = swap_start (eqb r.write.0 (at r q).w.0) (flushing (at r q)) (at r q).full q r.size l
row_start shutting r q l = alike l.works
row_start opening r q l = alike l.works
row_start writing r q l = alike l.works
row_start ending r q l = alike l.works
row_start (committing whose stage) r q l = commit_start whose stage q l
row_start nothing r q l = alike l.works

-- a call that is no start of p leaves when it began
pub call_start : (w : World) (c : Call) (l : Log) (p : ℕ) → (Starts c p → ⊥) → (work_at (note_call w c l) p).began ≡ (work_at l p).began
unfolding note_call note_offer note_flush note_get note_put
call_start w (offer q kind payload) l p n = ap (λ (k : Work). k.began) (get_or-set_other l.works q p _ no_work (λ e. n (sym e)))
call_start w (flush q) l p n = ap (λ (k : Work). k.began) (get_or-set_other l.works q p _ no_work (λ e. n (sym e)))
call_start w (step q) l p n = (row_start (row_of (at w.ring q).phase) w.ring q l).began p
call_start w get l p n = refl
call_start w put l p n = refl

pub starts_dec : (c : Call) (p : ℕ) → Dec (Starts c p)
starts_dec (offer q kind payload) p = ℕ_discrete q p
starts_dec (flush q) p = ℕ_discrete q p
starts_dec (step q) p = no (λ x. x)
starts_dec get p = no (λ x. x)
starts_dec put p = no (λ x. x)

-- one that is: now
own : (l : List Work) (q p : ℕ) (k : Work) → q < length l → q ≡ p → (get_or (set l q k) p no_work).began ≡ k.began
own l q p k h e = rw (← e) (ap (λ (x : Work). x.began) (get_or-set_same l q k no_work h))

pub starts_now : (m : Moment) (c : Call) (p : ℕ) → length m.log.works ≡ 8 → code_of m.world c ≡ 0 → Starts c p →
    (work_at (note_call m.world c m.log) p).began ≡ m.log.write
unfolding note_call note_offer note_flush code_of
starts_now m (offer q kind payload) p len e s =
    let o = offer_ok m.world.ring q _ _ e in
    own m.log.works q p _ (omega (arith, o.below, o.shape.producers_high)) s
starts_now m (flush q) p len e s =
    let o = flush_ok m.world.ring q e in
    own m.log.works q p _ (omega (arith, o.below, o.shape.producers_high)) s
starts_now m (step q) p len e s = absurd s
starts_now m get p len e s = absurd s
starts_now m put p len e s = absurd s

-- ---- an idle producer stays idle until it starts

idle_stays : (w : World) (c : Call) (p : ℕ) → code_of w c ≡ 0 → (Starts c p → ⊥) → (at w.ring p).phase ≡ 0 → (at (done w c).ring p).phase ≡ 0
unfolding code_of stepped
idle_stays w (offer q kind payload) p e n z = rw (get_or-set_other w.ring.producer q p _ nobody (λ x. n (sym x))) z
idle_stays w (flush q) p e n z = rw (get_or-set_other w.ring.producer q p _ nobody (λ x. n (sym x))) z
idle_stays w (step q) p e n z =
    let s = step_ok w.ring q _ _ e in
    rw (get_or-set_other w.ring.producer q p _ nobody (λ x. s.busy (rw (← x) z))) z
idle_stays w get p e n z = z
idle_stays w put p e n z = z

-- ---- the number of works

call_length : (w : World) (c : Call) (l : Log) → length (note_call w c l).works ≡ length l.works
unfolding note_call note_offer note_flush note_get note_put
call_length w (offer q kind payload) l = length-set l.works q _
call_length w (flush q) l = length-set l.works q _
call_length w (step q) l = (row_start (row_of (at w.ring q).phase) w.ring q l).long
call_length w get l = refl
call_length w put l = refl

pub works_length : (m : Moment) (c : Call) → length m.log.works ≡ 8 → length (next m c).log.works ≡ 8
works_length m c e = by_answer m c (λ x. length x.log.works ≡ 8) (λ a. call_length m.world c m.log ∙ e) (λ n. e)

-- ---- the stretch in which a busy producer is

pub ends_append : (m : Moment) (a b : List Call) → ends m (a ++ b) ≡ ends (ends m a) b
unfolding ends
ends_append m [] b = refl
ends_append m (c ∷ a) b = ends_append (next m c) a b

pub ends_one : (m : Moment) (a : List Call) (c : Call) → ends m (a ++ (c ∷ [])) ≡ next (ends m a) c
unfolding ends
ends_one m a c = ends_append m a (c ∷ [])

pub record Within (m : Moment) (past : List Call) (p : ℕ) : Type 0 where
  pub before : List Call
  pub during : List Call
  pub c : Call
  pub is : past ≡ before ++ (c ∷ during)
  pub stretch : Stretch (ends m before) p c during
  pub began : (work_at (ends m past).log p).began ≡ (ends m before).log.write

module _ (m : Moment) (past : List Call) (c : Call) (p : ℕ) where
  abbrev now : Moment
  now = ends m past

  -- it starts
  here : length now.log.works ≡ 8 → code_of now.world c ≡ 0 → Starts c p → Within m (past ++ (c ∷ [])) p
  here len e s =
      record {
        before = past;
        during = [];
        c = c;
        is = refl;
        stretch = record { accepted = e; starts = s; busy = λ i h. absurd (omega arith) };
        began = rw (ends_one m past c) (by_answer now c (λ x. (work_at x.log p).began ≡ now.log.write) (λ a. starts_now now c p len e s) (λ n. absurd (n e)));
      }

  -- it goes on
  further : (IsIdle now p → ⊥) → (work_at (next now c).log p).began ≡ (work_at now.log p).began → Within m past p → Within m (past ++ (c ∷ [])) p
  unfolding next ends
  further busy same w =
      record {
        before = w.before;
        during = w.during ++ (c ∷ []);
        c = w.c;
        is = ap (λ (l : List Call). l ++ (c ∷ [])) w.is ∙ append_assoc w.before (w.c ∷ w.during) (c ∷ []);
        stretch = record { accepted = w.stretch.accepted; starts = w.stretch.starts; busy = λ i h. still i (dec_lt i (length w.during)) h };
        began = rw (ends_one m past c) (same ∙ w.began);
      }
    where
      at_end : ends (next (ends m w.before) w.c) w.during ≡ now
      at_end = sym (ends_append m w.before (w.c ∷ w.during)) ∙ ap (ends m) (sym w.is)

      still : (i : ℕ) → Dec (i < length w.during) → i < length (w.during ++ (c ∷ [])) → IsIdle (ends (next (ends m w.before) w.c) (take i (w.during ++ (c ∷ [])))) p → ⊥
      still i (yes h) k z = w.stretch.busy i h (rw (← take-append-le i w.during (c ∷ []) (omega arith)) z)
      still i (no h) k z =
          let j : i ≡ length w.during = omega (arith, length-append w.during (c ∷ [])) in
          busy (rw (← at_end, ← take-append_seam w.during (c ∷ []), ← j) z)

  -- busy after one more call
  within_next : length now.log.works ≡ 8 → ((IsIdle now p → ⊥) → Within m past p) → (IsIdle (next now c) p → ⊥) → Within m (past ++ (c ∷ [])) p
  within_next len was =
      by_answer now c (λ x. (IsIdle x p → ⊥) → Within m (past ++ (c ∷ [])) p)
      (λ e busy. on (starts_dec c p) e busy)
      (λ n busy. further busy (by_answer now c (λ x. (work_at x.log p).began ≡ (work_at now.log p).began) (λ e. absurd (n e)) (λ k. refl)) (was busy))
    where
      on : Dec (Starts c p) → code_of now.world c ≡ 0 → ((at (done now.world c).ring p).phase ≡ 0 → ⊥) → Within m (past ++ (c ∷ [])) p
      on (yes s) e busy = here len e s
      on (no n) e busy =
          let b : IsIdle now p → ⊥ = λ z. busy (idle_stays now.world c p e n z) in
          further b (by_answer now c (λ x. (work_at x.log p).began ≡ (work_at now.log p).began) (λ a. call_start now.world c now.log p n) (λ k. refl)) (was b)

-- ---- the premise gives it

module _ (m : Moment) (past cs : List Call) (c : Call) (premise : Premise m (past ++ (c ∷ cs))) where
  -- of a producer that is within a stretch of the history so far
  near_within : (p : ℕ) → Within m (past ++ (c ∷ [])) p → (next (ends m past) c).log.write < (work_at (next (ends m past) c).log p).began + half
  near_within p w =
      let whole : past ++ (c ∷ cs) ≡ w.before ++ (w.c ∷ (w.during ++ cs)) =
      sym (append_assoc past (c ∷ []) cs) ∙ ap (λ (l : List Call). l ++ cs) w.is ∙ append_assoc w.before (w.c ∷ w.during) cs in
      let few = premise w.before w.during cs w.c p whole w.stretch in
      let e : ends m (w.before ++ (w.c ∷ w.during)) ≡ next (ends m past) c = ap (ends m) (sym w.is) ∙ ends_one m past c in
      let few' : (next (ends m past) c).log.write - (ends m w.before).log.write < half = subst (λ (x : Moment). x.log.write - (ends m w.before).log.write < half) e few in
      let b : (work_at (next (ends m past) c).log p).began ≡ (ends m w.before).log.write = subst (λ (x : Moment). (work_at x.log p).began ≡ (ends m w.before).log.write) (ends_one m past c) w.began in
      omega arith

calm_from : (m : Moment) (past h : List Call) → length (ends m past).log.works ≡ 8 → ((p : ℕ) → (IsIdle (ends m past) p → ⊥) → Within m past p) →
    Premise m (past ++ h) → Calm (ends m past) h
unfolding Calm
calm_from m past [] len was premise = tt
calm_from m past (c ∷ cs) len was premise =
    let within : (p : ℕ) → (IsIdle (next (ends m past) c) p → ⊥) → Within m (past ++ (c ∷ [])) p = λ p. within_next m past c p len (was p) in (
      λ p busy. near_within m past cs c premise p (within p busy),
      subst (λ (x : Moment). Calm x cs) (ends_one m past c) (calm_from m (past ++ (c ∷ [])) cs
          (subst (λ (x : Moment). length x.log.works ≡ 8) (sym (ends_one m past c)) (works_length (ends m past) c len))
          (λ p. subst (λ (x : Moment). (IsIdle x p → ⊥) → Within m (past ++ (c ∷ [])) p) (sym (ends_one m past c)) (within p))
          (subst (Premise m) (sym (append_assoc past (c ∷ []) cs)) premise)),
    )

-- from a moment at which all are idle
pub calm_of : (m : Moment) (h : List Call) → length m.log.works ≡ 8 → ((p : ℕ) → IsIdle m p) → Premise m h → Calm m h
unfolding ends
calm_of m h len rest premise = calm_from m [] h len (λ p busy. absurd (busy (rest p))) premise
