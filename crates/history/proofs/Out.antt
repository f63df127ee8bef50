-- What was delivered, over every history.
use Prim.Native.Nat.{ℕ, suc, ◌+◌, ◌*◌, ◌/◌, ◌%◌, ◌≤◌, ◌<◌}
use mathlib.Core.Path.{◌≡◌, refl, sym, ap, subst, subst₂, ◌∙◌}
use mathlib.Core.Bool.{Bool, true, false, false≢true}
use mathlib.Core.List.{List, [], ◌∷◌, ◌++◌}
use native.Mathlib.Nat.{mod-lt, mul-le-mul_right, mul_comm, add-zero}
use native.Mathlib.Decide.{dec_lt}
use native.Mathlib.Omega.{arith}
use lib.Dec.{eqb}
use lib.ListN.{length, get_or, take, drop, length-append, get_or-append, length-drop}
use borrow.Author.Tests.{eq-eqb}
use lib.Seq.{get_or-append_seam, get_or-take, get_or-drop, length-take-le}
use Rattle.counts.specs.declared.position.Position.{Position}
use Rattle.counts.specs.Shape.{size_of, shape_of}
use Rattle.layout.specs.Record.{Rec}
use Rattle.steps.specs.Bytes.{bytes_by}
use Rattle.steps.specs.Fits.{fits_of}
use Rattle.steps.specs.Producer.{flushing}
use Rattle.steps.specs.Step.{padding, heading, slot, add, look, see, set as setting, Row, idle, reading, judging, swapping, closing as shutting, opening, writing, ending, committing, nothing, row_of}
use Rattle.ring.specs.declared.state.Ring.{Ring}
use Rattle.ring.specs.Calls.{held_of, stepped as afterStep}
use Rattle.ring.specs.State.{at, with_holding, with_read}
use Rattle.history.specs.Log.{is_written, Log, no_piece, work_at, note_offer, note_flush, note_judge, note_fate, note_reserved, note_slot, note_pad, note_open, note_add, note_get, note_put}
use Rattle.history.specs.History.{note_swap, note_row}
use Rattle.history.proofs.Book.{Book, Owns, owning}
use Rattle.history.proofs.BookGood.{Whole}
use Rattle.history.proofs.BookWhole.{read-part}
use Rattle.history.proofs.Delivering.{held_closed, given, held_shows}
use Rattle.history.proofs.Geometry.{byte_at, n_pos}
use Rattle.history.proofs.Given.{Given, Kept, kept_none, kept_append, kept_set, given_on}
use Rattle.history.proofs.Ground.{Ground}
use Rattle.history.proofs.GroundCalls.{Steady, row_steady}
use Rattle.history.proofs.Invariant.{Core}
use Rattle.history.proofs.Memory.{Stands}
use Rattle.history.proofs.Settled.{same_none}
use Rattle.history.proofs.SettledRows.{Closed, row_same, row_stays}
use Rattle.history.proofs.View.{Truth, view_of}

-- ---- events keep what they are, row by row

module _ (r : Ring) (l : Log) (p : ℕ) (lt : p < r.producers) (B : Book r l) where
  swap_kept : (stores flushes full : Bool) → (flushes ≡ false → Owns (at r p)) → Kept l.events (note_swap stores flushes full p r.size l).events
  unfolding note_pad note_fate note_slot note_reserved
  swap_kept true true full o = kept_none l.events
  swap_kept true false true o =
      let f = (B.entries.prod p lt (o refl)).own.fate in
      kept_set l.events (work_at l p).event _ refl (λ w. absurd (false≢true (sym (ap is_written f) ∙ w)))
  swap_kept true false false o = kept_none l.events
  swap_kept false flushes full o = kept_none l.events

  pub row_kept : (x : Row) → row_of (at r p).phase ≡ x → Kept l.events (note_row x r p l).events
  unfolding note_row note_judge note_open note_add note_fate owning
  row_kept idle e = kept_none l.events
  row_kept reading e = kept_none l.events
  row_kept judging e = kept_set l.events (work_at l p).event _ refl (λ w. w)
  row_kept swapping e = swap_kept (eqb r.write.0 (at r p).w.0) (flushing (at r p)) (at r p).full (λ n. (λ z. false≢true (sym n ∙ eq-eqb (at r p).z 0 z), rw e tt))
  row_kept shutting e = kept_none l.events
  row_kept opening e = kept_none l.events
  row_kept writing e = kept_none l.events
  row_kept ending e = kept_none l.events
  row_kept (committing padding add) e = kept_none l.events
  row_kept (committing heading add) e = kept_none l.events
  row_kept (committing slot add) e = kept_set l.events (work_at l p).event _ refl (λ w. refl)
  row_kept (committing whose look) e = kept_none l.events
  row_kept (committing whose see) e = kept_none l.events
  row_kept (committing whose setting) e = kept_none l.events
  row_kept nothing e = kept_none l.events

-- ---- what was delivered

abbrev pub ones : Bool → ℕ
ones true = 1
ones false = 0

-- the part at the read count
abbrev pub read_part : Ring → Log → ℕ
read_part r l = l.start / r.size + l.back

pub record Out (r : Ring) (l : Log) (mem : List ℕ) : Type 0 where
  pub count : length l.delivered ≡ l.back + ones r.holding
  pub given : (j : ℕ) → j < length l.delivered → Given r.size l (l.start / r.size + j) (get_or l.delivered j [])
  pub long : r.holding ≡ true → length (get_or l.delivered l.back []) ≡ r.size
  pub shows : r.holding ≡ true → Stands r.size r.parts mem (read_part r l) 0 (get_or l.delivered l.back []) r.size

-- a part that was delivered is committed whole
module _ (r : Ring) (l : Log) (W : Whole r l) where
  closed_before : (j : ℕ) → j < l.back → Closed (view_of r l W.good.truth) (l.start / r.size + j)
  closed_before j h =
      let I = W.good.core in
      let e = W.good.keep.here in
      record {
        past = omega (arith, mul-le-mul_right r.size (up j h), I.span.low);
        all = λ i c d. I.old i c (omega (arith, d, e));
      }
    where
      up : (j : ℕ) → j < l.back → suc (l.start / r.size + j) ≤ W.good.truth.lo
      up j h = omega (arith, W.good.keep.here)

  closed_held : r.holding ≡ true → size_of r.size ≡ true → (mem desks : List ℕ) → Ground r l mem desks → Closed (view_of r l W.good.truth) (read_part r l)
  closed_held held size mem desks G = subst (Closed (view_of r l W.good.truth)) W.good.keep.here (held_closed r l mem desks W G held size)

  closed_at : size_of r.size ≡ true → (mem desks : List ℕ) → Ground r l mem desks → Out r l mem → (j : ℕ) → j < length l.delivered → Closed (view_of r l W.good.truth) (l.start / r.size + j)
  closed_at size mem desks G O j h = go (dec_lt j l.back) r.holding refl O.count
    where
      go : Dec (j < l.back) → (b : Bool) → r.holding ≡ b → length l.delivered ≡ l.back + ones b → Closed (view_of r l W.good.truth) (l.start / r.size + j)
      go (yes c) b e n = closed_before j c
      go (no c) true e n = subst (λ i. Closed (view_of r l W.good.truth) (l.start / r.size + i)) (omega arith) (closed_held e size mem desks G)
      go (no c) false e n = absurd (omega arith)

  there : (j : ℕ) → j < length l.pieces → (get_or l.pieces j no_piece).whose ≡ slot → (get_or l.pieces j no_piece).event < length l.events
  there j h e = (W.book.entries.slots j h e).there

-- ---- a step

pub step_out : (r : Ring) (l : Log) (p : ℕ) → p < r.producers → fits_of (at r p) r.size ≡ true → size_of r.size ≡ true → (W : Whole r l) → (mem desks : List ℕ) → Ground r l mem desks → Out r l mem →
    Out (afterStep r p) (note_row (row_of (at r p).phase) r p l) (bytes_by (row_of (at r p).phase) (at r p) p r.lost r.size r.parts mem desks)
unfolding afterStep note_row
step_out r l p lt fits size W mem desks G O =
    record {
      count = rw (s.delivered, s.back) O.count;
      given = λ j h.
          rw (s.start, s.delivered)
          (given_on r.size l l' (l.start / r.size + j) (get_or l.delivered j []) (row_same r l t p lt fits I _ (closed_at r l W size mem desks G O j (rw s.delivered at h)) x refl)
          (row_kept r l p lt W.book x refl) (there r l W) (O.given j (rw s.delivered at h)));
      long = λ h. rw (s.delivered, s.back) (O.long h);
      shows = λ h.
          rw (s.start, s.delivered, s.back)
          (row_stays r l t p lt fits I (read_part r l) (closed_held r l W h size mem desks G) mem desks G.mem_long G.desks_long (omega (arith, W.good.keep.here))
          (omega (arith, W.good.keep.here, I.shape.parts_low)) (get_or l.delivered l.back []) (O.shows h) x refl _ W.book.tally.losses_is);
    }
  where
    x : Row
    x = row_of (at r p).phase

    l' : Log
    l' = note_row x r p l

    s : Steady l l'
    s = row_steady x r p l

    t : Truth
    t = W.good.truth

    I : Core (view_of r l t)
    I = W.good.core

-- ---- the other calls

pub offer_out : (r r' : Ring) (l : Log) (mem : List ℕ) (p : ℕ) (rec : Rec) → r'.size ≡ r.size → r'.parts ≡ r.parts → r'.holding ≡ r.holding → Whole r l → Out r l mem → Out r' (note_offer p rec l) mem
unfolding note_offer
offer_out r r' l mem p rec s n h W O =
    record {
      count = rw h O.count;
      given = λ j c. rw s (given_on r.size l (note_offer p rec l) (l.start / r.size + j) (get_or l.delivered j []) (same_none _ l.pieces) (kept_append l.events _) (there r l W) (O.given j c));
      long = λ c. rw s (O.long (sym h ∙ c));
      shows = λ c. rw (s, n) (O.shows (sym h ∙ c));
    }

pub flush_out : (r r' : Ring) (l : Log) (mem : List ℕ) (p : ℕ) → r'.size ≡ r.size → r'.parts ≡ r.parts → r'.holding ≡ r.holding → Whole r l → Out r l mem → Out r' (note_flush p l) mem
unfolding note_flush
flush_out r r' l mem p s n h W O =
    record {
      count = rw h O.count;
      given = λ j c. rw s (given_on r.size l (note_flush p l) (l.start / r.size + j) (get_or l.delivered j []) (same_none _ l.pieces) (kept_none l.events) (there r l W) (O.given j c));
      long = λ c. rw s (O.long (sym h ∙ c));
      shows = λ c. rw (s, n) (O.shows (sym h ∙ c));
    }

-- a get delivers what held shows
module _ (r : Ring) (l : Log) (mem desks : List ℕ) (free : r.holding ≡ false) (W : Whole r l) (O : Out r l mem) (size : size_of r.size ≡ true)
    (shape : shape_of r.size r.parts r.producers ≡ true) where
  abbrev r₁ : Ring
  r₁ = with_holding true r

  abbrev b : List ℕ
  b = held_of r₁ mem

  abbrev l₁ : Log
  l₁ = note_get b l

  module _ (W₁ : Whole r₁ l₁) (G : Ground r₁ l₁ mem desks) where
    abbrev k : ℕ
    k = W₁.good.truth.lo

    here : k ≡ read_part r l
    unfolding note_get
    here = W₁.good.keep.here

    is : b ≡ take r.size (drop (k % r.parts * r.size) mem)
    is = held_shows r₁ mem k shape G.mem_long refl (read-part r₁ l₁ W₁)

    none_held : length l.delivered ≡ l.back
    none_held = O.count ∙ ap (λ x. l.back + ones x) free ∙ add-zero l.back

    newest : get_or (l.delivered ++ b ∷ []) l.back [] ≡ b
    newest = subst (λ n. get_or (l.delivered ++ b ∷ []) n [] ≡ b) none_held (get_or-append_seam l.delivered b [] [])

    b_long : length b ≡ r.size
    b_long =
        ap length is
        ∙ length-take-le r.size (drop (k % r.parts * r.size) mem)
        (rw (length-drop (k % r.parts * r.size) mem) (omega (arith, G.mem_long, mul-le-mul_right r.size (mod-lt k (n_pos W.good.core.shape)), mul_comm r.parts r.size)))

    pub get_out : Out r₁ l₁ mem
    unfolding note_get Stands
    get_out =
        record {
          count = rw length-append (omega (arith, none_held));
          given = λ j h. go j (dec_lt j (length l.delivered)) h;
          long = λ h. ap length newest ∙ b_long;
          shows = λ h i c.
              ap (λ n. get_or mem ((n * r.size + (0 + i)) % (r.size * r.parts)) 0) (sym here)
              ∙ ap (λ n. get_or mem n 0) (byte_at W.good.core.shape k (0 + i) (omega arith) ∙ omega arith)
              ∙ sym (get_or-drop (k % r.parts * r.size) mem i 0)
              ∙ sym (get_or-take r.size (drop (k % r.parts * r.size) mem) i 0 c)
              ∙ ap (λ (x : List ℕ). get_or x i 0) (sym is ∙ sym newest);
        }
      where
        go : (j : ℕ) → Dec (j < length l.delivered) → j < length (l.delivered ++ b ∷ []) → Given r.size l₁ (l.start / r.size + j) (get_or (l.delivered ++ b ∷ []) j [])
        go j (yes c) h =
            rw (get_or-append l.delivered (b ∷ []) [] j c)
            (given_on r.size l l₁ (l.start / r.size + j) (get_or l.delivered j []) (same_none _ l.pieces) (kept_none l.events) (there r l W) (O.given j c))
        go j (no c) h =
            let e : j ≡ l.back = omega (arith, none_held, length-append l.delivered (b ∷ [])) in
            subst (λ n. Given r.size l₁ (l.start / r.size + n) (get_or (l.delivered ++ b ∷ []) n [])) (sym e)
            (rw newest (subst₂ (λ n x. Given r.size l₁ n x) here (sym is) (given r₁ l₁ mem desks W₁ G refl size)))

pub put_out : (r : Ring) (l : Log) (mem : List ℕ) (y : Position) → r.holding ≡ true → Whole r l → Out r l mem → Out (with_holding false (with_read y r)) (note_put l) mem
unfolding note_put
put_out r l mem y held W O =
    record {
      count = omega (arith, O.count, ap ones held);
      given = λ j h. given_on r.size l (note_put l) (l.start / r.size + j) (get_or l.delivered j []) (same_none _ l.pieces) (kept_none l.events) (there r l W) (O.given j h);
      long = λ h. absurd (false≢true h);
      shows = λ h. absurd (false≢true h);
    }
