-- What the rows leave of the bytes that stand: rows that write none, and the log's changes.
use Prim.Native.Nat.{ℕ, ◌+◌, ◌*◌, ◌%◌, ◌≤◌, ◌<◌}
use mathlib.Core.Path.{◌≡◌, refl, sym, ap, ◌∙◌}
use mathlib.Core.Logic.{◌≢◌}
use mathlib.Core.Bool.{Bool, true, false, false≢true}
use mathlib.Core.List.{List, ◌++◌}
use native.Mathlib.Omega.{arith}
use lib.Dec.{T}
use lib.ListN.{length, get_or, set}
use lib.Seq.{get_or-set_same, get_or-set_other}
use Rattle.steps.specs.declared.producer.Producer.{Producer}
use Rattle.steps.specs.Bytes.{put}
use Rattle.steps.specs.Producer.{nobody}
use Rattle.steps.specs.Step.{padding, heading, slot, add, look, see, set as setting, Row, idle, reading, judging, swapping, closing, opening, writing, ending, committing, nothing, row_of}
use Rattle.history.specs.Log.{Piece, Work, no_piece, no_work, done}
use Rattle.history.proofs.Bytes.{Whole, PBytes, Bytes, Claim}
use Rattle.history.proofs.BytesFrame.{fits, own_run, other_whole, other_bytes}
use Rattle.history.proofs.Frame.{KeepsAt, keeps_append, keeps_not_mine, Mine, my_pad, my_head, my_slot}
use Rattle.history.proofs.Invariant.{says, says_of, PInv, Core}
use Rattle.history.proofs.Memory.{Stands, Clear, write_length, write_stands}
use Rattle.history.proofs.Reserve.{Open}
use Rattle.history.proofs.Sums.{each_of, each_set, each_append}
use Rattle.history.proofs.View.{Mark, View, at, work, mark, piece}

-- the clause of memory, of a view
abbrev pub BytesOf : View → (mem desks : List ℕ) → (ℕ → List ℕ) → Type 0
BytesOf v mem desks b = Bytes v.S v.N v.P v.producer v.works v.pieces v.truth.lo mem desks b

-- ---- one producer

-- the log changed, but not what the producer holds
pub frame_bytes : (S N p : ℕ) (q : Producer) (k : Work) (t : Mark) (W lo : ℕ) (C Q : List ℕ) (l l' : List Piece) (mem desks b : List ℕ) →
    ((j : ℕ) → Mine q k j → KeepsAt p l l' j) → PInv S N p q k t W lo C Q l → PBytes S N p q k l mem desks b → PBytes S N p q k l' mem desks b
unfolding says
frame_bytes S N p q k t W lo C Q l l' mem desks b keep I x =
    record {
      closed = λ e.
          let H = I.pads (rw e tt) in
          rw (keep k.padding (my_pad (rw e tt) refl) H.inlog (ap (λ y. y.producer) H.entry) (ap (λ y. y.committed) H.entry)).1 (x.closed e);
      opened = λ e ev.
          let H = I.heads (rw e tt) ev in
          rw (keep k.heading (my_head (rw e tt) ev refl) H.inlog (ap (λ y. y.producer) H.entry) (ap (λ y. y.committed) H.entry)).1 (x.opened e ev);
      written = λ u ev.
          let H = I.slots u ev in
          rw (keep k.slot (my_slot u ev refl) H.inlog (ap (λ y. y.producer) H.entry) (ap (λ y. y.committed) H.entry)).1 (x.written u ev);
      ended = λ e ev.
          let H = I.slots (rw e tt) ev in
          rw (keep k.slot (my_slot (rw e tt) ev refl) H.inlog (ap (λ y. y.producer) H.entry) (ap (λ y. y.committed) H.entry)).1 (x.ended e ev);
      desk = x.desk;
    }

-- rows whose bytes stand before their add
pub record NoAdd (x : Row) : Type 0 where
  pub pad : x ≡ committing padding add → ⊥
  pub head : x ≡ committing heading add → ⊥
  pub rec : x ≡ committing slot add → ⊥

unfoldable pub is_add : Row → Bool
is_add idle = false
is_add reading = false
is_add judging = false
is_add swapping = false
is_add closing = false
is_add opening = false
is_add writing = false
is_add ending = false
is_add (committing padding add) = true
is_add (committing heading add) = true
is_add (committing slot add) = true
is_add (committing whose look) = false
is_add (committing whose see) = false
is_add (committing whose setting) = false
is_add nothing = false

pub no_add : (x : Row) → is_add x ≡ false → NoAdd x
unfolding is_add
no_add x f = record { pad = λ e. false≢true (sym f ∙ ap is_add e); head = λ e. false≢true (sym f ∙ ap is_add e); rec = λ e. false≢true (sym f ∙ ap is_add e) }

-- the producer went on to a row that asks for no more
pub move_bytes : (S N p : ℕ) (q q' : Producer) (k : Work) (l : List Piece) (mem desks b : List ℕ) → NoAdd (row_of q'.phase) → q'.z ≡ q.z → q'.done ≡ q.done →
    (T (says_of q').slotted → T (says_of q).slotted) → (T (says_of q').busy → T (says_of q).busy) → PBytes S N p q k l mem desks b → PBytes S N p q' k l mem desks b
move_bytes S N p q q' k l mem desks b none z d s u x =
    record {
      closed = λ e. absurd (none.pad e);
      opened = λ e. absurd (none.head e);
      written = λ y ev. rw d (x.written (s y) (λ f. ev (z ∙ f)));
      ended = λ e. absurd (none.rec e);
      desk = λ y ev i h. x.desk (u y) (λ f. ev (z ∙ f)) i (rw (← z) h);
    }

-- ---- all of them

-- a step of p that changes its record alone
pub step-bytes : (v : View) (p : ℕ) (q : Producer) (mem desks : List ℕ) (b : ℕ → List ℕ) → p < v.P → length v.producer ≡ 8 → v.P ≤ 8 →
    PBytes v.S v.N p q (work v p) v.pieces mem desks (b p) → BytesOf v mem desks b →
    Bytes v.S v.N v.P (set v.producer p q) v.works v.pieces v.truth.lo mem desks b
step-bytes v p q mem desks b lt len most own x =
    record {
      mem_long = x.mem_long;
      desks_long = x.desks_long;
      whole = x.whole;
      prod = each_of p (λ o. o < v.P → PBytes v.S v.N o (get_or (set v.producer p q) o nobody) (work v o) v.pieces mem desks (b o))
          (λ h. rw (get_or-set_same v.producer p q nobody (omega arith)) own)
          (λ o ne h. rw (get_or-set_other v.producer p o q nobody ne) (x.prod o h));
    }

-- p commits its piece at j, which stands whole
pub add_bytes : (v : View) (I : Core v) (p j : ℕ) (q : Producer) (mem desks : List ℕ) (b : ℕ → List ℕ) → p < v.P → j < length v.pieces → (piece v j).producer ≡ p →
    Whole v.S v.N mem (piece v j) →
    PBytes v.S v.N p q (work v p) (set v.pieces j (done (piece v j))) mem desks (b p) → BytesOf v mem desks b →
    Bytes v.S v.N v.P (set v.producer p q) v.works (set v.pieces j (done (piece v j))) v.truth.lo mem desks b
add_bytes v I p j q mem desks b lt jlt who whole own x =
    record {
      mem_long = x.mem_long;
      desks_long = x.desks_long;
      whole = each_set v.pieces j (done (piece v j)) no_piece (λ i y. y.committed ≡ true → v.truth.lo ≤ y.part → Whole v.S v.N mem y)
          (λ h c l. record { slots = whole.slots; heads = λ e. let w = whole.heads e in record { mark = w.mark; rest = w.rest }; used = whole.used })
          (λ i h ne. x.whole i h);
      prod = each_of p
          (λ o. o < v.P → PBytes v.S v.N o (get_or (set v.producer p q) o nobody) (work v o) (set v.pieces j (done (piece v j))) mem desks (b o))
          (λ h. rw (get_or-set_same v.producer p q nobody (omega (arith, I.lens.producer, I.shape.producers_high))) own)
          (λ o ne h.
          rw (get_or-set_other v.producer p o q nobody ne)
          (frame_bytes v.S v.N o (at v o) (work v o) (mark v o) v.W v.truth.lo v.truth.C v.truth.Q v.pieces (set v.pieces j (done (piece v j))) mem desks (b o)
          (λ y m. keeps_not_mine p o v.pieces j _ ne who y) (I.prod o h) (x.prod o h)));
    }

-- p reserves pieces; none of its bytes is written yet
pub reserve_bytes : (v : View) (I : Core v) (p : ℕ) (q : Producer) (k : Work) (ps : List Piece) (W : ℕ) (mem desks : List ℕ) (b : ℕ → List ℕ) → p < v.P →
    Open v.S W ps → PBytes v.S v.N p q k (v.pieces ++ ps) mem desks (b p) → BytesOf v mem desks b →
    Bytes v.S v.N v.P (set v.producer p q) (set v.works p k) (v.pieces ++ ps) v.truth.lo mem desks b
reserve_bytes v I p q k ps W mem desks b lt isopen own x =
    record {
      mem_long = x.mem_long;
      desks_long = x.desks_long;
      whole = each_append v.pieces ps no_piece (λ i y. y.committed ≡ true → v.truth.lo ≤ y.part → Whole v.S v.N mem y)
          x.whole (λ i h c. absurd (false≢true (sym (isopen i h).0 ∙ c)));
      prod = each_of p
          (λ o. o < v.P → PBytes v.S v.N o (get_or (set v.producer p q) o nobody) (get_or (set v.works p k) o no_work) (v.pieces ++ ps) mem desks (b o))
          (λ h. rw (get_or-set_same v.producer p q nobody (omega (arith, I.lens.producer, I.shape.producers_high)), get_or-set_same v.works p k no_work (omega (arith, I.lens.works, I.shape.producers_high))) own)
          (λ o ne h.
          rw (get_or-set_other v.producer p o q nobody ne, get_or-set_other v.works p o k no_work ne)
          (frame_bytes v.S v.N o (at v o) (work v o) (mark v o) v.W v.truth.lo v.truth.C v.truth.Q v.pieces (v.pieces ++ ps) mem desks (b o)
          (λ y m. keeps_append o v.pieces ps y) (I.prod o h) (x.prod o h)));
    }

-- ---- writes

-- all but what p has written
pub record Except (v : View) (p : ℕ) (mem desks : List ℕ) (b : ℕ → List ℕ) : Type 0 where
  pub mem_long : length mem ≡ v.S * v.N
  pub desks_long : length desks ≡ v.P * v.S
  pub whole : (j : ℕ) → j < length v.pieces → (piece v j).committed ≡ true → v.truth.lo ≤ (piece v j).part → Whole v.S v.N mem (piece v j)
  pub others : (o : ℕ) → o < v.P → o ≢ p → PBytes v.S v.N o (at v o) (work v o) v.pieces mem desks (b o)

pub except : (v : View) (p : ℕ) (mem desks : List ℕ) (b : ℕ → List ℕ) → BytesOf v mem desks b → Except v p mem desks b
except v p mem desks b x = record { mem_long = x.mem_long; desks_long = x.desks_long; whole = x.whole; others = λ o h ne. x.prod o h }

-- with p's next record
pub with_own : (v : View) (I : Core v) (p : ℕ) (q : Producer) (mem desks : List ℕ) (b : ℕ → List ℕ) → p < v.P → Except v p mem desks b →
    PBytes v.S v.N p q (work v p) v.pieces mem desks (b p) →
    Bytes v.S v.N v.P (set v.producer p q) v.works v.pieces v.truth.lo mem desks b
with_own v I p q mem desks b lt x own =
    record {
      mem_long = x.mem_long;
      desks_long = x.desks_long;
      whole = x.whole;
      prod = each_of p (λ o. o < v.P → PBytes v.S v.N o (get_or (set v.producer p q) o nobody) (work v o) v.pieces mem desks (b o))
          (λ h. rw (get_or-set_same v.producer p q nobody (omega (arith, I.lens.producer, I.shape.producers_high))) own)
          (λ o ne h. rw (get_or-set_other v.producer p o q nobody ne) (x.others o h ne));
    }

-- p writes a run of its open piece j
module _ (v : View) (I : Core v) (mem desks : List ℕ) (b : ℕ → List ℕ) (p j : ℕ) (jlt : j < length v.pieces)
    (who : (piece v j).producer ≡ p) (isopen : (piece v j).committed ≡ false) (o n : ℕ) (vs : List ℕ) (vs_long : length vs ≡ n) (claim : Claim v.S (piece v j) o n)
    (x : Except v p mem desks b) where
  abbrev pub after : List ℕ
  after = put mem ((piece v j).part % v.N * v.S + o) n vs

  inside : o + n ≤ v.S
  inside = fits v I mem x.mem_long p j jlt who isopen o n vs vs_long claim

  pub run-bytes : Except v p after desks b
  run-bytes =
      record {
        mem_long = write_length I.shape mem x.mem_long (piece v j).part o n inside vs vs_long;
        desks_long = x.desks_long;
        whole = λ i h c l.
            other_whole v I mem x.mem_long p j jlt who isopen o n vs vs_long claim i h
            (λ e. false≢true (sym isopen ∙ ap (λ y. (piece v y).committed) (sym e) ∙ c)) l (x.whole i h c l);
        others = λ o' h ne. other_bytes v I mem x.mem_long p j jlt who isopen o n vs vs_long claim o' ne h desks (b o') (x.others o' h ne);
      }

  -- it stands, and other runs of the piece stand as before
  pub run_stands : Stands v.S v.N after (piece v j).part o vs n
  run_stands = write_stands I.shape mem x.mem_long (piece v j).part o n inside vs vs_long

  pub run_own : (o' n' : ℕ) (bytes : List ℕ) → o' + n' ≤ v.S → Clear o n o' n' → Stands v.S v.N mem (piece v j).part o' bytes n' →
      Stands v.S v.N after (piece v j).part o' bytes n'
  run_own = own_run v I mem x.mem_long p j jlt who isopen o n vs vs_long claim
