-- The rows of a commit: add, look, see and set, for whichever piece.
use Prim.Native.Nat.{ℕ, ◌+◌, ◌/◌, ◌%◌, ◌<◌}
use mathlib.Core.Path.{◌≡◌, refl, sym, ap, subst, ◌∙◌}
use mathlib.Core.Logic.{◌≢◌, ⊎_elim}
use mathlib.Core.Bool.{Bool, true, false, cond, not}
use mathlib.Core.List.{List}
use native.Mathlib.Nat.{le_trans}
use native.Mathlib.Decide.{ℕ_discrete}
use native.Mathlib.Omega.{arith}
use lib.Dec.{T}
use lib.ListN.{length, get_or, set}
use Rattle.counts.specs.declared.commit.Commit.{Commit}
use Rattle.counts.specs.Commit.{commit, on_of, round_of, raises_of}
use Rattle.counts.specs.Place.{fit_of}
use Rattle.counts.specs.Position.{left_of, part_of}
use Rattle.counts.specs.PositionLaws.{part_lt}
use Rattle.counts.specs.Tests.{and_left}
use Rattle.counts.specs.Wrap.{add32}
use Rattle.layout.specs.Sizes.{header}
use Rattle.steps.specs.declared.producer.Producer.{Producer}
use Rattle.steps.specs.Fits.{phase_fits, fits_of}
use Rattle.steps.specs.Producer.{nobody, flushing, to_phase, with_s, place_at}
use Rattle.steps.specs.Rows.{look_row, see_row, set_row, add_row}
use Rattle.steps.specs.RowsLaws.{look_round, look_done, set_stored, set_other}
use Rattle.steps.specs.Step.{Whose, padding, heading, slot, Stage, add, look, see, set as setting, Row, committing, row_of, phase_of, after_of, moved as still, take_add, take_set, commit_by, part_by}
use Rattle.ring.specs.declared.state.Ring.{Ring}
use Rattle.ring.specs.State.{shared_at, stored_of}
use Rattle.history.specs.Log.{Log, done, note_fate, note_add, with_pieces as logPieces}
use Rattle.history.specs.History.{note_commit}
use Rattle.history.proofs.Coords.{part_in, slot_part, part_is, left_is}
use Rattle.history.proofs.Add.{add_keeps}
use Rattle.history.proofs.Frame.{Mine, my_pad, my_head, my_slot}
use Rattle.history.proofs.Geometry.{s_pos, n_pos}
use Rattle.history.proofs.Invariant.{says, says_of, Event, whose_of, job_of, Looked, Sized, PadHeld, HeadHeld, SlotHeld, Raising, Setting, Own, Core, KeepOf, Soon, Lag}
use Rattle.history.proofs.Jobs.{off_keeps, look_keeps, see_keeps, see_off, set_up, set_keeps}
use Rattle.history.proofs.Move.{calm}
use Rattle.history.proofs.View.{Truth, View, view_of, at, work, mark, piece, with_q, with_c, stepped, with_seq, with_commit, with_pieces}
use Rattle.history.proofs.Window.{keep_lag}
use Rattle.history.proofs.Fitting.{fits_phase, not_zero, pad_next}
use Rattle.history.proofs.Good.{Good, commit_back, seq_back, stored_view, quiet}

-- look, see and set of a commit, with fin next when it is done: which clauses its rows ask for
record Job (whose : Whose) (fin : ℕ) : Type 0 where
  pub busy : T (says (committing whose look)).busy
  pub see_busy : T (says (committing whose see)).busy
  pub set_busy : T (says (committing whose setting)).busy
  pub see_raising : T (says (committing whose see)).raising
  pub set_raising : T (says (committing whose setting)).raising
  pub set_setting : T (says (committing whose setting)).setting
  pub see_setting : T (says (row_of (phase_of whose see))).setting → ⊥
  pub see_whole : T (says (row_of (phase_of whose see))).whole → ⊥
  pub set_whole : T (says (row_of (phase_of whose setting))).whole → ⊥
  pub see_whose : whose_of (row_of (phase_of whose see)) ≡ whose
  pub set_whose : whose_of (row_of (phase_of whose setting)) ≡ whose
  pub look_go : T (calm (says (row_of (phase_of whose see))) (says (committing whose look)))
  pub look_fin : T (calm (says (row_of fin)) (says (committing whose look)))
  pub see_go : T (calm (says (row_of (phase_of whose setting))) (says (committing whose see)))
  pub see_fin : T (calm (says (row_of fin)) (says (committing whose see)))
  pub set_go : T (calm (says (row_of (phase_of whose setting))) (says (committing whose setting)))
  pub set_fin : T (calm (says (row_of fin)) (says (committing whose setting)))
  pub fin_raising : T (says (row_of fin)).raising → ⊥
  pub fin_setting : T (says (row_of fin)).setting → ⊥
  pub fin_whole : T (says (row_of fin)).whole → ⊥

pad_idle : Job padding 0
unfolding says row_of calm
pad_idle = record { busy = tt; see_busy = tt; set_busy = tt; see_raising = tt; set_raising = tt; set_setting = tt; see_setting = λ u. u; see_whole = λ u. u; set_whole = λ u. u; see_whose = refl; set_whose = refl; look_go = tt; look_fin = tt; see_go = tt; see_fin = tt; set_go = tt; set_fin = tt; fin_raising = λ u. u; fin_setting = λ u. u; fin_whole = λ u. u }

pad_open : Job padding 9
unfolding says row_of calm
pad_open = record { busy = tt; see_busy = tt; set_busy = tt; see_raising = tt; set_raising = tt; set_setting = tt; see_setting = λ u. u; see_whole = λ u. u; set_whole = λ u. u; see_whose = refl; set_whose = refl; look_go = tt; look_fin = tt; see_go = tt; see_fin = tt; set_go = tt; set_fin = tt; fin_raising = λ u. u; fin_setting = λ u. u; fin_whole = λ u. u }

head_write : Job heading 14
unfolding says row_of calm
head_write = record { busy = tt; see_busy = tt; set_busy = tt; see_raising = tt; set_raising = tt; set_setting = tt; see_setting = λ u. u; see_whole = λ u. u; set_whole = λ u. u; see_whose = refl; set_whose = refl; look_go = tt; look_fin = tt; see_go = tt; see_fin = tt; set_go = tt; set_fin = tt; fin_raising = λ u. u; fin_setting = λ u. u; fin_whole = λ u. u }

slot_idle : Job slot 0
unfolding says row_of calm
slot_idle = record { busy = tt; see_busy = tt; set_busy = tt; see_raising = tt; set_raising = tt; set_setting = tt; see_setting = λ u. u; see_whole = λ u. u; set_whole = λ u. u; see_whose = refl; set_whose = refl; look_go = tt; look_fin = tt; see_go = tt; see_fin = tt; set_go = tt; set_fin = tt; fin_raising = λ u. u; fin_setting = λ u. u; fin_whole = λ u. u }

module _ (r : Ring) (l : Log) (t : Truth) (p : ℕ) (lt : p < r.producers) (fits : fits_of (get_or r.producer p nobody) r.size ≡ true)
    (soon : Soon (view_of r l t)) (I : Core (view_of r l t)) (K : KeepOf (view_of r l t)) where
  abbrev w : View
  w = view_of r l t

  abbrev q : Producer
  q = at w p

  mine : Own w p q (work w p) (mark w p)
  mine = I.prod p lt

  lag : Lag w.N w.truth.C w.truth.Q
  lag = keep_lag w I K

  -- ---- the rows of a commit, in sub-buffer i, for whichever piece

  module _ (x : Row) (e : row_of q.phase ≡ x) (i : ℕ) (ilt : i < r.parts) (busy : T (says x).busy) (go fin : ℕ)
      (calm-go : T (calm (says (row_of go)) (says x))) (calm-fin : T (calm (says (row_of fin)) (says x))) (w-go : T (says (row_of go)).whole → ⊥)
      (r-fin : T (says (row_of fin)).raising → ⊥) (s-fin : T (says (row_of fin)).setting → ⊥) (w-fin : T (says (row_of fin)).whole → ⊥)
      (job : job_of (whose_of (row_of go)) r.size r.parts q.z (mark w p).saw ≡ i) where
    working : T (says_of q).busy
    working = subst (λ y. T (says y).busy) (sym e) busy

    to_go : T (calm (says (row_of go)) (says_of q))
    to_go = subst (λ y. T (calm (says (row_of go)) (says y))) (sym e) calm-go

    to_fin : T (calm (says (row_of fin)) (says_of q))
    to_fin = subst (λ y. T (calm (says (row_of fin)) (says y))) (sym e) calm-fin

    abbrev c : Commit
    c = get_or r.commit i (commit 0)

    abbrev s : Commit
    s = get_or r.seq i (commit 0)

    looking_good : (T (says (row_of go)).setting → ⊥) → Good (stored_of r p i (still (look_row go fin q c r.size) (shared_at r i))) l
    looking_good s-go = by (round_of c r.size) refl
      where
        by : (b : Bool) → round_of c r.size ≡ b → Good (stored_of r p i (still (look_row go fin q c r.size) (shared_at r i))) l
        by true y = rw (look_round go fin q c r.size y) (quiet r l t p K i _ _ refl refl (look_keeps w p lt soon I lag i ilt working go to_go s-go w-go job))
        by false y = rw (look_done go fin q c r.size y) (quiet r l t p K i _ _ refl refl (off_keeps w p fin lt to_fin r-fin s-fin (λ u. absurd (w-fin u)) I))

    module _ (R : Raising r.size r.parts q (work w p) (mark w p) i t.C) where
      seeing_good : Good (stored_of r p i (still (see_row go fin q s) (shared_at r i))) l
      unfolding see_row
      seeing_good = by (raises_of q.v s) refl
        where
          by : (b : Bool) → raises_of q.v s ≡ b → Good (stored_of r p i (still (to_phase (cond b go fin) (with_s s q)) (shared_at r i))) l
          by true u = quiet r l t p K i _ _ refl refl (see_keeps w p lt soon I lag i ilt working R go to_go w-go job u)
          by false u = quiet r l t p K i _ _ refl refl (see_off w p lt soon I lag i ilt working R fin to_fin r-fin s-fin w-fin)

      setting_good : Setting q (mark w p) i t.Q → Good (stored_of r p i (take_set (set_row go fin q s) (shared_at r i))) l
      setting_good Z = by (ℕ_discrete s.0 q.s.0)
        where
          view : view_of (stored_of r p i (take_set (record { q = to_phase fin q; seq = q.v }) (shared_at r i))) l (with_q (set t.Q i (mark w p).v) t)
              ≡ stepped p (to_phase fin q) (with_q (set t.Q i (mark w p).v) t) (with_seq (set r.seq i q.v) w)
          view =
              stored_view r p i (take_set (record { q = to_phase fin q; seq = q.v }) (shared_at r i)) r.commit (set r.seq i q.v) (commit_back r i) refl l
              (with_q (set t.Q i (mark w p).v) t)

          stored : s.0 ≡ q.s.0 → Good (stored_of r p i (take_set (record { q = to_phase fin q; seq = q.v }) (shared_at r i))) l
          stored same =
              let up = set_up w p lt soon I lag i ilt working R Z same in
              record {
                truth = with_q (set t.Q i (mark w p).v) t;
                core = subst Core (sym view) (set_keeps w p lt soon I lag i ilt working R Z same fin to_fin r-fin s-fin w-fin);
                keep = record {
                  here = K.here;
                  low = λ k lo hi. le_trans (K.low k lo hi) (up (k % r.parts));
                  held = λ h. le_trans (K.held h) (up (t.lo % r.parts));
                };
              }

          by : Dec (s.0 ≡ q.s.0) → Good (stored_of r p i (take_set (set_row go fin q s) (shared_at r i))) l
          by (yes same) = rw (set_stored go fin q s same) (stored same)
          by (no n) = rw (set_other go fin q s n) seeing_good

  -- ---- the add of a commit

  -- the piece at j, of m bytes, in sub-buffer i; p goes on at phase ph
  adding_good : (x : Row) → row_of q.phase ≡ x → (i j m ph written : ℕ) →
      j < length l.pieces → (piece w j).producer ≡ p → (piece w j).committed ≡ false → (piece w j).size ≡ m → (piece w j).part % r.parts ≡ i →
      T (calm (says (row_of ph)) (says x)) → (T (says (row_of ph)).raising → ⊥) → (T (says (row_of ph)).setting → ⊥) → (T (says (row_of ph)).whole → ⊥) →
      ((y : ℕ) → Mine (to_phase ph q) (work w p) y → y ≢ j) →
      Good (stored_of r p i (take_add (record { q = to_phase ph q; commit = on_of (get_or r.commit i (commit 0)) m; written = written }) (shared_at r i)))
      (logPieces (set l.pieces j (done (piece w j))) l)
  adding_good x e i j m ph written jlt who isopen size ix u a b c rest =
      record {
        truth = with_c C' t;
        core = subst Core (sym view) (add_keeps w p lt I i j m ph jlt who isopen size ix (subst (λ y. T (calm (says (row_of ph)) (says y))) (sym e) u) a b c rest);
        keep = K;
      }
    where
      C' : List ℕ
      C' = set t.C i (get_or t.C i 0 + (piece w j).size)

      view : view_of (stored_of r p i (take_add (record { q = to_phase ph q; commit = on_of (get_or r.commit i (commit 0)) m; written = written }) (shared_at r i)))
          (logPieces (set l.pieces j (done (piece w j))) l) (with_c C' t)
          ≡ stepped p (to_phase ph q) (with_c C' t) (with_pieces (set l.pieces j (done (piece w j))) (with_commit (set r.commit i (on_of (get_or r.commit i (commit 0)) m)) w))
      view =
          stored_view r p i (take_add (record { q = to_phase ph q; commit = on_of (get_or r.commit i (commit 0)) m; written = written }) (shared_at r i))
          (set r.commit i (on_of (get_or r.commit i (commit 0)) m)) r.seq refl (seq_back r i) (logPieces (set l.pieces j (done (piece w j))) l) (with_c C' t)

  -- two pieces that differ in what they are
  other : (i j : ℕ) (a b : Whose) → (piece w i).whose ≡ a → (piece w j).whose ≡ b → (a ≡ b → ⊥) → i ≢ j
  other i j a b ea eb n x = n (sym ea ∙ ap (λ y. (piece w y).whose) x ∙ eb)

  pad_head : padding ≡ heading → ⊥
  pad_head c = let z : ◌≡◌ {A = ℕ} 0 1 = cc in omega arith

  pad_slot : padding ≡ slot → ⊥
  pad_slot c = let z : ◌≡◌ {A = ℕ} 0 1 = cc in omega arith

  head_slot : heading ≡ slot → ⊥
  head_slot c = let z : ◌≡◌ {A = ℕ} 0 1 = cc in omega arith

  -- the padding's
  add_padding : row_of q.phase ≡ committing padding add →
      Good (stored_of r p (part_of q.w r.size r.parts) (commit_by padding add q (shared_at r (part_of q.w r.size r.parts)) r.size)) (note_add padding p l)
  unfolding says row_of calm commit_by add_row note_add
  add_padding e =
      adding_good (committing padding add) e (part_of q.w r.size r.parts) (work w p).padding (left_of q.w r.size) 6 r.written H.inlog
      (ap (λ y. y.producer) H.entry) (ap (λ y. y.committed) H.entry)
      (ap (λ y. y.size) H.entry ∙ sym (left_is I.shape q (mark w p).saw look'.w_is))
      (ap (λ y. y.part % r.parts) H.entry ∙ sym (part_is I.shape q (mark w p).saw look'.w_is))
      tt (λ u. u) (λ u. u) (λ u. u) rest
    where
      look' : Looked q (work w p) (mark w p) w.W
      look' = mine.looks (rw e tt)

      H : PadHeld r.size p (work w p) (mark w p) l.pieces
      H = mine.pads (rw e tt)

      is_pad : (piece w (work w p).padding).whose ≡ padding
      is_pad = ap (λ y. y.whose) H.entry

      rest : (y : ℕ) → Mine (to_phase 6 q) (work w p) y → y ≢ (work w p).padding
      rest y (my_pad u x) z = absurd u
      rest y (my_head u ev x) z = other (work w p).heading (work w p).padding heading padding (ap (λ y. y.whose) (mine.heads (rw e tt) ev).entry) is_pad (λ c. pad_head (sym c)) (sym x ∙ z)
      rest y (my_slot u ev x) z = other (work w p).slot (work w p).padding slot padding (ap (λ y. y.whose) (mine.slots (rw e tt) ev).entry) is_pad (λ c. pad_slot (sym c)) (sym x ∙ z)

  -- the header's
  add_heading : row_of q.phase ≡ committing heading add →
      Good (stored_of r p (part_of (place_at q r.size).a r.size r.parts) (commit_by heading add q (shared_at r (part_of (place_at q r.size).a r.size r.parts)) r.size)) (note_add heading p l)
  unfolding says row_of calm commit_by add_row note_add phase_fits
  add_heading e =
      adding_good (committing heading add) e (part_of (place_at q r.size).a r.size r.parts) (work w p).heading header 11 r.written H.inlog
      (ap (λ y. y.producer) H.entry) (ap (λ y. y.committed) H.entry) (ap (λ y. y.size) H.entry)
      (ap (λ y. y.part % r.parts) H.entry ∙ sym (slot_part I.shape q (mark w p).saw look'.w_is (omega (arith, ev)) sized.fits))
      tt (λ u. u) (λ u. u) (λ u. u) rest
    where
      look' : Looked q (work w p) (mark w p) w.W
      look' = mine.looks (rw e tt)

      ev : Event q
      ev = not_zero q.z (and_left (not (flushing q)) _ (fits_phase q r.size (committing heading add) fits e))

      sized : Sized r.size q (mark w p)
      sized = mine.sized (rw e tt) ev

      H : HeadHeld r.size p q (work w p) (mark w p) l.pieces
      H = mine.heads (rw e tt) ev

      rest : (y : ℕ) → Mine (to_phase 11 q) (work w p) y → y ≢ (work w p).heading
      rest y (my_pad u x) z = absurd u
      rest y (my_head u ev x) z = absurd u
      rest y (my_slot u ev x) z =
          other (work w p).slot (work w p).heading slot heading (ap (λ y. y.whose) (mine.slots (rw e tt) ev).entry) (ap (λ y. y.whose) H.entry) (λ c. head_slot (sym c)) (sym x ∙ z)

  -- the slot's own: the event is written
  add_slot : row_of q.phase ≡ committing slot add →
      Good (stored_of r p (part_of (place_at q r.size).a r.size r.parts) (commit_by slot add q (shared_at r (part_of (place_at q r.size).a r.size r.parts)) r.size)) (note_add slot p l)
  unfolding says row_of calm commit_by add_row note_add note_fate phase_fits
  add_slot e = record { truth = G.truth; core = G.core; keep = G.keep }
    where
      look' : Looked q (work w p) (mark w p) w.W
      look' = mine.looks (rw e tt)

      ev : Event q
      ev = not_zero q.z (fits_phase q r.size (committing slot add) fits e)

      sized : Sized r.size q (mark w p)
      sized = mine.sized (rw e tt) ev

      H : SlotHeld r.size p q (work w p) (mark w p) l.pieces
      H = mine.slots (rw e tt) ev

      rest : (y : ℕ) → Mine (to_phase 17 q) (work w p) y → y ≢ (work w p).slot
      rest y (my_pad u x) z = absurd u
      rest y (my_head u ev x) z = absurd u
      rest y (my_slot u ev x) z = absurd u

      G : Good (stored_of r p (part_of (place_at q r.size).a r.size r.parts)
          (take_add (record { q = to_phase 17 q; commit = on_of (get_or r.commit (part_of (place_at q r.size).a r.size r.parts) (commit 0)) q.z; written = add32 r.written 1 }) (shared_at r (part_of (place_at q r.size).a r.size r.parts))))
          (logPieces (set l.pieces (work w p).slot (done (piece w (work w p).slot))) l)
      G =
          adding_good (committing slot add) e (part_of (place_at q r.size).a r.size r.parts) (work w p).slot q.z 17 (add32 r.written 1) H.inlog
          (ap (λ y. y.producer) H.entry) (ap (λ y. y.committed) H.entry) (ap (λ y. y.size) H.entry ∙ sym sized.long)
          (ap (λ y. y.part % r.parts) H.entry ∙ sym (slot_part I.shape q (mark w p).saw look'.w_is (omega (arith, ev)) sized.fits))
          tt (λ u. u) (λ u. u) (λ u. u) rest

  -- ---- look, see and set

  head_event : (stage : Stage) → row_of q.phase ≡ committing heading stage → Event q
  unfolding phase_fits
  head_event stage e = not_zero q.z (and_left (not (flushing q)) _ (fits_phase q r.size (committing heading stage) fits e))

  slot_event : (stage : Stage) → row_of q.phase ≡ committing slot stage → Event q
  unfolding phase_fits
  slot_event stage e = not_zero q.z (fits_phase q r.size (committing slot stage) fits e)

  raising_at : (x : Row) (i : ℕ) → row_of q.phase ≡ x → T (says x).raising → job_of (whose_of x) r.size r.parts q.z (mark w p).saw ≡ i →
      Raising r.size r.parts q (work w p) (mark w p) i t.C
  raising_at x i e u j =
      subst (λ n. Raising r.size r.parts q (work w p) (mark w p) n t.C)
      (ap (λ y. job_of (whose_of y) r.size r.parts q.z (mark w p).saw) e ∙ j) (mine.raises (subst (λ y. T (says y).raising) (sym e) u))

  setting_at : (x : Row) (i : ℕ) → row_of q.phase ≡ x → T (says x).setting → job_of (whose_of x) r.size r.parts q.z (mark w p).saw ≡ i →
      Setting q (mark w p) i t.Q
  setting_at x i e u j =
      subst (λ n. Setting q (mark w p) n t.Q)
      (ap (λ y. job_of (whose_of y) r.size r.parts q.z (mark w p).saw) e ∙ j) (mine.sets (subst (λ y. T (says y).setting) (sym e) u))

  -- whichever piece: in sub-buffer i, with fin next when it is done
  module _ (whose : Whose) (fin : ℕ) (J : Job whose fin) (i : ℕ) (ilt : i < r.parts) (job : job_of whose r.size r.parts q.z (mark w p).saw ≡ i)
      (next : after_of whose q ≡ fin) where
    after_look : row_of q.phase ≡ committing whose look → Good (stored_of r p i (commit_by whose look q (shared_at r i) r.size)) l
    unfolding commit_by
    after_look e =
        rw next
        (looking_good (committing whose look) e i ilt J.busy (phase_of whose see) fin J.look_go J.look_fin J.see_whole J.fin_raising J.fin_setting J.fin_whole
        (rw J.see_whose job) J.see_setting)

    after_see : row_of q.phase ≡ committing whose see → Good (stored_of r p i (commit_by whose see q (shared_at r i) r.size)) l
    unfolding commit_by
    after_see e =
        rw next
        (seeing_good (committing whose see) e i ilt J.see_busy (phase_of whose setting) fin J.see_go J.see_fin J.set_whole J.fin_raising J.fin_setting J.fin_whole
        (rw J.set_whose job) (raising_at (committing whose see) i e J.see_raising job))

    after_set : row_of q.phase ≡ committing whose setting → Good (stored_of r p i (commit_by whose setting q (shared_at r i) r.size)) l
    unfolding commit_by
    after_set e =
        rw next
        (setting_good (committing whose setting) e i ilt J.set_busy (phase_of whose setting) fin J.set_go J.set_fin J.set_whole J.fin_raising J.fin_setting J.fin_whole
        (rw J.set_whose job) (raising_at (committing whose setting) i e J.set_raising job) (setting_at (committing whose setting) i e J.set_setting job))

  pad_job : T (says_of q).looked → (mark w p).saw / r.size % r.parts ≡ part_of q.w r.size r.parts
  pad_job u = sym (part_is I.shape q (mark w p).saw (mine.looks u).w_is)

  pad_lt : part_of q.w r.size r.parts < r.parts
  pad_lt = part_lt q.w r.size r.parts (s_pos I.shape) (n_pos I.shape)

  slot_job : Event q → T (says_of q).looked → T (says_of q).busy →
      part_in (fit_of ((mark w p).saw % r.size) q.z r.size) r.size (mark w p).saw % r.parts ≡ part_of (place_at q r.size).a r.size r.parts
  slot_job ev u b = sym (slot_part I.shape q (mark w p).saw (mine.looks u).w_is (omega (arith, ev)) (mine.sized b ev).fits)

  slot_lt : part_of (place_at q r.size).a r.size r.parts < r.parts
  slot_lt = part_lt (place_at q r.size).a r.size r.parts (s_pos I.shape) (n_pos I.shape)

  pub commit_good : (whose : Whose) (stage : Stage) → row_of q.phase ≡ committing whose stage →
      Good (stored_of r p (part_by (committing whose stage) q r.size r.parts) (commit_by whose stage q (shared_at r (part_by (committing whose stage) q r.size r.parts)) r.size))
      (note_commit whose stage p l)
  unfolding says
  commit_good padding add e = add_padding e
  commit_good padding look e =
      ⊎_elim (λ n. after_look padding 0 pad_idle _ pad_lt (pad_job (rw e tt)) n e) (λ n. after_look padding 9 pad_open _ pad_lt (pad_job (rw e tt)) n e) (pad_next q.z)
  commit_good padding see e =
      ⊎_elim (λ n. after_see padding 0 pad_idle _ pad_lt (pad_job (rw e tt)) n e) (λ n. after_see padding 9 pad_open _ pad_lt (pad_job (rw e tt)) n e) (pad_next q.z)
  commit_good padding setting e =
      ⊎_elim (λ n. after_set padding 0 pad_idle _ pad_lt (pad_job (rw e tt)) n e) (λ n. after_set padding 9 pad_open _ pad_lt (pad_job (rw e tt)) n e) (pad_next q.z)
  commit_good heading add e = add_heading e
  commit_good heading look e = after_look heading 14 head_write _ slot_lt (slot_job (head_event look e) (rw e tt) (rw e tt)) refl e
  commit_good heading see e = after_see heading 14 head_write _ slot_lt (slot_job (head_event see e) (rw e tt) (rw e tt)) refl e
  commit_good heading setting e = after_set heading 14 head_write _ slot_lt (slot_job (head_event setting e) (rw e tt) (rw e tt)) refl e
  commit_good slot add e = add_slot e
  commit_good slot look e = after_look slot 0 slot_idle _ slot_lt (slot_job (slot_event look e) (rw e tt) (rw e tt)) refl e
  commit_good slot see e = after_see slot 0 slot_idle _ slot_lt (slot_job (slot_event see e) (rw e tt) (rw e tt)) refl e
  commit_good slot setting e = after_set slot 0 slot_idle _ slot_lt (slot_job (slot_event setting e) (rw e tt) (rw e tt)) refl e
