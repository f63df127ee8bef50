-- The invariant of ring memory, of a ring and its log; and the records that the log has, which no note changes.
use Prim.Native.Nat.{ℕ, ◌+◌, ◌/◌, ◌<◌}
use mathlib.Core.Path.{◌≡◌, refl, sym, ap, ◌∙◌}
use mathlib.Core.List.{List}
use native.Mathlib.Decide.{dec_lt, ℕ_discrete}
use native.Mathlib.Omega.{arith}
use lib.ListN.{length, get_or, set}
use lib.Seq.{get_or-set_same, get_or-set_other, set_out}
use Rattle.counts.specs.Place.{Fit, entering, inside, closing}
use Rattle.layout.specs.Record.{record_of}
use Rattle.steps.specs.declared.producer.Producer.{Producer}
use Rattle.ring.specs.declared.state.Ring.{Ring}
use Rattle.history.specs.Log.{Event as Offer, Fate, Piece, Work, Log, no_work, no_rec, offered, work_at, event_at, bytes_of, judged, all_occupied, too_short, settled, placing, note_judge, note_fate, note_reserved}
use Rattle.history.proofs.Bytes.{Bytes}
use Rattle.history.proofs.BytesRows.{BytesOf}
use Rattle.history.proofs.Invariant.{KeepOf}
use Rattle.history.proofs.View.{Truth, view_of}

-- the record of each producer, by the log
abbrev pub records : Log → ℕ → List ℕ
records l p = bytes_of (event_at l (work_at l p).event)

-- the invariant of memory, of a ring and its log; the window starts at the read count
abbrev pub Ground : Ring → Log → (mem desks : List ℕ) → Type 0
Ground r l mem desks = Bytes r.size r.parts r.producers r.producer l.works l.pieces (l.start / r.size + l.back) mem desks (records l)

-- other records that are the same
pub same_records : {S N P : ℕ} {producer : List Producer} {works : List Work} {pieces : List Piece} {lo : ℕ} {mem desks : List ℕ} (b b' : ℕ → List ℕ) →
    ((p : ℕ) → p < P → b p ≡ b' p) → Bytes S N P producer works pieces lo mem desks b → Bytes S N P producer works pieces lo mem desks b'
same_records b b' same x =
    record {
      mem_long = x.mem_long;
      desks_long = x.desks_long;
      whole = x.whole;
      prod = λ p h. let y = x.prod p h in
          record { closed = y.closed; opened = y.opened; written = y.written; ended = y.ended; desk = λ u ev i k. y.desk u ev i k ∙ ap (λ (l : List ℕ). get_or l i 0) (same p h) };
    }

-- as the invariant of positions has it
pub on_view : (r : Ring) (l : Log) (t : Truth) (mem desks : List ℕ) → KeepOf (view_of r l t) → Ground r l mem desks → BytesOf (view_of r l t) mem desks (records l)
on_view r l t mem desks K x = rw K.here x

-- ---- the records that the log has stay

-- an event's record is what was offered
record_kept : (es : List Offer) (i j : ℕ) (f : Offer → Offer) → ((e : Offer) → (f e).rec ≡ e.rec) → (get_or (set es i (f (get_or es i (offered no_rec)))) j (offered no_rec)).rec ≡ (get_or es j (offered no_rec)).rec
record_kept es i j f same = go (ℕ_discrete j i) (dec_lt i (length es))
  where
    go : Dec (j ≡ i) → Dec (i < length es) → (get_or (set es i (f (get_or es i (offered no_rec)))) j (offered no_rec)).rec ≡ (get_or es j (offered no_rec)).rec
    go (yes e) (yes h) = rw e (ap (λ (y : Offer). y.rec) (get_or-set_same es i (f (get_or es i (offered no_rec))) (offered no_rec) h) ∙ same (get_or es i (offered no_rec)))
    go (yes e) (no h) = rw (set_out es i (f (get_or es i (offered no_rec))) (omega arith))
    go (no n) h = rw (get_or-set_other es i j (f (get_or es i (offered no_rec))) (offered no_rec) n)

pub judge_records : (p S N : ℕ) (l : Log) (o : ℕ) → records l o ≡ records (note_judge p S N l) o
unfolding note_judge
judge_records p S N l o = ap record_of (sym (record_kept l.events (work_at l p).event (work_at l o).event
    (judged (record { occupied = all_occupied l N; short = too_short l (length (bytes_of (event_at l (work_at l p).event))) S })) (λ e. refl)))

pub fate_records : (p : ℕ) (f : Fate) (l : Log) (o : ℕ) → records l o ≡ records (note_fate p f l) o
unfolding note_fate
fate_records p f l o = ap record_of (sym (record_kept l.events (work_at l p).event (work_at l o).event (settled f) (λ e. refl)))

-- a reservation leaves which event a producer is at
placing_event : (fit : Fit) (n : ℕ) (k : Work) → (placing fit n k).event ≡ k.event
unfolding placing
placing_event entering n k = refl
placing_event inside n k = refl
placing_event closing n k = refl

pub reserved_records : (p : ℕ) (fit : Fit) (ps : List Piece) (l : Log) (o : ℕ) → records l o ≡ records (note_reserved p fit ps l) o
unfolding note_reserved
reserved_records p fit ps l o = ap (λ i. bytes_of (event_at l i)) (sym (go (ℕ_discrete o p) (dec_lt p (length l.works))))
  where
    go : Dec (o ≡ p) → Dec (p < length l.works) → (get_or (set l.works p (placing fit (length l.pieces) (work_at l p))) o no_work).event ≡ (work_at l o).event
    go (yes e) (yes h) = rw e (ap (λ (k : Work). k.event) (get_or-set_same l.works p _ no_work h) ∙ placing_event fit (length l.pieces) (work_at l p))
    go (yes e) (no h) = rw (set_out l.works p (placing fit (length l.pieces) (work_at l p)) (omega arith))
    go (no n) h = rw (get_or-set_other l.works p o (placing fit (length l.pieces) (work_at l p)) no_work n)
