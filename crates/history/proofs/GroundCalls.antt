-- Every accepted call keeps the invariant of ring memory.
use Prim.Native.Nat.{ℕ, suc, ◌+◌, ◌-◌, ◌*◌, ◌/◌, ◌%◌, ◌≤◌, ◌<◌}
use mathlib.Core.Path.{◌≡◌, refl, sym, ap, ◌∙◌}
use mathlib.Core.Logic.{◌≢◌, ◌⊎◌, inl, inr}
use mathlib.Core.Bool.{Bool, true, false}
use mathlib.Core.List.{List, [], ◌++◌}
use native.Mathlib.Nat.{mul-le-mul_right}
use native.Mathlib.Decide.{dec_lt}
use native.Mathlib.Omega.{arith}
use lib.Dec.{T, eqb}
use lib.ListN.{length, get_or, set, take, drop, length-append, length-drop, get_or-append}
use lib.Seq.{get_or-set_same, get_or-set_other, length-take-le, get_or-append_seam}
use Rattle.counts.specs.Wrap.{word}
use Rattle.layout.specs.Record.{Rec, record_of, laid_on}
use Rattle.layout.specs.RecordLaws.{laid_fits}
use Rattle.parts.specs.RoundTrip.{record_length}
use Rattle.layout.specs.Sizes.{header, head, record_size, least_used}
use Rattle.steps.specs.Bytes.{put, over, bytes_by}
use Rattle.steps.specs.BytesFrame.{put_inside}
use Rattle.steps.specs.BytesLaws.{over_fits}
use Rattle.steps.specs.Fits.{fits_of}
use Rattle.steps.specs.Producer.{nobody, flushing, starts}
use Rattle.steps.specs.Step.{Whose, padding, heading, slot, Stage, add, look, see, set as setting, Row, idle, reading, judging, swapping, closing as shutting, opening, writing, ending, committing, nothing, row_of, step_by, part_at}
use Rattle.ring.specs.declared.state.Ring.{Ring}
use Rattle.counts.specs.declared.position.Position.{Position}
use Rattle.ring.specs.Calls.{stepped as afterStep}
use Rattle.ring.specs.State.{with_producer, with_offered, with_read, with_holding}
use Rattle.history.specs.Lists.{many}
use Rattle.history.specs.Log.{Event as Offer, Work, Log, no_work, no_rec, offered, is_lost, event_at, bytes_of, note_offer, note_flush, note_judge, note_fate, note_reserved, note_slot, note_pad, note_open, note_add, note_get, note_put}
use Rattle.history.specs.History.{note_swap, note_commit, note_row}
use Rattle.history.proofs.Bytes.{PBytes, Bytes}
use Rattle.history.proofs.BytesRows.{is_add, no_add}
use Rattle.history.proofs.Ground.{records, Ground}
use Rattle.history.proofs.GroundRows.{row_ground}
use Rattle.history.proofs.Invariant.{says, says_of, Event, Core, KeepOf}
use Rattle.history.proofs.Memory.{put_length, put_other}
use Rattle.history.proofs.Sums.{each_of}
use Rattle.history.proofs.View.{Truth, view_of, mark}

-- ---- a step

-- the log's start and the parts put back stay
pub record Steady (l l' : Log) : Type 0 where
  pub start : l'.start ≡ l.start
  pub back : l'.back ≡ l.back
  pub delivered : l'.delivered ≡ l.delivered

steady : (l : Log) → Steady l l
steady l = record { start = refl; back = refl; delivered = refl }

swap_steady : (stores flushes full : Bool) (p S : ℕ) (l : Log) → Steady l (note_swap stores flushes full p S l)
unfolding note_pad note_fate note_slot note_reserved
swap_steady true true full p S l = record { start = refl; back = refl; delivered = refl }
swap_steady true false true p S l = record { start = refl; back = refl; delivered = refl }
swap_steady true false false p S l = record { start = refl; back = refl; delivered = refl }
swap_steady false flushes full p S l = steady l

commit_steady : (whose : Whose) (stage : Stage) (p : ℕ) (l : Log) → Steady l (note_commit whose stage p l)
unfolding note_add note_fate
commit_steady padding add p l = record { start = refl; back = refl; delivered = refl }
commit_steady heading add p l = record { start = refl; back = refl; delivered = refl }
commit_steady slot add p l = record { start = refl; back = refl; delivered = refl }
commit_steady whose look p l = steady l
commit_steady whose see p l = steady l
commit_steady whose setting p l = steady l

pub row_steady : (x : Row) (r : Ring) (p : ℕ) (l : Log) → Steady l (note_row x r p l)
unfolding note_row note_judge note_open
row_steady idle r p l = steady l
row_steady reading r p l = steady l
row_steady judging r p l = record { start = refl; back = refl; delivered = refl }
row_steady swapping r p l = swap_steady (eqb r.write.0 (get_or r.producer p nobody).w.0) (flushing (get_or r.producer p nobody)) (get_or r.producer p nobody).full p r.size l
row_steady shutting r p l = steady l
row_steady opening r p l = record { start = refl; back = refl; delivered = refl }
row_steady writing r p l = steady l
row_steady ending r p l = steady l
row_steady (committing whose stage) r p l = commit_steady whose stage p l
row_steady nothing r p l = steady l

pub step_ground : (r : Ring) (l : Log) (t : Truth) (p : ℕ) → p < r.producers → fits_of (get_or r.producer p nobody) r.size ≡ true → Core (view_of r l t) → KeepOf (view_of r l t) →
    (mem desks : List ℕ) → Ground r l mem desks → (Event (get_or r.producer p nobody) → records l p ≡ (mark (view_of r l t) p).bytes) →
    r.lost ≡ many (λ (e : Offer). is_lost e.fate) l.events % word →
    Ground (afterStep r p) (note_row (row_of (get_or r.producer p nobody).phase) r p l)
    (bytes_by (row_of (get_or r.producer p nobody).phase) (get_or r.producer p nobody) p r.lost r.size r.parts mem desks) desks
unfolding afterStep step_by
step_ground r l t p lt fits I K mem desks G b c =
    let x = row_of (get_or r.producer p nobody).phase in
    let s = row_steady x r p l in
    rw (s.start, s.back) (row_ground r l t p lt fits I K mem desks G x refl b c (part_at (get_or r.producer p nobody) r.size r.parts))

-- ---- get and put

pub get_ground : (r : Ring) (l : Log) (mem desks bytes : List ℕ) (b : Bool) → Ground r l mem desks → Ground (with_holding b r) (note_get bytes l) mem desks
unfolding note_get
get_ground r l mem desks bytes b x = x

-- fewer parts stand
pub put_ground : (r : Ring) (l : Log) (mem desks : List ℕ) (b : Bool) (y : Position) → Ground r l mem desks → Ground (with_holding b (with_read y r)) (note_put l) mem desks
unfolding note_put
put_ground r l mem desks b y x =
    record { mem_long = x.mem_long; desks_long = x.desks_long; whole = λ j h c le. x.whole j h c (omega arith); prod = x.prod }

-- ---- a start

-- p starts; its desk may have changed, no other has
module _ (r : Ring) (l : Log) (t : Truth) (I : Core (view_of r l t)) (mem desks : List ℕ) (x : Ground r l mem desks) (p z : ℕ) (lt : p < r.producers) (k : Work)
    (desks' : List ℕ) (b : ℕ → List ℕ) (long : length desks' ≡ r.producers * r.size)
    (own : (z ≡ 0 → ⊥) → (i : ℕ) → i < z → get_or desks' (p * r.size + i) 0 ≡ get_or (b p) i 0)
    (same : (o : ℕ) → o < r.producers → o ≢ p → T (says_of (get_or r.producer o nobody)).busy → Event (get_or r.producer o nobody) → records l o ≡ b o)
    (others : (o : ℕ) → o < r.producers → o ≢ p → (i : ℕ) → i < r.size → get_or desks' (o * r.size + i) 0 ≡ get_or desks (o * r.size + i) 0) where
  start_bytes : Bytes r.size r.parts r.producers (set r.producer p (starts z)) (set l.works p k) l.pieces (l.start / r.size + l.back) mem desks' b
  unfolding says row_of is_add
  start_bytes =
      record {
        mem_long = x.mem_long;
        desks_long = long;
        whole = x.whole;
        prod = each_of p
            (λ o. o < r.producers → PBytes r.size r.parts o (get_or (set r.producer p (starts z)) o nobody) (get_or (set l.works p k) o no_work) l.pieces mem desks' (b o))
            (λ h.
            rw (get_or-set_same r.producer p (starts z) nobody (omega (arith, I.lens.producer, I.shape.producers_high)), get_or-set_same l.works p k no_work (omega (arith, I.lens.works, I.shape.producers_high)))
            (record {
              closed = λ e. absurd ((no_add (row_of 1) refl).pad e);
              opened = λ e. absurd ((no_add (row_of 1) refl).head e);
              written = λ u. absurd u;
              ended = λ e. absurd ((no_add (row_of 1) refl).rec e);
              desk = λ u. own;
            }))
            (λ o ne h.
            let y = x.prod o h in
            rw (get_or-set_other r.producer p o (starts z) nobody ne, get_or-set_other l.works p o k no_work ne)
            (record {
              closed = y.closed;
              opened = y.opened;
              written = y.written;
              ended = y.ended;
              desk = λ u ev i c.
                  others o h ne i (omega (arith, ((I.prod o h).sized u ev).fits)) ∙ y.desk u ev i c ∙ ap (λ (l : List ℕ). get_or l i 0) (same o h ne u ev);
            }));
      }

pub flush_ground : (r : Ring) (l : Log) (t : Truth) → Core (view_of r l t) → (mem desks : List ℕ) (p : ℕ) → p < r.producers → Ground r l mem desks →
    Ground (with_producer p (starts 0) r) (note_flush p l) mem desks
unfolding note_flush
flush_ground r l t I mem desks p lt x =
    start_bytes r l t I mem desks x p 0 lt _ desks (records (note_flush p l)) x.desks_long (λ n. absurd (n refl))
    (λ o h ne u ev. ap (λ (k : Work). bytes_of (event_at l k.event)) (sym (get_or-set_other l.works p o _ no_work ne))) (λ o h ne i c. refl)

-- an accepted record fits behind a header
pub offer_fits : (S L : ℕ) → L ≤ S - least_used → 64 ≤ S → header + record_size L ≤ S
unfolding least_used record_size header head
offer_fits S L h s = omega arith

offer_size : (S L : ℕ) → L ≤ S - least_used → 64 ≤ S → record_size L ≤ S
offer_size S L h s = omega (arith, offer_fits S L h s)

-- an offer lays the record on its desk
pub offer_ground : (r : Ring) (n : ℕ) (l : Log) (t : Truth) → Core (view_of r l t) → (mem desks : List ℕ) (p kind : ℕ) (payload : List ℕ) → p < r.producers → length payload ≤ r.size - least_used →
    ((o : ℕ) → o < r.producers → o ≢ p → T (says_of (get_or r.producer o nobody)).busy → Event (get_or r.producer o nobody) →
    records l o ≡ records (note_offer p (record { kind = kind; producer = p; payload = payload }) l) o) → Ground r l mem desks →
    Ground (with_producer p (starts (record_size (length payload))) (with_offered n r)) (note_offer p (record { kind = kind; producer = p; payload = payload }) l) mem
    (over desks (p * r.size) r.size (λ d. laid_on d payload kind p))
unfolding note_offer
offer_ground r n l t I mem desks p kind payload lt short same x =
    start_bytes r l t I mem desks x p (record_size (length payload)) lt _ desks' (records (note_offer p rec l)) long own same others
  where
    rec : Rec
    rec = record { kind = kind; producer = p; payload = payload }

    S : ℕ
    S = r.size

    desks' : List ℕ
    desks' = over desks (p * S) S (λ d. laid_on d payload kind p)

    part : List ℕ
    part = take S (drop (p * S) desks)

    room : p * S + S ≤ length desks
    room = omega (arith, x.desks_long, mul-le-mul_right S lt)

    part_long : length part ≡ S
    part_long = length-take-le S (drop (p * S) desks) (rw (length-drop (p * S) desks) (omega (arith, room)))

    z_fits : record_size (length payload) ≤ S
    z_fits = offer_size S (length payload) short I.shape.size_low

    laid : laid_on part payload kind p ≡ record_of rec ++ drop (record_size (length payload)) part
    laid = laid_fits part payload kind p (omega (arith, short, I.shape.size_high)) (omega (arith, part_long, z_fits))

    new_long : length (record_of rec ++ drop (record_size (length payload)) part) ≡ S
    new_long = rw (length-append, length-drop, record_length rec) (omega (arith, part_long, z_fits))

    is : desks' ≡ put desks (p * S) S (record_of rec ++ drop (record_size (length payload)) part)
    is = over_fits desks (p * S) S (λ d. laid_on d payload kind p) room ∙ ap (λ (d : List ℕ). put desks (p * S) S d) laid

    long : length desks' ≡ r.producers * S
    long = ap length is ∙ put_length desks (p * S) S _ room new_long ∙ x.desks_long

    mine : records (note_offer p rec l) p ≡ record_of rec
    mine =
        ap (λ (k : Work). bytes_of (event_at (note_offer p rec l) k.event)) (get_or-set_same l.works p _ no_work (omega (arith, I.lens.works, I.shape.producers_high)))
        ∙ ap (λ (e : Offer). bytes_of e) (get_or-append_seam l.events (offered rec) [] (offered no_rec))

    own : (record_size (length payload) ≡ 0 → ⊥) → (i : ℕ) → i < record_size (length payload) → get_or desks' (p * S + i) 0 ≡ get_or (records (note_offer p rec l) p) i 0
    own _ i h =
        ap (λ (d : List ℕ). get_or d (p * S + i) 0) is
        ∙ put_inside desks (p * S) S _ room new_long i (omega (arith, z_fits))
        ∙ get_or-append (record_of rec) _ 0 i (omega (arith, record_length rec))
        ∙ ap (λ (d : List ℕ). get_or d i 0) (sym mine)

    others : (o : ℕ) → o < r.producers → o ≢ p → (i : ℕ) → i < S → get_or desks' (o * S + i) 0 ≡ get_or desks (o * S + i) 0
    others o h ne i c = ap (λ (d : List ℕ). get_or d (o * S + i) 0) is ∙ put_other desks (p * S) S _ room new_long (o * S + i) (side (dec_lt o p))
      where
        side : Dec (o < p) → (o * S + i < p * S) ⊎ (p * S + S ≤ o * S + i)
        side (yes d) = inl (omega (arith, mul-le-mul_right S d))
        side (no d) = inr (omega (arith, mul-le-mul_right S (above d)))
          where
            above : ¬ (o < p) → suc p ≤ o
            above d = omega arith
