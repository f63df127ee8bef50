-- The book of events: what is known of each event, of the producer that is at it, and of its slot. It is over the ring and its log alone.
use Prim.Native.Nat.{ℕ, ◌+◌, ◌*◌, ◌/◌, ◌%◌, ◌≤◌, ◌<◌}
use mathlib.Core.Path.{◌≡◌}
use mathlib.Core.Bool.{Bool, true, false, cond, ◌&&◌}
use mathlib.Core.List.{List}
use lib.Dec.{T}
use lib.ListN.{length, get_or}
use Rattle.counts.specs.Wrap.{word}
use Rattle.steps.specs.declared.producer.Producer.{Producer}
use Rattle.steps.specs.Producer.{nobody}
use Rattle.steps.specs.Step.{padding, heading, slot, add, look, see, set, Row, idle, reading, judging, swapping, closing, opening, writing, ending, committing, nothing, row_of}
use Rattle.ring.specs.declared.state.Ring.{Ring}
use Rattle.history.specs.Lists.{many}
use Rattle.history.specs.Log.{isopen, written, is_open, is_written, is_lost, Note, Event, Piece, Work, Log, no_rec, no_piece, no_work, offered, is_heading, bytes_of}
use Rattle.history.proofs.Invariant.{says_of}

-- ---- who is at an event

-- the rows at which an event is open: from read to the add of its slot
unfoldable pub owning : Row → Bool
owning idle = false
owning reading = true
owning judging = true
owning swapping = true
owning closing = true
owning opening = true
owning writing = true
owning ending = true
owning (committing padding stage) = true
owning (committing heading stage) = true
owning (committing slot add) = true
owning (committing slot look) = false
owning (committing slot see) = false
owning (committing slot set) = false
owning nothing = false

-- at an event that is open; and holding its slot
abbrev pub Owns : Producer → Type 0
Owns q = (q.z ≡ 0 → ⊥) × T (owning (row_of q.phase))

abbrev pub Takes : Producer → Type 0
Takes q = (q.z ≡ 0 → ⊥) × T (says_of q).slotted

abbrev pub no_event : Event
no_event = offered no_rec

-- a loss, by the judge's note
abbrev pub fully : Note → Bool
fully n = n.occupied && n.short

-- ---- the clauses

-- of a producer and the event that it is at. The judge's answer is the note's, where the swap finds the write count that it looked at.
pub record Own (p : ℕ) (q : Producer) (write : ℕ) (e : Event) : Type 0 where
  pub fate : e.fate ≡ isopen
  pub who : e.rec.producer ≡ p
  pub long : q.z ≡ length (bytes_of e)
  pub told : row_of q.phase ≡ swapping → write ≡ q.w.0 → q.full ≡ fully e.note
  pub room : T (says_of q).slotted → fully e.note ≡ false

pub record Owner (p : ℕ) (q : Producer) (k : Work) (write : ℕ) (es : List Event) : Type 0 where
  pub there : k.event < length es
  pub own : Own p q write (get_or es k.event no_event)

-- of a producer that is busy with an event, also when it is written
pub record Begun (q : Producer) (k : Work) (es : List Event) : Type 0 where
  pub there : k.event < length es
  pub long : q.z ≡ length (bytes_of (get_or es k.event no_event))

-- producer c is at event i
pub record Held (i c : ℕ) (qs : List Producer) (ks : List Work) : Type 0 where
  pub owner : Owns (get_or qs c nobody)
  pub its : (get_or ks c no_work).event ≡ i

-- event i has a slot
pub record HasSlot (i : ℕ) (ps : List Piece) : Type 0 where
  pub j : ℕ
  pub there : j < length ps
  pub is : (get_or ps j no_piece).whose ≡ slot
  pub of : (get_or ps j no_piece).event ≡ i

-- of event i
pub record Known (P i : ℕ) (e : Event) (qs : List Producer) (ks : List Work) (ps : List Piece) : Type 0 where
  pub who : e.rec.producer < P
  pub held : e.fate ≡ isopen → Held i e.rec.producer qs ks
  pub loss : is_open e.fate ≡ false → is_lost e.fate ≡ fully e.note
  pub kept : e.fate ≡ written → HasSlot i ps

-- of the slot at place j: it is its event's, written exactly if it is committed; until then its producer holds it
pub record Slot (j : ℕ) (x : Piece) (es : List Event) (qs : List Producer) (ks : List Work) : Type 0 where
  pub there : x.event < length es
  pub bytes : x.bytes ≡ bytes_of (get_or es x.event no_event)
  pub who : x.producer ≡ (get_or es x.event no_event).rec.producer
  pub fate : (get_or es x.event no_event).fate ≡ cond x.committed written isopen
  pub mine : x.committed ≡ false → Takes (get_or qs x.producer nobody) × ((get_or ks x.producer no_work).slot ≡ j)

-- the counts are those of the events
pub record Tally (offers writes losses : ℕ) (es : List Event) : Type 0 where
  pub offers_is : offers ≡ length es % word
  pub writes_is : writes ≡ many (λ (e : Event). is_written e.fate) es % word
  pub losses_is : losses ≡ many (λ (e : Event). is_lost e.fate) es % word

-- the ring began at a boundary; the first part that is not entered starts at the write count, or less than S behind it
pub record Reach (S start W : ℕ) (ps : List Piece) : Type 0 where
  pub begins : start / S * S ≡ start
  pub low : W ≤ (many (λ (x : Piece). is_heading x.whose) ps + start / S) * S
  pub high : (many (λ (x : Piece). is_heading x.whose) ps + start / S) * S < W + S

pub record Entries (P write : ℕ) (qs : List Producer) (ks : List Work) (es : List Event) (ps : List Piece) : Type 0 where
  pub prod : (p : ℕ) → p < P → Owns (get_or qs p nobody) → Owner p (get_or qs p nobody) (get_or ks p no_work) write es
  pub begun : (p : ℕ) → p < P → ((get_or qs p nobody).z ≡ 0 → ⊥) → T (says_of (get_or qs p nobody)).busy → Begun (get_or qs p nobody) (get_or ks p no_work) es
  pub event : (i : ℕ) → i < length es → Known P i (get_or es i no_event) qs ks ps
  pub slots : (j : ℕ) → j < length ps → (get_or ps j no_piece).whose ≡ slot → Slot j (get_or ps j no_piece) es qs ks
  pub once : (i j : ℕ) → i < length ps → j < length ps → (get_or ps i no_piece).whose ≡ slot → (get_or ps j no_piece).whose ≡ slot →
      (get_or ps i no_piece).event ≡ (get_or ps j no_piece).event → i ≡ j

pub record Book (r : Ring) (l : Log) : Type 0 where
  pub tally : Tally r.offered r.written r.lost l.events
  pub reach : Reach r.size l.start l.write l.pieces
  pub entries : Entries r.producers r.write.0 r.producer l.works l.events l.pieces
