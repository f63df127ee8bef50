-- Demand 3: what is promised of every history. One clause for each sentence.
use Rattle.std.specs.Prelude.{ℕ, suc, ◌+◌, ◌*◌, ◌/◌, ◌%◌, ◌<◌, ◌≡◌, Bool, true, false, cond, ◌&&◌, not, eqb, leb, length, take, drop, get_or}
use mathlib.Core.List.{List, [], ◌++◌, map, flatten}
use Rattle.counts.specs.Position.{position, byte_of}
use Rattle.counts.specs.Wrap.{word}
use Rattle.parts.specs.Part.{reads, decode_of, run_of}
use Rattle.parts.specs.Reading.{Run, records, refused, read_of}
use Rattle.layout.specs.Record.{Rec, record_of}
use Rattle.layout.specs.Sizes.{header}
use Rattle.steps.specs.Producer.{flushing}
use Rattle.ring.specs.Calls.{held_of}
use Rattle.ring.specs.State.{at}
use Rattle.ring.specs.Refusals.{fresh_refusal}
use Rattle.ring.specs.World.{World, Call}
use Rattle.history.specs.Lists.{only, many, Each}
use Rattle.history.specs.Log.{Event, is_open, is_written, is_lost, Piece, is_heading, is_slot, Log, no_piece, event_at, work_at, bytes_of, sizes}
use Rattle.history.specs.History.{Moment, ends, fresh}
use Rattle.history.specs.Premise.{Premise}

-- ---- each offered event is open, written or lost, exactly one

-- A fate is one of three. An event is open exactly while its producer is at it: started, and its record not committed yet.
abbrev pub at_work : Moment → (i p : ℕ) → Bool
at_work m i p =
    eqb (work_at m.log p).event i
    && (not (flushing (at m.world.ring p)) && (leb 1 (at m.world.ring p).phase && leb (at m.world.ring p).phase 16))

abbrev pub Fates : Moment → Type 0
Fates m = Each (λ i e. is_open e.fate ≡ at_work m i e.rec.producer) m.log.events

-- ---- one no longer open is lost exactly if every part was occupied and its own part closed or too short when last judged

abbrev pub Losses : Moment → Type 0
Losses m = Each (λ i e. is_open e.fate ≡ false → is_lost e.fate ≡ e.note.occupied && e.note.short) m.log.events

-- ---- the counts are those of the history modulo 2^32

pub record Counts (m : Moment) : Type 0 where
  pub offered : m.world.ring.offered ≡ length m.log.events % word
  pub written : m.world.ring.written ≡ many (λ (e : Event). is_written e.fate) m.log.events % word
  pub lost : m.world.ring.lost ≡ many (λ (e : Event). is_lost e.fate) m.log.events % word
  pub write : m.world.ring.write.0 ≡ m.log.write % word
  pub read : m.world.ring.read.0 ≡ (m.log.start + m.log.back * m.world.ring.size) % word

-- ---- written events stand whole, once each, in order of reservation, in the parts delivered and then those remaining

abbrev pub is_written_slot : Log → Piece → Bool
is_written_slot l x = is_slot x.whose && is_written (event_at l x.event).fate

-- the slots of written events, in order of reservation
unfoldable pub written_slots : Log → List Piece
written_slots l = only (is_written_slot l) l.pieces

-- once each: as many slots as its fate says
abbrev pub Once : Moment → Type 0
Once m =
    Each (λ i e. many (λ (x : Piece). eqb x.event i) (written_slots m.log) ≡ cond (is_written e.fate) 1 0) m.log.events

-- the first part that is not delivered
abbrev pub undelivered : Moment → ℕ
undelivered m = m.log.start / m.world.ring.size + length m.log.delivered

-- those in the parts remaining
unfoldable pub remaining : Moment → List Piece
remaining m = only (λ (x : Piece). leb (undelivered m) x.part) (written_slots m.log)

-- the records of a part, by the decoder's own reading
abbrev pub records_by : Run → List Rec
records_by (records rs) = rs
records_by (refused why) = []

unfoldable pub records_in : List ℕ → List (List ℕ)
records_in part = map record_of (records_by (read_of (run_of part)))

-- the bytes that stand in a slot
unfoldable pub bytes_in : World → Piece → List ℕ
bytes_in w x = take x.size (drop (byte_of (position (x.part * w.ring.size + x.offset)) w.ring.size w.ring.parts) w.memory)

abbrev pub Stand : Moment → Type 0
Stand m =
    flatten (map records_in m.log.delivered) ++ map (bytes_in m.world) (remaining m)
    ≡ map (λ (x : Piece). bytes_of (event_at m.log x.event)) (written_slots m.log)

-- ---- a delivered part holds no other record

-- the slots of part k, and the lost count that the open step of its header saw
unfoldable pub slots_in : Log → (k : ℕ) → List Piece
slots_in l k = only (λ (x : Piece). is_slot x.whose && eqb x.part k) l.pieces

unfoldable pub lost_in : Log → (k : ℕ) → ℕ
lost_in l k = (get_or (only (λ (x : Piece). is_heading x.whose && eqb x.part k) l.pieces) 0 no_piece).lost

pub record Delivered (m : Moment) (k : ℕ) (part : List ℕ) : Type 0 where
  -- it decodes, with its position and lost count right
  pub decodes : decode_of part
      ≡ reads (k * m.world.ring.size % word) (lost_in m.log k % word) (header + sizes (slots_in m.log k)) (length (slots_in m.log k))
  -- to exactly the events reserved in it
  pub holds : read_of (run_of part) ≡ records (map (λ (x : Piece). (event_at m.log x.event).rec) (slots_in m.log k))
  -- each of them written
  pub whole : many (is_written_slot m.log) (slots_in m.log k) ≡ length (slots_in m.log k)

-- the parts delivered follow one another from the start on
abbrev pub Parts : Moment → Type 0
Parts m = Each (λ j part. Delivered m (m.log.start / m.world.ring.size + j) part) m.log.delivered

-- ---- delivered means what held shows from an accepted get to its put

-- while a part is held, held shows what it showed at the get
abbrev pub Held : Moment → Type 0
Held m =
    m.world.ring.holding ≡ true →
    (length m.log.delivered ≡ suc m.log.back) × (held_of m.world.ring m.world.memory ≡ get_or m.log.delivered m.log.back [])

-- ---- all of it

pub record Promise (m : Moment) : Type 0 where
  pub fates : Fates m
  pub losses : Losses m
  pub counts : Counts m
  pub once : Once m
  pub stand : Stand m
  pub parts : Parts m
  pub held : Held m

-- for every allowed S, N, P and start, every memory and desks, and every history under the premise
abbrev pub Demand3 : Type 0
Demand3 =
    (S N P start : ℕ) (memory desks : List ℕ) (h : List Call) →
    fresh_refusal S N P (position start) ≡ 0 → start < word → length memory ≡ S * N → length desks ≡ P * S →
    Premise (fresh S N P start memory desks) h → Promise (ends (fresh S N P start memory desks) h)
