-- The invariant: positions, commit counts and seqs. Each clause is over only what it reads.
use Prim.Native.Nat.{ℕ, ◌+◌, ◌*◌, ◌/◌, ◌%◌, ◌≤◌, ◌<◌}
use mathlib.Core.Path.{◌≡◌}
use mathlib.Core.Bool.{Bool, true, false}
use mathlib.Core.List.{List}
use lib.Dec.{T}
use lib.ListN.{length, get_or}
use Rattle.counts.specs.declared.commit.Commit.{Commit}
use Rattle.counts.specs.Commit.{commit}
use Rattle.counts.specs.Place.{Fit, closing, fit_of}
use Rattle.counts.specs.ShapeLaws.{Shaped}
use Rattle.counts.specs.Wrap.{word}
use Rattle.layout.specs.Sizes.{header}
use Rattle.steps.specs.declared.producer.Producer.{Producer}
use Rattle.steps.specs.Step.{Whose, padding, heading, slot, add, look, see, set, Row, idle, reading, judging, swapping, closing as shutting, opening, writing, ending, committing, nothing, row_of}
use Rattle.history.specs.Lists.{sum_by}
use Rattle.history.specs.Log.{Piece, Work, no_piece, noted, pad_piece, head_piece, slot_piece}
use Rattle.history.specs.Premise.{half}
use Rattle.history.proofs.Chain.{Chain, did}
use Rattle.history.proofs.Coords.{part_in, off_in, is_entering}
use Rattle.history.proofs.View.{Mark, View, at, work, mark, piece}

-- ---- what a row says of its producer: a table

-- busy; it has looked at the write count; it has judged; it holds open padding, an open header, an open slot; it has a commit count to
-- raise a seq to; it has seen the seq; no byte is written; all are; it closes a part
pub record Says : Type 0 where
  pub busy : Bool
  pub looked : Bool
  pub judged : Bool
  pub padded : Bool
  pub headed : Bool
  pub slotted : Bool
  pub raising : Bool
  pub setting : Bool
  pub first : Bool
  pub whole : Bool
  pub shut : Bool

abbrev pub bits : (b l j p h s v t f w c : Bool) → Says
bits b l j p h s v t f w c =
    record { busy = b; looked = l; judged = j; padded = p; headed = h; slotted = s; raising = v; setting = t; first = f; whole = w; shut = c }

unfoldable pub says : Row → Says
says idle = bits false false false false false false false false false false false
says reading = bits true false false false false false false false true false false
says judging = bits true true false false false false false false true false false
says swapping = bits true true true false false false false false true false false
says shutting = bits true true false true true true false false true false true
says (committing padding add) = bits true true false true true true false false true false true
says (committing padding look) = bits true true false false true true false false true false true
says (committing padding see) = bits true true false false true true true false true false true
says (committing padding set) = bits true true false false true true true true true false true
says opening = bits true true false false true true false false true false false
says (committing heading add) = bits true true false false true true false false true false false
says (committing heading look) = bits true true false false false true false false true false false
says (committing heading see) = bits true true false false false true true false true false false
says (committing heading set) = bits true true false false false true true true true false false
says writing = bits true true false false false true false false false false false
says ending = bits true true false false false true false false false true false
says (committing slot add) = bits true true false false false true false false false true false
says (committing slot look) = bits true true false false false false false false false false false
says (committing slot see) = bits true true false false false false true false false false false
says (committing slot set) = bits true true false false false false true true false false false
says nothing = bits true false false false false false false false false false false

abbrev pub says_of : Producer → Says
says_of q = says (row_of q.phase)

-- whoever holds a slot is busy
pub slotted_busy : (x : Row) → T (says x).slotted → T (says x).busy
unfolding says
slotted_busy idle u = u
slotted_busy reading u = tt
slotted_busy judging u = tt
slotted_busy swapping u = tt
slotted_busy shutting u = tt
slotted_busy opening u = tt
slotted_busy writing u = tt
slotted_busy ending u = tt
slotted_busy (committing padding add) u = tt
slotted_busy (committing padding look) u = tt
slotted_busy (committing padding see) u = tt
slotted_busy (committing padding set) u = tt
slotted_busy (committing heading add) u = tt
slotted_busy (committing heading look) u = tt
slotted_busy (committing heading see) u = tt
slotted_busy (committing heading set) u = tt
slotted_busy (committing slot add) u = tt
slotted_busy (committing slot look) u = tt
slotted_busy (committing slot see) u = tt
slotted_busy (committing slot set) u = tt
slotted_busy nothing u = tt

-- an event, not a flush
abbrev pub Event : Producer → Type 0
Event q = q.z ≡ 0 → ⊥

-- the case of its slot, by the write count that it saw
abbrev pub fit_in : (S : ℕ) → Producer → Mark → Fit
fit_in S q t = fit_of (t.saw % S) q.z S

-- the sub-buffer that a commit works on: that of the padding, or the slot's
abbrev pub job_of : Whose → (S N z saw : ℕ) → ℕ
job_of padding S N z saw = saw / S % N
job_of heading S N z saw = part_in (fit_of (saw % S) z S) S saw % N
job_of slot S N z saw = part_in (fit_of (saw % S) z S) S saw % N

-- whose commit a row is at
abbrev pub whose_of : Row → Whose
whose_of idle = slot
whose_of reading = slot
whose_of judging = slot
whose_of swapping = slot
whose_of shutting = padding
whose_of opening = heading
whose_of writing = slot
whose_of ending = slot
whose_of (committing whose stage) = whose
whose_of nothing = slot

abbrev pub job_at : (S N : ℕ) → Producer → Mark → ℕ
job_at S N q t = job_of (whose_of (row_of q.phase)) S N q.z t.saw

-- ---- the clauses of a producer

pub record Sized (S : ℕ) (q : Producer) (t : Mark) : Type 0 where
  pub fits : header + q.z ≤ S
  pub long : q.z ≡ length t.bytes

pub record Looked (q : Producer) (k : Work) (t : Mark) (W : ℕ) : Type 0 where
  pub w_is : q.w.0 ≡ t.saw % word
  pub after : k.began ≤ t.saw
  pub before : t.saw ≤ W

-- what room says of part k, which is to be entered
abbrev pub May : (N lo k : ℕ) → Type 0
May N lo k = k < lo + N

pub record Shut (S : ℕ) (q : Producer) (t : Mark) : Type 0 where
  pub past : 0 < t.saw % S
  pub closes : Event q → fit_in S q t ≡ closing

pub record PadHeld (S p : ℕ) (k : Work) (t : Mark) (pieces : List Piece) : Type 0 where
  pub inlog : k.padding < length pieces
  pub entry : get_or pieces k.padding no_piece ≡ pad_piece p (t.saw / S) (t.saw % S) S

pub record HeadHeld (S p : ℕ) (q : Producer) (k : Work) (t : Mark) (pieces : List Piece) : Type 0 where
  pub enters : is_entering (fit_in S q t) ≡ true
  pub inlog : k.heading < length pieces
  pub entry : get_or pieces k.heading no_piece ≡ noted (get_or pieces k.heading no_piece).lost false (head_piece p (part_in (fit_in S q t) S t.saw))

pub record SlotHeld (S p : ℕ) (q : Producer) (k : Work) (t : Mark) (pieces : List Piece) : Type 0 where
  pub inlog : k.slot < length pieces
  pub entry : get_or pieces k.slot no_piece ≡ slot_piece p (part_in (fit_in S q t) S t.saw) (off_in (fit_in S q t) S t.saw) k.event t.bytes
  pub part : q.done ≤ q.z

pub record Raising (S N : ℕ) (q : Producer) (k : Work) (t : Mark) (i : ℕ) (C : List ℕ) : Type 0 where
  pub v_is : q.v.0 ≡ t.v % word
  pub v_le : t.v ≤ get_or C i 0
  pub v_low : k.began ≤ N * t.v + 2 * (S * N)

pub record Setting (q : Producer) (t : Mark) (i : ℕ) (Q : List ℕ) : Type 0 where
  pub s_is : q.s.0 ≡ t.s % word
  pub s_le : t.s ≤ get_or Q i 0
  pub s_lt : t.s < t.v
  pub s_near : t.v < t.s + half

pub record PInv (S N p : ℕ) (q : Producer) (k : Work) (t : Mark) (W lo : ℕ) (C Q : List ℕ) (pieces : List Piece) : Type 0 where
  pub sized : T (says_of q).busy → Event q → Sized S q t
  pub begun : T (says_of q).busy → k.began ≤ W
  pub looks : T (says_of q).looked → Looked q k t W
  pub roomy : T (says_of q).judged → Event q → q.full ≡ false → is_entering (fit_in S q t) ≡ true → May N lo (part_in (fit_in S q t) S t.saw)
  pub shuts : T (says_of q).shut → Shut S q t
  pub pads : T (says_of q).padded → PadHeld S p k t pieces
  pub heads : T (says_of q).headed → Event q → HeadHeld S p q k t pieces
  pub slots : T (says_of q).slotted → Event q → SlotHeld S p q k t pieces
  pub raises : T (says_of q).raising → Raising S N q k t (job_at S N q t) C
  pub sets : T (says_of q).setting → Setting q t (job_at S N q t) Q
  pub none : T (says_of q).first → q.done ≡ 0
  pub all : T (says_of q).whole → q.done ≡ q.z

-- .. in a view, of whatever record, work and mark p is to have there
abbrev pub Own : View → (p : ℕ) → Producer → Work → Mark → Type 0
Own v p q k t = PInv v.S v.N p q k t v.W v.truth.lo v.truth.C v.truth.Q v.pieces

-- ---- the clauses of the ring

-- arrays of the machine, and the true ones beside them
pub record Lens (producers : List Producer) (ks : List Work) (ts : List Mark) (commits seqs : List Commit) (Cs Qs : List ℕ) : Type 0 where
  pub producer : length producers ≡ 8
  pub works : length ks ≡ 8
  pub marks : length ts ≡ 8
  pub commit : length commits ≡ 16
  pub seq : length seqs ≡ 16
  pub C : length Cs ≡ 16
  pub Q : length Qs ≡ 16

-- the machine's counts are the remainders of the true ones
abbrev pub Remains : List Commit → List ℕ → Type 0
Remains l L = (i : ℕ) → (get_or l i (commit 0)).0 ≡ get_or L i 0 % word

pub record Rem (S writes W reads rk : ℕ) (commits seqs : List Commit) (Cs Qs : List ℕ) : Type 0 where
  pub write : writes ≡ W % word
  pub read : reads ≡ rk * S % word
  pub commit : Remains commits Cs
  pub seq : Remains seqs Qs

-- the window starts at lo, and the write count lies in it
pub record Span (S N start W lo : ℕ) : Type 0 where
  pub first : start ≤ lo * S
  pub low : lo * S ≤ W
  pub high : W ≤ lo * S + S * N
  pub past_head : 0 < W % S → header < W % S

-- commit counts of the window
abbrev pub Window : (S N lo : ℕ) → List ℕ → List Piece → Type 0
Window S N lo C pieces = (k : ℕ) → lo ≤ k → k < lo + N → get_or C (k % N) 0 ≡ S * (k / N) + sum_by (did k) pieces

pub record Core (v : View) : Type 0 where
  pub shape : Shaped v.S v.N v.P
  pub lens : Lens v.producer v.works v.truth.marks v.commit v.seq v.truth.C v.truth.Q
  pub rem : Rem v.S v.write v.W v.read v.rk v.commit v.seq v.truth.C v.truth.Q
  pub span : Span v.S v.N v.start v.W v.truth.lo
  pub chain : Chain v.S v.start v.pieces v.W
  pub win : Window v.S v.N v.truth.lo v.truth.C v.pieces
  pub seqs : (i : ℕ) → get_or v.truth.Q i 0 ≤ get_or v.truth.C i 0
  pub prod : (p : ℕ) → p < v.P → Own v p (at v p) (work v p) (mark v p)
  pub old : (j : ℕ) → j < length v.pieces → (piece v j).part < v.truth.lo → (piece v j).committed ≡ true

-- what discard mode adds, over counts alone: the window starts at the read count; no seq of it is behind its lap; what is held is raised
pub record Keep (S N : ℕ) (hold : Bool) (rk lo : ℕ) (Q : List ℕ) : Type 0 where
  pub here : lo ≡ rk
  pub low : (k : ℕ) → lo ≤ k → k < lo + N → S * (k / N) ≤ get_or Q (k % N) 0
  pub held : hold ≡ true → S * (lo / N) + S ≤ get_or Q (lo % N) 0

abbrev pub KeepOf : View → Type 0
KeepOf v = Keep v.S v.N v.hold v.rk v.truth.lo v.truth.Q

-- the premise, at one moment
abbrev pub Soon : View → Type 0
Soon v = (p : ℕ) → p < v.P → T (says_of (at v p)).busy → v.W < (work v p).began + half

-- a seq lags behind its commit count by less than 2^31 / N
abbrev pub Lag : (N : ℕ) → List ℕ → List ℕ → Type 0
Lag N C Q = (i : ℕ) → i < N → N * get_or C i 0 < N * get_or Q i 0 + half
