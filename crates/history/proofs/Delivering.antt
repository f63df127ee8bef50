-- What is held decodes to exactly the events reserved in its part.
use Prim.Native.Nat.{ℕ, suc, ◌+◌, ◌-◌, ◌*◌, ◌%◌, ◌≤◌, ◌<◌}
use mathlib.Core.Path.{◌≡◌, refl, sym, ap, ap₂, subst, ◌∙◌}
use mathlib.Core.Bool.{Bool, true}
use mathlib.Core.List.{List, [], ◌∷◌, map}
use native.Mathlib.Nat.{le_refl}
use native.Mathlib.Omega.{arith}
use borrow.Author.Tests.{eqb-true}
use lib.ListN.{length, get_or, take, drop, length-append}
use Rattle.counts.specs.Position.{part_of}
use Rattle.counts.specs.Shape.{size_of, shape_of}
use Rattle.counts.specs.Tests.{and_left, and_right}
use Rattle.counts.specs.Wrap.{word}
use Rattle.parts.specs.Part.{reads}
use Rattle.layout.specs.Record.{Rec, record_of, records_of}
use Rattle.parts.specs.RoundTrip.{All, none, more, Fine, record_length}
use Rattle.layout.specs.Sizes.{header, record_size, last_producer}
use Rattle.steps.specs.Step.{slot}
use Rattle.ring.specs.declared.reader.Span.{Span}
use Rattle.ring.specs.declared.state.Ring.{Ring}
use Rattle.ring.specs.Calls.{held_of, between}
use Rattle.ring.specs.CallsLaws.{span_held}
use Rattle.history.specs.Lists.{only, sum_by}
use Rattle.history.specs.Log.{is_slot, Piece, Log, no_piece, event_at, sizes}
use Rattle.history.specs.Promise.{is_written_slot, slots_in, lost_in}
use Rattle.history.proofs.Book.{Slot}
use Rattle.history.proofs.BookGood.{Whole}
use Rattle.history.proofs.Chain.{Shape, is-slot, did, chain_fine}
use Rattle.history.proofs.Contents.{joined, in_part, head_of, Part, part}
use Rattle.history.proofs.Geometry.{header_short}
use Rattle.history.proofs.Given.{Given}
use Rattle.history.proofs.Ground.{Ground, on_view}
use Rattle.history.proofs.Invariant.{Core, KeepOf}
use Rattle.history.proofs.Reader.{held_whole, whole_done, whole_past}
use Rattle.history.proofs.Reading.{joined_records, decodes, holds}
use Rattle.history.proofs.Settled.{Chosen, only_at}
use Rattle.history.proofs.SettledRows.{Closed}
use Rattle.history.proofs.View.{Truth, View, view_of, piece}

-- records that the layout can hold
all_fine : (f : Piece → Rec) (l : List Piece) → ((i : ℕ) → i < length l → Fine (f (get_or l i no_piece))) → All (map f l)
all_fine f [] h = none
all_fine f (x ∷ xs) h = more (h 0 (omega arith)) (all_fine f xs (λ i lt. h (suc i) (omega arith)))

-- the sizes of slots are those of their bytes
sizes_joined : (l : List Piece) → ((i : ℕ) → i < length l → length (get_or l i no_piece).bytes ≡ (get_or l i no_piece).size) → sizes l ≡ length (joined l)
unfolding sum_by joined
sizes_joined [] h = refl
sizes_joined (x ∷ xs) h = omega (arith, sizes_joined xs (λ i lt. h (suc i) (omega arith)), h 0 (omega arith), length-append x.bytes (joined xs))

all_true : {A : Type 0} (t : A → Bool) (l : List A) (d : A) → ((i : ℕ) → i < length l → t (get_or l i d) ≡ true) → length (only t l) ≡ length l
unfolding only
all_true t [] d h = refl
all_true t (x ∷ xs) d h = rw (h 0 (omega arith)) (ap suc (all_true t xs d (λ i lt. h (suc i) (omega arith))))

map_length : {A B : Type 0} (f : A → B) (l : List A) → length (map f l) ≡ length l
map_length f [] = refl
map_length f (x ∷ xs) = ap suc (map_length f xs)

payload_le : (L z : ℕ) → record_size L ≡ z → L ≤ z
unfolding record_size
payload_le L z e = omega arith

below_eight : {n P : ℕ} → n < P → P ≤ 8 → n ≤ last_producer
unfolding last_producer
below_eight h k = omega arith

module _ (r : Ring) (l : Log) (mem desks : List ℕ) (W : Whole r l) (G : Ground r l mem desks) (held : r.holding ≡ true) (size : size_of r.size ≡ true) where
  abbrev t : Truth
  t = W.good.truth

  abbrev v : View
  v = view_of r l t

  I : Core v
  I = W.good.core

  K : KeepOf v
  K = W.good.keep

  abbrev k : ℕ
  k = t.lo

  top : k < k + r.parts
  top = omega (arith, I.shape.parts_low)

  all_S : r.size ≤ sum_by (did k) l.pieces
  all_S = held_whole v I K held

  past : k * r.size + r.size ≤ l.write
  past = omega (arith, whole_past v I k (le_refl _) top all_S)

  committed : (j : ℕ) → j < length l.pieces → (piece v j).part ≡ k → (piece v j).committed ≡ true
  committed = whole_done v I k (le_refl _) top all_S

  pub held_closed : Closed v k
  held_closed = record { past = past; all = committed }

  X : Part r.size r.parts mem k I.shape.size_low (header_short r.size I.shape.size_low) l.pieces
  X =
      part r.size r.parts mem k I.shape.size_low (header_short r.size I.shape.size_low) l.start l.pieces l.write I.chain I.span.first past
      (λ i h e. (on_view r l t mem desks K G).whole i h (committed i h e) (omega (arith, e)))

  -- a slot of the part
  module _ (i : ℕ) (h : i < length (only (in_part k) l.pieces)) where
    c : Chosen (in_part k) l.pieces no_piece (get_or (only (in_part k) l.pieces) i no_piece)
    c = only_at (in_part k) l.pieces no_piece i h

    whose : (piece v c.j).whose ≡ slot
    whose = ap (λ (x : Piece). x.whose) c.is ∙ is-slot _ (and_left (is_slot (get_or (only (in_part k) l.pieces) i no_piece).whose) _ c.passes)

    entry : Slot c.j (piece v c.j) l.events r.producer l.works
    entry = W.book.entries.slots c.j c.there whose

    in_it : (piece v c.j).part ≡ k
    in_it = ap (λ (x : Piece). x.part) c.is ∙ eqb-true _ k (and_right (is_slot (get_or (only (in_part k) l.pieces) i no_piece).whose) _ c.passes)

    abbrev rec : Rec
    rec = (event_at l (get_or (only (in_part k) l.pieces) i no_piece).event).rec

    bytes_are : (get_or (only (in_part k) l.pieces) i no_piece).bytes ≡ record_of rec
    bytes_are = subst (λ (x : Piece). x.bytes ≡ record_of (event_at l x.event).rec) c.is entry.bytes

    size_is : length (get_or (only (in_part k) l.pieces) i no_piece).bytes ≡ (get_or (only (in_part k) l.pieces) i no_piece).size
    unfolding Shape
    size_is =
        subst (λ (x : Piece). length x.bytes ≡ x.size) c.is
        (subst (λ y. Shape y r.size (piece v c.j).offset (piece v c.j).size (piece v c.j).bytes) whose (chain_fine r.size l.start l.pieces l.write c.j I.chain c.there).shape).1

    is-written : is_written_slot l (get_or (only (in_part k) l.pieces) i no_piece) ≡ true
    is-written =
        subst (λ (x : Piece). is_written_slot l x ≡ true) c.is
        (rw (whose, entry.fate, committed c.j c.there in_it))

    fine : Fine rec
    fine =
        record {
          short = omega (arith, small (length rec.payload) (sym (record_length rec) ∙ ap length (sym bytes_are) ∙ size_is), inside, I.shape.size_high);
          known = below_eight (subst (λ (x : Piece). (event_at l x.event).rec.producer < r.producers) c.is (W.book.entries.event _ entry.there).who) I.shape.producers_high;
        }
      where
        inside : (get_or (only (in_part k) l.pieces) i no_piece).size ≤ r.size
        inside = subst (λ (x : Piece). x.size ≤ r.size) c.is (omega (arith, (chain_fine r.size l.start l.pieces l.write c.j I.chain c.there).inside))

        small : (L : ℕ) → record_size L ≡ (get_or (only (in_part k) l.pieces) i no_piece).size → L ≤ (get_or (only (in_part k) l.pieces) i no_piece).size
        small L e = payload_le L _ e

  abbrev rs : List Rec
  rs = map (λ (x : Piece). (event_at l x.event).rec) (only (in_part k) l.pieces)

  all : All rs
  all = all_fine _ (only (in_part k) l.pieces) (λ i h. fine i h)

  is : records_of rs ≡ joined (only (in_part k) l.pieces)
  is = joined_records _ (only (in_part k) l.pieces) (λ i h. bytes_are i h)

  -- it is delivered as it should be
  pub given : Given r.size l k (take r.size (drop (k % r.parts * r.size) mem))
  unfolding slots_in lost_in
  given =
      record {
        decodes = decodes I.shape size mem G.mem_long k l.pieces X rs all is
            ∙ ap₂ (λ (n : ℕ) (u : ℕ). reads (k * r.size % word) (n % word) (header + u) (length rs)) (ap (λ (x : Piece). x.lost) (sym X.heads)) (sym (sizes_joined (only (in_part k) l.pieces) (λ i h. size_is i h)))
            ∙ ap (λ n. reads (k * r.size % word) ((get_or (only (head_of k) l.pieces) 0 no_piece).lost % word) (header + sizes (only (in_part k) l.pieces)) n) (map_length (λ (x : Piece). (event_at l x.event).rec) (only (in_part k) l.pieces));
        holds = holds I.shape size mem G.mem_long k l.pieces X rs all is;
        whole = all_true (is_written_slot l) (only (in_part k) l.pieces) no_piece (λ i h. is-written i h);
      }

-- ---- what held shows

-- it is that part
pub held_shows : (r : Ring) (mem : List ℕ) (k : ℕ) → shape_of r.size r.parts r.producers ≡ true → length mem ≡ r.size * r.parts → r.holding ≡ true →
    part_of r.read r.size r.parts ≡ k % r.parts → held_of r mem ≡ take r.size (drop (k % r.parts * r.size) mem)
unfolding held_of
held_shows r mem k shape long held at =
    let a = part_of r.read r.size r.parts * r.size in
    let e : a + r.size - a ≡ r.size = omega arith in
    ap (λ (s : Span). between s mem) (span_held r (length mem) shape long held) ∙ ap₂ (λ (n m : ℕ). take n (drop (m * r.size) mem)) e at
