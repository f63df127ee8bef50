-- The clause Stand of the promise.
use Prim.Native.Nat.{ℕ, suc, ◌+◌, ◌*◌, ◌/◌, ◌%◌, ◌≤◌, ◌<◌}
use mathlib.Core.Path.{◌≡◌, refl, sym, ap, ap₂, subst, ◌∙◌}
use mathlib.Core.Bool.{Bool, true, false, cond, ◌&&◌, false≢true}
use mathlib.Core.List.{List, [], ◌∷◌, ◌++◌, map, flatten, map-append, map-map}
use native.Mathlib.Nat.{mul-le-mul_right, mul_comm, mod-lt}
use native.Mathlib.Omega.{arith}
use lib.Dec.{eqb, leb}
use lib.ListN.{length, get_or, take, drop, length-drop}
use lib.Seq.{length-take-le, get_or-take, get_or-drop, ext_get_or}
use borrow.Author.Tests.{le-leb, leb-true}
use Rattle.counts.specs.Position.{byte_of}
use Rattle.counts.specs.ShapeLaws.{Shaped}
use Rattle.counts.specs.Tests.{and_left, and_right}
use Rattle.parts.specs.Reading.{Run}
use Rattle.layout.specs.Record.{record_of}
use Rattle.steps.specs.Step.{slot}
use Rattle.ring.specs.declared.state.Ring.{Ring}
use Rattle.history.specs.Lists.{only, kept, many}
use Rattle.history.specs.Log.{isopen, written, is_written, is_slot, Piece, Log, no_piece, event_at, bytes_of}
use Rattle.history.specs.History.{Moment}
use Rattle.history.specs.Promise.{is_written_slot, written_slots, undelivered, remaining, records_by, records_in, bytes_in, Stand, slots_in}
use Rattle.history.proofs.Book.{Slot}
use Rattle.history.proofs.BookGood.{Whole}
use Rattle.history.proofs.Bytes.{SlotStands}
use Rattle.history.proofs.Chain.{Shape, is-slot, Fine, chain_fine, chain_low}
use Rattle.history.proofs.Contents.{in_part}
use Rattle.history.proofs.Geometry.{byte_at, n_pos, lt_of_mul}
use Rattle.history.proofs.Given.{Given}
use Rattle.history.proofs.Ground.{Ground}
use Rattle.history.proofs.Invariant.{Core}
use Rattle.history.proofs.Memory.{Stands}
use Rattle.history.proofs.Out.{Out}
use Rattle.history.proofs.Settled.{Chosen, only_at, map_same}
use Rattle.history.proofs.Standing.{only_only, only_same, from, exactly, in_turn, turns}
use Rattle.history.proofs.View.{view_of}

flatten_map : {A B : Type 0} (f : A → B) (l : List (List A)) → map f (flatten l) ≡ flatten (map (map f) l)
unfolding flatten
flatten_map f [] = refl
flatten_map f (x ∷ xs) = map-append f x (flatten xs) ∙ ap (λ r. map f x ++ r) (flatten_map f xs)

-- a choice that leaves none out
only_all : {A : Type 0} (t : A → Bool) (l : List A) → length (only t l) ≡ length l → only t l ≡ l
unfolding only
only_all t [] e = refl
only_all t (x ∷ xs) e = go (t x) e (only_all t xs)
  where
    short : {A : Type 0} (t : A → Bool) (l : List A) → length (only t l) ≤ length l
    short t [] = omega arith
    short t (y ∷ ys) = more (t y) (short t ys)
      where
        more : (b : Bool) → length (only t ys) ≤ length ys → length (kept b y (only t ys)) ≤ suc (length ys)
        more true k = omega arith
        more false k = omega arith

    go : (b : Bool) → length (kept b x (only t xs)) ≡ suc (length xs) → (length (only t xs) ≡ length xs → only t xs ≡ xs) → kept b x (only t xs) ≡ x ∷ xs
    go true k later = ap (λ r. x ∷ r) (later (omega arith))
    go false k later = absurd (omega (arith, short t xs))

and_swap : (a b c : Bool) → ((a && c) && (a && b)) ≡ ((a && b) && c)
and_swap true true true = refl
and_swap true true false = refl
and_swap true false true = refl
and_swap true false false = refl
and_swap false b c = refl

and_true : (a b : Bool) → b ≡ true → a ≡ (a && b)
and_true true b e = sym e
and_true false b e = refl

-- a run that stands is read whole
pub stands_taken : {S N P : ℕ} → Shaped S N P → (mem : List ℕ) → length mem ≡ S * N → (k o : ℕ) (bytes : List ℕ) (z : ℕ) → length bytes ≡ z → 0 < z → o + z ≤ S →
    Stands S N mem k o bytes z → take z (drop ((k * S + o) % (S * N)) mem) ≡ bytes
unfolding Stands
stands_taken {S} {N} {P} F mem long k o bytes z e pos room st =
    rw (byte_at F k o (omega arith))
    (ext_get_or 0 (take z (drop a mem)) bytes (taken ∙ sym e)
    (λ i h.
    get_or-take z (drop a mem) i 0 (omega (arith, taken))
    ∙ get_or-drop a mem i 0
    ∙ ap (λ j. get_or mem j 0) (sym (byte_at F k (o + i) (omega (arith, taken)) ∙ omega arith))
    ∙ st i (omega (arith, taken))))
  where
    a : ℕ
    a = k % N * S + o

    taken : length (take z (drop a mem)) ≡ z
    taken = length-take-le z (drop a mem) (rw (length-drop a mem) (omega (arith, long, mul-le-mul_right S (mod-lt k (n_pos F)), mul_comm N S)))

module _ (r : Ring) (l : Log) (mem desks : List ℕ) (W : Whole r l) (G : Ground r l mem desks) (O : Out r l mem) where
  I : Core (view_of r l W.good.truth)
  I = W.good.core

  abbrev f : ℕ
  f = l.start / r.size

  abbrev w : Piece → Bool
  w = is_written_slot l

  abbrev B : Piece → List ℕ
  B x = bytes_of (event_at l x.event)

  -- every part entered is at the start or behind it
  all_from : only w l.pieces ≡ only (from r.size w f) l.pieces
  all_from = only_same w (from r.size w f) l.pieces no_piece (λ i h. and_true (w (get_or l.pieces i no_piece)) _ (le-leb f (get_or l.pieces i no_piece).part (low i h)))
    where
      low : (i : ℕ) → i < length l.pieces → f ≤ (get_or l.pieces i no_piece).part
      low i h =
          let x = get_or l.pieces i no_piece in
          let c = chain_fine r.size l.start l.pieces l.write i I.chain h in
          let d = lt_of_mul r.size f (suc x.part) (omega (arith, chain_low r.size l.start l.pieces l.write i I.chain h, c.inside, c.some, W.book.reach.begins)) in
          omega arith

  -- a delivered part
  exactly_slots : (k : ℕ) → many w (slots_in l k) ≡ length (slots_in l k) → only (exactly r.size w k) l.pieces ≡ slots_in l k
  unfolding slots_in
  exactly_slots k e =
      only_same (exactly r.size w k) (λ (x : Piece). in_part k x && w x) l.pieces no_piece
      (λ i h. sym (and_swap (is_slot (get_or l.pieces i no_piece).whose) (is_written (event_at l (get_or l.pieces i no_piece).event).fate) (eqb (get_or l.pieces i no_piece).part k)))
      ∙ sym (only_only (in_part k) w l.pieces)
      ∙ only_all w (only (in_part k) l.pieces) e

  part_reads : (k : ℕ) (d : List ℕ) → Given r.size l k d → records_in d ≡ map B (only (exactly r.size w k) l.pieces)
  unfolding records_in
  part_reads k d g =
      ap (λ (x : Run). map record_of (records_by x)) g.holds
      ∙ map-map record_of (λ (x : Piece). (event_at l x.event).rec) (slots_in l k)
      ∙ ap (map B) (sym (exactly_slots k g.whole))

  in-turn : (ds : List (List ℕ)) (g : ℕ) → ((j : ℕ) → j < length ds → records_in (get_or ds j []) ≡ map B (only (exactly r.size w (g + j)) l.pieces)) →
      map records_in ds ≡ map (map B) (in_turn r.size w g (length ds) l.pieces)
  unfolding in_turn
  in-turn [] g h = refl
  in-turn (d ∷ ds) g h =
      ap₂ (λ (a : List (List ℕ)) (b : List (List (List ℕ))). a ∷ b)
      (h 0 (omega arith) ∙ ap (λ k. map B (only (exactly r.size w k) l.pieces)) (omega arith))
      (in-turn ds (suc g) (λ j lt. h (suc j) (omega arith) ∙ ap (λ k. map B (only (exactly r.size w k) l.pieces)) (omega arith)))

  delivered_reads : flatten (map records_in l.delivered) ≡ map B (flatten (in_turn r.size w f (length l.delivered) l.pieces))
  delivered_reads =
      ap flatten (in-turn l.delivered f (λ j h. part_reads (f + j) (get_or l.delivered j []) (O.given j h)))
      ∙ sym (flatten_map B (in_turn r.size w f (length l.delivered) l.pieces))

  -- what remains
  abbrev n : ℕ
  n = f + length l.delivered

  -- the bytes of a written slot that is not delivered
  module _ (i : ℕ) (h : i < length (only (from r.size w n) l.pieces)) where
    abbrev x : Piece
    x = get_or (only (from r.size w n) l.pieces) i no_piece

    c : Chosen (from r.size w n) l.pieces no_piece x
    c = only_at (from r.size w n) l.pieces no_piece i h

    is_w : w x ≡ true
    is_w = and_left (w x) _ c.passes

    whose : (get_or l.pieces c.j no_piece).whose ≡ slot
    whose = ap (λ (y : Piece). y.whose) c.is ∙ is-slot _ (and_left (is_slot x.whose) _ is_w)

    entry : Slot c.j (get_or l.pieces c.j no_piece) l.events r.producer l.works
    entry = W.book.entries.slots c.j c.there whose

    committed : (get_or l.pieces c.j no_piece).committed ≡ true
    committed =
        wrote _ (ap is_written (sym entry.fate) ∙ ap (λ (y : Piece). is_written (event_at l y.event).fate) c.is ∙ and_right (is_slot x.whose) _ is_w)
      where
        wrote : (b : Bool) → is_written (cond b written isopen) ≡ true → b ≡ true
        wrote true e = refl
        wrote false e = absurd (false≢true e)

    late : l.start / r.size + l.back ≤ (get_or l.pieces c.j no_piece).part
    late = subst (λ (y : Piece). l.start / r.size + l.back ≤ y.part) (sym c.is) (omega (arith, leb-true n x.part (and_right (w x) _ c.passes), O.count))

    fine : Fine r.size (get_or l.pieces c.j no_piece)
    fine = chain_fine r.size l.start l.pieces l.write c.j I.chain c.there

    long : length (get_or l.pieces c.j no_piece).bytes ≡ (get_or l.pieces c.j no_piece).size
    unfolding Shape
    long = (subst (λ y. Shape y r.size (get_or l.pieces c.j no_piece).offset (get_or l.pieces c.j no_piece).size (get_or l.pieces c.j no_piece).bytes) whose fine.shape).1

    whole : SlotStands r.size r.parts mem (get_or l.pieces c.j no_piece) (get_or l.pieces c.j no_piece).size
    whole = (G.whole c.j c.there committed late).slots whose

    stands_there : bytes_in (record { ring = r; memory = mem; desks = desks }) x ≡ B x
    unfolding bytes_in byte_of
    stands_there =
        subst (λ (y : Piece). bytes_in (record { ring = r; memory = mem; desks = desks }) y ≡ B y) c.is
        (stands_taken I.shape mem G.mem_long y.part y.offset y.bytes y.size long fine.some fine.inside whole ∙ entry.bytes)
      where
        y : Piece
        y = get_or l.pieces c.j no_piece

  rest_reads : map (bytes_in (record { ring = r; memory = mem; desks = desks })) (only (from r.size w n) l.pieces) ≡ map B (only (from r.size w n) l.pieces)
  rest_reads = map_same _ B (only (from r.size w n) l.pieces) no_piece (λ i h. stands_there i h)

  pub stand_at : flatten (map records_in l.delivered) ++ map (bytes_in (record { ring = r; memory = mem; desks = desks })) (only (from r.size w n) l.pieces) ≡ map B (only w l.pieces)
  stand_at =
      ap₂ (λ (a b : List (List ℕ)). a ++ b) delivered_reads rest_reads
      ∙ sym (map-append B (flatten (in_turn r.size w f (length l.delivered) l.pieces)) (only (from r.size w n) l.pieces))
      ∙ ap (map B) (sym (turns r.size w f (length l.delivered) l.start l.pieces l.write I.chain) ∙ sym all_from)

pub stand : (m : Moment) → Whole m.world.ring m.log → Ground m.world.ring m.log m.world.memory m.world.desks → Out m.world.ring m.log m.world.memory → Stand m
unfolding remaining written_slots
stand m W G O =
    ap (λ (ps : List Piece). flatten (map records_in m.log.delivered) ++ map (bytes_in m.world) ps) (only_only (is_written_slot m.log) (λ (x : Piece). leb (undelivered m) x.part) m.log.pieces)
    ∙ stand_at m.world.ring m.log m.world.memory m.world.desks W G O
