-- A whole part decodes, by the decoder's own definition, to exactly the records reserved in it.
use Prim.Native.Nat.{ℕ, suc, ◌+◌, ◌-◌, ◌*◌, ◌%◌, ◌≤◌, ◌<◌}
use mathlib.Core.Path.{◌≡◌, refl, sym, ap, ap₂, subst, ◌∙◌}
use mathlib.Core.Bool.{true}
use mathlib.Core.List.{List, [], ◌∷◌, ◌++◌, map}
use native.Mathlib.Nat.{mod-lt, mul-le-mul_right, mul_comm, add-zero}
use native.Mathlib.Decide.{dec_lt}
use native.Mathlib.Omega.{arith}
use lib.ListN.{length, get_or, take, drop, length-append, length-drop, get_or-append}
use lib.Seq.{length-take-le, get_or-take, get_or-drop, get_or-append-add, ext_get_or}
use Rattle.counts.specs.Shape.{size_of}
use Rattle.counts.specs.ShapeLaws.{Shaped}
use Rattle.counts.specs.Wrap.{word}
use Rattle.layout.specs.Bytes.{le2, le4}
use Rattle.layout.specs.Header.{mark_of, header_of}
use Rattle.layout.specs.HeaderLaws.{header_length}
use Rattle.parts.specs.Part.{reads, decode_of, run_of, refusal_of, laid, lay_out_of, lay_out_bytes}
use Rattle.parts.specs.PartLaws.{lay_run, bytes_done}
use Rattle.parts.specs.Reading.{records, read_of}
use Rattle.layout.specs.Record.{Rec, record_of, records_of}
use Rattle.parts.specs.RoundTrip.{All, read_back, laid_decodes, laid_reads}
use Rattle.layout.specs.Sizes.{header}
use Rattle.history.specs.Lists.{only}
use Rattle.history.specs.Log.{Piece, no_piece}
use Rattle.history.proofs.Bytes.{head_rest}
use Rattle.history.proofs.Contents.{joined, in_part, Part}
use Rattle.history.proofs.Geometry.{byte_at, n_pos, s_pos, off_wrap, at_mod, header_short}
use Rattle.history.proofs.Memory.{Stands}

-- records that are those of pieces
pub joined_records : (f : Piece → Rec) (l : List Piece) → ((i : ℕ) → i < length l → (get_or l i no_piece).bytes ≡ record_of (f (get_or l i no_piece))) → records_of (map f l) ≡ joined l
unfolding records_of joined
joined_records f [] h = refl
joined_records f (x ∷ xs) h = ap₂ (λ (a b : List ℕ). a ++ b) (sym (h 0 (omega arith))) (joined_records f xs (λ i lt. h (suc i) (omega arith)))

module _ {S N P : ℕ} (G : Shaped S N P) (size : size_of S ≡ true) (mem : List ℕ) (long : length mem ≡ S * N) (k : ℕ) (l : List Piece)
    (X : Part S N mem k G.size_low (header_short S G.size_low) l) where
  -- the part, as held shows it
  abbrev pub shown : List ℕ
  shown = take S (drop (k % N * S) mem)

  shown_long : length shown ≡ S
  shown_long = length-take-le S (drop (k % N * S) mem) (rw (length-drop (k % N * S) mem) (omega (arith, long, mul-le-mul_right S (mod-lt k (n_pos G)), mul_comm N S)))

  -- its byte i
  shown_at : (i : ℕ) → i < S → get_or shown i 0 ≡ get_or mem ((k * S + i) % (S * N)) 0
  shown_at i h = get_or-take S (drop (k % N * S) mem) i 0 h ∙ get_or-drop (k % N * S) mem i 0 ∙ ap (λ x. get_or mem x 0) (sym (byte_at G k i h))

  abbrev bytes : List ℕ
  bytes = joined (only (in_part k) l)

  abbrev used : ℕ
  used = header + length bytes

  abbrev position : ℕ
  position = k * S % word

  abbrev lost : ℕ
  lost = X.head.lost % word

  -- a run that stands, byte by byte
  stands_at : (o n : ℕ) (vs : List ℕ) → Stands S N mem k o vs n → (i : ℕ) → i < n → o + i < S → get_or shown (o + i) 0 ≡ get_or vs i 0
  unfolding Stands
  stands_at o n vs st i h c = shown_at (o + i) c ∙ st i h

  room : used ≤ S
  room = X.ran.room

  tail : List ℕ
  tail = le4 position ++ le4 lost

  -- the header's bytes
  head_byte : (i : ℕ) → i < header → get_or (header_of used position lost) i 0 ≡ get_or shown i 0
  unfolding header_of header tail
  head_byte i h = go (dec_lt i 6) (dec_lt i 8)
    where
      low : i < S
      low = omega (arith, G.size_low)

      go : Dec (i < 6) → Dec (i < 8) → get_or (mark_of ++ (le2 used ++ tail)) i 0 ≡ get_or shown i 0
      go (yes c) d =
          get_or-append mark_of (le2 used ++ tail) 0 i c
          ∙ sym (stands_at 0 6 mark_of (subst (λ n. Stands S N mem n 0 mark_of 6) X.head_part X.head_stands.mark) i c (omega arith))
          ∙ ap (λ n. get_or shown n 0) (omega arith)
      go (no c) (yes d) =
          let j : 6 + (i - 6) ≡ i = omega arith in
          ap (λ n. get_or (mark_of ++ (le2 used ++ tail)) n 0) (sym j)
          ∙ get_or-append-add mark_of (le2 used ++ tail) (i - 6) 0
          ∙ get_or-append (le2 used) tail 0 (i - 6) (omega arith)
          ∙ sym (stands_at 6 2 (le2 used) (X.ran.used (header_short S G.size_low)) (i - 6) (omega arith) (omega arith))
          ∙ ap (λ n. get_or shown n 0) j
      go (no c) (no d) =
          let j : 6 + (2 + (i - 8)) ≡ i = omega arith in
          let m : 8 + (i - 8) ≡ i = omega arith in
          ap (λ n. get_or (mark_of ++ (le2 used ++ tail)) n 0) (sym j)
          ∙ get_or-append-add mark_of (le2 used ++ tail) (2 + (i - 8)) 0
          ∙ get_or-append-add (le2 used) tail (i - 8) 0
          ∙ sym (stands_at 8 8 tail (subst (λ n. Stands S N mem n 8 (head_rest S n X.head.lost) 8) X.head_part X.head_stands.rest) (i - 8) (omega arith) (omega arith))
          ∙ ap (λ n. get_or shown n 0) m

  whole_long : length (header_of used position lost ++ (bytes ++ drop used shown)) ≡ length shown
  whole_long = rw (length-append, length-append, length-drop, header_length used position lost) (omega (arith, shown_long, room))

  is_laid : laid bytes position lost shown ≡ shown
  unfolding laid
  is_laid = ext_get_or 0 (header_of used position lost ++ (bytes ++ drop used shown)) shown whole_long (λ i h. go i (dec_lt i header) (dec_lt i used) (omega (arith, h, whole_long, shown_long)))
    where
      go : (i : ℕ) → Dec (i < header) → Dec (i < used) → i < S → get_or (header_of used position lost ++ (bytes ++ drop used shown)) i 0 ≡ get_or shown i 0
      go i (yes c) d h = get_or-append (header_of used position lost) _ 0 i (rw (header_length used position lost) c) ∙ head_byte i c
      go i (no c) (yes d) h =
          let j : header + (i - header) ≡ i = omega arith in
          ap (λ n. get_or (header_of used position lost ++ (bytes ++ drop used shown)) n 0) (sym (ap (λ n. n + (i - header)) (header_length used position lost) ∙ j))
          ∙ get_or-append-add (header_of used position lost) (bytes ++ drop used shown) (i - header) 0
          ∙ get_or-append bytes (drop used shown) 0 (i - header) (omega arith)
          ∙ sym (stands_at header (length bytes) bytes X.ran.stands (i - header) (omega arith) (omega arith))
          ∙ ap (λ n. get_or shown n 0) j
      go i (no c) (no d) h =
          let j : header + (length bytes + (i - used)) ≡ i = omega arith in
          ap (λ n. get_or (header_of used position lost ++ (bytes ++ drop used shown)) n 0) (sym (ap (λ n. n + (length bytes + (i - used))) (header_length used position lost) ∙ j))
          ∙ get_or-append-add (header_of used position lost) (bytes ++ drop used shown) (length bytes + (i - used)) 0
          ∙ get_or-append-add bytes (drop used shown) (i - used) 0
          ∙ get_or-drop used shown (i - used) 0
          ∙ ap (λ n. get_or shown n 0) (omega arith)

  -- ---- it decodes

  module _ (rs : List Rec) (all : All rs) (is : records_of rs ≡ bytes) where
    accepted : lay_out_of (records_of rs) position (length shown) ≡ 0
    accepted =
        lay_run (records_of rs) position (length shown) (rw shown_long size) (rw shown_long aligned) (λ z. X.some (ap length (sym is) ∙ z))
        (omega (arith, shown_long, ap length is, room))
        ∙ ap refusal_of (read_back rs all)
      where
        aligned : position % S ≡ 0
        aligned = off_wrap G (k * S) ∙ ap (λ n. n % S) (sym (add-zero (k * S))) ∙ at_mod S k 0 (s_pos G)

    again : lay_out_bytes (records_of rs) position lost shown ≡ shown
    again = bytes_done (records_of rs) position lost shown accepted ∙ ap (λ (b : List ℕ). laid b position lost shown) is ∙ is_laid

    small : (n : ℕ) → n % word < word
    small n = omega arith

    pub decodes : decode_of shown ≡ reads position lost used (length rs)
    decodes =
        ap decode_of (sym again) ∙ laid_decodes rs position lost shown all accepted (small (k * S)) (small X.head.lost) ∙ ap (λ (b : List ℕ). reads position lost (header + length b) (length rs)) is

    pub holds : read_of (run_of shown) ≡ records rs
    holds = ap (λ (b : List ℕ). read_of (run_of b)) (sym again) ∙ laid_reads rs position lost shown all accepted (small (k * S)) (small X.head.lost)
