-- What a whole part holds: its header, the records reserved in it one behind the other, and their end as its used size.
use Prim.Native.Nat.{ℕ, suc, ◌+◌, ◌-◌, ◌*◌, ◌%◌, ◌≤◌, ◌<◌}
use mathlib.Core.Path.{◌≡◌, refl, sym, ap, subst, subst₂, ◌∙◌}
use mathlib.Core.Logic.{◌≢◌}
use mathlib.Core.Bool.{Bool, true, false, ◌&&◌}
use mathlib.Core.List.{List, [], ◌∷◌, ◌++◌}
use native.Mathlib.Nat.{le_refl}
use native.Mathlib.Decide.{dec_lt, ℕ_discrete}
use native.Mathlib.Omega.{arith}
use lib.Dec.{eqb}
use lib.ListN.{length, get_or, length-append, get_or-append}
use lib.Seq.{get_or-append-add}
use borrow.Author.Tests.{eq-eqb, ne_eqb}
use Rattle.layout.specs.Bytes.{le2}
use Rattle.layout.specs.Sizes.{header}
use Rattle.steps.specs.Step.{Whose, padding, heading, slot}
use Rattle.history.specs.Lists.{only}
use Rattle.history.specs.Log.{Piece, no_piece, is_heading, is_slot}
use Rattle.history.proofs.Bytes.{used_of, HeadStands, Last, Whole}
use Rattle.history.proofs.Chain.{Shape, Chain, pos}
use Rattle.history.proofs.Geometry.{header_pos, below}
use Rattle.history.proofs.Memory.{Stands}

-- the bytes of pieces, put together
unfoldable pub joined : List Piece → List ℕ
joined [] = []
joined (x ∷ xs) = x.bytes ++ joined xs

-- a slot of part k; a header of part k
abbrev pub in_part : ℕ → Piece → Bool
in_part k x = is_slot x.whose && eqb x.part k

abbrev pub head_of : ℕ → Piece → Bool
head_of k x = is_heading x.whose && eqb x.part k

-- a piece that is passed over
skips : {A : Type 0} (test : A → Bool) (x : A) (xs : List A) → test x ≡ false → only test (x ∷ xs) ≡ only test xs
unfolding only
skips test x xs e = rw e

takes : {A : Type 0} (test : A → Bool) (x : A) (xs : List A) → test x ≡ true → only test (x ∷ xs) ≡ x ∷ only test xs
unfolding only
takes test x xs e = rw e

elsewhere : (b : Bool) (k part : ℕ) → part ≢ k → (b && eqb part k) ≡ false
elsewhere true k part ne = ne_eqb part k ne
elsewhere false k part ne = refl

-- ---- along the chain

module _ (S N : ℕ) (mem : List ℕ) (k : ℕ) (S-low : 64 ≤ S) (head-low : header < S) where
  -- every piece of part k stands whole
  abbrev pub Stood : List Piece → Type 0
  Stood l = (i : ℕ) → i < length l → (get_or l i no_piece).part ≡ k → Whole S N mem (get_or l i no_piece)

  rest_stood : (x : Piece) (xs : List Piece) → Stood (x ∷ xs) → Stood xs
  rest_stood x xs h i lt e = h (suc i) (omega arith) e

  -- behind part k nothing is its
  behind : (a : ℕ) (l : List Piece) (b : ℕ) → Chain S a l b → k * S + S ≤ a → only (in_part k) l ≡ []
  unfolding Chain only
  behind a [] b h c = refl
  behind a (x ∷ xs) b h c =
      let away : x.part ≢ k = λ e. let f : x.part * S ≡ k * S = ap (λ y. y * S) e in omega (arith, h.0, h.1, h.2) in
      skips (in_part k) x xs (elsewhere (is_slot x.whose) k x.part away) ∙ behind (a + x.size) xs b h.4 (omega arith)

  -- from offset o on, past the header: the records stand one behind the other, and the used size says where they end
  pub record Ran (o : ℕ) (l : List Piece) : Type 0 where
    pub stands : Stands S N mem k o (joined (only (in_part k) l)) (length (joined (only (in_part k) l)))
    pub room : o + length (joined (only (in_part k) l)) ≤ S
    pub used : o < S → Stands S N mem k 6 (le2 (o + length (joined (only (in_part k) l)))) 2

  -- a piece of part k at offset o
  at_offset : (x : Piece) (o : ℕ) → k * S + o ≡ pos S x → x.offset + x.size ≤ S → 0 < x.size → o < S → (x.part ≡ k) × (x.offset ≡ o)
  at_offset x o e f g h = (same (ℕ_discrete x.part k), off (ℕ_discrete x.part k))
    where
      far : x.part ≢ k → Dec (x.part < k) → ⊥
      far ne (yes c) = omega (arith, below S x.part k c)
      far ne (no c) = omega (arith, below S k x.part (omega arith))

      same : Dec (x.part ≡ k) → x.part ≡ k
      same (yes c) = c
      same (no ne) = absurd (far ne (dec_lt x.part k))

      off : Dec (x.part ≡ k) → x.offset ≡ o
      off (yes c) = let d : x.part * S ≡ k * S = ap (λ y. y * S) c in omega arith
      off (no ne) = absurd (far ne (dec_lt x.part k))

  -- no record
  ran_none : (o : ℕ) (l : List Piece) → only (in_part k) l ≡ [] → o ≤ S → (o < S → Stands S N mem k 6 (le2 o) 2) → Ran o l
  unfolding joined Stands
  ran_none o l e h u =
      record {
        stands = λ i c. absurd (omega (arith, ap (λ (ps : List Piece). length (joined ps)) e));
        room = omega (arith, ap (λ (ps : List Piece). length (joined ps)) e);
        used = λ c. subst (λ n. Stands S N mem k 6 (le2 n) 2) (omega (arith, ap (λ (ps : List Piece). length (joined ps)) e)) (u c);
      }

  -- one more record before others
  ran_more : (o : ℕ) (x : Piece) (xs : List Piece) → only (in_part k) (x ∷ xs) ≡ x ∷ only (in_part k) xs → length x.bytes ≡ x.size →
      Stands S N mem k o x.bytes x.size → (o + x.size ≡ S → Stands S N mem k 6 (le2 S) 2) → o + x.size ≤ S → Ran (o + x.size) xs → Ran o (x ∷ xs)
  unfolding joined Stands
  ran_more o x xs e len front due fits y =
      record {
        stands = λ i c. rw e (go i (dec_lt i x.size) (subst (λ (ps : List Piece). i < length (joined ps)) e c));
        room = omega (arith, total, y.room);
        used = λ c. ending (dec_lt (o + x.size) S);
      }
    where
      tail : List ℕ
      tail = joined (only (in_part k) xs)

      total : length (joined (only (in_part k) (x ∷ xs))) ≡ x.size + length tail
      total = ap (λ (ps : List Piece). length (joined ps)) e ∙ length-append x.bytes tail ∙ ap (λ n. n + length tail) len

      ending : Dec (o + x.size < S) → Stands S N mem k 6 (le2 (o + length (joined (only (in_part k) (x ∷ xs))))) 2
      ending (yes c) = subst (λ n. Stands S N mem k 6 (le2 n) 2) (omega (arith, total)) (y.used c)
      ending (no c) = subst (λ n. Stands S N mem k 6 (le2 n) 2) (omega (arith, total, y.room)) (due (omega arith))

      go : (i : ℕ) → Dec (i < x.size) → i < length (x.bytes ++ tail) → get_or mem ((k * S + (o + i)) % (S * N)) 0 ≡ get_or (x.bytes ++ tail) i 0
      go i (yes c) d = front i c ∙ sym (get_or-append x.bytes tail 0 i (omega arith))
      go i (no c) d =
          let j : x.size + (i - x.size) ≡ i = omega arith in
          ap (λ n. get_or mem ((k * S + n) % (S * N)) 0) (omega arith)
          ∙ y.stands (i - x.size) (omega (arith, length-append x.bytes tail, len))
          ∙ sym (get_or-append-add x.bytes tail (i - x.size) 0)
          ∙ ap (λ n. get_or (x.bytes ++ tail) n 0) (omega (arith, len))

  none_left : only (in_part k) [] ≡ []
  unfolding only
  none_left = refl

  -- one piece, and then the others
  run_on : (o : ℕ) (x : Piece) (xs : List Piece) (b : ℕ) → Chain S (k * S + o) (x ∷ xs) b → header ≤ o → o ≤ S → Stood (x ∷ xs) → (o + x.size ≤ S → Ran (o + x.size) xs) → Ran o (x ∷ xs)
  unfolding Chain Shape
  run_on o x xs b h lo hi st later = go (dec_lt o S)
    where
      go : Dec (o < S) → Ran o (x ∷ xs)
      go (no c) = ran_none o (x ∷ xs) (behind (k * S + o) (x ∷ xs) b h (omega arith)) hi (λ d. absurd (c d))
      go (yes c) = by x.whose refl h.3
        where
          at_o : (x.part ≡ k) × (x.offset ≡ o)
          at_o = at_offset x o h.0 h.1 h.2 c

          whole : Whole S N mem x
          whole = st 0 (omega arith) at_o.0

          used : Last S x → Stands S N mem k 6 (le2 (used_of x.whose S x.offset)) 2
          used l = subst (λ n. Stands S N mem n 6 (le2 (used_of x.whose S x.offset)) 2) at_o.0 (whole.used l)

          by : (w : Whose) → x.whose ≡ w → Shape x.whose S x.offset x.size x.bytes → Ran o (x ∷ xs)
          by padding e f =
              let g = subst (λ w. Shape w S x.offset x.size x.bytes) e f in
              ran_none o (x ∷ xs) (skips (in_part k) x xs (rw e) ∙ behind (k * S + o + x.size) xs b h.4 (omega (arith, at_o.1, g.1))) hi
              (λ d. subst₂ (λ w n. Stands S N mem k 6 (le2 (used_of w S n)) 2) e at_o.1 (used g.1))
          by heading e f =
              let g = subst (λ w. Shape w S x.offset x.size x.bytes) e f in
              absurd (omega (arith, g.0, at_o.1, header_pos))
          by slot e f =
              let g = subst (λ w. Shape w S x.offset x.size x.bytes) e f in
              let fit : o + x.size ≤ S = omega (arith, h.1, at_o.1) in
              ran_more o x xs (takes (in_part k) x xs (rw (e, eq-eqb x.part k at_o.0))) g.1
              (subst₂ (λ n m. Stands S N mem n m x.bytes x.size) at_o.0 at_o.1 (whole.slots e))
              (λ d. subst (λ w. Stands S N mem k 6 (le2 (used_of w S x.offset)) 2) e (used (omega (arith, at_o.1)))) fit (later fit)

  -- the chain from offset o of part k on
  pub run : (o : ℕ) (l : List Piece) (b : ℕ) → Chain S (k * S + o) l b → header ≤ o → o ≤ S → k * S + S ≤ b → Stood l → Ran o l
  unfolding Chain
  run o [] b h lo hi past st = ran_none o [] none_left hi (λ c. absurd (omega arith))
  run o (x ∷ xs) b h lo hi past st =
      run_on o x xs b h lo hi st
      (λ c. run (o + x.size) xs b (subst (λ (a : ℕ). Chain S a xs b) (omega arith) h.4) (omega arith) c past (rest_stood x xs st))

  -- ---- the whole part

  pub record Part (l : List Piece) : Type 0 where
    -- its header, which alone is in it
    pub head : Piece
    pub heads : get_or (only (head_of k) l) 0 no_piece ≡ head
    pub head_stands : HeadStands S N mem head
    pub head_part : head.part ≡ k
    -- its records
    pub ran : Ran header l
    pub some : length (joined (only (in_part k) l)) ≡ 0 → ⊥

  -- a piece that is no slot of the part changes nothing
  ran_skip : (o : ℕ) (x : Piece) (xs : List Piece) → in_part k x ≡ false → Ran o xs → Ran o (x ∷ xs)
  ran_skip o x xs e y =
      let i = skips (in_part k) x xs e in
      record { stands = rw i y.stands; room = rw i y.room; used = λ c. rw i (y.used c) }

  -- behind the header comes a record
  record_next : (xs : List Piece) (b : ℕ) → Chain S (k * S + header) xs b → k * S + S ≤ b → length (joined (only (in_part k) xs)) ≡ 0 → ⊥
  unfolding Chain Shape joined
  record_next [] b h past e = omega arith
  record_next (y ∷ ys) b h past e = by y.whose refl h.3
    where
      at_o : (y.part ≡ k) × (y.offset ≡ header)
      at_o = at_offset y header h.0 h.1 h.2 head-low

      by : (w : Whose) → y.whose ≡ w → Shape y.whose S y.offset y.size y.bytes → ⊥
      by padding w f = let g = subst (λ w. Shape w S y.offset y.size y.bytes) w f in omega (arith, g.0, at_o.1)
      by heading w f = let g = subst (λ w. Shape w S y.offset y.size y.bytes) w f in omega (arith, g.0, at_o.1, header_pos)
      by slot w f =
          let g = subst (λ w. Shape w S y.offset y.size y.bytes) w f in
          let t = takes (in_part k) y ys (rw (w, eq-eqb y.part k at_o.0)) in
          omega (arith, ap (λ (ps : List Piece). length (joined ps)) t, e, length-append y.bytes (joined (only (in_part k) ys)), g.1, h.2)

  -- from where part k starts
  from : (x : Piece) (xs : List Piece) (b : ℕ) → Chain S (k * S) (x ∷ xs) b → k * S + S ≤ b → Stood (x ∷ xs) → Part (x ∷ xs)
  unfolding Chain Shape
  from x xs b h past st = by x.whose refl h.3
    where
      at_o : (x.part ≡ k) × (x.offset ≡ 0)
      at_o = at_offset x 0 (omega (arith, h.0)) h.1 h.2 (omega arith)

      by : (w : Whose) → x.whose ≡ w → Shape x.whose S x.offset x.size x.bytes → Part (x ∷ xs)
      by padding e f = let g = subst (λ w. Shape w S x.offset x.size x.bytes) e f in absurd (omega (arith, g.0, at_o.1))
      by slot e f = let g = subst (λ w. Shape w S x.offset x.size x.bytes) e f in absurd (omega (arith, g.0, at_o.1, header_pos))
      by heading e f =
          let g = subst (λ w. Shape w S x.offset x.size x.bytes) e f in
          let behind_it : Chain S (k * S + header) xs b = subst (λ (a : ℕ). Chain S a xs b) (ap (λ n. k * S + n) g.1) h.4 in
          record {
            head = x;
            heads = ap (λ (ps : List Piece). get_or ps 0 no_piece) (takes (head_of k) x xs (rw (e, eq-eqb x.part k at_o.0)));
            head_stands = (st 0 (omega arith) at_o.0).heads e;
            head_part = at_o.0;
            ran = ran_skip header x xs (rw e) (run header xs b behind_it (le_refl _) (omega (arith, head-low)) past (rest_stood x xs st));
            some = λ z. record_next xs b behind_it past (ap (λ (ps : List Piece). length (joined ps)) (sym (skips (in_part k) x xs (rw e))) ∙ z);
          }

  -- a piece before the part
  part_skip : (x : Piece) (xs : List Piece) → x.part ≢ k → Part xs → Part (x ∷ xs)
  part_skip x xs ne y =
      let i = skips (in_part k) x xs (elsewhere (is_slot x.whose) k x.part ne) in
      let j = skips (head_of k) x xs (elsewhere (is_heading x.whose) k x.part ne) in
      record {
        head = y.head;
        heads = ap (λ (ps : List Piece). get_or ps 0 no_piece) j ∙ y.heads;
        head_stands = y.head_stands;
        head_part = y.head_part;
        ran = ran_skip header x xs (elsewhere (is_slot x.whose) k x.part ne) y.ran;
        some = λ z. y.some (ap (λ (ps : List Piece). length (joined ps)) (sym i) ∙ z);
      }

  part_on : (a : ℕ) (x : Piece) (xs : List Piece) (b : ℕ) → Chain S a (x ∷ xs) b → a ≤ k * S → k * S + S ≤ b → Stood (x ∷ xs) → (a + x.size ≤ k * S → Part xs) → Part (x ∷ xs)
  unfolding Chain
  part_on a x xs b h c past st later = go (ℕ_discrete a (k * S))
    where
      not_here : a ≢ k * S → x.part ≢ k
      not_here ne e = let d : x.part * S ≡ k * S = ap (λ y. y * S) e in omega (arith, h.0)

      before_it : a ≢ k * S → Dec (x.part < k) → a + x.size ≤ k * S
      before_it ne (yes d) = omega (arith, below S x.part k d, h.0, h.1)
      before_it ne (no d) = absurd (omega (arith, below S k x.part (above d), h.0))
        where
          above : ¬ (x.part < k) → k < x.part
          above d = let e = not_here ne in omega (arith, e)

      go : Dec (a ≡ k * S) → Part (x ∷ xs)
      go (yes e) = from x xs b (subst (λ (n : ℕ). Chain S n (x ∷ xs) b) e h) past st
      go (no ne) = part_skip x xs (not_here ne) (later (before_it ne (dec_lt x.part k)))

  pub part : (a : ℕ) (l : List Piece) (b : ℕ) → Chain S a l b → a ≤ k * S → k * S + S ≤ b → Stood l → Part l
  unfolding Chain
  part a [] b h c past st = absurd (omega arith)
  part a (x ∷ xs) b h c past st = part_on a x xs b h c past st (λ d. part (a + x.size) xs b h.4 d past (rest_stood x xs st))
