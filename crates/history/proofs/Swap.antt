-- The row swap, where it stores: an event's slot, or a flush's padding.
use Prim.Native.Nat.{ℕ, zero, suc, ◌+◌, ◌-◌, ◌*◌, ◌/◌, ◌%◌, ◌≤◌, ◌<◌}
use mathlib.Core.Path.{◌≡◌, refl, sym, ap, subst, ◌∙◌}
use mathlib.Core.Bool.{true}
use mathlib.Core.List.{List, [], ◌++◌}
use native.Mathlib.Nat.{div-add-mod', mod-lt, le_refl, mul-le-mul_right}
use native.Mathlib.Decide.{dec_lt}
use native.Mathlib.Omega.{arith}
use lib.Dec.{T}
use lib.ListN.{length, length-append}
use lib.Seq.{get_or-append_seam}
use Rattle.counts.specs.Place.{Fit, entering, inside, closing, fit_of}
use Rattle.counts.specs.PlaceLaws.{FitIs, fit_is}
use Rattle.counts.specs.Wrap.{word}
use Rattle.layout.specs.Sizes.{header}
use Rattle.steps.specs.declared.producer.Producer.{Producer}
use Rattle.steps.specs.Step.{swapping, row_of}
use Rattle.history.specs.Log.{Piece, Work, no_piece, slot_piece, pieces, pad, placing}
use Rattle.history.proofs.Chain.{Chain, Shape}
use Rattle.history.proofs.Coords.{part_in, off_in, skip, is_entering, slot_pos, slot_fits, slot_behind}
use Rattle.history.proofs.Geometry.{mod_close, header_pos, s_pos, at_mod, lt_of_mul}
use Rattle.history.proofs.Invariant.{Says, says, Event, Looked, Sized, PInv, Own, Core, Soon}
use Rattle.history.proofs.Move.{moved}
use Rattle.history.proofs.Reserve.{Open, reserve_keeps, pieces_chain, pieces_open, slot_there, head_there, pad_there}
use Rattle.history.proofs.View.{Mark, View, at, work, mark, with_mark, with_work, with_pieces, with_write, stepped}

-- ---- the row at which a producer goes on that has reserved a slot

unfoldable pub landing : Fit → ℕ
landing entering = 9
landing inside = 14
landing closing = 4

record Lands (f : Fit) (y : Says) : Type 0 where
  pub judged : T y.judged → ⊥
  pub raising : T y.raising → ⊥
  pub setting : T y.setting → ⊥
  pub whole : T y.whole → ⊥
  pub padded : T y.padded → f ≡ closing
  pub headed : T y.headed → is_entering f ≡ true
  pub shut : T y.shut → f ≡ closing

lands : (f : Fit) → Lands f (says (row_of (landing f)))
unfolding landing says row_of
lands entering = record { judged = λ t. t; raising = λ t. t; setting = λ t. t; whole = λ t. t; padded = λ t. absurd t; headed = λ t. refl; shut = λ t. absurd t }
lands inside = record { judged = λ t. t; raising = λ t. t; setting = λ t. t; whole = λ t. t; padded = λ t. absurd t; headed = λ t. absurd t; shut = λ t. absurd t }
lands closing = record { judged = λ t. t; raising = λ t. t; setting = λ t. t; whole = λ t. t; padded = λ t. refl; headed = λ t. refl; shut = λ t. refl }

-- ---- the write count, again past a header or at a boundary

boundary : (S k x : ℕ) → 0 < S → header < x → x ≤ S → 0 < (k * S + x) % S → header < (k * S + x) % S
boundary S k x s a b = go (dec_lt x S)
  where
    go : Dec (x < S) → 0 < (k * S + x) % S → header < (k * S + x) % S
    go (yes l) h = rw (at_mod S k x l) a
    go (no l) h =
        let e : k * S + x ≡ suc k * S + 0 = omega arith in
        let z : (k * S + x) % S ≡ 0 = ap (λ y. y % S) e ∙ at_mod S (suc k) 0 (omega arith) in
        absurd (omega arith)

closing_past : (o z S : ℕ) → FitIs closing o z S → 0 < o
unfolding FitIs
closing_past o z S h = h.0

-- the slot's part is in the window
part-in : (S N lo W z : ℕ) (f : Fit) → 0 < S → FitIs f (W % S) z S → W ≤ lo * S + S * N → (is_entering f ≡ true → part_in f S W < lo + N) → part_in f S W < lo + N
unfolding FitIs part_in
part-in S N lo W z inside s h hi room = lt_of_mul S (W / S) (lo + N) (omega (arith, div-add-mod' W S))
part-in S N lo W z entering s h hi room = room refl
part-in S N lo W z closing s h hi room = room refl

-- ---- the row

module _ (v : View) (p : ℕ) (lt : p < v.P) (e : row_of (at v p).phase ≡ swapping) (soon : Soon v) (I : Core v) (same : v.write ≡ (at v p).w.0) where
  mine : Own v p (at v p) (work v p) (mark v p)
  mine = I.prod p lt

  L : Looked (at v p) (work v p) (mark v p) v.W
  unfolding says
  L = mine.looks (rw e tt)

  -- the write count is the one that was seen, without the wrap too
  pub saw_all : (mark v p).saw ≡ v.W
  unfolding says
  saw_all =
      mod_close (mark v p).saw v.W L.before (omega (arith, soon p lt (rw e tt), L.after))
      (sym L.w_is ∙ sym same ∙ I.rem.write)

  none : (at v p).done ≡ 0
  unfolding says
  none = mine.none (rw e tt)

  begun : (work v p).began ≤ v.W
  begun = omega (arith, L.after, L.before)

  -- an event's slot
  module _ (ev : Event (at v p)) where
    abbrev f : Fit
    f = fit_of (v.W % v.S) (at v p).z v.S

    abbrev bytes : List ℕ
    bytes = (mark v p).bytes

    sized : Sized v.S (at v p) (mark v p)
    unfolding says
    sized = mine.sized (rw e tt) ev

    some : 0 < (at v p).z
    some = omega (arith, ev)

    abbrev ps : (event : ℕ) → List Piece
    ps event = pieces f p v.W v.S event bytes

    spec : FitIs f (v.W % v.S) (at v p).z v.S
    spec = fit_is (v.W % v.S) (at v p).z v.S

    abbrev end : ℕ
    end = v.W + (skip f v.S (v.W % v.S) + length bytes)

    -- where the slot ends
    end_is : end ≡ part_in f v.S v.W * v.S + off_in f v.S v.W + (at v p).z
    end_is = omega (arith, slot_pos v.S (s_pos I.shape) f v.W (at v p).z spec, sized.long)

    module _ (room : is_entering f ≡ true → part_in f v.S v.W < v.truth.lo + v.N) (write : ℕ)
        (write-is : write ≡ (part_in f v.S v.W * v.S + off_in f v.S v.W + (at v p).z) % word) where
      high : end ≤ v.truth.lo * v.S + v.S * v.N
      high =
          omega (
            arith,
            end_is,
            slot_fits v.S (s_pos I.shape) f v.W (at v p).z spec sized.fits,
            mul-le-mul_right v.S (part-in v.S v.N v.truth.lo v.W (at v p).z f (s_pos I.shape) spec I.span.high room),
          )

      past_head : 0 < end % v.S → header < end % v.S
      past_head =
          rw here
          (boundary v.S (part_in f v.S v.W) (off_in f v.S v.W + (at v p).z) (s_pos I.shape)
          (omega (arith, slot_behind v.S (s_pos I.shape) f v.W (at v p).z spec I.span.past_head, some))
          (slot_fits v.S (s_pos I.shape) f v.W (at v p).z spec sized.fits))
        where
          here : end ≡ part_in f v.S v.W * v.S + (off_in f v.S v.W + (at v p).z)
          here = omega (arith, end_is)

      abbrev q' : Producer
      q' = moved (landing f) (at v p).v (at v p).s (at v p)

      abbrev seen : Mark
      seen = record { saw = v.W; v = (mark v p).v; s = (mark v p).s; bytes = bytes }

      abbrev k' : Work
      k' = placing f (length v.pieces) (work v p)

      -- when it began, and which event it is at, stay
      stays : (g : Fit) (n : ℕ) (k : Work) → ((placing g n k).began ≡ k.began) × ((placing g n k).event ≡ k.event)
      unfolding placing
      stays entering n k = (refl, refl)
      stays inside n k = (refl, refl)
      stays closing n k = (refl, refl)

      began_is : k'.began ≡ (work v p).began
      began_is = (stays f (length v.pieces) (work v p)).0

      event_is : k'.event ≡ (work v p).event
      event_is = (stays f (length v.pieces) (work v p)).1

      own : PInv v.S v.N p q' k' seen end v.truth.lo v.truth.C v.truth.Q (v.pieces ++ ps (work v p).event)
      own =
          record {
            sized = λ u x. record { fits = sized.fits; long = sized.long };
            begun = λ u. omega (arith, began_is, begun);
            looks = λ u. record { w_is = L.w_is ∙ ap (λ y. y % word) saw_all; after = omega (arith, began_is, begun); before = omega arith };
            roomy = λ u. absurd ((lands f).judged u);
            shuts = λ u. record { past = closing_past (v.W % v.S) (at v p).z v.S (subst (λ g. FitIs g (v.W % v.S) (at v p).z v.S) ((lands f).shut u) spec); closes = λ x. (lands f).shut u };
            pads = λ u. let h = pad_there v.S (s_pos I.shape) p (work v p).event bytes f v.W v.pieces (work v p) ((lands f).padded u) in record { inlog = h.0; entry = h.1 };
            heads = λ u x.
                let c = (lands f).headed u in
                let h = head_there v.S (s_pos I.shape) p (work v p).event bytes f v.W v.pieces (work v p) c in
                record { enters = c; inlog = h.0; entry = rw h.1 };
            slots = λ u x.
                let h = slot_there v.S (s_pos I.shape) p (work v p).event bytes f v.W v.pieces (work v p) in
                record { inlog = h.0; entry = h.1 ∙ ap (λ y. slot_piece p (part_in f v.S v.W) (off_in f v.S v.W) y bytes) (sym event_is); part = omega (arith, none) };
            raises = λ u. absurd ((lands f).raising u);
            sets = λ u. absurd ((lands f).setting u);
            none = λ u. none;
            all = λ u. absurd ((lands f).whole u);
          }

      pub slot_keeps : Core (stepped p q' (with_mark p seen v.truth) (with_work p k' (with_pieces (v.pieces ++ ps (work v p).event) (with_write write end v))))
      slot_keeps =
          reserve_keeps v p lt I (ps (work v p).event) write end q' k' seen
          (pieces_chain v.S (s_pos I.shape) p (work v p).event bytes f v.W (rw (← sized.long) spec) (omega (arith, sized.fits, sized.long)) (omega (arith, some, sized.long)) header_pos I.span.past_head)
          (pieces_open v.S (s_pos I.shape) p (work v p).event bytes f v.W) (omega arith) high past_head (write-is ∙ ap (λ y. y % word) (sym end_is)) own

  -- a flush's padding
  module _ (fl : (at v p).z ≡ 0) (past : 0 < v.W % v.S) (write : ℕ) (write-is : write ≡ (v.W + (v.S - v.W % v.S)) % word) where
    abbrev close : ℕ
    close = v.W + (v.S - v.W % v.S)

    abbrev q'' : Producer
    q'' = moved 4 (at v p).v (at v p).s (at v p)

    abbrev seen'' : Mark
    seen'' = record { saw = v.W; v = (mark v p).v; s = (mark v p).s; bytes = (mark v p).bytes }

    abbrev k'' : Work
    k'' = placing closing (length v.pieces) (work v p)

    o_lt : v.W % v.S < v.S
    o_lt = mod-lt v.W (s_pos I.shape)

    split : v.W / v.S * v.S + v.W % v.S ≡ v.W
    split = div-add-mod' v.W v.S

    -- it ends the part, which is in the window
    close_is : close ≡ suc (v.W / v.S) * v.S + 0
    close_is = omega (arith, split, o_lt)

    close_high : close ≤ v.truth.lo * v.S + v.S * v.N
    close_high =
        omega (arith, close_is, mul-le-mul_right v.S (lt_of_mul v.S (v.W / v.S) (v.truth.lo + v.N) (omega (arith, split, past, I.span.high))))

    own'' : PInv v.S v.N p q'' k'' seen'' close v.truth.lo v.truth.C v.truth.Q (v.pieces ++ pad p v.W v.S)
    unfolding says row_of placing
    own'' =
        record {
          sized = λ u x. absurd (x fl);
          begun = λ u. omega (arith, begun);
          looks = λ u. record { w_is = L.w_is ∙ ap (λ y. y % word) saw_all; after = begun; before = omega arith };
          roomy = λ u. absurd u;
          shuts = λ u. record { past = past; closes = λ x. absurd (x fl) };
          pads = λ u. record { inlog = omega (arith, length-append v.pieces (pad p v.W v.S)); entry = get_or-append_seam v.pieces _ [] no_piece };
          heads = λ u x. absurd (x fl);
          slots = λ u x. absurd (x fl);
          raises = λ u. absurd u;
          sets = λ u. absurd u;
          none = λ u. none;
          all = λ u. absurd u;
        }

    pub pad_keeps : Core (stepped p q'' (with_mark p seen'' v.truth) (with_work p k'' (with_pieces (v.pieces ++ pad p v.W v.S) (with_write write close v))))
    unfolding Chain Shape
    pad_keeps =
        reserve_keeps v p lt I (pad p v.W v.S) write close q'' k'' seen''
        (omega (arith, split), omega (arith, o_lt), omega (arith, o_lt), (I.span.past_head past, omega (arith, o_lt)), refl)
        only_one (omega arith) close_high
        (λ h. absurd (omega (arith, ap (λ x. x % v.S) close_is ∙ at_mod v.S (suc (v.W / v.S)) 0 (s_pos I.shape))))
        write-is own''
      where
        only_one : Open v.S v.W (pad p v.W v.S)
        only_one zero h = (refl, le_refl _)
        only_one (suc i) h = absurd (omega arith)
