-- Where the rows write: each row's bytes as a write into its own piece.
use Prim.Native.Nat.{ℕ, ◌+◌, ◌*◌, ◌/◌, ◌%◌, ◌≤◌, ◌<◌}
use mathlib.Core.Path.{◌≡◌, sym, ap, ap₂, ◌∙◌}
use mathlib.Core.List.{List, [], ◌++◌}
use native.Mathlib.Nat.{mod-lt, mul-le-mul_right, mul_comm, add-zero}
use native.Mathlib.Decide.{dec_lt}
use native.Mathlib.Omega.{arith}
use lib.Dec.{T}
use lib.ListN.{length, take, drop, take-append-drop}
use Rattle.counts.specs.Position.{plus_of, byte_of}
use Rattle.counts.specs.Wrap.{word}
use Rattle.layout.specs.Bytes.{le2, le4}
use Rattle.layout.specs.Header.{mark_of, opened, used_set}
use Rattle.layout.specs.Sizes.{header}
use Rattle.steps.specs.Bytes.{put, over, copy_into, bytes_by}
use Rattle.steps.specs.BytesLaws.{copy_fits}
use Rattle.steps.specs.Producer.{place_at}
use Rattle.steps.specs.Rows.{chunk_of}
use Rattle.steps.specs.Step.{closing as shutting, opening, writing, ending, row_of}
use Rattle.history.proofs.Bytes.{head_rest}
use Rattle.history.proofs.Coords.{part_in, off_in, Spot, spot, start_is, off_is, past, slot_fits, fit_true}
use Rattle.history.proofs.Effects.{used_effect, open_effect}
use Rattle.history.proofs.Geometry.{s_pos, n_pos, byte_wrap, byte_at, byte_below, header_short}
use Rattle.history.proofs.Invariant.{says, says_of, Event, fit_in, Looked, Own, Core}
use Rattle.history.proofs.View.{View, at, work, mark, piece}

-- a write of nothing
put_nothing : (l : List ℕ) (a n : ℕ) (vs : List ℕ) → n ≡ 0 → vs ≡ [] → put l a n vs ≡ l
unfolding put
put_nothing l a n vs z e = rw (z, e) (take-append-drop a l)

module _ (v : View) (I : Core v) (mem desks : List ℕ) (long : length mem ≡ v.S * v.N) (p : ℕ) (lt : p < v.P) (lost : ℕ) where
  mine : Own v p (at v p) (work v p) (mark v p)
  mine = I.prod p lt

  -- the byte at which part k starts, from its position's remainder
  part-at : (k x : ℕ) → x ≡ k * v.S % word → x % (v.S * v.N) ≡ k % v.N * v.S
  part-at k x e =
      ap (λ y. y % (v.S * v.N)) e
      ∙ byte_wrap I.shape (k * v.S)
      ∙ ap (λ y. y % (v.S * v.N)) (sym (add-zero (k * v.S)))
      ∙ byte_at I.shape k 0 (s_pos I.shape)
      ∙ add-zero (k % v.N * v.S)

  part_fits : (k : ℕ) → k % v.N * v.S + v.S ≤ length mem
  part_fits k = omega (arith, long, mul-le-mul_right v.S (mod-lt k (n_pos I.shape)), mul_comm v.N v.S)

  head_fits : header ≤ v.S
  head_fits = omega (arith, header_short v.S I.shape.size_low)

  pub close_writes : row_of (at v p).phase ≡ shutting →
      bytes_by shutting (at v p) p lost v.S v.N mem desks ≡ put mem ((piece v (work v p).padding).part % v.N * v.S + 6) 2 (le2 (piece v (work v p).padding).offset)
  unfolding says bytes_by byte_of
  close_writes e =
      ap₂ (λ a u. over mem a v.S (λ l. used_set l u)) (part-at ((mark v p).saw / v.S) _ (start_is I.shape (at v p) (mark v p).saw L.w_is)) (off_is I.shape (at v p) (mark v p).saw L.w_is)
      ∙ used_effect mem ((mark v p).saw / v.S % v.N * v.S) v.S (part_fits ((mark v p).saw / v.S)) head_fits ((mark v p).saw % v.S)
      ∙ ap₂ (λ k o. put mem (k % v.N * v.S + 6) 2 (le2 o)) (sym (ap (λ y. y.part) (mine.pads (rw e tt)).entry)) (sym (ap (λ y. y.offset) (mine.pads (rw e tt)).entry))
    where
      L : Looked (at v p) (work v p) (mark v p) v.W
      L = mine.looks (rw e tt)

  -- a producer with a slot
  module _ (ev : Event (at v p)) (u : T (says_of (at v p)).slotted) (look : T (says_of (at v p)).looked) (busy : T (says_of (at v p)).busy) where
    here : Spot I.shape (at v p) (mark v p).saw (mine.looks look).w_is (fit_in v.S (at v p) (mark v p)) (place_at (at v p) v.S)
    here = spot I.shape (at v p) (mark v p).saw (mine.looks look).w_is

    part_is : (piece v (work v p).slot).part ≡ part_in (fit_in v.S (at v p) (mark v p)) v.S (mark v p).saw
    part_is = ap (λ y. y.part) (mine.slots u ev).entry

    off_at : (piece v (work v p).slot).offset ≡ off_in (fit_in v.S (at v p) (mark v p)) v.S (mark v p).saw
    off_at = ap (λ y. y.offset) (mine.slots u ev).entry

    pub end_writes : bytes_by ending (at v p) p lost v.S v.N mem desks ≡ put mem ((piece v (work v p).slot).part % v.N * v.S + 6) 2 (le2 v.S)
    unfolding bytes_by byte_of
    end_writes =
        ap (λ a. over mem a v.S (λ l. used_set l v.S)) (part-at _ _ here.t)
        ∙ used_effect mem _ v.S (part_fits _) head_fits v.S
        ∙ ap (λ k. put mem (k % v.N * v.S + 6) 2 (le2 v.S)) (sym part_is)

    pub write_writes : (at v p).done + chunk_of (at v p) ≤ (at v p).z → length desks ≡ v.P * v.S →
        bytes_by writing (at v p) p lost v.S v.N mem desks
        ≡ put mem ((piece v (work v p).slot).part % v.N * v.S + ((piece v (work v p).slot).offset + (at v p).done)) (chunk_of (at v p)) (take (chunk_of (at v p)) (drop (p * v.S + (at v p).done) desks))
    unfolding bytes_by byte_of
    write_writes room desks_long = go (dec_lt (at v p).done (at v p).z)
      where
        k : ℕ
        k = part_in (fit_in v.S (at v p) (mark v p)) v.S (mark v p).saw

        o : ℕ
        o = off_in (fit_in v.S (at v p) (mark v p)) v.S (mark v p).saw

        n : ℕ
        n = chunk_of (at v p)

        b : ℕ
        b = p * v.S + (at v p).done

        a : ℕ
        a = (plus_of (place_at (at v p) v.S).a (at v p).done).0 % (v.S * v.N)

        sized : header + (at v p).z ≤ v.S
        sized = (mine.sized busy ev).fits

        in-part : o + (at v p).z ≤ v.S
        in-part = slot_fits v.S (s_pos I.shape) _ (mark v p).saw (at v p).z (fit_true I.shape (at v p) (mark v p).saw (mine.looks look).w_is) sized

        a_is : (at v p).done < (at v p).z → a ≡ k % v.N * v.S + (o + (at v p).done)
        a_is h =
            ap (λ y. y % (v.S * v.N)) (past I.shape (at v p) (mark v p).saw (mine.looks look).w_is (place_at (at v p) v.S).a (k * v.S + o) (at v p).done here.a)
            ∙ byte_wrap I.shape (k * v.S + o + (at v p).done)
            ∙ ap (λ y. y % (v.S * v.N)) (omega arith)
            ∙ byte_at I.shape k (o + (at v p).done) (omega (arith, in-part))

        desk_room : b + n ≤ length desks
        desk_room = omega (arith, desks_long, mul-le-mul_right v.S lt, sized)

        where_is : k % v.N * v.S + (o + (at v p).done) ≡ (piece v (work v p).slot).part % v.N * v.S + ((piece v (work v p).slot).offset + (at v p).done)
        where_is = ap₂ (λ x y. x % v.N * v.S + (y + (at v p).done)) (sym part_is) (sym off_at)

        go : Dec ((at v p).done < (at v p).z) → copy_into mem a desks b n ≡ put mem ((piece v (work v p).slot).part % v.N * v.S + ((piece v (work v p).slot).offset + (at v p).done)) n (take n (drop b desks))
        go (yes h) =
            copy_fits mem a desks b n (omega (arith, a_is h, in-part, part_fits k, room)) desk_room
            ∙ ap (λ y. put mem y n (take n (drop b desks))) (a_is h ∙ where_is)
        go (no h) =
            let z : n ≡ 0 = omega (arith, room) in
            copy_fits mem a desks b n (omega (arith, z, byte_below I.shape (plus_of (place_at (at v p) v.S).a (at v p).done).0, long)) desk_room
            ∙ put_nothing mem a n (take n (drop b desks)) z (rw z)
            ∙ sym (put_nothing mem _ n (take n (drop b desks)) z (rw z))

    -- the header of the part that is entered
    pub open_writes : T (says_of (at v p)).headed → (n : ℕ) → lost ≡ n % word →
        bytes_by opening (at v p) p lost v.S v.N mem desks
        ≡ put (put mem ((piece v (work v p).heading).part % v.N * v.S + 0) 6 mark_of) ((piece v (work v p).heading).part % v.N * v.S + 8) 8 (head_rest v.S (piece v (work v p).heading).part n)
    unfolding bytes_by byte_of
    open_writes h n e =
        ap (λ a. over mem a v.S (λ l. opened l (place_at (at v p) v.S).t.0 lost)) (part-at _ _ here.t)
        ∙ open_effect mem _ v.S (part_fits _) head_fits (place_at (at v p) v.S).t.0 lost
        ∙ ap₂ (λ (y z : ℕ). put (put mem (k % v.N * v.S) 6 mark_of) (k % v.N * v.S + 8) 8 (le4 y ++ le4 z)) here.t e
        ∙ ap (λ y. put (put mem y 6 mark_of) (k % v.N * v.S + 8) 8 (head_rest v.S k n)) (sym (add-zero (k % v.N * v.S)))
        ∙ ap (λ y. put (put mem (y % v.N * v.S + 0) 6 mark_of) (y % v.N * v.S + 8) 8 (head_rest v.S y n)) (sym (ap (λ y. y.part) (mine.heads h ev).entry))
      where
        k : ℕ
        k = part_in (fit_in v.S (at v p) (mark v p)) v.S (mark v p).saw
