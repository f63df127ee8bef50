-- A write into a piece leaves what stands of all others.
use Prim.Native.Nat.{ℕ, ◌+◌, ◌*◌, ◌%◌, ◌≤◌, ◌<◌}
use mathlib.Core.Path.{◌≡◌, refl, sym, ap, subst, ◌∙◌}
use mathlib.Core.Logic.{◌≢◌}
use mathlib.Core.Bool.{false}
use mathlib.Core.List.{List}
use native.Mathlib.Nat.{le_refl, mul-le-mul_right}
use native.Mathlib.Decide.{dec_lt}
use native.Mathlib.Omega.{arith}
use lib.Dec.{T}
use lib.ListN.{length}
use Rattle.steps.specs.Bytes.{put}
use Rattle.steps.specs.Step.{padding, row_of}
use Rattle.history.specs.Log.{Piece}
use Rattle.history.proofs.Add.{open_low, open_high}
use Rattle.history.proofs.Bytes.{Last, Whole, PBytes, Claim, of_slot, of_used, of_mark, of_rest, clear_of, claim_fits}
use Rattle.history.proofs.Chain.{Shape, Fine, chain_apart, chain_fine, chain_high}
use Rattle.history.proofs.Invariant.{says, says_of, slotted_busy, Event, Own, Core}
use Rattle.history.proofs.Memory.{Stands, Clear, before, behind, write_keeps}
use Rattle.history.proofs.View.{View, at, work, mark, piece}

-- a piece of the log that is not behind the window lies in it
in_window : (v : View) (I : Core v) (i : ℕ) → i < length v.pieces → (piece v i).part < v.truth.lo + v.N
in_window v I i h = go (dec_lt (piece v i).part (v.truth.lo + v.N))
  where
    not_lt : ¬ ((piece v i).part < v.truth.lo + v.N) → v.truth.lo + v.N ≤ (piece v i).part
    not_lt c = omega arith

    go : Dec ((piece v i).part < v.truth.lo + v.N) → (piece v i).part < v.truth.lo + v.N
    go (yes c) = c
    go (no c) =
        absurd (omega (
          arith,
          mul-le-mul_right v.S (not_lt c),
          chain_high v.S v.start v.pieces v.W i I.chain h,
          (chain_fine v.S v.start v.pieces v.W i I.chain h).some,
          I.span.high,
        ))

-- what a padding piece is
pub pad_last : (S : ℕ) (x : Piece) → x.whose ≡ padding → Fine S x → Last S x
unfolding Shape
pad_last S x e f = (subst (λ w. Shape w S x.offset x.size x.bytes) e f.shape).1

shorter : (o n o' n' m : ℕ) → m ≤ n' → Clear o n o' n' → Clear o n o' m
shorter o n o' n' m h (before c) = before c
shorter o n o' n' m h (behind c) = behind (omega arith)

-- p writes the bytes vs at offset o of the part of its open piece j, a run that the piece claims
module _ (v : View) (I : Core v) (mem : List ℕ) (mem_long : length mem ≡ v.S * v.N) (p j : ℕ) (jlt : j < length v.pieces) (who : (piece v j).producer ≡ p)
    (isopen : (piece v j).committed ≡ false) (o n : ℕ) (vs : List ℕ) (vs_long : length vs ≡ n) (claim : Claim v.S (piece v j) o n) where
  abbrev pub k : ℕ
  k = (piece v j).part

  abbrev pub mem' : List ℕ
  mem' = put mem (k % v.N * v.S + o) n vs

  fine : (i : ℕ) → i < length v.pieces → Fine v.S (piece v i)
  fine i h = chain_fine v.S v.start v.pieces v.W i I.chain h

  pub fits : o + n ≤ v.S
  fits = claim_fits v.S (piece v j) o n I.shape.size_low (fine j jlt) claim

  low : v.truth.lo ≤ k
  low = open_low v I j jlt isopen

  high : k < v.truth.lo + v.N
  high = open_high v I j jlt isopen

  -- a run of another piece
  pub other_run : (i : ℕ) → i < length v.pieces → i ≢ j → v.truth.lo ≤ (piece v i).part → (o' n' m : ℕ) (bytes : List ℕ) → Claim v.S (piece v i) o' n' → m ≤ n' →
      Stands v.S v.N mem (piece v i).part o' bytes m → Stands v.S v.N mem' (piece v i).part o' bytes m
  other_run i h ne lo o' n' m bytes c le st =
      write_keeps I.shape mem mem_long k o n fits vs vs_long v.truth.lo (piece v i).part o' m bytes low high lo (in_window v I i h)
      (omega (arith, claim_fits v.S (piece v i) o' n' I.shape.size_low (fine i h) c))
      (λ e. shorter o n o' n' m le
      (clear_of v.S (piece v j) (piece v i) o n o' n' (fine j jlt) (fine i h)
      (chain_apart v.S v.start v.pieces v.W j i I.chain jlt h (λ x. ne (sym x)) (sym e)) claim c))
      st

  -- another run of the piece itself
  pub own_run : (o' n' : ℕ) (bytes : List ℕ) → o' + n' ≤ v.S → Clear o n o' n' → Stands v.S v.N mem k o' bytes n' → Stands v.S v.N mem' k o' bytes n'
  own_run o' n' bytes f c st =
      write_keeps I.shape mem mem_long k o n fits vs vs_long v.truth.lo k o' n' bytes low high low high f (λ e. c) st

  -- another piece that stands whole
  pub other_whole : (i : ℕ) → i < length v.pieces → i ≢ j → v.truth.lo ≤ (piece v i).part → Whole v.S v.N mem (piece v i) → Whole v.S v.N mem' (piece v i)
  other_whole i h ne lo x =
      record {
        slots = λ e. other_run i h ne lo _ _ _ _ (of_slot e (le_refl _) (le_refl _)) (le_refl _) (x.slots e);
        heads = λ e.
            record {
              mark = other_run i h ne lo 0 6 6 _ (of_mark e refl refl) (le_refl _) (x.heads e).mark;
              rest = other_run i h ne lo 8 8 8 _ (of_rest e refl refl) (le_refl _) (x.heads e).rest;
            };
        used = λ e. other_run i h ne lo 6 2 2 _ (of_used e refl refl) (le_refl _) (x.used e);
      }

  -- what another producer has written
  module _ (p' : ℕ) (ne : p' ≢ p) (h : p' < v.P) (desks b : List ℕ) where
    theirs : Own v p' (at v p') (work v p') (mark v p')
    theirs = I.prod p' h

    another : (i : ℕ) → (piece v i).producer ≡ p' → i ≢ j
    another i w x = ne (sym w ∙ ap (λ y. (piece v y).producer) x ∙ who)

    pub other_bytes : PBytes v.S v.N p' (at v p') (work v p') v.pieces mem desks b → PBytes v.S v.N p' (at v p') (work v p') v.pieces mem' desks b
    unfolding says
    other_bytes x =
        record {
          closed = λ e.
              let H = theirs.pads (rw e tt) in
              let i = (work v p').padding in
              other_run i H.inlog (another i (ap (λ y. y.producer) H.entry)) (open_low v I i H.inlog (ap (λ y. y.committed) H.entry)) 6 2 2 _
              (of_used (pad_last v.S (piece v i) (ap (λ y. y.whose) H.entry) (fine i H.inlog)) refl refl) (le_refl _) (x.closed e);
          opened = λ e ev.
              let H = theirs.heads (rw e tt) ev in
              let i = (work v p').heading in
              let w = ap (λ y. y.whose) H.entry in
              let l = open_low v I i H.inlog (ap (λ y. y.committed) H.entry) in
              let a = another i (ap (λ y. y.producer) H.entry) in
              record {
                mark = other_run i H.inlog a l 0 6 6 _ (of_mark w refl refl) (le_refl _) (x.opened e ev).mark;
                rest = other_run i H.inlog a l 8 8 8 _ (of_rest w refl refl) (le_refl _) (x.opened e ev).rest;
              };
          written = λ u ev.
              let H = theirs.slots u ev in
              let i = (work v p').slot in
              other_run i H.inlog (another i (ap (λ y. y.producer) H.entry)) (open_low v I i H.inlog (ap (λ y. y.committed) H.entry)) _ _ _ _
              (of_slot (ap (λ y. y.whose) H.entry) (le_refl _) (le_refl _)) (long u ev) (x.written u ev);
          ended = λ e ev last.
              let H = theirs.slots (rw e tt) ev in
              let i = (work v p').slot in
              other_run i H.inlog (another i (ap (λ y. y.producer) H.entry)) (open_low v I i H.inlog (ap (λ y. y.committed) H.entry)) 6 2 2 _
              (of_used last refl refl) (le_refl _) (x.ended e ev last);
          desk = x.desk;
        }
      where
        -- no more than the record is written
        long : (u : T (says_of (at v p')).slotted) (ev : Event (at v p')) → (at v p').done ≤ (piece v (work v p').slot).size
        long u ev =
            let H = theirs.slots u ev in
            let e : (piece v (work v p').slot).size ≡ length (mark v p').bytes = ap (λ y. y.size) H.entry in
            omega (arith, e, H.part, (theirs.sized (slotted_busy (row_of (at v p').phase) u) ev).long)
