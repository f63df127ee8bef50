-- What the book says of a moment: fates, losses, counts of events, and a written event's one slot.
use Prim.Native.Nat.{ℕ, ◌*◌, ◌/◌, ◌+◌, ◌%◌, ◌<◌}
use mathlib.Core.Path.{◌≡◌, refl, sym, ap, subst, ◌∙◌}
use mathlib.Core.Bool.{Bool, true, false, cond, ◌&&◌, not, false≢true}
use native.Mathlib.Decide.{dec_lt}
use native.Mathlib.Omega.{arith}
use lib.Dec.{T, eqb, leb}
use lib.ListN.{length, get_or-eq_default}
use borrow.Author.Tests.{eq-eqb, ne_eqb, eqb-true, lt-leb, le-leb}
use Rattle.counts.specs.Tests.{and_left, and_right, all_at}
use Rattle.counts.specs.Wrap.{word}
use Rattle.steps.specs.Producer.{flushing}
use Rattle.steps.specs.Step.{slot, rows, nothing, row_of}
use Rattle.ring.specs.State.{at}
use Rattle.history.specs.Lists.{many}
use Rattle.history.specs.Log.{Fate, isopen, written, lost, is_open, is_written, is_lost, Piece, is_slot, no_piece, work_at, event_at, piece_at}
use Rattle.history.specs.History.{Moment}
use Rattle.history.specs.Promise.{at_work, Fates, Losses, Counts, is_written_slot, written_slots, Once}
use Rattle.history.proofs.Chain.{is-slot}
use Rattle.history.proofs.Book.{owning, Owns, no_event, Book}
use Rattle.history.proofs.BookWhole.{WholeAt}
use Rattle.history.proofs.Good.{Good}
use Rattle.history.proofs.BookLists.{each_at, many_none, many_one, many_only}

-- ---- the rows at which an event is open are phases 1 to 16

same : Bool → Bool → Bool
same true b = b
same false b = not b

same_is : (a b : Bool) → same a b ≡ true → a ≡ b
unfolding same
same_is true true e = refl
same_is true false e = absurd (false≢true e)
same_is false true e = absurd (false≢true e)
same_is false false e = refl

owning_is : (k : ℕ) → (leb 1 k && leb k 16) ≡ owning (row_of k)
unfolding owning row_of same
owning_is k = go (dec_lt k 20)
  where
    go : Dec (k < 20) → (leb 1 k && leb k 16) ≡ owning (row_of k)
    go (yes h) = same_is _ _ (all_at (λ k. same (leb 1 k && leb k 16) (owning (row_of k))) 20 refl k h)
    go (no h) = rw (lt-leb k 16 (omega arith), le-leb 1 k (omega arith)) (sym (ap owning (get_or-eq_default rows nothing {n = k} (omega arith))))

-- ---- what a slot is

written_is : (f : Fate) → is_written f ≡ true → f ≡ written
written_is isopen e = absurd (false≢true e)
written_is written e = refl
written_is lost e = absurd (false≢true e)

open_is : (f : Fate) → is_open f ≡ true → f ≡ isopen
open_is isopen e = refl
open_is written e = absurd (false≢true e)
open_is lost e = absurd (false≢true e)

-- a test is false where it is not true
not_so : (b : Bool) → (b ≡ true → ⊥) → b ≡ false
not_so true n = absurd (n refl)
not_so false n = refl

by_both : (a b : Bool) → (a ≡ true → b ≡ true) → (b ≡ true → a ≡ true) → a ≡ b
by_both true b f g = sym (f refl)
by_both false true f g = g refl
by_both false false f g = refl

flag : (b : Bool) → T b → b ≡ true
flag true t = refl
flag false t = absurd t

module _ (m : Moment) (B : Book m.world.ring m.log) where
  -- ---- fates

  at-work : (i p : ℕ) → Owns (at m.world.ring p) → (work_at m.log p).event ≡ i → at_work m i p ≡ true
  at-work i p o e =
      rw (eq-eqb (work_at m.log p).event i e, ne_eqb (at m.world.ring p).z 0 o.0) (owning_is (at m.world.ring p).phase ∙ flag _ o.1)

  work-at : (i p : ℕ) → at_work m i p ≡ true → Owns (at m.world.ring p) × ((work_at m.log p).event ≡ i)
  work-at i p e =
      let one = and_left (eqb (work_at m.log p).event i) _ e in
      let rest = and_right (eqb (work_at m.log p).event i) _ e in
      let ev = and_left (not (flushing (at m.world.ring p))) _ rest in
      let ph = and_right (not (flushing (at m.world.ring p))) _ rest in (
        (λ z. false≢true (sym (ap not (eq-eqb (at m.world.ring p).z 0 z)) ∙ ev), subst T (sym ph ∙ owning_is (at m.world.ring p).phase) tt),
        eqb-true (work_at m.log p).event i one,
      )

  pub fates : Fates m
  fates = each_at (λ i e. is_open e.fate ≡ at_work m i e.rec.producer) m.log.events no_event (λ i h.
      by_both _ _
      (λ o. let x = (B.entries.event i h).held (open_is _ o) in at-work i _ x.owner x.its)
      (λ w. let x = work-at i _ w in
      ap is_open (ap (λ y. (event_at m.log y).fate) (sym x.1) ∙ (B.entries.prod _ (B.entries.event i h).who x.0).own.fate)))

  -- ---- losses

  pub losses : Losses m
  losses = each_at (λ i e. is_open e.fate ≡ false → is_lost e.fate ≡ e.note.occupied && e.note.short) m.log.events no_event (λ i h. (B.entries.event i h).loss)

  -- ---- once

  -- the slots of event i that are written
  abbrev counts : ℕ → Piece → Bool
  counts i x = is_written_slot m.log x && eqb x.event i

  counted : (i j : ℕ) → counts i (piece_at m.log j) ≡ true → ((piece_at m.log j).whose ≡ slot) × (is_written (event_at m.log i).fate ≡ true) × ((piece_at m.log j).event ≡ i)
  counted i j e =
      let a = and_left (is_written_slot m.log (piece_at m.log j)) _ e in
      let b = eqb-true (piece_at m.log j).event i (and_right (is_written_slot m.log (piece_at m.log j)) _ e) in (
        is-slot _ (and_left (is_slot (piece_at m.log j).whose) _ a),
        ap (λ y. is_written (event_at m.log y).fate) (sym b) ∙ and_right (is_slot (piece_at m.log j).whose) _ a,
        b,
      )

  once_at : (i : ℕ) → i < length m.log.events → many (counts i) m.log.pieces ≡ cond (is_written (event_at m.log i).fate) 1 0
  once_at i h = go (is_written (event_at m.log i).fate) refl
    where
      go : (b : Bool) → is_written (event_at m.log i).fate ≡ b → many (counts i) m.log.pieces ≡ cond b 1 0
      go true w =
          let x = (B.entries.event i h).kept (written_is _ w) in
          many_one (counts i) m.log.pieces no_piece x.j x.there (rw (x.is, x.of, w) (eq-eqb i i refl))
          (λ j k ne. not_so _ (λ c. let y = counted i j c in ne (B.entries.once j x.j k x.there y.0 x.is (y.2 ∙ sym x.of))))
      go false w = many_none (counts i) m.log.pieces no_piece (λ j k. not_so _ (λ c. false≢true (sym w ∙ (counted i j c).1)))

  pub once : Once m
  unfolding written_slots
  once = each_at (λ i e. many (λ (x : Piece). eqb x.event i) (written_slots m.log) ≡ cond (is_written e.fate) 1 0) m.log.events no_event (λ i h.
      many_only (λ (x : Piece). eqb x.event i) (is_written_slot m.log) m.log.pieces ∙ once_at i h)

  -- ---- counts

  pub counts_of : Good m.world.ring m.log → Counts m
  counts_of G =
      record {
        offered = B.tally.offers_is;
        written = B.tally.writes_is;
        lost = B.tally.losses_is;
        write = G.core.rem.write;
        read = G.core.rem.read ∙ ap (λ x. x % word) at_read;
      }
    where
      at_read : (m.log.start / m.world.ring.size + m.log.back) * m.world.ring.size ≡ m.log.start + m.log.back * m.world.ring.size
      at_read = omega (arith, B.reach.begins)

-- ---- all of them

-- the clauses of the promise that speak of events and counts
pub record Events (m : Moment) : Type 0 where
  pub fates : Fates m
  pub losses : Losses m
  pub counts : Counts m
  pub once : Once m

pub events_of : (m : Moment) → WholeAt m → Events m
events_of m W = record { fates = fates m W.book; losses = losses m W.book; counts = counts_of m W.book W.good; once = once m W.book }
