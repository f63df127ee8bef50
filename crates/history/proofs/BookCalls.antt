-- A fresh ring has an empty book; offers, flushes, gets and puts keep it.
use Prim.Native.Nat.{ℕ, ◌+◌, ◌*◌, ◌/◌, ◌%◌, ◌<◌}
use mathlib.Core.Path.{◌≡◌, refl, sym, ap, subst, ◌∙◌}
use mathlib.Core.Bool.{Bool, true, false, cond}
use mathlib.Core.List.{List, [], ◌∷◌}
use native.Mathlib.Nat.{div-add-mod'}
use native.Mathlib.Omega.{arith}
use lib.Dec.{T, eqb}
use lib.ListN.{length, length-append, get_or-replicate}
use borrow.Author.Tests.{eqb-true, eqb-false}
use Rattle.counts.specs.Position.{position, plus_of}
use Rattle.counts.specs.Shape.{shape_of}
use Rattle.counts.specs.ShapeLaws.{Shaped, shaped}
use Rattle.counts.specs.Wrap.{word, add32}
use Rattle.layout.specs.Record.{Rec, record_of}
use Rattle.layout.specs.Sizes.{head, record_size}
use Rattle.steps.specs.Producer.{nobody, starts}
use Rattle.steps.specs.Step.{reading, swapping, row_of}
use Rattle.ring.specs.declared.state.Ring.{Ring}
use Rattle.ring.specs.Calls.{fresh_of}
use Rattle.ring.specs.Refusals.{fresh_refusal}
use Rattle.ring.specs.State.{at, with_producer, with_offered, with_read, with_holding}
use Rattle.history.specs.Lists.{only}
use Rattle.history.specs.Log.{Event, is_written, is_lost, Log, started, offered, work_at, at as start_at, note_offer, note_flush, note_get, note_put}
use Rattle.history.proofs.Book.{owning, Owns, Takes, Book}
use Rattle.history.proofs.BookLists.{many_append}
use Rattle.history.proofs.BookFrame.{stays}
use Rattle.history.proofs.BookSteps.{quiet, begin}
use Rattle.history.proofs.Geometry.{s_pos, at_mod}
use Rattle.history.proofs.Invariant.{says}

not_swapping : reading ≡ swapping → ⊥
not_swapping c = let z : ◌≡◌ {A = ℕ} 0 1 = cc in omega arith

-- a record's size
pub size_is : (x : Rec) → record_size (length x.payload) ≡ length (record_of x)
unfolding record_size head record_of
size_is x = omega arith

size_some : (L : ℕ) → record_size L ≡ 0 → ⊥
unfolding record_size head
size_some L e = omega arith

-- ---- an idle producer starts

module _ (r : Ring) (l : Log) (p : ℕ) (lt : p < r.producers) (lq : p < length r.producer) (lk : p < length l.works) (idle : (at r p).phase ≡ 0) (B : Book r l) where
  free : Owns (at r p) → ⊥
  unfolding owning row_of
  free o = subst (λ k. T (owning (row_of k))) idle o.1

  untaken : Takes (at r p) → ⊥
  unfolding says row_of
  untaken o = subst (λ k. T (says (row_of k)).slotted) idle o.1

  pub offer_book : (kind : ℕ) (payload : List ℕ) →
      Book (with_producer p (starts (record_size (length payload))) (with_offered (add32 r.offered 1) r)) (note_offer p (record { kind = kind; producer = p; payload = payload }) l)
  unfolding note_offer owning says row_of add32 only
  offer_book kind payload =
      record {
        tally = record {
          offers_is = omega (arith, B.tally.offers_is, length-append l.events (offered new ∷ []));
          writes_is = B.tally.writes_is ∙ ap (λ n. n % word) (sym (many_append (λ (e : Event). is_written e.fate) l.events (offered new ∷ []) ∙ omega arith));
          losses_is = B.tally.losses_is ∙ ap (λ n. n % word) (sym (many_append (λ (e : Event). is_lost e.fate) l.events (offered new ∷ []) ∙ omega arith));
        };
        reach = B.reach;
        entries = begin r.producers r.write.0 r.producer l.works l.events l.pieces B.entries p lt lq lk (starts z) (start_at l.write (length l.events)) (offered new)
            free untaken refl refl (some, tt) refl
            (record { fate = refl; who = refl; long = size_is new; told = λ s e. absurd (not_swapping s); room = λ u. absurd u });
      }
    where
      new : Rec
      new = record { kind = kind; producer = p; payload = payload }

      z : ℕ
      z = record_size (length payload)

      some : record_size (length payload) ≡ 0 → ⊥
      some e = size_some (length payload) e

  pub flush_book : Book (with_producer p (starts 0) r) (note_flush p l)
  unfolding note_flush
  flush_book =
      record {
        tally = B.tally;
        reach = B.reach;
        entries = quiet r.producers r.write.0 r.producer l.works l.events l.pieces B.entries p lt lq lk (starts 0) (start_at l.write (work_at l p).event) l.pieces r.write.0
            (λ o. absurd (free o)) (λ o. absurd (o.0 refl)) (λ o. refl) (λ n u. absurd (n refl)) (λ u. absurd (untaken u)) (stays l.pieces) (λ o h ne s e. e);
      }

-- ---- the reader changes nothing that the book reads

pub get_book : (r : Ring) (l : Log) (bytes : List ℕ) → Book r l → Book (with_holding true r) (note_get bytes l)
unfolding note_get
get_book r l bytes B = record { tally = B.tally; reach = B.reach; entries = B.entries }

pub put_book : (r : Ring) (l : Log) → Book r l → Book (with_holding false (with_read (plus_of r.read r.size) r)) (note_put l)
unfolding note_put
put_book r l B = record { tally = B.tally; reach = B.reach; entries = B.entries }

-- ---- fresh

pub record Fresh (S N P start : ℕ) : Type 0 where
  pub shape : Shaped S N P
  pub round : start % (S * N) ≡ 0

pub fresh_ok : (S N P start : ℕ) → fresh_refusal S N P (position start) ≡ 0 → Fresh S N P start
unfolding fresh_refusal
fresh_ok S N P start ok = go (shape_of S N P) (eqb (start % (S * N)) 0) refl refl ok
  where
    go : (a b : Bool) → shape_of S N P ≡ a → eqb (start % (S * N)) 0 ≡ b → ◌≡◌ {A = ℕ} (cond a (cond b 0 2) 1) 0 → Fresh S N P start
    go true true x y e = record { shape = shaped S N P x; round = eqb-true (start % (S * N)) 0 y }
    go true false x y e = absurd (eqb-false 2 0 refl e)
    go false b x y e = absurd (eqb-false 1 0 refl e)

-- the start is at a boundary
pub start_round : (S N P start : ℕ) → Fresh S N P start → start / S * S ≡ start
start_round S N P start f =
    let a : start ≡ start / (S * N) * N * S + 0 = omega (arith, div-add-mod' start (S * N), f.round) in
    let b : start % S ≡ 0 = ap (λ x. x % S) a ∙ at_mod S (start / (S * N) * N) 0 (s_pos f.shape) in
    omega (arith, div-add-mod' start S)

pub fresh_book : (S N P start : ℕ) → fresh_refusal S N P (position start) ≡ 0 → Book (fresh_of S N P (position start)).ring (started start)
unfolding fresh_of owning says row_of only
fresh_book S N P start ok =
    let f = fresh_ok S N P start ok in
    rw ok (record {
      tally = record { offers_is = refl; writes_is = refl; losses_is = refl };
      reach = record { begins = start_round S N P start f; low = omega (arith, start_round S N P start f); high = omega (arith, start_round S N P start f, s_pos f.shape) };
      entries = record {
        begun = λ p lt n u. absurd (subst (λ q. T (says (row_of q.phase)).busy) (get_or-replicate 8 p nobody nobody (omega (arith, f.shape.producers_high))) u);
        prod = λ p lt o. absurd (subst (λ q. T (owning (row_of q.phase))) (get_or-replicate 8 p nobody nobody (omega (arith, f.shape.producers_high))) o.1);
        event = λ i h. absurd (omega arith);
        slots = λ j h s. absurd (omega arith);
        once = λ i j hi hj si sj e. absurd (omega arith);
      };
    })
