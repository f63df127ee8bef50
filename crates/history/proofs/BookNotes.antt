-- Small laws of the book: pieces that are no slots, the slot among an event's pieces, and the counts when an event is settled.
use Prim.Native.Nat.{ℕ, zero, suc, ◌+◌, ◌%◌, ◌<◌}
use mathlib.Core.Path.{◌≡◌, refl, sym, ap, ◌∙◌}
use mathlib.Core.Bool.{false}
use mathlib.Core.List.{List, [], ◌∷◌, ◌++◌}
use native.Mathlib.Decide.{dec_lt}
use native.Mathlib.Omega.{arith}
use lib.ListN.{length, get_or, set, length-set, length-append, get_or-append}
use lib.Seq.{get_or-set_other, get_or-append-add}
use Rattle.counts.specs.Place.{Fit, entering, inside, closing}
use Rattle.counts.specs.Wrap.{word}
use Rattle.steps.specs.Step.{padding, heading, slot}
use Rattle.history.specs.Lists.{many}
use Rattle.history.specs.Log.{isopen, written, lost, is_written, is_lost, Event, Piece, Work, no_piece, is_heading, pieces, placing}
use Rattle.history.proofs.Book.{no_event, Tally, Reach}
use Rattle.history.proofs.BookLists.{tick, many_set}
use Rattle.history.proofs.BookFrame.{Stays}
use Rattle.history.proofs.Sums.{each_set}

pub isopen_written : isopen ≡ written → ⊥
isopen_written c = let z : ◌≡◌ {A = ℕ} 0 1 = cc in omega arith

pub isopen_lost : isopen ≡ lost → ⊥
isopen_lost c = let z : ◌≡◌ {A = ℕ} 0 1 = cc in omega arith

pub lost_written : lost ≡ written → ⊥
lost_written c = let z : ◌≡◌ {A = ℕ} 0 1 = cc in omega arith

pub pad_slot : padding ≡ slot → ⊥
pad_slot c = let z : ◌≡◌ {A = ℕ} 0 1 = cc in omega arith

pub head_slot : heading ≡ slot → ⊥
head_slot c = let z : ◌≡◌ {A = ℕ} 0 1 = cc in omega arith

-- ---- pieces that are no slots

pub stays_set : (ps : List Piece) (j : ℕ) (x : Piece) → j < length ps → ((get_or ps j no_piece).whose ≡ slot → ⊥) → (x.whose ≡ slot → ⊥) → Stays ps (set ps j x)
stays_set ps j x h a b =
    record {
      on = λ i lt s. (rw length-set lt, get_or-set_other ps j i x no_piece (λ e. a (ap (λ y. (get_or ps y no_piece).whose) (sym e) ∙ s)));
      back = each_set ps j x no_piece (λ i y. y.whose ≡ slot → (i < length ps) × (y ≡ get_or ps i no_piece)) (λ k s. absurd (b s)) (λ i k ne s. (k, refl));
    }

pub stays_one : (ps : List Piece) (x : Piece) → (x.whose ≡ slot → ⊥) → Stays ps (ps ++ (x ∷ []))
stays_one ps x n =
    record {
      on = λ i lt s. (omega (arith, length-append ps (x ∷ [])), get_or-append ps (x ∷ []) no_piece i lt);
      back = λ i lt s. go i (dec_lt i (length ps)) lt s;
    }
  where
    go : (i : ℕ) → Dec (i < length ps) → i < length (ps ++ (x ∷ [])) → (get_or (ps ++ (x ∷ [])) i no_piece).whose ≡ slot → (i < length ps) × (get_or (ps ++ (x ∷ [])) i no_piece ≡ get_or ps i no_piece)
    go i (yes h) lt s = (h, get_or-append ps (x ∷ []) no_piece i h)
    go i (no h) lt s =
        let e : i ≡ length ps + 0 = omega (arith, length-append ps (x ∷ [])) in
        absurd (n (ap (λ y. y.whose) (sym (get_or-append-add ps (x ∷ []) 0 no_piece)) ∙ ap (λ y. (get_or (ps ++ (x ∷ [])) y no_piece).whose) (sym e) ∙ s))

pub reach_set : (S start W : ℕ) (ps : List Piece) (j : ℕ) (x : Piece) → j < length ps → is_heading x.whose ≡ is_heading (get_or ps j no_piece).whose →
    Reach S start W ps → Reach S start W (set ps j x)
reach_set S start W ps j x h e R =
    let m : many (λ (y : Piece). is_heading y.whose) (set ps j x) ≡ many (λ (y : Piece). is_heading y.whose) ps =
    omega (arith, many_set (λ (y : Piece). is_heading y.whose) ps j x no_piece h, ap tick e) in
    record { begins = R.begins; low = rw m R.low; high = rw m R.high }

-- the slot among the pieces of an event's reservation, behind len others
pub record Taken (p event : ℕ) (bytes : List ℕ) (new : List Piece) (len : ℕ) (k k' : Work) : Type 0 where
  pub n : ℕ
  pub same : k'.event ≡ k.event
  pub place : k'.slot ≡ len + n
  pub there : n < length new
  pub alone : (i : ℕ) → i < length new → (get_or new i no_piece).whose ≡ slot → i ≡ n
  pub is : (get_or new n no_piece).whose ≡ slot
  pub of : (get_or new n no_piece).event ≡ event
  pub bytes_is : (get_or new n no_piece).bytes ≡ bytes
  pub who : (get_or new n no_piece).producer ≡ p
  pub notyet : (get_or new n no_piece).committed ≡ false

pub taken : (f : Fit) (p W S event : ℕ) (bytes : List ℕ) (len : ℕ) (k : Work) → Taken p event bytes (pieces f p W S event bytes) len k (placing f len k)
unfolding pieces placing
taken entering p W S event bytes len k =
    record { n = 1; same = refl; place = omega arith; there = omega arith; alone = alone; is = refl; of = refl; bytes_is = refl; who = refl; notyet = refl }
  where
    alone : (i : ℕ) → i < 2 → (get_or (pieces entering p W S event bytes) i no_piece).whose ≡ slot → i ≡ 1
    alone zero h s = absurd (head_slot s)
    alone (suc zero) h s = refl
    alone (suc (suc i)) h s = absurd (omega arith)
taken inside p W S event bytes len k =
    record { n = 0; same = refl; place = omega arith; there = omega arith; alone = λ i h s. omega arith; is = refl; of = refl; bytes_is = refl; who = refl; notyet = refl }
taken closing p W S event bytes len k =
    record { n = 2; same = refl; place = omega arith; there = omega arith; alone = alone; is = refl; of = refl; bytes_is = refl; who = refl; notyet = refl }
  where
    alone : (i : ℕ) → i < 3 → (get_or (pieces closing p W S event bytes) i no_piece).whose ≡ slot → i ≡ 2
    alone zero h s = absurd (pad_slot s)
    alone (suc zero) h s = absurd (head_slot s)
    alone (suc (suc zero)) h s = refl
    alone (suc (suc (suc i))) h s = absurd (omega arith)

-- ---- the counts

pub tally_set : (o w g w' g' : ℕ) (es : List Event) (i : ℕ) (e : Event) → i < length es → (get_or es i no_event).fate ≡ isopen → w' ≡ (w + tick (is_written e.fate)) % word →
    g' ≡ (g + tick (is_lost e.fate)) % word → Tally o w g es → Tally o w' g' (set es i e)
tally_set o w g w' g' es i e h f ew eg t =
    record {
      offers_is = rw length-set t.offers_is;
      writes_is = omega (arith, t.writes_is, many_set (λ (x : Event). is_written x.fate) es i e no_event h, ap (λ x. tick (is_written x)) f);
      losses_is = omega (arith, t.losses_is, many_set (λ (x : Event). is_lost x.fate) es i e no_event h, ap (λ x. tick (is_lost x)) f);
    }
