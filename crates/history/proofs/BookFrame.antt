-- What an entry of the book keeps: its slots, while they stay; each producer, each event and each slot, when one producer's record and
-- work are exchanged.
use Prim.Native.Nat.{ℕ, ◌<◌}
use mathlib.Core.Path.{◌≡◌, refl, sym, ap, ◌∙◌}
use mathlib.Core.Logic.{◌≢◌}
use mathlib.Core.Bool.{Bool, true, false, cond}
use mathlib.Core.List.{List}
use native.Mathlib.Omega.{arith}
use lib.ListN.{length, get_or, set}
use lib.Seq.{get_or-set_same, get_or-set_other}
use Rattle.layout.specs.Record.{record_of}
use Rattle.steps.specs.declared.producer.Producer.{Producer}
use Rattle.steps.specs.Producer.{nobody}
use Rattle.steps.specs.Step.{slot, swapping, row_of}
use Rattle.history.specs.Log.{isopen, written, Event, Piece, Work, no_piece, no_work, bytes_of}
use Rattle.history.proofs.Book.{Owns, Takes, no_event, Owner, Begun, Held, HasSlot, Slot}
use Rattle.history.proofs.Sums.{each_of}

pub open_written : isopen ≡ written → ⊥
open_written e = let z : ◌≡◌ {A = ℕ} 0 1 = cc in omega arith

-- an open piece's event is open, a committed one's is written
pub fate_open : (b : Bool) → cond b written isopen ≡ isopen → b ≡ false
fate_open true e = absurd (open_written (sym e))
fate_open false e = refl

-- what slots there are, and what they are, stays
pub record Stays (ps ps' : List Piece) : Type 0 where
  pub on : (j : ℕ) → j < length ps → (get_or ps j no_piece).whose ≡ slot → (j < length ps') × (get_or ps' j no_piece ≡ get_or ps j no_piece)
  pub back : (j : ℕ) → j < length ps' → (get_or ps' j no_piece).whose ≡ slot → (j < length ps) × (get_or ps' j no_piece ≡ get_or ps j no_piece)

pub stays : (ps : List Piece) → Stays ps ps
stays ps = record { on = λ j h s. (h, refl); back = λ j h s. (h, refl) }

pub slot_on : (i : ℕ) (ps ps' : List Piece) → Stays ps ps' → HasSlot i ps → HasSlot i ps'
slot_on i ps ps' s h =
    let n = s.on h.j h.there h.is in
    record { j = h.j; there = n.0; is = ap (λ x. x.whose) n.1 ∙ h.is; of = ap (λ x. x.event) n.1 ∙ h.of }

-- ---- a producer and its work, exchanged

module _ (qs : List Producer) (ks : List Work) (p : ℕ) (q' : Producer) (k' : Work) (lq : p < length qs) (lk : p < length ks) where
  pub each_pair {ℓ} : (Z : ℕ → Producer → Work → Type ℓ) → Z p q' k' → ((c : ℕ) → c ≢ p → Z c (get_or qs c nobody) (get_or ks c no_work)) →
      (c : ℕ) → Z c (get_or (set qs p q') c nobody) (get_or (set ks p k') c no_work)
  each_pair Z own other =
      each_of p (λ c. Z c (get_or (set qs p q') c nobody) (get_or (set ks p k') c no_work))
      (rw (get_or-set_same qs p q' nobody lq, get_or-set_same ks p k' no_work lk) own)
      (λ c ne. rw (get_or-set_other qs p c q' nobody ne, get_or-set_other ks p c k' no_work ne) (other c ne))

  -- who holds event i
  pub held_on : (i c : ℕ) → (Owns (get_or qs p nobody) → (get_or ks p no_work).event ≡ i → Owns q' × (k'.event ≡ i)) → Held i c qs ks → Held i c (set qs p q') (set ks p k')
  held_on i c on h = let x = go c h.owner h.its in record { owner = x.0; its = x.1 }
    where
      go : (c : ℕ) → Owns (get_or qs c nobody) → (get_or ks c no_work).event ≡ i → Owns (get_or (set qs p q') c nobody) × ((get_or (set ks p k') c no_work).event ≡ i)
      go = each_of p (λ c. Owns (get_or qs c nobody) → (get_or ks c no_work).event ≡ i → Owns (get_or (set qs p q') c nobody) × ((get_or (set ks p k') c no_work).event ≡ i))
          (λ a b. rw (get_or-set_same qs p q' nobody lq, get_or-set_same ks p k' no_work lk) (on a b))
          (λ c ne a b. rw (get_or-set_other qs p c q' nobody ne, get_or-set_other ks p c k' no_work ne) (a, b))

  -- a slot whose event stays what it was
  pub slot_stays : (j : ℕ) (x : Piece) (es es' : List Event) → (x.event < length es → x.event < length es') →
      (x.event < length es → get_or es' x.event no_event ≡ get_or es x.event no_event) →
      (x.committed ≡ false → x.producer ≡ p → Takes (get_or qs p nobody) → (get_or ks p no_work).slot ≡ j → Takes q' × (k'.slot ≡ j)) →
      Slot j x es qs ks → Slot j x es' (set qs p q') (set ks p k')
  slot_stays j x es es' long same on s =
      let e = same s.there in
      record {
        there = long s.there;
        bytes = s.bytes ∙ ap (λ y. bytes_of y) (sym e);
        who = s.who ∙ ap (λ y. y.rec.producer) (sym e);
        fate = ap (λ y. y.fate) e ∙ s.fate;
        mine = λ o. let m = s.mine o in go x.producer (on o) m.0 m.1;
      }
    where
      go : (c : ℕ) → (c ≡ p → Takes (get_or qs p nobody) → (get_or ks p no_work).slot ≡ j → Takes q' × (k'.slot ≡ j)) →
          Takes (get_or qs c nobody) → (get_or ks c no_work).slot ≡ j → Takes (get_or (set qs p q') c nobody) × ((get_or (set ks p k') c no_work).slot ≡ j)
      go = each_of p (λ c. (c ≡ p → Takes (get_or qs p nobody) → (get_or ks p no_work).slot ≡ j → Takes q' × (k'.slot ≡ j)) →
          Takes (get_or qs c nobody) → (get_or ks c no_work).slot ≡ j → Takes (get_or (set qs p q') c nobody) × ((get_or (set ks p k') c no_work).slot ≡ j))
          (λ f a b. rw (get_or-set_same qs p q' nobody lq, get_or-set_same ks p k' no_work lk) (f refl a b))
          (λ c ne f a b. rw (get_or-set_other qs p c q' nobody ne, get_or-set_other ks p c k' no_work ne) (a, b))

-- another producer, and its event
pub owner_on : (o : ℕ) (q : Producer) (k : Work) (write write' : ℕ) (es es' : List Event) → (k.event < length es → k.event < length es') →
    (k.event < length es → get_or es' k.event no_event ≡ get_or es k.event no_event) → (row_of q.phase ≡ swapping → write' ≡ q.w.0 → write ≡ q.w.0) →
    Owner o q k write es → Owner o q k write' es'
owner_on o q k write write' es es' long same stale w =
    record {
      there = long w.there;
      own = rw (same w.there) (record { fate = w.own.fate; who = w.own.who; long = w.own.long; told = λ s e. w.own.told s (stale s e); room = w.own.room });
    }

-- another that is busy with an event, the bytes of which stay
pub begun_on : (q : Producer) (k : Work) (es es' : List Event) → (k.event < length es → k.event < length es') →
    (k.event < length es → bytes_of (get_or es' k.event no_event) ≡ bytes_of (get_or es k.event no_event)) → Begun q k es → Begun q k es'
begun_on q k es es' long same b = record { there = long b.there; long = b.long ∙ ap length (sym (same b.there)) }

-- an event is exchanged for one with the same record
pub same_bytes : (es : List Event) (i : ℕ) (e' : Event) → i < length es → e'.rec ≡ (get_or es i no_event).rec → (j : ℕ) →
    bytes_of (get_or (set es i e') j no_event) ≡ bytes_of (get_or es j no_event)
same_bytes es i e' h rec =
    each_of i (λ j. bytes_of (get_or (set es i e') j no_event) ≡ bytes_of (get_or es j no_event))
    (rw (get_or-set_same es i e' no_event h) (ap (λ r. record_of r) rec)) (λ j ne. rw (get_or-set_other es i j e' no_event ne))
