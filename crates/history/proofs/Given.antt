-- What was said of a part that was delivered stays true.
use Prim.Native.Nat.{ℕ, ◌+◌, ◌*◌, ◌%◌, ◌<◌}
use mathlib.Core.Path.{◌≡◌, refl, sym, ap, ap₂, subst, ◌∙◌}
use mathlib.Core.Bool.{Bool, true, false, ◌&&◌}
use mathlib.Core.List.{List, ◌++◌, map}
use native.Mathlib.Decide.{ℕ_discrete}
use lib.ListN.{length, get_or, set, get_or-append}
use lib.Seq.{get_or-set_same, get_or-set_other}
use Rattle.counts.specs.Tests.{and_left, and_right}
use Rattle.counts.specs.Wrap.{word}
use Rattle.parts.specs.Part.{reads, decode_of, run_of}
use Rattle.parts.specs.Reading.{records, read_of}
use Rattle.layout.specs.Sizes.{header}
use Rattle.steps.specs.Step.{slot}
use Rattle.history.specs.Lists.{only, many}
use Rattle.history.specs.Log.{Event as Offer, is_written, is_slot, Piece, Log, no_piece, no_rec, offered, event_at, sizes}
use Rattle.history.specs.Promise.{is_written_slot, slots_in, lost_in}
use Rattle.history.proofs.Chain.{is-slot}
use Rattle.history.proofs.Contents.{in_part}
use Rattle.history.proofs.Settled.{Same, only_at, all_pass, map_same}

-- a delivered part, by the log alone
pub record Given (S : ℕ) (l : Log) (k : ℕ) (part : List ℕ) : Type 0 where
  pub decodes : decode_of part ≡ reads (k * S % word) (lost_in l k % word) (header + sizes (slots_in l k)) (length (slots_in l k))
  pub holds : read_of (run_of part) ≡ records (map (λ (x : Piece). (event_at l x.event).rec) (slots_in l k))
  pub whole : many (is_written_slot l) (slots_in l k) ≡ length (slots_in l k)

-- events keep their records, and a written one is written
pub record Kept (es es' : List Offer) : Type 0 where
  pub same : (i : ℕ) → i < length es → (get_or es' i (offered no_rec)).rec ≡ (get_or es i (offered no_rec)).rec
  pub wrote : (i : ℕ) → i < length es → is_written (get_or es i (offered no_rec)).fate ≡ true → is_written (get_or es' i (offered no_rec)).fate ≡ true

pub kept_none : (es : List Offer) → Kept es es
kept_none es = record { same = λ i h. refl; wrote = λ i h w. w }

pub kept_append : (es new : List Offer) → Kept es (es ++ new)
kept_append es new =
    record {
      same = λ i h. ap (λ (e : Offer). e.rec) (get_or-append es new (offered no_rec) i h);
      wrote = λ i h w. ap (λ (e : Offer). is_written e.fate) (get_or-append es new (offered no_rec) i h) ∙ w;
    }

pub kept_set : (es : List Offer) (j : ℕ) (e : Offer) → e.rec ≡ (get_or es j (offered no_rec)).rec → (is_written (get_or es j (offered no_rec)).fate ≡ true → is_written e.fate ≡ true) → Kept es (set es j e)
kept_set es j e r w = record { same = λ i h. same i (ℕ_discrete i j) h; wrote = λ i h v. wrote i (ℕ_discrete i j) h v }
  where
    same : (i : ℕ) → Dec (i ≡ j) → i < length es → (get_or (set es j e) i (offered no_rec)).rec ≡ (get_or es i (offered no_rec)).rec
    same i (yes c) h = rw c (ap (λ (y : Offer). y.rec) (get_or-set_same es j e (offered no_rec) (subst (λ n. n < length es) c h)) ∙ r)
    same i (no ne) h = ap (λ (y : Offer). y.rec) (get_or-set_other es j i e (offered no_rec) ne)

    wrote : (i : ℕ) → Dec (i ≡ j) → i < length es → is_written (get_or es i (offered no_rec)).fate ≡ true → is_written (get_or (set es j e) i (offered no_rec)).fate ≡ true
    wrote i (yes c) h v =
        rw c (ap (λ (y : Offer). is_written y.fate) (get_or-set_same es j e (offered no_rec) (subst (λ n. n < length es) c h)) ∙ w (subst (λ n. is_written (get_or es n (offered no_rec)).fate ≡ true) c v))
    wrote i (no ne) h v = ap (λ (y : Offer). is_written y.fate) (get_or-set_other es j i e (offered no_rec) ne) ∙ v

both_so : (a b : Bool) → a ≡ true → b ≡ true → (a && b) ≡ true
both_so true b e f = f
both_so false b e f = e

-- ---- it stays

module _ (S : ℕ) (l l' : Log) (k : ℕ) (part : List ℕ) (same : Same k l.pieces l'.pieces) (events : Kept l.events l'.events)
    (there : (j : ℕ) → j < length l.pieces → (get_or l.pieces j no_piece).whose ≡ slot → (get_or l.pieces j no_piece).event < length l.events) where
  -- the events of its slots
  event_there : (i : ℕ) → i < length (only (in_part k) l.pieces) → (get_or (only (in_part k) l.pieces) i no_piece).event < length l.events
  event_there i h =
      let c = only_at (in_part k) l.pieces no_piece i h in
      subst (λ (x : Piece). x.event < length l.events) c.is (there c.j c.there (ap (λ (x : Piece). x.whose) c.is ∙ is-slot _ (and_left (is_slot (get_or (only (in_part k) l.pieces) i no_piece).whose) _ c.passes)))

  pub given_on : Given S l k part → Given S l' k part
  unfolding slots_in lost_in
  given_on g =
      record {
        decodes = g.decodes ∙ ap₂ (λ (n : ℕ) (ps : List Piece). reads (k * S % word) (n % word) (header + sizes ps) (length ps)) (ap (λ (ps : List Piece). (get_or ps 0 no_piece).lost) (sym same.heads)) (sym same.slots);
        holds = g.holds ∙ ap records (sym (map_same (λ (x : Piece). (event_at l' x.event).rec) (λ (x : Piece). (event_at l x.event).rec) (only (in_part k) l.pieces) no_piece
            (λ i h. events.same _ (event_there i h)))) ∙ ap (λ (ps : List Piece). records (map (λ (x : Piece). (event_at l' x.event).rec) ps)) (sym same.slots);
        whole = rw same.slots (all_pass (is_written_slot l) (is_written_slot l') (only (in_part k) l.pieces) no_piece (λ i h t. both_so _ _ (and_left (is_slot (get_or (only (in_part k) l.pieces) i no_piece).whose) _ t) (events.wrote _ (event_there i h) (and_right (is_slot (get_or (only (in_part k) l.pieces) i no_piece).whose) _ t))) g.whole);
      }
