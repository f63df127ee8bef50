-- The whole invariant, of a moment, and that every accepted call keeps the part that speaks of memory.
use Prim.Native.Nat.{ℕ, ◌<◌}
use mathlib.Core.Path.{◌≡◌, sym, ap, ◌∙◌}
use mathlib.Core.Logic.{◌≢◌}
use mathlib.Core.Bool.{true, false}
use mathlib.Core.List.{[], ◌∷◌}
use lib.Dec.{T}
use lib.ListN.{get_or-append}
use lib.Seq.{get_or-set_other}
use Rattle.counts.specs.Position.{plus_of}
use Rattle.counts.specs.Wrap.{add32}
use Rattle.layout.specs.Record.{Rec}
use Rattle.ring.specs.declared.state.Ring.{Ring}
use Rattle.ring.specs.State.{at}
use Rattle.ring.specs.World.{World, Call, offer, flush, step, get, put, code_of}
use Rattle.history.specs.Log.{Event as Offer, Work, Log, no_rec, no_work, offered, work_at, event_at, bytes_of, note_offer}
use Rattle.history.specs.History.{note_call}
use Rattle.history.proofs.Accepted.{done, offer_ok, flush_ok, step_ok}
use Rattle.history.proofs.BookGood.{told, true_core, true_bytes, Whole}
use Rattle.history.proofs.Ground.{records, Ground}
use Rattle.history.proofs.GroundCalls.{step_ground, get_ground, put_ground, flush_ground, offer_ground}
use Rattle.history.proofs.Invariant.{says_of, Event}

-- ---- memory, call by call

abbrev pub GroundAt : World → Log → Type 0
GroundAt w l = Ground w.ring l w.memory w.desks

-- an offer of p leaves the records of the others
others_records : (r : Ring) (l : Log) (p : ℕ) (rec : Rec) → Whole r l → (o : ℕ) → o ≢ p → Event (at r o) → T (says_of (at r o)).busy → o < r.producers →
    records l o ≡ records (note_offer p rec l) o
unfolding note_offer
others_records r l p rec W o ne ev u h =
    ap (λ (e : Offer). bytes_of e) (sym (get_or-append l.events (offered rec ∷ []) (offered no_rec) (work_at l o).event (W.book.entries.begun o h ev u).there))
    ∙ ap (λ (k : Work). bytes_of (event_at (note_offer p rec l) k.event)) (sym (get_or-set_other l.works p o _ no_work ne))

pub call_ground : (w : World) (c : Call) (l : Log) → code_of w c ≡ 0 → Whole w.ring l → GroundAt w l → GroundAt (done w c) (note_call w c l)
unfolding code_of note_call
call_ground w (offer p kind payload) l ok W G =
    let o = offer_ok w.ring p _ _ ok in
    offer_ground w.ring (add32 w.ring.offered 1) l W.good.truth W.good.core w.memory w.desks p kind payload o.below o.short
    (λ c h ne u ev. others_records w.ring l p (record { kind = kind; producer = p; payload = payload }) W c ne ev u h) G
call_ground w (flush p) l ok W G = let o = flush_ok w.ring p ok in flush_ground w.ring l W.good.truth W.good.core w.memory w.desks p o.below G
call_ground w (step p) l ok W G =
    let s = step_ok w.ring p _ _ ok in
    let t = W.good.truth in
    let I = W.good.core in
    step_ground w.ring l (told w.ring l t p s.below I W.book) p s.below s.fits (true_core w.ring l t p s.below I W.book) W.good.keep w.memory w.desks G
    (λ ev. true_bytes w.ring l t p s.below I W.book) W.book.tally.losses_is
call_ground w get l ok W G = get_ground w.ring l w.memory w.desks _ true G
call_ground w put l ok W G = put_ground w.ring l w.memory w.desks false (plus_of w.ring.read w.ring.size) G
