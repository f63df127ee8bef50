-- The promise tried: on closed histories, on wrong worlds and on machines with the errors to shut out, all by computation.
use mathlib.Core.List.{flatten}
use mathlib.Core.Path.{refl}
use Rattle.counts.specs.Commit.{on_of, past_of, round_of, raises_of, ready_of}
use Rattle.counts.specs.Place.{fit_of, slot_of, placed, place_of, full_of}
use Rattle.counts.specs.Position.{plus_of, since_of, start_of, left_of, next_of, byte_of, part_of, to_commit_of}
use Rattle.counts.specs.Shape.{size_of, parts_of, producers_of, shape_of}
use Rattle.counts.specs.Wrap.{add32, sub32}
use Rattle.layout.specs.Bytes.{word2, word4}
use Rattle.layout.specs.Header.{opened, used_set, marked}
use Rattle.parts.specs.Part.{decode_of, run_of}
use Rattle.parts.specs.Reading.{first_of, reads, read_of}
use Rattle.layout.specs.Record.{record_of, laid_on}
use Rattle.layout.specs.Sizes.{header, head, version, record_size, least_used, last_producer}
use Rattle.steps.specs.Bytes.{put as putBytes, over, copy_into, bytes_by}
use Rattle.steps.specs.Fits.{phase_fits, fits_of}
use Rattle.steps.specs.Producer.{place_at}
use Rattle.steps.specs.Rows.{read_row, judge_row, swap_row, add_row, look_row, see_row, set_row, chunk_of, write_row}
use Rattle.steps.specs.Step.{row_of, commit_by, moved_by, step_by, part_at}
use Rattle.ring.specs.Calls.{fresh_of, offer_of, offer_bytes, flush_of, stepped, step_of, step_bytes, get_of, put_of, span_of, held_of}
use Rattle.ring.specs.Refusals.{known_of, fresh_refusal, offer_refusal, flush_refusal, step_refusal, get_refusal, put_refusal}
use Rattle.ring.specs.World.{code_of, after}
use Rattle.history.specs.History.{note_row, note_call, next, ends, fresh}
use Rattle.history.specs.Lists.{only, EachFrom, sum_by}
use Rattle.history.specs.Log.{entered, all_occupied, too_short, note_offer, note_flush, note_judge, note_fate, pieces, placing, note_reserved, note_slot, note_pad, note_open, note_add, note_get, note_put}
use Rattle.history.specs.Promise.{written_slots, remaining, records_in, bytes_in, slots_in, lost_in}
use Rattle.history.proofs.Decided.{numbers, answers, both, unless, where_so, lists, each, recs, runs, readings, fates, losses, counts, once, stand, delivered, parts, held, promise, refutes}
use Rattle.history.proofs.Errors.{ready_by_commit, untouched, loss_unconfirmed, stale, opener_clears, opened_late, end_late, end_missed, full_remembered, smaller, end_by, AllErrors, AllOurs}
use Rattle.history.proofs.Histories.{worked, waiting, resumed, confirmed, unconfirmed, flushed, wrapped, AllTried}
use Rattle.history.proofs.Machines.{ours, ends_by}
use Rattle.history.proofs.WrongWorlds.{forgotten, lost_with_room, uncounted, twice, disordered, again, empty_slot, disturbed, AllWrong}

-- the four tables, computed; the definitions that they compute by are named once
trials : AllTried × AllWrong × AllErrors × AllOurs
unfolding flatten on_of past_of round_of raises_of ready_of fit_of slot_of placed place_of full_of plus_of since_of start_of left_of next_of
    byte_of part_of to_commit_of size_of parts_of producers_of shape_of add32 sub32 word2 word4 opened used_set marked decode_of run_of first_of
    reads read_of record_of laid_on header head version record_size least_used last_producer putBytes over copy_into bytes_by phase_fits fits_of
    place_at read_row judge_row swap_row add_row look_row see_row set_row chunk_of write_row row_of commit_by moved_by step_by part_at fresh_of
    offer_of offer_bytes flush_of stepped step_of step_bytes get_of put_of span_of held_of known_of fresh_refusal offer_refusal flush_refusal
    step_refusal get_refusal put_refusal code_of after note_row note_call next ends fresh only EachFrom sum_by entered all_occupied too_short
    note_offer note_flush note_judge note_fate pieces placing note_reserved note_slot note_pad note_open note_add note_get note_put written_slots
    remaining records_in bytes_in slots_in lost_in numbers answers both unless where_so lists each recs runs readings fates losses counts
    once stand delivered parts held promise ends_by
trials = (
  (
    (refl, (promise worked).yes refl),
    (refl, (promise waiting).yes refl),
    (refl, (promise resumed).yes refl),
    (refl, (promise confirmed).yes refl),
    (refl, (promise unconfirmed).yes refl),
    (refl, (promise flushed).yes refl),
    (refl, (promise wrapped).yes refl),
  ),
  (
    refutes (fates forgotten) refl,
    refutes (losses lost_with_room) refl,
    refutes (counts uncounted) refl,
    refutes (once twice) refl,
    refutes (stand disordered) refl,
    refutes (stand again) refl,
    refutes (parts empty_slot) refl,
    refutes (held disturbed) refl,
  ),
  (
    refutes (parts (end_by ready_by_commit untouched)) refl,
    refutes (losses (end_by loss_unconfirmed stale)) refl,
    refutes (parts (end_by opener_clears opened_late)) refl,
    refutes (parts (end_by end_late end_missed)) refl,
    refutes (losses (end_by full_remembered smaller)) refl,
  ),
  (
    (promise (end_by ours untouched)).yes refl,
    (promise (end_by ours stale)).yes refl,
    (promise (end_by ours opened_late)).yes refl,
    (promise (end_by ours end_missed)).yes refl,
    (promise (end_by ours smaller)).yes refl,
  ),
)

-- the promise holds of each closed history
pub tried : AllTried
tried = trials.0

-- each clause refuses a wrong world
pub wrong : AllWrong
wrong = trials.1

-- each of the five errors breaks a clause, after a history of which our machine keeps the promise
pub errors : AllErrors
errors = trials.2

pub no_errors : AllOurs
no_errors = trials.3
