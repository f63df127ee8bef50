-- The five errors to shut out (document 01), each as a machine that differs from ours in one place, and a history that shows it.
use mathlib.Core.Bool.{Bool, true, cond, ◌&&◌, ◌||◌, not}
use mathlib.Core.List.{List, [], ◌∷◌, ◌++◌}
use lib.Dec.{eqb}
use lib.ListN.{replicate}
use Rattle.counts.specs.Commit.{round_of}
use Rattle.counts.specs.Position.{byte_of, part_of}
use Rattle.counts.specs.Wrap.{add32}
use Rattle.layout.specs.Header.{opened, used_set}
use Rattle.steps.specs.declared.producer.Producer.{Producer}
use Rattle.steps.specs.Bytes.{over, bytes_by}
use Rattle.steps.specs.Producer.{flushing, to_phase, with_full, place_at}
use Rattle.steps.specs.Rows.{judge_row, swapped, add_row, write_row}
use Rattle.steps.specs.Step.{moved, take_swap, take_add, moved_by}
use Rattle.ring.specs.State.{at, commit_at}
use Rattle.ring.specs.World.{Call, offer, get, put}
use Rattle.history.specs.Log.{lost, note_fate}
use Rattle.history.specs.History.{Moment, note_row, fresh}
use Rattle.history.specs.Promise.{Losses, Parts, Promise}
use Rattle.history.proofs.Histories.{run, event, interrupted, filled}
use Rattle.history.proofs.Machines.{Machine, ours, ends_by}

-- ---- taking commit mod S = 0 alone as ready

abbrev pub ready_by_commit : Machine
ready_by_commit = record { moves = moved_by; bytes = bytes_by; notes = note_row; ready = λ r. round_of (commit_at r (part_of r.read r.size r.parts)) r.size }

-- an untouched sub-buffer looks full
abbrev pub untouched : List Call
untouched = get ∷ []

-- ---- counting a loss without the second look at the write count

-- at swap (phase 3), judged full
abbrev loses : Producer → Bool
loses q = eqb q.phase 3 && (q.full && not (flushing q))

abbrev pub loss_unconfirmed : Machine
loss_unconfirmed =
    record {
      moves = λ x q sh S N. cond (loses q) (take_swap (swapped (to_phase 0 q) sh.write (add32 sh.lost 1)) sh) (moved_by x q sh S N);
      bytes = bytes_by;
      notes = λ x r p l. cond (loses (at r p)) (note_fate p lost l) (note_row x r p l);
      ready = ours.ready;
    }

-- the part that w was read in is filled, delivered and put back before the judge looks: w is behind the read count
abbrev pub stale : List Call
stale = offer 0 1 (replicate 4 1) ∷ run 0 1 ++ event 1 2 44 ++ get ∷ put ∷ [] ++ run 0 2

-- ---- an opener that clears the used size after a closer wrote it

abbrev pub opener_clears : Machine
opener_clears =
    record {
      moves = moved_by;
      bytes = λ x q p lost S N ring desks.
          cond (eqb q.phase 9) (over ring (byte_of (place_at q S).t S N) S (λ l. used_set (opened l (place_at q S).t.0 lost) 0)) (bytes_by x q p lost S N ring desks);
      notes = note_row;
      ready = ours.ready;
    }

-- interrupted at open; others fill its part and close it
abbrev pub opened_late : List Call
opened_late = interrupted ++ run 0 40 ++ get ∷ []

-- ---- committing z before the used size is written at the end step

-- the last write (14) goes to the slot's add (16), that to end (15), and that to look (17)
abbrev pub end_late : Machine
end_late =
    record {
      moves = λ x q sh S N.
          cond (eqb q.phase 14) (moved (let n = write_row q S in cond (eqb n.phase 15) (to_phase 16 n) n) sh)
          (cond (eqb q.phase 16) (take_add (add_row (cond (place_at q S).ends 15 17) q.z true q sh.commit sh.written) sh)
          (cond (eqb q.phase 15) (moved (to_phase 17 q) sh) (moved_by x q sh S N)));
      bytes = bytes_by;
      notes = note_row;
      ready = ours.ready;
    }

-- producer 1 has added and not looked yet; 0 adds the rest of the part, and 1 finds it complete
abbrev pub end_missed : List Call
end_missed = offer 1 2 (replicate 4 2) ∷ run 1 8 ++ offer 0 1 (replicate 36 1) ∷ run 0 9 ++ run 1 4 ++ get ∷ []

-- ---- remembering full

-- full, once an event was lost
abbrev pub full_remembered : Machine
full_remembered =
    record {
      moves = λ x q sh S N.
          cond (eqb q.phase 2) (moved (let n = judge_row q sh.read S N in with_full (n.full || not (eqb sh.lost 0)) n) sh) (moved_by x q sh S N);
      bytes = bytes_by;
      notes = note_row;
      ready = ours.ready;
    }

-- a loss, and then a smaller event that fits the current sub-buffer
abbrev pub smaller : List Call
smaller = filled ++ event 0 3 40 ++ event 0 4 2

-- ---- a clause of the promise fails after each, and all of it holds of our machine after the same history

abbrev pub end_by : Machine → List Call → Moment
end_by M h = ends_by M (fresh 64 2 3 0 (replicate 128 7) (replicate 192 7)) h

abbrev pub AllErrors : Type 0
AllErrors =
    (Parts (end_by ready_by_commit untouched) → ⊥)
    × (Losses (end_by loss_unconfirmed stale) → ⊥)
    × (Parts (end_by opener_clears opened_late) → ⊥)
    × (Parts (end_by end_late end_missed) → ⊥)
    × (Losses (end_by full_remembered smaller) → ⊥)

abbrev pub AllOurs : Type 0
AllOurs =
    Promise (end_by ours untouched) × Promise (end_by ours stale) × Promise (end_by ours opened_late) × Promise (end_by ours end_missed) × Promise (end_by ours smaller)
